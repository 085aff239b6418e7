-- What the words that are left have to be, for what is open and what comes next.
use Rattle.std.proofs.Common.{◌≡◌, ℕ, suc, ◌+◌, ◌≤◌, false, List, [], ◌∷◌, ◌++◌, Option, Some, None, Ok, Err}
use Rattle.std.specs.Prelude.{⊤}
use Rattle.bv_bits.specs.Bits.{IsWidth}
use Rattle.sail_syntax.specs.Tree.{Text, Case, Step}
use Rattle.sail_syntax.specs.Program.{Definition}
use Rattle.sail_syntax.specs.declared.tree.Infix.TheVariants as between
use Rattle.sail_syntax.specs.declared.types.Ty.{Ty}
use Rattle.sail_syntax.specs.declared.types.Param.{Param}
use Rattle.sail_syntax.specs.declared.patterns.Part.{Part}
use Rattle.sail_syntax.specs.declared.patterns.Pattern.TheVariants as pattern
use Rattle.sail_grammar.specs.declared.keyword.Keyword.TheVariants as kw
use Rattle.sail_grammar.specs.declared.mark.Mark.TheVariants as m
use Rattle.sail_grammar.specs.declared.word.Word.{Word}
use Rattle.sail_grammar.specs.Words as words
use Rattle.sail_grammar.specs.Words.{Words, the, its, named, joining}
use Rattle.sail_grammar.specs.Expressions.{SpellsType, SpellsWritten, SpellsIndex, SpellsPart, SpellsParts, SpellsPattern, SpellsStatement, SpellsArm}
use Rattle.sail_grammar.specs.Definitions.{SpellsNames, SpellsTypes, SpellsParams, SpellsTypeList, SpellsParamList, is_register, is_enum, is_a_function}
use Rattle.sail_machine.specs.declared.heads.Binder.{Binder}
use Rattle.sail_machine.specs.declared.heads.EnumHead.{EnumHead}
use Rattle.sail_machine.specs.declared.heads.ValHead.{ValHead}
use Rattle.sail_machine.specs.declared.heads.FunctionHead.{FunctionHead}
use Rattle.sail_machine.specs.declared.awaited.Await.{Await}
use Rattle.sail_machine.specs.declared.awaited.Await.TheVariants as a
use Rattle.sail_machine.specs.declared.awaited.Fixed.{Fixed}
use Rattle.sail_machine.specs.declared.awaited.Fixed.TheVariants as fixed
use Rattle.sail_machine.specs.declared.awaited.Naming.{Naming}
use Rattle.sail_machine.specs.declared.awaited.Naming.TheVariants as naming
use Rattle.sail_machine.specs.declared.awaited.Counting.{Counting}
use Rattle.sail_machine.specs.declared.awaited.Counting.TheVariants as counting
use Rattle.sail_machine.specs.declared.awaited.Sized.{Sized}
use Rattle.sail_machine.specs.declared.awaited.Sized.TheVariants as sized
use Rattle.sail_machine.specs.declared.awaited.TypeUse.{TypeUse}
use Rattle.sail_machine.specs.declared.awaited.TypeUse.TheVariants as typing
use Rattle.sail_machine.specs.declared.awaited.IndexUse.{IndexUse}
use Rattle.sail_machine.specs.declared.awaited.IndexUse.TheVariants as index
use Rattle.sail_machine.specs.Frames as f
use Rattle.sail_machine.specs.Frames.{Frames, Mode, awaits, have, whole, nest}
use Rattle.sail_machine.specs.Turns.{Turn}
use Rattle.sail_machine.proofs.Complete.{NotChain}
use Rattle.sail_machine.proofs.Rests.{left, below, binder_word, widen_word, HasPlace, Definitions, Program, Fits, Ended, Taken}

-- a type is spelled at each depth that has room for a bracket
abbrev pub IsTypeIn : Words → Ty → Words → Type 0
IsTypeIn us t r = (n : ℕ) → SpellsType (suc n) us t r

-- a name, or `_`, in a pattern
abbrev pub part_first : Option Text → ℕ → Word
part_first (Some x) p = named x p
part_first None p = the kw.Wildcard p

module _ (D : List Definition) where
  -- ---- definitions

  -- members, behind those that were read
  abbrev pub Members : Frames → EnumHead → Words → Type 0
  Members k h ts = HasPlace is_enum k → (us : Words) (q s t : ℕ) → ((xs : List Text) (r : Words) → SpellsNames ts xs r → SpellsNames us (h.members ++ xs) r)
      → Definitions D k (the kw.Enum h.at ∷ named h.name q ∷ its m.Equals s ∷ its m.OpenBrace t ∷ us)

  -- argument types, behind those that were read
  abbrev pub Arguments : Frames → ValHead → Words → Type 0
  Arguments k h ts = (us : Words) (q s o : ℕ) → ((all : List Ty) (r : Words) → SpellsTypes 127 ts all r → SpellsTypes 127 us (h.args ++ all) r)
      → Definitions D k (the kw.Val h.at ∷ named h.name q ∷ its m.Colon s ∷ its m.Open o ∷ us)

  -- parameters, behind those that were read
  abbrev pub Params : Frames → FunctionHead → Words → Type 0
  Params k h ts = HasPlace is_a_function k → (us : Words) (q o : ℕ) → ((all : List Param) (r : Words) → SpellsParams 127 ts all r → SpellsParams 127 us (h.params ++ all) r)
      → Definitions D k (the kw.Function h.at ∷ named h.name q ∷ its m.Open o ∷ us)

  -- a type
  abbrev pub Typed : Frames → TypeUse → Words → Type 0
  Typed k (typing.Argument h) ts = Arguments k h ts
  Typed k (typing.Answer h) ts = (us : Words) (q s t : ℕ) → SpellsTypeList 128 us h.args (its m.Arrow t ∷ ts) → Definitions D k (the kw.Val h.at ∷ named h.name q ∷ its m.Colon s ∷ us)
  Typed k (typing.Param h x) ts = (p c : ℕ) → Params k h (named x p ∷ its m.Colon c ∷ ts)
  Typed k (typing.Returned h) ts = HasPlace is_a_function k → (us : Words) (q t : ℕ) → SpellsParamList 128 us h.params (its m.Arrow t ∷ ts) → Definitions D k (the kw.Function h.at ∷ named h.name q ∷ us)
  Typed k (typing.Local b x) ts = (at q s : ℕ) → Fits D k (binder_word b at ∷ named x q ∷ its m.Colon s ∷ ts)

  -- ---- patterns, indices, widths

  -- a pattern, or the rest of one behind these parts
  abbrev pub Patterns : Frames → List Part → Words → Type 0
  Patterns k [] ts = Fits D k ts
  Patterns k (b ∷ ps) ts = (us : Words) → ((all : List Part) (r : Words) (q : ℕ) → SpellsParts (left k) ts all (its m.FatArrow q ∷ r) → SpellsPattern (left k) us (pattern.Parts (b ∷ (ps ++ all))) (its m.FatArrow q ∷ r))
      → Fits D k us

  -- an index
  abbrev pub Indices : Frames → IndexUse → Words → Type 0
  Indices k index.High ts = Fits D k ts
  Indices k (index.Low hi) ts = (us : Words) (s : ℕ) → SpellsIndex us hi (its m.Dots s ∷ ts) → Fits D k us
  Indices k index.WithHigh ts = Fits D k ts
  Indices k (index.WithLow hi) ts = (us : Words) (s : ℕ) → SpellsIndex us hi (its m.Dots s ∷ ts) → Fits D k us

  -- `bits` and a width
  abbrev pub Widths : Frames → Sized → Words → Type 0
  Widths k (sized.Register x p) ts = HasPlace is_register k → (q s : ℕ) → Definitions D k (the kw.Register p ∷ named x q ∷ its m.Colon s ∷ ts)
  Widths k (sized.Type u) ts = Typed k u ts
  Widths k (sized.Part ps who) ts = (p q : ℕ) → Patterns k ps (part_first who p ∷ its m.Colon q ∷ ts)
  Widths k sized.Widening ts = ⊤

  -- the type of a local, if one is written, has been read
  abbrev pub Written : Frames → Binder → Text → Option Ty → Words → Type 0
  Written k b x t ts = (us : Words) (at q : ℕ) → SpellsWritten (left k) us t ts → Fits D k (binder_word b at ∷ named x q ∷ us)

  -- ---- what is awaited

  abbrev pub AwaitsFixed : Frames → Fixed → Words → Type 0
  AwaitsFixed k fixed.OrderWord ts = (p : ℕ) → Program D k (the kw.Default p ∷ ts)
  AwaitsFixed k fixed.OrderEnd ts = (p q : ℕ) → Program D k (the kw.Default p ∷ the kw.Order q ∷ ts)
  AwaitsFixed k (fixed.RegisterColon x p) ts = HasPlace is_register k → (q : ℕ) → Definitions D k (the kw.Register p ∷ named x q ∷ ts)
  AwaitsFixed k (fixed.BitsWord z) ts = Widths k z ts
  AwaitsFixed k (fixed.BitsOpen z) ts = (p : ℕ) → Widths k z (the kw.Bits p ∷ ts)
  AwaitsFixed k (fixed.BitsClose z w) ts = nest k + 1 ≤ 128 → IsWidth w → (p q s : ℕ) → Widths k z (the kw.Bits p ∷ its m.Open q ∷ words.counted w s ∷ ts)
  AwaitsFixed k (fixed.EnumEquals x p) ts = HasPlace is_enum k → (q : ℕ) → Definitions D k (the kw.Enum p ∷ named x q ∷ ts)
  AwaitsFixed k (fixed.EnumOpen x p) ts = HasPlace is_enum k → (q s : ℕ) → Definitions D k (the kw.Enum p ∷ named x q ∷ its m.Equals s ∷ ts)
  AwaitsFixed k (fixed.ValColon x p) ts = (q : ℕ) → Definitions D k (the kw.Val p ∷ named x q ∷ ts)
  AwaitsFixed k (fixed.ValOpen x p) ts = (q s : ℕ) → Definitions D k (the kw.Val p ∷ named x q ∷ its m.Colon s ∷ ts)
  AwaitsFixed k (fixed.ValArrow h) ts = (us : Words) (q s : ℕ) → SpellsTypeList 128 us h.args ts → Definitions D k (the kw.Val h.at ∷ named h.name q ∷ its m.Colon s ∷ us)
  AwaitsFixed k (fixed.FunctionOpen x p) ts = HasPlace is_a_function k → (q : ℕ) → Definitions D k (the kw.Function p ∷ named x q ∷ ts)
  AwaitsFixed k (fixed.ParamColon h x) ts = (p : ℕ) → Params k h (named x p ∷ ts)
  AwaitsFixed k (fixed.FunctionArrow h) ts = HasPlace is_a_function k → (us : Words) (q : ℕ) → SpellsParamList 128 us h.params ts → Definitions D k (the kw.Function h.at ∷ named h.name q ∷ us)
  AwaitsFixed k (fixed.FunctionEquals h t) ts = HasPlace is_a_function k → (us vs : Words) (q s : ℕ) → SpellsParamList 128 us h.params (its m.Arrow s ∷ vs) → SpellsType 128 vs t ts
      → Definitions D k (the kw.Function h.at ∷ named h.name q ∷ us)
  AwaitsFixed k (fixed.FlipOpen p) ts = Fits D k (its m.Tilde p ∷ ts)
  AwaitsFixed k (fixed.WidenOpen signed p) ts = Fits D k (widen_word signed p ∷ ts)
  AwaitsFixed k (fixed.WidenComma w) ts = IsWidth w → (s : ℕ) → Fits D k (words.counted w s ∷ ts)
  AwaitsFixed k (fixed.AssertOpen p) ts = Fits D k (the kw.Assert p ∷ ts)
  AwaitsFixed k (fixed.AssertClose z) ts = (t : ℕ) → Fits D k (words.quoted z t ∷ ts)
  AwaitsFixed k (fixed.ExitOpen p) ts = Fits D k (the kw.Exit p ∷ ts)
  AwaitsFixed k (fixed.ExitClose p) ts = nest k + 1 ≤ 128 → (q : ℕ) → Fits D k (the kw.Exit p ∷ its m.Open q ∷ ts)
  AwaitsFixed k (fixed.EachOpen p) ts = NotChain k → Fits D k (the kw.Foreach p ∷ ts)
  AwaitsFixed k (fixed.EachFrom x p) ts = NotChain k → nest k + 1 ≤ 128 → (q s : ℕ) → Fits D k (the kw.Foreach p ∷ its m.Open q ∷ named x s ∷ ts)
  AwaitsFixed k (fixed.EachTo x i p) ts = NotChain k → nest k + 1 ≤ 128 → i ≤ 127 → (q s t e : ℕ)
      → Fits D k (the kw.Foreach p ∷ its m.Open q ∷ named x s ∷ the kw.From t ∷ words.counted i e ∷ ts)
  AwaitsFixed k (fixed.EachClose x i j p) ts = NotChain k → nest k + 1 ≤ 128 → i ≤ 127 → j ≤ 127 → (q s t e e' u : ℕ)
      → Fits D k (the kw.Foreach p ∷ its m.Open q ∷ named x s ∷ the kw.From t ∷ words.counted i e ∷ the kw.To e' ∷ words.counted j u ∷ ts)
  AwaitsFixed k (fixed.EachBlock x i j p) ts = Fits D (f.looping x i j p ∷ k) ts
  AwaitsFixed k (fixed.LocalEquals b x t) ts = Written k b x (Some t) ts
  AwaitsFixed k (fixed.Arrow pt) ts = (us : Words) → SpellsPattern (left k) us pt ts → Fits D k us
  AwaitsFixed k (fixed.IndexEnd u i) ts = (us : Words) → SpellsIndex us i ts → Indices k u us

  abbrev pub AwaitsNumber : Frames → Counting → Words → Type 0
  AwaitsNumber k (counting.Width (sized.Register x p)) ts = nest k + 1 ≤ 128 → (q s : ℕ) → Widths k (sized.Register x p) (the kw.Bits q ∷ its m.Open s ∷ ts)
  AwaitsNumber k (counting.Width (sized.Type u)) ts = nest k + 1 ≤ 128 → (q s : ℕ) → Widths k (sized.Type u) (the kw.Bits q ∷ its m.Open s ∷ ts)
  AwaitsNumber k (counting.Width (sized.Part ps who)) ts = nest k + 1 ≤ 128 → (q s : ℕ) → Widths k (sized.Part ps who) (the kw.Bits q ∷ its m.Open s ∷ ts)
  AwaitsNumber k (counting.Width sized.Widening) ts = Fits D k ts
  AwaitsNumber k (counting.First x p) ts = NotChain k → nest k + 1 ≤ 128 → (q s t : ℕ) → Fits D k (the kw.Foreach p ∷ its m.Open q ∷ named x s ∷ the kw.From t ∷ ts)
  AwaitsNumber k (counting.Last x i p) ts = NotChain k → nest k + 1 ≤ 128 → i ≤ 127 → (q s t e e' : ℕ)
      → Fits D k (the kw.Foreach p ∷ its m.Open q ∷ named x s ∷ the kw.From t ∷ words.counted i e ∷ the kw.To e' ∷ ts)
  AwaitsNumber k (counting.Plus u x) ts = (p q : ℕ) → Indices k u (named x p ∷ joining between.Add q ∷ ts)

  abbrev pub AwaitsName : Frames → Naming → Words → Type 0
  AwaitsName k (naming.Register p) ts = HasPlace is_register k → Definitions D k (the kw.Register p ∷ ts)
  AwaitsName k (naming.Enum p) ts = HasPlace is_enum k → Definitions D k (the kw.Enum p ∷ ts)
  AwaitsName k (naming.Val p) ts = Definitions D k (the kw.Val p ∷ ts)
  AwaitsName k (naming.Function p) ts = HasPlace is_a_function k → Definitions D k (the kw.Function p ∷ ts)
  AwaitsName k (naming.Member h) ts = Members k h ts
  AwaitsName k (naming.Param h) ts = Params k h ts
  AwaitsName k (naming.Each p) ts = NotChain k → nest k + 1 ≤ 128 → (q : ℕ) → Fits D k (the kw.Foreach p ∷ its m.Open q ∷ ts)
  AwaitsName k (naming.Local b) ts = (at : ℕ) → Fits D k (binder_word b at ∷ ts)

  -- an expression, or the bracket behind none
  abbrev pub Inside : Frames → Words → Type 0
  Inside (f.paren p ∷ k) ts = Fits D (f.paren p ∷ k) ts
  Inside (f.args g [] p ∷ k) ts = nest k + 1 ≤ 128 → (q : ℕ) → Fits D k (named g p ∷ its m.Open q ∷ ts)
  Inside _ ts = ⊤

  -- a statement, or the brace
  abbrev pub Statements : Frames → Option ℕ → Words → Type 0
  Statements (f.statements ss p ∷ k) None ts = ss ≡ [] → nest k + 1 ≤ 128 → Fits D k (its m.OpenBrace p ∷ ts)
  Statements (f.statements ss p ∷ k) (Some q) ts = (xs : List Step) (x : Step) (us : Words) → ss ≡ xs ++ x ∷ [] → SpellsStatement (below k 1) us x (its m.Semicolon q ∷ ts) → Fits D (f.statements xs p ∷ k) us
  Statements _ before ts = ⊤

  -- an arm behind a `,`, or the brace
  abbrev pub Arms : Frames → Words → Type 0
  Arms (f.arms x cs p ∷ k) ts = (xs : List Case) (c : Case) (us : Words) (q : ℕ) → cs ≡ xs ++ c ∷ [] → SpellsArm (below k 2) us c (its m.Comma q ∷ ts) → Fits D (f.arms x xs p ∷ k) us
  Arms _ ts = ⊤

  abbrev pub Awaits : Frames → Await → Words → Type 0
  Awaits k a.Begin ts = Program D k ts
  Awaits k a.Definition ts = Definitions D k ts
  Awaits k (a.Fixed w) ts = AwaitsFixed k w ts
  Awaits k (a.Name u) ts = AwaitsName k u ts
  Awaits k (a.Number c) ts = AwaitsNumber k c ts
  Awaits k (a.Type u) ts = Typed k u ts
  Awaits k (a.MemberOrEnd h) ts = (xs : List Text) (x : Text) (p c : ℕ) → h.members ≡ xs ++ x ∷ [] → Members k (record { name = h.name; members = xs; at = h.at }) (named x p ∷ its m.Comma c ∷ ts)
  Awaits k (a.MoreMembers h) ts = (xs : List Text) (x : Text) (p : ℕ) → h.members ≡ xs ++ x ∷ [] → Members k (record { name = h.name; members = xs; at = h.at }) (named x p ∷ ts)
  Awaits k (a.TypeOrEnd h) ts = h.args ≡ [] → (q s o : ℕ) → Definitions D k (the kw.Val h.at ∷ named h.name q ∷ its m.Colon s ∷ its m.Open o ∷ ts)
  Awaits k (a.MoreTypes h) ts = (xs : List Ty) (x : Ty) (us : Words) → h.args ≡ xs ++ x ∷ [] → IsTypeIn us x ts → Arguments k (record { name = h.name; args = xs; at = h.at }) us
  Awaits k (a.ParamOrEnd h) ts = h.params ≡ [] → HasPlace is_a_function k → (q o : ℕ) → Definitions D k (the kw.Function h.at ∷ named h.name q ∷ its m.Open o ∷ ts)
  Awaits k (a.MoreParams h) ts = (xs : List Param) (y : Text) (x : Ty) (us : Words) (p c : ℕ) → h.params ≡ xs ++ record { name = y; ty = x } ∷ [] → IsTypeIn us x ts
      → Params k (record { name = h.name; params = xs; at = h.at }) (named y p ∷ its m.Colon c ∷ us)
  Awaits k a.Want ts = NotChain k → Fits D k ts
  Awaits k a.Operand ts = Fits D k ts
  Awaits k a.Inside ts = Inside k ts
  Awaits k (a.Statement before) ts = Statements k before ts
  Awaits k (a.Named x p) ts = Fits D k (named x p ∷ ts)
  Awaits k (a.Index u) ts = Indices k u ts
  Awaits k (a.IndexName u x) ts = (p : ℕ) → Indices k u (named x p ∷ ts)
  Awaits k (a.LocalMore b x) ts = (at q : ℕ) → Fits D k (binder_word b at ∷ named x q ∷ ts)
  Awaits k a.Text ts = Fits D k ts
  Awaits k (a.Part ps) ts = Patterns k ps ts
  Awaits k (a.PartNamed ps who) ts = (p : ℕ) → Patterns k ps (part_first who p ∷ ts)
  Awaits k (a.MoreParts ps) ts = (xs : List Part) (x : Part) (us : Words) → ps ≡ xs ++ x ∷ [] → SpellsPart (left k) us x ts → Patterns k xs us
  Awaits k a.ArmOrEnd ts = Arms k ts

  -- what is left, for what is open and what comes next
  abbrev pub Left : Frames → Mode → Words → Type 0
  Left k (awaits a) ts = Awaits k a ts
  Left k (have x c p) ts = Taken D k x c p ts
  Left k (whole x) ts = Ended D k x false ts

  -- what is left behind a word
  abbrev pub Turned : Turn → Words → Type 0
  Turned (Ok s) ts = Left s.0 s.1 ts
  Turned (Err e) ts = ⊥
