-- The typing judgement: under the names of the whole text and the locals, where its place asks for a type or for none, an expression has a type.
use Rattle.std.specs.Prelude.{◌≡◌, ◌≤◌, ◌<◌, ℕ, ◌+◌, Bool, true, false, List, [], ◌∷◌, Option, Some, None, ⊤}
use Rattle.bv_bits.specs.Bits.{IsBits, IsWidth}
use Rattle.sail_syntax.specs.Tree.{Text, Tree, node, Form, unit, lit, truth, name, chain, flip, slice, update, call, widen, choose, when, cases, foreach, check, exit, assign, block, Trees, none, some, Case, arm, Cases, no_case, case, Step, binds, holds, does, Steps, done, next}
use Rattle.sail_syntax.specs.declared.tree.Infix.{Infix}
use Rattle.sail_syntax.specs.declared.tree.Index.{Index}
use Rattle.sail_syntax.specs.declared.types.Ty.{Ty}
use Rattle.sail_syntax.specs.declared.types.Ty.TheVariants as ty
use Rattle.sail_syntax.specs.declared.patterns.Pattern.{Pattern}
use Rattle.sail_syntax.specs.declared.patterns.Pattern.TheVariants as pattern
use Rattle.sail_syntax.specs.declared.patterns.Part.{Part}
use Rattle.sail_syntax.specs.declared.patterns.Part.TheVariants as part
use Rattle.type_rules.specs.declared.scope.Entry.{Entry}
use Rattle.type_rules.specs.declared.scope.Item.{Item}
use Rattle.type_rules.specs.declared.scope.Item.TheVariants as item
use Rattle.type_rules.specs.declared.scope.Slot.{Slot}
use Rattle.type_rules.specs.declared.scope.Slot.TheVariants as slot
use Rattle.type_rules.specs.declared.scope.Sort.{Sort}
use Rattle.type_rules.specs.declared.scope.Sort.TheVariants.{Holds, Counts}
use Rattle.type_rules.specs.declared.scope.Local.{Local}
use Rattle.type_rules.specs.declared.scope.Target.TheVariants as target
use Rattle.type_rules.specs.declared.scope.Span.{Span}
use Rattle.type_rules.specs.declared.scope.Span.TheVariants as span
use Rattle.type_rules.specs.Names.{find, look, is_free, is_type}
use Rattle.type_rules.specs.Rules.{or_type, is_join, compares, takes, is_chain_of, count, span_of, between, item_type, target_of, part_width}
use Rattle.type_rules.specs.Judge.{entered}

-- the place asks for the type, or for none
abbrev pub Asks : Option Ty → Ty → Type 0
Asks None t = ⊤
Asks (Some w) t = w ≡ t

-- the first where the test holds, else the second
abbrev pub Where : Bool → Type 0 → Type 0 → Type 0
Where true A B = A
Where false A B = B

-- the type is one of bits
abbrev pub IsOfBits : Ty → Type 0
IsOfBits (ty.Bits w) = ⊤
IsOfBits ty.Unit = ⊥
IsOfBits ty.Bool = ⊥
IsOfBits (ty.Enum x) = ⊥

-- ---- indices

-- a number that the name of an index stands for
abbrev pub IsIn : Span → ℕ → Type 0
IsIn span.Fixed i = i ≡ 0
IsIn (span.Over a b) i = (a ≤ i) × (i ≤ b)
IsIn span.Missing i = ⊥

-- no name, or a foreach variable
abbrev pub IsThere : Span → Type 0
IsThere span.Fixed = ⊤
IsThere (span.Over a b) = ⊤
IsThere span.Missing = ⊥

-- two indices of bits of the width
pub record AreIndices (hi lo : Index) (scope : List Local) (w : ℕ) : Type 0 where
  -- both have one variable or none
  pub variable : hi.var ≡ lo.var
  pub there : IsThere (span_of hi.var scope)
  -- also where the variable takes no value
  pub order : lo.plus ≤ hi.plus
  pub at_most : hi.plus ≤ 127
  -- for each value of the variable
  pub inside : (i : ℕ) → IsIn (span_of hi.var scope) i → hi.plus + i < w

-- ---- names and types

-- a name: a member of the enum, or a new local
abbrev pub NameFits : Option Item → Ty → Type 0
NameFits (Some (item.Member e)) t = t ≡ ty.Enum e
NameFits (Some (item.Register w)) t = ⊥
NameFits (Some item.Enum) t = ⊥
NameFits (Some (item.Function ps r after)) t = ⊥
NameFits None t = ⊤

-- what is asked of an argument, where the first one has the type
abbrev pub slot_asks : Slot → Option Ty → Option Ty
slot_asks (slot.Is q) one = Some q
slot_asks slot.AnyBits one = None
slot_asks slot.Alike one = one

-- the type of an argument of which bits are asked is one of bits
abbrev pub SlotTakes : Slot → Ty → Type 0
SlotTakes (slot.Is q) t = ⊤
SlotTakes slot.AnyBits t = IsOfBits t
SlotTakes slot.Alike t = ⊤

-- a function gives the type that is written, or that of its first argument
abbrev pub Gives : Option Ty → Option Ty → Ty → Type 0
Gives (Some r) one t = r ≡ t
Gives None one t = one ≡ Some t

-- a function that is complete above, and its arguments
abbrev pub Calls : ℕ → Option Item → (List Slot → Option Ty → Type 0) → Type 0
Calls here (Some (item.Function ps r after)) Args = (after ≤ here) × Args ps r
Calls here (Some (item.Register w)) Args = ⊥
Calls here (Some (item.Member e)) Args = ⊥
Calls here (Some item.Enum) Args = ⊥
Calls here None Args = ⊥

module _ (globals : List Entry) where
  -- the type of a name: a local's, else that of a register or a member
  abbrev pub name_type : Text → Option Sort → Option Ty
  name_type x (Some (Holds t v)) = t
  name_type x (Some (Counts a b)) = None
  name_type x None = item_type (find x globals)

  -- no name of the whole text
  abbrev pub IsFree : Text → Type 0
  IsFree x = is_free (find x globals) ≡ true

  -- it is a type
  abbrev pub IsType : Ty → Type 0
  IsType t = is_type globals t ≡ true

  -- a type that may be written is one
  abbrev pub MayBeType : Option Ty → Type 0
  MayBeType None = ⊤
  MayBeType (Some t) = IsType t

  -- ---- patterns

  -- a part is a value, or has a width from 1 to 128 and a new name
  abbrev pub IsPart : Part → Type 0
  IsPart (part.Lit b) = IsBits b
  IsPart (part.Bind x w) = IsWidth w × IsFree x
  IsPart (part.Skip w) = IsWidth w

  -- parts that have so many bits in all, behind others that have so many
  abbrev pub ArePartsOf : List Part → ℕ → ℕ → Type 0
  ArePartsOf [] before total = before ≡ total
  ArePartsOf (p ∷ ps) before total = IsPart p × ArePartsOf ps (before + part_width p) total

  -- a pattern of values of the type
  abbrev pub PatternFits : Pattern → Ty → Type 0
  PatternFits pattern.Any t = ⊤
  PatternFits (pattern.Name x) t = NameFits (find x globals) t
  PatternFits (pattern.Lit b) t = IsBits b × (t ≡ ty.Bits b.width)
  PatternFits (pattern.Truth b) t = t ≡ ty.Bool
  PatternFits (pattern.Parts ps) t = (n : ℕ) × (ArePartsOf ps 0 n × (n ≤ 128) × (t ≡ ty.Bits n))

  -- ---- expressions in the definition in front of which so many stand

  module _ (here : ℕ) where
    abbrev mutual
      -- an expression
      pub HasType : Tree → Option Ty → List Local → Ty → Type 0
      HasType (node at form) want scope t = FormHas form want scope t

      -- what an expression is
      pub FormHas : Form → Option Ty → List Local → Ty → Type 0
      FormHas unit want scope t = (t ≡ ty.Unit) × Asks want t
      FormHas (lit b) want scope t = IsBits b × (t ≡ ty.Bits b.width) × Asks want t
      FormHas (truth b) want scope t = (t ≡ ty.Bool) × Asks want t
      FormHas (name x) want scope t = (name_type x (look x scope) ≡ Some t) × Asks want t
      FormHas (chain op parts) want scope t =
          (is_chain_of op (count parts) ≡ true) × Where (is_join op) (JoinHas parts 0 scope t) (ChainHas parts op scope t) × Asks want t
      FormHas (flip of) want scope t = HasType of None scope t × IsOfBits t × Asks want t
      FormHas (slice of hi lo) want scope t =
          (w : ℕ) × (HasType of None scope (ty.Bits w) × AreIndices hi lo scope w × (t ≡ ty.Bits (between hi lo)) × Asks want t)
      FormHas (update of hi lo by) want scope t =
          (w : ℕ) × (HasType of None scope (ty.Bits w) × AreIndices hi lo scope w
          × HasType by (Some (ty.Bits (between hi lo))) scope (ty.Bits (between hi lo)) × (t ≡ ty.Bits w) × Asks want t)
      FormHas (call f args) want scope t = Calls here (find f globals) (λ params result. ArgsHave args params result scope t) × Asks want t
      FormHas (widen signed to of) want scope t =
          (w : ℕ) × (HasType of None scope (ty.Bits w) × IsWidth to × (w ≤ to) × (t ≡ ty.Bits to) × Asks want t)
      FormHas (choose test one other) want scope t = HasType test (Some ty.Bool) scope ty.Bool × HasType one want scope t × HasType other (Some t) scope t
      FormHas (when test one) want scope t = HasType test (Some ty.Bool) scope ty.Bool × HasType one (Some ty.Unit) scope ty.Unit × (t ≡ ty.Unit) × Asks want t
      FormHas (cases on arms) want scope t = (u : Ty) × (HasType on None scope u × ArmsHave arms u want scope t)
      FormHas (foreach x from to body) want scope t =
          IsFree x × HasType body (Some ty.Unit) (record { name = x; sort = Counts from to } ∷ scope) ty.Unit × (t ≡ ty.Unit) × Asks want t
      FormHas (check test text) want scope t = HasType test (Some ty.Bool) scope ty.Bool × (t ≡ ty.Unit) × Asks want t
      FormHas exit want scope t = t ≡ or_type want ty.Unit
      FormHas (assign x by) want scope t =
          (u : Ty) × ((target_of globals (look x scope) x ≡ target.Takes (Some u)) × HasType by (Some u) scope u × (t ≡ ty.Unit) × Asks want t)
      FormHas (block steps) want scope t = StepsHave steps want scope t

      -- a chain: the first part fixes the type of the others
      pub ChainHas : Trees → Infix → List Local → Ty → Type 0
      ChainHas none op scope t = ⊥
      ChainHas (some p rest) op scope t =
          (u : Ty) × (HasType p None scope u × (takes op u ≡ true) × AllHave rest u scope × Where (compares op) (t ≡ ty.Bool) (t ≡ u))

      -- expressions that all have the type
      pub AllHave : Trees → Ty → List Local → Type 0
      AllHave none u scope = ⊤
      AllHave (some p rest) u scope = HasType p (Some u) scope u × AllHave rest u scope

      -- joined bits, behind others that have so many in all: they have at most 128
      pub JoinHas : Trees → ℕ → List Local → Ty → Type 0
      JoinHas none total scope t = (total ≤ 128) × (t ≡ ty.Bits total)
      JoinHas (some p rest) total scope t = (w : ℕ) × (HasType p None scope (ty.Bits w) × JoinHas rest (total + w) scope t)

      -- arguments of a call, as many as there are parameters
      pub ArgsHave : Trees → List Slot → Option Ty → List Local → Ty → Type 0
      ArgsHave none [] result scope t = Gives result None t
      ArgsHave none (q ∷ qs) result scope t = ⊥
      ArgsHave (some a rest) [] result scope t = ⊥
      ArgsHave (some a rest) (q ∷ qs) result scope t =
          (u : Ty) × (HasType a (slot_asks q None) scope u × SlotTakes q u × OthersHave rest qs u scope × Gives result (Some u) t)

      -- the other arguments, where the first one has the type
      pub OthersHave : Trees → List Slot → Ty → List Local → Type 0
      OthersHave none [] one scope = ⊤
      OthersHave none (q ∷ qs) one scope = ⊥
      OthersHave (some a rest) [] one scope = ⊥
      OthersHave (some a rest) (q ∷ qs) one scope = (u : Ty) × (HasType a (slot_asks q (Some one)) scope u × SlotTakes q u × OthersHave rest qs one scope)

      -- arms, where a value of the type u is matched: all have one type
      pub ArmsHave : Cases → Ty → Option Ty → List Local → Ty → Type 0
      ArmsHave no_case u want scope t = ⊥
      ArmsHave (case (arm p body) rest) u want scope t =
          PatternFits p u × HasType body want (entered globals p (Some u) scope) t × RestHave rest u scope t

      -- the arms behind the first one
      pub RestHave : Cases → Ty → List Local → Ty → Type 0
      RestHave no_case u scope t = ⊤
      RestHave (case (arm p body) rest) u scope t =
          PatternFits p u × HasType body (Some t) (entered globals p (Some u) scope) t × RestHave rest u scope t

      -- a block has the type of its last expression, and unit where it ends with a declaration or nothing;
      -- a statement before the last is unit, and a new local is seen by those after it
      pub StepsHave : Steps → Option Ty → List Local → Ty → Type 0
      StepsHave done want scope t = (t ≡ ty.Unit) × Asks want t
      StepsHave (next (does e) done) want scope t = HasType e want scope t
      StepsHave (next (does e) (next s rest)) want scope t = HasType e (Some ty.Unit) scope ty.Unit × StepsHave (next s rest) want scope t
      StepsHave (next (binds x d by) rest) want scope t =
          (u : Ty) × (MayBeType d × IsFree x × HasType by d scope u × StepsHave rest want (record { name = x; sort = Holds (Some u) false } ∷ scope) t)
      StepsHave (next (holds x d by) rest) want scope t =
          (u : Ty) × (MayBeType d × IsFree x × HasType by d scope u × StepsHave rest want (record { name = x; sort = Holds (Some u) true } ∷ scope) t)
