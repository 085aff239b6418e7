-- The grammar of definitions and programs.
use Rattle.std.specs.Prelude.{◌≡◌, ◌≤◌, ℕ, suc, Bool, true, false, List, [], ◌∷◌, length}
use Rattle.std.specs.List.{filter}
use Rattle.bv_bits.specs.Bits.{IsWidth}
use Rattle.sail_syntax.specs.Tree.{Text, Tree}
use Rattle.sail_syntax.specs.Program.{Definition, Function, order, register, enumeration, signature, function}
use Rattle.sail_syntax.specs.declared.types.Ty.{Ty}
use Rattle.sail_syntax.specs.declared.types.Param.{Param}
use Rattle.sail_grammar.specs.declared.keyword.Keyword.TheVariants as k
use Rattle.sail_grammar.specs.declared.mark.Mark.TheVariants as m
use Rattle.sail_grammar.specs.Words.{Words, the, its, named, counted}
use Rattle.sail_grammar.specs.Expressions.{SpellsType, Spells}

-- how deep a text may nest
abbrev pub max_nesting : ℕ
max_nesting = 128

-- names, and the brace behind them; a `,` may stand in front of it
pub data SpellsNames : Words → List Text → Words → Type 0 where
  last_name : {p q : ℕ} {x : Text} {r : Words} → SpellsNames (named x p ∷ its m.CloseBrace q ∷ r) (x ∷ []) r
  last_comma : {p q s : ℕ} {x : Text} {r : Words} → SpellsNames (named x p ∷ its m.Comma q ∷ its m.CloseBrace s ∷ r) (x ∷ []) r
  more_names : {p q : ℕ} {x : Text} {xs : List Text} {r r' : Words} → SpellsNames r xs r' → SpellsNames (named x p ∷ its m.Comma q ∷ r) (x ∷ xs) r'

-- types, and the bracket behind them
pub data SpellsTypes : ℕ → Words → List Ty → Words → Type 0 where
  last_type : {n q : ℕ} {t : Ty} {ts r : Words} → SpellsType n ts t (its m.Close q ∷ r) → SpellsTypes n ts (t ∷ []) r
  more_types : {n q : ℕ} {t : Ty} {all : List Ty} {ts r r' : Words} → SpellsType n ts t (its m.Comma q ∷ r) → SpellsTypes n r all r' → SpellsTypes n ts (t ∷ all) r'

-- parameters, and the bracket behind them
pub data SpellsParams : ℕ → Words → List Param → Words → Type 0 where
  last_param : {n p q s : ℕ} {x : Text} {t : Ty} {ts r : Words} → SpellsType n ts t (its m.Close s ∷ r)
      → SpellsParams n (named x p ∷ its m.Colon q ∷ ts) (record { name = x; ty = t } ∷ []) r
  more_params : {n p q s : ℕ} {x : Text} {t : Ty} {all : List Param} {ts r r' : Words} → SpellsType n ts t (its m.Comma s ∷ r) → SpellsParams n r all r'
      → SpellsParams n (named x p ∷ its m.Colon q ∷ ts) (record { name = x; ty = t } ∷ all) r'

-- types in brackets, and none
pub data SpellsTypeList : ℕ → Words → List Ty → Words → Type 0 where
  no_types : {n p q : ℕ} {r : Words} → SpellsTypeList (suc n) (its m.Open p ∷ its m.Close q ∷ r) [] r
  some_types : {n p : ℕ} {all : List Ty} {ts r : Words} → SpellsTypes n ts all r → SpellsTypeList (suc n) (its m.Open p ∷ ts) all r

-- parameters in brackets, and none
pub data SpellsParamList : ℕ → Words → List Param → Words → Type 0 where
  no_params : {n p q : ℕ} {r : Words} → SpellsParamList (suc n) (its m.Open p ∷ its m.Close q ∷ r) [] r
  some_params : {n p : ℕ} {all : List Param} {ts r : Words} → SpellsParams n ts all r → SpellsParamList (suc n) (its m.Open p ∷ ts) all r

-- a definition, but for the order of bits
pub data SpellsDefinition : ℕ → Words → Definition → Words → Type 0 where
  a_register : {n w p q s t e u v : ℕ} {x : Text} {r : Words} → IsWidth w
      → SpellsDefinition (suc n) (the k.Register p ∷ named x q ∷ its m.Colon s ∷ the k.Bits t ∷ its m.Open e ∷ counted w u ∷ its m.Close v ∷ r) (register x w p) r
  an_enum : {n p q s t : ℕ} {x : Text} {xs : List Text} {ts r : Words} → SpellsNames ts xs r
      → SpellsDefinition (suc n) (the k.Enum p ∷ named x q ∷ its m.Equals s ∷ its m.OpenBrace t ∷ ts) (enumeration x xs p) r
  a_val : {n p q s t : ℕ} {x : Text} {args : List Ty} {result : Ty} {ts r r' : Words} → SpellsTypeList n ts args (its m.Arrow t ∷ r) → SpellsType n r result r'
      → SpellsDefinition n (the k.Val p ∷ named x q ∷ its m.Colon s ∷ ts) (signature x args result p) r'
  a_function : {n p q s t : ℕ} {o : Bool} {x : Text} {params : List Param} {result : Ty} {body : Tree} {ts r r' r'' : Words}
      → SpellsParamList n ts params (its m.Arrow s ∷ r) → SpellsType n r result (its m.Equals t ∷ r') → Spells n o r' body r''
      → SpellsDefinition n (the k.Function p ∷ named x q ∷ ts) (function (record { name = x; params = params; result = result; body = body; at = p })) r''

-- definitions in a row, to the end
pub data SpellsDefinitions : ℕ → Words → List Definition → Type 0 where
  no_definition : {n : ℕ} → SpellsDefinitions n [] []
  more_definitions : {n : ℕ} {d : Definition} {ds : List Definition} {ts r : Words} → SpellsDefinition n ts d r → SpellsDefinitions n r ds → SpellsDefinitions n ts (d ∷ ds)

-- a program: the order of bits stands first or nowhere
pub data SpellsProgram : ℕ → Words → List Definition → Type 0 where
  ordered : {n p q s : ℕ} {ds : List Definition} {ts : Words} → SpellsDefinitions n ts ds → SpellsProgram n (the k.Default p ∷ the k.Order q ∷ the k.Dec s ∷ ts) (order ∷ ds)
  unordered : {n : ℕ} {ds : List Definition} {ts : Words} → SpellsDefinitions n ts ds → SpellsProgram n ts ds

-- ---- how many definitions of a kind there may be

-- whether a definition is a register
abbrev pub is_register : Definition → Bool
is_register order = false
is_register (register x width at) = true
is_register (enumeration x members at) = false
is_register (signature x args result at) = false
is_register (function f) = false

-- whether it is an enum
abbrev pub is_enum : Definition → Bool
is_enum order = false
is_enum (register x width at) = false
is_enum (enumeration x members at) = true
is_enum (signature x args result at) = false
is_enum (function f) = false

-- whether it is a function
abbrev pub is_a_function : Definition → Bool
is_a_function order = false
is_a_function (register x width at) = false
is_a_function (enumeration x members at) = false
is_a_function (signature x args result at) = false
is_a_function (function f) = true

-- how many registers, enums and functions each a text may have
abbrev pub most_of_a_kind : ℕ
most_of_a_kind = 1024

-- there are so few of each kind
pub record AreFew (ds : List Definition) : Type 0 where
  pub registers : length (filter is_register ds) ≤ most_of_a_kind
  pub enums : length (filter is_enum ds) ≤ most_of_a_kind
  pub functions : length (filter is_a_function ds) ≤ most_of_a_kind
