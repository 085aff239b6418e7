-- Terms in which no rule fits.
use Rattle.std.specs.Prelude.{◌≡◌, ⊤, ℕ, ◌≤◌, Some, None}
use Rattle.bv_bits.specs.declared.Bits.{Bits}
use Rattle.bv_bits.specs.declared.Op.{Op}
use Rattle.term_tree.specs.Terms.{Text, Tree, lit, var, one, two, three, sel, ArrayTree, array, upd, splice, height, HIGHEST}
use Rattle.term_rules.specs.Rules.{rule_of}
use Rattle.term_make.specs.Making.{IsMade, make, within_height}

-- a term in which no rule fits any application
pub data IsNormal : Tree → Type 0 where
  normal_literal : {b : Bits} → IsNormal (lit b)
  normal_variable : {x : Text} {w : ℕ} → IsNormal (var x w)
  normal_one : {op : Op} {a : Tree} → rule_of (one op a) ≡ None → IsNormal a → IsNormal (one op a)
  normal_two : {op : Op} {a b : Tree} → rule_of (two op a b) ≡ None → IsNormal a → IsNormal b → IsNormal (two op a b)
  normal_three : {op : Op} {a b c : Tree} → rule_of (three op a b c) ≡ None → IsNormal a → IsNormal b → IsNormal c → IsNormal (three op a b c)
  normal_selection : {f : Text} {i : Tree} → IsNormal i → IsNormal (sel f i)

-- a term whose parts at the top are so
abbrev pub HasNormalParts : Tree → Type 0
HasNormalParts (lit b) = ⊤
HasNormalParts (var x w) = ⊤
HasNormalParts (one op a) = IsNormal a
HasNormalParts (two op a b) = IsNormal a × IsNormal b
HasNormalParts (three op a b c) = IsNormal a × IsNormal b × IsNormal c
HasNormalParts (sel f i) = IsNormal i

-- an array term whose terms are so
abbrev pub IsNormalArray : ArrayTree → Type 0
IsNormalArray (array f) = ⊤
IsNormalArray (upd of at by) = IsNormalArray of × IsNormal at × IsNormal by
IsNormalArray (splice of below at) = IsNormalArray of × IsNormalArray below × IsNormal at

-- ---- laws

-- what is made of normal arguments is normal
abbrev pub MadeIsNormal : Type 0
MadeIsNormal = (t u : Tree) → HasNormalParts t → IsMade t u → IsNormal u

-- a normal term that isn't too high is what is made of it
abbrev pub NormalIsMade : Type 0
NormalIsMade = (t : Tree) → IsNormal t → height t ≤ HIGHEST → within_height (make t) ≡ Some t
