-- Lists of subterms in which each stands behind its parts.
use Rattle.std.specs.Prelude.{◌≡◌, ⊤, ℕ, true, List, slice_get, Some}
use Rattle.term_tree.specs.Terms.{Tree, lit, var, one, two, three, sel, IsTyped}
use Rattle.term_copy.specs.Parts.{is_among}

-- the parts of a term's top stand in the list
abbrev pub PartsIn : List Tree → Tree → Type 0
PartsIn d (lit b) = ⊤
PartsIn d (var x w) = ⊤
PartsIn d (one op a) = is_among a d ≡ true
PartsIn d (two op a b) = (is_among a d ≡ true) × (is_among b d ≡ true)
PartsIn d (three op a b c) = (is_among a d ≡ true) × (is_among b d ≡ true) × (is_among c d ≡ true)
PartsIn d (sel f i) = is_among i d ≡ true

-- typed terms, each with its parts
pub record IsListed (d : List Tree) : Type 0 where
  pub typed : (i : ℕ) (t : Tree) → slice_get d i ≡ Some t → IsTyped t
  pub parts : (i : ℕ) (t : Tree) → slice_get d i ≡ Some t → PartsIn d t
