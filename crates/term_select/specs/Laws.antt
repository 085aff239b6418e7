-- Laws of what is selected.
use Rattle.std.specs.Prelude.{◌≡◌, All}
use Rattle.term_tree.specs.Terms.{Tree, ArrayTree, IsTyped, IsTypedArray, IsIndex, width_of}
use Rattle.term_tree.specs.Values.{Values, IsValues, value, byte, byte_at}
use Rattle.term_tree.specs.Divisions.{HasNoDivision, ArrayHasNoDivision}
use Rattle.term_tree.specs.Variables.{Variables, HoldsOnly, ArrayHoldsOnly}
use Rattle.term_make.specs.Making.{IsMade}
use Rattle.term_make.specs.Normal.{IsNormal, IsNormalArray}
use Rattle.term_select.specs.Selecting.{select}

-- each application that is asked for on the way stands with what is made of it
abbrev pub SelectedAreMade : Type 0
SelectedAreMade = (f : ArrayTree) (i : Tree) → All (λ a. IsMade a.0 a.1) (select f i).asked

-- what is selected is typed, and 8 bits wide
abbrev pub SelectedIsTyped : Type 0
SelectedIsTyped = (f : ArrayTree) (i : Tree) → IsTypedArray f → IsIndex i → IsTyped (select f i).it × (width_of (select f i).it ≡ 8)

-- so is each application that is asked for on the way, and what is made of it
abbrev pub SelectedAreTyped : Type 0
SelectedAreTyped = (f : ArrayTree) (i : Tree) → IsTypedArray f → IsIndex i → All (λ a. IsTyped a.0 × IsTyped a.1) (select f i).asked

-- it is the array's byte at the index's value
abbrev pub SelectedIsByte : Type 0
SelectedIsByte = (v : Values) (f : ArrayTree) (i : Tree) → IsValues v → IsTypedArray f → IsIndex i → value v (select f i).it ≡ byte (byte_at v f (value v i).value)

-- what is selected of parts without divisions holds none
abbrev pub SelectedHasNoDivision : Type 0
SelectedHasNoDivision = (f : ArrayTree) (i : Tree) → ArrayHasNoDivision f → HasNoDivision i → HasNoDivision (select f i).it

-- it holds no variable but theirs
abbrev pub SelectedHoldsOnly : Type 0
SelectedHoldsOnly = (vs : Variables) (f : ArrayTree) (i : Tree) → ArrayHoldsOnly vs f → HoldsOnly vs i → HoldsOnly vs (select f i).it

-- what is selected of normal parts is normal
abbrev pub SelectedIsNormal : Type 0
SelectedIsNormal = (f : ArrayTree) (i : Tree) → IsNormalArray f → IsNormal i → IsNormal (select f i).it
