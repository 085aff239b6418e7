-- What is selected of normal terms is normal.
use Rattle.bv_bits.specs.declared.Op.TheVariants.{Eq, ULt, Ite}
use Rattle.term_tree.specs.Terms.{Tree, two, three, ArrayTree, array, upd, splice}
use Rattle.term_make.specs.Making.{make}
use Rattle.term_make.specs.Normal.{IsNormal, normal_selection, IsNormalArray}
use Rattle.term_make.proofs.NormalLemmas.{make_normal}
use Rattle.term_select.specs.Selecting.{select}

pub selected_normal : (f : ArrayTree) (i : Tree) → IsNormalArray f → IsNormal i → IsNormal (select f i).it
selected_normal (array f) i h n = normal_selection n
selected_normal (upd of j e) i h n =
    make_normal (three Ite (make (two Eq i j)).it e (select of i).it) (make_normal (two Eq i j) (n, h.1), h.2, selected_normal of i h.0 n)
selected_normal (splice of below j) i h n =
    make_normal (three Ite (make (two ULt i j)).it (select below i).it (select of i).it) (make_normal (two ULt i j) (n, h.2), selected_normal below i h.1 n, selected_normal of i h.0 n)
