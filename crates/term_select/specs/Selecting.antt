-- The byte of an array term at an index, made.
use Rattle.bv_bits.specs.declared.Op.TheVariants.{Eq, ULt, Ite}
use Rattle.term_tree.specs.Terms.{Tree, one, two, three, sel, ArrayTree, array, upd, splice}
use Rattle.term_make.specs.Making.{Made, asks, just, made_then, make}

-- the byte of an array term at an index, made
abbrev pub select : ArrayTree → Tree → Made Tree
select (array f) i = asks (sel f i) (just (sel f i))
select (upd of j e) i =
    made_then (make (two Eq i j)) (λ same. made_then (select of i) (λ other. make (three Ite same e other)))
select (splice of below j) i =
    made_then (make (two ULt i j)) (λ low. made_then (select below i) (λ one. made_then (select of i) (λ other. make (three Ite low one other))))
