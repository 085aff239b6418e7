use Rattle.std.proofs.Common.{◌≡◌, List, [], ◌∷◌, ◌++◌, map, refl, sym, subst}
use Rattle.std.specs.Prelude.{IfOk}
use Rattle.term_tree.specs.Terms.{Tree}
use Rattle.term_copy.specs.Parts.{postorder}
use Rattle.term_tree.specs.View.{tree}
use Rattle.term_copy.proofs.PartLemmas.{behind_one, behind_two, behind_three}
use Rattle.term_copy.proofs.parts.+add_parts.Goals as goal

pub returns-in_ok-add_parts-in-One-clause-added : goal.returns-in_ok-add_parts-in-One-clause-added
returns-in_ok-add_parts-in-One-clause-added t c =
    let a = tree c.in-One.a.now in
    let parts = subst (λ (t : Tree). postorder t ≡ postorder a ++ t ∷ []) (sym c.in-One.ensures.form) refl in
    subst (λ (l : List Tree). IfOk c.add-in-One.result (λ x. map tree c.add-in-One.new.done.items ≡ l))
    (behind_one (map tree c.args.done.now.items) (map tree c.add_parts.new.done.items) a (tree c.args.term.now) parts c.in_ok-add_parts-in-One.ensures.added)
    c.add-in-One.ensures.added

pub returns-in_ok-add_parts-in-Two-2-clause-added : goal.returns-in_ok-add_parts-in-Two-2-clause-added
returns-in_ok-add_parts-in-Two-2-clause-added t c =
    let a = tree c.in-Two.a.now in
    let b = tree c.in-Two.b.now in
    let parts = subst (λ (t : Tree). postorder t ≡ postorder a ++ (postorder b ++ t ∷ [])) (sym c.in-Two.ensures.form) refl in
    subst (λ (l : List Tree). IfOk c.add-in-Two.result (λ x. map tree c.add-in-Two.new.done.items ≡ l))
    (behind_two (map tree c.args.done.now.items) (map tree c.add_parts-in-Two.new.done.items) (map tree c.add_parts-in-Two-2.new.done.items) a b (tree c.args.term.now) parts c.in_ok-add_parts-in-Two.ensures.added c.in_ok-add_parts-in-Two-2.ensures.added)
    c.add-in-Two.ensures.added

pub returns-in_ok-add_parts-in-Three-3-clause-added : goal.returns-in_ok-add_parts-in-Three-3-clause-added
returns-in_ok-add_parts-in-Three-3-clause-added t c =
    let a = tree c.in-Three.a.now in
    let b = tree c.in-Three.b.now in
    let d = tree c.in-Three.c.now in
    let parts = subst (λ (t : Tree). postorder t ≡ postorder a ++ (postorder b ++ (postorder d ++ t ∷ []))) (sym c.in-Three.ensures.form) refl in
    subst (λ (l : List Tree). IfOk c.add-in-Three.result (λ x. map tree c.add-in-Three.new.done.items ≡ l))
    (behind_three (map tree c.args.done.now.items) (map tree c.add_parts-in-Three.new.done.items) (map tree c.add_parts-in-Three-2.new.done.items) (map tree c.add_parts-in-Three-3.new.done.items) a b d (tree c.args.term.now) parts c.in_ok-add_parts-in-Three.ensures.added c.in_ok-add_parts-in-Three-2.ensures.added c.in_ok-add_parts-in-Three-3.ensures.added)
    c.add-in-Three.ensures.added

pub returns-in_ok-add_parts-in-Sel-clause-added : goal.returns-in_ok-add_parts-in-Sel-clause-added
returns-in_ok-add_parts-in-Sel-clause-added t c =
    let a = tree c.in-Sel.at.now in
    let parts = subst (λ (t : Tree). postorder t ≡ postorder a ++ t ∷ []) (sym c.in-Sel.ensures.form) refl in
    subst (λ (l : List Tree). IfOk c.add-in-Sel.result (λ x. map tree c.add-in-Sel.new.done.items ≡ l))
    (behind_one (map tree c.args.done.now.items) (map tree c.add_parts-in-Sel.new.done.items) a (tree c.args.term.now) parts c.in_ok-add_parts-in-Sel.ensures.added)
    c.add-in-Sel.ensures.added
