use Rattle.std.proofs.Common.{◌≡◌, ◌∙◌, map, ap, length, arith}
use Rattle.std.proofs.lemmas.List.{length-map}
use Rattle.term_rules.specs.Shapes.{is_other}
use Rattle.term_tree.specs.View.{tree}
use Rattle.term_rules.proofs.CodeLemmas.{three_other}
use Rattle.term_tree.proofs.ViewLemmas.{tree_app}
use Rattle.term_rules.proofs.term_nodes.TreesNodesRefTerm.shape.Goals as goal

pub returns-in-len3 : goal.returns-in-len3
returns-in-len3 c =
    let e = ap tree c.in-App.is ∙ tree_app c.in-App.op c.in-App.args in
    let l : length (map tree c.in-App.args) ≡ 3 = omega (arith, length-map c.in-App.args tree, ap length c.as_slice.ensures, c.in-len3.len_at_least, c.in-len3.len_below) in
    record { shape = ap is_other e ∙ three_other c.in-App.op (map tree c.in-App.args) l }
