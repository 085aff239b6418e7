use Rattle.std.proofs.Common.{◌≡◌, None, rules, ◌∙◌}
use Rattle.term_rules.specs.Shapes.{literal_of}
use Rattle.term_rules.proofs.CodeLemmas.{difference_at_open}
use Rattle.term_rules.proofs.sum_rules.sub_rule.Goals as goal

-- src/rules.rt:324:1
pub returns-in-None : goal.returns-in-None
returns-in-None g c =
    let x = g.N.Nodes.tree c.args.nodes.now c.args.x in
    let y = g.N.Nodes.tree c.args.nodes.now c.args.y in
    let hy : literal_of y ≡ None = search rules in
    record { value = c.sub_open.ensures.value ∙ difference_at_open x y c.requires.open hy }
