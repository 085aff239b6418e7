use Rattle.std.proofs.Common.{◌≡◌, ◌∙◌}
use Rattle.bv_bits.specs.contracts.OpPartialEq.TheImpl as op_eq
use Rattle.term_tree.proofs.OpLemmas.{op_same}
use Rattle.term_tree.proofs.trees.same_op.Goals as goal

pub returns : goal.returns
returns c =
    let e : c.eq.result ≡ op_eq.eq-value.it c.args.one c.args.two = c.eq.ensures in
    record { same = e ∙ op_same c.args.one c.args.two }
