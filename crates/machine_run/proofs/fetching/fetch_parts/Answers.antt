use Rattle.state_core.specs.Memory.{fetch}
use Rattle.eval_rules.proofs.Passed.{part_first}
use Rattle.eval_parts.proofs.Passing.{handed_passed, result_passed}
use Rattle.machine_run.specs.Passed.{fetch_moments, second_moments, behind_fetch}
use Rattle.machine_run.proofs.Left.{part_behind}
use Rattle.machine_run.proofs.fetching.fetch_parts.Goals as goal

pub returns-in_err-low-clause-passed : goal.returns-in_err-low-clause-passed
returns-in_err-low-clause-passed c =
    let ranges = c.args.devs.now.ranges in
    let at = c.args.addr in
    let w = c.args.world.now in
    handed_passed (part_first w (fetch_moments ranges at 2 w) (behind_fetch (fetch ranges at 2 w) (second_moments ranges at))) c.from_residual.result c.in_err-low.field-0.0 c.fetch.new.self
    c.from_residual.ensures c.in_err-low.ensures.passed

pub returns-clause-passed : goal.returns-clause-passed
returns-clause-passed c =
    let ranges = c.args.devs.now.ranges in
    let at = c.args.addr in
    let w = c.args.world.now in
    result_passed (part_behind w c.fetch.new.self (fetch_moments ranges at 2 w) (second_moments ranges at) c.in_ok-low.low (fetch ranges at 2 w) c.in_ok-low.ensures.value)
    c.fetch_rest.result c.fetch_rest.new.world c.fetch_rest.ensures.passed
