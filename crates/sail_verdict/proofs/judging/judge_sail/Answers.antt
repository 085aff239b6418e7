use Rattle.report_text.specs.Outcome.{said_of}
use Rattle.sail_verdict.proofs.Verdicts.{types_told, typed_told}
use Rattle.sail_verdict.proofs.judging.judge_sail.Goals as goal

pub returns-in-Ok-check : goal.returns-in-Ok-check
returns-in-Ok-check c = record { told = typed_told c.args.file.now c.args.text.now c.in-Ok.program c.in-Ok-check.typed c.in-Ok.ensures.exact c.in-Ok-check.ensures.exact }

pub returns-in_ok-type_fault-in-Err-check : goal.returns-in_ok-type_fault-in-Err-check
returns-in_ok-type_fault-in-Err-check c =
    record { told = types_told c.args.file.now c.args.text.now c.in-Ok.program c.in-Err-check.fault (said_of c.in_ok-type_fault-in-Err-check.field-0) c.in-Ok.ensures.exact c.in-Err-check.ensures.exact c.in_ok-type_fault-in-Err-check.ensures.said }
