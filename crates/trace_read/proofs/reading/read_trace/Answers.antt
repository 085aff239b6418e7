use Rattle.trace_read.proofs.TextLemmas.{text_read, text_fails, read_rules, read_printable, read_few}
use Rattle.trace_read.proofs.reading.read_trace.Goals as goal

pub returns-in-Ok-clause-exact : goal.returns-in-Ok-clause-exact
returns-in-Ok-clause-exact c = text_read c.args.registers.now c.args.text.now c.in-Ok.found.items c.as_slice.result.now c.whole.result c.in-Ok.ensures.exact c.as_slice.ensures.value c.whole.ensures

pub returns-in-Ok-clause-rules : goal.returns-in-Ok-clause-rules
returns-in-Ok-clause-rules c =
    read_rules c.args.registers.now c.args.text.now c.whole.result c.requires
    (text_read c.args.registers.now c.args.text.now c.in-Ok.found.items c.as_slice.result.now c.whole.result c.in-Ok.ensures.exact c.as_slice.ensures.value c.whole.ensures)

pub returns-in-Ok-clause-printable : goal.returns-in-Ok-clause-printable
returns-in-Ok-clause-printable c =
    read_printable c.args.registers.now c.args.text.now c.whole.result c.requires
    (text_read c.args.registers.now c.args.text.now c.in-Ok.found.items c.as_slice.result.now c.whole.result c.in-Ok.ensures.exact c.as_slice.ensures.value c.whole.ensures)

pub returns-in-Ok-clause-few : goal.returns-in-Ok-clause-few
returns-in-Ok-clause-few c =
    read_few c.args.registers.now c.args.text.now c.whole.result c.requires
    (text_read c.args.registers.now c.args.text.now c.in-Ok.found.items c.as_slice.result.now c.whole.result c.in-Ok.ensures.exact c.as_slice.ensures.value c.whole.ensures)

pub returns-in-Err-clause-exact : goal.returns-in-Err-clause-exact
returns-in-Err-clause-exact c = text_fails c.args.registers.now c.args.text.now c.in-Err.fault c.in-Err.ensures.exact
