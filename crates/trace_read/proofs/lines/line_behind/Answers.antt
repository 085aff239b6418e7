use Rattle.trace_read.proofs.lines.line_behind.Goals as goal

pub returns-in-ReadMem-clause-fine : goal.returns-in-ReadMem-clause-fine
returns-in-ReadMem-clause-fine c = c.read_mem_line.ensures.fine _

pub returns-in-WriteMem-clause-fine : goal.returns-in-WriteMem-clause-fine
returns-in-WriteMem-clause-fine c = c.write_mem_line.ensures.fine _

pub returns-in-Assume-clause-fine : goal.returns-in-Assume-clause-fine
returns-in-Assume-clause-fine c = c.assume_line.ensures.fine _

pub returns-in-Need-clause-fine : goal.returns-in-Need-clause-fine
returns-in-Need-clause-fine c = c.need_line.ensures.fine _

pub returns-in-Fail-clause-fine : goal.returns-in-Fail-clause-fine
returns-in-Fail-clause-fine c = c.fail_line.ensures.fine _

pub returns-in-Cases-clause-fine : goal.returns-in-Cases-clause-fine
returns-in-Cases-clause-fine c = c.cases_line.ensures.fine _
