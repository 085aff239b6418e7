use Rattle.std.proofs.Common.{◌≡◌, Err, ap, map, sym, subst, ◌∙◌, arith}
use Rattle.trace_plain.specs.View.{event_of}
use Rattle.term_words.specs.Scopes.{Scope}
use Rattle.trace_read.specs.declared.fault.TraceFault.TheVariants as fault
use Rattle.trace_read.specs.declared.stack.Turn.{Turn}
use Rattle.trace_read.specs.declared.stack.Turn.TheVariants as own_turn
use Rattle.trace_read.specs.Gathering.{opens_of, LeadsTo}
use Rattle.trace_read.specs.Lines.{line}
use Rattle.trace_read.specs.Readers.{is_want, left, line_of}
use Rattle.trace_read.specs.Reading.{whole}
use Rattle.trace_read.proofs.LoopLemmas.{reaches_more, reaches_end, reaches_more_words, reaches_fault, reaches_most}
use Rattle.trace_read.proofs.TextLemmas.{unless_so, ended_gives}
use Rattle.trace_read.proofs.reading.among.Goals as goal

pub returns-in-Err : goal.returns-in-Err
returns-in-Err c =
    unless_so (is_want c.in-Err.fault) _ _
    (λ e. reaches_fault c.args.registers.now c.loop.counter c.loop.scope (opens_of c.loop.stack) (map event_of c.loop.events) (left c.loop.behind) (left c.args.rest) c.loop.invariant c.loop-test.true
    c.in-Err.fault (ap (λ (s : Scope). line c.args.registers.now s (left c.loop.behind)) (sym c.as_slice.ensures) ∙ e))
    c.in-Err.ensures.exact

pub returns-in-Ok-Ends : goal.returns-in-Ok-Ends
returns-in-Ok-Ends c =
    let read = ap (λ (s : Scope). line c.args.registers.now s (left c.loop.behind)) (sym c.as_slice.ensures) ∙ c.in-Ok.ensures.exact in
    let turned : LeadsTo c.args.registers.now c.loop.scope (opens_of c.loop.stack) (map event_of c.loop.events) (line_of c.in-Ok.found.0) (own_turn.Ends c.in-Ok-Ends.trace) c.take_line.new.scope (opens_of c.take_line.new.stack) =
    subst (λ (t : Turn). LeadsTo c.args.registers.now c.loop.scope (opens_of c.loop.stack) (map event_of c.loop.events) (line_of c.in-Ok.found.0) t c.take_line.new.scope (opens_of c.take_line.new.stack))
    c.in-Ok-Ends.field-0-is c.in-Ok-Ends.ensures.turn in
    ended_gives c.ended.result (whole c.args.registers.now (left c.args.rest)) (left c.in-Ok.found.1) c.in-Ok-Ends.trace c.ended.ensures
    (λ none. reaches_end c.args.registers.now c.loop.counter c.loop.scope (opens_of c.loop.stack) (map event_of c.loop.events) (left c.loop.behind) (left c.args.rest) c.loop.invariant c.loop-test.true
    (line_of c.in-Ok.found.0) (left c.in-Ok.found.1) c.in-Ok-Ends.trace c.take_line.new.scope (opens_of c.take_line.new.stack) read turned none)
    (λ some. reaches_more_words c.args.registers.now c.loop.counter c.loop.scope (opens_of c.loop.stack) (map event_of c.loop.events) (left c.loop.behind) (left c.args.rest) c.loop.invariant c.loop-test.true
    (line_of c.in-Ok.found.0) (left c.in-Ok.found.1) c.in-Ok-Ends.trace c.take_line.new.scope (opens_of c.take_line.new.stack) read turned some)

pub loop-preserved : goal.loop-preserved
loop-preserved c =
    let read = ap (λ (s : Scope). line c.args.registers.now s (left c.loop.behind)) (sym c.as_slice.ensures) ∙ c.in-Ok.ensures.exact in
    let turned : LeadsTo c.args.registers.now c.loop.scope (opens_of c.loop.stack) (map event_of c.loop.events) (line_of c.in-Ok.found.0) (own_turn.Goes c.in-Ok-Goes.more) c.take_line.new.scope (opens_of c.take_line.new.stack) =
    subst (λ (t : Turn). LeadsTo c.args.registers.now c.loop.scope (opens_of c.loop.stack) (map event_of c.loop.events) (line_of c.in-Ok.found.0) t c.take_line.new.scope (opens_of c.take_line.new.stack))
    c.in-Ok-Goes.field-0-is c.in-Ok-Goes.ensures.turn in
    reaches_more c.args.registers.now c.loop.counter c.loop.scope (opens_of c.loop.stack) (map event_of c.loop.events) (left c.loop.behind) (left c.args.rest) c.loop.invariant c.loop-test.true
    (line_of c.in-Ok.found.0) (left c.in-Ok.found.1) c.in-Ok-Goes.more c.take_line.new.scope (opens_of c.take_line.new.stack) read turned c.in-Ok-Goes.ensures.path

pub returns : goal.returns
returns c =
    reaches_most c.args.registers.now c.loop.counter c.loop.scope (opens_of c.loop.stack) (map event_of c.loop.events) (left c.loop.behind) (left c.args.rest) c.loop.invariant (omega arith)
    ∙ ap (λ at. Err (fault.TraceForm at)) (sym c.place.ensures)
