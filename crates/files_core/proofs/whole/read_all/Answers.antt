use Rattle.std.proofs.Common.{◌∙◌, arith, take}
use Rattle.files_core.proofs.WholeLemmas.{written_back, taken, piece_more, whole_now, read_past}
use Rattle.files_core.proofs.whole.read_all.Goals as goal

pub returns-in-Got-eq0-clause-answer : goal.returns-in-Got-eq0-clause-answer
returns-in-Got-eq0-clause-answer g c = (
  omega (arith, c.loop-files-test.true, c.len.ensures),
  whole_now _ _ _ _ c.read_at.new.buf _ _ c.loop-files.invariant.store (c.len-in-loop-files.ensures ∙ c.loop-files.text.ok.0) c.in-Got-eq0.field-0-test
      (let a = c.read_at.auto.buf in let b = c.deref_mut.ensures.len in let d = c.loop-files.invariant.room in omega (arith, a, b, d)) c.loop-files.invariant.start c.in-Got-eq0.ensures.answer.1,
)

pub loop-files-preserved : goal.loop-files-preserved
loop-files-preserved g c = record {
  start = piece_more _ _ _ _ _ c.read_at.new.buf (take c.in-Got.count c.deref.result.now) _ _ c.loop-files.invariant.store
      (c.len-in-loop-files.ensures ∙ c.loop-files.text.ok.0)
      (written_back _ _ _ _ _ (let a = c.read_at.auto.buf in let b = c.deref_mut.ensures.len in omega (arith, a, b)) c.deref.ensures.value)
      (taken _ _ _ _ c.extend_from_slice.ensures.items c.if-is_err.ensures.negation)
      c.loop-files.invariant.start c.in-Got.ensures.answer.1;
  room = c.loop-files.invariant.room;
  store = c.in-Got.ensures.store ∙ c.loop-files.invariant.store;
  faults = omega (arith, c.loop-files.invariant.faults, c.in-Got.ensures.faults);
  missing = omega (arith, c.loop-files.invariant.missing, c.in-Got.ensures.missing);
}

pub returns-clause-answer : goal.returns-clause-answer
returns-clause-answer g c = read_past _ _ _ _ c.loop-files.invariant.start (omega (arith, c.loop-files-test.false, c.len.ensures, c.loop-files.text.ok.0))
