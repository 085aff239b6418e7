use Rattle.std.proofs.Common.{subst}
use Rattle.term_read.specs.declared.term_reading.Whole.{Whole}
use Rattle.term_read.specs.ReadingView.{whole_view, IsFineWhole}
use Rattle.term_read.proofs.ReadingLemmas.{applied_typed, all_low}
use Rattle.term_read.proofs.term_reading.make_whole.Goals as goal

pub make-requires-clause-typed : goal.make-requires-clause-typed
make-requires-clause-typed c =
    let fine = subst (λ (w : Whole). IsFineWhole (whole_view w)) c.in-Application.is c.requires in
    applied_typed _ _ fine.0 fine.1

pub make-requires-clause-low : goal.make-requires-clause-low
make-requires-clause-low c =
    let fine = subst (λ (w : Whole). IsFineWhole (whole_view w)) c.in-Application.is c.requires in
    all_low _ fine.0
