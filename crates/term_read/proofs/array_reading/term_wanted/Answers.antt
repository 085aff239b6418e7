use Rattle.std.proofs.Common.{List, sym, ap, subst, ◌∙◌}
use Rattle.term_read.specs.Reading.{Frame, wanted, array_goes, in_term}
use Rattle.term_read.specs.ReadingView.{frames_of, slot_view, HoldTerms}
use Rattle.term_read.proofs.ReadingLemmas.{none_open}
use Rattle.term_read.proofs.array_reading.term_wanted.Goals as goal

pub returns-clause-turn : goal.returns-clause-turn
returns-clause-turn c = λ a. ap (λ (k : List Frame). array_goes a (in_term (slot_view c.args.slot) k wanted)) (sym (ap frames_of c.new.ensures ∙ none_open))

pub returns-clause-fine : goal.returns-clause-fine
returns-clause-fine c = λ a fine held. ((fine, subst HoldTerms (sym (ap frames_of c.new.ensures ∙ none_open)) tt, tt), held)
