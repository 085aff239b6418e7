use Rattle.std.proofs.Common.{refl, sym, ap, subst}
use Rattle.std.specs.Prelude.{Err}
use Rattle.term_arena.specs.Nodes.{as_array, meaning_by, meanings_of}
use Rattle.term_arena.specs.Arena.{IsTypedMeaning, asked_node}
use Rattle.term_arena.specs.Answers.{id_array}
use Rattle.term_arena.proofs.MeaningLemmas.{array_is}
use Rattle.term_arena.proofs.AddedLemmas.{added_ok, added_err}
use Rattle.term_arena.proofs.terms.Terms.add_array.Goals as goal

pub returns-in-Ok-clause-makes : goal.returns-in-Ok-clause-makes
returns-in-Ok-clause-makes c =
    let n = asked_node c.args.self.now c.args.node in
    let typed = subst IsTypedMeaning (sym (array_is (meaning_by (meanings_of c.args.self.now) n) c.requires.typed)) c.requires.typed in
    let h = c.in-Ok.ensures in
    added_ok c.args.self.now c.add.new.self n typed h.kept h.added id_array as_array _ c.in-Ok.number (λ last. refl) h.made h.means h.low

pub returns-in-Err-clause-makes : goal.returns-in-Err-clause-makes
returns-in-Err-clause-makes c =
    let n = asked_node c.args.self.now c.args.node in
    let typed = subst IsTypedMeaning (sym (array_is (meaning_by (meanings_of c.args.self.now) n) c.requires.typed)) c.requires.typed in
    let h = c.in-Err.ensures in
    added_err c.args.self.now c.add.new.self n typed h.kept h.added id_array as_array c.in-Err.fault c.laws.ensures.arena h.err
    (λ e. h.full (ap Err e)) (λ e. h.high (ap Err e))
