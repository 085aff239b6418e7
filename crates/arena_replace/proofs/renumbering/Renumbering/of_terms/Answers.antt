use Rattle.std.proofs.Common.{ℕ, take, get_or, cond, nat_eq, Some, None, List, Option, ap, sym, ◌∙◌}
use Rattle.std.specs.Option.{option_or}
use Rattle.std.proofs.lemmas.List.{take_more}
use Rattle.term_arena.specs.declared.node.TermId.{TermId}
use Rattle.arena_replace.specs.Renumbering.{first_term}
use Rattle.arena_replace.proofs.RenumberLemmas.{first_term-push}
use Rattle.arena_replace.proofs.renumbering.Renumbering.of_terms.Goals as goal

pub loop-pair-preserved : goal.loop-pair-preserved
loop-pair-preserved c n =
    let i = c.loop-pair.pair-index in
    let pairs = c.args.pairs.now in
    let none : TermId × TermId = (record { number = 0 }, record { number = 0 }) in
    let p = get_or pairs i none in
    c.in_ok-put_first.ensures n
    ∙ ap (λ (o : Option ℕ). option_or o (cond (nat_eq p.0.number n) (Some p.1.number) None)) (c.loop-pair.invariant n)
    ∙ sym (first_term-push (take i pairs) p n)
    ∙ ap (λ (l : List (TermId × TermId)). first_term l n) (sym (take_more pairs i none c.loop-pair-test.true))
