use Rattle.std.proofs.Common.{List, [], ◌∷◌, All, sym, subst}
use Rattle.std.proofs.lemmas.List.Elements.{All-nil, All-cons, All-append}
use Rattle.term_tree.specs.Terms.{IsTyped}
use Rattle.term_arena.specs.declared.node.TermId.{TermId}
use Rattle.term_arena.specs.Answers.{id_term}
use Rattle.goal_cases.proofs.GrowLemmas.{all_stay}
use Rattle.goal_cases.proofs.goals.put.Goals as goal

pub returns-in-Ok-push : goal.returns-in-Ok-push
returns-in-Ok-push c =
    let new = c.intern.new.terms in
    let old = all_stay c.args.terms.now new c.in-Ok.ensures.makes.kept c.args.ids.now.items c.requires.ids in
    let last = All-cons (λ (id : TermId). IsTyped (id_term new id)) c.in-Ok.id [] c.in-Ok.ensures.term.typed (All-nil (λ (id : TermId). IsTyped (id_term new id))) in
    record {
      ids =
          subst (λ (l : List TermId). All (λ (id : TermId). IsTyped (id_term new id)) l) (sym c.in-Ok-push.ensures.items)
          (All-append (λ (id : TermId). IsTyped (id_term new id)) c.args.ids.now.items (c.in-Ok.id ∷ []) old last);
    }
