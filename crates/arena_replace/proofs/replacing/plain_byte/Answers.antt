use Rattle.std.proofs.Common.{◌≡◌, [], ◌∷◌, ap, sym, ◌∙◌, subst}
use Rattle.term_tree.specs.Terms.{Text, Tree, sel}
use Rattle.term_make.specs.Making.{asks, just}
use Rattle.term_arena.specs.Nodes.{of_term}
use Rattle.term_arena.specs.Answers.{id_term}
use Rattle.term_arena.specs.Said.{Said, said_of}
use Rattle.term_arena.specs.Makes.{AreLow}
use Rattle.term_arena.proofs.MeaningLemmas.{keeps_trans}
use Rattle.term_arena.proofs.MakesLemmas.{makes_as}
use Rattle.term_arena.proofs.CoverLemmas.{makes_more}
use Rattle.arena_make.proofs.RightLemmas.{covers_plain}
use Rattle.term_arena.proofs.StayLemmas.{term_stays, one_low}
use Rattle.arena_replace.proofs.SubstituteLemmas.{sel_name}
use Rattle.arena_replace.proofs.replacing.plain_byte.Goals as goal

pub returns-in-Ok-clause-makes : goal.returns-in-Ok-clause-makes
returns-in-Ok-clause-makes c f i e =
    let o = c.args.terms.now in
    let at = c.args.at in
    let m = c.add_term.ensures.makes in
    let name : c.bytes.result.now ≡ f = c.bytes.ensures ∙ c.in-Ok.ensures ∙ sel_name c.in-Sel.of.now f _ i (sym c.in-Sel.ensures.term ∙ e) in
    makes_as
    (makes_more m
    (λ last k.
    covers_plain (sel c.bytes.result.now (id_term last at))
    (subst (λ (t : Tree). AreLow (of_term t ∷ [])) (sym (term_stays o last (keeps_trans o _ last m.kept k) at c.requires.index.1)) (one_low o at c.laws.ensures.arena c.requires.index.1))))
    (λ last k. ap (λ (x : Text). let s : Said ⊥ Tree = said_of (asks (sel x (id_term last at)) (just (sel x (id_term last at)))) in s) name)
