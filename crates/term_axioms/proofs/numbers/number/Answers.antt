use Rattle.std.proofs.Common.{◌∙◌}
use Rattle.term_tree.specs.Terms.{IsTyped}
use Rattle.term_arena.specs.Answers.{id_term}
use Rattle.term_axioms.specs.Listing.{trees}
use Rattle.axiom_trees.specs.Numbered.{number_in}
use Rattle.axiom_trees.proofs.PlaceLemmas.{number_at}
use Rattle.term_axioms.proofs.PlaceLemmas.{among_ids, place_is, few_listed}
use Rattle.term_axioms.proofs.numbers.number.Goals as goal

pub place-requires-clause-there : goal.place-requires-clause-there
place-requires-clause-there c =
    let nodes = c.args.terms.now in
    let t = id_term nodes c.args.id in
    let ts = trees nodes c.args.places.now in
    let typed : IsTyped t = c.requires.listed.typed (number_in ts t) t (number_at ts t c.requires.there) in
    among_ids nodes c.laws.ensures.equal c.args.id.number typed c.args.places.now ∙ c.requires.there

pub place-requires-clause-few : goal.place-requires-clause-few
place-requires-clause-few c = few_listed c.args.terms.now c.args.places.now c.laws.ensures.arena c.requires.listed

pub returns : goal.returns
returns c =
    let nodes = c.args.terms.now in
    let t = id_term nodes c.args.id in
    let ts = trees nodes c.args.places.now in
    let typed : IsTyped t = c.requires.listed.typed (number_in ts t) t (number_at ts t c.requires.there) in
    c.place.ensures ∙ place_is nodes c.laws.ensures.equal c.args.id.number typed c.args.places.now
