use Rattle.std.proofs.Common.{◌≡◌, ◌<◌, ◌≤◌, ◌^◌, ℕ, List, length, get_or, ap, sym, ◌∙◌, subst, arith}
use Rattle.std.specs.Prelude.{Some}
use Rattle.term_arena.specs.Nodes.{term_at}
use Rattle.term_axioms.specs.Listing.{trees}
use Rattle.term_axioms.proofs.PlaceLemmas.{few_listed}
use Rattle.term_axioms.proofs.ArrayLemmas.{tree_at, one_more_sub}
use Rattle.term_axioms.proofs.numbers.subs.Goals as goal

pub overflow_cast-here : goal.overflow_cast-here
overflow_cast-here c =
    let few : length c.args.places.now ≤ 2 ^ 32 = c.as_slice-number-items.ensures.few (few_listed c.args.terms.now c.args.places.now c.laws.ensures.arena c.requires.listed) in
    let same : length c.as_slice-number-items.result.now ≡ length c.args.places.now = ap length c.as_slice-number-items.ensures.numbers in
    let within = c.loop-here-test.true in
    omega (arith, few, same, within)

pub sub_at-requires-clause-at : goal.sub_at-requires-clause-at
sub_at-requires-clause-at c =
    let nodes = c.args.terms.now in
    let i = c.loop-here.here in
    let is = c.as_slice-number-items.ensures.numbers in
    let lt : i < length c.args.places.now = subst (λ (l : List ℕ). i < length l) is c.loop-here-test.true in
    tree_at nodes c.args.places.now i lt ∙ ap (λ (l : List ℕ). Some (term_at nodes (get_or l i 0))) (sym is)

pub loop-here-preserved : goal.loop-here-preserved
loop-here-preserved c =
    let nodes = c.args.terms.now in
    let ts = trees nodes c.args.places.now in
    let i = c.loop-here.here in
    let is = c.as_slice-number-items.ensures.numbers in
    let lt : i < length c.args.places.now = subst (λ (l : List ℕ). i < length l) is c.loop-here-test.true in
    let at = tree_at nodes c.args.places.now i lt ∙ ap (λ (l : List ℕ). Some (term_at nodes (get_or l i 0))) (sym is) in
    record {
      items = is;
      subs =
          c.in_ok-push.ensures.items
          ∙ one_more_sub ts i (term_at nodes (get_or c.as_slice-number-items.result.now i 0)) c.loop-here.subs.items c.in_ok-sub_at.field-0 at c.in_ok-sub_at.ensures.sub c.loop-here.invariant.subs;
      arrays = c.in_ok-sub_at.ensures.after;
    }
