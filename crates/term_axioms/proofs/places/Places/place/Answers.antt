use Rattle.std.proofs.Common.{ℕ, List, ◌<◌, ◌≤◌, ◌^◌, All, arith, length, subst, sym}
use Rattle.term_axioms.proofs.PlaceLemmas.{few_places}
use Rattle.term_axioms.proofs.places.Places.place.Goals as goal

pub overflow_cast-result : goal.overflow_cast-result
overflow_cast-result c =
    let ids = c.self.inside.ids.keys in
    let below : All (λ (i : ℕ). i < 2 ^ 32) ids = subst (λ (l : List ℕ). All (λ (i : ℕ). i < 2 ^ 32) l) (sym c.self.view_is) c.requires.few in
    let few : length ids ≤ 2 ^ 32 = few_places (2 ^ 32) ids c.self.invariant below in
    let within : c.in-Some.place < length ids = c.in-Some.ensures.within in
    omega (arith, few, within)
