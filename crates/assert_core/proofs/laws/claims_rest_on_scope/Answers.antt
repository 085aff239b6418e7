use Rattle.assert_core.specs.Sorts.{scope_of}
use Rattle.assert_core.proofs.ClaimLemmas.{same_in_all}
use Rattle.assert_core.proofs.laws.claims_rest_on_scope.Goals as goal

pub returns : goal.returns
returns c fixed a n v u h agree =
    same_in_all c.agreeing_values.ensures.values c.agreeing_values.ensures.bytes (scope_of fixed a) v u agree n a.items h.items
