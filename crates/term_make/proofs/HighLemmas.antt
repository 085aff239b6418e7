-- Several terms that are made in a row go too high where one does, and where something on the way is too high.
use Rattle.std.proofs.Common.{◌≡◌, ◌↔◌, ◌⊎◌, inl, inr, Bool, true, ◌||◌, None, sym, ◌∙◌}
use Rattle.std.specs.Prelude.{nat_lt}
use Rattle.std.specs.List.{list_any}
use Rattle.std.proofs.lemmas.Bool.{or_cases, or_left, or_right, ltb-true, lt-ltb}
use Rattle.std.proofs.lemmas.List.Folds.{Any-from_list_any, list_any-from_Any}
use Rattle.term_tree.specs.Terms.{Tree, ArrayTree, height, array_height, HIGHEST}
use Rattle.term_make.specs.Making.{Asked, Made, made_then, is_high, goes_high, within_height}
use Rattle.term_make.specs.Laws.{IsHigh}
use Rattle.term_make.proofs.AnswerLemmas.{high_then, not_within, outside, then_first_outside}

pub high_in_a_row : (m n : Made Tree) → goes_high (made_then m (λ x. n)) ≡ (goes_high m || goes_high n)
high_in_a_row m n = high_then m (λ x. n)

either_outside : (m : Made Tree) (f : Tree → Made Tree) → (goes_high m ≡ true) ⊎ (goes_high (f m.it) ≡ true) → (within_height m ≡ None) ⊎ (within_height (f m.it) ≡ None)
either_outside m f (inl h) = inl (outside m h)
either_outside m f (inr h) = inr (outside (f m.it) h)

outside_either : (m : Made Tree) (f : Tree → Made Tree) → (within_height m ≡ None) ⊎ (within_height (f m.it) ≡ None) → within_height (made_then m f) ≡ None
outside_either m f (inl h) = then_first_outside m f h
outside_either m f (inr h) = outside (made_then m f) (high_then m f ∙ or_right (goes_high m) (goes_high (f m.it)) (not_within (f m.it) h))

pub within_in_a_row : (m : Made Tree) (f : Tree → Made Tree) → (within_height (made_then m f) ≡ None) ↔ ((within_height m ≡ None) ⊎ (within_height (f m.it) ≡ None))
within_in_a_row m f = (λ h. either_outside m f (or_cases (goes_high m) (goes_high (f m.it)) (sym (high_then m f) ∙ not_within (made_then m f) h)), outside_either m f)

-- ---- what is too high

abbrev high_stored : ArrayTree → Bool
high_stored f = nat_lt HIGHEST (array_height f)

high_of : (m : Made Tree) → (list_any (λ (a : Asked). is_high a.1) m.asked ≡ true) ⊎ (list_any high_stored m.stored ≡ true) → IsHigh m
high_of m (inl h) = let a = Any-from_list_any (λ (a : Asked). is_high a.1) m.asked h in inl (a.0, a.1, a.2, a.3, ltb-true HIGHEST (height a.1.1) a.4)
high_of m (inr h) = let a = Any-from_list_any high_stored m.stored h in inr (a.0, a.1, a.2, a.3, ltb-true HIGHEST (array_height a.1) a.4)

of_high : (m : Made Tree) → IsHigh m → goes_high m ≡ true
of_high m (inl a) = or_left _ _ (list_any-from_Any (λ (a : Asked). is_high a.1) m.asked (a.0, a.1, a.2, a.3, lt-ltb HIGHEST (height a.1.1) a.4))
of_high m (inr a) = or_right _ _ (list_any-from_Any high_stored m.stored (a.0, a.1, a.2, a.3, lt-ltb HIGHEST (array_height a.1) a.4))

pub outside_is_high : (m : Made Tree) → (within_height m ≡ None) ↔ IsHigh m
outside_is_high m = (λ h. high_of m (or_cases _ _ (not_within m h)), λ h. outside m (of_high m h))
