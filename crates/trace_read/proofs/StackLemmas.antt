-- The code's stack of open traces.
use Rattle.std.proofs.Common.{◌≡◌, List, [], ◌∷◌, ◌++◌, map, reverse, Option, Some, None, refl, ap, ◌∙◌}
use Rattle.std.specs.Prelude.{MatchOption}
use Rattle.std.proofs.lemmas.List.{reverse-append, map-append}
use Rattle.trace_read.specs.declared.stack.Open as code_open
use Rattle.trace_read.specs.Gathering.{open_view, opens_of}

reverse_push : {A B : Type 0} (f : A → B) (xs : List A) (x : A) → reverse (map f (xs ++ x ∷ [])) ≡ f x ∷ reverse (map f xs)
reverse_push f xs x = ap reverse (map-append f xs (x ∷ [])) ∙ reverse-append (map f xs) (f x ∷ [])

-- one more
pub pushed : (s t : List code_open.Open) (o : code_open.Open) → t ≡ s ++ o ∷ [] → opens_of t ≡ open_view o ∷ opens_of s
unfolding opens_of
pushed s t o e = ap (λ l. reverse (map open_view l)) e ∙ reverse_push open_view s o

-- none
bare : (s : List code_open.Open) → s ≡ [] → opens_of s ≡ []
unfolding opens_of
bare s e = ap (λ l. reverse (map open_view l)) e

-- one less
pub popped : (r : Option code_open.Open) (s t : List code_open.Open) → MatchOption r ((s ≡ []) × (t ≡ [])) (λ last. s ≡ t ++ last ∷ [])
    → MatchOption r ((opens_of s ≡ []) × (opens_of t ≡ [])) (λ o. opens_of s ≡ open_view o ∷ opens_of t)
popped None s t h = (bare s h.0, bare t h.1)
popped (Some o) s t h = pushed t s o h

-- none at first
pub none_open : opens_of [] ≡ []
unfolding opens_of
none_open = refl
