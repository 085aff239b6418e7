-- Typed terms stay typed as their list grows.
use Rattle.std.proofs.Common.{List, [], ◌∷◌, ◌++◌, All}
use Rattle.std.proofs.lemmas.List.Elements.{All-nil, All-cons, All-head, All-tail}
use Rattle.term_tree.specs.Terms.{IsTyped}
use Rattle.term_arena.specs.declared.node.TermId.{TermId}
use Rattle.term_arena.specs.Nodes.{Node, Keeps}
use Rattle.term_arena.specs.Answers.{id_term}
use Rattle.term_arena.proofs.StayLemmas.{typed_stays}

pub all_stay : (old new : List Node) → Keeps old new → (ids : List TermId) → All (λ id. IsTyped (id_term old id)) ids → All (λ id. IsTyped (id_term new id)) ids
all_stay old new k [] h = All-nil (λ id. IsTyped (id_term new id))
all_stay old new k (id ∷ ids) h =
    All-cons (λ id. IsTyped (id_term new id)) id ids (typed_stays old new k id (All-head (λ id. IsTyped (id_term old id)) id ids h))
    (all_stay old new k ids (All-tail (λ id. IsTyped (id_term old id)) id ids h))

-- what holds of all holds of those before the last, and of the last
pub all_front : (P : TermId → Type 0) (xs : List TermId) (x : TermId) → All P (xs ++ x ∷ []) → All P xs
all_front P [] x h = All-nil P
all_front P (y ∷ xs) x h = All-cons P y xs (All-head P y (xs ++ x ∷ []) h) (all_front P xs x (All-tail P y (xs ++ x ∷ []) h))

pub all_last : (P : TermId → Type 0) (xs : List TermId) (x : TermId) → All P (xs ++ x ∷ []) → P x
all_last P [] x h = All-head P x [] h
all_last P (y ∷ xs) x h = all_last P xs x (All-tail P y (xs ++ x ∷ []) h)
