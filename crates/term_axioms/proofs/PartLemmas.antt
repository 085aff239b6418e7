-- The parts of a term's node, and the term's postorder.
use Rattle.std.proofs.Common.{◌≡◌, ℕ, ◌+◌, ◌<◌, length, get_or, drop, drop-cons, add-one, List, [], ◌∷◌, ◌++◌, map, All, arith, refl, ap, sym, ◌∙◌, subst}
use Rattle.std.specs.Prelude.{slice_get, Some, nat_eq, true}
use Rattle.std.specs.List.{list_any}
use Rattle.std.proofs.lemmas.List.{append_assoc, append-nil}
use Rattle.std.proofs.lemmas.List.Elements.{All-nil, All-cons}
use Rattle.indexmap.specs.IndexSet.{insert_key}
use Rattle.bv_bits.specs.declared.Op.{Op}
use Rattle.term_tree.specs.Terms.{Text, Tree, lit, var, one, two, three, sel, IsTyped}
use Rattle.term_arena.specs.declared.node.TermId.{TermId}
use Rattle.term_arena.specs.Nodes.{Node, lit_node, as_term, meaning_by, meanings_of, term_at}
use Rattle.term_arena.specs.Arena.{IsArena}
use Rattle.term_arena.specs.Answers.{id_term, app_node}
use Rattle.term_arena.specs.Keeping.{EqualTermsAreOne}
use Rattle.term_arena.specs.Built.{arguments_of}
use Rattle.term_arena.proofs.MeaningLemmas.{meaning_at-get}
use Rattle.term_arena.proofs.TopLemmas.{none, app_one, app_two, app_three}
use Rattle.term_copy.specs.Parts.{postorder, all_parts, first_ones, subterms_of}
use Rattle.term_copy.proofs.PartLemmas.{first_ones-append, behind_one}
use Rattle.axiom_trees.specs.Listed.{IsListed}
use Rattle.axiom_trees.proofs.ListedLemmas.{after, there_already}
use Rattle.term_axioms.specs.Listing.{trees}
use Rattle.term_axioms.proofs.PlaceLemmas.{among_ids, added}

-- the postorder is that of the arguments, and then the term
pub postorder_is : (t : Tree) → postorder t ≡ all_parts (arguments_of t) ++ t ∷ []
postorder_is (lit b) = refl
postorder_is (var x w) = refl
postorder_is (one op a) = ap (λ (l : List Tree). l ++ one op a ∷ []) (sym (append-nil (postorder a)))
postorder_is (two op a b) =
    sym (append_assoc (postorder a) (postorder b) (two op a b ∷ []))
    ∙ ap (λ (l : List Tree). (postorder a ++ l) ++ two op a b ∷ []) (sym (append-nil (postorder b)))
postorder_is (three op a b c) =
    let t = three op a b c in
    ap (λ (l : List Tree). postorder a ++ l) (sym (append_assoc (postorder b) (postorder c) (t ∷ [])))
    ∙ sym (append_assoc (postorder a) (postorder b ++ postorder c) (t ∷ []))
    ∙ ap (λ (l : List Tree). (postorder a ++ (postorder b ++ l)) ++ t ∷ []) (sym (append-nil (postorder c)))
postorder_is (sel f i) = ap (λ (l : List Tree). l ++ sel f i ∷ []) (sym (append-nil (postorder i)))

-- ---- the arguments of an operator's node

-- the term of an argument is typed, and its number is lower
abbrev pub IsPart : List Node → ℕ → TermId → Type 0
IsPart nodes i a = (a.number < i) × IsTyped (id_term nodes a)

-- the arguments of a node are these
pub record HasArgs (nodes : List Node) (i : ℕ) (args : List TermId) : Type 0 where
  pub each : All (IsPart nodes i) args
  pub are : arguments_of (term_at nodes i) ≡ map (id_term nodes) args

module _ (nodes : List Node) (ok : IsArena nodes) (i : ℕ) (t : IsTyped (term_at nodes i)) where
  none_typed : (n : Node) → slice_get nodes i ≡ Some n → n ≡ lit_node (record { width = 0; value = 0 }) → ⊥
  none_typed n e same =
      let is : term_at nodes i ≡ lit (record { width = 0; value = 0 }) =
      ap as_term (meaning_at-get nodes i n ok.fine e) ∙ ap (λ (m : Node). as_term (meaning_by (meanings_of nodes) m)) same in
      let low : 0 < 0 = (subst IsTyped is t).positive in
      omega (arith, low)

  pub has_args : (op : Op) (args : List TermId) → slice_get nodes i ≡ Some (app_node op args) → HasArgs nodes i args
  has_args op [] e = absurd (none_typed (app_node op []) e refl)
  has_args op (a ∷ []) e =
      let p = app_one nodes ok i t op a e in
      record { each = All-cons (IsPart nodes i) a [] (p.0, p.1) (All-nil (IsPart nodes i)); are = ap arguments_of p.2 }
  has_args op (a ∷ b ∷ []) e =
      let p = app_two nodes ok i t op a b e in
      let last = All-cons (IsPart nodes i) b [] (p.0.1, p.1.1) (All-nil (IsPart nodes i)) in
      record { each = All-cons (IsPart nodes i) a (b ∷ []) (p.0.0, p.1.0) last; are = ap arguments_of p.2 }
  has_args op (a ∷ b ∷ c ∷ []) e =
      let p = app_three nodes ok i t op a b c e in
      let last = All-cons (IsPart nodes i) c [] (p.0.2, p.1.2) (All-nil (IsPart nodes i)) in
      let two_last = All-cons (IsPart nodes i) b (c ∷ []) (p.0.1, p.1.1) last in
      record { each = All-cons (IsPart nodes i) a (b ∷ c ∷ []) (p.0.0, p.1.0) two_last; are = ap arguments_of p.2 }
  has_args op (a ∷ b ∷ c ∷ d ∷ args) e = absurd (none_typed (app_node op (a ∷ b ∷ c ∷ d ∷ args)) e refl)

-- ---- terms one after the other

-- the parts of the next term, then of those that are left, and then the rest
pub one_more : (f : TermId → Tree) (xs : List TermId) (i : ℕ) (d e last all : List Tree) → i < length xs → e ≡ first_ones d (postorder (f (get_or xs i none)))
    → first_ones d (all_parts (map f (drop i xs)) ++ last) ≡ all → first_ones e (all_parts (map f (drop (i + 1) xs)) ++ last) ≡ all
one_more f xs i d e last all h added whole =
    let x = get_or xs i none in
    let left : drop i xs ≡ x ∷ drop (i + 1) xs = drop-cons xs i none h ∙ ap (λ n. x ∷ drop n xs) (sym (add-one i)) in
    let more = all_parts (map f (drop (i + 1) xs)) in
    ap (λ l. first_ones l (more ++ last)) added
    ∙ sym (first_ones-append d (postorder (f x)) (more ++ last))
    ∙ ap (first_ones d) (sym (append_assoc (postorder (f x)) more last))
    ∙ ap (λ ys. first_ones d (all_parts (map f ys) ++ last)) (sym left)
    ∙ whole

-- the same with nothing behind them
pub next_one : (f : TermId → Tree) (xs : List TermId) (i : ℕ) (d e all : List Tree) → i < length xs → e ≡ first_ones d (postorder (f (get_or xs i none)))
    → first_ones d (all_parts (map f (drop i xs))) ≡ all → first_ones e (all_parts (map f (drop (i + 1) xs))) ≡ all
next_one f xs i d e all h added whole =
    ap (first_ones e) (sym (append-nil (all_parts (map f (drop (i + 1) xs)))))
    ∙ one_more f xs i d e [] all h added (ap (first_ones d) (append-nil (all_parts (map f (drop i xs)))) ∙ whole)

-- facts and then a goal
pub then_goal : (ts : List Tree) (goal : Tree) (d e : List Tree) → d ≡ first_ones [] (all_parts ts) → e ≡ first_ones d (postorder goal) → e ≡ subterms_of (ts ++ goal ∷ [])
then_goal ts goal d e first second =
    second ∙ ap (λ l. first_ones l (postorder goal)) first
    ∙ sym (first_ones-append [] (all_parts ts) (postorder goal))
    ∙ ap (first_ones []) (sym (parts-append ts goal))
  where
    parts-append : (xs : List Tree) (t : Tree) → all_parts (xs ++ t ∷ []) ≡ all_parts xs ++ postorder t
    parts-append [] t = append-nil (postorder t)
    parts-append (x ∷ xs) t = ap (λ l. postorder x ++ l) (parts-append xs t) ∙ sym (append_assoc (postorder x) (all_parts xs) (postorder t))

-- ---- a term that goes behind its parts

-- it is what its postorder adds, and all stay listed
pub record Ends (nodes : List Node) (d : List Tree) (ids : List ℕ) (t : Tree) : Type 0 where
  pub added : trees nodes ids ≡ first_ones d (postorder t)
  pub listed : IsListed (trees nodes ids)

module _ (nodes : List Node) (one_each : EqualTermsAreOne nodes) (i : ℕ) (typed : IsTyped (term_at nodes i)) where
  pub ends : (d : List Tree) (ids more : List ℕ) → IsListed d → first_ones (trees nodes ids) (term_at nodes i ∷ []) ≡ first_ones d (postorder (term_at nodes i)) → more ≡ insert_key nat_eq ids i → Ends nodes d more (term_at nodes i)
  ends d ids more listed left is =
      let added_is : trees nodes more ≡ first_ones d (postorder (term_at nodes i)) = ap (trees nodes) is ∙ added nodes one_each i typed ids ∙ left in
      record { added = added_is; listed = subst IsListed (sym added_is) (after (term_at nodes i) typed d listed).listed }

  pub there : (d : List ℕ) → IsListed (trees nodes d) → list_any (nat_eq i) d ≡ true → trees nodes d ≡ first_ones (trees nodes d) (postorder (term_at nodes i))
  there d listed h = sym (there_already (term_at nodes i) (trees nodes d) listed (sym (among_ids nodes one_each i typed d) ∙ h))

-- a term without parts
pub alone : (d : List Tree) (t s : Tree) → t ≡ s → postorder s ≡ s ∷ [] → first_ones d (t ∷ []) ≡ first_ones d (postorder t)
alone d t s is lone = ap (λ (l : List Tree). first_ones d l) (ap (λ (x : Tree). x ∷ []) is ∙ sym lone ∙ ap postorder (sym is))

-- a byte behind its index
pub behind_index : (d e : List Tree) (t i : Tree) (f : Text) → t ≡ sel f i → e ≡ first_ones d (postorder i) → first_ones e (t ∷ []) ≡ first_ones d (postorder t)
behind_index d e t i f is first = behind_one d e i t (ap postorder is ∙ ap (λ (x : Tree). postorder i ++ x ∷ []) (sym is)) first

-- the parts of the arguments, and then the term
pub whole : (nodes : List Node) (i : ℕ) (args : List TermId) (d : List Tree) → HasArgs nodes i args → first_ones d (all_parts (map (id_term nodes) args) ++ term_at nodes i ∷ []) ≡ first_ones d (postorder (term_at nodes i))
whole nodes i args d h =
    ap (λ (l : List Tree). first_ones d (all_parts l ++ term_at nodes i ∷ [])) (sym h.are) ∙ ap (first_ones d) (sym (postorder_is (term_at nodes i)))
