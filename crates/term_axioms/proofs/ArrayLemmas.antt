-- The first bytes of arrays, as a list of terms grows.
use Rattle.std.proofs.Common.{◌≡◌, ℕ, zero, suc, ◌+◌, add-one, Bool, true, false, cond, ◌||◌, List, [], ◌∷◌, ◌++◌, length, ◌<◌, map, get_or, take, Some, None, refl, ap, sym, ◌∙◌, subst, arith}
use Rattle.std.specs.Prelude.{slice_get, bytes_eq}
use Rattle.std.specs.Global.{Vec}
use Rattle.std.specs.List.{list_any}
use Rattle.std.specs.Map.{lookup}
use Rattle.std.proofs.lemmas.Bool.{or_left, or_right}
use Rattle.std.proofs.lemmas.List.{append_assoc, map-append, length-map, get_or-map}
use Rattle.std.proofs.lemmas.Option.{slice_get-get_or}
use Rattle.std.proofs.lemmas.List.Folds.{list_any-append}
use Rattle.term_tree.specs.Terms.{Text, Tree, sel}
use Rattle.term_tree.proofs.SameLemmas.{same_text, text_itself}
use Rattle.bv_bits.specs.declared.Op.{Op}
use Rattle.term_arena.specs.declared.node.TermId.{TermId}
use Rattle.term_arena.specs.Nodes.{Node, Meaning, as_term, meaning_by, term_at}
use Rattle.term_arena.specs.Answers.{app_node}
use Rattle.axiom_rules.specs.declared.node.Sub.{Sub}
use Rattle.axiom_trees.specs.Numbered.{is_byte_of, array_in, sub_in}
use Rattle.axiom_trees.proofs.PlaceLemmas.{place_stays, place_new}
use Rattle.term_axioms.specs.Listing.{trees}
use Rattle.term_axioms.specs.Arrays.{first_byte}

none_later : (b c : Bool) → c ≡ false → (b || c) ≡ b
none_later true c e = refl
none_later false c e = e

-- texts are the same either way
pub same_ways : (x y : Text) → bytes_eq x y ≡ bytes_eq y x
same_ways x y = by (bytes_eq x y) refl (bytes_eq y x) refl
  where
    by : (b : Bool) → bytes_eq x y ≡ b → (c : Bool) → bytes_eq y x ≡ c → bytes_eq x y ≡ bytes_eq y x
    by true h c g = h ∙ sym (text_itself y) ∙ ap (bytes_eq y) (sym (same_text x y h))
    by false h false g = h ∙ sym g
    by false h true g = h ∙ sym (sym (text_itself x) ∙ ap (bytes_eq x) (sym (same_text y x g)) ∙ h) ∙ sym g

-- a term that is no byte of the array
pub other_term : (ts : List Tree) (t : Tree) (f : Text) → is_byte_of f t ≡ false → first_byte (ts ++ t ∷ []) f ≡ first_byte ts f
other_term ts t f e = by (list_any (is_byte_of f) ts) refl
  where
    any : list_any (is_byte_of f) (ts ++ t ∷ []) ≡ list_any (is_byte_of f) ts
    any = list_any-append (is_byte_of f) ts (t ∷ []) ∙ none_later (list_any (is_byte_of f) ts) (is_byte_of f t || false) (ap (λ (b : Bool). b || false) e)

    by : (b : Bool) → list_any (is_byte_of f) ts ≡ b → first_byte (ts ++ t ∷ []) f ≡ first_byte ts f
    by true h =
        ap (λ (b : Bool). cond b (Some (array_in (ts ++ t ∷ []) f)) None) any
        ∙ ap (λ (n : ℕ). cond (list_any (is_byte_of f) ts) (Some n) None) (place_stays (is_byte_of f) ts (t ∷ []) h)
    by false h =
        ap (λ (b : Bool). cond b (Some (array_in (ts ++ t ∷ []) f)) None) (any ∙ h)
        ∙ sym (ap (λ (b : Bool). cond b (Some (array_in ts f)) None) h)

-- what is known of an array that has a byte
some_first : (ts : List Tree) (f : Text) (n : ℕ) → first_byte ts f ≡ Some n → (list_any (is_byte_of f) ts ≡ true) × (n ≡ array_in ts f)
some_first ts f n e = by (list_any (is_byte_of f) ts) refl
  where
    by : (b : Bool) → list_any (is_byte_of f) ts ≡ b → (list_any (is_byte_of f) ts ≡ true) × (n ≡ array_in ts f)
    by true h =
        let is : Some (array_in ts f) ≡ Some n = sym (ap (λ (b : Bool). cond b (Some (array_in ts f)) None) h) ∙ e in
        (h, cc)
    by false h =
        let is : None ≡ Some n = sym (ap (λ (b : Bool). cond b (Some (array_in ts f)) None) h) ∙ e in
        cc

none_first : (ts : List Tree) (f : Text) → first_byte ts f ≡ None → list_any (is_byte_of f) ts ≡ false
none_first ts f e = by (list_any (is_byte_of f) ts) refl
  where
    by : (b : Bool) → list_any (is_byte_of f) ts ≡ b → list_any (is_byte_of f) ts ≡ false
    by false h = h
    by true h =
        let is : Some (array_in ts f) ≡ None = sym (ap (λ (b : Bool). cond b (Some (array_in ts f)) None) h) ∙ e in
        cc

-- one more byte of an array that has one
pub known_array : (ts : List Tree) (f : Text) (i : Tree) (n : ℕ) → first_byte ts f ≡ Some n → (g : Text) → first_byte (ts ++ sel f i ∷ []) g ≡ first_byte ts g
known_array ts f i n e g = by (bytes_eq g f) refl
  where
    by : (b : Bool) → bytes_eq g f ≡ b → first_byte (ts ++ sel f i ∷ []) g ≡ first_byte ts g
    by false h = other_term ts (sel f i) g h
    by true h =
        let there : list_any (is_byte_of g) ts ≡ true = subst (λ (x : Text). list_any (is_byte_of x) ts ≡ true) (sym (same_text g f h)) (some_first ts f n e).0 in
        let more : list_any (is_byte_of g) (ts ++ sel f i ∷ []) ≡ true =
        list_any-append (is_byte_of g) ts (sel f i ∷ []) ∙ or_left (list_any (is_byte_of g) ts) (list_any (is_byte_of g) (sel f i ∷ [])) there in
        ap (λ (b : Bool). cond b (Some (array_in (ts ++ sel f i ∷ []) g)) None) more
        ∙ ap Some (place_stays (is_byte_of g) ts (sel f i ∷ []) there)
        ∙ sym (ap (λ (b : Bool). cond b (Some (array_in ts g)) None) there)

-- the first byte of an array
pub new_array : (ts : List Tree) (f : Text) (i : Tree) → first_byte ts f ≡ None → (g : Text) → first_byte (ts ++ sel f i ∷ []) g ≡ cond (bytes_eq f g) (Some (length ts)) (first_byte ts g)
new_array ts f i e g = by (bytes_eq f g) refl
  where
    by : (b : Bool) → bytes_eq f g ≡ b → first_byte (ts ++ sel f i ∷ []) g ≡ cond (bytes_eq f g) (Some (length ts)) (first_byte ts g)
    by true h =
        subst (λ (x : Text). first_byte (ts ++ sel f i ∷ []) x ≡ cond (bytes_eq f x) (Some (length ts)) (first_byte ts x)) (same_text f g h)
        (itself ∙ sym (ap (λ (b : Bool). cond b (Some (length ts)) (first_byte ts f)) (text_itself f)))
      where
        any : list_any (is_byte_of f) (ts ++ sel f i ∷ []) ≡ true
        any =
            list_any-append (is_byte_of f) ts (sel f i ∷ [])
            ∙ or_right (list_any (is_byte_of f) ts) (is_byte_of f (sel f i) || false) (or_left (is_byte_of f (sel f i)) false (text_itself f))

        itself : first_byte (ts ++ sel f i ∷ []) f ≡ Some (length ts)
        itself =
            ap (λ (b : Bool). cond b (Some (array_in (ts ++ sel f i ∷ []) f)) None) any
            ∙ ap Some (place_new (is_byte_of f) ts (sel f i) (none_first ts f e) (text_itself f))
    by false h =
        other_term ts (sel f i) g (same_ways g f ∙ h)
        ∙ sym (ap (λ (b : Bool). cond b (Some (length ts)) (first_byte ts g)) h)

-- the number of an array is that in the whole list
pub first_is : (ts more : List Tree) (f : Text) (n : ℕ) → first_byte ts f ≡ Some n → n ≡ array_in (ts ++ more) f
first_is ts more f n e =
    let p = some_first ts f n e in
    p.1 ∙ sym (place_stays (is_byte_of f) ts more p.0)

-- ---- the term at a place

-- the list up to it, and behind it
pub record Cut (ts : List Tree) (here : ℕ) (t : Tree) : Type 0 where
  pub up_to : take (here + 1) ts ≡ take here ts ++ t ∷ []
  pub long : length (take here ts) ≡ here
  pub more : List Tree
  pub is : ts ≡ (take here ts ++ t ∷ []) ++ more

pub cut : (ts : List Tree) (here : ℕ) (t : Tree) → slice_get ts here ≡ Some t → Cut ts here t
cut [] here t e = cc
cut (x ∷ ts) zero t e =
    let same : x ≡ t = cc in
    record { up_to = ap (λ (y : Tree). y ∷ []) same; long = refl; more = ts; is = ap (λ (y : Tree). y ∷ ts) same }
cut (x ∷ ts) (suc here) t e =
    let c = cut ts here t e in
    record {
      up_to = ap (λ (n : ℕ). take n (x ∷ ts)) (add-one (suc here)) ∙ ap (λ (l : List Tree). x ∷ l) (ap (λ (n : ℕ). take n ts) (sym (add-one here)) ∙ c.up_to);
      long = ap suc c.long;
      more = c.more;
      is = ap (λ (l : List Tree). x ∷ l) c.is;
    }

module _ (ts : List Tree) (here : ℕ) (t : Tree) (at : slice_get ts here ≡ Some t) where
  pub after_other : (f : Text) → is_byte_of f t ≡ false → first_byte (take (here + 1) ts) f ≡ first_byte (take here ts) f
  after_other f e = ap (λ (l : List Tree). first_byte l f) (cut ts here t at).up_to ∙ other_term (take here ts) t f e

  module _ (g : Text) (j : Tree) (is : t ≡ sel g j) where
    pub known_number : (n : ℕ) → first_byte (take here ts) g ≡ Some n → (f : Text) (i : Tree) → t ≡ sel f i → n ≡ array_in ts f
    known_number n e f i same =
        let c = cut ts here t at in
        let names : g ≡ f = (let both : sel g j ≡ sel f i = sym is ∙ same in cc) in
        first_is (take here ts) (t ∷ c.more) g n e
        ∙ ap (λ (l : List Tree). array_in l g) (sym (c.is ∙ append_assoc (take here ts) (t ∷ []) c.more))
        ∙ ap (array_in ts) names

    pub new_number : first_byte (take here ts) g ≡ None → (f : Text) (i : Tree) → t ≡ sel f i → here ≡ array_in ts f
    new_number e f i same =
        let c = cut ts here t at in
        let names : g ≡ f = (let both : sel g j ≡ sel f i = sym is ∙ same in cc) in
        let first : first_byte (take here ts ++ t ∷ []) g ≡ Some (length (take here ts)) =
        ap (λ (x : Tree). first_byte (take here ts ++ x ∷ []) g) is ∙ new_array (take here ts) g j e g
        ∙ ap (λ (b : Bool). cond b (Some (length (take here ts))) (first_byte (take here ts) g)) (text_itself g) in
        sym c.long
        ∙ first_is (take here ts ++ t ∷ []) c.more g (length (take here ts)) first
        ∙ ap (λ (l : List Tree). array_in l g) (sym c.is)
        ∙ ap (array_in ts) names

    pub after_known : (n : ℕ) → first_byte (take here ts) g ≡ Some n → (f : Text) → first_byte (take (here + 1) ts) f ≡ first_byte (take here ts) f
    after_known n e f =
        ap (λ (l : List Tree). first_byte l f) (cut ts here t at).up_to
        ∙ ap (λ (x : Tree). first_byte (take here ts ++ x ∷ []) f) is
        ∙ known_array (take here ts) g j n e f

    pub after_new : first_byte (take here ts) g ≡ None → (f : Text) → first_byte (take (here + 1) ts) f ≡ cond (bytes_eq g f) (Some here) (first_byte (take here ts) f)
    after_new e f =
        let c = cut ts here t at in
        ap (λ (l : List Tree). first_byte l f) c.up_to
        ∙ ap (λ (x : Tree). first_byte (take here ts ++ x ∷ []) f) is
        ∙ new_array (take here ts) g j e f
        ∙ ap (λ (n : ℕ). cond (bytes_eq g f) (Some n) (first_byte (take here ts) f)) c.long

-- an application is no byte
pub app_is_no_byte : (f : Text) (ms : List Meaning) (op : Op) (args : List TermId) → is_byte_of f (as_term (meaning_by ms (app_node op args))) ≡ false
app_is_no_byte f ms op [] = refl
app_is_no_byte f ms op (a ∷ []) = refl
app_is_no_byte f ms op (a ∷ b ∷ []) = refl
app_is_no_byte f ms op (a ∷ b ∷ c ∷ []) = refl
app_is_no_byte f ms op (a ∷ b ∷ c ∷ d ∷ args) = refl

-- ---- the terms of numbers

-- the term at a place
pub tree_at : (nodes : List Node) (ids : List ℕ) (i : ℕ) → i < length ids → slice_get (trees nodes ids) i ≡ Some (term_at nodes (get_or ids i 0))
tree_at nodes ids i lt =
    let long : i < length (trees nodes ids) = omega (arith, lt, length-map ids (term_at nodes)) in
    slice_get-get_or (trees nodes ids) i (term_at nodes 0) long ∙ ap Some (get_or-map (term_at nodes) ids i 0 (term_at nodes 0) lt)

-- one more
pub one_more_sub : (ts : List Tree) (here : ℕ) (t : Tree) (done : List Sub) (s : Sub) → slice_get ts here ≡ Some t → s ≡ sub_in ts t → done ≡ map (sub_in ts) (take here ts) → done ++ s ∷ [] ≡ map (sub_in ts) (take (here + 1) ts)
one_more_sub ts here t done s at is all =
    ap (λ (l : List Sub). l ++ s ∷ []) all
    ∙ ap (λ (x : Sub). map (sub_in ts) (take here ts) ++ x ∷ []) is
    ∙ sym (map-append (sub_in ts) (take here ts) (t ∷ []))
    ∙ ap (map (sub_in ts)) (sym (cut ts here t at).up_to)

-- ---- numbers of array variables by their names

-- one more that had none
pub lookup_last : (es : List (Vec ℕ × ℕ)) (k : Vec ℕ) (v : ℕ) (name f : Text) → k.items ≡ name → lookup (λ (x : Vec ℕ). bytes_eq name x.items) es ≡ None
    → lookup (λ (x : Vec ℕ). bytes_eq f x.items) (es ++ (k, v) ∷ []) ≡ cond (bytes_eq name f) (Some v) (lookup (λ (x : Vec ℕ). bytes_eq f x.items) es)
lookup_last [] k v name f is none =
    ap (λ (t : Text). cond (bytes_eq f t) (Some v) None) is ∙ ap (λ (b : Bool). cond b (Some v) None) (same_ways f name)
lookup_last (e ∷ es) k v name f is none = by (bytes_eq name e.0.items) refl (bytes_eq f e.0.items) refl (lookup_last es k v name f is)
  where
    test : Text → Vec ℕ → Bool
    test t x = bytes_eq t x.items

    by : (b : Bool) → bytes_eq name e.0.items ≡ b → (c : Bool) → bytes_eq f e.0.items ≡ c
        → (lookup (test name) es ≡ None → lookup (test f) (es ++ (k, v) ∷ []) ≡ cond (bytes_eq name f) (Some v) (lookup (test f) es))
        → cond (bytes_eq f e.0.items) (Some e.1) (lookup (test f) (es ++ (k, v) ∷ [])) ≡ cond (bytes_eq name f) (Some v) (cond (bytes_eq f e.0.items) (Some e.1) (lookup (test f) es))
    by true h c g rest =
        let some : Some e.1 ≡ None = sym (ap (λ (b : Bool). cond b (Some e.1) (lookup (test name) es)) h) ∙ none in
        cc
    by false h false g rest =
        ap (λ (b : Bool). cond b (Some e.1) (lookup (test f) (es ++ (k, v) ∷ []))) g
        ∙ rest (sym (ap (λ (b : Bool). cond b (Some e.1) (lookup (test name) es)) h) ∙ none)
        ∙ sym (ap (λ (b : Bool). cond (bytes_eq name f) (Some v) (cond b (Some e.1) (lookup (test f) es))) g)
    by false h true g rest =
        let apart : bytes_eq name f ≡ false = ap (bytes_eq name) (same_text f e.0.items g) ∙ h in
        ap (λ (b : Bool). cond b (Some e.1) (lookup (test f) (es ++ (k, v) ∷ []))) g
        ∙ sym (ap (λ (b : Bool). cond b (Some v) (cond (bytes_eq f e.0.items) (Some e.1) (lookup (test f) es))) apart
        ∙ ap (λ (b : Bool). cond b (Some e.1) (lookup (test f) es)) g)
