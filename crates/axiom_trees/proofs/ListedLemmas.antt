-- Lists of subterms in which each stands behind its parts.
use Rattle.std.proofs.Common.{◌≡◌, ℕ, zero, suc, ◌+◌, ◌<◌, ◌≤◌, ◌⊎◌, inl, inr, Bool, true, false, cond, List, [], ◌∷◌, ◌++◌, length, map, All, Option, Some, None, refl, ap, sym, ◌∙◌, subst, arith}
use Rattle.std.specs.Prelude.{⊤, slice_get}
use Rattle.std.specs.List.{list_any}
use Rattle.std.proofs.lemmas.Bool.{cases_Bool}
use Rattle.std.proofs.lemmas.List.{append_assoc, append-nil}
use Rattle.std.proofs.lemmas.List.Elements.{All-nil, All-cons, All-head, All-tail}
use Rattle.term_tree.specs.Terms.{Text, Tree, lit, var, one, two, three, sel, IsTyped, width_of, same_tree}
use Rattle.term_tree.proofs.SameLemmas.{same_is, text_itself}
use Rattle.term_copy.specs.Parts.{postorder, all_parts, is_among, first_ones, subterms_of}
use Rattle.term_copy.proofs.PartLemmas.{first_ones-append}
use Rattle.axiom_trees.specs.Numbered.{number_in}
use Rattle.axiom_trees.specs.Listed.{PartsIn, IsListed}
use Rattle.axiom_trees.proofs.PlaceLemmas.{among_grows, among_last, number_at}

-- ---- a list with more behind it

pub record Grows (d e : List Tree) : Type 0 where
  pub more : List Tree
  pub is : e ≡ d ++ more

pub grows_itself : (d : List Tree) → Grows d d
grows_itself d = record { more = []; is = sym (append-nil d) }

pub grows_on : (d e f : List Tree) → Grows d e → Grows e f → Grows d f
grows_on d e f g h = record {
  more = g.more ++ h.more;
  is = h.is ∙ ap (λ (l : List Tree). l ++ h.more) g.is ∙ append_assoc d g.more h.more;
}

first_one_grows : (d : List Tree) (t : Tree) (b : Bool) → Grows d (cond b d (d ++ t ∷ []))
first_one_grows d t true = grows_itself d
first_one_grows d t false = record { more = t ∷ []; is = refl }

pub first_ones_grow : (d xs : List Tree) → Grows d (first_ones d xs)
first_ones_grow d [] = grows_itself d
first_ones_grow d (t ∷ xs) =
    grows_on d (cond (is_among t d) d (d ++ t ∷ [])) (first_ones d (t ∷ xs)) (first_one_grows d t (is_among t d)) (first_ones_grow (cond (is_among t d) d (d ++ t ∷ [])) xs)

pub among_grown : (t : Tree) (d e : List Tree) → Grows d e → is_among t d ≡ true → is_among t e ≡ true
among_grown t d e g h = ap (is_among t) g.is ∙ among_grows t d g.more h

-- ---- parts that are listed

pub none_listed : IsListed []
none_listed = record { typed = λ i t h. cc; parts = λ i t h. cc }

pub parts_grown : (t : Tree) (d e : List Tree) → Grows d e → PartsIn d t → PartsIn e t
parts_grown (lit b) d e g h = tt
parts_grown (var x w) d e g h = tt
parts_grown (one op a) d e g h = among_grown a d e g h
parts_grown (two op a b) d e g h = (among_grown a d e g h.0, among_grown b d e g h.1)
parts_grown (three op a b c) d e g h = (among_grown a d e g h.0, among_grown b d e g h.1, among_grown c d e g h.2)
parts_grown (sel f i) d e g h = among_grown i d e g h

-- a place in a list with one more
pub last_or_before : (d : List Tree) (t u : Tree) (i : ℕ) → slice_get (d ++ t ∷ []) i ≡ Some u → (slice_get d i ≡ Some u) ⊎ (t ≡ u)
last_or_before [] t u zero h = inr cc
last_or_before [] t u (suc i) h = cc
last_or_before (x ∷ d) t u zero h = inl h
last_or_before (x ∷ d) t u (suc i) h = last_or_before d t u i h

pub listed_more : (d : List Tree) (t : Tree) → IsListed d → IsTyped t → PartsIn d t → IsListed (d ++ t ∷ [])
listed_more d t h typed parts =
    let g : Grows d (d ++ t ∷ []) = record { more = t ∷ []; is = refl } in
    record {
      typed = λ i u e. elim (last_or_before d t u i e) [ inl before ↦ h.typed i u before | inr same ↦ subst IsTyped same typed ];
      parts = λ i u e.
          elim (last_or_before d t u i e) [
            | inl before ↦ parts_grown u d (d ++ t ∷ []) g (h.parts i u before)
            | inr same ↦ subst (PartsIn (d ++ t ∷ [])) same (parts_grown t d (d ++ t ∷ []) g parts)
          ];
    }

-- ---- a term that is listed behind its parts

-- it and its parts are listed
pub record After (d e : List Tree) (t : Tree) : Type 0 where
  pub listed : IsListed e
  pub there : is_among t e ≡ true
  pub grows : Grows d e

-- one more term whose parts are there
pub after_one : (d : List Tree) (t : Tree) → IsListed d → IsTyped t → PartsIn d t → After d (first_ones d (t ∷ [])) t
after_one d t h typed parts = by (is_among t d) refl
  where
    by : (b : Bool) → is_among t d ≡ b → After d (cond (is_among t d) d (d ++ t ∷ [])) t
    by true e =
        subst (λ (c : Bool). After d (cond c d (d ++ t ∷ [])) t) (sym e) (record { listed = h; there = e; grows = grows_itself d })
    by false e =
        subst (λ (c : Bool). After d (cond c d (d ++ t ∷ [])) t) (sym e)
        (record { listed = listed_more d t h typed parts; there = among_last t d; grows = record { more = t ∷ []; is = refl } })

pub after : (t : Tree) → IsTyped t → (d : List Tree) → IsListed d → After d (first_ones d (postorder t)) t
after (lit b) typed d h = after_one d (lit b) h typed tt
after (var x w) typed d h = after_one d (var x w) h typed tt
after (one op a) typed d h =
    let p = after a typed.1 d h in
    let e = first_ones d (postorder a) in
    let q = after_one e (one op a) p.listed typed p.there in
    subst (λ (l : List Tree). After d l (one op a)) (sym (first_ones-append d (postorder a) (one op a ∷ [])))
    (record { listed = q.listed; there = q.there; grows = grows_on d e (first_ones e (one op a ∷ [])) p.grows q.grows })
after (two op a b) typed d h =
    let t = two op a b in
    let e = first_ones d (postorder a) in
    let f = first_ones e (postorder b) in
    let p = after a typed.1 d h in
    let q = after b typed.2 e p.listed in
    let r = after_one f t q.listed typed (among_grown a e f q.grows p.there, q.there) in
    let is : first_ones d (postorder a ++ (postorder b ++ t ∷ [])) ≡ first_ones f (t ∷ []) =
    first_ones-append d (postorder a) (postorder b ++ t ∷ []) ∙ first_ones-append e (postorder b) (t ∷ []) in
    subst (λ (l : List Tree). After d l t) (sym is)
    (record { listed = r.listed; there = r.there; grows = grows_on d e (first_ones f (t ∷ [])) p.grows (grows_on e f (first_ones f (t ∷ [])) q.grows r.grows) })
after (three op a b c) typed d h =
    let t = three op a b c in
    let e = first_ones d (postorder a) in
    let f = first_ones e (postorder b) in
    let g = first_ones f (postorder c) in
    let p = after a typed.1 d h in
    let q = after b typed.2 e p.listed in
    let r = after c typed.3 f q.listed in
    let s = after_one g t r.listed typed (among_grown a e g (grows_on e f g q.grows r.grows) p.there, among_grown b f g r.grows q.there, r.there) in
    let is : first_ones d (postorder a ++ (postorder b ++ (postorder c ++ t ∷ []))) ≡ first_ones g (t ∷ []) =
    first_ones-append d (postorder a) (postorder b ++ (postorder c ++ t ∷ []))
    ∙ first_ones-append e (postorder b) (postorder c ++ t ∷ [])
    ∙ first_ones-append f (postorder c) (t ∷ []) in
    subst (λ (l : List Tree). After d l t) (sym is)
    (record {
      listed = s.listed;
      there = s.there;
      grows = grows_on d e (first_ones g (t ∷ [])) p.grows (grows_on e f (first_ones g (t ∷ [])) q.grows (grows_on f g (first_ones g (t ∷ [])) r.grows s.grows));
    })
after (sel f i) typed d h =
    let p = after i typed.1 d h in
    let e = first_ones d (postorder i) in
    let q = after_one e (sel f i) p.listed typed p.there in
    subst (λ (l : List Tree). After d l (sel f i)) (sym (first_ones-append d (postorder i) (sel f i ∷ [])))
    (record { listed = q.listed; there = q.there; grows = grows_on d e (first_ones e (sel f i ∷ [])) p.grows q.grows })

-- those of several terms
pub record AllAfter (d e : List Tree) (ts : List Tree) : Type 0 where
  pub listed : IsListed e
  pub there : All (λ t. is_among t e ≡ true) ts
  pub grows : Grows d e

pub after_all : (ts : List Tree) → All IsTyped ts → (d : List Tree) → IsListed d → AllAfter d (first_ones d (all_parts ts)) ts
after_all [] typed d h = record { listed = h; there = All-nil (λ t. is_among t d ≡ true); grows = grows_itself d }
after_all (t ∷ ts) typed d h =
    let e = first_ones d (postorder t) in
    let f = first_ones e (all_parts ts) in
    let p = after t (All-head IsTyped t ts typed) d h in
    let q = after_all ts (All-tail IsTyped t ts typed) e p.listed in
    subst (λ (l : List Tree). AllAfter d l (t ∷ ts)) (sym (first_ones-append d (postorder t) (all_parts ts)))
    (record {
      listed = q.listed;
      there = All-cons (λ u. is_among u f ≡ true) t ts (among_grown t e f q.grows p.there) q.there;
      grows = grows_on d e f p.grows q.grows;
    })

-- ---- a term that is there

one_there : (t : Tree) (d : List Tree) → is_among t d ≡ true → first_ones d (t ∷ []) ≡ d
one_there t d e = ap (λ (c : Bool). cond c d (d ++ t ∷ [])) e

pub parts_there : (t : Tree) (d : List Tree) → IsListed d → is_among t d ≡ true → PartsIn d t
parts_there t d h e = h.parts (number_in d t) t (number_at d t e)

-- it adds nothing
pub there_already : (t : Tree) (d : List Tree) → IsListed d → is_among t d ≡ true → first_ones d (postorder t) ≡ d
there_already (lit b) d h e = one_there (lit b) d e
there_already (var x w) d h e = one_there (var x w) d e
there_already (one op a) d h e =
    let t = one op a in
    first_ones-append d (postorder a) (t ∷ [])
    ∙ ap (λ (l : List Tree). first_ones l (t ∷ [])) (there_already a d h (parts_there t d h e))
    ∙ one_there t d e
there_already (two op a b) d h e =
    let t = two op a b in
    let parts = parts_there t d h e in
    first_ones-append d (postorder a) (postorder b ++ t ∷ [])
    ∙ ap (λ (l : List Tree). first_ones l (postorder b ++ t ∷ [])) (there_already a d h parts.0)
    ∙ first_ones-append d (postorder b) (t ∷ [])
    ∙ ap (λ (l : List Tree). first_ones l (t ∷ [])) (there_already b d h parts.1)
    ∙ one_there t d e
there_already (three op a b c) d h e =
    let t = three op a b c in
    let parts = parts_there t d h e in
    first_ones-append d (postorder a) (postorder b ++ (postorder c ++ t ∷ []))
    ∙ ap (λ (l : List Tree). first_ones l (postorder b ++ (postorder c ++ t ∷ []))) (there_already a d h parts.0)
    ∙ first_ones-append d (postorder b) (postorder c ++ t ∷ [])
    ∙ ap (λ (l : List Tree). first_ones l (postorder c ++ t ∷ [])) (there_already b d h parts.1)
    ∙ first_ones-append d (postorder c) (t ∷ [])
    ∙ ap (λ (l : List Tree). first_ones l (t ∷ [])) (there_already c d h parts.2)
    ∙ one_there t d e
there_already (sel f i) d h e =
    let t = sel f i in
    first_ones-append d (postorder i) (t ∷ [])
    ∙ ap (λ (l : List Tree). first_ones l (t ∷ [])) (there_already i d h (parts_there t d h e))
    ∙ one_there t d e
