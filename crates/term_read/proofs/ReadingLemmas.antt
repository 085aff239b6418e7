-- The code's stack, and the terms that it holds.
use Rattle.std.proofs.Common.{◌≡◌, ℕ, zero, suc, ◌+◌, ◌≤◌, ◌<◌, Bool, true, false, List, [], ◌∷◌, ◌++◌, length, map, reverse, get_or, take, Option, Some, None, IsSome, refl, sym, ap, subst, ◌∙◌, arith}
use Rattle.std.specs.Prelude.{All, MatchOption, bytes_eq, if◌then◌else◌}
use Rattle.std.proofs.lemmas.Bool.{le-ltb, false≢true}
use Rattle.std.proofs.lemmas.List.{reverse-append, map-append, length-reverse, length-map, take_more}
use Rattle.std.proofs.lemmas.List.Elements.{All-cons}
use Rattle.bv_bits.specs.declared.Op.{Op}
use Rattle.bv_bits.specs.declared.Op.TheVariants.{Not}
use Rattle.bv_bits.specs.Bits.{result_width_of, IsBits, IsWidth}
use Rattle.term_read.specs.declared.term_reading.Frame as code_frame
use Rattle.term_read.specs.declared.array_reading.ArrayFrame as code_array_frame
use Rattle.term_tree.specs.declared.term.Sort.{Sort}
use Rattle.term_tree.specs.declared.term.Sort.TheVariants as sort
use Rattle.term_words.specs.Scopes.{Scope, sort_of}
use Rattle.bv_bits.specs.declared.Bits.{Bits}
use Rattle.term_tree.specs.Terms.{Text, Tree, lit, var, sel, array, IsTyped, IsTerm, applied, width_of, height, HIGHEST}
use Rattle.term_select.specs.Selecting.{select}
use Rattle.term_make.specs.Making.{within_height}
use Rattle.term_tree.specs.declared.term.Term.{Term}
use Rattle.term_tree.specs.View.{tree}
use Rattle.term_read.specs.Reading.{Frame, arguments, index}
use Rattle.term_read.specs.ReadingView.{frame_view, frames_of, array_frame_view, array_frames_of, AreTerms, HoldTerms, AreWidths, HasWidth}

-- ---- the stack

reverse_push : {A B : Type 0} (f : A → B) (xs : List A) (x : A) → reverse (map f (xs ++ x ∷ [])) ≡ f x ∷ reverse (map f xs)
reverse_push f xs x = ap reverse (map-append f xs (x ∷ [])) ∙ reverse-append (map f xs) (f x ∷ [])

-- a bracket more
pub pushed : (s t : List code_frame.Frame) (f : code_frame.Frame) → t ≡ s ++ f ∷ [] → frames_of t ≡ frame_view f ∷ frames_of s
unfolding frames_of
pushed s t f e = ap (λ l. reverse (map frame_view l)) e ∙ reverse_push frame_view s f

-- no bracket
bare : (s : List code_frame.Frame) → s ≡ [] → frames_of s ≡ []
unfolding frames_of
bare s e = ap (λ l. reverse (map frame_view l)) e

-- a bracket less
pub popped : (r : Option code_frame.Frame) (s t : List code_frame.Frame) → MatchOption r ((s ≡ []) × (t ≡ [])) (λ last. s ≡ t ++ last ∷ [])
    → MatchOption r ((frames_of s ≡ []) × (frames_of t ≡ [])) (λ f. frames_of s ≡ frame_view f ∷ frames_of t)
popped None s t h = (bare s h.0, bare t h.1)
popped (Some f) s t h = pushed t s f h

-- how many there are
pub open_ones : (s : List code_frame.Frame) → length s ≡ length (frames_of s)
unfolding frames_of
open_ones s = sym (length-reverse (map frame_view s) ∙ length-map s frame_view)

-- none at first
pub none_open : frames_of [] ≡ []
unfolding frames_of
none_open = refl

-- ---- applications

-- operators take arguments
pub no_width : (op : Op) → result_width_of op [] ≡ None
no_width Not = refl
no_width op = refl

-- and no more than three
pub four_widths : (op : Op) (a b c d : ℕ) (ws : List ℕ) → result_width_of op (a ∷ b ∷ c ∷ d ∷ ws) ≡ None
four_widths Not a b c d ws = refl
four_widths op a b c d ws = refl

pub not_some : (o : Option ℕ) → o ≡ None → IsSome o → ⊥
not_some None e h = absurd (false≢true h)
not_some (Some n) e h = absurd (cc)

-- an application to terms that fit is typed
pub applied_typed : (op : Op) (ts : List Tree) → AreTerms ts → IsSome (result_width_of op (map width_of ts)) → IsTyped (applied op ts)
applied_typed op [] h fits = absurd (not_some _ (no_width op) fits)
applied_typed op (a ∷ []) h fits = (fits, h.0.typed)
applied_typed op (a ∷ b ∷ []) h fits = (fits, h.0.typed, h.1.0.typed)
applied_typed op (a ∷ b ∷ c ∷ []) h fits = (fits, h.0.typed, h.1.0.typed, h.1.1.0.typed)
applied_typed op (a ∷ b ∷ c ∷ d ∷ ts) h fits = absurd (not_some _ (four_widths op _ _ _ _ _) fits)

-- terms are low
pub all_low : (ts : List Tree) → AreTerms ts → All (λ t. height t ≤ HIGHEST) ts
all_low [] h = λ k d l. absurd (omega arith)
all_low (t ∷ ts) h = All-cons (λ u. height u ≤ HIGHEST) t ts h.0.low (all_low ts h.1)

-- one term more
pub one_more : (ts : List Tree) (t : Tree) → AreTerms ts → IsTerm t → AreTerms (ts ++ t ∷ [])
one_more [] t h it = (it, tt)
one_more (u ∷ ts) t h it = (h.0, one_more ts t h.1 it)

all_terms : (ts : List Tree) → AreTerms ts → All IsTerm ts
all_terms [] h = λ k d l. absurd (omega arith)
all_terms (t ∷ ts) h = All-cons IsTerm t ts h.0 (all_terms ts h.1)

-- each is a term
pub term_at : (ts : List Tree) (k : ℕ) (d : Tree) → AreTerms ts → k < length ts → IsTerm (get_or ts k d)
term_at ts k d h l = all_terms ts h k d l

-- ---- the byte of an array variable

pub selection_low : (f : Text) (i : Tree) → height i < 1024 → within_height (select (array f) i) ≡ Some (sel f i)
selection_low f i h = rw (le-ltb HIGHEST (1 + height i) (omega arith)) refl

-- ---- the widths of terms

-- each of the code's terms is typed
pub typed_here : (xs : List Term) (i : ℕ) (x : Term) → AreTerms (map tree xs) → i < length xs → x ≡ get_or xs i x → IsTyped (tree x)
typed_here [] i x h l e = absurd (omega arith)
typed_here (y ∷ ys) zero x h l e = subst (λ (z : Term). IsTyped (tree z)) (sym e) h.0.typed
typed_here (y ∷ ys) (suc i) x h l e = typed_here ys i x h.1 (omega arith) e

-- one width more
pub widths_more : (xs : List Term) (i : ℕ) (x : Term) (w : ℕ) (old new : List ℕ) → i < length xs → x ≡ get_or xs i x → w ≡ width_of (tree x)
    → new ≡ old ++ w ∷ [] → old ≡ map width_of (map tree (take i xs)) → new ≡ map width_of (map tree (take (i + 1) xs))
widths_more xs i x w old new l e width written so_far =
    let more : take (i + 1) xs ≡ take i xs ++ x ∷ [] = take_more xs i x l ∙ ap (λ y. take i xs ++ y ∷ []) (sym e) in
    written ∙ ap (λ v. v ++ w ∷ []) so_far ∙ ap (λ v. map width_of (map tree (take i xs)) ++ v ∷ []) width
    ∙ sym (ap (λ v. map width_of (map tree v)) more ∙ ap (map width_of) (map-append tree (take i xs) (x ∷ [])) ∙ map-append width_of (map tree (take i xs)) (tree x ∷ []))

-- ---- what is on the stack

-- the arguments of a bracket, and what is below it
pub arguments_held : (k rest : List Frame) (at : ℕ) (op : Op) (ts : List Tree) → k ≡ arguments at op ts ∷ rest → HoldTerms k → AreTerms ts × HoldTerms rest
arguments_held k rest at op ts e h = subst HoldTerms e h

-- what is below a `sel`
pub index_held : (k rest : List Frame) (at : ℕ) (f : Text) → k ≡ index at f ∷ rest → HoldTerms k → HoldTerms rest
index_held k rest at f e h = subst HoldTerms e h

-- one of the code's terms more
pub one_more_read : (xs ys : List Term) (x : Term) → ys ≡ xs ++ x ∷ [] → map tree ys ≡ map tree xs ++ tree x ∷ []
one_more_read xs ys x e = ap (map tree) e ∙ map-append tree xs (x ∷ [])

pub more_terms : (xs ys : List Term) (x : Term) → ys ≡ xs ++ x ∷ [] → AreTerms (map tree xs) → IsTerm (tree x) → AreTerms (map tree ys)
more_terms xs ys x e h it = subst AreTerms (sym (one_more_read xs ys x e)) (one_more (map tree xs) (tree x) h it)

-- ---- scopes

-- the width of a sort that is found, at once or later
found_width : (b : Bool) (s : Sort) (o : Option Sort) (w : ℕ) → HasWidth s → (o ≡ Some (sort.Bits w) → IsWidth w) → (if b then Some s else o) ≡ Some (sort.Bits w) → IsWidth w
found_width true (sort.Bits v) o w h later same = subst IsWidth (let f : Some (sort.Bits v) ≡ Some (sort.Bits w) = same in cc) h
found_width true sort.Array o w h later same = absurd (let f : Some sort.Array ≡ Some (sort.Bits w) = same in cc)
found_width false s o w h later same = later same

-- the width of a declared variable
pub declared_width : (scope : Scope) (x : Text) (w : ℕ) → AreWidths scope → sort_of scope x ≡ Some (sort.Bits w) → IsWidth w
declared_width [] x w h e = absurd (let f : None ≡ Some (sort.Bits w) = e in cc)
declared_width (d ∷ ds) x w h e = found_width (bytes_eq d.name x) d.sort (sort_of ds x) w h.0 (declared_width ds x w h.1) e

-- a variable or a literal is a term
pub variable_term : (t : Tree) (x : Text) (w : ℕ) → t ≡ var x w → IsWidth w → IsTerm t
variable_term t x w e h = subst IsTerm (sym e) (record { typed = h; low = omega arith })

pub literal_term : (t : Tree) (b : Bits) → t ≡ lit b → IsBits b → IsTerm t
literal_term t b e h = subst IsTerm (sym e) (record { typed = h; low = omega arith })

-- ---- the stack of array terms

pub array_pushed : (s t : List code_array_frame.ArrayFrame) (f : code_array_frame.ArrayFrame) → t ≡ s ++ f ∷ [] → array_frames_of t ≡ array_frame_view f ∷ array_frames_of s
unfolding array_frames_of
array_pushed s t f e = ap (λ l. reverse (map array_frame_view l)) e ∙ reverse_push array_frame_view s f

no_array : (s : List code_array_frame.ArrayFrame) → s ≡ [] → array_frames_of s ≡ []
unfolding array_frames_of
no_array s e = ap (λ l. reverse (map array_frame_view l)) e

pub array_popped : (r : Option code_array_frame.ArrayFrame) (s t : List code_array_frame.ArrayFrame) → MatchOption r ((s ≡ []) × (t ≡ [])) (λ last. s ≡ t ++ last ∷ [])
    → MatchOption r ((array_frames_of s ≡ []) × (array_frames_of t ≡ [])) (λ f. array_frames_of s ≡ array_frame_view f ∷ array_frames_of t)
array_popped None s t h = (no_array s h.0, no_array t h.1)
array_popped (Some f) s t h = array_pushed t s f h

pub open_arrays : (s : List code_array_frame.ArrayFrame) → length s ≡ length (array_frames_of s)
unfolding array_frames_of
open_arrays s = sym (length-reverse (map array_frame_view s) ∙ length-map s array_frame_view)

pub no_array_open : array_frames_of [] ≡ []
unfolding array_frames_of
no_array_open = refl
