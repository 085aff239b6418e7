-- Where the paths of a tree with open leaves come to, and those of a tree with the next one at each leaf.
use Rattle.std.proofs.Common.{◌≡◌, ◌^◌, ◌<◌, List, [], ◌∷◌, ◌++◌, length, refl, sym, ap, ◌∙◌, append_assoc, append-nil}
use Rattle.std.specs.Prelude.{⊤}
use Rattle.state_core.specs.declared.kinds.Range.{Range}
use Rattle.trace_plain.specs.Following.{Path, failed, Outcome, ended, Step, goes, halts, blocked, act}
use Rattle.sym_rules.specs.Trees.{SymTree, leaf, naming, on, split, fails, onto}

-- where a path comes to: a leaf, or the end of the instruction
pub data Arrival (L : Type 0) : Type 0 where
  comes_to : (at : L) → (x : Path) → Arrival L
  ends_at : (out : Outcome) → Arrival L

-- a path goes on, or ends here
abbrev pub behind_step : {L : Type 0} → Step → (Path → List (Arrival L)) → List (Arrival L)
behind_step (goes x) rest = rest x
behind_step (halts out) rest = ends_at out ∷ []
behind_step blocked rest = []

-- there are so few variables that each has a name of its own
abbrev pub IsShort : Path → Type 0
IsShort x = length x.vars < 2 ^ 64

-- it holds of a path that goes on
abbrev pub OfNext : Step → (Path → Type 0) → Type 0
OfNext (goes x) P = P x
OfNext (halts out) P = ⊤
OfNext blocked P = ⊤

module _ (ranges : List Range) where
  -- where the paths come to
  abbrev pub arrivals : {L : Type 0} → SymTree L → Path → List (Arrival L)
  arrivals (leaf l) x = comes_to l x ∷ []
  arrivals (naming ms t) x = arrivals t x
  arrivals (on e t) x = behind_step (act ranges e x) (arrivals t)
  arrivals (split a b) x = arrivals a x ++ arrivals b x
  arrivals (fails k) x = ends_at (ended (failed k) x) ∷ []

  -- each event stands where there are few variables
  abbrev pub Short : {L : Type 0} → SymTree L → Path → Type 0
  Short (leaf l) x = ⊤
  Short (naming ms t) x = Short t x
  Short (on e t) x = IsShort x × OfNext (act ranges e x) (Short t)
  Short (split a b) x = Short a x × Short b x
  Short (fails k) x = ⊤

  -- ---- the next tree at each leaf

  abbrev pub resumes : {L M : Type 0} → (L → SymTree M) → Arrival L → List (Arrival M)
  resumes f (comes_to l x) = arrivals (f l) x
  resumes f (ends_at out) = ends_at out ∷ []

  abbrev pub go_on : {L M : Type 0} → (L → SymTree M) → List (Arrival L) → List (Arrival M)
  go_on f [] = []
  go_on f (a ∷ rest) = resumes f a ++ go_on f rest

  go_on_append : {L M : Type 0} (f : L → SymTree M) (xs ys : List (Arrival L)) → go_on f (xs ++ ys) ≡ go_on f xs ++ go_on f ys
  go_on_append f [] ys = refl
  go_on_append f (x ∷ xs) ys = ap (λ l. resumes f x ++ l) (go_on_append f xs ys) ∙ sym (append_assoc (resumes f x) (go_on f xs) (go_on f ys))

  on_step : {L M : Type 0} (f : L → SymTree M) (s : Step) (g : Path → List (Arrival M)) (h : Path → List (Arrival L))
      → ((x : Path) → g x ≡ go_on f (h x)) → behind_step s g ≡ go_on f (behind_step s h)
  on_step f (goes x) g h same = same x
  on_step f (halts out) g h same = refl
  on_step f blocked g h same = refl

  pub arrivals_onto : {L M : Type 0} (t : SymTree L) (f : L → SymTree M) (x : Path) → arrivals (onto t f) x ≡ go_on f (arrivals t x)
  unfolding onto
  arrivals_onto (leaf l) f x = sym (append-nil (arrivals (f l) x))
  arrivals_onto (naming ms t) f x = arrivals_onto t f x
  arrivals_onto (on e t) f x = on_step f (act ranges e x) (arrivals (onto t f)) (arrivals t) (arrivals_onto t f)
  arrivals_onto (split a b) f x =
      ap (λ l. l ++ arrivals (onto b f) x) (arrivals_onto a f x)
      ∙ ap (λ l. go_on f (arrivals a x) ++ l) (arrivals_onto b f x)
      ∙ sym (go_on_append f (arrivals a x) (arrivals b x))
  arrivals_onto (fails k) f x = refl

  -- ---- few variables

  abbrev pub ShortAt : {L M : Type 0} → (L → SymTree M) → Arrival L → Type 0
  ShortAt f (comes_to l x) = Short (f l) x
  ShortAt f (ends_at out) = ⊤

  abbrev pub AllShort : {L M : Type 0} → (L → SymTree M) → List (Arrival L) → Type 0
  AllShort f [] = ⊤
  AllShort f (a ∷ rest) = ShortAt f a × AllShort f rest

  all_append : {L M : Type 0} (f : L → SymTree M) (xs ys : List (Arrival L)) → AllShort f xs → AllShort f ys → AllShort f (xs ++ ys)
  all_append f [] ys h k = k
  all_append f (x ∷ xs) ys h k = (h.0, all_append f xs ys h.1 k)

  first_step : (s : Step) (P Q : Path → Type 0) → ((x : Path) → P x → Q x) → OfNext s P → OfNext s Q
  first_step (goes x) P Q each h = each x h
  first_step (halts out) P Q each h = tt
  first_step blocked P Q each h = tt

  pub short_first : {L M : Type 0} (t : SymTree L) (f : L → SymTree M) (x : Path) → Short (onto t f) x → Short t x
  unfolding onto
  short_first (leaf l) f x h = tt
  short_first (naming ms t) f x h = short_first t f x h
  short_first (on e t) f x h = (h.0, first_step (act ranges e x) (Short (onto t f)) (Short t) (λ y k. short_first t f y k) h.1)
  short_first (split a b) f x h = (short_first a f x h.0, short_first b f x h.1)
  short_first (fails k) f x h = tt

  next_step : {L M : Type 0} (f : L → SymTree M) (s : Step) (P : Path → Type 0) (h : Path → List (Arrival L))
      → ((x : Path) → P x → AllShort f (h x)) → OfNext s P → AllShort f (behind_step s h)
  next_step f (goes x) P h each k = each x k
  next_step f (halts out) P h each k = (tt, tt)
  next_step f blocked P h each k = tt

  pub short_next : {L M : Type 0} (t : SymTree L) (f : L → SymTree M) (x : Path) → Short (onto t f) x → AllShort f (arrivals t x)
  unfolding onto
  short_next (leaf l) f x h = (h, tt)
  short_next (naming ms t) f x h = short_next t f x h
  short_next (on e t) f x h = next_step f (act ranges e x) (Short (onto t f)) (arrivals t) (λ y k. short_next t f y k) h.1
  short_next (split a b) f x h = all_append f (arrivals a x) (arrivals b x) (short_next a f x h.0) (short_next b f x h.1)
  short_next (fails k) f x h = (tt, tt)
