-- Variables that are bound, by their widths and as a scope.
use Rattle.std.proofs.Common.{◌≡◌, ℕ, zero, suc, ◌+◌, ◌*◌, ◌≤◌, ◌<◌, Bool, true, false, List, [], ◌∷◌, ◌++◌, length, Option, Some, None, refl, sym, ap, subst, ◌∙◌, arith}
use Rattle.std.specs.Prelude.{bytes_eq, slice_get, if◌then◌else◌}
use Rattle.std.proofs.lemmas.Slice.Eq.{bytes_eq-Decides}
use Rattle.bv_bits.specs.Bits.{IsWidth}
use Rattle.lex_core.specs.declared.name.RegDecl.{RegDecl}
use Rattle.term_tree.specs.declared.term.Sort.{Sort}
use Rattle.term_tree.specs.declared.term.Sort.TheVariants as sort
use Rattle.term_tree.specs.Terms.{Text, Tree, lit, var, one, two, three, sel}
use Rattle.term_tree.specs.Variables.{HasVariables}
use Rattle.term_tree.proofs.SameLemmas.{same_text}
use Rattle.term_words.specs.Scopes.{Scope, sort_of}
use Rattle.term_read.specs.ReadingView.{AreWidths}
use Rattle.term_round_trip.specs.DeclaredTerms.{IsDeclared}
use Rattle.trace_plain.specs.Rules.{var_name, register_width, IsBound, bound_behind}
use Rattle.trace_plain.specs.Trace.{Event, read_reg, write_reg, read_mem, write_mem, assume, need, assume_reg}
use Rattle.trace_read.specs.declared.reading.TheConstants.{MOST}
use Rattle.trace_read.specs.Paths.{width_at, bound, scope_behind}
use Rattle.trace_read.proofs.ScopeLemmas.{other_name}

-- variables of these widths, numbered from this number on
abbrev pub scope_from : ℕ → List ℕ → Scope
scope_from n [] = []
scope_from n (w ∷ ws) = record { name = var_name n; sort = sort.Bits w } ∷ scope_from (suc n) ws

abbrev pub scope_of : List ℕ → Scope
scope_of b = scope_from 0 b

pub as_many : (n : ℕ) (b : List ℕ) → length (scope_from n b) ≡ length b
as_many n [] = refl
as_many n (w ∷ ws) = ap suc (as_many (suc n) ws)

-- one more
more_from : (n m : ℕ) (b : List ℕ) (w : ℕ) → m ≡ n + length b → scope_from n (b ++ w ∷ []) ≡ scope_from n b ++ record { name = var_name m; sort = sort.Bits w } ∷ []
more_from n m [] w e = ap (λ (k : ℕ). record { name = var_name k; sort = sort.Bits w } ∷ []) (omega arith)
more_from n m (x ∷ b) w e = ap (λ (s : Scope). record { name = var_name n; sort = sort.Bits x } ∷ s) (more_from (suc n) m b w (omega arith))

pub one_more_bound : (b : List ℕ) (w : ℕ) → scope_of (b ++ w ∷ []) ≡ bound w (scope_of b)
one_more_bound b w = more_from 0 (length (scope_of b)) b w (omega (arith, as_many 0 b))

-- the variables behind an event, where a register of it is declared with its width
abbrev pub KnowsRegister : List RegDecl → Event → Type 0
KnowsRegister registers (read_reg r x) = register_width registers r ≡ Some (width_at registers r)
KnowsRegister registers e = Unit {0}

pub bound_is : (registers : List RegDecl) (b : List ℕ) (e : Event) → KnowsRegister registers e → scope_behind registers (scope_of b) e ≡ scope_of (bound_behind registers b e)
bound_is registers b (read_reg r x) h =
    sym (one_more_bound b (width_at registers r)) ∙ ap (λ (o : Option ℕ). scope_of (b ++ of_width o)) (sym h)
  where
    of_width : Option ℕ → List ℕ
    of_width None = []
    of_width (Some w) = w ∷ []
bound_is registers b (write_reg r t) h = refl
bound_is registers b (read_mem x at n) h = sym (one_more_bound b (8 * n))
bound_is registers b (write_mem at t n) h = refl
bound_is registers b (assume t) h = refl
bound_is registers b (need t) h = refl
bound_is registers b (assume_reg r value) h = refl

-- ---- a variable of the scope is a bound one

-- a variable of this name and sort
record Found (n : ℕ) (b : List ℕ) (x : Text) (s : Sort) : Type 0 where
  place : ℕ
  width : ℕ
  named : x ≡ var_name (n + place)
  has : slice_get b place ≡ Some width
  sorted : s ≡ sort.Bits width

found_from : (n : ℕ) (b : List ℕ) (x : Text) (s : Sort) → sort_of (scope_from n b) x ≡ Some s → Found n b x s
found_from n [] x s e = absurd (cc)
found_from n (w ∷ ws) x s e = go (bytes_eq (var_name n) x) refl (λ h. found_from (suc n) ws x s h) e
  where
    go : (t : Bool) → bytes_eq (var_name n) x ≡ t → (sort_of (scope_from (suc n) ws) x ≡ Some s → Found (suc n) ws x s) → (if t then Some (sort.Bits w) else sort_of (scope_from (suc n) ws) x) ≡ Some s → Found n (w ∷ ws) x s
    go true is later h =
        let same : sort.Bits w ≡ s = cc in
        record { place = 0; width = w; named = sym (same_text (var_name n) x is) ∙ ap var_name (omega arith); has = refl; sorted = sym same }
    go false is later h =
        let more = later h in
        record { place = suc more.place; width = more.width; named = more.named ∙ ap var_name (omega arith); has = more.has; sorted = more.sorted }

pub is_bound : (b : List ℕ) (x : Text) (w : ℕ) → sort_of (scope_of b) x ≡ Some (sort.Bits w) → IsBound b x w
is_bound b x w e =
    let found = found_from 0 b x (sort.Bits w) e in
    let same : w ≡ found.width = let both : sort.Bits w ≡ sort.Bits found.width = found.sorted in cc in
    record { number = found.place; name = found.named ∙ ap var_name (omega arith); width = found.has ∙ ap (λ (v : ℕ). Some v) (sym same) }

pub no_array : (b : List ℕ) (x : Text) → sort_of (scope_of b) x ≡ Some sort.Array → ⊥
no_array b x e = let found = found_from 0 b x sort.Array e in let both : sort.Array ≡ sort.Bits found.width = found.sorted in cc

-- so are all of a term
pub all_bound : (b : List ℕ) (t : Tree) → IsDeclared (scope_of b) t → HasVariables (IsBound b) (λ f. ⊥) t
all_bound b (lit v) h = tt
all_bound b (var x w) h = is_bound b x w h
all_bound b (one op t) h = all_bound b t h
all_bound b (two op t u) h = (all_bound b t h.0, all_bound b u h.1)
all_bound b (three op t u v) h = (all_bound b t h.0, all_bound b u h.1, all_bound b v h.2)
all_bound b (sel f i) h = (no_array b f h.0, all_bound b i h.1)

-- ---- and a bound one is of the scope

within : (b : List ℕ) (k w : ℕ) → slice_get b k ≡ Some w → k < length b
within [] k w e = absurd (cc)
within (v ∷ b) zero w e = omega arith
within (v ∷ b) (suc k) w e = omega (arith, within b k w e)

find_from : (n : ℕ) (b : List ℕ) (k w : ℕ) → slice_get b k ≡ Some w → n + length b ≤ MOST → sort_of (scope_from n b) (var_name (n + k)) ≡ Some (sort.Bits w)
find_from n [] k w e room = absurd (cc)
find_from n (v ∷ b) zero w e room =
    let same : v ≡ w = cc in
    let own : bytes_eq (var_name n) (var_name (n + 0)) ≡ true = (bytes_eq-Decides (var_name n) (var_name (n + 0))).1 (ap var_name (omega arith)) in
    ap (λ (t : Bool). if t then Some (sort.Bits v) else sort_of (scope_from (suc n) b) (var_name (n + 0))) own ∙ ap (λ (u : ℕ). Some (sort.Bits u)) same
find_from n (v ∷ b) (suc k) w e room =
    let less = within b k w e in
    let other : bytes_eq (var_name n) (var_name (n + suc k)) ≡ false = other_name n (n + suc k) (omega arith) (omega arith) (λ same. omega arith) in
    ap (λ (t : Bool). if t then Some (sort.Bits v) else sort_of (scope_from (suc n) b) (var_name (n + suc k))) other
    ∙ ap (λ (m : ℕ). sort_of (scope_from (suc n) b) (var_name m)) (omega arith) ∙ find_from (suc n) b k w e (omega arith)

pub is_declared : (b : List ℕ) (t : Tree) → length b ≤ MOST → HasVariables (IsBound b) (λ f. ⊥) t → IsDeclared (scope_of b) t
is_declared b (lit v) room h = tt
is_declared b (var x w) room h =
    ap (sort_of (scope_of b)) (h.name ∙ ap var_name (omega arith)) ∙ find_from 0 b h.number w h.width (omega arith)
is_declared b (one op t) room h = is_declared b t room h
is_declared b (two op t u) room h = (is_declared b t room h.0, is_declared b u room h.1)
is_declared b (three op t u v) room h = (is_declared b t room h.0, is_declared b u room h.1, is_declared b v room h.2)
is_declared b (sel f i) room h = absurd h.0

-- ---- widths

pub widths_from : (n : ℕ) (b : List ℕ) (w : ℕ) → AreWidths (scope_from n b) → IsWidth w → AreWidths (scope_from n (b ++ w ∷ []))
widths_from n [] w h k = (k, tt)
widths_from n (v ∷ b) w h k = (h.0, widths_from (suc n) b w h.1 k)
