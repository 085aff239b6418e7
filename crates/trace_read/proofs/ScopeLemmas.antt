-- The variables of a path.
use Rattle.std.proofs.Common.{◌≡◌, ◌≢◌, ℕ, zero, suc, ◌+◌, ◌*◌, ◌^◌, ◌≤◌, ◌<◌, Bool, true, false, List, [], ◌∷◌, ◌++◌, length, take, Option, Some, None, refl, sym, ap, subst, ◌∙◌, arith}
use Rattle.std.specs.Prelude.{bytes_eq, MatchOption, if◌then◌else◌}
use Rattle.std.specs.Fmt.{decimal}
use Rattle.std.specs.Str.Parse.{digits_value}
use Rattle.std.proofs.lemmas.Fmt.{decimal_is_IsNumeral}
use Rattle.std.proofs.lemmas.List.{length-append, take-take}
use Rattle.std.proofs.Math.Seq.{take-append_seam}
use Rattle.bv_bits.specs.Bits.{IsWidth}
use Rattle.term_tree.specs.declared.term.VarDecl.{VarDecl}
use Rattle.term_tree.specs.declared.term.Sort.{Sort}
use Rattle.term_tree.specs.declared.term.Sort.TheVariants as sort
use Rattle.term_tree.specs.Terms.{Text}
use Rattle.term_tree.proofs.SameLemmas.{same_text}
use Rattle.term_words.specs.Scopes.{Scope, sort_of}
use Rattle.term_read.specs.ReadingView.{AreDistinct, AreWidths, HasWidth}
use Rattle.trace_plain.specs.Rules.{var_name}
use Rattle.trace_read.specs.declared.reading.TheConstants.{MOST}
use Rattle.trace_read.specs.Readers.{AreNumbered, IsPath}
use Rattle.trace_read.specs.Paths.{bound}

-- ---- names

digits_same : (m n : ℕ) → var_name m ≡ var_name n → decimal m ≡ decimal n
digits_same m n e = cc

-- the numbers of one name are the same
pub same_number : (m n : ℕ) → m ≤ MOST → n ≤ MOST → var_name m ≡ var_name n → m ≡ n
same_number m n l k e =
    let a = (decimal_is_IsNumeral m (omega arith)).1 in
    let b = (decimal_is_IsNumeral n (omega arith)).1 in
    sym a ∙ ap (digits_value 10) (digits_same m n e) ∙ b

-- two numbers have two names
pub other_name : (m n : ℕ) → m ≤ MOST → n ≤ MOST → (m ≡ n → ⊥) → bytes_eq (var_name m) (var_name n) ≡ false
other_name m n l k differ = go (bytes_eq (var_name m) (var_name n)) refl
  where
    go : (b : Bool) → bytes_eq (var_name m) (var_name n) ≡ b → b ≡ false
    go true e = absurd (differ (same_number m n l k (same_text (var_name m) (var_name n) e)))
    go false e = refl

-- a name below those of a path is none of them
not_below : (ds : List VarDecl) (m n : ℕ) → AreNumbered m ds → n < m → m + length ds ≤ MOST → sort_of ds (var_name n) ≡ None
not_below [] m n h less room = refl
not_below (d ∷ ds) m n h less room =
    let other : bytes_eq d.name (var_name n) ≡ false = ap (λ (x : Text). bytes_eq x (var_name n)) h.0 ∙ other_name m n (omega arith) (omega arith) (λ e. omega arith) in
    ap (λ (b : Bool). if b then Some d.sort else sort_of ds (var_name n)) other ∙ not_below ds (suc m) n h.1 (omega arith) (omega arith)

distinct_from : (ds : List VarDecl) (m : ℕ) → AreNumbered m ds → m + length ds ≤ MOST → AreDistinct ds
distinct_from [] m h room = tt
distinct_from (d ∷ ds) m h room =
    (ap (sort_of ds) h.0 ∙ not_below ds (suc m) m h.1 (omega arith) (omega arith), distinct_from ds (suc m) h.1 (omega arith))

-- the names of a path differ
pub path_distinct : (scope : List VarDecl) → IsPath scope → AreDistinct scope
path_distinct scope h = distinct_from scope 0 h.names (omega (arith, h.few))

-- ---- one more

numbered_more : (ds : List VarDecl) (m n : ℕ) (d : VarDecl) → AreNumbered m ds → n ≡ m + length ds → d.name ≡ var_name n → AreNumbered m (ds ++ d ∷ [])
numbered_more [] m n d h e named = (named ∙ ap var_name (omega arith), tt)
numbered_more (x ∷ ds) m n d h e named = (h.0, numbered_more ds (suc m) n d h.1 (omega arith) named)

widths_more : (ds : List VarDecl) (d : VarDecl) → AreWidths ds → HasWidth d.sort → AreWidths (ds ++ d ∷ [])
widths_more [] d h k = (k, tt)
widths_more (x ∷ ds) d h k = (h.0, widths_more ds d h.1 k)

-- a path with one more variable is one
pub path_more : (scope : List VarDecl) (w : ℕ) → IsPath scope → length scope < MOST → IsWidth w → IsPath (bound w scope)
path_more scope w h room width =
    let d : VarDecl = record { name = var_name (length scope); sort = sort.Bits w } in
    record {
      names = numbered_more scope 0 (length scope) d h.names (omega arith) refl;
      widths = widths_more scope d h.widths width;
      few = omega (arith, length-append scope (d ∷ []));
    }

-- ---- the first so many

numbered_first : (ds : List VarDecl) (m k : ℕ) → AreNumbered m ds → AreNumbered m (take k ds)
numbered_first ds m zero h = tt
numbered_first [] m (suc k) h = tt
numbered_first (d ∷ ds) m (suc k) h = (h.0, numbered_first ds (suc m) k h.1)

widths_first : (ds : List VarDecl) (k : ℕ) → AreWidths ds → AreWidths (take k ds)
widths_first ds zero h = tt
widths_first [] (suc k) h = tt
widths_first (d ∷ ds) (suc k) h = (h.0, widths_first ds k h.1)

short : (ds : List VarDecl) (k : ℕ) → length (take k ds) ≤ length ds
short ds zero = omega arith
short [] (suc k) = omega arith
short (d ∷ ds) (suc k) = omega (arith, short ds k)

-- the first variables of a path are one
pub path_first : (scope : List VarDecl) (k : ℕ) → IsPath scope → IsPath (take k scope)
path_first scope k h = record { names = numbered_first scope 0 k h.names; widths = widths_first scope k h.widths; few = omega (arith, short scope k, h.few) }

-- none is a path
pub path_none : IsPath []
path_none = record { names = tt; widths = tt; few = omega arith }

-- ---- the last one is taken away

pub one_less : (all s t : List VarDecl) (r : Option VarDecl) → MatchOption r ((s ≡ []) × (t ≡ [])) (λ last. s ≡ t ++ last ∷ []) → s ≡ take (length s) all → 0 < length s
    → (t ≡ take (length t) all) × (length t + 1 ≡ length s)
one_less all s t None h e some = absurd (omega (arith, ap length h.0))
one_less all s t (Some d) h e some =
    let size : length t + 1 ≡ length s = omega (arith, ap length h, length-append t (d ∷ [])) in
    let first : t ≡ take (length t) s = sym (take-append_seam t (d ∷ [])) ∙ ap (take (length t)) (sym h) in
    (first ∙ ap (take (length t)) e ∙ take-take (length t) (length s) all (omega arith), size)
