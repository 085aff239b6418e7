-- The fetches of a word in the code lie in what is owned and in the cover.
use Rattle.std.proofs.Common.{ℕ, ◌+◌, ◌≤◌, [], ◌∷◌, length, arith, Bool, true, false, All, Contains, inl}
use Rattle.std.proofs.lemmas.List.Elements.{All-cons, All-nil, All-weaker, Contains-append_left}
use Rattle.state_core.specs.Claims.{bytes_from, all_parts}
use Rattle.machine_safe.specs.Routine.{Routine, cover_parts, own}
use Rattle.machine_safe.specs.Safe.{AccessInside, FetchInside}
use Rattle.machine_safe.specs.First.{Constants, end_of, values_are, spec_of, size_by}
use Rattle.machine_safe.proofs.Words.{fetch_of, fetches_by}
use Rattle.machine_safe.proofs.Parts.{bytes_in}

module _ (c : Constants) where
  abbrev spec : Routine (Unit {0}) (Unit {0}) (Unit {0})
  spec = spec_of c

  pub code_in : (a n : ℕ) → c.lo ≤ a → a + n ≤ end_of c → All (Contains (cover_parts spec)) (bytes_from a n)
  code_in a n low fits =
      All-weaker (Contains (bytes_from c.lo (length c.code))) (Contains (cover_parts spec))
      (λ x h. Contains-append_left (bytes_from c.lo (length c.code)) [] x h) (bytes_from a n) (bytes_in (length c.code) c.lo a n low fits)

  pub owned_in : (a n : ℕ) → c.lo ≤ a → a + n ≤ end_of c → All (Contains (own spec tt tt)) (bytes_from a n)
  owned_in a n low fits =
      All-weaker (Contains (bytes_from c.lo (length c.code))) (Contains (own spec tt tt))
      (λ x h. Contains-append_left (bytes_from c.lo (length c.code)) (all_parts (values_are c.entry)) x h) (bytes_from a n) (bytes_in (length c.code) c.lo a n low fits)

  -- the fetches of a word in the code
  pub fetches_owned : (short long : Bool) (a : ℕ) → c.lo ≤ a → a + size_by short long ≤ end_of c → All (AccessInside [] spec tt tt) (fetches_by short long a)
  fetches_owned false long a low fits = All-cons (AccessInside [] spec tt tt) (fetch_of a 4) [] (inl (owned_in a 4 low fits)) (All-nil (AccessInside [] spec tt tt))
  fetches_owned true false a low fits = All-cons (AccessInside [] spec tt tt) (fetch_of a 2) [] (inl (owned_in a 2 low fits)) (All-nil (AccessInside [] spec tt tt))
  fetches_owned true true a low fits =
      All-cons (AccessInside [] spec tt tt) (fetch_of a 2) (fetch_of (a + 2) 2 ∷ []) (inl (owned_in a 2 low (omega (arith, fits))))
      (All-cons (AccessInside [] spec tt tt) (fetch_of (a + 2) 2) [] (inl (owned_in (a + 2) 2 (omega (arith, low)) (omega (arith, fits)))) (All-nil (AccessInside [] spec tt tt)))

  pub fetches_covered : (short long : Bool) (a : ℕ) → c.lo ≤ a → a + size_by short long ≤ end_of c → All (FetchInside spec) (fetches_by short long a)
  fetches_covered false long a low fits = All-cons (FetchInside spec) (fetch_of a 4) [] (λ e. code_in a 4 low fits) (All-nil (FetchInside spec))
  fetches_covered true false a low fits = All-cons (FetchInside spec) (fetch_of a 2) [] (λ e. code_in a 2 low fits) (All-nil (FetchInside spec))
  fetches_covered true true a low fits =
      All-cons (FetchInside spec) (fetch_of a 2) (fetch_of (a + 2) 2 ∷ []) (λ e. code_in a 2 low (omega (arith, fits)))
      (All-cons (FetchInside spec) (fetch_of (a + 2) 2) [] (λ e. code_in (a + 2) 2 (omega (arith, low)) (omega (arith, fits))) (All-nil (FetchInside spec)))
