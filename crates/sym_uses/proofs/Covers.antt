-- Where the paths of a tree come to, its uses are seen.
use Rattle.std.proofs.Common.{◌≡◌, ◌≢◌, ◌⊎◌, ℕ, Bool, true, false, List, [], ◌∷◌, ◌++◌, Option, Some, Contains, refl, sym, ap, ◌∙◌, subst, inl, inr, append-nil}
use Rattle.std.specs.Prelude.{⊤, if◌then◌else◌}
use Rattle.std.proofs.lemmas.List.Elements.{Contains-push, Contains-append_left}
use Rattle.state_core.specs.declared.kinds.Range.{Range}
use Rattle.state_core.specs.World.{World}
use Rattle.term_tree.specs.Terms.{Tree}
use Rattle.term_tree.specs.Values.{Values}
use Rattle.term_rules.specs.Shapes.{literal_of}
use Rattle.term_arena.specs.Said.{Answer, Answers, Refuses}
use Rattle.trace_plain.specs.declared.trace.FailKind.{FailKind}
use Rattle.trace_plain.specs.declared.trace.FailKind.TheVariants as failure
use Rattle.trace_plain.specs.Following.{Seen, Path, Ending, whole, failed, faulted, unanswered, Outcome}
use Rattle.sail_values.specs.declared.value.Slot.{Slot}
use Rattle.eval_rules.specs.Flow.{Out, gives, stops}
use Rattle.eval_rules.specs.Moments.{Use, use_reads, use_writes}
use Rattle.sym_rules.specs.Values.{SymPath, SymSetting, entry_of}
use Rattle.sym_rules.specs.Trees.{SymTree, leaf, naming, fails, onto, Leaf, Telling, told_answer, told, forked}
use Rattle.sym_rules.specs.Names.{knows}
use Rattle.sym_follows.proofs.Trees.{Arrival, comes_to, ends_at, arrivals, Short, AllShort, go_on, arrivals_onto, short_first, short_next}
use Rattle.sym_follows.proofs.Values.{BitIs}
use Rattle.sym_follows.proofs.Agree.{Comes, Always, Agrees, now, entry_cases}
use Rattle.sym_follows.proofs.Does.{GaveUp, Full, Sim, full, gives_up, Does, fork_arrives, fork_short}
use Rattle.sym_uses.specs.Uses.{Knows, IsSeen, AreSeen, SeenTo}

-- ---- what is seen grows

pub record More (s z : Seen) : Type 0 where
  pub read : (r : ℕ) → Contains s.read r → Contains z.read r
  pub assumed : (r : ℕ) → Contains s.assumed r → Contains z.assumed r
  pub written : (r : ℕ) → Contains s.written r → Contains z.written r

pub more_none : (s : Seen) → More s s
more_none s = record { read = λ r h. h; assumed = λ r h. h; written = λ r h. h }

more_trans : {s z u : Seen} → More s z → More z u → More s u
more_trans a b = record { read = λ r h. b.read r (a.read r h); assumed = λ r h. b.assumed r (a.assumed r h); written = λ r h. b.written r (a.written r h) }

pub knows_more : {s z : Seen} → More s z → (r : ℕ) → Knows s r → Knows z r
knows_more m r (inl h) = inl (m.read r h)
knows_more m r (inr (inl h)) = inr (inl (m.assumed r h))
knows_more m r (inr (inr h)) = inr (inr (m.written r h))

seen_more : {s z : Seen} → More s z → (us : List Use) → AreSeen s us → AreSeen z us
seen_more m [] h = tt
seen_more m (use_reads r ∷ us) h = (knows_more m r h.0, seen_more m us h.1)
seen_more m (use_writes r ∷ us) h = (m.written r h.0, seen_more m us h.1)

seen_append : (s : Seen) (us vs : List Use) → AreSeen s us → AreSeen s vs → AreSeen s (us ++ vs)
seen_append s [] vs h k = k
seen_append s (u ∷ us) vs h k = (h.0, seen_append s us vs h.1 k)

seen_to_append : (e : Ending) (s : Seen) (us vs : List Use) → AreSeen s us → SeenTo e s vs → SeenTo e s (us ++ vs)
seen_to_append whole s us vs h k = seen_append s us vs h k
seen_to_append (failed failure.Match) s us vs h k = seen_append s us vs h k
seen_to_append (failed failure.Assert) s us vs h k = seen_append s us vs h k
seen_to_append (failed failure.Exit) s us vs h k = seen_append s us vs h k
seen_to_append (failed failure.Unsupported) s us vs h k = tt
seen_to_append (failed failure.AssumedWritten) s us vs h k = tt
seen_to_append (faulted f) s us vs h k = seen_append s us vs h k
seen_to_append unanswered s us vs h k = seen_append s us vs h k

pub seen_to_none : (e : Ending) (s : Seen) → SeenTo e s []
seen_to_none whole s = tt
seen_to_none (failed failure.Match) s = tt
seen_to_none (failed failure.Assert) s = tt
seen_to_none (failed failure.Exit) s = tt
seen_to_none (failed failure.Unsupported) s = tt
seen_to_none (failed failure.AssumedWritten) s = tt
seen_to_none (faulted f) s = tt
seen_to_none unanswered s = tt

gave_seen : (e : Ending) (s : Seen) (us : List Use) → GaveUp e → SeenTo e s us
gave_seen whole s us h = absurd h
gave_seen (failed failure.Match) s us h = absurd h
gave_seen (failed failure.Assert) s us h = absurd h
gave_seen (failed failure.Exit) s us h = absurd h
gave_seen (failed failure.Unsupported) s us h = tt
gave_seen (failed failure.AssumedWritten) s us h = tt
gave_seen (faulted f) s us h = absurd h
gave_seen unanswered s us h = absurd h

-- registers whose value is known are seen
pub record KnownSeen (p : SymPath) (s : Seen) : Type 0 where
  pub each : (r : ℕ) (t : Tree) → entry_of r p.known ≡ Some t → Knows s r

-- one more
pub known_more : {p : SymPath} {s z : Seen} (r : ℕ) (t : Tree) → More s z → Knows z r → KnownSeen p s → KnownSeen (knows r t p) z
known_more {p} {s} {z} r t m h k = record { each = λ i u e. step i u (entry_cases r i t u p.known e) }
  where
    step : (i : ℕ) (u : Tree) → ((r ≡ i) × (t ≡ u)) ⊎ ((r ≢ i) × (entry_of i p.known ≡ Some u)) → Knows z i
    step i u (inl y) = subst (Knows z) y.0 h
    step i u (inr n) = knows_more m i (k.each i u n.1)

-- ---- where paths come to

abbrev pub CoveredAt : {S : Type 0} → List Use → Seen → Arrival (Leaf S) → Type 0
CoveredAt us s (comes_to m y) = More s y.seen × KnownSeen m.path y.seen × AreSeen y.seen us
CoveredAt us s (ends_at out) = More s out.seen × SeenTo out.ending out.seen us

abbrev pub AllCovered : {S : Type 0} → List Use → Seen → List (Arrival (Leaf S)) → Type 0
AllCovered us s [] = ⊤
AllCovered us s (a ∷ rest) = CoveredAt us s a × AllCovered us s rest

covered_behind : {S : Type 0} (us vs : List Use) {s z : Seen} → More s z → AreSeen z us → (found : List (Arrival (Leaf S))) → AllCovered vs z found → AllCovered (us ++ vs) s found
covered_behind us vs m h [] k = tt
covered_behind us vs m h (comes_to l y ∷ rest) k =
    ((more_trans m k.0.0, k.0.1, seen_append y.seen us vs (seen_more k.0.0 us h) k.0.2), covered_behind us vs m h rest k.1)
covered_behind us vs m h (ends_at out ∷ rest) k =
    ((more_trans m k.0.0, seen_to_append out.ending out.seen us vs (seen_more k.0.0 us h) k.0.1), covered_behind us vs m h rest k.1)

-- the uses of what comes behind an evaluation
abbrev pub uses_behind : {A : Type 0} → Out A → (A → List Slot → World → List Use) → List Use
uses_behind (gives a l w) h = h a l w
uses_behind (stops why w) h = []

-- something is so of what is given
abbrev pub IfGives : {A : Type 0} → Out A → (A → List Slot → World → Type 0) → Type 0
IfGives (gives a l w) E = E a l w
IfGives (stops why w) E = ⊤

-- the uses are seen wherever its paths come to
pub record Covers (ranges : List Range) {S : Type 0} (x : Path) (t : SymTree (Leaf S)) (us : List Use) : Type 0 where
  pub is : Short ranges t x → AllCovered us x.seen (arrivals ranges t x)

module _ (here : SymSetting) (ranges : List Range) where
  module _ {S T A : Type 0} (P : Values → S → A → Type 0) (p : SymPath) (x : Path) (f : Leaf S → SymTree (Leaf T)) (h : A → List Slot → World → List Use) (E : A → List Slot → World → Type 0)
      (each : (m : Leaf S) (y : Path) (a : A) (l : List Slot) → Comes p x.vars m.path y.vars → Agrees here m.path y.vars y.world l → Always P m.path y.vars m.value a
      → KnownSeen m.path y.seen → E a l y.world → Covers ranges y (f m) (h a l y.world)) where
    covers_full : (us : List Use) (found : List (Arrival (Leaf S))) (o : Out A) → AllShort ranges f found → Full here P p x.vars found o → IfGives o E → AllCovered us x.seen found
        → AllCovered (us ++ uses_behind o h) x.seen (go_on ranges f found)
    covers_full us found (gives a l w) short k e cov =
        let s = (subst (AllShort ranges f) k.only short).0 in
        let c = (subst (AllCovered us x.seen) k.only cov).0 in
        let d = (each k.at k.there a l k.comes k.agrees k.is c.1 (subst (E a l) (sym k.world) e)).is s in
        let d2 = subst (λ w. AllCovered (h a l w) k.there.seen (arrivals ranges (f k.at) k.there)) k.world d in
        let b = covered_behind us (h a l w) c.0 c.2 (arrivals ranges (f k.at) k.there) d2 in
        subst (λ found. AllCovered (us ++ h a l w) x.seen (go_on ranges f found)) (sym k.only)
        (subst (AllCovered (us ++ h a l w) x.seen) (sym (append-nil (arrivals ranges (f k.at) k.there))) b)
    covers_full us found (stops why w) short k e cov =
        let c = (subst (AllCovered us x.seen) k.only cov).0 in
        subst (λ found. AllCovered (us ++ []) x.seen (go_on ranges f found)) (sym k.only)
        ((c.0, subst (SeenTo k.out.ending k.out.seen) (sym (append-nil us)) c.1), tt)

    covers_any : (us : List Use) (found : List (Arrival (Leaf S))) (o : Out A) → AllShort ranges f found → Sim here P p x.vars found o → IfGives o E → AllCovered us x.seen found
        → AllCovered (us ++ uses_behind o h) x.seen (go_on ranges f found)
    covers_any us found o short (full k) e cov = covers_full us found o short k e cov
    covers_any us found o short (gives_up k) e cov =
        let c = (subst (AllCovered us x.seen) k.only cov).0 in
        subst (λ found. AllCovered (us ++ uses_behind o h) x.seen (go_on ranges f found)) (sym k.only)
        ((c.0, gave_seen k.out.ending k.out.seen (us ++ uses_behind o h) k.gave), tt)

    covers_next : (us : List Use) (t : SymTree (Leaf S)) (o : Out A) → Does here ranges P p x t o → Covers ranges x t us → IfGives o E → Covers ranges x (onto t f) (us ++ uses_behind o h)
    covers_next us t o d c e = record {
      is = λ short.
          subst (AllCovered (us ++ uses_behind o h) x.seen) (sym (arrivals_onto ranges t f x))
          (covers_any us (arrivals ranges t x) o (short_next ranges t f x short) (d.is (short_first ranges t f x short)) e (c.is (short_first ranges t f x short)));
    }

  -- one tree after another
  pub on_covers : {S T A : Type 0} {P : Values → S → A → Type 0} {p : SymPath} {x : Path} {t : SymTree (Leaf S)} {f : Leaf S → SymTree (Leaf T)} {o : Out A} {us : List Use}
      (h : A → List Slot → World → List Use) (E : A → List Slot → World → Type 0) → Does here ranges P p x t o → Covers ranges x t us → IfGives o E
      → ((m : Leaf S) (y : Path) (a : A) (l : List Slot) → Comes p x.vars m.path y.vars → Agrees here m.path y.vars y.world l → Always P m.path y.vars m.value a
      → KnownSeen m.path y.seen → E a l y.world → Covers ranges y (f m) (h a l y.world))
      → Covers ranges x (onto t f) (us ++ uses_behind o h)
  on_covers {P} {p} {x} {t} {f} {o} {us} h E d c e each = covers_next P p x f h E each us t o d c e

  none_behind : {A : Type 0} (o : Out A) → uses_behind o (λ a l w. []) ≡ []
  none_behind (gives a l w) = refl
  none_behind (stops why w) = refl

  -- one that uses nothing after another
  pub on_last : {S T A : Type 0} {P : Values → S → A → Type 0} {p : SymPath} {x : Path} {t : SymTree (Leaf S)} {f : Leaf S → SymTree (Leaf T)} {o : Out A} {us : List Use}
      → Does here ranges P p x t o → Covers ranges x t us
      → ((m : Leaf S) (y : Path) (a : A) (l : List Slot) → Agrees here m.path y.vars y.world l → Always P m.path y.vars m.value a → KnownSeen m.path y.seen → Covers ranges y (f m) [])
      → Covers ranges x (onto t f) us
  on_last {A} {P} {p} {x} {t} {f} {o} {us} d c each =
      subst (Covers ranges x (onto t f)) (ap (λ l. us ++ l) (none_behind o) ∙ append-nil us)
      (covers_next P p x f (λ a l w. []) (λ a l w. ⊤) (λ m y a l come ag is known e. each m y a l ag is known) us t o d c (given_any o))
    where
      given_any : (o : Out A) → IfGives o (λ a l w. ⊤)
      given_any (gives a l w) = tt
      given_any (stops why w) = tt

  -- ---- one step

  pub covers_leaf : {S : Type 0} {s : S} {p : SymPath} {x : Path} → KnownSeen p x.seen → Covers ranges x (leaf (record { value = s; path = p })) []
  covers_leaf {x} k = record { is = λ short. ((more_none x.seen, k, tt), tt) }

  pub covers_fails : {S : Type 0} {x : Path} (k : FailKind) → Covers ranges {S = S} x (fails k) []
  covers_fails {x} k = record { is = λ short. ((more_none x.seen, seen_to_none (failed k) x.seen), tt) }

  pub covers_told : {S : Type 0} {p : SymPath} {x : Path} (s : Telling S) → KnownSeen p x.seen → Covers ranges x (told s p) []
  covers_told {S} {p} {x} s k = step s.answer
    where
      step : (r : Answer FailKind S) → Covers ranges x (naming s.work (told_answer r p)) []
      step (Answers y) = record { is = λ short. ((more_none x.seen, k, tt), tt) }
      step (Refuses why) = record { is = λ short. ((more_none x.seen, seen_to_none (failed why) x.seen), tt) }

  pub covers_if : {S : Type 0} {x : Path} (c : Bool) (a b : SymTree (Leaf S)) (us vs : List Use) → Covers ranges x a us → Covers ranges x b vs → Covers ranges x (if c then a else b) (if c then us else vs)
  covers_if true a b us vs h k = h
  covers_if false a b us vs h k = k

  pub covers_fork : {S : Type 0} {p : SymPath} {x : Path} {l : List Slot} (t : Tree) (c : Bool) (a b : SymTree (Leaf S)) (us vs : List Use) → Agrees here p x.vars x.world l → Always BitIs p x.vars t c
      → Covers ranges x a us → Covers ranges x b vs → Covers ranges x (forked (literal_of t) t a b) (if c then us else vs)
  covers_fork {x} t c a b us vs ag h one other = record {
    is = λ short.
        subst (AllCovered (if c then us else vs) x.seen) (sym (fork_arrives here ranges x t c a b ag.valid (now here ag h)))
        ((covers_if c a b us vs one other).is (fork_short here ranges x t c a b ag.valid (now here ag h) short));
  }
