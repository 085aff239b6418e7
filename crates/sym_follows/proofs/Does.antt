-- A tree does what an evaluation does: just one of its paths is gone, and it comes to the same.
use Rattle.std.proofs.Common.{◌≡◌, ℕ, zero, suc, ◌-◌, Bool, true, false, not, List, [], ◌∷◌, ◌++◌, length, drop, nat_eq, refl, sym, ap, ap₂, ◌∙◌, subst, arith, append-nil, append_assoc}
use Rattle.std.specs.Prelude.{⊤, if◌then◌else◌}
use Rattle.bv_bits.specs.declared.Bits.{Bits}
use Rattle.bv_bits.specs.declared.Op.TheVariants as op
use Rattle.state_core.specs.declared.kinds.FaultKind.TheVariants as kind
use Rattle.state_core.specs.declared.kinds.Range.{Range}
use Rattle.state_core.specs.World.{World, Halt}
use Rattle.state_core.specs.Laws.{Grows}
use Rattle.term_tree.specs.Terms.{Text, Tree, lit, var, one, two, three, sel}
use Rattle.term_tree.specs.Values.{Values, IsValues}
use Rattle.term_rules.specs.Shapes.{literal_of}
use Rattle.term_make.specs.Making.{make}
use Rattle.term_arena.specs.Said.{Answer, Answers, Refuses}
use Rattle.trace_plain.specs.declared.trace.FailKind.{FailKind}
use Rattle.trace_plain.specs.declared.trace.FailKind.TheVariants as failure
use Rattle.trace_plain.specs.Following.{Path, Ending, whole, failed, faulted, unanswered, Outcome, ended, goes, blocked, halts, step_if, is_one, value_on}
use Rattle.sail_values.specs.declared.value.Slot.{Slot}
use Rattle.sail_values.specs.declared.value.Value.{Value}
use Rattle.sail_values.specs.declared.value.Value.TheVariants as concrete
use Rattle.sail_values.specs.Values as sail
use Rattle.eval_rules.specs.Flow.{Out, gives, stops, Meaning, after, pure, leaves}
use Rattle.eval_rules.specs.Eval.{faulty, restores}
use Rattle.eval_uses.specs.Uses.{world_in}
use Rattle.sym_rules.specs.Values.{SymValue, sym_unit, sym_truth, sym_bits, sym_member, SymSlot, SymPath, SymSetting}
use Rattle.sym_rules.specs.Trees.{SymTree, leaf, naming, onto, Leaf, Telling, told_answer, told, with_locals, both, forked, leaf_within, sym_pure, sym_fails}
use Rattle.sym_rules.specs.Sym.{needs, asserted_bit, asserted, leaf_restored}
use Rattle.sym_follows.specs.Follows.{Says}
use Rattle.sym_follows.proofs.Trees.{Arrival, comes_to, ends_at, behind_step, OfNext, arrivals, Short, go_on, arrivals_onto, short_first, short_next, AllShort}
use Rattle.sym_follows.proofs.Values.{Is, value_at, BitIs, Tells, opposite_made}
use Rattle.sym_follows.proofs.Parts.{SlotsAre, slots_at, drop_typed}
use Rattle.sym_follows.proofs.Agree.{values_at, Later, later_refl, Comes, comes_trans, Always, always_on, Agrees, comes_here, now, agrees_locals}

-- ---- what was done grows

pub grows_none : (w : World) → Grows w w
grows_none w = record { accesses = []; events = []; accesses_grow = sym (append-nil w.accesses); events_grow = sym (append-nil w.events) }

pub grows_join : (w x y : World) → Grows w x → Grows x y → Grows w y
grows_join w x y a b = record {
  accesses = a.accesses ++ b.accesses;
  events = a.events ++ b.events;
  accesses_grow = b.accesses_grow ∙ ap (λ l. l ++ b.accesses) a.accesses_grow ∙ append_assoc w.accesses a.accesses b.accesses;
  events_grow = b.events_grow ∙ ap (λ l. l ++ b.events) a.events_grow ∙ append_assoc w.events a.events b.events;
}

-- the trace goes no further
abbrev pub GaveUp : Ending → Type 0
GaveUp whole = ⊥
GaveUp (failed failure.Match) = ⊥
GaveUp (failed failure.Assert) = ⊥
GaveUp (failed failure.Exit) = ⊥
GaveUp (failed failure.Unsupported) = ⊤
GaveUp (failed failure.AssumedWritten) = ⊤
GaveUp (faulted k) = ⊥
GaveUp unanswered = ⊥

-- ---- one path

-- just one path is gone, to a leaf that stands for what is given
pub record Lands (here : SymSetting) {S A : Type 0} (P : Values → S → A → Type 0) (p : SymPath) (vars : List (Text × Bits)) (a : A) (l : List Slot) (w : World)
    (found : List (Arrival (Leaf S))) : Type 0 where
  pub at : Leaf S
  pub there : Path
  pub only : found ≡ comes_to at there ∷ []
  pub world : there.world ≡ w
  pub comes : Comes p vars at.path there.vars
  pub agrees : Agrees here at.path there.vars there.world l
  pub is : Always P at.path there.vars at.value a

-- to an end that says why the evaluation ends early
pub record Stops {S : Type 0} (why : Halt) (w : World) (found : List (Arrival (Leaf S))) : Type 0 where
  pub out : Outcome
  pub only : found ≡ ends_at out ∷ []
  pub says : Says out.ending out.world (stops why w)

-- to where the trace goes no further
pub record GivesUp {S A : Type 0} (found : List (Arrival (Leaf S))) (o : Out A) : Type 0 where
  pub out : Outcome
  pub only : found ≡ ends_at out ∷ []
  pub gave : GaveUp out.ending
  pub grows : Grows out.world (world_in o)

abbrev pub Full : (here : SymSetting) → {S A : Type 0} → (Values → S → A → Type 0) → SymPath → List (Text × Bits) → List (Arrival (Leaf S)) → Out A → Type 0
Full here P p vars found (gives a l w) = Lands here P p vars a l w found
Full here P p vars found (stops why w) = Stops why w found

-- where the paths come to is what the evaluation comes to
pub data Sim (here : SymSetting) {S A : Type 0} (P : Values → S → A → Type 0) (p : SymPath) (vars : List (Text × Bits)) (found : List (Arrival (Leaf S))) (o : Out A) : Type 0 where
  full : Full here P p vars found o → Sim here P p vars found o
  gives_up : GivesUp found o → Sim here P p vars found o

-- a tree with few variables does so
pub record Does (here : SymSetting) (ranges : List Range) {S A : Type 0} (P : Values → S → A → Type 0) (p : SymPath) (x : Path) (t : SymTree (Leaf S)) (o : Out A) : Type 0 where
  pub is : Short ranges t x → Sim here P p x.vars (arrivals ranges t x) o

module _ (here : SymSetting) where
  full_earlier : {S A : Type 0} (P : Values → S → A → Type 0) (p q : SymPath) (vars more : List (Text × Bits)) (found : List (Arrival (Leaf S))) (o : Out A)
      → Comes p vars q more → Full here P q more found o → Full here P p vars found o
  full_earlier P p q vars more found (gives a l w) c h =
      record { at = h.at; there = h.there; only = h.only; world = h.world; comes = comes_trans c h.comes; agrees = h.agrees; is = h.is }
  full_earlier P p q vars more found (stops why w) c h = h

  -- from an earlier point of the path
  pub sim_earlier : {S A : Type 0} {P : Values → S → A → Type 0} {p q : SymPath} {vars more : List (Text × Bits)} {found : List (Arrival (Leaf S))} {o : Out A}
      → Comes p vars q more → Sim here P q more found o → Sim here P p vars found o
  sim_earlier {P} {p} {q} {vars} {more} {found} {o} c (full h) = full (full_earlier P p q vars more found o c h)
  sim_earlier c (gives_up h) = gives_up h

module _ (here : SymSetting) (ranges : List Range) where
  module _ {S T A B : Type 0} (P : Values → S → A → Type 0) (Q : Values → T → B → Type 0) (p : SymPath) (x : Path) (f : Leaf S → SymTree (Leaf T)) (k : A → Meaning B)
      (grow : (a : A) (l : List Slot) (w : World) → Grows w (world_in (k a l w)))
      (each : (m : Leaf S) (y : Path) (a : A) (l : List Slot) → Comes p x.vars m.path y.vars → Agrees here m.path y.vars y.world l → Always P m.path y.vars m.value a
      → Does here ranges Q m.path y (f m) (k a l y.world)) where
    on_full : (found : List (Arrival (Leaf S))) (o : Out A) → AllShort ranges f found → Full here P p x.vars found o → Sim here Q p x.vars (go_on ranges f found) (after o k)
    on_full found (gives a l w) short h =
        let s = (subst (AllShort ranges f) h.only short).0 in
        let d = (each h.at h.there a l h.comes h.agrees h.is).is s in
        let e = subst (λ w. Sim here Q h.at.path h.there.vars (arrivals ranges (f h.at) h.there) (k a l w)) h.world d in
        subst (λ found. Sim here Q p x.vars (go_on ranges f found) (k a l w)) (sym h.only)
        (subst (λ found. Sim here Q p x.vars found (k a l w)) (sym (append-nil (arrivals ranges (f h.at) h.there))) (sim_earlier here h.comes e))
    on_full found (stops why w) short h = full (record { out = h.out; only = ap (go_on ranges f) h.only; says = h.says })

    more_done : (w : World) (o : Out A) → Grows w (world_in o) → Grows w (world_in (after o k))
    more_done w (gives a l z) h = grows_join w z (world_in (k a l z)) h (grow a l z)
    more_done w (stops why z) h = h

    on_any : (found : List (Arrival (Leaf S))) (o : Out A) → AllShort ranges f found → Sim here P p x.vars found o → Sim here Q p x.vars (go_on ranges f found) (after o k)
    on_any found o short (full h) = on_full found o short h
    on_any found o short (gives_up h) = gives_up (record { out = h.out; only = ap (go_on ranges f) h.only; gave = h.gave; grows = more_done h.out.world o h.grows })

    on_next : (t : SymTree (Leaf S)) (o : Out A) → Does here ranges P p x t o → Does here ranges Q p x (onto t f) (after o k)
    on_next t o h = record {
      is = λ short.
          subst (λ found. Sim here Q p x.vars found (after o k)) (sym (arrivals_onto ranges t f x))
          (on_any (arrivals ranges t x) o (short_next ranges t f x short) (h.is (short_first ranges t f x short)));
    }

  -- one tree after another, as one evaluation after another
  pub on_to : {S T A B : Type 0} {P : Values → S → A → Type 0} {Q : Values → T → B → Type 0} {p : SymPath} {x : Path} {t : SymTree (Leaf S)} {f : Leaf S → SymTree (Leaf T)} {o : Out A}
      (k : A → Meaning B) → Does here ranges P p x t o → ((a : A) (l : List Slot) (w : World) → Grows w (world_in (k a l w)))
      → ((m : Leaf S) (y : Path) (a : A) (l : List Slot) → Comes p x.vars m.path y.vars → Agrees here m.path y.vars y.world l → Always P m.path y.vars m.value a
      → Does here ranges Q m.path y (f m) (k a l y.world))
      → Does here ranges Q p x (onto t f) (after o k)
  on_to {P} {Q} {p} {x} {t} {f} {o} k h grow each = on_next P Q p x f k grow each t o h

  -- from an earlier point of the path
  pub does_earlier : {S A : Type 0} {P : Values → S → A → Type 0} {p q : SymPath} {x : Path} {t : SymTree (Leaf S)} {o : Out A} → Comes p x.vars q x.vars → Does here ranges P q x t o → Does here ranges P p x t o
  does_earlier c h = record { is = λ short. sim_earlier here c (h.is short) }

  -- ---- one step

  -- a leaf
  pub does_leaf : {S A : Type 0} {P : Values → S → A → Type 0} {p : SymPath} {x : Path} {l : List Slot} {s : S} {a : A} → Agrees here p x.vars x.world l → Always P p x.vars s a
      → Does here ranges P p x (leaf (record { value = s; path = p })) (gives a l x.world)
  does_leaf {p} {x} {s} ag h = record { is = λ short. full (record { at = record { value = s; path = p }; there = x; only = refl; world = refl; comes = comes_here here ag; agrees = ag; is = h }) }

  -- a leaf with other locals
  pub does_locals : {S A : Type 0} {P : Values → S → A → Type 0} {p : SymPath} {x : Path} {l : List Slot} {s : S} {a : A} (ss : List SymSlot) (m : List Slot)
      → Agrees here p x.vars x.world l → Always SlotsAre p x.vars ss m → Always P p x.vars s a
      → Does here ranges P p x (leaf (record { value = s; path = with_locals ss p })) (gives a m x.world)
  does_locals {p} {x} {s} ss m ag k h = record {
    is = λ short.
        full (record {
          at = record { value = s; path = with_locals ss p };
          there = x;
          only = refl;
          world = refl;
          comes = record { later = (comes_here here ag).later; count = omega (arith) };
          agrees = agrees_locals here ss m k ag;
          is = record { is = h.is };
        });
  }

  -- what is said of terms
  pub does_told : {S A : Type 0} {P : Values → S → A → Type 0} {p : SymPath} {x : Path} {l : List Slot} (s : Telling S) (a : A) → Agrees here p x.vars x.world l
      → ((v : Values) → Later p.count (values_at x.vars) v → Tells (P v) s.answer a) → Does here ranges P p x (told s p) (gives a l x.world)
  does_told {S} {A} {P} {p} {x} {l} s a ag h = step s.answer h
    where
      step : (r : Answer FailKind S) → ((v : Values) → Later p.count (values_at x.vars) v → Tells (P v) r a) → Does here ranges P p x (naming s.work (told_answer r p)) (gives a l x.world)
      step (Answers y) k = record { is = λ short. (does_leaf {P = P} ag (record { is = k })).is tt }
      step (Refuses why) k =
          let e : why ≡ failure.Unsupported = k (values_at x.vars) (later_refl p.count (values_at x.vars) ag.valid) in
          record { is = λ short. gives_up (record { out = ended (failed why) x; only = refl; gave = subst (λ why. GaveUp (failed why)) (sym e) tt; grows = grows_none x.world }) }

  -- ---- forks

  module _ {S : Type 0} (x : Path) (t : Tree) (c : Bool) (h : BitIs (values_at x.vars) t c) (opposite : BitIs (values_at x.vars) (make (one op.Not t)).it (not c)) (a b : SymTree (Leaf S)) where
    abbrev both_by : Bool → Bool → List (Arrival (Leaf S))
    both_by d e = behind_step (step_if d (goes x) blocked) (arrivals ranges a) ++ behind_step (step_if e (goes x) blocked) (arrivals ranges b)

    both_taken : (d : Bool) → both_by d (not d) ≡ arrivals ranges (if d then a else b) x
    both_taken true = append-nil (arrivals ranges a x)
    both_taken false = refl

    both_arrive : arrivals ranges (both t a b) x ≡ arrivals ranges (if c then a else b) x
    both_arrive = ap₂ both_by h.same opposite.same ∙ both_taken c

    short_taken : (d : Bool) → OfNext (step_if d (goes x) blocked) (Short ranges a) → OfNext (step_if (not d) (goes x) blocked) (Short ranges b) → Short ranges (if d then a else b) x
    short_taken true g k = g
    short_taken false g k = k

    both_short : Short ranges (both t a b) x → Short ranges (if c then a else b) x
    both_short s =
        short_taken c (subst (λ d. OfNext (step_if d (goes x) blocked) (Short ranges a)) h.same s.0.1)
        (subst (λ d. OfNext (step_if d (goes x) blocked) (Short ranges b)) opposite.same s.1.1)

  -- ---- small steps of evaluation

  pub does_if : {S A : Type 0} {P : Values → S → A → Type 0} {p : SymPath} {x : Path} (c : Bool) (a b : SymTree (Leaf S)) (o r : Out A)
      → Does here ranges P p x a o → Does here ranges P p x b r → Does here ranges P p x (if c then a else b) (if c then o else r)
  does_if true a b o r h k = h
  does_if false a b o r h k = k

  -- where the paths of a fork come to: where those of the part do that its bit takes
  pub fork_arrives : {S : Type 0} (x : Path) (t : Tree) (c : Bool) (a b : SymTree (Leaf S)) → IsValues (values_at x.vars) → BitIs (values_at x.vars) t c
      → arrivals ranges (forked (literal_of t) t a b) x ≡ arrivals ranges (if c then a else b) x
  fork_arrives x t c a b valid h = step t h
    where
      behind : (t : Tree) → BitIs (values_at x.vars) t c → arrivals ranges (both t a b) x ≡ arrivals ranges (if c then a else b) x
      behind t k = both_arrive x t c k (opposite_made (values_at x.vars) valid t c k.typed k.width k.same) a b

      step : (t : Tree) → BitIs (values_at x.vars) t c → arrivals ranges (forked (literal_of t) t a b) x ≡ arrivals ranges (if c then a else b) x
      step (lit q) k = ap (λ d. arrivals ranges (if d then a else b) x) k.same
      step (var y w) k = behind (var y w) k
      step (one f u) k = behind (one f u) k
      step (two f u v) k = behind (two f u v) k
      step (three f u v w) k = behind (three f u v w) k
      step (sel f u) k = behind (sel f u) k

  -- and few variables
  pub fork_short : {S : Type 0} (x : Path) (t : Tree) (c : Bool) (a b : SymTree (Leaf S)) → IsValues (values_at x.vars) → BitIs (values_at x.vars) t c
      → Short ranges (forked (literal_of t) t a b) x → Short ranges (if c then a else b) x
  fork_short x t c a b valid h short = step t h short
    where
      behind : (t : Tree) → BitIs (values_at x.vars) t c → Short ranges (both t a b) x → Short ranges (if c then a else b) x
      behind t k s = both_short x t c k (opposite_made (values_at x.vars) valid t c k.typed k.width k.same) a b s

      step : (t : Tree) → BitIs (values_at x.vars) t c → Short ranges (forked (literal_of t) t a b) x → Short ranges (if c then a else b) x
      step (lit q) k s = subst (λ d. Short ranges (if d then a else b) x) k.same s
      step (var y w) k s = behind (var y w) k s
      step (one f u) k s = behind (one f u) k s
      step (two f u v) k s = behind (two f u v) k s
      step (three f u v w) k s = behind (three f u v w) k s
      step (sel f u) k s = behind (sel f u) k s

  -- a fork does what the part does that its bit takes
  pub does_fork : {S A : Type 0} {P : Values → S → A → Type 0} {p : SymPath} {x : Path} {l : List Slot} (t : Tree) (c : Bool) (a b : SymTree (Leaf S)) (o r : Out A)
      → Agrees here p x.vars x.world l → Always BitIs p x.vars t c
      → Does here ranges P p x a o → Does here ranges P p x b r → Does here ranges P p x (forked (literal_of t) t a b) (if c then o else r)
  does_fork {P} {p} {x} t c a b o r ag h one_part other = record {
    is = λ short.
        subst (λ found. Sim here P p x.vars found (if c then o else r)) (sym (fork_arrives x t c a b ag.valid (now here ag h)))
        ((does_if c a b o r one_part other).is (fork_short x t c a b ag.valid (now here ag h) short));
  }

  -- ---- asserts

  pub unit_always : {p : SymPath} {vars : List (Text × Bits)} → Always Is p vars sym_unit concrete.Unit
  unit_always = record { is = λ v h. record { typed = tt; same = refl } }

  module _ (p : SymPath) (x : Path) (l : List Slot) (at : ℕ) (ag : Agrees here p x.vars x.world l) where
    abbrev checked : Bool → Out Value
    checked c = (if c then pure concrete.Unit else faulty kind.AssertFail at) l x.world

    known_asserted : (c : Bool) → Does here ranges Is p x ((if c then sym_pure sym_unit else sym_fails failure.Assert) p) (checked c)
    known_asserted true = does_leaf {P = Is} ag unit_always
    known_asserted false = record { is = λ short. full (record { out = ended (failed failure.Assert) x; only = refl; says = (refl, refl) }) }

    needed : (t : Tree) → Does here ranges Is p x (needs t p) (checked (is_one (value_on x t)))
    needed t = record { is = λ short. step (is_one (value_on x t)) }
      where
        step : (c : Bool) → Sim here Is p x.vars (behind_step (step_if c (goes x) (halts (ended (faulted kind.AssertFail) x))) (arrivals ranges (leaf (record { value = sym_unit; path = p })))) (checked c)
        step true = (does_leaf {P = Is} ag unit_always).is tt
        step false = full (record { out = ended (faulted kind.AssertFail) x; only = refl; says = (refl, refl) })

    asserted_bit_does : (t : Tree) → Does here ranges Is p x (asserted_bit (literal_of t) t p) (checked (is_one (value_on x t)))
    asserted_bit_does (lit q) = known_asserted (nat_eq q.value 1)
    asserted_bit_does (var y w) = needed (var y w)
    asserted_bit_does (one f u) = needed (one f u)
    asserted_bit_does (two f u v) = needed (two f u v)
    asserted_bit_does (three f u v w) = needed (three f u v w)
    asserted_bit_does (sel f u) = needed (sel f u)

    asserted_at : (s : SymValue) → Does here ranges Is p x (asserted s p) (checked (sail.is_true (value_at (values_at x.vars) s)))
    asserted_at (sym_truth t) = asserted_bit_does t
    asserted_at sym_unit = known_asserted false
    asserted_at (sym_bits t) = known_asserted false
    asserted_at (sym_member e i) = known_asserted false

    pub does_asserted : {s : SymValue} {a : Value} → Always Is p x.vars s a → Does here ranges Is p x (asserted s p) (checked (sail.is_true a))
    does_asserted {s} h = subst (λ a. Does here ranges Is p x (asserted s p) (checked (sail.is_true a))) ((now here ag h).same) (asserted_at s)

  -- ---- locals of a part

  slots_drop : (v : Values) (n : ℕ) (ss : List SymSlot) → slots_at v (drop n ss) ≡ drop n (slots_at v ss)
  slots_drop v zero ss = refl
  slots_drop v (suc n) [] = refl
  slots_drop v (suc n) (s ∷ ss) = slots_drop v n ss

  slots_length : (v : Values) (ss : List SymSlot) → length (slots_at v ss) ≡ length ss
  slots_length v [] = refl
  slots_length v (s ∷ ss) = ap suc (slots_length v ss)

  left_behind : {p q : SymPath} {us vs : List (Text × Bits)} {w z : World} {l m : List Slot} → Agrees here p us w l → Agrees here q vs z m
      → Always SlotsAre q vs (drop (length q.locals - length p.locals) q.locals) (drop (length m - length l) m)
  left_behind {p} {q} {us} {vs} {w} {z} {l} {m} ag more = record {
    is = λ v h.
        let k = more.locals.is v h in
        let before : length l ≡ length p.locals = ap length (sym ((now here ag ag.locals).same)) ∙ slots_length (values_at us) p.locals in
        let behind : length m ≡ length q.locals = ap length (sym k.same) ∙ slots_length v q.locals in
        record {
          typed = drop_typed (length q.locals - length p.locals) q.locals k.typed;
          same = slots_drop v (length q.locals - length p.locals) q.locals ∙ ap (drop (length q.locals - length p.locals)) k.same ∙ ap₂ (λ i j. drop (i - j) m) (sym behind) (sym before);
        };
  }

  leaves_after : (n : ℕ) (o : Out Value) → leaves n o ≡ after o (λ a l w. gives a (drop (length l - n) l) w)
  leaves_after n (gives a l w) = refl
  leaves_after n (stops why w) = refl

  -- only the locals in front of it are left
  pub does_within : {p q : SymPath} {x : Path} {l : List Slot} {t : SymTree (Leaf SymValue)} {o : Out Value} → Agrees here p x.vars x.world l → Comes q x.vars p x.vars
      → Does here ranges Is q x t o → Does here ranges Is q x (onto t (leaf_within (length p.locals))) (leaves (length l) o)
  does_within {p} {q} {x} {l} {t} {o} ag c h =
      subst (Does here ranges Is q x (onto t (leaf_within (length p.locals)))) (sym (leaves_after (length l) o))
      (on_to {P = Is} {Q = Is} (λ a m w. gives a (drop (length m - length l) m) w) h (λ a m w. grows_none w)
      (λ m y a k come more is. does_locals {P = Is} (drop (length m.path.locals - length p.locals) m.path.locals) (drop (length k - length l) k) more (left_behind ag more) is))

  restores_after : (l : List Slot) (o : Out Value) → restores l o ≡ after o (λ a m w. gives a l w)
  restores_after l (gives a m w) = refl
  restores_after l (stops why w) = refl

  -- the locals in front of it stand again
  pub does_restored : {p q : SymPath} {x : Path} {l : List Slot} {t : SymTree (Leaf SymValue)} {o : Out Value} → Agrees here p x.vars x.world l → Comes p x.vars q x.vars
      → Does here ranges Is q x t o → Does here ranges Is q x (onto t (leaf_restored p.locals)) (restores l o)
  does_restored {p} {q} {x} {l} {t} {o} ag c h =
      subst (Does here ranges Is q x (onto t (leaf_restored p.locals))) (sym (restores_after l o))
      (on_to {P = Is} {Q = Is} (λ a m w. gives a l w) h (λ a m w. grows_none w)
      (λ m y a k come more is. does_locals {P = Is} p.locals l more (always_on (comes_trans c come) ag.locals) is))
