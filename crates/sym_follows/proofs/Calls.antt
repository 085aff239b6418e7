-- Values of arguments, parameters, and choices, in an evaluation and its tree.
use Rattle.std.proofs.Common.{◌≡◌, ℕ, zero, suc, ◌+◌, Bool, true, false, not, List, [], ◌∷◌, ◌++◌, nat_eq, refl, ap, ap₂, ◌∙◌, subst}
use Rattle.std.specs.Prelude.{⊤, if◌then◌else◌, map}
use Rattle.state_core.specs.declared.kinds.Range.{Range}
use Rattle.state_core.specs.World.{World}
use Rattle.term_tree.specs.Terms.{Tree}
use Rattle.term_tree.specs.Values.{Values, value}
use Rattle.term_rules.specs.Shapes.{literal_of}
use Rattle.trace_plain.specs.Following.{Path}
use Rattle.sail_syntax.specs.declared.tree.Infix.{Infix}
use Rattle.sail_syntax.specs.declared.tree.Infix.TheVariants as between
use Rattle.sail_syntax.specs.declared.types.Param.{Param}
use Rattle.sail_values.specs.declared.value.Slot.{Slot}
use Rattle.sail_values.specs.declared.value.Local.TheVariants as local
use Rattle.sail_values.specs.declared.value.Value.{Value}
use Rattle.sail_values.specs.declared.value.Value.TheVariants as concrete
use Rattle.sail_values.specs.Values.{nth, is_true, decides}
use Rattle.eval_rules.specs.Flow.{gives, Meaning, pure}
use Rattle.eval_rules.specs.Eval.{bound}
use Rattle.sym_rules.specs.Values.{SymValue, sym_unit, sym_truth, sym_bits, sym_member, SymSlot, SymPath, SymSetting}
use Rattle.sym_rules.specs.Trees.{SymMeaning, told, forked}
use Rattle.sym_rules.specs.Operators.{sym_nth, known_truth, unless_decided, sym_choose}
use Rattle.sym_rules.specs.Sym.{sym_bound}
use Rattle.sym_follows.proofs.Values.{value_at, IsTypedValue, Is, BitIs, known_is}
use Rattle.sym_follows.proofs.Parts.{SlotsAre}
use Rattle.sym_follows.proofs.Agree.{values_at, Always, Agrees, now}
use Rattle.sym_follows.proofs.Does.{Does, does_told, does_fork}

-- ---- values in a row

abbrev pub AreTypedValues : List SymValue → Type 0
AreTypedValues [] = ⊤
AreTypedValues (s ∷ ss) = IsTypedValue s × AreTypedValues ss

-- what stands for values in a row
pub record AreAll (v : Values) (ss : List SymValue) (vs : List Value) : Type 0 where
  pub typed : AreTypedValues ss
  pub same : map (value_at v) ss ≡ vs

pub all_none : (v : Values) → AreAll v [] []
all_none v = record { typed = tt; same = refl }

pub all_one : (v : Values) (s : SymValue) (a : Value) → Is v s a → AreAll v (s ∷ []) (a ∷ [])
all_one v s a h = record { typed = (h.typed, tt); same = ap (λ a. a ∷ []) h.same }

more_typed : (ss : List SymValue) (s : SymValue) → AreTypedValues ss → IsTypedValue s → AreTypedValues (ss ++ s ∷ [])
more_typed [] s h k = (k, tt)
more_typed (t ∷ ss) s h k = (h.0, more_typed ss s h.1 k)

more_same : (v : Values) (ss : List SymValue) (s : SymValue) → map (value_at v) (ss ++ s ∷ []) ≡ map (value_at v) ss ++ value_at v s ∷ []
more_same v [] s = refl
more_same v (t ∷ ss) s = ap (λ l. value_at v t ∷ l) (more_same v ss s)

pub all_more : (v : Values) {ss : List SymValue} {s : SymValue} {vs : List Value} {a : Value} → AreAll v ss vs → Is v s a → AreAll v (ss ++ s ∷ []) (vs ++ a ∷ [])
all_more v {ss} {s} h k = record { typed = more_typed ss s h.typed k.typed; same = more_same v ss s ∙ ap₂ (λ l a. l ++ a ∷ []) h.same k.same }

nth_at : (v : Values) (i : ℕ) (ss : List SymValue) → AreTypedValues ss → Is v (sym_nth i ss) (nth i (map (value_at v) ss))
nth_at v zero [] h = record { typed = tt; same = refl }
nth_at v (suc i) [] h = record { typed = tt; same = refl }
nth_at v zero (s ∷ ss) h = record { typed = h.0; same = refl }
nth_at v (suc i) (s ∷ ss) h = nth_at v i ss h.1

-- one of them
pub nth_is : (v : Values) (i : ℕ) {ss : List SymValue} {vs : List Value} → AreAll v ss vs → Is v (sym_nth i ss) (nth i vs)
nth_is v i {ss} h = subst (λ vs. Is v (sym_nth i ss) (nth i vs)) h.same (nth_at v i ss h.typed)

-- the parameters as locals
pub bound_are : (v : Values) (ps : List Param) (i : ℕ) {ss : List SymValue} {vs : List Value} {ls : List SymSlot} {ms : List Slot} → AreAll v ss vs → SlotsAre v ls ms
    → SlotsAre v (sym_bound ps ss i ls) (bound ps vs i ms)
bound_are v [] i h k = k
bound_are v (p ∷ ps) i {ss} {vs} {ls} {ms} h k =
    bound_are v ps (i + 1) h
    (record { typed = ((nth_is v i h).typed, k.typed); same = ap₂ (λ a m. record { name = p.name; local = local.Is a } ∷ m) ((nth_is v i h).same) k.same })

-- ---- choices

-- a choice of two parts, each at its locals and world
pub if_apply : {A : Type 0} (c : Bool) (m n : Meaning A) (l : List Slot) (w : World) → (if c then m l w else n l w) ≡ (if c then m else n) l w
if_apply true m n l w = refl
if_apply false m n l w = refl

module _ (here : SymSetting) (ranges : List Range) (p : SymPath) (x : Path) (l : List Slot) (ag : Agrees here p x.vars x.world l) where
  module _ {S A : Type 0} (P : Values → S → A → Type 0) (a b : SymMeaning S) (m n : Meaning A) (one : Does here ranges P p x (a p) (m l x.world)) (other : Does here ranges P p x (b p) (n l x.world)) where
    -- by a bit
    pub does_by : (t : Tree) (c : Bool) → Always BitIs p x.vars t c → Does here ranges P p x (forked (literal_of t) t (a p) (b p)) ((if c then m else n) l x.world)
    does_by t c h =
        subst (Does here ranges P p x (forked (literal_of t) t (a p) (b p))) (if_apply c m n l x.world)
        (does_fork here ranges {P = P} t c (a p) (b p) (m l x.world) (n l x.world) ag h one other)

    bit_of : (t : Tree) (c : Bool) → Always Is p x.vars (sym_truth t) (concrete.Truth c) → Always BitIs p x.vars t c
    bit_of t c h = record { is = λ v k. record { typed = (h.is v k).typed.0; width = (h.is v k).typed.1; same = truth_whole (nat_eq (value v t).value 1) c ((h.is v k).same) } }
      where
        truth_whole : (a b : Bool) → ◌≡◌ {A = Value} (concrete.Truth a) (concrete.Truth b) → a ≡ b
        truth_whole a b h = cc

    choose_at : (s : SymValue) → Always Is p x.vars s (value_at (values_at x.vars) s) → Does here ranges P p x (sym_choose s a b p) ((if is_true (value_at (values_at x.vars) s) then m else n) l x.world)
    choose_at (sym_truth t) h = does_by t (nat_eq (value (values_at x.vars) t).value 1) (bit_of t (nat_eq (value (values_at x.vars) t).value 1) h)
    choose_at sym_unit h = other
    choose_at (sym_bits t) h = other
    choose_at (sym_member e i) h = other

    -- by a value
    pub does_choose : (s : SymValue) (v : Value) → Always Is p x.vars s v → Does here ranges P p x (sym_choose s a b p) ((if is_true v then m else n) l x.world)
    does_choose s v h =
        subst (λ v. Always Is p x.vars s v → Does here ranges P p x (sym_choose s a b p) ((if is_true v then m else n) l x.world)) ((now here ag h).same) (choose_at s) h

  -- what comes behind the left side of a chain
  module _ (further : SymMeaning SymValue) (m : Meaning Value) (more : Does here ranges Is p x (further p) (m l x.world)) where
    known : (c : Bool) → Does here ranges Is p x (told (known_truth c) p) (gives (concrete.Truth c) l x.world)
    known c = does_told here ranges {P = Is} (known_truth c) (concrete.Truth c) ag (λ v k. known_is v k.valid c)

    and_ends : (c : Bool) → (if c then m l x.world else gives (concrete.Truth false) l x.world) ≡ (if not c then pure (concrete.Truth c) else m) l x.world
    and_ends true = refl
    and_ends false = refl

    or_ends : (c : Bool) → (if c then gives (concrete.Truth true) l x.world else m l x.world) ≡ (if c then pure (concrete.Truth c) else m) l x.world
    or_ends true = refl
    or_ends false = refl

    truth_bit : (t : Tree) → Always Is p x.vars (sym_truth t) (value_at (values_at x.vars) (sym_truth t)) → Always BitIs p x.vars t (nat_eq (value (values_at x.vars) t).value 1)
    truth_bit t h = bit_of Is further further m m more more t (nat_eq (value (values_at x.vars) t).value 1) h

    unless_at : (o : Infix) (s : SymValue) → Always Is p x.vars s (value_at (values_at x.vars) s)
        → Does here ranges Is p x (unless_decided o s further p) ((if decides o (value_at (values_at x.vars) s) then pure (value_at (values_at x.vars) s) else m) l x.world)
    unless_at between.And (sym_truth t) h =
        let c = nat_eq (value (values_at x.vars) t).value 1 in
        subst (Does here ranges Is p x (forked (literal_of t) t (further p) (told (known_truth false) p))) (and_ends c)
        (does_fork here ranges {P = Is} t c (further p) (told (known_truth false) p) (m l x.world) (gives (concrete.Truth false) l x.world) ag (truth_bit t h) more (known false))
    unless_at between.Or (sym_truth t) h =
        let c = nat_eq (value (values_at x.vars) t).value 1 in
        subst (Does here ranges Is p x (forked (literal_of t) t (told (known_truth true) p) (further p))) (or_ends c)
        (does_fork here ranges {P = Is} t c (told (known_truth true) p) (further p) (gives (concrete.Truth true) l x.world) (m l x.world) ag (truth_bit t h) (known true) more)
    unless_at o s h = more

    pub does_unless : (o : Infix) (s : SymValue) (v : Value) → Always Is p x.vars s v → Does here ranges Is p x (unless_decided o s further p) ((if decides o v then pure v else m) l x.world)
    does_unless o s v h =
        subst (λ v. Always Is p x.vars s v → Does here ranges Is p x (unless_decided o s further p) ((if decides o v then pure v else m) l x.world)) ((now here ag h).same) (unless_at o s) h
