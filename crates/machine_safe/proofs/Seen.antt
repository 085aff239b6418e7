-- What is seen of an evaluation from outside: it notes what it accesses, uses registers that are there, and without an access ends early by a fault of the text alone.
use Rattle.std.proofs.Common.{◌≡◌, ℕ, ◌<◌, ◌-◌, Bool, true, false, ◌||◌, List, [], ◌∷◌, ◌++◌, All, length, drop, refl, sym, ap, ◌∙◌, subst, append_assoc, append-nil, true≢false}
use Rattle.std.specs.Prelude.{if◌then◌else◌}
use Rattle.std.specs.List.{list_any}
use Rattle.std.proofs.lemmas.Bool.{or_parts}
use Rattle.std.proofs.lemmas.List.Folds.{list_any-append}
use Rattle.std.proofs.lemmas.List.Elements.{All-nil, All-cons, All-append}
use Rattle.state_core.specs.declared.kinds.Access.{Access}
use Rattle.state_core.specs.declared.kinds.FaultKind.{FaultKind}
use Rattle.state_core.specs.World.{World, Halt, fault}
use Rattle.sail_values.specs.declared.value.Slot.{Slot}
use Rattle.sail_values.specs.declared.value.Value.{Value}
use Rattle.sail_values.specs.declared.value.Value.TheVariants as value
use Rattle.eval_rules.specs.Flow.{Out, gives, stops, Meaning, after, leaves}
use Rattle.eval_rules.specs.Moments.{Did, reads, writes, accesses, passes, Moment, Passing, following}
use Rattle.eval_uses.specs.Uses.{is_access, has_access, world_in}
use Rattle.eval_uses.proofs.Told.{End, gave, stopped, reaching}
use Rattle.machine_safe.specs.First.{is_data, is_plain}

-- ---- what is noted

-- accesses are added
abbrev pub Adds : World → World → Type 0
Adds w x = (l : List Access) × (x.accesses ≡ w.accesses ++ l)

-- and one of them is no fetch
abbrev pub AddsData : World → World → Type 0
AddsData w x = (l : List Access) × (x.accesses ≡ w.accesses ++ l) × (list_any is_data l ≡ true)

-- a list that grows twice
longer : {X : Type 0} (l m n a b : List X) → m ≡ l ++ a → n ≡ m ++ b → n ≡ l ++ (a ++ b)
longer l m n a b h k = k ∙ ap (λ i. i ++ b) h ∙ append_assoc l a b

or_first : (a b : Bool) → a ≡ true → (a || b) ≡ true
or_first true b h = refl
or_first false b h = cc

or_second : (a b : Bool) → b ≡ true → (a || b) ≡ true
or_second true b h = refl
or_second false b h = h

pub adds_none : (w : World) → Adds w w
adds_none w = ([], sym (append-nil w.accesses))

pub adds_join : (w x y : World) → Adds w x → Adds x y → Adds w y
adds_join w x y a b = (a.0 ++ b.0, longer w.accesses x.accesses y.accesses a.0 b.0 a.1 b.1)

pub data_first : (w x y : World) → AddsData w x → Adds x y → AddsData w y
data_first w x y a b = (
  a.0 ++ b.0,
  longer w.accesses x.accesses y.accesses a.0 b.0 a.1 b.1,
  list_any-append is_data a.0 b.0 ∙ or_first (list_any is_data a.0) (list_any is_data b.0) a.2,
)

pub data_second : (w x y : World) → Adds w x → AddsData x y → AddsData w y
data_second w x y a b = (
  a.0 ++ b.0,
  longer w.accesses x.accesses y.accesses a.0 b.0 a.1 b.1,
  list_any-append is_data a.0 b.0 ∙ or_second (list_any is_data a.0) (list_any is_data b.0) b.2,
)

-- ---- why it ends early

-- a fault of the text: no arm fits, a check fails, or the exit
abbrev pub IsPlainHalt : Halt → Type 0
IsPlainHalt why = (kind : FaultKind) × (at : ℕ) × (why ≡ fault kind at) × (is_plain kind ≡ true)

abbrev pub IsPlainEnd : {X : Type 0} → Out X → Type 0
IsPlainEnd (gives x l w) = Unit {0}
IsPlainEnd (stops why w) = IsPlainHalt why

abbrev pub IsPlainTail : {X : Type 0} → End X → Type 0
IsPlainTail (gave x l) = Unit {0}
IsPlainTail (stopped why) = IsPlainHalt why

-- ---- which registers are used

abbrev pub IsBelow : ℕ → Did → Type 0
IsBelow n (reads r) = r < n
IsBelow n (writes r) = r < n
IsBelow n accesses = Unit {0}
IsBelow n passes = Unit {0}

abbrev pub MomentBelow : ℕ → Moment → Type 0
MomentBelow n m = IsBelow n m.did

-- ---- an evaluation

pub record Seen {X : Type 0} (n : ℕ) (run : World → Out X) (ms : World → List Moment) : Type 0 where
  pub adds : (w : World) → Adds w (world_in (run w))
  pub noted : (w : World) → has_access (ms w) ≡ true → AddsData w (world_in (run w))
  pub below : (w : World) → All (MomentBelow n) (ms w)
  pub plain : (w : World) → has_access (ms w) ≡ false → IsPlainEnd (run w)

-- an evaluation by another way to say it
pub seen_same : {X : Type 0} (n : ℕ) (run other : World → Out X) (ms : World → List Moment) → ((w : World) → other w ≡ run w) → Seen n run ms → Seen n other ms
seen_same n run other ms e t = record {
  adds = λ w. subst (λ o. Adds w (world_in o)) (sym (e w)) (t.adds w);
  noted = λ w h. subst (λ o. AddsData w (world_in o)) (sym (e w)) (t.noted w h);
  below = t.below;
  plain = λ w h. subst IsPlainEnd (sym (e w)) (t.plain w h);
}

-- nothing is done
pub seen_gives : {X : Type 0} (n : ℕ) (x : X) (l : List Slot) → Seen n (λ w. gives x l w) (λ w. [])
seen_gives n x l = record {
  adds = adds_none;
  noted = λ w h. absurd (true≢false (sym h));
  below = λ w. All-nil (MomentBelow n);
  plain = λ w h. tt;
}

pub seen_stops : {X : Type 0} (n : ℕ) (why : Halt) → IsPlainHalt why → Seen {X = X} n (λ w. stops why w) (λ w. [])
seen_stops n why plain = record {
  adds = adds_none;
  noted = λ w h. absurd (true≢false (sym h));
  below = λ w. All-nil (MomentBelow n);
  plain = λ w h. plain;
}

pub seen_if : {X : Type 0} (n : ℕ) (b : Bool) (f g : Meaning X) (p q : Passing) (l : List Slot) → Seen n (f l) (p l) → Seen n (g l) (q l)
    → Seen n ((if b then f else g) l) ((if b then p else q) l)
seen_if n true f g p q l t u = t
seen_if n false f g p q l t u = u

-- ---- what was given is handed on

-- a moment at which one part is done
abbrev pub passed_at : World → Moment
passed_at w = record { did = passes; world = w }

parted : (ms ns : List Moment) (w : World) → has_access (ms ++ passed_at w ∷ ns) ≡ (has_access ms || has_access ns)
parted ms ns w = list_any-append (λ m. is_access m.did) ms (passed_at w ∷ ns)

module _ {X Y : Type 0} (n : ℕ) (f : X → Meaning Y) (g : X → Passing) (later : (x : X) (l : List Slot) → Seen n (f x l) (g x l)) where
  adds_after : (o : Out X) (w : World) → Adds w (world_in o) → Adds w (world_in (after o f))
  adds_after (gives x l u) w a = adds_join w u (world_in (f x l u)) a ((later x l).adds u)
  adds_after (stops why u) w a = a

  noted_by : (a b : Bool) (ms : List Moment) (w u y : World) → Adds w u → Adds u y → (a ≡ true → AddsData w u) → (b ≡ true → AddsData u y) → (a || b) ≡ true → AddsData w y
  noted_by true b ms w u y s t one two h = data_first w u y (one refl) t
  noted_by false b ms w u y s t one two h = data_second w u y s (two h)

  noted_after : (o : Out X) (ms : List Moment) (w : World) → Adds w (world_in o) → (has_access ms ≡ true → AddsData w (world_in o))
      → has_access (ms ++ following o g) ≡ true → AddsData w (world_in (after o f))
  noted_after (gives x l u) ms w a one h =
      noted_by (has_access ms) (has_access (g x l u)) ms w u (world_in (f x l u)) a ((later x l).adds u) one ((later x l).noted u) (sym (parted ms (g x l u) u) ∙ h)
  noted_after (stops why u) ms w a one h = one (ap has_access (sym (append-nil ms)) ∙ h)

  below_after : (o : Out X) (ms : List Moment) → All (MomentBelow n) ms → All (MomentBelow n) (ms ++ following o g)
  below_after (gives x l u) ms b =
      All-append (MomentBelow n) ms (passed_at u ∷ g x l u) b (All-cons (MomentBelow n) (passed_at u) (g x l u) tt ((later x l).below u))
  below_after (stops why u) ms b = All-append (MomentBelow n) ms [] b (All-nil (MomentBelow n))

  plain_after : (o : Out X) (ms : List Moment) → (has_access ms ≡ false → IsPlainEnd o) → has_access (ms ++ following o g) ≡ false → IsPlainEnd (after o f)
  plain_after (gives x l u) ms p h = (later x l).plain u ((or_parts (has_access ms) (has_access (g x l u)) (sym (parted ms (g x l u) u) ∙ h)).1)
  plain_after (stops why u) ms p h = p (ap has_access (sym (append-nil ms)) ∙ h)

  pub seen_bind : (run : World → Out X) (ms : World → List Moment) → Seen n run ms → Seen n (λ w. after (run w) f) (λ w. ms w ++ following (run w) g)
  seen_bind run ms t = record {
    adds = λ w. adds_after (run w) w (t.adds w);
    noted = λ w h. noted_after (run w) (ms w) w (t.adds w) (t.noted w) h;
    below = λ w. below_after (run w) (ms w) (t.below w);
    plain = λ w h. plain_after (run w) (ms w) (t.plain w) h;
  }

-- ---- what only changes what is given

reaches : {Y : Type 0} (e : End Y) (w : World) → world_in (reaching e w) ≡ w
reaches (gave y l) w = refl
reaches (stopped why) w = refl

plain_reach : {Y : Type 0} (e : End Y) (w : World) → IsPlainTail e → IsPlainEnd (reaching e w)
plain_reach (gave y l) w p = tt
plain_reach (stopped why) w p = p

-- a change of an outcome that leaves its world
module _ {X Y : Type 0} (n : ℕ) (change : Out X → Out Y) (c : X → List Slot → End Y)
    (given : (x : X) (l : List Slot) (w : World) → change (gives x l w) ≡ reaching (c x l) w) (plain : (x : X) (l : List Slot) → IsPlainTail (c x l))
    (short : (why : Halt) (w : World) → change (stops why w) ≡ stops why w) where
  world_kept : (o : Out X) → world_in (change o) ≡ world_in o
  world_kept (gives x l w) = ap world_in (given x l w) ∙ reaches (c x l) w
  world_kept (stops why w) = ap world_in (short why w)

  plain_kept : (o : Out X) → IsPlainEnd o → IsPlainEnd (change o)
  plain_kept (gives x l w) p = subst IsPlainEnd (sym (given x l w)) (plain_reach (c x l) w (plain x l))
  plain_kept (stops why w) p = subst IsPlainEnd (sym (short why w)) p

  pub seen_changed : (run : World → Out X) (ms : World → List Moment) → Seen n run ms → Seen n (λ w. change (run w)) ms
  seen_changed run ms t = record {
    adds = λ w. subst (Adds w) (sym (world_kept (run w))) (t.adds w);
    noted = λ w h. subst (AddsData w) (sym (world_kept (run w))) (t.noted w h);
    below = t.below;
    plain = λ w h. plain_kept (run w) (t.plain w h);
  }

-- a part behind that does nothing but give or end
pub seen_then : {X Y : Type 0} (n : ℕ) (f : X → Meaning Y) (c : X → List Slot → End Y) → ((x : X) (l : List Slot) (w : World) → f x l w ≡ reaching (c x l) w)
    → ((x : X) (l : List Slot) → IsPlainTail (c x l)) → (run : World → Out X) (ms : World → List Moment) → Seen n run ms → Seen n (λ w. after (run w) f) ms
seen_then n f c e p run ms t = seen_changed n (λ o. after o f) c e p (λ why w. refl) run ms t

-- what is bound within is forgotten
pub seen_leaves : {X : Type 0} (n k : ℕ) (run : World → Out X) (ms : World → List Moment) → Seen n run ms → Seen n (λ w. leaves k (run w)) ms
seen_leaves n k run ms t = seen_changed n (leaves k) (λ x l. gave x (drop (length l - k) l)) (λ x l w. refl) (λ x l. tt) (λ why w. refl) run ms t

-- a part of which only the beginning is told
pub seen_enters : {X : Type 0} (n : ℕ) (l : List Slot) (m : Meaning X) (p : Passing) → ((l : List Slot) → Seen n (m l) (p l)) → Seen n (m l) (λ w. passed_at w ∷ p l w)
seen_enters n l m p later = seen_bind n (λ (_ : Value). m) (λ _. p) (λ _ l. later l) (λ w. gives value.Unit l w) (λ w. []) (seen_gives n value.Unit l)
