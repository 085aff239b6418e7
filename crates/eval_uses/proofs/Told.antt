-- What the moments tell of an evaluation, and that it holds of one after the other.
use Rattle.std.proofs.Common.{◌≡◌, ℕ, Bool, true, false, List, [], ◌∷◌, ◌++◌, refl, sym, ap, ◌∙◌, subst, inl, append-nil, drop, length, ◌-◌}
use Rattle.std.specs.Prelude.{if◌then◌else◌}
use Rattle.state_core.specs.State.{widths_of}
use Rattle.state_core.specs.World.{World, Halt}
use Rattle.sail_values.specs.declared.value.Slot.{Slot}
use Rattle.sail_values.specs.declared.value.Value.{Value}
use Rattle.sail_values.specs.declared.value.Value.TheVariants as value
use Rattle.eval_rules.specs.Flow.{Out, gives, stops, Meaning, after, leaves}
use Rattle.eval_rules.specs.Moments.{Moment, Passing, IsPassed, following}
use Rattle.eval_uses.specs.Uses.{dids, world_in, MomentsKeep, Alike, ReachedAlike, OutcomesAlike, both_give, both_stop}
use Rattle.eval_rules.proofs.Passed.{passed_at, passed_first, passed_second}
use Rattle.eval_uses.proofs.Joins.{keeps_still, reach_still, keeps_join, alike_first, alike_second, reach_join, dids_join}

-- what holds of two evaluations, from a world and one that is alike
pub record Paired {X : Type 0} (ms ns : List Moment) (w v : World) (one two : Out X) : Type 0 where
  pub ends : OutcomesAlike ms w v one two
  pub same : dids ns ≡ dids ms

-- what moments tell of an evaluation
pub record Told {X : Type 0} (run : World → Out X) (ms : World → List Moment) : Type 0 where
  pub keeps : (w : World) → MomentsKeep (ms w) w (world_in (run w))
  pub passed : (w : World) → IsPassed (world_in (run w)) w (ms w)
  pub pairs : (w v : World) → Alike (ms w) w v → Paired (ms w) (ms v) w v (run w) (run v)

-- ---- one part alone

-- an evaluation by another way to say it
pub told_same : {X : Type 0} (run other : World → Out X) (ms ns : World → List Moment) → ((w : World) → other w ≡ run w) → ((w : World) → ns w ≡ ms w) → Told run ms → Told other ns
told_same run other ms ns e f t = record {
  keeps = λ w. rw (e w, f w) (t.keeps w);
  passed = λ w. rw (e w, f w) (t.passed w);
  pairs = λ w v. rw (e w, f w, e v, f v) (t.pairs w v);
}

-- nothing is done
pub told_gives : {X : Type 0} (x : X) (l : List Slot) → Told (λ w. gives x l w) (λ w. [])
told_gives x l = record {
  keeps = keeps_still [];
  passed = λ w. inl refl;
  pairs = λ w v a. record { ends = both_give x l w v refl refl (reach_still [] w v); same = refl };
}

pub told_stops : {X : Type 0} (why : Halt) → Told {X = X} (λ w. stops why w) (λ w. [])
told_stops why = record {
  keeps = keeps_still [];
  passed = λ w. inl refl;
  pairs = λ w v a. record { ends = both_stop why w v refl refl (reach_still [] w v); same = refl };
}

pub told_if : {X : Type 0} (b : Bool) (m n : Meaning X) (p q : Passing) (l : List Slot) → Told (m l) (p l) → Told (n l) (q l)
    → Told ((if b then m else n) l) ((if b then p else q) l)
told_if true m n p q l t u = t
told_if false m n p q l t u = u

-- ---- what was given is handed on

-- moments with none behind them
keeps_alone : (ms : List Moment) (w x : World) → MomentsKeep ms w x → MomentsKeep (ms ++ []) w x
keeps_alone ms w x k = subst (λ l. MomentsKeep l w x) (sym (append-nil ms)) k

reach_alone : (ms : List Moment) (w v x y : World) → ReachedAlike ms w v x y → ReachedAlike (ms ++ []) w v x y
reach_alone ms w v x y k = subst (λ l. ReachedAlike l w v x y) (sym (append-nil ms)) k

alike_alone : (ms : List Moment) (w v : World) → Alike (ms ++ []) w v → Alike ms w v
alike_alone ms w v k = subst (λ l. Alike l w v) (append-nil ms) k

module _ {X Y : Type 0} (f : X → Meaning Y) (g : X → Passing) (later : (x : X) (l : List Slot) → Told (f x l) (g x l)) where
  keeps_after : (o : Out X) (ms : List Moment) (w : World) → MomentsKeep ms w (world_in o) → MomentsKeep (ms ++ following o g) w (world_in (after o f))
  keeps_after (gives x l u) ms w k = keeps_join ms (g x l u) w u (world_in (f x l u)) k ((later x l).keeps u)
  keeps_after (stops why u) ms w k = keeps_alone ms w u k

  passed_after : (o : Out X) (ms : List Moment) (w : World) → IsPassed (world_in o) w ms → IsPassed (world_in (after o f)) w (ms ++ following o g)
  passed_after (gives x l u) ms w p = passed_second ms (g x l u) w u (world_in (f x l u)) ((later x l).passed u)
  passed_after (stops why u) ms w p = passed_first ms [] w u p

  -- the ends of what comes behind
  ends_behind : (ms ns : List Moment) (w v x y : World) (one two : Out Y) → ReachedAlike ms w v x y → OutcomesAlike ns x y one two
      → OutcomesAlike (ms ++ passed_at x ∷ ns) w v one two
  ends_behind ms ns w v x y one two r (both_give z l u t e h k) = both_give z l u t e h (reach_join ms ns w v x y u t r k)
  ends_behind ms ns w v x y one two r (both_stop why u t e h k) = both_stop why u t e h (reach_join ms ns w v x y u t r k)

  paired_behind : (ms os : List Moment) (w v x y : World) (z : X) (l : List Slot) → ReachedAlike ms w v x y → dids os ≡ dids ms
      → widths_of x.state ≡ widths_of w.state → widths_of y.state ≡ widths_of v.state
      → Alike (ms ++ passed_at x ∷ g z l x) w v
      → Paired (ms ++ passed_at x ∷ g z l x) (os ++ passed_at y ∷ g z l y) w v (f z l x) (f z l y)
  paired_behind ms os w v x y z l r same wide broad a =
      let p = (later z l).pairs x y (alike_second ms (g z l x) w v x y a r wide broad) in
      record {
        ends = ends_behind ms (g z l x) w v x y (f z l x) (f z l y) r p.ends;
        same = dids_join ms (g z l x) os (g z l y) x y same p.same;
      }

  paired_after : (one two : Out X) (ms os : List Moment) (w v : World) → OutcomesAlike ms w v one two → dids os ≡ dids ms
      → widths_of (world_in one).state ≡ widths_of w.state → widths_of (world_in two).state ≡ widths_of v.state
      → Alike (ms ++ following one g) w v
      → Paired (ms ++ following one g) (os ++ following two g) w v (after one f) (after two f)
  paired_after one two ms os w v (both_give z l x y e h r) same wide broad a =
      rw (e, h) (paired_behind ms os w v x y z l r same (subst (λ o. widths_of (world_in o).state ≡ widths_of w.state) e wide)
      (subst (λ o. widths_of (world_in o).state ≡ widths_of v.state) h broad) (subst (λ o. Alike (ms ++ following o g) w v) e a))
  paired_after one two ms os w v (both_stop why x y e h r) same wide broad a =
      rw (e, h) (record {
        ends = both_stop why x y refl refl (reach_alone ms w v x y r);
        same = ap dids (append-nil os) ∙ same ∙ ap dids (sym (append-nil ms));
      })

  first_alike : (o : Out X) (ms : List Moment) (w v : World) → Alike (ms ++ following o g) w v → Alike ms w v
  first_alike (gives x l u) ms w v a = alike_first ms (g x l u) w v u a
  first_alike (stops why u) ms w v a = alike_alone ms w v a

  pub told_bind : (run : World → Out X) (ms : World → List Moment) → Told run ms → Told (λ w. after (run w) f) (λ w. ms w ++ following (run w) g)
  told_bind run ms t = record {
    keeps = λ w. keeps_after (run w) (ms w) w (t.keeps w);
    passed = λ w. passed_after (run w) (ms w) w (t.passed w);
    pairs = λ w v a.
        let p = t.pairs w v (first_alike (run w) (ms w) w v a) in
        paired_after (run w) (run v) (ms w) (ms v) w v p.ends p.same ((t.keeps w).widths) ((t.keeps v).widths) a;
  }

-- ---- what only changes what is given

-- an outcome less its world
pub data End (Y : Type 0) : Type 0 where
  gave : (y : Y) → (locals : List Slot) → End Y
  stopped : (why : Halt) → End Y

abbrev pub reaching : {Y : Type 0} → End Y → World → Out Y
reaching (gave y l) w = gives y l w
reaching (stopped why) w = stops why w

reaches : {Y : Type 0} (e : End Y) (w : World) → world_in (reaching e w) ≡ w
reaches (gave y l) w = refl
reaches (stopped why) w = refl

both_reach : {Y : Type 0} (e : End Y) (ms : List Moment) (w v x y : World) → ReachedAlike ms w v x y → OutcomesAlike ms w v (reaching e x) (reaching e y)
both_reach (gave z l) ms w v x y r = both_give z l x y refl refl r
both_reach (stopped why) ms w v x y r = both_stop why x y refl refl r

-- a change of an outcome that leaves its world
module _ {X Y : Type 0} (change : Out X → Out Y) (c : X → List Slot → End Y)
    (given : (x : X) (l : List Slot) (w : World) → change (gives x l w) ≡ reaching (c x l) w) (short : (why : Halt) (w : World) → change (stops why w) ≡ stops why w) where
  world_kept : (o : Out X) → world_in (change o) ≡ world_in o
  world_kept (gives x l w) = ap world_in (given x l w) ∙ reaches (c x l) w
  world_kept (stops why w) = ap world_in (short why w)

  ends_changed : (ms : List Moment) (w v : World) (one two : Out X) → OutcomesAlike ms w v one two → OutcomesAlike ms w v (change one) (change two)
  ends_changed ms w v one two (both_give x l u t e h r) = rw (e, h, given x l u, given x l t) (both_reach (c x l) ms w v u t r)
  ends_changed ms w v one two (both_stop why u t e h r) = both_stop why u t (ap change e ∙ short why u) (ap change h ∙ short why t) r

  pub told_changed : (run : World → Out X) (ms : World → List Moment) → Told run ms → Told (λ w. change (run w)) ms
  told_changed run ms t = record {
    keeps = λ w. subst (λ x. MomentsKeep (ms w) w x) (sym (world_kept (run w))) (t.keeps w);
    passed = λ w. subst (λ x. IsPassed x w (ms w)) (sym (world_kept (run w))) (t.passed w);
    pairs = λ w v a.
        let p = t.pairs w v a in
        record { ends = ends_changed (ms w) w v (run w) (run v) p.ends; same = p.same };
  }

-- a part behind that does nothing but give or end
pub told_then : {X Y : Type 0} (f : X → Meaning Y) (c : X → List Slot → End Y) → ((x : X) (l : List Slot) (w : World) → f x l w ≡ reaching (c x l) w)
    → (run : World → Out X) (ms : World → List Moment) → Told run ms → Told (λ w. after (run w) f) ms
told_then f c e run ms t = told_changed (λ o. after o f) c e (λ why w. refl) run ms t

-- what is bound within is forgotten
pub told_leaves : {X : Type 0} (n : ℕ) (run : World → Out X) (ms : World → List Moment) → Told run ms → Told (λ w. leaves n (run w)) ms
told_leaves n run ms t = told_changed (leaves n) (λ x l. gave x (drop (length l - n) l)) (λ x l w. refl) (λ why w. refl) run ms t

-- a part of which only the beginning is told
pub told_enters : {X : Type 0} (l : List Slot) (m : Meaning X) (p : Passing) → ((l : List Slot) → Told (m l) (p l)) → Told (m l) (λ w. passed_at w ∷ p l w)
told_enters l m p later = told_bind (λ (_ : Value). m) (λ _. p) (λ _ l. later l) (λ w. gives value.Unit l w) (λ w. []) (told_gives value.Unit l)
