-- Moments one after the other.
use Rattle.std.proofs.Common.{◌≡◌, ℕ, Bool, true, false, ◌||◌, List, [], ◌∷◌, ◌++◌, refl, sym, ap, ap₂, ◌∙◌, inl, inr, append_assoc, append-nil}
use Rattle.std.specs.List.{list_any}
use Rattle.std.proofs.lemmas.Bool.{or_parts}
use Rattle.std.proofs.lemmas.List.{map-append}
use Rattle.std.proofs.lemmas.List.Folds.{list_any-append}
use Rattle.state_core.specs.State.{register_of, widths_of}
use Rattle.state_core.specs.World.{World}
use Rattle.state_core.specs.Laws.{Grows}
use Rattle.eval_rules.specs.Moments.{passes, Moment}
use Rattle.eval_rules.proofs.Passed.{passed_at}
use Rattle.eval_uses.specs.Uses.{is_read_of, is_write_of, is_access, dids, SameOutside, SameRest, MomentsKeep, Alike, SameOrKept, GrowAlike, ReachedAlike}

-- ---- tests

or_first : (a b : Bool) → a ≡ true → (a || b) ≡ true
or_first true b h = refl
or_first false b h = cc

or_second : (a b : Bool) → b ≡ true → (a || b) ≡ true
or_second true b h = refl
or_second false b h = h

module _ (p : Moment → Bool) (ms ns : List Moment) (w : World) (silent : p (passed_at w) ≡ false) where
  tests : list_any p (ms ++ passed_at w ∷ ns) ≡ (list_any p ms || list_any p ns)
  tests = list_any-append p ms (passed_at w ∷ ns) ∙ ap (λ b. list_any p ms || (b || list_any p ns)) silent

  in_first : list_any p ms ≡ true → list_any p (ms ++ passed_at w ∷ ns) ≡ true
  in_first h = tests ∙ or_first (list_any p ms) (list_any p ns) h

  in_second : list_any p ns ≡ true → list_any p (ms ++ passed_at w ∷ ns) ≡ true
  in_second h = tests ∙ or_second (list_any p ms) (list_any p ns) h

  in_none : list_any p (ms ++ passed_at w ∷ ns) ≡ false → (list_any p ms ≡ false) × (list_any p ns ≡ false)
  in_none h = or_parts (list_any p ms) (list_any p ns) (sym tests ∙ h)

-- ---- one evaluation

outside_join : (w x y : World) → SameOutside w x → SameOutside x y → SameOutside w y
outside_join w x y a b = record { memory = b.memory ∙ a.memory; answers = b.answers ∙ a.answers }

rest_join : (w x y : World) → SameRest w x → SameRest x y → SameRest w y
rest_join w x y a b = record {
  outside = outside_join w x y a.outside b.outside;
  accesses = b.accesses ∙ a.accesses;
  events = b.events ∙ a.events;
}

pub same_rest : (w : World) → SameRest w w
same_rest w = record { outside = record { memory = refl; answers = refl }; accesses = refl; events = refl }

-- a list that grows twice
longer : {X : Type 0} (l m n a b : List X) → m ≡ l ++ a → n ≡ m ++ b → n ≡ l ++ (a ++ b)
longer l m n a b h k = k ∙ ap (λ i. i ++ b) h ∙ append_assoc l a b

grows_join : (w x y : World) → Grows w x → Grows x y → Grows w y
grows_join w x y a b = record {
  accesses = a.accesses ++ b.accesses;
  events = a.events ++ b.events;
  accesses_grow = longer w.accesses x.accesses y.accesses a.accesses b.accesses a.accesses_grow b.accesses_grow;
  events_grow = longer w.events x.events y.events a.events b.events a.events_grow b.events_grow;
}

grows_none : (w : World) → Grows w w
grows_none w = record { accesses = []; events = []; accesses_grow = sym (append-nil w.accesses); events_grow = sym (append-nil w.events) }

pub keeps_join : (ms ns : List Moment) (w x y : World) → MomentsKeep ms w x → MomentsKeep ns x y → MomentsKeep (ms ++ passed_at x ∷ ns) w y
keeps_join ms ns w x y a b = record {
  registers = λ r h. let both = in_none (λ m. is_write_of r m.did) ms ns x refl h in b.registers r both.1 ∙ a.registers r both.0;
  widths = b.widths ∙ a.widths;
  rest = λ h. let both = in_none (λ m. is_access m.did) ms ns x refl h in rest_join w x y (a.rest both.0) (b.rest both.1);
  grows = grows_join w x y a.grows b.grows;
}

-- ---- two evaluations

pub alike_first : (ms ns : List Moment) (w v x : World) → Alike (ms ++ passed_at x ∷ ns) w v → Alike ms w v
alike_first ms ns w v x a = record {
  registers = λ r h. a.registers r (in_first (λ m. is_read_of r m.did) ms ns x refl h);
  widths = a.widths;
  outside = λ h. a.outside (in_first (λ m. is_access m.did) ms ns x refl h);
}

register_agrees : (ms : List Moment) (w v x y : World) (r : ℕ) → SameOrKept ms w v x y r → register_of v.state r ≡ register_of w.state r
    → register_of y.state r ≡ register_of x.state r
register_agrees ms w v x y r (inl s) e = s.1
register_agrees ms w v x y r (inr k) e = k.1 ∙ e ∙ sym k.0

pub alike_second : (ms ns : List Moment) (w v x y : World) → Alike (ms ++ passed_at x ∷ ns) w v → ReachedAlike ms w v x y
    → widths_of x.state ≡ widths_of w.state → widths_of y.state ≡ widths_of v.state → Alike ns x y
alike_second ms ns w v x y a s wide broad = record {
  registers = λ r h. register_agrees ms w v x y r (s.registers r) (a.registers r (in_second (λ m. is_read_of r m.did) ms ns x refl h));
  widths = broad ∙ a.widths ∙ sym wide;
  outside = λ h. s.outside (a.outside (in_second (λ m. is_access m.did) ms ns x refl h));
}

register_join : (ms ns : List Moment) (w v x y z u : World) (r : ℕ) → SameOrKept ms w v x y r → SameOrKept ns x y z u r
    → SameOrKept (ms ++ passed_at x ∷ ns) w v z u r
register_join ms ns w v x y z u r a (inl s) = inl (in_second (λ m. is_write_of r m.did) ms ns x refl s.0, s.1)
register_join ms ns w v x y z u r (inl s) (inr k) = inl (in_first (λ m. is_write_of r m.did) ms ns x refl s.0, k.1 ∙ s.1 ∙ sym k.0)
register_join ms ns w v x y z u r (inr j) (inr k) = inr (k.0 ∙ j.0, k.1 ∙ j.1)

grow_join : (w v x y z u : World) → GrowAlike w v x y → GrowAlike x y z u → GrowAlike w v z u
grow_join w v x y z u a b = record {
  accesses = a.accesses ++ b.accesses;
  events = a.events ++ b.events;
  one_accesses = longer w.accesses x.accesses z.accesses a.accesses b.accesses a.one_accesses b.one_accesses;
  one_events = longer w.events x.events z.events a.events b.events a.one_events b.one_events;
  other_accesses = longer v.accesses y.accesses u.accesses a.accesses b.accesses a.other_accesses b.other_accesses;
  other_events = longer v.events y.events u.events a.events b.events a.other_events b.other_events;
}

grow_none : (w v : World) → GrowAlike w v w v
grow_none w v = record {
  accesses = [];
  events = [];
  one_accesses = sym (append-nil w.accesses);
  one_events = sym (append-nil w.events);
  other_accesses = sym (append-nil v.accesses);
  other_events = sym (append-nil v.events);
}

pub reach_join : (ms ns : List Moment) (w v x y z u : World) → ReachedAlike ms w v x y → ReachedAlike ns x y z u → ReachedAlike (ms ++ passed_at x ∷ ns) w v z u
reach_join ms ns w v x y z u a b = record {
  registers = λ r. register_join ms ns w v x y z u r (a.registers r) (b.registers r);
  outside = λ s. b.outside (a.outside s);
  rest = λ h. let both = in_none (λ m. is_access m.did) ms ns x refl h in rest_join v y u (a.rest both.0) (b.rest both.1);
  grow = grow_join w v x y z u a.grow b.grow;
}

-- ---- what is done

pub dids_join : (ms ns os ps : List Moment) (x y : World) → dids os ≡ dids ms → dids ps ≡ dids ns → dids (os ++ passed_at y ∷ ps) ≡ dids (ms ++ passed_at x ∷ ns)
dids_join ms ns os ps x y h k =
    map-append (λ m. m.did) os (passed_at y ∷ ps) ∙ ap₂ (λ l m. l ++ passes ∷ m) h k ∙ sym (map-append (λ m. m.did) ms (passed_at x ∷ ns))

-- ---- nothing is changed, whatever the moments

pub keeps_still : (ms : List Moment) (w : World) → MomentsKeep ms w w
keeps_still ms w = record { registers = λ r h. refl; widths = refl; rest = λ h. same_rest w; grows = grows_none w }

pub reach_still : (ms : List Moment) (w v : World) → ReachedAlike ms w v w v
reach_still ms w v = record { registers = λ r. inr (refl, refl); outside = λ s. s; rest = λ h. same_rest v; grow = grow_none w v }
