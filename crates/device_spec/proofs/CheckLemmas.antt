-- No fault is found exactly where devices stand together.
use Rattle.std.proofs.Common.{◌≡◌, ◌↔◌, ℕ, ◌+◌, ◌<◌, ◌≤◌, Bool, true, false, not, ◌&&◌, ◌||◌, cond, max, List, [], ◌∷◌, ◌++◌, length, get_or, Option, Some, None, refl, sym, ap, subst, ◌∙◌, arith, length-append}
use Rattle.std.proofs.Math.Bool.{true≢false}
use Rattle.std.specs.Prelude.{is_some}
use Rattle.std.specs.Prelude.{All, AllPairs, ltb, leb}
use Rattle.std.specs.Bool.{Decides}
use Rattle.std.specs.List.{list_any}
use Rattle.std.proofs.lemmas.Bool.Decides.{Decides-ltb, Decides-and, Decides-not, Decides-like}
use Rattle.std.proofs.lemmas.List.{append_assoc, append-nil}
use Rattle.std.proofs.lemmas.List.Elements.{All-nil, All-cons, All-head, All-tail, All-push}
use Rattle.std.proofs.lemmas.List.Quantifiers.{all_pairs_push}
use Rattle.std.proofs.Math.ListN.{get_or-append}
use Rattle.std.proofs.Math.Seq.{get_or-append_seam}
use Rattle.device_spec.specs.declared.device.DevFault.{DevFault}
use Rattle.device_spec.specs.declared.device.DevFault.TheVariants as fault
use Rattle.device_spec.specs.Devices.{PlainDevice, PlainTransition}
use Rattle.device_spec.specs.Checked.{before, device_fault, devices_fault, is_inside, overlaps, state_fault, transition_fault, transitions_fault}
use Rattle.device_spec.specs.Laws.{AreApart, AreDevices, IsDevice, IsIn, IsTransitionOf}

-- ---- faults in a row

-- a fault is one
a_fault : (f : DevFault) → Some f ≡ None → ⊥
a_fault f e = true≢false (ap is_some e)

-- no fault in either
before_none : (a b : Option DevFault) → (before a b ≡ None) ↔ ((a ≡ None) × (b ≡ None))
before_none None b = ((λ e. (refl, e)), λ h. h.1)
before_none (Some f) b = ((λ e. absurd (a_fault f e)), λ h. absurd (a_fault f h.0))

-- no fault behind a test that fails
guarded : (b : Bool) (a : Option DevFault) (f : DevFault) → (cond b a (Some f) ≡ None) ↔ ((b ≡ true) × (a ≡ None))
guarded true a f = ((λ e. (refl, e)), λ h. h.1)
guarded false a f = ((λ e. absurd (a_fault f e)), λ h. absurd (true≢false (sym h.0)))

-- no fault behind a test that must fail
unless : (b : Bool) (a : Option DevFault) (f : DevFault) → (cond b (Some f) a ≡ None) ↔ ((b ≡ false) × (a ≡ None))
unless true a f = ((λ e. absurd (a_fault f e)), λ h. absurd (true≢false h.0))
unless false a f = ((λ e. (refl, e)), λ h. h.1)

-- ---- transitions

state_none : (states q : ℕ) → (state_fault states q ≡ None) ↔ (q < states)
state_none states q =
    let d = Decides-ltb q states in let g = guarded (ltb q states) None (fault.BadState q) in
    ((λ e. d.0 (g.0 e).0), λ h. g.1 (d.1 h, refl))

inside_decides : (d : PlainDevice) (t : PlainTransition) → (is_inside d t ≡ true) ↔ ((d.lo ≤ t.addr) × (t.addr + t.bytes ≤ d.hi))
inside_decides d t = ((λ e. (grind (arith, e), grind (arith, e))), λ h. grind (arith, h.0, h.1))

transition_none : (d : PlainDevice) (t : PlainTransition) → (transition_fault d t ≡ None) ↔ IsTransitionOf d t
transition_none d t =
    let g = guarded (is_inside d t) (before (state_fault d.states t.from) (state_fault d.states t.to)) fault.BadRange in
    let b = before_none (state_fault d.states t.from) (state_fault d.states t.to) in
    let i = inside_decides d t in (
      (λ e. let h = g.0 e in let k = b.0 h.1 in record {
        begins = (i.0 h.0).0;
        ends = (i.0 h.0).1;
        from = (state_none d.states t.from).0 k.0;
        to = (state_none d.states t.to).0 k.1;
      }),
      λ h. g.1 (i.1 (h.begins, h.ends), b.1 ((state_none d.states t.from).1 h.from, (state_none d.states t.to).1 h.to)),
    )

transitions_none : (d : PlainDevice) (ts : List PlainTransition) → (transitions_fault d ts ≡ None) ↔ All (IsTransitionOf d) ts
transitions_none d [] = ((λ _. All-nil (IsTransitionOf d)), λ _. refl)
transitions_none d (t ∷ ts) =
    let b = before_none (transition_fault d t) (transitions_fault d ts) in (
      (λ e. let h = b.0 e in All-cons (IsTransitionOf d) t ts ((transition_none d t).0 h.0) ((transitions_none d ts).0 h.1)),
      λ h. b.1 ((transition_none d t).1 (All-head (IsTransitionOf d) t ts h), (transitions_none d ts).1 (All-tail (IsTransitionOf d) t ts h)),
    )

-- ---- ranges

-- two ranges that aren't empty
apart_decides : (e d : PlainDevice) → e.lo < e.hi → d.lo < d.hi → (overlaps d e ≡ false) ↔ AreApart e d
apart_decides e d n m =
    let o = Decides-and (ltb d.lo e.hi) (ltb e.lo d.hi) (Decides-ltb d.lo e.hi) (Decides-ltb e.lo d.hi) in (
      (λ h a (i : IsIn e a) (k : IsIn d a). true≢false (sym (o.1 (omega (arith, k.0, i.1), omega (arith, i.0, k.1))) ∙ h)),
      λ h. by (overlaps d e) refl (λ t. let p = o.0 t in h (max d.lo e.lo) (omega (arith), omega (arith, n, m, p.0, p.1)) (omega (arith), omega (arith, n, m, p.0, p.1))),
    )
  where
    by : (b : Bool) → overlaps d e ≡ b → (overlaps d e ≡ true → ⊥) → overlaps d e ≡ false
    by true t f = absurd (f t)
    by false t f = t

or_false : (x y : Bool) → ((x || y) ≡ false) ↔ ((x ≡ false) × (y ≡ false))
or_false true y = ((λ e. absurd (true≢false e)), λ h. absurd (true≢false h.0))
or_false false y = ((λ e. (refl, e)), λ h. h.1)

-- a range, beside earlier ones
all_apart : (d : PlainDevice) → d.lo < d.hi → (es : List PlainDevice) → All IsDevice es → (list_any (overlaps d) es ≡ false) ↔ All (λ e. AreApart e d) es
all_apart d n [] each = ((λ _. All-nil (λ e. AreApart e d)), λ _. refl)
all_apart d n (e ∷ es) each =
    let o = or_false (overlaps d e) (list_any (overlaps d) es) in
    let own = apart_decides e d (All-head IsDevice e es each).range n in
    let more = all_apart d n es (All-tail IsDevice e es each) in (
      (λ h. All-cons (λ e. AreApart e d) e es (own.0 (o.0 h).0) (more.0 (o.0 h).1)),
      λ h. o.1 (own.1 (All-head (λ e. AreApart e d) e es h), more.1 (All-tail (λ e. AreApart e d) e es h)),
    )

device_none : (es : List PlainDevice) (d : PlainDevice) → All IsDevice es → (device_fault es d ≡ None) ↔ (IsDevice d × All (λ e. AreApart e d) es)
device_none es d each =
    let range = Decides-ltb d.lo d.hi in
    let g = guarded (ltb d.lo d.hi) (cond (list_any (overlaps d) es) (Some fault.BadRange) (transitions_fault d d.transitions)) fault.BadRange in
    let u = unless (list_any (overlaps d) es) (transitions_fault d d.transitions) fault.BadRange in (
      (λ e. let h = g.0 e in let k = u.0 h.1 in
          (record { range = range.0 h.0; transitions = (transitions_none d d.transitions).0 k.1 }, (all_apart d (range.0 h.0) es each).0 k.0)),
      λ h. g.1 (range.1 h.0.range, u.1 ((all_apart d h.0.range es each).1 h.1, (transitions_none d d.transitions).1 h.0.transitions)),
    )

-- ---- all devices

-- the first of devices
front : (xs ys : List PlainDevice) → AreDevices (xs ++ ys) → AreDevices xs
front xs ys h = record {
  each = λ i x l. subst IsDevice (get_or-append xs ys x i l) (h.each i x (omega (arith, l, length-append xs ys)));
  apart = λ i j x l m.
      subst (λ y. AreApart y (get_or xs j x)) (get_or-append xs ys x i (omega (arith, l, m)))
      (subst (λ y. AreApart (get_or (xs ++ ys) i x) y) (get_or-append xs ys x j m) (h.apart i j x l (omega (arith, m, length-append xs ys))));
}

-- a device, behind those in front of it
at_seam : (xs : List PlainDevice) (d : PlainDevice) (ys : List PlainDevice) → AreDevices (xs ++ d ∷ ys) → IsDevice d × All (λ e. AreApart e d) xs
at_seam xs d ys h = (
  subst IsDevice (get_or-append_seam xs d ys d) (h.each (length xs) d (longer xs d ys)),
  λ i x l.
      subst (λ y. AreApart y d) (get_or-append xs (d ∷ ys) x i l)
      (subst (λ y. AreApart (get_or (xs ++ d ∷ ys) i x) y) (get_or-append_seam xs d ys x) (h.apart i (length xs) x l (longer xs d ys))),
)
  where
    longer : (xs : List PlainDevice) (d : PlainDevice) (ys : List PlainDevice) → length xs < length (xs ++ d ∷ ys)
    longer xs d ys = omega (arith, length-append xs (d ∷ ys))

pub devices_none : (es ds : List PlainDevice) → AreDevices es → (devices_fault es ds ≡ None) ↔ AreDevices (es ++ ds)
devices_none es [] h = ((λ _. subst AreDevices (sym (append-nil es)) h), λ _. refl)
devices_none es (d ∷ ds) h =
    let b = before_none (device_fault es d) (devices_fault (es ++ d ∷ []) ds) in
    let own = device_none es d h.each in (
      (λ e. let k = b.0 e in subst AreDevices (append_assoc es (d ∷ []) ds) ((devices_none (es ++ d ∷ []) ds (pushed (own.0 k.0))).0 k.1)),
      λ k. let s = at_seam es d ds k in
          b.1 (own.1 s, (devices_none (es ++ d ∷ []) ds (pushed s)).1 (subst AreDevices (sym (append_assoc es (d ∷ []) ds)) k)),
    )
  where
    pushed : IsDevice d × All (λ e. AreApart e d) es → AreDevices (es ++ d ∷ [])
    pushed s = record { each = All-push IsDevice es d h.each s.0; apart = all_pairs_push AreApart es d h.apart s.1 }

pub no_devices : AreDevices []
no_devices = record { each = All-nil IsDevice; apart = λ i j x l m. absurd (omega (arith, m)) }
