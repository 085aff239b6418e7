use Rattle.std.proofs.Common.{◌≡◌, ℕ, ◌+◌, ◌-◌, ◌<◌, ◌≤◌, List, ◌∷◌, ◌++◌, true, length, get_or, take, drop, reverse, refl, sym, ap, ◌∙◌, arith}
use Rattle.std.proofs.Math.ListN.{set}
use Rattle.std.specs.Prelude.{bytes_eq}
use Rattle.sail_values.specs.declared.value.Slot.{Slot}
use Rattle.sail_values.specs.declared.value.Local.{Local}
use Rattle.sail_values.specs.Slots.{put}
use Rattle.sail_values.proofs.Back.{back, set_back}
use Rattle.sail_values.proofs.slots.Slots.set.Goals as goal

put_back : (x : List ℕ) (v : Local) (xs : List Slot) (at : ℕ) (g : Slot) → 0 < at → at ≤ length xs → g ≡ get_or xs (at - 1) g → bytes_eq g.name x ≡ true → put x v (reverse xs) ≡ reverse (drop at xs) ++ put x v (reverse (take at xs)) → reverse (set xs (at - 1) (record { name = g.name; local = v })) ≡ put x v (reverse xs)
put_back x v xs at g some within e t inv =
    let h : at - 1 < length xs = omega arith in
    let n : at - 1 + 1 ≡ at = omega arith in
    let y : Slot = record { name = g.name; local = v } in
    let r = reverse (take (at - 1) xs) in
    let b = ap (λ k. reverse (take k xs)) (sym n) ∙ back xs (at - 1) g h ∙ ap (λ d. d ∷ r) (sym e) in
    let p : put x v (g ∷ r) ≡ y ∷ r = rw t refl in
    set_back xs (at - 1) g y h ∙ ap (λ k. reverse (drop k xs) ++ (y ∷ r)) n ∙ sym (inv ∙ ap (λ t. reverse (drop at xs) ++ put x v t) b ∙ ap (λ t. reverse (drop at xs) ++ t) p)

pub returns-then-is-clause-written : goal.returns-then-is-clause-written
returns-then-is-clause-written c =
    let i = c.loop-at.invariant in
    let xs = c.loop-at.self-inside.slots.items in
    let some : 0 < c.loop-at.at = omega arith in
    put_back c.args.name.now c.args.local xs c.loop-at.at c.index_mut-slot.result.now some i.0 c.index_mut-slot.ensures.value (sym c.is.ensures ∙ c.if-is.true) i.3
    ∙ ap (λ s. put c.args.name.now c.args.local (reverse s)) i.1 ∙ ap (put c.args.name.now c.args.local) c.self.view_is
