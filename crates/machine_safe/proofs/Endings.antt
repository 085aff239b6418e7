-- How a walk goes on, by how it ends.
use Rattle.std.proofs.Common.{◌≡◌, ℕ, ◌≤◌, [], ◌∷◌, refl, sym, ap, ◌∙◌, subst, arith, Bool, true, false, T, Some, None}
use Rattle.std.specs.Prelude.{if◌then◌else◌, nat_lt, nat_le, nat_eq, ◌&&◌}
use Rattle.std.specs.List.{position}
use Rattle.std.proofs.lemmas.Bool.{leb-true}
use Rattle.std.proofs.Common.{eq-eqb}
use Rattle.state_core.specs.World.{World}
use Rattle.eval_words.specs.Instr.{Ended, whole, cut}
use Rattle.machine_safe.specs.First.{Constants, end_of, is_inside, Walked, left, outside, touches, fails, too_many, next_of, IsPlainCut}
use Rattle.machine_safe.proofs.Calm.{IsPlainEnded}

abbrev pub walked_number : Walked → ℕ
walked_number (left k l) = 0
walked_number (outside pc) = 1
walked_number (fails e pc) = 2
walked_number (too_many pc) = 3
walked_number (touches pc) = 4

-- ---- how a walk goes on that ends by leaving the code

pub opened : (b d : Bool) (pc count last k l : ℕ) (w e : World) (further : Walked × World) → b ≡ true
    → (if b then (if d then further else (outside pc, w)) else (left count last, w)) ≡ (left k l, e) → (d ≡ true) × (further ≡ (left k l, e))
opened true true pc count last k l w e further yes_inside is = (refl, is)
opened true false pc count last k l w e further yes_inside is = let h : 1 ≡ 0 = ap (λ r. walked_number r.0) is in absurd (omega (arith, h))
opened false d pc count last k l w e further yes_inside is = absurd (cc)

pub closed : (b d : Bool) (pc count last k l : ℕ) (w e : World) (further : Walked × World) → b ≡ false
    → (if b then (if d then further else (outside pc, w)) else (left count last, w)) ≡ (left k l, e) → w ≡ e
closed true d pc count last k l w e further out is = absurd (cc)
closed false d pc count last k l w e further out is = ap (λ r. r.1) is

pub went : (b : Bool) (x : Ended) (pc k l : ℕ) (w e : World) (rest : Walked × World) → next_of b x pc w rest ≡ (left k l, e)
    → (b ≡ false) × (x ≡ whole) × (rest ≡ (left k l, e))
went true x pc k l w e rest is = let h : 4 ≡ 0 = ap (λ r. walked_number r.0) is in absurd (omega (arith, h))
went false whole pc k l w e rest is = (refl, refl, is)
went false (cut why) pc k l w e rest is = let h : 2 ≡ 0 = ap (λ r. walked_number r.0) is in absurd (omega (arith, h))

pub none_left : (k l : ℕ) (e : World) (t : Walked × World) → walked_number t.0 ≡ 3 → t ≡ (left k l, e) → ⊥
none_left k l e t many is = let h : walked_number t.0 ≡ 0 = ap (λ r. walked_number r.0) is in absurd (omega (arith, h, many))

pub low_of : (c : Constants) (pc : ℕ) → is_inside c pc ≡ true → c.lo ≤ pc
low_of c pc inside = by_low (nat_le c.lo pc) refl inside
  where
    by_low : (b : Bool) → nat_le c.lo pc ≡ b → (b && nat_lt pc (end_of c)) ≡ true → c.lo ≤ pc
    by_low true e is = leb-true c.lo pc e
    by_low false e is = absurd (cc)

pub no_end : (x y : ℕ) → x ≡ y → nat_eq x y ≡ false → ⊥
no_end x y same other = subst T (sym (eq-eqb x y same) ∙ other) tt

pub position_there : (q : ℕ → Bool) (x : ℕ) → q x ≡ true → position q (x ∷ []) ≡ Some 0
position_there q x e = rw e refl

pub position_not : (q : ℕ → Bool) (x : ℕ) → q x ≡ false → position q (x ∷ []) ≡ None
position_not q x e = rw e refl

ended_in : Walked → Ended
ended_in (left k l) = whole
ended_in (outside pc) = whole
ended_in (touches pc) = whole
ended_in (fails e pc) = e
ended_in (too_many pc) = whole

-- behind a step that is whole the rest fails; one that is cut short fails itself
pub fails_by : (b : Bool) (f : Ended) (pc at : ℕ) (w x : World) (e : Ended) (rest : Walked × World) → (b ≡ false → IsPlainEnded f)
    → (b ≡ false → (g : Ended) → rest ≡ (fails g at, x) → IsPlainCut g) → next_of b f pc w rest ≡ (fails e at, x) → IsPlainCut e
unfolding ended_in
fails_by true f pc at w x e rest plain more is = let h : 4 ≡ 2 = ap (λ r. walked_number r.0) is in absurd (omega (arith, h))
fails_by false whole pc at w x e rest plain more is = more refl e is
fails_by false (cut why) pc at w x e rest plain more is = subst IsPlainCut (ap (λ (r : Walked × World). ended_in r.0) is) (plain refl)
