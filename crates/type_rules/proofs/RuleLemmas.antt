-- The rules in small, against what the judgement says of them.
use Rattle.std.proofs.Common.{◌≡◌, ℕ, ◌+◌, ◌<◌, ◌≤◌, Bool, true, false, List, [], ◌∷◌, Option, Some, None, refl, sym, ap, ◌∙◌, subst, arith, nat_eq, nat_lt}
use Rattle.std.proofs.lemmas.Bool.Decides.{nat_tests}
use Rattle.std.proofs.lemmas.Slice.Eq.{bytes_eq-Decides}
use Rattle.std.proofs.lemmas.Bool.{eqb-true, eq-eqb}
use Rattle.std.specs.Prelude.{⊤, ◌^◌, ◌&&◌, nat_le, bytes_eq, if◌then◌else◌}
use Rattle.bv_bits.specs.declared.Bits.{Bits}
use Rattle.bv_bits.specs.Bits.{IsBits, IsWidth, is_width}
use Rattle.sail_syntax.specs.Types.{is_same_type}
use Rattle.sail_syntax.specs.declared.tree.Infix.{Infix}
use Rattle.sail_syntax.specs.declared.types.Ty.{Ty}
use Rattle.sail_syntax.specs.declared.types.Ty.TheVariants as ty
use Rattle.type_rules.specs.Faults.{Faults, fine, fault, both, Clean}
use Rattle.type_rules.specs.Rules.{Judged, is, bind, or_else, fits, no_type, where_holds, bits_only, is_value, takes, heads, compares, chain_type, widened, widens, differs}
use Rattle.type_rules.specs.HasType.{Asks, Where, IsOfBits}
use Rattle.type_rules.specs.Laws.{IsTyped}

-- a type that was found, and what holds of it
pub record Found (j : Judged) (P : Ty → Type 0) : Type 0 where
  pub type : Ty
  pub is : j.type ≡ Some type
  pub has : P type

-- ---- one part, and then what is judged with its type

pub then_sound : (j : Judged) (f : Option Ty → Judged) (P : Ty → Type 0) (Q : Ty → Ty → Type 0) → (Clean j.faults → Found j P) → ((u : Ty) → P u → Clean (f (Some u)).faults → Found (f (Some u)) (Q u))
    → Clean (bind j f).faults → Found (bind j f) (λ t. (u : Ty) × (P u × Q u t))
then_sound j f P Q a b c =
    let g = a c.0 in
    let h = b g.type g.has (subst (λ o. Clean (f o).faults) g.is c.1) in
    record { type = h.type; is = subst (λ o. (f o).type ≡ Some h.type) (sym g.is) h.is; has = (g.type, (g.has, h.has)) }

pub then_complete : (j : Judged) (f : Option Ty → Judged) (u t : Ty) → IsTyped j u → IsTyped (f (Some u)) t → IsTyped (bind j f) t
then_complete j f u t a b =
    let h = subst (λ o. IsTyped (f o) t) (sym a.0) b in (h.0, (a.1, h.1))

-- a part whose type doesn't matter
pub after_complete : (j k : Judged) (t : Ty) → Clean j.faults → IsTyped k t → IsTyped (bind j (λ _. k)) t
after_complete j k t a b = (b.0, (a, b.1))

-- the same fact of another type
pub found_map : {P Q : Ty → Type 0} (j : Judged) → Found j P → ((t : Ty) → P t → Q t) → Found j Q
found_map j g f = record { type = g.type; is = g.is; has = f g.type g.has }

-- ---- one type or another

pub same_is : (a b : Ty) → is_same_type a b ≡ true → a ≡ b
same_is ty.Unit ty.Unit h = refl
same_is ty.Bool ty.Bool h = refl
same_is (ty.Bits v) (ty.Bits w) h = ap ty.Bits (eqb-true v w h)
same_is (ty.Enum x) (ty.Enum y) h = ap ty.Enum ((bytes_eq-Decides x y).0 h)
same_is ty.Unit ty.Bool h = cc
same_is ty.Unit (ty.Bits w) h = cc
same_is ty.Unit (ty.Enum y) h = cc
same_is ty.Bool ty.Unit h = cc
same_is ty.Bool (ty.Bits w) h = cc
same_is ty.Bool (ty.Enum y) h = cc
same_is (ty.Bits v) ty.Unit h = cc
same_is (ty.Bits v) ty.Bool h = cc
same_is (ty.Bits v) (ty.Enum y) h = cc
same_is (ty.Enum x) ty.Unit h = cc
same_is (ty.Enum x) ty.Bool h = cc
same_is (ty.Enum x) (ty.Bits w) h = cc

pub same_refl : (a : Ty) → is_same_type a a ≡ true
same_refl ty.Unit = refl
same_refl ty.Bool = refl
same_refl (ty.Bits v) = eq-eqb v v refl
same_refl (ty.Enum x) = (bytes_eq-Decides x x).1 refl

pub fits_sound : (at : ℕ) (want : Option Ty) (k : Ty) → Clean (fits at want (Some k)).faults → Found (fits at want (Some k)) (λ t. (t ≡ k) × Asks want t)
fits_sound at None k c = record { type = k; is = refl; has = (refl, tt) }
fits_sound at (Some w) k c = step (is_same_type w k) refl c
  where
    step : (b : Bool) → is_same_type w k ≡ b → Clean (if b then is (Some k) else differs w k at).faults → Found (if b then is (Some k) else differs w k at) (λ t. (t ≡ k) × (w ≡ t))
    step true h d = record { type = k; is = refl; has = (refl, same_is w k h) }
    step false h d = absurd d

pub fits_complete : (at : ℕ) (want : Option Ty) (k t : Ty) → t ≡ k → Asks want t → IsTyped (fits at want (Some k)) t
fits_complete at want k t e a = subst (λ p. IsTyped (fits at want (Some p)) t) e (at_some want a)
  where
    at_some : (want : Option Ty) → Asks want t → IsTyped (fits at want (Some t)) t
    at_some None a = (refl, tt)
    at_some (Some w) a = subst (λ v. IsTyped (fits at (Some v) (Some t)) t) (sym a) (rw (same_refl t) (refl, tt))

-- where a rule has to hold
pub record Held (b : Bool) (j : Judged) (P : Ty → Type 0) : Type 0 where
  pub holds : b ≡ true
  pub found : Found j P

pub holds_sound : (b : Bool) (at : ℕ) (want : Option Ty) (k : Ty) → Clean (where_holds b at want (Some k)).faults → Held b (where_holds b at want (Some k)) (λ t. (t ≡ k) × Asks want t)
holds_sound true at want k c = record { holds = refl; found = fits_sound at want k c }
holds_sound false at want k c = absurd c

pub holds_complete : (b : Bool) (at : ℕ) (want : Option Ty) (k t : Ty) → b ≡ true → t ≡ k → Asks want t → IsTyped (where_holds b at want (Some k)) t
holds_complete b at want k t h e a = subst (λ o. IsTyped (where_holds o at want (Some k)) t) (sym h) (fits_complete at want k t e a)

-- ---- bits

pub bits_sound : (at : ℕ) (k : Ty) → Clean (bits_only at (Some k)).faults → Found (bits_only at (Some k)) (λ t. (t ≡ k) × IsOfBits t)
bits_sound at (ty.Bits w) c = record { type = ty.Bits w; is = refl; has = (refl, tt) }
bits_sound at ty.Unit c = absurd c
bits_sound at ty.Bool c = absurd c
bits_sound at (ty.Enum x) c = absurd c

pub bits_complete : (at : ℕ) (k : Ty) → IsOfBits k → IsTyped (bits_only at (Some k)) k
bits_complete at (ty.Bits w) h = (refl, tt)
bits_complete at ty.Unit h = absurd h
bits_complete at ty.Bool h = absurd h
bits_complete at (ty.Enum x) h = absurd h

-- an operand of bits
pub record Operand (j : Judged) (at : ℕ) (P : Ty → Type 0) : Type 0 where
  pub width : ℕ
  pub is : (bind j (bits_only at)).type ≡ Some (ty.Bits width)
  pub has : P (ty.Bits width)

pub operand_sound : (j : Judged) (at : ℕ) (P : Ty → Type 0) → (Clean j.faults → Found j P) → Clean (bind j (bits_only at)).faults → Operand j at P
operand_sound j at P a c = let g = a c.0 in by_type g.type g.is g.has (subst (λ o. Clean (bits_only at o).faults) g.is c.1)
  where
    by_type : (u : Ty) → j.type ≡ Some u → P u → Clean (bits_only at (Some u)).faults → Operand j at P
    by_type (ty.Bits w) e p d = record { width = w; is = ap (λ o. (bits_only at o).type) e; has = p }
    by_type ty.Unit e p d = absurd d
    by_type ty.Bool e p d = absurd d
    by_type (ty.Enum x) e p d = absurd d

pub operand_complete : (j : Judged) (at w : ℕ) → IsTyped j (ty.Bits w) → IsTyped (bind j (bits_only at)) (ty.Bits w)
operand_complete j at w a = then_complete j (bits_only at) (ty.Bits w) (ty.Bits w) a (refl, tt)

pub width_sound : (w : ℕ) → is_width w ≡ true → IsWidth w
width_sound w h = record { positive = grind (arith, nat_tests); at_most = grind (arith, nat_tests) }

pub width_complete : (w : ℕ) → IsWidth w → is_width w ≡ true
width_complete w h = let p : 0 < w = h.positive in let q : w ≤ 128 = h.at_most in grind (arith, nat_tests)

pub both_true : (a b : Bool) → a && b ≡ true → (a ≡ true) × (b ≡ true)
both_true true true h = (refl, refl)
both_true true false h = absurd cc
both_true false b h = absurd cc

pub and_true : (a b : Bool) → a ≡ true → b ≡ true → a && b ≡ true
and_true a b p q = subst (λ o. o && b ≡ true) (sym p) (subst (λ o. true && o ≡ true) (sym q) refl)

pub lt_true : (a b : ℕ) → nat_lt a b ≡ true → a < b
lt_true a b h = grind (arith, nat_tests)

pub lt_test : (a b : ℕ) → a < b → nat_lt a b ≡ true
lt_test a b h = grind (arith, nat_tests)

pub le_true : (a b : ℕ) → nat_le a b ≡ true → a ≤ b
le_true a b h = grind (arith, nat_tests)

pub le_test : (a b : ℕ) → a ≤ b → nat_le a b ≡ true
le_test a b h = grind (arith, nat_tests)

pub value_sound : (b : Bits) → is_value b ≡ true → IsBits b
value_sound b h =
    let p = both_true (is_width b.width) (nat_lt b.value (2 ^ b.width)) h in
    let w = width_sound b.width p.0 in
    record { positive = w.positive; at_most = w.at_most; fits = lt_true b.value (2 ^ b.width) p.1 }

pub value_complete : (b : Bits) → IsBits b → is_value b ≡ true
value_complete b h =
    and_true (is_width b.width) (nat_lt b.value (2 ^ b.width)) (width_complete b.width (record { positive = h.positive; at_most = h.at_most })) (lt_test b.value (2 ^ b.width) h.fits)

-- ---- chains

pub heads_sound : (op : Infix) (at : ℕ) (k : Ty) → Clean (heads op at (Some k)).faults → Found (heads op at (Some k)) (λ t. (t ≡ k) × (takes op t ≡ true))
heads_sound op at k c = step (takes op k) refl c
  where
    step : (b : Bool) → takes op k ≡ b → Clean (if b then is (Some k) else differs k k at).faults → Found (if b then is (Some k) else differs k k at) (λ t. (t ≡ k) × (takes op t ≡ true))
    step true h d = record { type = k; is = refl; has = (refl, h) }
    step false h d = absurd d

pub heads_complete : (op : Infix) (at : ℕ) (k : Ty) → takes op k ≡ true → IsTyped (heads op at (Some k)) k
heads_complete op at k h = rw h (refl, tt)

-- the type of a chain
pub chain_known : (op : Infix) (u : Ty) → (t : Ty) × ((chain_type op (Some u) ≡ Some t) × Where (compares op) (t ≡ ty.Bool) (t ≡ u))
chain_known op u = step (compares op)
  where
    step : (b : Bool) → (t : Ty) × (((if b then Some ty.Bool else Some u) ≡ Some t) × Where b (t ≡ ty.Bool) (t ≡ u))
    step true = (ty.Bool, (refl, refl))
    step false = (u, (refl, refl))

pub chain_found : (op : Infix) (u t : Ty) → Where (compares op) (t ≡ ty.Bool) (t ≡ u) → chain_type op (Some u) ≡ Some t
chain_found op u t h = step (compares op) h
  where
    step : (b : Bool) → Where b (t ≡ ty.Bool) (t ≡ u) → (if b then Some ty.Bool else Some u) ≡ Some t
    step true e = ap Some (sym e)
    step false e = ap Some (sym e)

-- ---- sums of widths

pub widened_is : (total w n : ℕ) → widened total w ≤ n → n ≤ 128 → widened total w ≡ total + w
widened_is total w n h k = step (nat_lt 128 total) refl h
  where
    step : (b : Bool) → nat_lt 128 total ≡ b → (if b then total else total + w) ≤ n → (if b then total else total + w) ≡ total + w
    step true e g = let f : 128 < total = lt_true 128 total e in absurd (omega (arith, f, g, k))
    step false e g = refl

pub widened_of : (total w n : ℕ) → total + w ≤ n → n ≤ 128 → widened total w ≡ total + w
widened_of total w n h k = step (nat_lt 128 total) refl
  where
    step : (b : Bool) → nat_lt 128 total ≡ b → (if b then total else total + w) ≡ total + w
    step true e = let f : 128 < total = lt_true 128 total e in absurd (omega (arith, f, h, k))
    step false e = refl

-- ---- widening

pub widens_sound : (to w : ℕ) → widens to (Some (ty.Bits w)) ≡ true → IsWidth to × (w ≤ to)
widens_sound to w h = let p = both_true (is_width to) (nat_le w to) h in (width_sound to p.0, le_true w to p.1)

pub widens_complete : (to w : ℕ) → IsWidth to → w ≤ to → widens to (Some (ty.Bits w)) ≡ true
widens_complete to w h k = and_true (is_width to) (nat_le w to) (width_complete to h) (le_test w to k)

-- ---- what was asked for, or found, is the type

pub or_asked : (want o : Option Ty) (k : Ty) → o ≡ Some k → Asks want k → or_else want o ≡ Some k
or_asked None o k e h = e
or_asked (Some w) o k e h = ap Some h
