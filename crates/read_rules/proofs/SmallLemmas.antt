-- Small facts of truth values, numbers, bytes and options.
use Rattle.std.proofs.Common.{◌≡◌, ◌==◌, ℕ, Bool, true, false, not, List, Option, Some, None, refl, eq-eqb, bytes_eq}
use Rattle.std.specs.Option.{option_map, option_and_then}
use Rattle.std.proofs.lemmas.Option.{same_Some}
use Rattle.std.proofs.lemmas.Slice.Eq.{bytes_eq-Decides}

pub not_true : (a : Bool) → not a ≡ true → a ≡ false
not_true true h = absurd (cc)
not_true false h = refl

pub number_itself : (k : ℕ) → (k == k) ≡ true
number_itself k = eq-eqb k k refl

pub bytes_itself : (z : List ℕ) → bytes_eq z z ≡ true
bytes_itself z = (bytes_eq-Decides z z).1 refl

-- what a value went through that was made of another one
pub mapped : {A B : Type 0} (f : A → B) (o : Option A) (y : B) → option_map f o ≡ Some y → (x : A) × (o ≡ Some x) × (f x ≡ y)
mapped f None y h = absurd (cc)
mapped f (Some x) y h = (x, refl, same_Some (f x) y h)

-- what a value went through that was found behind another one
pub bind_some : {A B : Type 0} (o : Option A) (f : A → Option B) (y : B) → option_and_then f o ≡ Some y → (x : A) × (o ≡ Some x) × (f x ≡ Some y)
bind_some None f y h = absurd (cc)
bind_some (Some x) f y h = (x, refl, h)
