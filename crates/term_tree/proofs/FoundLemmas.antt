-- What a search gives.
use Rattle.std.proofs.Common.{◌≡◌, Bool, true, false, cond, List, [], ◌∷◌, Option, Some, refl}
use Rattle.std.specs.Prelude.{All, find, unwrap_or}
use Rattle.std.specs.Option.{option_map}
use Rattle.std.proofs.lemmas.List.Elements.{All-head, All-tail}

-- ---- what is found

-- what a search gives has what each item has that passes, and what stands for none
module _ {A B : Type 0} (P : B → Type 0) (test : A → Bool) (part : A → B) where
  found_by : (b : Bool) (x : A) (rest : Option A) (d : B) → (b ≡ true → P (part x)) → P (unwrap_or (option_map part rest) d) → P (unwrap_or (option_map part (cond b (Some x) rest)) d)
  found_by true x rest d f g = f refl
  found_by false x rest d f g = g

  pub found : (xs : List A) (d : B) → All (λ x. test x ≡ true → P (part x)) xs → P d → P (unwrap_or (option_map part (find test xs)) d)
  found [] d all h = h
  found (x ∷ xs) d all h =
      found_by (test x) x (find test xs) d (All-head (λ x. test x ≡ true → P (part x)) x xs all) (found xs d (All-tail (λ x. test x ≡ true → P (part x)) x xs all) h)

-- what each item has, each has that passes
pub always : {A : Type 0} (P : A → Type 0) (test : A → Bool) (xs : List A) → All P xs → All (λ x. test x ≡ true → P x) xs
always P test xs all = λ k d lt t. all k d lt
