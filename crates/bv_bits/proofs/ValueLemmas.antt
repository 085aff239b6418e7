-- What the operators give.
use Rattle.std.proofs.Common.{◌≡◌, ℕ, ◌+◌, ◌*◌, ◌%◌, ◌^◌, ◌<◌, ◌≤◌, Bool, true, false, [], ◌∷◌, IsSome, bit_or, bit_xor, eqb, leb, ◌&&◌, refl, ap, sym, ◌∙◌, subst, arith}
use Rattle.std.specs.Prelude.{unwrap_or}
use Rattle.std.proofs.lemmas.Bool.{leb-true, eqb-true, and_parts}
use Rattle.std.proofs.Math.Pow.{pow_mono}
use Rattle.std.proofs.Math.Nat.{mul_comm}
use Rattle.std.proofs.lemmas.Nat.{shl_whole, or_shifted, or_lt, xor_lt, mul-add-lt, pow-add}
use Rattle.bv_bits.specs.declared.Bits.{Bits}
use Rattle.bv_bits.specs.declared.Op.TheVariants.{Or, Xor, Concat, ZExt}
use Rattle.bv_bits.specs.Bits.{IsBits, some_if, result_width_of, number_of}

pub some_if-true : (b : Bool) (w : ℕ) → IsSome (some_if b w) → b ≡ true
some_if-true true w h = refl
some_if-true false w h = h

pub concat_number : (a b : Bits) → IsBits a → IsBits b → IsSome (result_width_of Concat (a.width ∷ b.width ∷ [])) → bit_or ((a.value * 2 ^ b.width) % 2 ^ 128) b.value ≡ number_of Concat (a ∷ b ∷ [])
concat_number a b fa fb h =
    let within : a.width + b.width ≤ 128 = leb-true (a.width + b.width) 128 (some_if-true _ _ h) in
    ap (λ n. bit_or n b.value) (shl_whole a.value a.width b.width 128 fa.fits within) ∙ or_shifted a.value b.width b.value fb.fits

pub zext_fits : (to : ℕ) (a : Bits) → IsBits a → IsSome (result_width_of (ZExt to) (a.width ∷ [])) → a.value < 2 ^ unwrap_or (result_width_of (ZExt to) (a.width ∷ [])) 0
zext_fits to a f h =
    let t : (leb a.width to && leb to 128) ≡ true = some_if-true _ _ h in
    let wide : a.width ≤ to = leb-true a.width to (and_parts (leb a.width to) (leb to 128) t).0 in
    rw t (omega (arith, f.fits, pow_mono wide))

some_if-value : (b : Bool) (w : ℕ) → IsSome (some_if b w) → unwrap_or (some_if b w) 0 ≡ w
some_if-value true w h = refl
some_if-value false w h = cc

same_width : (w m : ℕ) → IsSome (some_if (eqb w m) w) → w ≡ m
same_width w m h = eqb-true w m (some_if-true _ _ h)

module _ (a b : Bits) (fa : IsBits a) (fb : IsBits b) where
  pub or_fits : IsSome (result_width_of Or (a.width ∷ b.width ∷ [])) → bit_or a.value b.value < 2 ^ unwrap_or (result_width_of Or (a.width ∷ b.width ∷ [])) 0
  or_fits h =
      let y : b.value < 2 ^ a.width = subst (λ (w : ℕ). b.value < 2 ^ w) (sym (same_width a.width b.width h)) fb.fits in
      subst (λ (w : ℕ). bit_or a.value b.value < 2 ^ w) (sym (some_if-value (eqb a.width b.width) a.width h)) (or_lt a.width a.value b.value fa.fits y)

  pub xor_fits : IsSome (result_width_of Xor (a.width ∷ b.width ∷ [])) → bit_xor a.value b.value < 2 ^ unwrap_or (result_width_of Xor (a.width ∷ b.width ∷ [])) 0
  xor_fits h =
      let y : b.value < 2 ^ a.width = subst (λ (w : ℕ). b.value < 2 ^ w) (sym (same_width a.width b.width h)) fb.fits in
      subst (λ (w : ℕ). bit_xor a.value b.value < 2 ^ w) (sym (some_if-value (eqb a.width b.width) a.width h)) (xor_lt a.width a.value b.value fa.fits y)

  pub concat_fits : IsSome (result_width_of Concat (a.width ∷ b.width ∷ [])) → number_of Concat (a ∷ b ∷ []) < 2 ^ unwrap_or (result_width_of Concat (a.width ∷ b.width ∷ [])) 0
  concat_fits h =
      let both : a.value * 2 ^ b.width + b.value < 2 ^ (a.width + b.width) = rw (pow-add 2 a.width b.width, mul_comm (2 ^ a.width) (2 ^ b.width)) (mul-add-lt a.value (2 ^ b.width) b.value (2 ^ a.width) fa.fits fb.fits) in
      subst (λ (w : ℕ). a.value * 2 ^ b.width + b.value < 2 ^ w) (sym (some_if-value (leb (a.width + b.width) 128) (a.width + b.width) h)) both
