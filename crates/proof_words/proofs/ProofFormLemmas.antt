-- What the readers' proofs share.
use Rattle.std.proofs.Common.{◌≡◌, ℕ, ◌≤◌, ◌<◌, ◌^◌, ◌+◌, List, All, Some, take, drop, refl, arith}
use Rattle.std.specs.List.{position_from}
use Rattle.std.proofs.lemmas.List.{take-map, drop-map}
use Rattle.std.proofs.Math.Nat.{pow-le-pow_right}
use Rattle.std.proofs.lemmas.List.Elements.{All-drop, All-take}
use Rattle.bv_bits.specs.declared.Bits.{Bits}
use Rattle.bv_bits.specs.Bits.{IsBits}
use Rattle.lex_core.specs.declared.token.Token.{Token}
use Rattle.lex_core.specs.Classes.{Text}
use Rattle.proof_words.specs.ProofFormWords.{lexeme, lexemes, is_close}
use Rattle.proof_words.specs.ProofFormTaking.{up_to_close}

-- bits in at most 64 are a number below 2 ^ 64
pub narrow : (b : Bits) → IsBits b → b.width ≤ 64 → b.value < 2 ^ 64
narrow b fits h =
    let bound : 2 ^ b.width ≤ 2 ^ 64 = pow-le-pow_right (omega arith) h in
    omega (arith, bound, fits.fits)

-- what holds of each holds of each behind the first
pub behind_first : {A : Type 0} (P : A → Type 0) (n : ℕ) (xs : List A) → All P xs → All P (take n (drop 1 xs))
behind_first P n xs all = All-take P n (drop 1 xs) (All-drop P 1 xs all)

-- the lexemes before the first `}` and behind it are those of the tokens there
pub closes : (text : Text) (ts before behind : List Token) (place : ℕ) → position_from is_close 0 (lexemes text ts) ≡ Some place → before ≡ take place ts → behind ≡ drop (place + 1) ts
    → up_to_close (lexemes text ts) ≡ Some (lexemes text before, lexemes text behind)
unfolding up_to_close
closes text ts before behind place found b d =
    rw (found, b, d, take-map (lexeme text) place ts, drop-map (lexeme text) (place + 1) ts) refl
