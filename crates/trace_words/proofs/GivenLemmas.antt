-- A text that is one token, and what a name and a literal assume.
use Rattle.std.proofs.Common.{◌≡◌, ℕ, ◌+◌, ◌≤◌, ◌<◌, Bool, true, false, not, ◌&&◌, ◌==◌, ◌-◌, All, List, [], ◌∷◌, length, take, drop, refl, ap, sym, ◌∙◌, arith, Ok, Err, Some, None, IfSome, IfOk, Result, Option, subst, unwrap_or, is_some, option_map}
use Rattle.std.specs.Prelude.{if◌then◌else◌, slice_range, option_and_then}
use Rattle.std.proofs.lemmas.Bool.{and_parts, eqb-true, eq-eqb}
use Rattle.std.proofs.lemmas.List.{take_all}
use Rattle.lex_core.specs.declared.token.Kind.{Kind}
use Rattle.lex_core.specs.declared.token.Kind.TheVariants as kind
use Rattle.lex_core.specs.declared.token.Token.{Token}
use Rattle.lex_core.specs.declared.token.LexFault.{LexFault}
use Rattle.lex_core.specs.Classes.{Text}
use Rattle.lex_core.specs.Forms.{has_form, bytes_of, IsTokenOf}
use Rattle.lex_core.specs.Lexing.{cut, is_want}
use Rattle.lex_core.specs.Want.{Unless}
use Rattle.lex_core.proofs.LexingLemmas.{cut_is}
use Rattle.lex_core.proofs.LawLemmas.{alone-goes}
use Rattle.lex_core.specs.Values.{literal_of}
use Rattle.sail_grammar.specs.Words.{as_bits}
use Rattle.trace_words.specs.Given.{only, literal_alone}

-- ---- one token

-- a text of the form of a token is cut to that token
pub whole : (z : Text) (k : Kind) → has_form k z ≡ true → cut z ≡ Ok (record { kind = k; from = 0; to = length z } ∷ [])
whole z k form = cut_is z ∙ alone-goes 0 k z form ∙ ap (λ e. Ok (record { kind = k; from = 0; to = e } ∷ [])) (let e : 0 + length z ≡ length z = omega arith in e)

only_same : (k : Kind) (n : ℕ) → only (record { kind = k; from = 0; to = n } ∷ []) n ≡ Some k
only_same k n = ap (λ (b : Bool). if b then Some k else None) (eq-eqb n n refl)

-- the kind of the token that the text is, is found
pub found_each : (z : Text) (ts : List Token) (k : Kind) → cut z ≡ Ok ts → has_form k z ≡ true → only ts (length z) ≡ Some k
found_each z ts k is form =
    let e = sym is ∙ whole z k form in
    let same : ts ≡ record { kind = k; from = 0; to = length z } ∷ [] = cc in
    ap (λ us. only us (length z)) same ∙ only_same k (length z)

all_of : (z : Text) (k : Kind) (from to : ℕ) → from ≡ 0 → to ≡ length z → has_form k (slice_range z from to) ≡ true → has_form k z ≡ true
all_of z k from to p q form =
    let same : slice_range z from to ≡ z = ap (λ i. slice_range z i to) p ∙ ap (λ j. slice_range z 0 j) q ∙ take_all (length z - 0) z (omega arith) in
    ap (has_form k) (sym same) ∙ form

one_form : (z : Text) (t : Token) (a b : Bool) → (t.from == 0) ≡ a → (t.to == length z) ≡ b → has_form t.kind (bytes_of z t) ≡ true
    → IfSome (if a && b then Some t.kind else None) (λ k. has_form k z ≡ true)
one_form z t true true p q form = all_of z t.kind t.from t.to (eqb-true t.from 0 p) (eqb-true t.to (length z) q) form
one_form z t true false p q form = tt
one_form z t false b p q form = tt

-- and what is found is a token that the text is
pub found_form : (z : Text) (ts : List Token) → All (IsTokenOf z) ts → IfSome (only ts (length z)) (λ k. has_form k z ≡ true)
found_form z [] tokens = tt
found_form z (t ∷ []) tokens = one_form z t (t.from == 0) (t.to == length z) refl refl (tokens 0 t (omega arith)).form
found_form z (t ∷ u ∷ more) tokens = tt

-- a text that can't be cut is no token
pub no_form : (z : Text) (f : LexFault) (k : Kind) → cut z ≡ Err f → has_form k z ≡ true → ⊥
no_form z f k is form = let e = sym is ∙ whole z k form in cc

-- so no kind is what is said of it
pub uncut_each : {E : Type 0} (z : Text) (f : LexFault) (r : Result (Option Kind) E) → IfOk r (λ o. (is_want f ≡ false) × (o ≡ None)) → Unless (is_want f) (cut z ≡ Err f)
    → IfOk r (λ o. (k : Kind) → has_form k z ≡ true → o ≡ Some k)
uncut_each z f (Err e) said fault = tt
uncut_each z f (Ok o) said fault = λ k form. absurd (no_form z f k (subst (λ b. Unless b (cut z ≡ Err f)) said.0 fault) form)

-- ---- the literal

literal_by : (z : Text) (o : Option Kind) (a b : Bool) → has_form kind.Hex z ≡ a → has_form kind.Binary z ≡ b → IfSome o (λ k. has_form k z ≡ true) → ((k : Kind) → has_form k z ≡ true → o ≡ Some k)
    → (if a then option_map as_bits (literal_of kind.Hex z) else (if b then option_map as_bits (literal_of kind.Binary z) else None)) ≡ option_and_then (λ k. option_map as_bits (literal_of k z)) o
unfolding literal_of
literal_by z o true b p q form each = ap (option_and_then (λ k. option_map as_bits (literal_of k z))) (sym (each kind.Hex p))
literal_by z o false true p q form each = ap (option_and_then (λ k. option_map as_bits (literal_of k z))) (sym (each kind.Binary q))
literal_by z None false false p q form each = refl
literal_by z (Some kind.Name) false false p q form each = refl
literal_by z (Some kind.Number) false false p q form each = refl
literal_by z (Some kind.Hex) false false p q form each = let e = sym p ∙ form in absurd (cc)
literal_by z (Some kind.Binary) false false p q form each = let e = sym q ∙ form in absurd (cc)
literal_by z (Some kind.Text) false false p q form each = refl
literal_by z (Some kind.Mark) false false p q form each = refl

-- the bits of a text that is one token, by its kind
pub literal_is : (z : Text) (o : Option Kind) → IfSome o (λ k. has_form k z ≡ true) → ((k : Kind) → has_form k z ≡ true → o ≡ Some k)
    → literal_alone z ≡ option_and_then (λ k. option_map as_bits (literal_of k z)) o
literal_is z o form each = literal_by z o (has_form kind.Hex z) (has_form kind.Binary z) refl refl form each
