-- What a word is that stands for something.
use Rattle.std.proofs.Common.{◌≡◌, ℕ, zero, suc, ◌<◌, ◌≤◌, Bool, true, false, List, [], ◌∷◌, Option, Some, None, Ok, Err, inl, inr, refl, sym, ap, subst, ◌∙◌, arith}
use Rattle.std.specs.Prelude.{bytes_eq, codes, nat_eq, if◌then◌else◌, ◌||◌, ◌⊎◌, slice_index_or}
use Rattle.std.proofs.lemmas.Bool.{eqb-true}
use Rattle.bv_bits.specs.declared.Bits.{Bits}
use Rattle.lex_core.specs.declared.name.RegDecl.{RegDecl}
use Rattle.term_tree.specs.Terms.{Text}
use Rattle.term_tree.proofs.SameLemmas.{same_text}
use Rattle.term_print.specs.Words.{Word, opens, closes, name, number, literal, other, Lexeme}
use Rattle.trace_plain.specs.declared.trace.FailKind.{FailKind}
use Rattle.trace_plain.specs.Rules.{var_name, IsByteCount}
use Rattle.trace_read.specs.declared.fault.TraceFault.{TraceFault}
use Rattle.trace_read.specs.declared.fault.TraceFault.TheVariants as fault
use Rattle.trace_read.specs.declared.word_tables.Head.{Head}
use Rattle.trace_read.specs.declared.word_tables.Head.TheVariants as head
use Rattle.trace_read.specs.Taking.{Answer, ◌>>=◌, if_fits}
use Rattle.trace_read.specs.WordTables.{heads, head_of, failure_of}
use Rattle.trace_read.specs.Words as words
use Rattle.trace_read.specs.Words.{name_at, number_at, literal_at, known, declared, register_number, is_byte_count}
use Rattle.trace_read.proofs.StepLemmas.{both, entry_named}

-- the word of a head
abbrev pub word_of_head : Head → Text
word_of_head head.ReadReg = codes "read_reg"
word_of_head head.WriteReg = codes "write_reg"
word_of_head head.ReadMem = codes "read_mem"
word_of_head head.WriteMem = codes "write_mem"
word_of_head head.Assume = codes "assume"
word_of_head head.Need = codes "need"
word_of_head head.AssumeReg = codes "assume_reg"
word_of_head head.Done = codes "done"
word_of_head head.Fail = codes "fail"
word_of_head head.Cases = codes "cases"

-- a name
name_is : (w : Word) (at : ℕ) (x : Text) → name_at w at ≡ Ok x → w ≡ name x
name_is (name y) at x e = let same : y ≡ x = cc in ap name same
name_is w at x e = absurd (cc)

number_is : (w : Word) (at n : ℕ) → number_at w at ≡ Ok n → w ≡ number n
number_is (number m) at n e = let same : m ≡ n = cc in ap number same
number_is w at n e = absurd (cc)

literal_is : (w : Word) (at : ℕ) (b : Bits) → literal_at w at ≡ Ok b → w ≡ literal b
literal_is (literal c) at b e = let same : c ≡ b = cc in ap literal same
literal_is w at b e = absurd (cc)

known_is : {A : Type 0} (o : Option A) (at : ℕ) (a : A) → known o at ≡ Ok a → o ≡ Some a
known_is None at a e = absurd (cc)
known_is (Some b) at a e = let same : b ≡ a = cc in ap Some same

declared_is : (o : Option ℕ) (at r : ℕ) → declared o at ≡ Ok r → o ≡ Some r
declared_is None at r e = absurd (cc)
declared_is (Some s) at r e = let same : s ≡ r = cc in ap Some same

-- what fits
pub fits_is : {A : Type 0} (b : Bool) (at : ℕ) (it a : A) → if_fits b at it ≡ Ok a → (b ≡ true) × (it ≡ a)
fits_is true at it a e = (refl, cc)
fits_is false at it a e = absurd (cc)

-- a test that has to pass
passes : {A : Type 0} (b : Bool) (it a : A) (f : TraceFault) → ◌≡◌ {A = Answer A} (if b then Ok it else Err f) (Ok a) → (b ≡ true) × (it ≡ a)
passes true it a f e = (refl, cc)
passes false it a f e = absurd (cc)

-- ---- words

-- the first word of a line
pub head_sound : (x : Lexeme) (h : Head) → words.head x ≡ Ok h → x.word ≡ name (word_of_head h)
unfolding words.head head_of
head_sound x h e =
    let own = both (name_at x.word x.at) (λ z. known (head_of z) x.at) h e in
    let found = known_is (head_of own.0) x.at h own.2 in
    name_is x.word x.at own.0 own.1 ∙ ap name (entry_named word_of_head heads own.0 h (refl, (refl, (refl, (refl, (refl, (refl, (refl, (refl, (refl, (refl, tt)))))))))) found)

-- a failure
pub failure_sound : (x : Lexeme) (kind : FailKind) → words.failure x ≡ Ok kind → (z : Text) × (x.word ≡ name z) × (failure_of z ≡ Some kind)
unfolding words.failure
failure_sound x kind e =
    let own = both (name_at x.word x.at) (λ z. known (failure_of z) x.at) kind e in
    (own.0, name_is x.word x.at own.0 own.1, known_is (failure_of own.0) x.at kind own.2)

-- a register
pub register_sound : (registers : List RegDecl) (x : Lexeme) (r : ℕ) → words.register registers x ≡ Ok r → (z : Text) × (x.word ≡ name z) × (register_number registers z ≡ Some r)
unfolding words.register
register_sound registers x r e =
    let own = both (name_at x.word x.at) (λ z. declared (register_number registers z) x.at) r e in
    (own.0, name_is x.word x.at own.0 own.1, declared_is (register_number registers own.0) x.at r own.2)

-- a variable
pub variable_sound : (n : ℕ) (x : Lexeme) (m : ℕ) → words.variable n x ≡ Ok m → (x.word ≡ name (var_name n)) × (n ≡ m)
unfolding words.variable
variable_sound n x m e =
    let own = both (name_at x.word x.at) (λ z. if bytes_eq z (var_name n) then Ok n else Err (fault.TraceForm x.at)) m e in
    let fine = passes (bytes_eq own.0 (var_name n)) n m (fault.TraceForm x.at) own.2 in
    (name_is x.word x.at own.0 own.1 ∙ ap name (same_text own.0 (var_name n) fine.0), fine.1)

-- a number of bytes
one_of_two : (a b : Bool) → (a || b) ≡ true → (a ≡ true) ⊎ (b ≡ true)
one_of_two true b h = inl refl
one_of_two false b h = inr h

byte_counts : (n : ℕ) → is_byte_count n ≡ true → IsByteCount n
byte_counts n h = last (one_of_two (nat_eq n 1 || nat_eq n 2 || nat_eq n 4 || nat_eq n 8) (nat_eq n 16) h)
  where
    is : (m k : ℕ) → k < 5 → slice_index_or (1 ∷ 2 ∷ 4 ∷ 8 ∷ 16 ∷ []) k m ≡ m → nat_eq n m ≡ true → IsByteCount n
    is m k l at e = subst IsByteCount (sym (eqb-true n m e)) (k, l, at)

    two : (nat_eq n 1 ≡ true) ⊎ (nat_eq n 2 ≡ true) → IsByteCount n
    two (inl e) = is 1 0 (omega arith) refl e
    two (inr e) = is 2 1 (omega arith) refl e

    three : ((nat_eq n 1 || nat_eq n 2) ≡ true) ⊎ (nat_eq n 4 ≡ true) → IsByteCount n
    three (inl e) = two (one_of_two (nat_eq n 1) (nat_eq n 2) e)
    three (inr e) = is 4 2 (omega arith) refl e

    four : ((nat_eq n 1 || nat_eq n 2 || nat_eq n 4) ≡ true) ⊎ (nat_eq n 8 ≡ true) → IsByteCount n
    four (inl e) = three (one_of_two (nat_eq n 1 || nat_eq n 2) (nat_eq n 4) e)
    four (inr e) = is 8 3 (omega arith) refl e

    last : ((nat_eq n 1 || nat_eq n 2 || nat_eq n 4 || nat_eq n 8) ≡ true) ⊎ (nat_eq n 16 ≡ true) → IsByteCount n
    last (inl e) = four (one_of_two (nat_eq n 1 || nat_eq n 2 || nat_eq n 4) (nat_eq n 8) e)
    last (inr e) = is 16 4 (omega arith) refl e

pub byte_count_sound : (x : Lexeme) (n : ℕ) → words.byte_count x ≡ Ok n → (x.word ≡ number n) × IsByteCount n
unfolding words.byte_count
byte_count_sound x n e =
    let own = both (number_at x.word x.at) (λ m. if is_byte_count m then Ok m else Err (fault.TraceForm x.at)) n e in
    let fine = passes (is_byte_count own.0) own.0 n (fault.TraceForm x.at) own.2 in
    (number_is x.word x.at own.0 own.1 ∙ ap number fine.1, subst IsByteCount fine.1 (byte_counts own.0 fine.0))

-- a test that may not pass
fails_not : {A : Type 0} (b : Bool) (it a : A) (f : TraceFault) → ◌≡◌ {A = Answer A} (if b then Err f else Ok it) (Ok a) → (b ≡ false) × (it ≡ a)
fails_not true it a f e = absurd (cc)
fails_not false it a f e = (refl, cc)

some_of : (n : ℕ) → nat_eq n 0 ≡ false → 0 < n
some_of zero e = absurd (cc)
some_of (suc n) e = omega arith

-- a number of children
pub child_count_sound : (x : Lexeme) (n : ℕ) → words.child_count x ≡ Ok n → (x.word ≡ number n) × (0 < n)
unfolding words.child_count
child_count_sound x n e =
    let own = both (number_at x.word x.at) (λ m. if nat_eq m 0 then Err (fault.TraceForm x.at) else Ok m) n e in
    let fine = fails_not (nat_eq own.0 0) own.0 n (fault.TraceForm x.at) own.2 in
    (number_is x.word x.at own.0 own.1 ∙ ap number fine.1, subst (λ (m : ℕ). 0 < m) fine.1 (some_of own.0 fine.0))

-- a literal
pub value_sound : (width : ℕ) (x : Lexeme) (b : Bits) → words.value width x ≡ Ok b → (x.word ≡ literal b) × (b.width ≡ width)
unfolding words.value
value_sound width x b e =
    let own = both (literal_at x.word x.at) (λ c. if_fits (nat_eq c.width width) x.at c) b e in
    let fine = fits_is (nat_eq own.0.width width) x.at own.0 b own.2 in
    (literal_is x.word x.at own.0 own.1 ∙ ap literal fine.1, ap (λ (c : Bits). c.width) (sym fine.1) ∙ eqb-true own.0.width width fine.0)
