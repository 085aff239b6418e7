-- What is spelled is read.
use Rattle.std.proofs.Common.{◌≡◌, ◌≢◌, ℕ, ◌+◌, Bool, true, false, not, ◌==◌, List, [], ◌∷◌, ◌++◌, length, Option, Some, None, Ok, bytes_eq, codes, refl, subst, ap, ◌∙◌, append_assoc, arith}
use Rattle.std.specs.List.{flat_map, position_from, list_all}
use Rattle.std.proofs.Math.Seq.{take-append_seam, drop-append-add}
use Rattle.std.proofs.lemmas.Bool.{and_parts}
use Rattle.std.proofs.lemmas.Slice.Eq.{bytes_eq-Decides}
use Rattle.bv_bits.specs.declared.Bits.{Bits}
use Rattle.lex_core.specs.declared.token.Kind.{Kind}
use Rattle.lex_core.specs.declared.token.Kind.TheVariants as kind
use Rattle.lex_core.specs.Classes.{Text}
use Rattle.lex_core.specs.Values as values
use Rattle.lex_core.specs.declared.token.Token.{Token}
use Rattle.lex_core.specs.Forms.{bytes_of}
use Rattle.lex_core.specs.Lexing.{cut}
use Rattle.proof_form.specs.declared.form.ReadProof.TheVariants as read
use Rattle.proof_form.specs.declared.form.NamedValue.{NamedValue}
use Rattle.proof_form.specs.declared.form.NamedProof.{NamedProof}
use Rattle.proof_words.specs.ProofFormWords.{Lexeme, lexemes, Word, Is, Spell, kept, name_of, mark_of, number_of, literal_of, address_of, full_address_of, the_name, the_mark, the_version, free_name_of, is_free, is_close, name, mark, number, address, full_address, literal}
use Rattle.proof_form.specs.ProofForm as spec
use Rattle.proof_words.specs.ProofFormTaking as taking
use Rattle.proof_words.specs.ProofFormTaking.{Reading}
use Rattle.proof_form.specs.ProofFormSpelling.{item_words, body_words, head_words, code_words, exit_words, block_words, tail_words, spelling, AreNames}
use Rattle.proof_form.proofs.ProofFormItems.{item_five}
use Rattle.proof_form.proofs.ProofFormSpelled.{SpellTo, done, step}
use Rattle.read_rules.proofs.SmallLemmas.{bytes_itself, not_true}

-- words of all lexemes
pub spell_all : (ws : List Word) (xs : List Lexeme) → Spell ws xs → SpellTo ws xs []
spell_all [] [] h = done []
spell_all [] (x ∷ xs) h = absurd h
spell_all (w ∷ ws) [] h = absurd h
spell_all (w ∷ ws) (x ∷ xs) h = step w x ws xs [] h.0 (spell_all ws xs h.1)

-- ---- one lexeme

keep : {A : Type 0} (p : A → Bool) (o : Option A) (x : A) → o ≡ Some x → p x ≡ true → kept p o ≡ Some x
keep p o x e h = rw (e, h) refl

one_first : {A : Type 0} (f : Kind → Text → Option A) (x : Lexeme) (xs : List Lexeme) (v : A) → f x.kind x.bytes ≡ Some v → taking.one f (x ∷ xs) ≡ Some (v, xs)
unfolding taking.one
one_first f x xs v h = rw h refl

over_first : {A : Type 0} (f : Kind → Text → Option A) (x : Lexeme) (xs : List Lexeme) (v : A) → f x.kind x.bytes ≡ Some v → taking.over f (x ∷ xs) ≡ Some xs
unfolding taking.one taking.over
over_first f x xs v h = rw h refl

-- each in front of other words
word_off : {P : Type 0} (z : Text) (ws : List Word) (xs rest : List Lexeme) → SpellTo (name z ∷ ws) xs rest → ((ys : List Lexeme) → taking.word z xs ≡ Some ys → SpellTo ws ys rest → P) → P
word_off z ws _ rest (step _ x _ xs _ is h) k = k xs (over_first (the_name z) x xs z (keep (λ y. bytes_eq y z) (name_of x.kind x.bytes) z is (bytes_itself z))) h

mark_off : {P : Type 0} (z : Text) (ws : List Word) (xs rest : List Lexeme) → SpellTo (mark z ∷ ws) xs rest → ((ys : List Lexeme) → taking.mark z xs ≡ Some ys → SpellTo ws ys rest → P) → P
mark_off z ws _ rest (step _ x _ xs _ is h) k = k xs (over_first (the_mark z) x xs z (keep (λ y. bytes_eq y z) (mark_of x.kind x.bytes) z is (bytes_itself z))) h

version_off : {P : Type 0} (ws : List Word) (xs rest : List Lexeme) → SpellTo (number 1 ∷ ws) xs rest → ((ys : List Lexeme) → taking.over the_version xs ≡ Some ys → SpellTo ws ys rest → P) → P
version_off ws _ rest (step _ x _ xs _ is h) k = k xs (over_first the_version x xs 1 (keep (λ n. n == 1) (number_of x.kind x.bytes) 1 is refl)) h

free_off : {P : Type 0} (z : Text) (ws : List Word) (xs rest : List Lexeme) → is_free z ≡ true → SpellTo (name z ∷ ws) xs rest → ((ys : List Lexeme) → taking.one free_name_of xs ≡ Some (z, ys) → SpellTo ws ys rest → P) → P
free_off z ws _ rest free (step _ x _ xs _ is h) k = k xs (one_first free_name_of x xs z (keep is_free (name_of x.kind x.bytes) z is free)) h

address_off : {P : Type 0} (n : ℕ) (ws : List Word) (xs rest : List Lexeme) → SpellTo (address n ∷ ws) xs rest → ((ys : List Lexeme) → taking.one address_of xs ≡ Some (n, ys) → SpellTo ws ys rest → P) → P
address_off n ws _ rest (step _ x _ xs _ is h) k = k xs (one_first address_of x xs n is) h

full_address_off : {P : Type 0} (n : ℕ) (ws : List Word) (xs rest : List Lexeme) → SpellTo (full_address n ∷ ws) xs rest → ((ys : List Lexeme) → taking.one full_address_of xs ≡ Some (n, ys) → SpellTo ws ys rest → P) → P
full_address_off n ws _ rest (step _ x _ xs _ is h) k = k xs (one_first full_address_of x xs n is) h

-- ---- items

items_read : (vs : List NamedValue) (xs : List Lexeme) → SpellTo (flat_map item_words vs) xs [] → spec.items xs ≡ Some vs
unfolding spec.items
items_read [] _ (done _) = refl
items_read (v ∷ vs) _ (step _ r _ _ _ i1 (step _ n _ _ _ i2 (step _ e _ _ _ i3 (step _ l _ _ _ i4 (step _ s _ xs _ i5 h))))) =
    rw (
      item_five r n e l s [],
      keep (λ y. bytes_eq y (codes "reg")) (name_of r.kind r.bytes) (codes "reg") i1 refl,
      i2,
      keep (λ y. bytes_eq y (codes "=")) (mark_of e.kind e.bytes) (codes "=") i3 refl,
      i4,
      keep (λ y. bytes_eq y (codes ";")) (mark_of s.kind s.bytes) (codes ";") i5 refl,
      items_read vs xs h,
    ) refl

-- whether a word of an item is none that closes
abbrev pub is_open : Word → Bool
is_open (name z) = true
is_open (mark z) = not (bytes_eq z (codes "}"))
is_open (number n) = false
is_open (address n) = false
is_open (full_address n) = false
is_open (literal b) = true

-- a lexeme that is such a word doesn't close
no_mark : (k : Kind) (z n : Text) → name_of k z ≡ Some n → mark_of k z ≡ None
no_mark kind.Name z n h = refl
no_mark kind.Number z n h = absurd cc
no_mark kind.Hex z n h = absurd cc
no_mark kind.Binary z n h = absurd cc
no_mark kind.Text z n h = absurd cc
no_mark kind.Mark z n h = absurd cc

no_mark_literal : (k : Kind) (z : Text) (b : Bits) → literal_of k z ≡ Some b → mark_of k z ≡ None
unfolding values.literal_of
no_mark_literal kind.Name z b h = refl
no_mark_literal kind.Number z b h = refl
no_mark_literal kind.Hex z b h = refl
no_mark_literal kind.Binary z b h = refl
no_mark_literal kind.Text z b h = refl
no_mark_literal kind.Mark z b h = absurd cc

stays_open : (w : Word) (x : Lexeme) → is_open w ≡ true → Is w x → is_close x ≡ false
stays_open (name z) x o is = rw (no_mark x.kind x.bytes z is) refl
stays_open (mark z) x o is = let other : bytes_eq z (codes "}") ≡ false = grind (arith, o) in rw (is, other) refl
stays_open (number n) x o is = absurd cc
stays_open (address n) x o is = absurd cc
stays_open (full_address n) x o is = absurd cc
stays_open (literal b) x o is = rw (no_mark_literal x.kind x.bytes b is) refl

-- words that stay open, and then `}`
closing : {P : Type 0} (us ws : List Word) (xs rest : List Lexeme) → list_all is_open us ≡ true → SpellTo (us ++ mark (codes "}") ∷ ws) xs rest
    → ((before behind : List Lexeme) (x : Lexeme) → xs ≡ before ++ x ∷ behind → list_all (λ y. not (is_close y)) before ≡ true → is_close x ≡ true → SpellTo us before [] → SpellTo ws behind rest → P) → P
closing [] ws _ rest o (step _ x _ xs _ is h) k = k [] xs x refl refl (rw (keep (λ y. bytes_eq y (codes "}")) (mark_of x.kind x.bytes) (codes "}") is refl) refl) (done []) h
closing (u ∷ us) ws _ rest o (step _ y _ xs _ is h) k =
    let parts = and_parts (is_open u) (list_all is_open us) o in
    closing us ws xs rest parts.1 h (λ before behind x e none close inside after.
    k (y ∷ before) behind x (ap (λ zs. y ∷ zs) e) (rw (stays_open u y parts.0 is, none) refl) close (step u y us before [] is inside) after)

-- the first that closes
first_close : (before behind : List Lexeme) (x : Lexeme) (i : ℕ) → list_all (λ y. not (is_close y)) before ≡ true → is_close x ≡ true → position_from is_close i (before ++ x ∷ behind) ≡ Some (i + length before)
first_close [] behind x i none close = let same : i ≡ i + 0 = omega arith in rw close (ap Some same)
first_close (y ∷ before) behind x i none close =
    let parts = and_parts (not (is_close y)) (list_all (λ y. not (is_close y)) before) none in
    let goes : is_close y ≡ false = not_true (is_close y) parts.0 in
    let next = first_close before behind x (i + 1) parts.1 close in
    let same : i + 1 + length before ≡ i + length (y ∷ before) = omega arith in
    rw goes (next ∙ ap Some same)

up_to_close_read : (before behind : List Lexeme) (x : Lexeme) → list_all (λ y. not (is_close y)) before ≡ true → is_close x ≡ true → taking.up_to_close (before ++ x ∷ behind) ≡ Some (before, behind)
unfolding taking.up_to_close
up_to_close_read before behind x none close =
    let place : position_from is_close 0 (before ++ x ∷ behind) ≡ Some (length before) = let zero_more : 0 + length before ≡ length before = omega arith in first_close before behind x 0 none close ∙ ap Some zero_more in
    rw (place, take-append_seam before (x ∷ behind), drop-append-add before (x ∷ behind) 1) refl

items_open : (vs : List NamedValue) → list_all is_open (flat_map item_words vs) ≡ true
items_open [] = refl
items_open (v ∷ vs) = items_open vs

-- ---- the parts of a proof

body_off : {P : Type 0} (vs : List NamedValue) (ws : List Word) (xs rest : List Lexeme) → SpellTo (body_words vs ++ ws) xs rest → ((ys : List Lexeme) → spec.body xs ≡ Some (vs, ys) → SpellTo ws ys rest → P) → P
unfolding spec.body spec.braces
body_off vs ws xs rest h k =
    mark_off (codes "{") _ xs rest h (λ inside h1 k1.
    closing (flat_map item_words vs) (name (codes "steps") ∷ mark (codes "{") ∷ ws) inside rest (items_open vs)
    (subst (λ us. SpellTo us inside rest) (append_assoc (flat_map item_words vs) (mark (codes "}") ∷ name (codes "steps") ∷ mark (codes "{") ∷ []) ws) k1)
    (λ before behind x e none close items k2.
    word_off (codes "steps") _ behind rest k2 (λ steps h3 k3.
    mark_off (codes "{") _ steps rest k3 (λ end h4 k4.
    let parts : taking.up_to_close inside ≡ Some (before, behind) = ap taking.up_to_close e ∙ up_to_close_read before behind x none close in
    k end (rw (h1, parts, items_read vs before items, h3, h4) refl) k4
    ))))

head_off : {P : Type 0} (z : Text) (ws : List Word) (xs rest : List Lexeme) → is_free z ≡ true → SpellTo (head_words z ++ ws) xs rest → ((ys : List Lexeme) → spec.head xs ≡ Some (z, ys) → SpellTo ws ys rest → P) → P
unfolding spec.head
head_off z ws xs rest free h k =
    word_off (codes "islaris_proof") _ xs rest h (λ a h1 k1.
    version_off _ a rest k1 (λ b h2 k2.
    word_off (codes "spec") _ b rest k2 (λ c h3 k3.
    free_off z _ c rest free k3 (λ d h4 k4.
    mark_off (codes "{") _ d rest k4 (λ e h5 k5.
    k e (rw (h1, h2, h3, h4, h5) refl) k5
    )))))

code_off : {P : Type 0} (lo hi : ℕ) (ws : List Word) (xs rest : List Lexeme) → SpellTo (code_words lo hi ++ ws) xs rest → ((ys : List Lexeme) → spec.code xs ≡ Some ((lo, hi), ys) → SpellTo ws ys rest → P) → P
unfolding spec.code
code_off lo hi ws xs rest h k =
    word_off (codes "code") _ xs rest h (λ a h1 k1.
    address_off lo _ a rest k1 (λ b h2 k2.
    address_off hi _ b rest k2 (λ c h3 k3.
    mark_off (codes ";") _ c rest k3 (λ d h4 k4.
    k d (rw (h1, h2, h3, h4) refl) k4
    ))))

exit_off : {P : Type 0} (z : Text) (at : ℕ) (vs : List NamedValue) (ws : List Word) (xs rest : List Lexeme) → is_free z ≡ true → SpellTo (exit_words z at vs ++ ws) xs rest
    → ((ys : List Lexeme) → spec.exit xs ≡ Some (record { name = z; at = at; values = vs }, ys) → SpellTo ws ys rest → P) → P
unfolding spec.exit
exit_off z at vs ws xs rest free h k =
    word_off (codes "exit") _ xs rest h (λ a h1 k1.
    free_off z _ a rest free k1 (λ b h2 k2.
    word_off (codes "at") _ b rest k2 (λ c h3 k3.
    full_address_off at _ c rest k3 (λ d h4 k4.
    body_off vs (mark (codes "}") ∷ ws) d rest (subst (λ us. SpellTo us d rest) (append_assoc (body_words vs) (mark (codes "}") ∷ []) ws) k4) (λ e h5 k5.
    mark_off (codes "}") _ e rest k5 (λ f h6 k6.
    k f (rw (h1, h2, h3, h4, h5, h6) refl) k6
    ))))))

block_off : {P : Type 0} (z : Text) (at : ℕ) (vs : List NamedValue) (ws : List Word) (xs rest : List Lexeme) → is_free z ≡ true → SpellTo (block_words z at vs ++ ws) xs rest
    → ((ys : List Lexeme) → spec.block xs ≡ Some (record { name = z; at = at; values = vs }, ys) → SpellTo ws ys rest → P) → P
unfolding spec.block
block_off z at vs ws xs rest free h k =
    word_off (codes "block") _ xs rest h (λ a h1 k1.
    free_off z _ a rest free k1 (λ b h2 k2.
    word_off (codes "at") _ b rest k2 (λ c h3 k3.
    address_off at _ c rest k3 (λ d h4 k4.
    body_off vs ws d rest k4 (λ e h5 k5.
    k e (rw (h1, h2, h3, h4, h5) refl) k5
    )))))

marks_off : {P : Type 0} (y z : Text) (ws : List Word) (xs rest : List Lexeme) → SpellTo (mark y ∷ mark z ∷ ws) xs rest → ((ys : List Lexeme) → spec.marks y z xs ≡ Some ys → SpellTo ws ys rest → P) → P
unfolding spec.marks
marks_off y z ws xs rest h k =
    mark_off y _ xs rest h (λ a h1 k1.
    mark_off z _ a rest k1 (λ b h2 k2.
    k b (rw (h1, h2) refl) k2
    ))

tail_off : {P : Type 0} (z : Text) (xs rest : List Lexeme) → SpellTo (tail_words z) xs rest → (spec.tail z xs ≡ Some rest → P) → P
unfolding spec.tail
tail_off z xs rest h k =
    word_off (codes "exit") _ xs rest h (λ a h1 k1.
    word_off z _ a rest k1 (λ b h2 k2.
    marks_off (codes "(") (codes ")") _ b rest k2 (λ c h3 k3.
    marks_off (codes "(") (codes ")") _ c rest k3 (λ d h4 k4.
    mark_off (codes ";") _ d rest k4 (λ e h5 k5.
    marks_off (codes "}") (codes "}") _ e rest k5 (λ f h6 k6.
    k (rw (h1, h2, h3, h4, h5, h6) (ap Some (nothing_left f rest k6)))
    ))))))
  where
    nothing_left : (xs rest : List Lexeme) → SpellTo [] xs rest → xs ≡ rest
    nothing_left _ _ (done xs) = refl

bytes_apart : (a b : Text) → a ≢ b → bytes_eq a b ≡ false
bytes_apart a b h = grind (arith, bytes_eq-Decides, h)

-- all that is spelled is read
pub whole_read : (xs : List Lexeme) (p : NamedProof) → Spell (spelling p) xs → AreNames p → spec.whole xs ≡ Some p
unfolding spec.whole
whole_read xs p h names =
    head_off p.spec _ xs [] names.spec (spell_all (spelling p) xs h) (λ a h1 k1.
    code_off p.lo p.hi _ a [] k1 (λ b h2 k2.
    exit_off p.exit p.exit_at p.wanted _ b [] names.exit k2 (λ c h3 k3.
    block_off p.block p.entry_at p.entry _ c [] names.block k3 (λ d h4 k4.
    tail_off p.exit d [] k4 (λ h5.
    rw (h1, h2, h3, h4, h5, bytes_apart p.exit p.block names.differ) refl
    )))))

-- a text whose tokens spell a proof shows no other first token
begins : (text : Text) (ts : List Token) (p : NamedProof) → Spell (spelling p) (lexemes text ts) → spec.no_proof text ts ≡ None
begins text [] p h = absurd h
begins text (t ∷ ts) p h =
    let first = keep (λ y. bytes_eq y (codes "islaris_proof")) (name_of t.kind (bytes_of text t)) (codes "islaris_proof") h.0 refl in
    rw first refl

-- a text whose tokens spell a proof
pub text_read : (text : Text) (ts : List Token) (p : NamedProof) → cut text ≡ Ok ts → Spell (spelling p) (lexemes text ts) → AreNames p → spec.proof_form text ≡ read.Read p
unfolding spec.proof_form
text_read text ts p cutting spelled names = rw (cutting, begins text ts p spelled, whole_read (lexemes text ts) p spelled names) refl
