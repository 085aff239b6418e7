-- What is read is spelled.
use Rattle.std.proofs.Common.{◌≡◌, ◌≢◌, ℕ, suc, ◌+◌, Bool, true, false, not, ◌&&◌, ◌==◌, nat_eq, List, [], ◌∷◌, ◌++◌, length, take, drop, Option, Some, None, Ok, Err, is_some, bytes_eq, codes, cond, refl, subst, sym, ap, ◌∙◌, append_assoc, arith}
use Rattle.std.specs.List.{flat_map, position_from}
use Rattle.std.proofs.lemmas.Bool.{and_parts}
use Rattle.std.proofs.lemmas.Bool.Decides.{nat_tests}
use Rattle.std.proofs.lemmas.Option.{cond_some}
use Rattle.std.proofs.lemmas.Slice.Eq.{bytes_eq-Decides}
use Rattle.bv_bits.specs.declared.Bits.{Bits}
use Rattle.lex_core.specs.declared.token.Kind.{Kind}
use Rattle.lex_core.specs.Classes.{Text}
use Rattle.lex_core.specs.declared.token.Token.{Token}
use Rattle.lex_core.specs.Lexing.{cut, Outcome}
use Rattle.proof_form.specs.declared.form.ReadProof.TheVariants as read
use Rattle.proof_form.specs.declared.form.NamedValue.{NamedValue}
use Rattle.proof_form.specs.declared.form.NamedProof.{NamedProof}
use Rattle.proof_words.specs.ProofFormWords.{Lexeme, lexemes, Word, Is, Spell, kept, name_of, mark_of, number_of, literal_of, address_of, full_address_of, the_name, the_mark, the_version, free_name_of, is_free, is_close, name, mark, number, address, full_address, literal}
use Rattle.proof_form.specs.ProofForm as spec
use Rattle.proof_words.specs.ProofFormTaking as taking
use Rattle.read_rules.specs.Binding.{◌>>=◌}
use Rattle.proof_words.specs.ProofFormTaking.{Reading}
use Rattle.proof_form.specs.ProofFormSpelling.{item_words, body_words, head_words, code_words, exit_words, block_words, tail_words, spelling, AreNames}
use Rattle.proof_form.proofs.ProofFormItems.{five_some, item_five}
use Rattle.std.proofs.lemmas.Option.{same_Some}
use Rattle.read_rules.proofs.SmallLemmas.{bind_some}

-- the words spell the front of the lexemes, up to these
pub data SpellTo : List Word → List Lexeme → List Lexeme → Type 0 where
  done : (rest : List Lexeme) → SpellTo [] rest rest
  step : (w : Word) (x : Lexeme) (ws : List Word) (xs rest : List Lexeme) → Is w x → SpellTo ws xs rest → SpellTo (w ∷ ws) (x ∷ xs) rest

-- one run of words after another
pub spell_on : (ws vs : List Word) (xs mid rest : List Lexeme) → SpellTo ws xs mid → SpellTo vs mid rest → SpellTo (ws ++ vs) xs rest
spell_on _ vs _ _ rest (done mid) k = k
spell_on _ vs _ mid rest (step w x ws xs _ is h) k = step w x (ws ++ vs) (xs) rest is (spell_on ws vs xs mid rest h k)

-- words in front of others
pub spell_more : (w : Word) (ws : List Word) (xs mid rest : List Lexeme) (x : Lexeme) → xs ≡ x ∷ mid → Is w x → SpellTo ws mid rest → SpellTo (w ∷ ws) xs rest
spell_more w ws xs mid rest x e is k = subst (λ ys. SpellTo (w ∷ ws) ys rest) (sym e) (step w x ws mid rest is k)

-- words up to the end, before others
pub spell_before : (ws : List Word) (xs none rest : List Lexeme) → none ≡ [] → SpellTo ws xs none → SpellTo ws (xs ++ rest) rest
spell_before _ _ _ rest e (done []) = done rest
spell_before _ _ _ rest e (done (x ∷ xs)) = absurd cc
spell_before _ _ none rest e (step w x ws xs _ is h) = step w x ws (xs ++ rest) rest is (spell_before ws xs none rest e h)

-- words up to the end
pub spell_whole : (ws : List Word) (xs rest : List Lexeme) → SpellTo ws xs rest → rest ≡ [] → Spell ws xs
spell_whole _ _ _ (done []) e = tt
spell_whole _ _ _ (done (x ∷ rest)) e = absurd cc
spell_whole _ _ rest (step w x ws xs _ is h) e = (is, spell_whole ws xs rest h e)

pub through : {A B P : Type 0} (o : Option A) (f : A → Option B) (y : B) → (o >>= f) ≡ Some y → ((x : A) → o ≡ Some x → f x ≡ Some y → P) → P
through None f y h k = absurd cc
through (Some x) f y h k = k x refl h

-- ---- what a test leaves

pub kept_some : {A : Type 0} (p : A → Bool) (o : Option A) (y : A) → kept p o ≡ Some y → (o ≡ Some y) × (p y ≡ true)
kept_some p None y h = absurd cc
kept_some p (Some x) y h = let both = cond_some (p x) x y h in (ap Some both.1, subst (λ z. p z ≡ true) both.1 both.0)

same_bytes : (x z : Text) → bytes_eq x z ≡ true → x ≡ z
same_bytes x z h = grind (arith, bytes_eq-Decides, h)

-- ---- one lexeme

pub one_spelled : {A : Type 0} (f : Kind → Text → Option A) (xs : List Lexeme) (y : A × List Lexeme) → taking.one f xs ≡ Some y → (x : Lexeme) × (xs ≡ x ∷ y.1) × (f x.kind x.bytes ≡ Some y.0)
unfolding taking.one
one_spelled f [] y h = absurd cc
one_spelled f (x ∷ xs) y h =
    let read = bind_some (f x.kind x.bytes) _ y h in
    let same = same_Some (read.0, xs) y read.2 in
    (x, ap (λ p. x ∷ p.1) same, read.1 ∙ ap (λ p. Some p.0) same)

over_spelled : {A : Type 0} (f : Kind → Text → Option A) (xs rest : List Lexeme) → taking.over f xs ≡ Some rest → (x : Lexeme) × (v : A) × (xs ≡ x ∷ rest) × (f x.kind x.bytes ≡ Some v)
unfolding taking.over
over_spelled f xs rest h =
    let found = bind_some (taking.one f xs) (λ found. Some found.1) rest h in
    let one = one_spelled f xs found.0 found.1 in
    (one.0, found.0.0, one.1 ∙ ap (λ ys. one.0 ∷ ys) (same_Some found.0.1 rest found.2), one.2)

-- each in front of other words
word_on : (z : Text) (ws : List Word) (xs mid rest : List Lexeme) → taking.word z xs ≡ Some mid → SpellTo ws mid rest → SpellTo (name z ∷ ws) xs rest
word_on z ws xs mid rest h k =
    let over = over_spelled (the_name z) xs mid h in
    let test = kept_some (λ x. bytes_eq x z) (name_of over.0.kind over.0.bytes) over.1 over.3 in
    spell_more (name z) ws xs mid rest over.0 over.2 (test.0 ∙ ap Some (same_bytes over.1 z test.1)) k

mark_on : (z : Text) (ws : List Word) (xs mid rest : List Lexeme) → taking.mark z xs ≡ Some mid → SpellTo ws mid rest → SpellTo (mark z ∷ ws) xs rest
mark_on z ws xs mid rest h k =
    let over = over_spelled (the_mark z) xs mid h in
    let test = kept_some (λ x. bytes_eq x z) (mark_of over.0.kind over.0.bytes) over.1 over.3 in
    spell_more (mark z) ws xs mid rest over.0 over.2 (test.0 ∙ ap Some (same_bytes over.1 z test.1)) k

version_on : (ws : List Word) (xs mid rest : List Lexeme) → taking.over the_version xs ≡ Some mid → SpellTo ws mid rest → SpellTo (number 1 ∷ ws) xs rest
version_on ws xs mid rest h k =
    let over = over_spelled the_version xs mid h in
    let test = kept_some (λ n. n == 1) (number_of over.0.kind over.0.bytes) over.1 over.3 in
    let is : over.1 ≡ 1 = grind (arith, nat_tests, test.1) in
    spell_more (number 1) ws xs mid rest over.0 over.2 (test.0 ∙ ap Some is) k

free_on : (ws : List Word) (xs rest : List Lexeme) (y : Text × List Lexeme) → taking.one free_name_of xs ≡ Some y → SpellTo ws y.1 rest → SpellTo (name y.0 ∷ ws) xs rest
free_on ws xs rest y h k =
    let one = one_spelled free_name_of xs y h in
    spell_more (name y.0) ws xs y.1 rest one.0 one.1 (kept_some is_free (name_of one.0.kind one.0.bytes) y.0 one.2).0 k

free_is : (xs : List Lexeme) (y : Text × List Lexeme) → taking.one free_name_of xs ≡ Some y → is_free y.0 ≡ true
free_is xs y h =
    let one = one_spelled free_name_of xs y h in
    (kept_some is_free (name_of one.0.kind one.0.bytes) y.0 one.2).1

name_on : (ws : List Word) (xs rest : List Lexeme) (y : Text × List Lexeme) → taking.one name_of xs ≡ Some y → SpellTo ws y.1 rest → SpellTo (name y.0 ∷ ws) xs rest
name_on ws xs rest y h k = let one = one_spelled name_of xs y h in spell_more (name y.0) ws xs y.1 rest one.0 one.1 one.2 k

literal_on : (ws : List Word) (xs rest : List Lexeme) (y : Bits × List Lexeme) → taking.one literal_of xs ≡ Some y → SpellTo ws y.1 rest → SpellTo (literal y.0 ∷ ws) xs rest
literal_on ws xs rest y h k = let one = one_spelled literal_of xs y h in spell_more (literal y.0) ws xs y.1 rest one.0 one.1 one.2 k

address_on : (ws : List Word) (xs rest : List Lexeme) (y : ℕ × List Lexeme) → taking.one address_of xs ≡ Some y → SpellTo ws y.1 rest → SpellTo (address y.0 ∷ ws) xs rest
address_on ws xs rest y h k = let one = one_spelled address_of xs y h in spell_more (address y.0) ws xs y.1 rest one.0 one.1 one.2 k

full_address_on : (ws : List Word) (xs rest : List Lexeme) (y : ℕ × List Lexeme) → taking.one full_address_of xs ≡ Some y → SpellTo ws y.1 rest → SpellTo (full_address y.0 ∷ ws) xs rest
full_address_on ws xs rest y h k = let one = one_spelled full_address_of xs y h in spell_more (full_address y.0) ws xs y.1 rest one.0 one.1 one.2 k

-- ---- items

item_spelled : (xs : List Lexeme) (y : NamedValue × List Lexeme) → spec.item xs ≡ Some y → SpellTo (item_words y.0) xs y.1
unfolding spec.item
item_spelled xs y h =
    through (taking.word (codes "reg") xs) _ y h (λ begun h1 k1.
    through (taking.one name_of begun) _ y k1 (λ register h2 k2.
    through (taking.mark (codes "=") register.1) _ y k2 (λ equals h3 k3.
    through (taking.one literal_of equals) _ y k3 (λ value h4 k4.
    through (taking.mark (codes ";") value.1) _ y k4 (λ end h5 k5.
    subst (λ p. SpellTo (item_words p.0) xs p.1) (same_Some (record { register = register.0; value = value.0 }, end) y k5)
    (word_on (codes "reg") _ xs begun end h1 (name_on _ begun end register h2 (mark_on (codes "=") _ register.1 equals end h3
    (literal_on _ equals end value h4 (mark_on (codes ";") _ value.1 end end h5 (done end))))))
    )))))

-- items up to the end
items_spelled : (xs : List Lexeme) (vs : List NamedValue) → spec.items xs ≡ Some vs → SpellTo (flat_map item_words vs) xs []
unfolding spec.items
items_spelled [] vs h = subst (λ x. SpellTo (flat_map item_words x) [] []) (same_Some [] vs h) (done [])
items_spelled (r ∷ []) vs h = absurd cc
items_spelled (r ∷ n ∷ []) vs h = absurd cc
items_spelled (r ∷ n ∷ e ∷ []) vs h = absurd cc
items_spelled (r ∷ n ∷ e ∷ l ∷ []) vs h = absurd cc
items_spelled (r ∷ n ∷ e ∷ l ∷ s ∷ xs) vs h =
    through (spec.item (r ∷ n ∷ e ∷ l ∷ s ∷ [])) _ vs h (λ first h1 k1.
    through (spec.items xs) _ vs k1 (λ others h2 k2.
    let none : first.1 ≡ [] = (five_some r n e l s [] first (sym (item_five r n e l s []) ∙ h1)).0 in
    let five = spell_before (item_words first.0) (r ∷ n ∷ e ∷ l ∷ s ∷ []) first.1 xs none (item_spelled (r ∷ n ∷ e ∷ l ∷ s ∷ []) first h1) in
    subst (λ x. SpellTo (flat_map item_words x) (r ∷ n ∷ e ∷ l ∷ s ∷ xs) []) (same_Some (first.0 ∷ others) vs k2)
    (spell_on (item_words first.0) (flat_map item_words others) (r ∷ n ∷ e ∷ l ∷ s ∷ xs) xs [] five (items_spelled xs others h2))
    ))

-- where the first `}` is found it stands
close_found : (xs : List Lexeme) (i k : ℕ) → position_from is_close i xs ≡ Some k → (n : ℕ) × (x : Lexeme) × (k ≡ i + n) × (xs ≡ take n xs ++ x ∷ drop (n + 1) xs) × (is_close x ≡ true)
close_found [] i k h = absurd cc
close_found (x ∷ xs) i k h = close_at x xs i k (is_close x) refl h (close_found xs (i + 1) k)
  where
    close_at : (x : Lexeme) (xs : List Lexeme) (i k : ℕ) (b : Bool) → is_close x ≡ b → cond b (Some i) (position_from is_close (i + 1) xs) ≡ Some k
        → (position_from is_close (i + 1) xs ≡ Some k → (n : ℕ) × (y : Lexeme) × (k ≡ i + 1 + n) × (xs ≡ take n xs ++ y ∷ drop (n + 1) xs) × (is_close y ≡ true))
        → (n : ℕ) × (y : Lexeme) × (k ≡ i + n) × (x ∷ xs ≡ take n (x ∷ xs) ++ y ∷ drop (n + 1) (x ∷ xs)) × (is_close y ≡ true)
    close_at x xs i k true e h next =
        let same : i ≡ k = same_Some i k h in
        let zero_more : k ≡ i + 0 = omega (arith, same) in
        (0, x, zero_more, refl, e)
    close_at x xs i k false e h next =
        let found = next h in
        let one_more : k ≡ i + suc found.0 = omega (arith, found.2) in
        let behind : found.0 + 1 + 1 ≡ suc (found.0 + 1) = omega arith in
        let place : suc found.0 + 1 ≡ suc (found.0 + 1) = omega arith in
        (suc found.0, found.1, one_more, ap (λ ys. x ∷ ys) found.3 ∙ ap (λ n. x ∷ (take found.0 xs ++ found.1 ∷ drop n (x ∷ xs))) (sym place), found.4)

-- the lexeme that closes is `}`
close_is : (x : Lexeme) → is_close x ≡ true → Is (mark (codes "}")) x
close_is x h = by_mark (mark_of x.kind x.bytes) h
  where
    by_mark : (o : Option Text) → is_some (kept (λ z. bytes_eq z (codes "}")) o) ≡ true → o ≡ Some (codes "}")
    by_mark None h = absurd cc
    by_mark (Some z) h = ap Some (same_bytes z (codes "}") (by_test (bytes_eq z (codes "}")) h))
      where
        by_test : (b : Bool) → is_some (cond b (Some z) None) ≡ true → b ≡ true
        by_test true h = refl
        by_test false h = absurd cc

-- what stands before the first `}` and behind it
up_to_close_spelled : (ws : List Word) (xs : List Lexeme) (y : List Lexeme × List Lexeme) → taking.up_to_close xs ≡ Some y → SpellTo ws y.0 [] → SpellTo (ws ++ mark (codes "}") ∷ []) xs y.1
unfolding taking.up_to_close
up_to_close_spelled ws xs y h inside =
    let place = bind_some (position_from is_close 0 xs) _ y h in
    let found = close_found xs 0 place.0 place.1 in
    let same_place : place.0 ≡ found.0 = omega (arith, found.2) in
    let parts = same_Some (take place.0 xs, drop (place.0 + 1) xs) y place.2 in
    let before : take found.0 xs ≡ y.0 = ap (λ n. take n xs) (sym same_place) ∙ ap (λ p. p.0) parts in
    let behind : drop (found.0 + 1) xs ≡ y.1 = ap (λ n. drop (n + 1) xs) (sym same_place) ∙ ap (λ p. p.1) parts in
    let all : xs ≡ y.0 ++ found.1 ∷ y.1 = found.3 ∙ ap (λ z. z ++ found.1 ∷ drop (found.0 + 1) xs) before ∙ ap (λ z. y.0 ++ found.1 ∷ z) behind in
    subst (λ zs. SpellTo (ws ++ mark (codes "}") ∷ []) zs y.1) (sym all)
    (spell_on ws (mark (codes "}") ∷ []) (y.0 ++ found.1 ∷ y.1) (found.1 ∷ y.1) y.1 (spell_before ws y.0 [] (found.1 ∷ y.1) refl inside)
    (step (mark (codes "}")) found.1 [] y.1 y.1 (close_is found.1 found.4) (done y.1)))

-- ---- the parts of a proof

body_spelled : (xs : List Lexeme) (y : List NamedValue × List Lexeme) → spec.body xs ≡ Some y → SpellTo (body_words y.0) xs y.1
unfolding spec.body spec.braces
body_spelled xs y h =
    through (spec.braces xs) _ y h (λ values h1 k1.
    through (taking.mark (codes "{") xs) _ values h1 (λ inside h2 k2.
    through (taking.up_to_close inside) _ values k2 (λ parts h3 k3.
    through (spec.items parts.0) _ values k3 (λ items h4 k4.
    through (taking.word (codes "steps") values.1) _ y k1 (λ steps h5 k5.
    through (taking.mark (codes "{") steps) _ y k5 (λ end h6 k6.
    let read = same_Some (items, parts.1) values k4 in
    let steps_at : taking.word (codes "steps") parts.1 ≡ Some steps = ap (λ p. taking.word (codes "steps") p.1) read ∙ h5 in
    let same = ap (λ p. (p.0, end)) read ∙ same_Some (values.0, end) y k6 in
    let closed = up_to_close_spelled (flat_map item_words items) inside parts h3 (items_spelled parts.0 items h4) in
    let behind = word_on (codes "steps") _ parts.1 steps end steps_at (mark_on (codes "{") [] steps end end h6 (done end)) in
    subst (λ p. SpellTo (body_words p.0) xs p.1) same
    (mark_on (codes "{") _ xs inside end h2
    (subst (λ ws. SpellTo ws inside end) (append_assoc (flat_map item_words items) (mark (codes "}") ∷ []) (name (codes "steps") ∷ mark (codes "{") ∷ []))
    (spell_on (flat_map item_words items ++ mark (codes "}") ∷ []) (name (codes "steps") ∷ mark (codes "{") ∷ []) inside parts.1 end closed behind)))
    ))))))

head_spelled : (xs : List Lexeme) (y : Text × List Lexeme) → spec.head xs ≡ Some y → SpellTo (head_words y.0) xs y.1 × (is_free y.0 ≡ true)
unfolding spec.head
head_spelled xs y h =
    through (taking.word (codes "islaris_proof") xs) _ y h (λ begun h1 k1.
    through (taking.over the_version begun) _ y k1 (λ version h2 k2.
    through (taking.word (codes "spec") version) _ y k2 (λ own h3 k3.
    through (taking.one free_name_of own) _ y k3 (λ found h4 k4.
    through (taking.mark (codes "{") found.1) _ y k4 (λ end h5 k5.
    subst (λ p. SpellTo (head_words p.0) xs p.1 × (is_free p.0 ≡ true)) (same_Some (found.0, end) y k5) (
      word_on (codes "islaris_proof") _ xs begun end h1 (version_on _ begun version end h2 (word_on (codes "spec") _ version own end h3
          (free_on _ own end found h4 (mark_on (codes "{") [] found.1 end end h5 (done end))))),
      free_is own found h4,
    )
    )))))

code_spelled : (xs : List Lexeme) (y : (ℕ × ℕ) × List Lexeme) → spec.code xs ≡ Some y → SpellTo (code_words y.0.0 y.0.1) xs y.1
unfolding spec.code
code_spelled xs y h =
    through (taking.word (codes "code") xs) _ y h (λ begun h1 k1.
    through (taking.one address_of begun) _ y k1 (λ lo h2 k2.
    through (taking.one address_of lo.1) _ y k2 (λ hi h3 k3.
    through (taking.mark (codes ";") hi.1) _ y k3 (λ end h4 k4.
    subst (λ p. SpellTo (code_words p.0.0 p.0.1) xs p.1) (same_Some ((lo.0, hi.0), end) y k4)
    (word_on (codes "code") _ xs begun end h1 (address_on _ begun end lo h2 (address_on _ lo.1 end hi h3 (mark_on (codes ";") [] hi.1 end end h4 (done end)))))
    ))))

exit_spelled : (xs : List Lexeme) (y : spec.Point × List Lexeme) → spec.exit xs ≡ Some y → SpellTo (exit_words y.0.name y.0.at y.0.values) xs y.1 × (is_free y.0.name ≡ true)
unfolding spec.exit
exit_spelled xs y h =
    through (taking.word (codes "exit") xs) _ y h (λ begun h1 k1.
    through (taking.one free_name_of begun) _ y k1 (λ own h2 k2.
    through (taking.word (codes "at") own.1) _ y k2 (λ place h3 k3.
    through (taking.one full_address_of place) _ y k3 (λ at h4 k4.
    through (spec.body at.1) _ y k4 (λ values h5 k5.
    through (taking.mark (codes "}") values.1) _ y k5 (λ end h6 k6.
    subst (λ p. SpellTo (exit_words p.0.name p.0.at p.0.values) xs p.1 × (is_free p.0.name ≡ true)) (same_Some (record { name = own.0; at = at.0; values = values.0 }, end) y k6) (
      word_on (codes "exit") _ xs begun end h1 (free_on _ begun end own h2 (word_on (codes "at") _ own.1 place end h3 (full_address_on _ place end at h4
          (spell_on (body_words values.0) (mark (codes "}") ∷ []) at.1 values.1 end (body_spelled at.1 values h5) (mark_on (codes "}") [] values.1 end end h6 (done end)))))),
      free_is begun own h2,
    )
    ))))))

block_spelled : (xs : List Lexeme) (y : spec.Point × List Lexeme) → spec.block xs ≡ Some y → SpellTo (block_words y.0.name y.0.at y.0.values) xs y.1 × (is_free y.0.name ≡ true)
unfolding spec.block
block_spelled xs y h =
    through (taking.word (codes "block") xs) _ y h (λ begun h1 k1.
    through (taking.one free_name_of begun) _ y k1 (λ own h2 k2.
    through (taking.word (codes "at") own.1) _ y k2 (λ place h3 k3.
    through (taking.one address_of place) _ y k3 (λ at h4 k4.
    through (spec.body at.1) _ y k4 (λ values h5 k5.
    subst (λ p. SpellTo (block_words p.0.name p.0.at p.0.values) xs p.1 × (is_free p.0.name ≡ true)) (same_Some (record { name = own.0; at = at.0; values = values.0 }, values.1) y k5) (
      word_on (codes "block") _ xs begun values.1 h1 (free_on _ begun values.1 own h2 (word_on (codes "at") _ own.1 place values.1 h3 (address_on _ place values.1 at h4
          (body_spelled at.1 values h5)))),
      free_is begun own h2,
    )
    )))))

marks_on : (y z : Text) (ws : List Word) (xs mid rest : List Lexeme) → spec.marks y z xs ≡ Some mid → SpellTo ws mid rest → SpellTo (mark y ∷ mark z ∷ ws) xs rest
unfolding spec.marks
marks_on y z ws xs mid rest h k =
    through (taking.mark y xs) _ mid h (λ next h1 k1. mark_on y _ xs next rest h1 (mark_on z ws next mid rest k1 k))

tail_spelled : (z : Text) (xs rest : List Lexeme) → spec.tail z xs ≡ Some rest → SpellTo (tail_words z) xs rest
unfolding spec.tail
tail_spelled z xs rest h =
    through (taking.word (codes "exit") xs) _ rest h (λ begun h1 k1.
    through (taking.word z begun) _ rest k1 (λ binds h2 k2.
    through (spec.marks (codes "(") (codes ")") binds) _ rest k2 (λ places h3 k3.
    through (spec.marks (codes "(") (codes ")") places) _ rest k3 (λ end h4 k4.
    through (taking.mark (codes ";") end) _ rest k4 (λ step h5 k5.
    word_on (codes "exit") _ xs begun rest h1 (word_on z _ begun binds rest h2 (marks_on (codes "(") (codes ")") _ binds places rest h3
    (marks_on (codes "(") (codes ")") _ places end rest h4 (mark_on (codes ";") _ end step rest h5 (marks_on (codes "}") (codes "}") [] step rest rest k5 (done rest))))))
    )))))

-- the end of all, and two names
ended : (end : List Lexeme) (a b : Text) → (nat_eq (length end) 0 && not (bytes_eq a b)) ≡ true → (end ≡ []) × (a ≢ b)
ended [] a b h = let apart : a ≢ b = grind (arith, bytes_eq-Decides, h) in (refl, apart)
ended (x ∷ xs) a b h =
    let parts = and_parts (nat_eq (length (x ∷ xs)) 0) (not (bytes_eq a b)) h in
    let none : length (x ∷ xs) ≡ 0 = grind (arith, nat_tests, parts.0) in
    absurd (omega (arith, none))

-- all that is read is spelled
pub whole_spelled : (xs : List Lexeme) (p : NamedProof) → spec.whole xs ≡ Some p → Spell (spelling p) xs × AreNames p
unfolding spec.whole
whole_spelled xs p h =
    through (spec.head xs) _ p h (λ first h1 k1.
    through (spec.code first.1) _ p k1 (λ range h2 k2.
    through (spec.exit range.1) _ p k2 (λ left h3 k3.
    through (spec.block left.1) _ p k3 (λ entered h4 k4.
    through (spec.tail left.0.name entered.1) _ p k4 (λ end h5 k5.
    let test = cond_some (nat_eq (length end) 0 && not (bytes_eq left.0.name entered.0.name)) (spec.proof_of first.0 range.0 left.0 entered.0) p k5 in
    let last = ended end left.0.name entered.0.name test.0 in
    let top = head_spelled xs first h1 in
    let out = exit_spelled range.1 left h3 in
    let into = block_spelled left.1 entered h4 in
    subst (λ q. Spell (spelling q) xs × AreNames q) test.1 (
      spell_whole (spelling (spec.proof_of first.0 range.0 left.0 entered.0)) xs end
          (spell_on (head_words first.0) _ xs first.1 end top.0
          (spell_on (code_words range.0.0 range.0.1) _ first.1 range.1 end (code_spelled first.1 range h2)
          (spell_on (exit_words left.0.name left.0.at left.0.values) _ range.1 left.1 end out.0
          (spell_on (block_words entered.0.name entered.0.at entered.0.values) (tail_words left.0.name) left.1 entered.1 end into.0 (tail_spelled left.0.name entered.1 end h5)))))
          last.0,
      record { spec = top.1; exit = out.1; block = into.1; differ = last.1 },
    )
    )))))

-- a choice that reads a proof
unless_read : (o : Option ℕ) (w : Option NamedProof) (p : NamedProof) → spec.unless o w ≡ read.Read p → w ≡ Some p
unless_read (Some at) w p h = absurd cc
unless_read None (Some q) p h = cc
unless_read None None p h = absurd cc

-- a text that is read as a proof
pub text_spelled : (text : Text) (p : NamedProof) → spec.proof_form text ≡ read.Read p → (ts : List Token) × (cut text ≡ Ok ts) × Spell (spelling p) (lexemes text ts) × AreNames p
unfolding spec.proof_form
text_spelled text p h = cut_spelled text (cut text) p refl h
  where
    cut_spelled : (text : Text) (o : Outcome) (p : NamedProof) → cut text ≡ o → spec.of_cutting text o ≡ read.Read p → (ts : List Token) × (cut text ≡ Ok ts) × Spell (spelling p) (lexemes text ts) × AreNames p
    cut_spelled text (Err f) p e h = absurd cc
    cut_spelled text (Ok ts) p e h =
        let both = whole_spelled (lexemes text ts) p (unless_read (spec.no_proof text ts) (spec.whole (lexemes text ts)) p h) in
        (ts, e, both.0, both.1)
