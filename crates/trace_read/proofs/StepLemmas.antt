-- One rule after another, taken apart, and one word.
use Rattle.std.proofs.Common.{◌≡◌, ℕ, Bool, true, false, List, [], ◌∷◌, Option, Some, None, Result, Ok, Err, refl, sym, ap, subst, ◌∙◌}
use Rattle.std.specs.Prelude.{bytes_eq, if◌then◌else◌}
use Rattle.term_tree.specs.Terms.{Text}
use Rattle.term_tree.proofs.SameLemmas.{same_text}
use Rattle.term_print.specs.Words.{Lexeme}
use Rattle.term_read.specs.Spelling.{Words}
use Rattle.trace_read.specs.Taking.{Left, Answer, Reading, ◌>>=◌, first_of, first, one}
use Rattle.trace_read.specs.WordTables.{entry_in}

-- what two rules read, in turn
pub both : {A B : Type 0} (m : Answer A) (f : A → Answer B) (b : B) → (m >>= f) ≡ Ok b → (a : A) × (m ≡ Ok a) × (f a ≡ Ok b)
both (Ok a) f b e = (a, refl, e)
both (Err x) f b e = absurd (cc)

-- the first value is the same
pub same_value : {A : Type 0} (a b : A) → ◌≡◌ {A = Answer A} (Ok a) (Ok b) → a ≡ b
same_value a b e = cc

-- a word that is taken
pub record Taken {A : Type 0} (f : Lexeme → Answer A) (left : Left) (v : A) (rest : Left) : Type 0 where
  pub word : Lexeme
  pub words : left.words ≡ word ∷ rest.words
  pub end : left.end ≡ rest.end
  pub value : f word ≡ Ok v

-- a word as what it stands for, and what is left behind it
abbrev as_one : {A : Type 0} → (Lexeme → Answer A) → Lexeme × Left → Reading A
as_one f x = f x.0 >>= λ v. Ok (v, x.1)

pub taken : {A : Type 0} (f : Lexeme → Answer A) (left : Left) (v : A) (rest : Left) → one f left ≡ Ok (v, rest) → Taken f left v rest
unfolding one first
taken {A} f left v rest e = go left.words refl e
  where
    go : (ws : Words) → left.words ≡ ws → (first_of ws left.end >>= as_one f) ≡ Ok (v, rest) → Taken f left v rest
    go [] is h = absurd (cc)
    go (x ∷ xs) is h =
        let own = both (f x) (λ u. Ok (u, record { words = xs; end = left.end })) (v, rest) h in
        let pair : ◌≡◌ {A = A × Left} (own.0, record { words = xs; end = left.end }) (v, rest) = same_value {A = A × Left} _ _ own.2 in
        let behind : ◌≡◌ {A = Left} (record { words = xs; end = left.end }) rest = ap (λ (p : A × Left). p.1) pair in
        record {
          word = x;
          words = is ∙ ap (λ (l : Left). x ∷ l.words) behind;
          end = ap (λ (l : Left). l.end) behind;
          value = own.1 ∙ ap (λ (p : A × Left). Ok p.0) pair;
        }

-- a word is taken
pub takes : {A : Type 0} (f : Lexeme → Answer A) (x : Lexeme) (xs : Words) (end : ℕ) (v : A) → f x ≡ Ok v
    → one f (record { words = x ∷ xs; end = end }) ≡ Ok (v, record { words = xs; end = end })
unfolding one first
takes {A} f x xs end v e = ap (λ (m : Answer A). m >>= λ u. Ok (u, record { words = xs; end = end })) e

-- ---- tables

-- each entry's word is that of what it stands for
abbrev pub AreNamed : {A : Type 0} → (A → Text) → List (Text × A) → Type 0
AreNamed word [] = Unit {0}
AreNamed word (p ∷ ps) = (p.0 ≡ word p.1) × AreNamed word ps

pub entry_named : {A : Type 0} (word : A → Text) (ps : List (Text × A)) (x : Text) (a : A) → AreNamed word ps → entry_in ps x ≡ Some a → x ≡ word a
entry_named word [] x a h e = absurd (cc)
entry_named {A} word (p ∷ ps) x a h e = go (bytes_eq x p.0) refl (λ found. entry_named word ps x a h.1 found) e
  where
    go : (b : Bool) → bytes_eq x p.0 ≡ b → (entry_in ps x ≡ Some a → x ≡ word a) → (if b then Some p.1 else entry_in ps x) ≡ Some a → x ≡ word a
    go true is more found = let same : p.1 ≡ a = cc in same_text x p.0 is ∙ h.0 ∙ ap word same
    go false is more found = more found
