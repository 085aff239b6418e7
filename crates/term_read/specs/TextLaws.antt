-- Laws of terms as text, over the definitions alone.
use Rattle.std.specs.Prelude.{◌≡◌, ℕ, ◌≤◌, List, drop, length, Ok}
use Rattle.lex_core.specs.declared.token.Token.{Token}
use Rattle.term_tree.specs.Terms.{Text, Tree, ArrayTree}
use Rattle.term_print.specs.Words.{lexemes}
use Rattle.term_words.specs.Scopes.{Scope}
use Rattle.term_read.specs.Reading.{DEEPEST, term_from, array_from}
use Rattle.term_read.specs.Spelling.{Words, Spells, ArraySpells}
use Rattle.term_make.specs.Normal.{IsNormal}

-- what is read is spelled by the tokens from the first one up to the next
abbrev pub ReadIsSpelled : Type 0
ReadIsSpelled = (text : Text) (ts : List Token) (from next : ℕ) (scope : Scope) (t : Tree) → term_from text ts from scope ≡ Ok (t, next)
    → Spells scope DEEPEST (drop from (lexemes text ts)) t (drop next (lexemes text ts))

-- what is spelled so is read
abbrev pub SpelledIsRead : Type 0
SpelledIsRead = (text : Text) (ts : List Token) (from next : ℕ) (scope : Scope) (t : Tree) → next ≤ length ts
    → Spells scope DEEPEST (drop from (lexemes text ts)) t (drop next (lexemes text ts)) → term_from text ts from scope ≡ Ok (t, next)

-- words spell at most one term
abbrev pub SpelledOnce : Type 0
SpelledOnce = (scope : Scope) (ws r q : Words) (t u : Tree) → Spells scope DEEPEST ws t r → Spells scope DEEPEST ws u q → (t ≡ u) × (r ≡ q)

-- the same of an array term
abbrev pub ReadArrayIsSpelled : Type 0
ReadArrayIsSpelled = (text : Text) (ts : List Token) (from next : ℕ) (scope : Scope) (f : ArrayTree) → array_from text ts from scope ≡ Ok (f, next)
    → ArraySpells scope DEEPEST (drop from (lexemes text ts)) f (drop next (lexemes text ts))

-- what is spelled as an array term is read
abbrev pub SpelledArrayIsRead : Type 0
SpelledArrayIsRead = (text : Text) (ts : List Token) (from next : ℕ) (scope : Scope) (f : ArrayTree) → next ≤ length ts
    → ArraySpells scope DEEPEST (drop from (lexemes text ts)) f (drop next (lexemes text ts)) → array_from text ts from scope ≡ Ok (f, next)

-- words spell at most one array term
abbrev pub SpelledArrayOnce : Type 0
SpelledArrayOnce = (scope : Scope) (ws r q : Words) (f g : ArrayTree) → ArraySpells scope DEEPEST ws f r → ArraySpells scope DEEPEST ws g q → (f ≡ g) × (r ≡ q)

-- what is spelled, and so what is read, is normal
abbrev pub SpelledIsNormal : Type 0
SpelledIsNormal = (scope : Scope) (n : ℕ) (ws r : Words) (t : Tree) → Spells scope n ws t r → IsNormal t
