-- The words of a term spell it, wherever they stand.
use Rattle.std.specs.Prelude.{◌≡◌, List, [], ◌∷◌}
use Rattle.term_tree.specs.Terms.{Tree, ArrayTree, IsTerm, IsArrayTerm}
use Rattle.term_tree.specs.Divisions.{HasNoDivision, ArrayHasNoDivision}
use Rattle.term_print.specs.Words.{Word}
use Rattle.term_words.specs.Scopes.{Scope}
use Rattle.term_read.specs.Reading.{DEEPEST}
use Rattle.term_read.specs.Spelling.{Words, Spells, ArraySpells}
use Rattle.term_make.specs.Normal.{IsNormal, IsNormalArray}
use Rattle.term_print.specs.TermWords.{array_words, term_words}
use Rattle.term_round_trip.specs.DeclaredTerms.{IsDeclared, IsDeclaredArray}

-- these words stand first, wherever they stand, and others behind them
abbrev pub Follows : List Word → Words → Words → Type 0
Follows [] ls r = ls ≡ r
Follows (w ∷ ws) [] r = ⊥
Follows (w ∷ ws) (l ∷ ls) r = (l.word ≡ w) × Follows ws ls r

-- the words of a normal term spell it, in a scope that declares its variables
abbrev pub WordsSpell : Type 0
WordsSpell = (scope : Scope) (t : Tree) (ls r : Words) → IsTerm t → IsNormal t → HasNoDivision t → IsDeclared scope t → Follows (term_words t) ls r
    → Spells scope DEEPEST ls t r

-- the words of an array term whose terms are normal spell it
abbrev pub ArrayWordsSpell : Type 0
ArrayWordsSpell = (scope : Scope) (f : ArrayTree) (ls r : Words) → IsArrayTerm f → IsNormalArray f → ArrayHasNoDivision f → IsDeclaredArray scope f → Follows (array_words f) ls r
    → ArraySpells scope DEEPEST ls f r
