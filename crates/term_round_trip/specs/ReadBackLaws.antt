-- What is printed is read back.
use Rattle.std.specs.Prelude.{◌≡◌, ℕ, List, length, Ok}
use Rattle.std.specs.Str.{IsUtf8}
use Rattle.lex_core.specs.declared.token.Token.{Token}
use Rattle.lex_core.specs.Lexing.{cut}
use Rattle.term_tree.specs.Terms.{Text, Tree, ArrayTree, IsTerm, IsArrayTerm}
use Rattle.term_tree.specs.Divisions.{HasNoDivision, ArrayHasNoDivision}
use Rattle.term_print.specs.Cutting.{IsCutInto}
use Rattle.term_print.specs.Printing.{term_text, array_text}
use Rattle.term_words.specs.Scopes.{Scope}
use Rattle.term_read.specs.Reading.{term_from, array_from}
use Rattle.term_read.specs.ReadingView.{AreWidths}
use Rattle.term_make.specs.Normal.{IsNormal, IsNormalArray}
use Rattle.term_print.specs.TermWords.{term_words, array_words}
use Rattle.term_round_trip.specs.DeclaredTerms.{IsDeclared, IsDeclaredArray}
use Rattle.term_print.specs.PrintedLaws.{ArrayHasNames, HasNames}

-- the tokens of the text of a normal term are read as that term, all of them, in a scope that declares its variables
abbrev pub PrintedIsRead : Type 0
PrintedIsRead = (scope : Scope) (t : Tree) (ts : List Token) → IsTerm t → IsNormal t → HasNoDivision t → HasNames t → IsDeclared scope t
    → cut (term_text t) ≡ Ok ts → term_from (term_text t) ts 0 scope ≡ Ok (t, length ts)

-- the tokens of the text of an array term whose terms are normal are read as it, all of them
abbrev pub PrintedArrayIsRead : Type 0
PrintedArrayIsRead = (scope : Scope) (f : ArrayTree) (ts : List Token) → IsArrayTerm f → IsNormalArray f → ArrayHasNoDivision f → ArrayHasNames f → IsDeclaredArray scope f
    → cut (array_text f) ≡ Ok ts → array_from (array_text f) ts 0 scope ≡ Ok (f, length ts)

-- what is read of a text has names that the lexer takes, and the scope declares them with their sorts
abbrev pub ReadIsDeclared : Type 0
ReadIsDeclared = (text : Text) (ts : List Token) (from next : ℕ) (scope : Scope) (t : Tree) → cut text ≡ Ok ts → term_from text ts from scope ≡ Ok (t, next)
    → HasNames t × IsDeclared scope t

-- the same of an array term that is read
abbrev pub ReadArrayIsDeclared : Type 0
ReadArrayIsDeclared = (text : Text) (ts : List Token) (from next : ℕ) (scope : Scope) (f : ArrayTree) → cut text ≡ Ok ts → array_from text ts from scope ≡ Ok (f, next)
    → ArrayHasNames f × IsDeclaredArray scope f

-- what is read of a text, in a scope of widths from 1 to 128, is read back from its own text, up to its end
abbrev pub ReadIsReadBack : Type 0
ReadIsReadBack = (text : Text) (ts : List Token) (from next : ℕ) (scope : Scope) (t : Tree) (us : List Token) → cut text ≡ Ok ts → AreWidths scope → term_from text ts from scope ≡ Ok (t, next)
    → cut (term_text t) ≡ Ok us → term_from (term_text t) us 0 scope ≡ Ok (t, length us)

-- that text is cut, into the words of the term, and is UTF-8, so that it is printed byte for byte
abbrev pub ReadIsCutBack : Type 0
ReadIsCutBack = (text : Text) (ts : List Token) (from next : ℕ) (scope : Scope) (t : Tree) → cut text ≡ Ok ts → AreWidths scope → term_from text ts from scope ≡ Ok (t, next)
    → IsCutInto (term_text t) (term_words t) × IsUtf8 (term_text t)

-- an array term that is read is read back from its own text, up to its end
abbrev pub ReadArrayIsReadBack : Type 0
ReadArrayIsReadBack = (text : Text) (ts : List Token) (from next : ℕ) (scope : Scope) (f : ArrayTree) (us : List Token) → cut text ≡ Ok ts → AreWidths scope → array_from text ts from scope ≡ Ok (f, next)
    → cut (array_text f) ≡ Ok us → array_from (array_text f) us 0 scope ≡ Ok (f, length us)

-- that text is cut, into the words of the array term, and is UTF-8
abbrev pub ReadArrayIsCutBack : Type 0
ReadArrayIsCutBack = (text : Text) (ts : List Token) (from next : ℕ) (scope : Scope) (f : ArrayTree) → cut text ≡ Ok ts → AreWidths scope → array_from text ts from scope ≡ Ok (f, next)
    → IsCutInto (array_text f) (array_words f) × IsUtf8 (array_text f)
