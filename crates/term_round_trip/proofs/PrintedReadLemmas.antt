-- What is printed is read back.
use Rattle.std.proofs.Common.{◌≡◌, List, [], ◌∷◌, length, map, drop, Ok, refl, sym, ap, subst, ◌∙◌, arith}
use Rattle.std.proofs.lemmas.List.{drop_all, length-map}
use Rattle.lex_core.specs.declared.token.Token.{Token}
use Rattle.lex_core.specs.Lexing.{cut}
use Rattle.lex_core.proofs.LawLemmas.{same_tokens}
use Rattle.term_tree.specs.Terms.{Text, Tree, ArrayTree, IsTerm, IsArrayTerm}
use Rattle.term_tree.specs.Divisions.{HasNoDivision, ArrayHasNoDivision}
use Rattle.term_print.specs.Cutting.{IsCutInto, words_of}
use Rattle.term_print.specs.Printing.{term_text, array_text}
use Rattle.term_print.specs.Words.{Word, Lexeme, lexeme, lexemes}
use Rattle.term_words.specs.Scopes.{Scope}
use Rattle.term_read.specs.Reading.{term_from, array_from}
use Rattle.term_read.specs.Spelling.{Words}
use Rattle.term_make.specs.Normal.{IsNormal, IsNormalArray}
use Rattle.term_print.specs.TermWords.{term_words, array_words}
use Rattle.term_round_trip.specs.WordLaws.{Follows}
use Rattle.term_round_trip.specs.DeclaredTerms.{IsDeclared, IsDeclaredArray}
use Rattle.term_print.specs.PrintedLaws.{HasNames, ArrayHasNames}
use Rattle.term_read.proofs.SpelledLemmas.{spelled_is_read}
use Rattle.term_read.proofs.ArraySpelledLemmas.{spelled_array_is_read}
use Rattle.term_round_trip.proofs.WordLemmas.{words_spell}
use Rattle.term_round_trip.proofs.ArrayWordLemmas.{array_words_spell}
use Rattle.term_print.proofs.PrintedLemmas.{printed_array_cut, printed_cut}

-- ---- read back

-- words in a row follow themselves
pub follow_all : (ls : Words) → Follows (map (λ (l : Lexeme). l.word) ls) ls []
follow_all [] = refl
follow_all (l ∷ ls) = (refl, follow_all ls)

-- the words of all tokens of a text, behind which there are none
tokens_follow : (text : Text) (ws : List Word) (ts : List Token) → IsCutInto text ws → cut text ≡ Ok ts → Follows ws (lexemes text ts) (drop (length ts) (lexemes text ts))
tokens_follow text ws ts h e =
    let same : h.0 ≡ ts = same_tokens h.0 ts (sym h.1 ∙ e) in
    let words : words_of text ts ≡ ws = ap (words_of text) (sym same) ∙ h.2 in
    let all : [] ≡ drop (length ts) (lexemes text ts) = sym (drop_all (length ts) (lexemes text ts) (omega (arith, length-map ts (lexeme text)))) in
    subst (λ (r : Words). Follows ws (lexemes text ts) r) all (subst (λ (us : List Word). Follows us (lexemes text ts) []) words (follow_all (lexemes text ts)))

pub printed_read : (scope : Scope) (t : Tree) (ts : List Token) → IsTerm t → IsNormal t → HasNoDivision t → HasNames t → IsDeclared scope t → cut (term_text t) ≡ Ok ts → term_from (term_text t) ts 0 scope ≡ Ok (t, length ts)
printed_read scope t ts it normal whole names declared e =
    let text = term_text t in
    spelled_is_read text ts 0 (length ts) scope t (omega arith)
    (words_spell scope t (lexemes text ts) (drop (length ts) (lexemes text ts)) it normal whole declared (tokens_follow text (term_words t) ts (printed_cut t it.typed whole names) e))

pub printed_array_read : (scope : Scope) (f : ArrayTree) (ts : List Token) → IsArrayTerm f → IsNormalArray f → ArrayHasNoDivision f → ArrayHasNames f → IsDeclaredArray scope f → cut (array_text f) ≡ Ok ts
    → array_from (array_text f) ts 0 scope ≡ Ok (f, length ts)
printed_array_read scope f ts it normal whole names declared e =
    let text = array_text f in
    spelled_array_is_read text ts 0 (length ts) scope f (omega arith)
    (array_words_spell scope f (lexemes text ts) (drop (length ts) (lexemes text ts)) it normal whole declared (tokens_follow text (array_words f) ts (printed_array_cut f it.typed whole names) e))
