-- What is read has names that the lexer takes, and is declared.
use Rattle.std.proofs.Common.{◌≡◌, ℕ, List, [], ◌∷◌, map, drop, Some, Ok, IsSome, subst}
use Rattle.bv_bits.specs.declared.Op.{Op}
use Rattle.bv_bits.specs.Bits.{result_width_of}
use Rattle.lex_core.specs.declared.token.Token.{Token}
use Rattle.lex_core.specs.Lexing.{cut}
use Rattle.term_tree.specs.declared.term.Sort.TheVariants as sort
use Rattle.term_tree.specs.Terms.{Text, Tree, lit, var, one, two, three, sel, ArrayTree, array, upd, splice, applied, width_of}
use Rattle.term_make.specs.Making.{make}
use Rattle.term_select.specs.Selecting.{select}
use Rattle.term_print.specs.Words.{lexemes}
use Rattle.term_words.specs.Scopes.{Scope, sort_of}
use Rattle.term_read.specs.Reading.{term_from, array_from}
use Rattle.term_read.specs.Spelling.{Words, Spells}
use Rattle.term_round_trip.specs.DeclaredTerms.{IsDeclared, IsDeclaredArray}
use Rattle.term_print.specs.PrintedLaws.{IsName, HasNames, ArrayHasNames}
use Rattle.term_make.proofs.AnswerLemmas.{within_is}
use Rattle.term_read.proofs.ReadingLemmas.{no_width, four_widths, not_some}
use Rattle.term_read.proofs.SoundLemmas.{read_is_spelled}
use Rattle.term_read.proofs.ArraySoundLemmas.{read_array_is_spelled}
use Rattle.term_tree.specs.Variables.{HasVariables, ArrayHasVariables}
use Rattle.term_make.proofs.VariableLemmas.{make_variables}
use Rattle.term_read.proofs.SpelledPartLemmas.{OfTerms, OfWords, IsSpelledSo, ArrayIsSpelledSo, spelled_so, array_spelled_so}
use Rattle.term_round_trip.proofs.FormedLemmas.{IsFormed, tokens_formed}

module _ (scope : Scope) where
  -- a variable of such a name, declared with its width
  abbrev IsKnown : Text → ℕ → Type 0
  IsKnown x w = IsName x × (sort_of scope x ≡ Some (sort.Bits w))

  -- an array variable of such a name, declared
  abbrev IsKnownArray : Text → Type 0
  IsKnownArray f = IsName f × (sort_of scope f ≡ Some sort.Array)

  -- a term of such variables
  abbrev IsOfKnown : Tree → Type 0
  IsOfKnown t = HasVariables IsKnown IsKnownArray t

  -- an array term of such variables
  abbrev ArrayIsOfKnown : ArrayTree → Type 0
  ArrayIsOfKnown f = ArrayHasVariables IsKnown IsKnownArray f

  -- ---- what is spelled

  applied_known : (op : Op) (ts : List Tree) → OfTerms IsOfKnown ts → IsSome (result_width_of op (map width_of ts)) → IsOfKnown (applied op ts)
  applied_known op [] h fits = absurd (not_some _ (no_width op) fits)
  applied_known op (a ∷ []) h fits = h.0
  applied_known op (a ∷ b ∷ []) h fits = (h.0, h.1.0)
  applied_known op (a ∷ b ∷ c ∷ []) h fits = (h.0, h.1.0, h.1.1.0)
  applied_known op (a ∷ b ∷ c ∷ d ∷ ts) h fits = absurd (not_some _ (four_widths op _ _ _ _ _) fits)

  known_spelled : IsSpelledSo scope IsFormed IsOfKnown
  known_spelled = record {
    of_literal = λ b h. tt;
    of_variable = λ x w h e. (h, e);
    of_application = λ op ws r ts t heads h fits made. subst IsOfKnown (within_is (make (applied op ts)) t made).1 (make_variables IsKnown IsKnownArray (applied op ts) (applied_known op ts h fits));
    of_selection = λ f i t h e inner wide made. subst IsOfKnown (within_is (select (array f) i) t made).1 ((h, e), inner);
  }

  known_array_spelled : ArrayIsSpelledSo scope IsFormed IsOfKnown ArrayIsOfKnown
  known_array_spelled = record {
    of_array = λ f h e. (h, e);
    of_update = λ f i e h k l wide byte low. (h, k, l);
    of_splice = λ f g i h k l wide low. (h, k, l);
  }

  -- ---- names and declarations apart

  known_parts : (t : Tree) → IsOfKnown t → HasNames t × IsDeclared scope t
  known_parts (lit b) h = (tt, tt)
  known_parts (var x w) h = h
  known_parts (one op a) h = known_parts a h
  known_parts (two op a b) h =
      let first = known_parts a h.0 in
      let second = known_parts b h.1 in
      ((first.0, second.0), (first.1, second.1))
  known_parts (three op a b c) h =
      let first = known_parts a h.0 in
      let second = known_parts b h.1 in
      let third = known_parts c h.2 in
      ((first.0, second.0, third.0), (first.1, second.1, third.1))
  known_parts (sel f i) h =
      let at = known_parts i h.1 in
      ((h.0.0, at.0), (h.0.1, at.1))

  known_array_parts : (f : ArrayTree) → ArrayIsOfKnown f → ArrayHasNames f × IsDeclaredArray scope f
  known_array_parts (array f) h = h
  known_array_parts (upd of i e) h =
      let inner = known_array_parts of h.0 in
      let at = known_parts i h.1 in
      let by = known_parts e h.2 in
      ((inner.0, at.0, by.0), (inner.1, at.1, by.1))
  known_array_parts (splice of below i) h =
      let inner = known_array_parts of h.0 in
      let under = known_array_parts below h.1 in
      let at = known_parts i h.2 in
      ((inner.0, under.0, at.0), (inner.1, under.1, at.1))

-- what is spelled has such names, declared, and so do the words behind it
pub spelled_declared : (scope : Scope) (n : ℕ) (ws r : Words) (t : Tree) → Spells scope n ws t r → OfWords IsFormed ws → (HasNames t × IsDeclared scope t) × OfWords IsFormed r
spelled_declared scope n ws r t s formed =
    let own = spelled_so scope IsFormed (IsOfKnown scope) (known_spelled scope) n ws r t s formed in
    (known_parts scope t own.0, own.1)

-- ---- what is read

pub read_declared : (text : Text) (ts : List Token) (from next : ℕ) (scope : Scope) (t : Tree) → cut text ≡ Ok ts → term_from text ts from scope ≡ Ok (t, next) → HasNames t × IsDeclared scope t
read_declared text ts from next scope t cuts e =
    (spelled_declared scope 1024 (drop from (lexemes text ts)) (drop next (lexemes text ts)) t (read_is_spelled text ts from next scope t e) (tokens_formed text ts from cuts)).0

pub read_array_declared : (text : Text) (ts : List Token) (from next : ℕ) (scope : Scope) (f : ArrayTree) → cut text ≡ Ok ts → array_from text ts from scope ≡ Ok (f, next) → ArrayHasNames f × IsDeclaredArray scope f
read_array_declared text ts from next scope f cuts e =
    known_array_parts scope f
    (array_spelled_so scope IsFormed (IsOfKnown scope) (known_spelled scope) (ArrayIsOfKnown scope) (known_array_spelled scope) 1024 (drop from (lexemes text ts)) (drop next (lexemes text ts)) f (read_array_is_spelled text ts from next scope f e) (tokens_formed text ts from cuts)).0
