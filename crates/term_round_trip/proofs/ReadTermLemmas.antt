-- What is read is a term: typed, and not too high.
use Rattle.std.proofs.Common.{◌≡◌, ◌≤◌, Bool, true, false, ◌||◌, List, [], ◌∷◌, drop, Option, Some, None, Ok, refl, ap, sym, ◌∙◌, subst, ℕ, arith}
use Rattle.std.specs.List.{list_any}
use Rattle.std.proofs.lemmas.Bool.{ltb-false}
use Rattle.std.specs.Prelude.{nat_lt}
use Rattle.lex_core.specs.declared.token.Token.{Token}
use Rattle.lex_core.specs.Lexing.{cut}
use Rattle.term_tree.specs.Terms.{Text, Tree, lit, var, sel, ArrayTree, array, applied, height, array_height, HIGHEST, IsTyped, IsTerm, IsArrayTerm}
use Rattle.term_rules.specs.Rules.{Right, rule_of}
use Rattle.term_make.specs.Making.{Asked, Made, just, asks, build, make_by, make, is_high, within_height}
use Rattle.term_select.specs.Selecting.{select}
use Rattle.term_print.specs.Words.{lexemes}
use Rattle.term_words.specs.Scopes.{Scope}
use Rattle.term_read.specs.Reading.{term_from, array_from}
use Rattle.term_read.specs.Spelling.{Words, Spells}
use Rattle.term_read.specs.ReadingView.{AreTerms, AreWidths}
use Rattle.term_make.proofs.AnswerLemmas.{within_is, high_asks}
use Rattle.term_make.proofs.StepLemmas.{make_steps}
use Rattle.term_make.proofs.TypedLemmas.{make_typed}
use Rattle.term_read.proofs.ReadingLemmas.{applied_typed, declared_width, variable_term, literal_term}
use Rattle.term_read.proofs.SoundLemmas.{read_is_spelled}
use Rattle.term_read.proofs.ArraySoundLemmas.{read_array_is_spelled}
use Rattle.term_read.proofs.SpelledPartLemmas.{OfTerms, OfWords, IsSpelledSo, ArrayIsSpelledSo, spelled_so, array_spelled_so}
use Rattle.term_round_trip.proofs.FormedLemmas.{IsFormed, tokens_formed}

-- ---- what is within the height is not too high

not_middle : (a b c : Bool) → ((a || (b || false)) || c) ≡ false → b ≡ false
not_middle true b c e = absurd (cc)
not_middle false true c e = absurd (cc)
not_middle false false c e = refl

asks_low : (t : Tree) (m : Made Tree) (u : Tree) → within_height (asks t m) ≡ Some u → height u ≤ HIGHEST
asks_low t m u e =
    let is = within_is (asks t m) u e in
    let low : is_high m.it ≡ false = not_middle (list_any (λ (a : Asked). is_high a.1) m.asked) (is_high m.it) (list_any (λ (f : ArrayTree). nat_lt HIGHEST (array_height f)) m.stored) (sym (high_asks t m) ∙ is.0) in
    subst (λ (v : Tree). height v ≤ HIGHEST) is.1 (ltb-false HIGHEST (height m.it) low)

made_by_low : (t u : Tree) (o : Option Right) → within_height (make_by make t o) ≡ Some u → height u ≤ HIGHEST
made_by_low t u None e = asks_low t (just t) u e
made_by_low t u (Some r) e = asks_low t (build make r) u e

made_low : (t u : Tree) → within_height (make t) ≡ Some u → height u ≤ HIGHEST
made_low t u e = made_by_low t u (rule_of t) (ap (λ (m : Made Tree). within_height m) (sym (make_steps t)) ∙ e)

-- ---- what is spelled

are_terms : (ts : List Tree) → OfTerms IsTerm ts → AreTerms ts
are_terms [] h = tt
are_terms (t ∷ ts) h = (h.0, are_terms ts h.1)

module _ (scope : Scope) (widths : AreWidths scope) where
  term_spelled : IsSpelledSo scope IsFormed IsTerm
  term_spelled = record {
    of_literal = λ b h. literal_term (lit b) b refl h;
    of_variable = λ x w h e. variable_term (var x w) x w refl (declared_width scope x w widths e);
    of_application = λ op ws r ts t heads h fits made. record {
      typed = subst IsTyped (within_is (make (applied op ts)) t made).1 (make_typed (applied op ts) (applied_typed op ts (are_terms ts h) fits));
      low = made_low (applied op ts) t made;
    };
    of_selection = λ f i t h e inner wide made. record {
      typed = subst IsTyped (within_is (select (array f) i) t made).1 (wide, inner.typed);
      low = asks_low (sel f i) (just (sel f i)) t made;
    };
  }

  array_term_spelled : ArrayIsSpelledSo scope IsFormed IsTerm IsArrayTerm
  array_term_spelled = record {
    of_array = λ f h e. record { typed = tt; low = omega arith };
    of_update = λ f i e h k l wide byte low. record { typed = (h.typed, (wide, k.typed), (byte, l.typed)); low = low };
    of_splice = λ f g i h k l wide low. record { typed = (h.typed, k.typed, (wide, l.typed)); low = low };
  }

-- what is spelled is a term
pub spelled_term : (scope : Scope) (n : ℕ) (ws r : Words) (t : Tree) → AreWidths scope → Spells scope n ws t r → OfWords IsFormed ws → IsTerm t
spelled_term scope n ws r t widths s formed = (spelled_so scope IsFormed IsTerm (term_spelled scope widths) n ws r t s formed).0

-- ---- what is read

pub read_is_term : (text : Text) (ts : List Token) (from next : ℕ) (scope : Scope) (t : Tree) → cut text ≡ Ok ts → AreWidths scope → term_from text ts from scope ≡ Ok (t, next) → IsTerm t
read_is_term text ts from next scope t cuts widths e =
    spelled_term scope 1024 (drop from (lexemes text ts)) (drop next (lexemes text ts)) t widths (read_is_spelled text ts from next scope t e) (tokens_formed text ts from cuts)

pub read_is_array_term : (text : Text) (ts : List Token) (from next : ℕ) (scope : Scope) (f : ArrayTree) → cut text ≡ Ok ts → AreWidths scope → array_from text ts from scope ≡ Ok (f, next) → IsArrayTerm f
read_is_array_term text ts from next scope f cuts widths e =
    (array_spelled_so scope IsFormed IsTerm (term_spelled scope widths) IsArrayTerm (array_term_spelled scope widths) 1024 (drop from (lexemes text ts)) (drop next (lexemes text ts)) f (read_array_is_spelled text ts from next scope f e) (tokens_formed text ts from cuts)).0
