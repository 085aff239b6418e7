-- What is read is read back when it is printed.
use Rattle.std.proofs.Common.{◌≡◌, ℕ, List, length, drop, Ok}
use Rattle.std.specs.Str.{IsUtf8}
use Rattle.lex_core.specs.declared.token.Token.{Token}
use Rattle.lex_core.specs.Lexing.{cut}
use Rattle.term_tree.specs.Terms.{Text, Tree, ArrayTree, IsTerm, IsArrayTerm}
use Rattle.term_tree.specs.Divisions.{HasNoDivision, ArrayHasNoDivision}
use Rattle.term_print.specs.Cutting.{IsCutInto}
use Rattle.term_print.specs.Printing.{term_text, array_text}
use Rattle.term_print.specs.Words.{lexemes}
use Rattle.term_words.specs.Scopes.{Scope}
use Rattle.term_read.specs.Reading.{term_from, array_from}
use Rattle.term_read.specs.ReadingView.{AreWidths}
use Rattle.term_make.specs.Normal.{IsNormal, IsNormalArray}
use Rattle.term_print.specs.TermWords.{term_words, array_words}
use Rattle.term_round_trip.specs.DeclaredTerms.{IsDeclared, IsDeclaredArray}
use Rattle.term_print.specs.PrintedLaws.{HasNames, ArrayHasNames}
use Rattle.term_read.proofs.NormalSpelledLemmas.{spelled_normal, array_spelled_normal}
use Rattle.term_read.proofs.ReadDivisionLemmas.{read_whole, array_read_whole}
use Rattle.term_read.proofs.SoundLemmas.{read_is_spelled}
use Rattle.term_read.proofs.ArraySoundLemmas.{read_array_is_spelled}
use Rattle.term_print.proofs.AsciiLemmas.{printed_utf8, printed_array_utf8}
use Rattle.term_print.proofs.PrintedLemmas.{printed_cut, printed_array_cut}
use Rattle.term_round_trip.proofs.PrintedReadLemmas.{printed_read, printed_array_read}
use Rattle.term_round_trip.proofs.DeclaredLemmas.{read_declared, read_array_declared}
use Rattle.term_round_trip.proofs.ReadTermLemmas.{read_is_term, read_is_array_term}

-- ---- terms

-- what the laws of printing ask
record Prints (scope : Scope) (t : Tree) : Type 0 where
  it : IsTerm t
  normal : IsNormal t
  whole : HasNoDivision t
  names : HasNames t
  declared : IsDeclared scope t

prints : (text : Text) (ts : List Token) (from next : ℕ) (scope : Scope) (t : Tree) → cut text ≡ Ok ts → AreWidths scope → term_from text ts from scope ≡ Ok (t, next) → Prints scope t
prints text ts from next scope t cuts widths e =
    let known = read_declared text ts from next scope t cuts e in
    record {
      it = read_is_term text ts from next scope t cuts widths e;
      normal = spelled_normal scope 1024 (drop from (lexemes text ts)) (drop next (lexemes text ts)) t (read_is_spelled text ts from next scope t e);
      whole = read_whole text ts from next scope t e;
      names = known.0;
      declared = known.1;
    }

pub read_back : (text : Text) (ts : List Token) (from next : ℕ) (scope : Scope) (t : Tree) (us : List Token) → cut text ≡ Ok ts → AreWidths scope → term_from text ts from scope ≡ Ok (t, next)
    → cut (term_text t) ≡ Ok us → term_from (term_text t) us 0 scope ≡ Ok (t, length us)
read_back text ts from next scope t us cuts widths e again =
    let p = prints text ts from next scope t cuts widths e in
    printed_read scope t us p.it p.normal p.whole p.names p.declared again

pub cut_back : (text : Text) (ts : List Token) (from next : ℕ) (scope : Scope) (t : Tree) → cut text ≡ Ok ts → AreWidths scope → term_from text ts from scope ≡ Ok (t, next)
    → IsCutInto (term_text t) (term_words t) × IsUtf8 (term_text t)
cut_back text ts from next scope t cuts widths e =
    let p = prints text ts from next scope t cuts widths e in
    (printed_cut t p.it.typed p.whole p.names, printed_utf8 t p.it.typed p.whole p.names)

-- ---- array terms

-- what the laws of printing ask
record ArrayPrints (scope : Scope) (f : ArrayTree) : Type 0 where
  it : IsArrayTerm f
  normal : IsNormalArray f
  whole : ArrayHasNoDivision f
  names : ArrayHasNames f
  declared : IsDeclaredArray scope f

array_prints : (text : Text) (ts : List Token) (from next : ℕ) (scope : Scope) (f : ArrayTree) → cut text ≡ Ok ts → AreWidths scope → array_from text ts from scope ≡ Ok (f, next) → ArrayPrints scope f
array_prints text ts from next scope f cuts widths e =
    let known = read_array_declared text ts from next scope f cuts e in
    record {
      it = read_is_array_term text ts from next scope f cuts widths e;
      normal = array_spelled_normal scope 1024 (drop from (lexemes text ts)) (drop next (lexemes text ts)) f (read_array_is_spelled text ts from next scope f e);
      whole = array_read_whole text ts from next scope f e;
      names = known.0;
      declared = known.1;
    }

pub read_array_back : (text : Text) (ts : List Token) (from next : ℕ) (scope : Scope) (f : ArrayTree) (us : List Token) → cut text ≡ Ok ts → AreWidths scope → array_from text ts from scope ≡ Ok (f, next)
    → cut (array_text f) ≡ Ok us → array_from (array_text f) us 0 scope ≡ Ok (f, length us)
read_array_back text ts from next scope f us cuts widths e again =
    let p = array_prints text ts from next scope f cuts widths e in
    printed_array_read scope f us p.it p.normal p.whole p.names p.declared again

pub cut_array_back : (text : Text) (ts : List Token) (from next : ℕ) (scope : Scope) (f : ArrayTree) → cut text ≡ Ok ts → AreWidths scope → array_from text ts from scope ≡ Ok (f, next)
    → IsCutInto (array_text f) (array_words f) × IsUtf8 (array_text f)
cut_array_back text ts from next scope f cuts widths e =
    let p = array_prints text ts from next scope f cuts widths e in
    (printed_array_cut f p.it.typed p.whole p.names, printed_array_utf8 f p.it.typed p.whole p.names)
