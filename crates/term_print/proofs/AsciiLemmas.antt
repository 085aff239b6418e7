-- The text of a term whose variables are name tokens is ASCII, and so UTF-8.
use Rattle.std.proofs.Common.{◌≡◌, ℕ, ◌<◌, true, false, List, [], ◌∷◌, ◌++◌, refl, arith}
use Rattle.std.specs.Bool.{⊤}
use Rattle.std.specs.Prelude.{codes}
use Rattle.std.specs.Fmt.{decimal}
use Rattle.std.specs.Str.{IsAscii, IsUtf8}
use Rattle.std.proofs.lemmas.Fmt.{IsAscii-decimal}
use Rattle.std.proofs.lemmas.Str.{IsAscii-append, IsUtf8-from_ascii}
use Rattle.std.proofs.lemmas.Str.Ascii.{IsAscii-nil, IsAscii-cons}
use Rattle.bv_bits.specs.declared.Op.{Op}
use Rattle.lex_core.specs.declared.token.Kind.TheVariants as kind
use Rattle.lex_core.specs.Forms.{has_form}
use Rattle.term_tree.specs.Terms.{Text, Tree, lit, var, one, two, three, sel, ArrayTree, array, upd, splice, IsTyped, IsTypedArray, width_of}
use Rattle.term_print.specs.Printing.{op_word, op_numbers, parts_text, brackets, numbers_text, op_head, term_text, array_text}
use Rattle.term_tree.specs.Divisions.{is_division, HasNoDivision, ArrayHasNoDivision}
use Rattle.term_print.specs.PrintedLaws.{HasNames, ArrayHasNames}
use Rattle.term_tree.proofs.WidthLemmas.{width_is}
use Rattle.bit_text.proofs.AsciiLemmas.{literal_ascii, name_ascii}
use Rattle.term_print.proofs.TokenTextLemmas.{AreSmall, op_form, one_small, two_small, three_small}

-- ---- parts

AreAscii : List Text → Type 0
AreAscii [] = ⊤
AreAscii (p ∷ ps) = IsAscii p × AreAscii ps

parts_ascii : (ps : List Text) → AreAscii ps → IsAscii (parts_text ps)
unfolding AreAscii
parts_ascii [] h = IsAscii-cons 41 [] (omega arith) IsAscii-nil
parts_ascii (p ∷ ps) h = IsAscii-cons 32 (p ++ parts_text ps) (omega arith) (IsAscii-append p (parts_text ps) h.0 (parts_ascii ps h.1))

numbers_ascii : (ns : List ℕ) → AreSmall ns → IsAscii (numbers_text ns)
numbers_ascii [] h = IsAscii-nil
numbers_ascii (n ∷ ns) h = IsAscii-cons 32 (decimal n ++ numbers_text ns) (omega arith) (IsAscii-append (decimal n) (numbers_text ns) (IsAscii-decimal n (omega (arith, h.0))) (numbers_ascii ns h.1))

head_ascii : (op : Op) → is_division op ≡ false → AreSmall (op_numbers op) → IsAscii (op_head op)
head_ascii op h small =
    IsAscii-cons 40 (op_word op ++ numbers_text (op_numbers op)) (omega arith) (IsAscii-append (op_word op) (numbers_text (op_numbers op)) (name_ascii (op_word op) (op_form op h)) (numbers_ascii (op_numbers op) small))

op_ascii : (op : Op) (ps : List Text) → is_division op ≡ false → AreSmall (op_numbers op) → AreAscii ps → IsAscii (op_head op ++ parts_text ps)
op_ascii op ps h small all = IsAscii-append (op_head op) (parts_text ps) (head_ascii op h small) (parts_ascii ps all)

brackets_ascii : (word : Text) (ps : List Text) → has_form kind.Name word ≡ true → AreAscii ps → IsAscii (brackets word ps)
brackets_ascii word ps h all = IsAscii-cons 40 (word ++ parts_text ps) (omega arith) (IsAscii-append word (parts_text ps) (name_ascii word h) (parts_ascii ps all))

-- ---- terms

pub term_ascii : (t : Tree) → IsTyped t → HasNoDivision t → HasNames t → IsAscii (term_text t)
unfolding AreAscii has_form
term_ascii (lit b) typed whole names = literal_ascii b
term_ascii (var x w) typed whole names = name_ascii x names
term_ascii (one op a) typed whole names =
    op_ascii op (term_text a ∷ []) whole.0 (one_small op (width_of a) (width_is a typed.1).at_most typed.0) (term_ascii a typed.1 whole.1 names, tt)
term_ascii (two op a b) typed whole names =
    op_ascii op (term_text a ∷ term_text b ∷ []) whole.0 (two_small op (width_of a) (width_of b) typed.0) (term_ascii a typed.1 whole.1 names.0, (term_ascii b typed.2 whole.2 names.1, tt))
term_ascii (three op a b c) typed whole names =
    op_ascii op (term_text a ∷ term_text b ∷ term_text c ∷ []) whole.0 (three_small op (width_of a) (width_of b) (width_of c) typed.0)
    (term_ascii a typed.1 whole.1 names.0, (term_ascii b typed.2 whole.2 names.1, (term_ascii c typed.3 whole.3 names.2, tt)))
term_ascii (sel f i) typed whole names = brackets_ascii (codes "sel") (f ∷ term_text i ∷ []) refl (name_ascii f names.0, (term_ascii i typed.1 whole names.1, tt))

array_ascii : (f : ArrayTree) → IsTypedArray f → ArrayHasNoDivision f → ArrayHasNames f → IsAscii (array_text f)
unfolding AreAscii has_form
array_ascii (array f) typed whole names = name_ascii f names
array_ascii (upd f i b) typed whole names =
    brackets_ascii (codes "upd") (array_text f ∷ term_text i ∷ term_text b ∷ []) refl
    (array_ascii f typed.0 whole.0 names.0, (term_ascii i typed.1.1 whole.1 names.1, (term_ascii b typed.2.1 whole.2 names.2, tt)))
array_ascii (splice f g i) typed whole names =
    brackets_ascii (codes "splice") (array_text f ∷ array_text g ∷ term_text i ∷ []) refl
    (array_ascii f typed.0 whole.0 names.0, (array_ascii g typed.1 whole.1 names.1, (term_ascii i typed.2.1 whole.2 names.2, tt)))

pub printed_utf8 : (t : Tree) → IsTyped t → HasNoDivision t → HasNames t → IsUtf8 (term_text t)
printed_utf8 t typed whole names = IsUtf8-from_ascii (term_text t) (term_ascii t typed whole names)

pub printed_array_utf8 : (f : ArrayTree) → IsTypedArray f → ArrayHasNoDivision f → ArrayHasNames f → IsUtf8 (array_text f)
printed_array_utf8 f typed whole names = IsUtf8-from_ascii (array_text f) (array_ascii f typed whole names)
