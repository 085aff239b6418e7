-- What is printed is cut into the words of its term.
use Rattle.std.proofs.Common.{List, [], ◌∷◌, ◌++◌, refl}
use Rattle.std.specs.Prelude.{codes}
use Rattle.lex_core.specs.Forms.{has_form}
use Rattle.term_tree.specs.Terms.{Text, Tree, lit, var, one, two, three, sel, ArrayTree, array, upd, splice, IsTyped, IsTypedArray, width_of}
use Rattle.term_tree.specs.Divisions.{HasNoDivision, ArrayHasNoDivision}
use Rattle.term_print.specs.Cutting.{IsCutAs, IsCutInto}
use Rattle.term_print.specs.Printing.{op_head, parts_text, term_text, array_text}
use Rattle.term_print.specs.Words.{Word, opens, closes, name}
use Rattle.term_print.specs.TermWords.{head_words, term_words, array_words}
use Rattle.term_print.specs.PrintedLaws.{HasNames, ArrayHasNames}
use Rattle.term_tree.proofs.WidthLemmas.{width_is}
use Rattle.term_print.proofs.CutLemmas.{IsTail, joined, opened, closed, spaced, whole_cut}
use Rattle.term_print.proofs.TokenTextLemmas.{literal_cut, name_cut, head_cut, one_small, two_small, three_small}

-- ---- terms

-- parts behind a space each, up to the closing bracket
one_part : (a : Text) (us : List Word) → IsCutAs a us → IsTail (parts_text (a ∷ [])) (us ++ closes ∷ [])
one_part a us h = spaced a (41 ∷ []) us (closes ∷ []) h closed

two_parts : (a b : Text) (us vs : List Word) → IsCutAs a us → IsCutAs b vs → IsTail (parts_text (a ∷ b ∷ [])) (us ++ (vs ++ closes ∷ []))
two_parts a b us vs h k = spaced a (parts_text (b ∷ [])) us (vs ++ closes ∷ []) h (one_part b vs k)

three_parts : (a b c : Text) (us vs ws : List Word) → IsCutAs a us → IsCutAs b vs → IsCutAs c ws → IsTail (parts_text (a ∷ b ∷ c ∷ [])) (us ++ (vs ++ (ws ++ closes ∷ [])))
three_parts a b c us vs ws h k l = spaced a (parts_text (b ∷ c ∷ [])) us (vs ++ (ws ++ closes ∷ [])) h (two_parts b c vs ws k l)

-- a word and its parts in brackets
in_brackets : (word : Text) (parts : Text) (us : List Word) → IsCutAs word (name word ∷ []) → IsTail parts us → IsCutAs (40 ∷ (word ++ parts)) (opens ∷ name word ∷ us)
in_brackets word parts us h k = opened (word ++ parts) (name word ∷ us) (joined word parts (name word ∷ []) us h k)

-- `sel`, `upd` and `splice` are names
sel_cut : IsCutAs (codes "sel") (name (codes "sel") ∷ [])
unfolding has_form
sel_cut = name_cut (codes "sel") refl

upd_cut : IsCutAs (codes "upd") (name (codes "upd") ∷ [])
unfolding has_form
upd_cut = name_cut (codes "upd") refl

splice_cut : IsCutAs (codes "splice") (name (codes "splice") ∷ [])
unfolding has_form
splice_cut = name_cut (codes "splice") refl

pub term_cut : (t : Tree) → IsTyped t → HasNoDivision t → HasNames t → IsCutAs (term_text t) (term_words t)
term_cut (lit b) typed whole names = literal_cut b typed
term_cut (var x w) typed whole names = name_cut x names
term_cut (one op a) typed whole names =
    let parts = one_part (term_text a) (term_words a) (term_cut a typed.1 whole.1 names) in
    joined (op_head op) (parts_text (term_text a ∷ [])) (opens ∷ head_words op) (term_words a ++ closes ∷ [])
    (head_cut op whole.0 (one_small op (width_of a) (width_is a typed.1).at_most typed.0)) parts
term_cut (two op a b) typed whole names =
    let parts = two_parts (term_text a) (term_text b) (term_words a) (term_words b) (term_cut a typed.1 whole.1 names.0) (term_cut b typed.2 whole.2 names.1) in
    joined (op_head op) (parts_text (term_text a ∷ term_text b ∷ [])) (opens ∷ head_words op) (term_words a ++ (term_words b ++ closes ∷ []))
    (head_cut op whole.0 (two_small op (width_of a) (width_of b) typed.0)) parts
term_cut (three op a b c) typed whole names =
    let parts = three_parts (term_text a) (term_text b) (term_text c) (term_words a) (term_words b) (term_words c) (term_cut a typed.1 whole.1 names.0) (term_cut b typed.2 whole.2 names.1) (term_cut c typed.3 whole.3 names.2) in
    joined (op_head op) (parts_text (term_text a ∷ term_text b ∷ term_text c ∷ [])) (opens ∷ head_words op) (term_words a ++ (term_words b ++ (term_words c ++ closes ∷ [])))
    (head_cut op whole.0 (three_small op (width_of a) (width_of b) (width_of c) typed.0)) parts
term_cut (sel f i) typed whole names =
    in_brackets (codes "sel") (parts_text (f ∷ term_text i ∷ [])) (name f ∷ (term_words i ++ closes ∷ [])) sel_cut
    (two_parts f (term_text i) (name f ∷ []) (term_words i) (name_cut f names.0) (term_cut i typed.1 whole names.1))

pub array_cut : (f : ArrayTree) → IsTypedArray f → ArrayHasNoDivision f → ArrayHasNames f → IsCutAs (array_text f) (array_words f)
array_cut (array f) typed whole names = name_cut f names
array_cut (upd f i b) typed whole names =
    in_brackets (codes "upd") (parts_text (array_text f ∷ term_text i ∷ term_text b ∷ [])) (array_words f ++ (term_words i ++ (term_words b ++ closes ∷ []))) upd_cut
    (three_parts (array_text f) (term_text i) (term_text b) (array_words f) (term_words i) (term_words b) (array_cut f typed.0 whole.0 names.0) (term_cut i typed.1.1 whole.1 names.1) (term_cut b typed.2.1 whole.2 names.2))
array_cut (splice f g i) typed whole names =
    in_brackets (codes "splice") (parts_text (array_text f ∷ array_text g ∷ term_text i ∷ [])) (array_words f ++ (array_words g ++ (term_words i ++ closes ∷ []))) splice_cut
    (three_parts (array_text f) (array_text g) (term_text i) (array_words f) (array_words g) (term_words i) (array_cut f typed.0 whole.0 names.0) (array_cut g typed.1 whole.1 names.1) (term_cut i typed.2.1 whole.2 names.2))

pub printed_cut : (t : Tree) → IsTyped t → HasNoDivision t → HasNames t → IsCutInto (term_text t) (term_words t)
printed_cut t typed whole names = whole_cut (term_text t) (term_words t) (term_cut t typed whole names)

pub printed_array_cut : (f : ArrayTree) → IsTypedArray f → ArrayHasNoDivision f → ArrayHasNames f → IsCutInto (array_text f) (array_words f)
printed_array_cut f typed whole names = whole_cut (array_text f) (array_words f) (array_cut f typed whole names)
