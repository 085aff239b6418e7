-- The words of a term and of an array term as they are printed.
use Rattle.std.specs.Prelude.{List, [], ◌∷◌, ◌++◌, map, codes}
use Rattle.bv_bits.specs.declared.Op.{Op}
use Rattle.term_tree.specs.Terms.{Tree, lit, var, one, two, three, sel, ArrayTree, array, upd, splice}
use Rattle.term_print.specs.Printing.{op_word, op_numbers}
use Rattle.term_print.specs.Words.{Word, opens, closes, name, number, literal}

-- an operator and its numbers
abbrev pub head_words : Op → List Word
head_words op = name (op_word op) ∷ map number (op_numbers op)

-- a term
abbrev pub term_words : Tree → List Word
term_words (lit b) = literal b ∷ []
term_words (var x width) = name x ∷ []
term_words (one op a) = opens ∷ (head_words op ++ (term_words a ++ closes ∷ []))
term_words (two op a b) = opens ∷ (head_words op ++ (term_words a ++ (term_words b ++ closes ∷ [])))
term_words (three op a b c) = opens ∷ (head_words op ++ (term_words a ++ (term_words b ++ (term_words c ++ closes ∷ []))))
term_words (sel f i) = opens ∷ name (codes "sel") ∷ name f ∷ (term_words i ++ closes ∷ [])

-- an array term
abbrev pub array_words : ArrayTree → List Word
array_words (array f) = name f ∷ []
array_words (upd of at by) = opens ∷ name (codes "upd") ∷ (array_words of ++ (term_words at ++ (term_words by ++ closes ∷ [])))
array_words (splice of below at) = opens ∷ name (codes "splice") ∷ (array_words of ++ (array_words below ++ (term_words at ++ closes ∷ [])))
