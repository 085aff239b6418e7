-- What is printed is cut into the words of its term.
use Rattle.std.specs.Prelude.{◌≡◌, ⊤, true, [], ◌∷◌}
use Rattle.std.specs.Str.{IsUtf8}
use Rattle.bv_bits.specs.declared.Bits.{Bits}
use Rattle.bv_bits.specs.Bits.{IsBits}
use Rattle.lex_core.specs.declared.token.Kind.TheVariants as kind
use Rattle.lex_core.specs.Forms.{has_form}
use Rattle.term_tree.specs.Terms.{Text, Tree, lit, var, one, two, three, sel, ArrayTree, array, upd, splice, IsTyped, IsTypedArray}
use Rattle.term_tree.specs.Divisions.{HasNoDivision, ArrayHasNoDivision}
use Rattle.bit_text.specs.Texts.{literal_text}
use Rattle.bit_text.specs.TextLaws.{literal_kind}
use Rattle.term_print.specs.Printing.{term_text, array_text}
use Rattle.term_print.specs.Words.{literal, word_of}
use Rattle.term_print.specs.Cutting.{IsCutInto, IsCutAs}
use Rattle.term_print.specs.TermWords.{term_words, array_words}

-- a name is one that the lexer takes: a letter or `_`, then letters, digits and `_`
abbrev pub IsName : Text → Type 0
IsName x = has_form kind.Name x ≡ true

-- the variables of a term have such names
abbrev pub HasNames : Tree → Type 0
HasNames (lit b) = ⊤
HasNames (var x width) = IsName x
HasNames (one op a) = HasNames a
HasNames (two op a b) = HasNames a × HasNames b
HasNames (three op a b c) = HasNames a × HasNames b × HasNames c
HasNames (sel f i) = IsName f × HasNames i

-- the variables of an array term have such names
abbrev pub ArrayHasNames : ArrayTree → Type 0
ArrayHasNames (array f) = IsName f
ArrayHasNames (upd of at by) = ArrayHasNames of × HasNames at × HasNames by
ArrayHasNames (splice of below at) = ArrayHasNames of × ArrayHasNames below × HasNames at

-- ---- laws

-- as such a token it stands for the literal
abbrev pub LiteralTextStands : Type 0
LiteralTextStands = (b : Bits) → IsBits b → word_of (literal_kind b) (literal_text b) ≡ literal b

-- wherever it stands in front of what ends a token, it is cut into that literal
abbrev pub LiteralIsCutAs : Type 0
LiteralIsCutAs = (b : Bits) → IsBits b → IsCutAs (literal_text b) (literal b ∷ [])

-- what is printed is cut into the words of the term
abbrev pub PrintedIsCut : Type 0
PrintedIsCut = (t : Tree) → IsTyped t → HasNoDivision t → HasNames t → IsCutInto (term_text t) (term_words t)

-- so it is wherever it stands in front of what ends a token
abbrev pub PrintedIsCutAs : Type 0
PrintedIsCutAs = (t : Tree) → IsTyped t → HasNoDivision t → HasNames t → IsCutAs (term_text t) (term_words t)

-- it is UTF-8, so that it is printed byte for byte
abbrev pub PrintedIsUtf8 : Type 0
PrintedIsUtf8 = (t : Tree) → IsTyped t → HasNoDivision t → HasNames t → IsUtf8 (term_text t)

-- what is printed of an array term is cut into its words
abbrev pub PrintedArrayIsCut : Type 0
PrintedArrayIsCut = (f : ArrayTree) → IsTypedArray f → ArrayHasNoDivision f → ArrayHasNames f → IsCutInto (array_text f) (array_words f)

-- so it is wherever it stands in front of what ends a token
abbrev pub PrintedArrayIsCutAs : Type 0
PrintedArrayIsCutAs = (f : ArrayTree) → IsTypedArray f → ArrayHasNoDivision f → ArrayHasNames f → IsCutAs (array_text f) (array_words f)

-- it is UTF-8
abbrev pub PrintedArrayIsUtf8 : Type 0
PrintedArrayIsUtf8 = (f : ArrayTree) → IsTypedArray f → ArrayHasNoDivision f → ArrayHasNames f → IsUtf8 (array_text f)
