-- The text of a term.
use Rattle.std.specs.Prelude.{ℕ, [], ◌∷◌, ◌++◌, List, codes}
use Rattle.std.specs.Fmt.{decimal}
use Rattle.bv_bits.specs.declared.Op.{Op}
use Rattle.bv_bits.specs.declared.Op.TheVariants.{Not, Neg, And, Or, Xor, Imp, Add, Sub, Mul, UDiv, URem, SDiv, SRem, Shl, LShr, AShr, Eq, Ne, ULt, ULe, UGt, UGe, SLt, SLe, SGt, SGe, Concat, Extract, ZExt, SExt, Ite}
use Rattle.bit_text.specs.Texts.{literal_text}
use Rattle.term_tree.specs.Terms.{Text, Tree, lit, var, one, two, three, sel, ArrayTree, array, upd, splice}

-- ---- operators

-- the word of an operator; divisions have none
abbrev pub op_word : Op → Text
op_word Not = codes "not"
op_word Neg = codes "neg"
op_word And = codes "and"
op_word Or = codes "or"
op_word Xor = codes "xor"
op_word Imp = codes "imp"
op_word Add = codes "add"
op_word Sub = codes "sub"
op_word Mul = codes "mul"
op_word UDiv = []
op_word URem = []
op_word SDiv = []
op_word SRem = []
op_word Shl = codes "shl"
op_word LShr = codes "lshr"
op_word AShr = codes "ashr"
op_word Eq = codes "eq"
op_word Ne = codes "ne"
op_word ULt = codes "ult"
op_word ULe = codes "ule"
op_word UGt = codes "ugt"
op_word UGe = codes "uge"
op_word SLt = codes "slt"
op_word SLe = codes "sle"
op_word SGt = codes "sgt"
op_word SGe = codes "sge"
op_word Concat = codes "concat"
op_word (Extract hi lo) = codes "extract"
op_word (ZExt to) = codes "zext"
op_word (SExt to) = codes "sext"
op_word Ite = codes "ite"

-- the numbers of an operator
abbrev pub op_numbers : Op → List ℕ
op_numbers (Extract hi lo) = hi ∷ lo ∷ []
op_numbers (ZExt to) = to ∷ []
op_numbers (SExt to) = to ∷ []
op_numbers op = []

-- ---- terms

-- parts with one space before each, and the bracket that closes them
abbrev pub parts_text : List Text → Text
parts_text [] = codes ")"
parts_text (p ∷ ps) = 32 ∷ (p ++ parts_text ps)

-- a word and its parts in brackets
abbrev pub brackets : Text → List Text → Text
brackets word ps = 40 ∷ (word ++ parts_text ps)

-- numbers in decimal digits, each with a space before it
abbrev pub numbers_text : List ℕ → Text
numbers_text [] = []
numbers_text (n ∷ ns) = 32 ∷ (decimal n ++ numbers_text ns)

-- an opening bracket, an operator and its numbers
abbrev pub op_head : Op → Text
op_head op = 40 ∷ (op_word op ++ numbers_text (op_numbers op))

-- an operator, its numbers and its arguments in brackets
abbrev pub op_text : Op → List Text → Text
op_text op ps = op_head op ++ parts_text ps

-- the text of a term
abbrev pub term_text : Tree → Text
term_text (lit b) = literal_text b
term_text (var x width) = x
term_text (one op a) = op_text op (term_text a ∷ [])
term_text (two op a b) = op_text op (term_text a ∷ term_text b ∷ [])
term_text (three op a b c) = op_text op (term_text a ∷ term_text b ∷ term_text c ∷ [])
term_text (sel f i) = brackets (codes "sel") (f ∷ term_text i ∷ [])

-- the text of an array term: the array from the index on stands before the one below it
abbrev pub array_text : ArrayTree → Text
array_text (array f) = f
array_text (upd of at by) = brackets (codes "upd") (array_text of ∷ term_text at ∷ term_text by ∷ [])
array_text (splice of below at) = brackets (codes "splice") (array_text of ∷ array_text below ∷ term_text at ∷ [])
