-- What holds of every list of interned terms, and of what the code keeps.
use Rattle.std.specs.Prelude.{◌≡◌, ◌≢◌, ⊤, ℕ, ◌<◌, ◌≤◌, List, [], ◌∷◌, length, map, All, AllPairs, slice_index_or}
use Rattle.term_tree.specs.Terms.{Text, IsTyped, IsTypedArray, IsTerm, IsArrayTerm, width_of, height, array_height}
use Rattle.term_arena.specs.declared.keeping.TheConstants.{LIMIT}
use Rattle.term_arena.specs.declared.node.TermId.{TermId}
use Rattle.term_arena.specs.declared.node.Key.{Key}
use Rattle.term_arena.specs.declared.node.Key.TheVariants as key
use Rattle.term_arena.specs.declared.node.Facts.{Facts}
use Rattle.term_arena.specs.declared.node.NewNode.{NewNode}
use Rattle.term_arena.specs.declared.node.NewNode.TheVariants as new_one
use Rattle.term_arena.specs.Nodes.{Node, lit_node, var_node, one_node, two_node, three_node, sel_node, array_node, upd_node, splice_node, Meaning, of_term, of_array, meanings_of}

-- ---- the list

-- a typed term or array term
abbrev pub IsTypedMeaning : Meaning → Type 0
IsTypedMeaning (of_term t) = IsTyped t
IsTypedMeaning (of_array f) = IsTypedArray f

-- one that is typed and not too high
abbrev pub IsFine : Meaning → Type 0
IsFine (of_term t) = IsTerm t
IsFine (of_array f) = IsArrayTerm f

-- the width of a term; array terms have none
abbrev pub width_in : Meaning → ℕ
width_in (of_term t) = width_of t
width_in (of_array f) = 0

-- the height of a term or array term
abbrev pub height_in : Meaning → ℕ
height_in (of_term t) = height t
height_in (of_array f) = array_height f

-- a list of interned terms: not too long, each node in it once, and each stands for a term or array term that there may be
pub record IsArena (nodes : List Node) : Type 0 where
  pub small : length nodes ≤ LIMIT
  pub once : AllPairs (λ m n. m ≢ n) nodes
  pub fine : All IsFine (meanings_of nodes)

-- ---- what is kept

-- the name of a number
abbrev pub name_at : List Text → ℕ → Text
name_at names i = slice_index_or names i []

-- a kept node, its name as a text
abbrev pub plain : List Text → Key → Node
plain names (key.Lit b) = lit_node b
plain names (key.Var x w) = var_node (name_at names x) w
plain names (key.One op a) = one_node op a.number
plain names (key.Two op a b) = two_node op a.number b.number
plain names (key.Three op a b c) = three_node op a.number b.number c.number
plain names (key.Sel f i) = sel_node (name_at names f) i.number
plain names (key.Array f) = array_node (name_at names f)
plain names (key.Upd of i e) = upd_node of.number i.number e.number
plain names (key.Splice of below i) = splice_node of.number below.number i.number

-- a kept node whose name is one of the first n
abbrev pub IsNamed : ℕ → Key → Type 0
IsNamed n (key.Var x w) = x < n
IsNamed n (key.Sel f i) = f < n
IsNamed n (key.Array f) = f < n
IsNamed n k = ⊤

-- no argument
abbrev pub no_id : TermId
no_id = record { number = 0 }

-- the arguments of an operator, filled up to three
abbrev pub arguments : Key → List TermId
arguments (key.One op a) = a ∷ no_id ∷ no_id ∷ []
arguments (key.Two op a b) = a ∷ b ∷ no_id ∷ []
arguments (key.Three op a b c) = a ∷ b ∷ c ∷ []
arguments k = no_id ∷ no_id ∷ no_id ∷ []

-- names, nodes and what is known of each node fit together
pub record IsKept (names : List Text) (keys : List Key) (facts : List Facts) : Type 0 where
  pub arena : IsArena (map (plain names) keys)
  pub names_once : AllPairs (λ x y. x ≢ y) names
  pub named : All (IsNamed (length names)) keys
  pub widths : map (λ r. r.width) facts ≡ map width_in (meanings_of (map (plain names) keys))
  pub heights : map (λ r. r.height) facts ≡ map height_in (meanings_of (map (plain names) keys))
  pub args : map (λ r. r.args) facts ≡ map arguments keys

-- ---- nodes that are asked for

-- the name of an array variable's node
abbrev pub name_of : Node → Text
name_of (array_node f) = f
name_of n = []

-- the node that is asked for, in a list of nodes
abbrev pub asked_node : List Node → NewNode → Node
asked_node nodes (new_one.Lit b) = lit_node b
asked_node nodes (new_one.Var x w) = var_node x.now w
asked_node nodes (new_one.One op a) = one_node op a.number
asked_node nodes (new_one.Two op a b) = two_node op a.number b.number
asked_node nodes (new_one.Three op a b c) = three_node op a.number b.number c.number
asked_node nodes (new_one.Sel f i) = sel_node f.now i.number
asked_node nodes (new_one.SelOf f i) = sel_node (name_of (slice_index_or nodes f.number (lit_node (record { width = 0; value = 0 })))) i.number
asked_node nodes (new_one.Array f) = array_node f.now
asked_node nodes (new_one.Upd of i e) = upd_node of.number i.number e.number
asked_node nodes (new_one.Splice of below i) = splice_node of.number below.number i.number
