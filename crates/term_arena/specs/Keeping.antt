-- What is kept, before and after.
use Rattle.std.specs.Prelude.{◌≡◌, ◌↔◌, Bool, true, false, ⊤, ℕ, ◌⊎◌, ◌++◌, List, [], ◌∷◌, slice_get, Some}
use Rattle.term_tree.specs.Terms.{Text, IsTyped, IsTypedArray}
use Rattle.term_arena.specs.declared.node.Key.{Key}
use Rattle.term_arena.specs.declared.node.Facts.{Facts}
use Rattle.term_arena.specs.declared.node.NewNode.{NewNode}
use Rattle.term_arena.specs.declared.node.NewNode.TheVariants as new_one
use Rattle.term_arena.specs.Nodes.{Node, array_node, upd_node, splice_node, term_at, array_at}

-- nothing is added, or a node with what is known of it
abbrev pub Added : Key → Facts → List Key → List Key → List Facts → List Facts → Type 0
Added k row keys later facts rows =
    ((later ≡ keys) × (rows ≡ facts)) ⊎ ((later ≡ keys ++ k ∷ []) × (rows ≡ facts ++ row ∷ []))

-- a member of a list
abbrev pub IsIn : {A : Type 0} → A → List A → Type 0
IsIn x xs = (i : ℕ) × (slice_get xs i ≡ Some x)

-- an array variable whose byte is asked for has a node
abbrev pub HasArray : List Node → NewNode → Type 0
HasArray nodes (new_one.SelOf f i) = (x : Text) × (slice_get nodes f.number ≡ Some (array_node x))
HasArray nodes node = ⊤

-- ---- numbers

-- whether a node is that of a term, and not of an array term
abbrev pub is_term_node : Node → Bool
is_term_node (array_node f) = false
is_term_node (upd_node of i e) = false
is_term_node (splice_node of below i) = false
is_term_node n = true

-- a number that names a term's node
abbrev pub NamesTerm : List Node → ℕ → Type 0
NamesTerm nodes i = (n : Node) × (slice_get nodes i ≡ Some n) × (is_term_node n ≡ true)

-- a number that names an array term's node
abbrev pub NamesArray : List Node → ℕ → Type 0
NamesArray nodes i = (n : Node) × (slice_get nodes i ≡ Some n) × (is_term_node n ≡ false)

-- ---- laws of every list of interned terms

-- a number names a term's node exactly where its term is typed
abbrev pub TypedAreNamed : List Node → Type 0
TypedAreNamed nodes = (i : ℕ) → IsTyped (term_at nodes i) ↔ NamesTerm nodes i

-- the same of array terms
abbrev pub TypedArraysAreNamed : List Node → Type 0
TypedArraysAreNamed nodes = (i : ℕ) → IsTypedArray (array_at nodes i) ↔ NamesArray nodes i

-- equal terms have equal numbers
abbrev pub EqualTermsAreOne : List Node → Type 0
EqualTermsAreOne nodes = (i j : ℕ) → IsTyped (term_at nodes i) → term_at nodes i ≡ term_at nodes j → i ≡ j

-- equal array terms have equal numbers
abbrev pub EqualArraysAreOne : List Node → Type 0
EqualArraysAreOne nodes = (i j : ℕ) → IsTypedArray (array_at nodes i) → array_at nodes i ≡ array_at nodes j → i ≡ j
