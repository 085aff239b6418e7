-- What the calls of interned terms answer.
use Rattle.std.specs.Prelude.{◌≡◌, ◌≢◌, ℕ, ◌<◌, slice_get, List, [], ◌∷◌, Option, Some, None}
use Rattle.bv_bits.specs.declared.Bits.{Bits}
use Rattle.bv_bits.specs.declared.Op.{Op}
use Rattle.term_tree.specs.Terms.{Text, Tree, lit, ArrayTree, array, upd, splice}
use Rattle.term_arena.specs.declared.node.TermId.{TermId}
use Rattle.term_arena.specs.declared.node.ArrayId.{ArrayId}
use Rattle.term_arena.specs.declared.node.ArrayNode.{ArrayNode}
use Rattle.term_arena.specs.declared.node.ArrayNode.TheVariants as array_top
use Rattle.term_arena.specs.declared.node.TermNode.{TermNode}
use Rattle.term_arena.specs.declared.node.TermNode.TheVariants as shown
use Rattle.term_arena.specs.Nodes.{Node, lit_node, var_node, one_node, two_node, three_node, sel_node, array_node, term_at, array_at, Keeps}

-- the bits of a literal
abbrev pub literal_of : Tree → Option Bits
literal_of (lit b) = Some b
literal_of t = None

-- the application of an operator to numbers; operators have one to three arguments
abbrev pub app_node : Op → List TermId → Node
app_node op (a ∷ []) = one_node op a.number
app_node op (a ∷ b ∷ []) = two_node op a.number b.number
app_node op (a ∷ b ∷ c ∷ []) = three_node op a.number b.number c.number
app_node op ids = lit_node (record { width = 0; value = 0 })

-- the node that is shown
abbrev pub node_of : TermNode → Node
node_of (shown.Lit b) = lit_node b
node_of (shown.Var x w) = var_node x.now w
node_of (shown.App op args) = app_node op args.now
node_of (shown.Sel f i) = sel_node f.now i.number

-- the term of a number, in a list of nodes
abbrev pub id_term : List Node → TermId → Tree
id_term nodes id = term_at nodes id.number

-- the array term of a number, in a list of nodes
abbrev pub id_array : List Node → ArrayId → ArrayTree
id_array nodes id = array_at nodes id.number

-- the top of an array term's node, read over any list that keeps this one; its array terms stand before it
abbrev pub IsArrayTop : List Node → ArrayId → ArrayNode → Type 0
IsArrayTop nodes id array_top.Var = (x : Text) × (slice_get nodes id.number ≡ Some (array_node x)) × ((last : List Node) → Keeps nodes last → id_array last id ≡ array x)
IsArrayTop nodes id (array_top.Upd f i e) =
    ((last : List Node) → Keeps nodes last → id_array last id ≡ upd (id_array last f) (id_term last i) (id_term last e)) × (f.number < id.number) × (i.number < id.number) × (e.number < id.number)
IsArrayTop nodes id (array_top.Splice f g i) =
    ((last : List Node) → Keeps nodes last → id_array last id ≡ splice (id_array last f) (id_array last g) (id_term last i)) × (f.number < id.number) × (g.number < id.number) × (i.number < id.number)

-- the number of an array variable's node, and none where it has none
abbrev pub FindsArray : List Node → Text → Option ArrayId → Type 0
FindsArray nodes f (Some a) = id_array nodes a ≡ array f
FindsArray nodes f None = (n : ℕ) → array_at nodes n ≢ array f
