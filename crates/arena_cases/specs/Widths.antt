-- Terms whose variables are all 64 bits wide, and variables that are replaced by such ones.
use Rattle.std.specs.Prelude.{◌≡◌, ⊤, List}
use Rattle.term_tree.specs.Terms.{Text, Tree, var, ArrayTree, IsTyped, IsTerm, IsArrayTerm, width_of}
use Rattle.term_tree.specs.Variables.{HasVariables, ArrayHasVariables}
use Rattle.term_arena.specs.declared.node.TermId.{TermId}
use Rattle.term_arena.specs.Nodes.{Node}
use Rattle.term_arena.specs.Answers.{id_term}

-- a term that calls take, whose variables are 64 bits wide
abbrev pub IsWide : Tree → Type 0
IsWide t = IsTerm t × HasVariables (λ x w. w ≡ 64) (λ f. ⊤) t

-- the same of an array term
abbrev pub IsWideArray : ArrayTree → Type 0
IsWideArray f = IsArrayTerm f × ArrayHasVariables (λ x w. w ≡ 64) (λ f. ⊤) f

-- a variable, and a typed term, each of 64 bits
abbrev pub IsWidePair : List Node → TermId × TermId → Type 0
IsWidePair nodes p = (x : Text) × (id_term nodes p.0 ≡ var x 64) × (width_of (id_term nodes p.1) ≡ 64) × IsTyped (id_term nodes p.1)
