-- Kinds of expressions, as the evaluator parts them.
use Rattle.std.specs.Prelude.{Bool, true, false}
use Rattle.sail_syntax.specs.Tree.{Tree, node, unit, lit, truth, name, chain, flip, slice, update, call, widen, choose, when, cases, foreach, check, exit, assign, block}

-- whether an expression chooses or repeats
abbrev pub is_choice : Tree → Bool
is_choice (node at unit) = false
is_choice (node at (lit b)) = false
is_choice (node at (truth b)) = false
is_choice (node at (name x)) = false
is_choice (node at (chain op parts)) = false
is_choice (node at (flip of)) = false
is_choice (node at (slice of hi lo)) = false
is_choice (node at (update of hi lo by)) = false
is_choice (node at (call f args)) = false
is_choice (node at (widen signed to of)) = false
is_choice (node at (choose test one other)) = true
is_choice (node at (when test one)) = true
is_choice (node at (cases on arms)) = true
is_choice (node at (foreach x from to body)) = true
is_choice (node at (check test text)) = false
is_choice (node at exit) = false
is_choice (node at (assign x by)) = false
is_choice (node at (block steps)) = false

-- whether an expression tests, ends, changes something or has statements
abbrev pub is_act : Tree → Bool
is_act (node at unit) = false
is_act (node at (lit b)) = false
is_act (node at (truth b)) = false
is_act (node at (name x)) = false
is_act (node at (chain op parts)) = false
is_act (node at (flip of)) = false
is_act (node at (slice of hi lo)) = false
is_act (node at (update of hi lo by)) = false
is_act (node at (call f args)) = false
is_act (node at (widen signed to of)) = false
is_act (node at (choose test one other)) = false
is_act (node at (when test one)) = false
is_act (node at (cases on arms)) = false
is_act (node at (foreach x from to body)) = false
is_act (node at (check test text)) = true
is_act (node at exit) = true
is_act (node at (assign x by)) = true
is_act (node at (block steps)) = true

-- whether an expression takes bits or makes other bits of them
abbrev pub is_bits : Tree → Bool
is_bits (node at unit) = false
is_bits (node at (lit b)) = false
is_bits (node at (truth b)) = false
is_bits (node at (name x)) = false
is_bits (node at (chain op parts)) = false
is_bits (node at (flip of)) = true
is_bits (node at (slice of hi lo)) = true
is_bits (node at (update of hi lo by)) = true
is_bits (node at (call f args)) = false
is_bits (node at (widen signed to of)) = true
is_bits (node at (choose test one other)) = false
is_bits (node at (when test one)) = false
is_bits (node at (cases on arms)) = false
is_bits (node at (foreach x from to body)) = false
is_bits (node at (check test text)) = false
is_bits (node at exit) = false
is_bits (node at (assign x by)) = false
is_bits (node at (block steps)) = false
