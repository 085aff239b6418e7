-- The tree of an evaluation of which only the opcode and some registers are known, by cases on the expression, as its meaning is; and the trace of an opcode.
use Rattle.std.specs.Prelude.{ℕ, zero, suc, ◌+◌, ◌-◌, List, [], ◌∷◌, ◌++◌, map, length, reverse, Option, Some, None, nat_eq, if◌then◌else◌}
use Rattle.bv_bits.specs.declared.Bits.{Bits}
use Rattle.bv_bits.specs.Bits.{bit}
use Rattle.lex_core.specs.declared.name.RegDecl.{RegDecl}
use Rattle.sail_syntax.specs.Tree.{Text, Tree, node, Form, unit, lit, truth, name, chain, flip, slice, update, call, widen, choose, when, cases, foreach, check, exit, assign, block, Trees, none, some, arm, Cases, no_case, case, Step, binds, holds, does, Steps, done, next}
use Rattle.sail_syntax.specs.Program.{Definition, order, register, enumeration, signature, function, registers_of}
use Rattle.sail_syntax.specs.declared.tree.Infix.{Infix}
use Rattle.sail_syntax.specs.declared.tree.Index.{Index}
use Rattle.sail_syntax.specs.declared.patterns.Pattern.{Pattern}
use Rattle.sail_syntax.specs.declared.types.Param.{Param}
use Rattle.term_tree.specs.Terms as term
use Rattle.term_rules.specs.Shapes.{literal_of}
use Rattle.term_arena.specs.Said.{Said, said_then, said_just, single}
use Rattle.trace_plain.specs.Trace.{Trace, need}
use Rattle.trace_plain.specs.declared.trace.FailKind.TheVariants as failure
use Rattle.sail_names.specs.declared.things.Named.{Named}
use Rattle.sail_names.specs.declared.things.Thing.{Thing}
use Rattle.sail_names.specs.declared.things.Thing.TheVariants as thing
use Rattle.sail_names.specs.Things.{find_thing, things_of}
use Rattle.sym_rules.specs.Values.{SymValue, sym_unit, sym_truth, sym_bits, sym_member, SymLocal, sym_is, sym_counts, SymSlot, SymPath, SymSetting}
use Rattle.sym_rules.specs.Trees.{SymTree, leaf, on, onto, Leaf, SymMeaning, sym_pure, sym_bind, sym_fails, sym_within, with_locals, told, fork, traced, counted, TooLarge}
use Rattle.sym_rules.specs.Operators.{sym_nth, known_truth, as_bits, sym_flipped, sym_widened, sym_applied, unless_decided, sym_choose}
use Rattle.sym_rules.specs.Parts.{sym_index, sym_sliced, sym_updated, condition, sym_pattern_bound}
use Rattle.sym_rules.specs.Names.{sym_read, sym_write}
use Rattle.sym_rules.specs.Prelude.{sym_given}
use Rattle.sym_rules.specs.declared.limits.TheConstants.{EVENT_LIMIT}

-- ---- small steps

-- the bits of a value, with the foreach variables as they are now
abbrev pub sym_slice_now : Index → Index → SymValue → SymMeaning SymValue
sym_slice_now hi lo v = λ p. told (sym_sliced v (sym_index hi p.locals) (sym_index lo p.locals)) p

-- the bits of a value replaced, in the same way
abbrev pub sym_update_now : Index → Index → SymValue → SymValue → SymMeaning SymValue
sym_update_now hi lo v by = λ p. told (sym_updated v (sym_index hi p.locals) (sym_index lo p.locals) by) p

-- a new local
abbrev pub sym_define : Text → SymLocal → SymMeaning SymValue
sym_define x v = λ p. leaf (record { value = sym_unit; path = with_locals (record { name = x; local = v } ∷ p.locals) p })

-- these are the locals from here on
abbrev pub sets : List SymSlot → SymMeaning SymValue
sets locals = λ p. leaf (record { value = sym_unit; path = with_locals locals p })

-- the names that a pattern binds
abbrev pub sym_enter : List Named → Pattern → SymValue → SymMeaning SymValue
sym_enter things pattern v = λ p. sym_bind (told (sym_pattern_bound things pattern v p.locals)) (λ locals. sets locals) p

-- a term that has to be 1
abbrev pub needs : term.Tree → SymMeaning SymValue
needs t = λ p. on (need t) (leaf (record { value = sym_unit; path = p }))

-- a bit that has to be 1, where it is a literal or isn't
abbrev pub asserted_bit : Option Bits → term.Tree → SymMeaning SymValue
asserted_bit (Some b) t = if nat_eq b.value 1 then sym_pure sym_unit else sym_fails failure.Assert
asserted_bit None t = needs t

-- a value that has to be the true bool
abbrev pub asserted : SymValue → SymMeaning SymValue
asserted (sym_truth t) = asserted_bit (literal_of t) t
asserted sym_unit = sym_fails failure.Assert
asserted (sym_bits t) = sym_fails failure.Assert
asserted (sym_member e i) = sym_fails failure.Assert

-- what the functions of the text do with arguments, each by the number of its definition
abbrev pub SymCalls : Type 0
SymCalls = ℕ → List SymValue → SymMeaning SymValue

-- a call of what a name stands for
abbrev pub sym_called : SymCalls → Option Thing → List SymValue → SymMeaning SymValue
sym_called calls (Some (thing.Function i)) vs = calls i vs
sym_called calls (Some (thing.Given g)) vs = sym_given g vs
sym_called calls (Some (thing.Register r)) vs = sym_pure sym_unit
sym_called calls (Some (thing.Member e i)) vs = sym_pure sym_unit
sym_called calls None vs = sym_pure sym_unit

-- the body for each of n numbers from i on
abbrev pub sym_turns : ℕ → ℕ → (ℕ → SymMeaning SymValue) → SymMeaning SymValue
sym_turns zero i body = sym_pure sym_unit
sym_turns (suc n) i body = sym_bind (body i) (λ _. sym_turns n (i + 1) body)

-- the body with the foreach variable at a number
abbrev pub sym_counted : Text → SymMeaning SymValue → ℕ → SymMeaning SymValue
sym_counted x body i = sym_within (sym_bind (sym_define x (sym_counts i)) (λ _. body))

-- ---- expressions

module _ (here : SymSetting) (calls : SymCalls) where
  abbrev mutual
    -- an expression
    pub sym : Tree → SymMeaning SymValue
    sym (node at form) = sym_form form

    -- what an expression is
    pub sym_form : Form → SymMeaning SymValue
    sym_form unit = sym_pure sym_unit
    sym_form (lit b) = told (as_bits (single (term.lit b)))
    sym_form (truth b) = told (known_truth b)
    sym_form (name x) = sym_read here x
    sym_form (chain op parts) = sym_chain parts op
    sym_form (flip of) = sym_bind (sym of) (λ v. told (sym_flipped v))
    sym_form (slice of hi lo) = sym_bind (sym of) (λ v. sym_slice_now hi lo v)
    sym_form (update of hi lo by) = sym_bind (sym of) (λ v. sym_bind (sym by) (λ u. sym_update_now hi lo v u))
    sym_form (call f args) = sym_bind (sym_all args []) (λ vs. sym_called calls (find_thing f here.things) vs)
    sym_form (widen signed to of) = sym_bind (sym of) (λ v. told (sym_widened signed to v))
    sym_form (choose test one other) = sym_bind (sym test) (λ v. sym_choose v (sym one) (sym other))
    sym_form (when test one) = sym_bind (sym test) (λ v. sym_choose v (sym one) (sym_pure sym_unit))
    sym_form (cases of arms) = sym_bind (sym of) (λ v. sym_arms arms v)
    sym_form (foreach x from to body) = sym_turns (to + 1 - from) from (sym_counted x (sym body))
    sym_form (check test text) = sym_bind (sym test) (λ v. asserted v)
    sym_form exit = sym_fails failure.Exit
    sym_form (assign x by) = sym_bind (sym by) (λ v. sym_write here x v)
    sym_form (block steps) = sym_within (sym_steps steps sym_unit)

    -- a chain, from the left
    pub sym_chain : Trees → Infix → SymMeaning SymValue
    sym_chain none op = sym_pure sym_unit
    sym_chain (some t rest) op = sym_bind (sym t) (λ v. sym_rest rest op v)

    -- the rest of a chain, after the value so far
    pub sym_rest : Trees → Infix → SymValue → SymMeaning SymValue
    sym_rest none op v = sym_pure v
    sym_rest (some t rest) op v = unless_decided op v (sym_bind (sym t) (λ u. sym_bind (told (sym_applied op v u)) (λ w. sym_rest rest op w)))

    -- arguments, after the values so far
    pub sym_all : Trees → List SymValue → SymMeaning (List SymValue)
    sym_all none vs = sym_pure vs
    sym_all (some t rest) vs = sym_bind (sym t) (λ v. sym_all rest (vs ++ v ∷ []))

    -- the first arm that fits: each that may fit is tried before the next one
    pub sym_arms : Cases → SymValue → SymMeaning SymValue
    sym_arms no_case v = sym_fails failure.Match
    sym_arms (case (arm p body) rest) v =
        sym_bind (told (condition here.things p v)) (λ t. fork t (sym_within (sym_bind (sym_enter here.things p v) (λ _. sym body))) (sym_arms rest v))

    -- a statement
    pub sym_step : Step → SymMeaning SymValue
    sym_step (binds x ty by) = sym_bind (sym by) (λ v. sym_define x (sym_is v))
    sym_step (holds x ty by) = sym_bind (sym by) (λ v. sym_define x (sym_is v))
    sym_step (does e) = sym e

    -- statements, which have the last one's value
    pub sym_steps : Steps → SymValue → SymMeaning SymValue
    sym_steps done v = sym_pure v
    sym_steps (next s rest) v = sym_bind (sym_step s) (λ u. sym_steps rest u)

-- ---- the functions of a text

-- the parameters as locals
abbrev pub sym_bound : List Param → List SymValue → ℕ → List SymSlot → List SymSlot
sym_bound [] vs i locals = locals
sym_bound (p ∷ ps) vs i locals = sym_bound ps vs (i + 1) (record { name = p.name; local = sym_is (sym_nth i vs) } ∷ locals)

-- the caller's locals stand
abbrev pub leaf_restored : List SymSlot → Leaf SymValue → SymTree (Leaf SymValue)
leaf_restored locals l = leaf (record l { path = with_locals locals l.path })

-- a call of a function, where those functions stand above it
abbrev pub sym_entered : SymSetting → SymCalls → List Param → Tree → List SymValue → SymMeaning SymValue
sym_entered here above params body vs = λ p. onto (sym here above body (with_locals (sym_bound params vs 0 []) p)) (leaf_restored p.locals)

-- a function is called by the number of its definition, and calls those above it: from the definitions, the last one first
abbrev pub sym_calls : SymSetting → List Definition → SymCalls
sym_calls here [] i vs = sym_pure sym_unit
sym_calls here (order ∷ earlier) i vs = sym_calls here earlier i vs
sym_calls here (register x width at ∷ earlier) i vs = sym_calls here earlier i vs
sym_calls here (enumeration x members at ∷ earlier) i vs = sym_calls here earlier i vs
sym_calls here (signature x args result at ∷ earlier) i vs = sym_calls here earlier i vs
sym_calls here (function d ∷ earlier) i vs =
    if nat_eq i (length earlier) then sym_entered here (sym_calls here earlier) d.params d.body vs else sym_calls here earlier i vs

-- ---- the trace of an opcode

-- how wide a register is
abbrev pub register_width : RegDecl → ℕ
register_width r = r.width

-- what the symbolic evaluation of a text needs, where these registers have assumed values
abbrev pub sym_setting : List Definition → List (ℕ × Bits) → SymSetting
sym_setting defs given = record { things = things_of defs; widths = map register_width (registers_of defs); given = given }

-- a path at its beginning
abbrev pub fresh_path : SymPath
fresh_path = record { locals = []; known = []; count = 0 }

-- the tree of a call of a name of a text at a bit vector
abbrev pub sym_of : List Definition → List (ℕ × Bits) → Text → Bits → SymTree (Leaf SymValue)
sym_of defs given f b =
    sym_bind (told (as_bits (single (term.lit b))))
    (λ v. sym_called (sym_calls (sym_setting defs given) (reverse defs)) (find_thing f (things_of defs)) (v ∷ [])) fresh_path

-- its trace
abbrev pub trace_of : List Definition → List (ℕ × Bits) → Text → Bits → Trace
trace_of defs given f b = traced (sym_of defs given f b)

-- the trace where it is within the limit, with the terms that are named or made
abbrev pub traced_call : List Definition → List (ℕ × Bits) → Text → Bits → Said TooLarge Trace
traced_call defs given f b = said_then (counted (sym_of defs given f b) EVENT_LIMIT) (λ c. said_just c.0)
