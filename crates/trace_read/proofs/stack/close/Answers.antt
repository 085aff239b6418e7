use Rattle.std.proofs.Common.{◌≡◌, ◌≤◌, length, sym, ap, subst, arith}
use Rattle.std.specs.Prelude.{OnOk}
use Rattle.trace_plain.specs.View.{trace_of}
use Rattle.term_words.specs.Scopes.{Scope}
use Rattle.trace_read.specs.Gathering.{open_view, opens_of, Nest}
use Rattle.trace_read.specs.Readers.{IsPath}
use Rattle.trace_read.proofs.CloseLemmas.{at_first, goes_on, closes_one, all_closed}
use Rattle.trace_read.proofs.stack.close.Goals as goal

pub loop-outer-init : goal.loop-outer-init
loop-outer-init c = at_first c.args.scope.now (opens_of c.args.stack.now) (trace_of c.args.trace) c.requires.nest

pub next_child-requires-clause-path : goal.next_child-requires-clause-path
next_child-requires-clause-path c = subst IsPath (sym c.loop-outer.invariant.same_scope) c.requires.path

pub next_child-requires-clause-nest : goal.next_child-requires-clause-nest
next_child-requires-clause-nest c = subst (Nest (length c.loop-outer.scope)) c.in-Some.ensures c.loop-outer.invariant.nest

pub returns-then-outer-gt0-clause-turn : goal.returns-then-outer-gt0-clause-turn
returns-then-outer-gt0-clause-turn c = goes_on c.args.scope.now c.loop-outer.scope (opens_of c.args.stack.now) (opens_of c.loop-outer.stack) _ _ _ _ c.next_child.result _ _ c.loop-outer.invariant c.in-Some.ensures c.next_child.ensures.turn

pub returns-then-outer-gt0-clause-path : goal.returns-then-outer-gt0-clause-path
returns-then-outer-gt0-clause-path c =
    subst
    (λ (s : Scope). OnOk c.next_child.result (IsPath c.next_child.new.scope × Nest (length c.next_child.new.scope) (opens_of c.next_child.new.stack) × (length c.next_child.new.scope ≤ length s)))
    c.loop-outer.invariant.same_scope c.next_child.ensures.path

pub loop-outer-preserved : goal.loop-outer-preserved
loop-outer-preserved c =
    closes_one c.args.scope.now c.loop-outer.scope (opens_of c.args.stack.now) (opens_of c.loop-outer.stack) (trace_of c.args.trace) (trace_of c.loop-outer.whole) (trace_of c.in_ok-whole.whole)
    (open_view c.in-Some.outer) (opens_of c.pop.new.stack) c.loop-outer.invariant c.in-Some.ensures (omega arith) c.in_ok-whole.ensures

pub returns-clause-turn : goal.returns-clause-turn
returns-clause-turn c =
    all_closed c.args.scope.now c.loop-outer.scope (opens_of c.args.stack.now) (opens_of c.loop-outer.stack) (trace_of c.args.trace) c.loop-outer.whole c.loop-outer.invariant
    c.in_default.ensures.0

pub returns-clause-path : goal.returns-clause-path
returns-clause-path c =
    (subst IsPath (sym c.loop-outer.invariant.same_scope) c.requires.path, subst (Nest (length c.loop-outer.scope)) (sym c.in_default.ensures.1) tt, omega (arith, ap length c.loop-outer.invariant.same_scope))
