use Rattle.std.proofs.Common.{arith, subst, ◌-◌, ◌+◌, ◌∙◌, true, false, []}
use Rattle.sail_syntax.specs.View.{program_of}
use Rattle.machine_run.specs.Machine.{step}
use Rattle.machine_run.specs.Program.{machine_of}
use Rattle.constants_walk.specs.Conditions.{constants_of}
use Rattle.constants_walk.specs.Walk.{IsStepped}
use Rattle.machine_safe.proofs.Safety.{walk_fails}
use Rattle.constants_walk.proofs.Walking.{is_out, is_at, ends_left, ends_outside, ends_touches, ends_fails, never_else, goes_on}
use Rattle.constants_walk.proofs.walk.walk_on.Goals as goal

pub returns-then-not-is_in-clause-walked : goal.returns-then-not-is_in-clause-walked
returns-then-not-is_in-clause-walked c =
    ends_left (machine_of (program_of c.args.typed.now)) (constants_of c.args.given.now c.args.code.now) _ c.loop-alloc.count c.loop-alloc.last (c.args.most - c.loop-alloc.count) c.pc_value-pc.result c.loop-alloc.world _ c.loop-alloc.invariant.rest
    (is_out (machine_of (program_of c.args.typed.now)) (constants_of c.args.given.now c.args.code.now) c.pc_value-pc.result c.loop-alloc.world c.is_in.result c.pc_value-pc.ensures c.is_in.ensures (let h = c.if-not-is_in.true in cc))

pub returns-then-not-has_word-clause-walked : goal.returns-then-not-has_word-clause-walked
returns-then-not-has_word-clause-walked c =
    ends_outside (machine_of (program_of c.args.typed.now)) (constants_of c.args.given.now c.args.code.now) _ c.loop-alloc.count c.loop-alloc.last (c.args.most - c.loop-alloc.count) c.pc_value-pc.result c.loop-alloc.world c.loop-alloc.invariant.rest
    (is_at (machine_of (program_of c.args.typed.now)) (constants_of c.args.given.now c.args.code.now) c.pc_value-pc.result c.loop-alloc.world c.has_short-short.result c.is_in.result c.has_word.result false c.pc_value-pc.ensures c.has_short-short.ensures c.is_in.ensures
    (let h = c.if-not-is_in.false in cc) c.has_word.ensures (let h = c.if-not-has_word.true in cc))

pub returns-in-Touched-clause-walked : goal.returns-in-Touched-clause-walked
returns-in-Touched-clause-walked c =
    ends_touches (machine_of (program_of c.args.typed.now)) (constants_of c.args.given.now c.args.code.now) _ c.loop-alloc.count c.loop-alloc.last (c.args.most - c.loop-alloc.count) (c.args.most - (c.loop-alloc.count + 1)) c.pc_value-pc.result c.loop-alloc.world c.step_on.new.world c.loop-alloc.invariant.rest
    (let e = c.if-count-most.false in let few = c.loop-alloc.invariant.few in omega (arith, e, few))
    (is_at (machine_of (program_of c.args.typed.now)) (constants_of c.args.given.now c.args.code.now) c.pc_value-pc.result c.loop-alloc.world c.has_short-short.result c.is_in.result c.has_word.result true c.pc_value-pc.ensures c.has_short-short.ensures c.is_in.ensures
    (let h = c.if-not-is_in.false in cc) c.has_word.ensures (let h = c.if-not-has_word.false in cc))
    (subst (λ k. IsStepped k c.loop-alloc.world (step (machine_of (program_of c.args.typed.now)) [] c.loop-alloc.world) c.step_on.new.world) c.in-Touched.is c.in_ok-step_on.ensures.value)

pub returns-in-Failed-clause-walked : goal.returns-in-Failed-clause-walked
returns-in-Failed-clause-walked c =
    ends_fails (machine_of (program_of c.args.typed.now)) (constants_of c.args.given.now c.args.code.now) _ c.loop-alloc.count c.loop-alloc.last (c.args.most - c.loop-alloc.count) (c.args.most - (c.loop-alloc.count + 1)) c.pc_value-pc.result c.loop-alloc.world c.step_on.new.world
    c.in-Failed.failure c.loop-alloc.invariant.rest
    (let e = c.if-count-most.false in let few = c.loop-alloc.invariant.few in omega (arith, e, few))
    (is_at (machine_of (program_of c.args.typed.now)) (constants_of c.args.given.now c.args.code.now) c.pc_value-pc.result c.loop-alloc.world c.has_short-short.result c.is_in.result c.has_word.result true c.pc_value-pc.ensures c.has_short-short.ensures c.is_in.ensures
    (let h = c.if-not-is_in.false in cc) c.has_word.ensures (let h = c.if-not-has_word.false in cc))
    (subst (λ k. IsStepped k c.loop-alloc.world (step (machine_of (program_of c.args.typed.now)) [] c.loop-alloc.world) c.step_on.new.world) c.in-Failed.is c.in_ok-step_on.ensures.value)

pub unreachable-requires : goal.unreachable-requires
unreachable-requires c =
    never_else (machine_of (program_of c.args.typed.now)) (constants_of c.args.given.now c.args.code.now) _ c.loop-alloc.count c.loop-alloc.last (c.args.most - c.loop-alloc.count) (c.args.most - (c.loop-alloc.count + 1)) c.pc_value-pc.result c.loop-alloc.world c.step_on.new.world
    (λ e is. walk_fails (program_of c.args.typed.now) (constants_of c.args.given.now c.args.code.now) 0 c.args.given.now.entry_at c.args.most c.pc_value-pc.result c.args.world.now c.step_on.new.world e c.requires.there
    (let size = c.requires.size in omega (arith, size)) is)
    c.loop-alloc.invariant.rest
    (let e = c.if-count-most.false in let few = c.loop-alloc.invariant.few in omega (arith, e, few))
    (is_at (machine_of (program_of c.args.typed.now)) (constants_of c.args.given.now c.args.code.now) c.pc_value-pc.result c.loop-alloc.world c.has_short-short.result c.is_in.result c.has_word.result true c.pc_value-pc.ensures c.has_short-short.ensures c.is_in.ensures
    (let h = c.if-not-is_in.false in cc) c.has_word.ensures (let h = c.if-not-has_word.false in cc))
    (subst (λ k. IsStepped k c.loop-alloc.world (step (machine_of (program_of c.args.typed.now)) [] c.loop-alloc.world) c.step_on.new.world) c.in-Halted.is c.in_ok-step_on.ensures.value)

pub loop-alloc-preserved : goal.loop-alloc-preserved
loop-alloc-preserved c = record {
  widths = c.step_on.ensures.widths ∙ c.loop-alloc.invariant.widths;
  few = let e = c.if-count-most.false in let few = c.loop-alloc.invariant.few in omega (arith, e, few);
  rest = goes_on (machine_of (program_of c.args.typed.now)) (constants_of c.args.given.now c.args.code.now) _ c.loop-alloc.count c.loop-alloc.last (c.args.most - c.loop-alloc.count) (c.args.most - (c.loop-alloc.count + 1)) c.pc_value-pc.result c.loop-alloc.world c.step_on.new.world c.loop-alloc.invariant.rest
      (let e = c.if-count-most.false in let few = c.loop-alloc.invariant.few in omega (arith, e, few))
      (is_at (machine_of (program_of c.args.typed.now)) (constants_of c.args.given.now c.args.code.now) c.pc_value-pc.result c.loop-alloc.world c.has_short-short.result c.is_in.result c.has_word.result true c.pc_value-pc.ensures c.has_short-short.ensures c.is_in.ensures
      (let h = c.if-not-is_in.false in cc) c.has_word.ensures (let h = c.if-not-has_word.false in cc))
      (subst (λ k. IsStepped k c.loop-alloc.world (step (machine_of (program_of c.args.typed.now)) [] c.loop-alloc.world) c.step_on.new.world) c.in-Whole.is c.in_ok-step_on.ensures.value);
}
