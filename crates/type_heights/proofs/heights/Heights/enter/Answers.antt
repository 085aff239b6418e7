use Rattle.std.proofs.Common.{◌≤◌, List, length, sym, subst, arith}
use Rattle.sail_syntax.specs.View.{tree}
use Rattle.type_rules.specs.Heights.{deepest}
use Rattle.type_heights.specs.declared.heights.HeightRef.{HeightRef}
use Rattle.type_heights.specs.Table.{heights_of, IsFiled}
use Rattle.type_heights.proofs.HeightLemmas.{bounded, as_many, entered_filed}
use Rattle.type_heights.proofs.heights.Heights.enter.Goals as goal

pub overflow_add-calls : goal.overflow_add-calls
overflow_add-calls c =
    let is : IsFiled c.self.inside.newest c.args.self.now = subst (IsFiled c.self.inside.newest) c.self.view_is c.self.invariant in
    let below : deepest c.args.self.now (tree c.args.body.now) ≤ length c.args.self.now = bounded c.self.inside.newest c.args.self.now (tree c.args.body.now) is in
    omega (arith, c.deepest-calls.ensures.exact, below, as_many c.self.inside.heights.items c.args.self.now c.self.view_is, c.self.inside.heights.small, c.self.inside.heights.ok)

pub invariant_of-self-2 : goal.invariant_of-self-2
invariant_of-self-2 c =
    let is : IsFiled c.self.inside.newest c.args.self.now = subst (IsFiled c.self.inside.newest) c.self.view_is c.self.invariant in
    let below : deepest c.args.self.now (tree c.args.body.now) ≤ length c.args.self.now = bounded c.self.inside.newest c.args.self.now (tree c.args.body.now) is in
    subst (λ (xs : List HeightRef). IsFiled c.file.new.newest (heights_of xs)) (sym c.in_ok-file.ensures.listed)
    (entered_filed c.self.inside.heights.items c.self.inside.newest c.file.new.newest c.args.self.now _ c.self.view_is is
    (omega (arith, below, c.deepest-calls.ensures.exact)) c.in_ok-file.ensures.found)
