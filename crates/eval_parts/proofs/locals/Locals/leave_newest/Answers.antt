use Rattle.std.proofs.Common.{◌≡◌, ◌∷◌, reverse, sym, ap, ◌∙◌, subst}
use Rattle.std.specs.Prelude.{IsSome}
use Rattle.type_names.specs.Newest.{newest_at}
use Rattle.eval_parts.specs.Newest.{newest_place, AreChained}
use Rattle.eval_parts.proofs.NewestLemmas.{newest_first, newest_there, left}
use Rattle.eval_parts.proofs.locals.Locals.leave_newest.Goals as goal

pub reset_newest-requires : goal.reset_newest-requires
reset_newest-requires c =
    let first : reverse c.self.inside.locals.items ≡ c.in-Some.kept ∷ reverse c.pop.new.self.items =
    newest_first c.self.inside.locals.items c.pop.new.self.items c.in-Some.kept c.in-Some.ensures.items in
    record {
      is_there = subst IsSome (sym (c.self.invariant.0 c.in-Some.kept.name.now ∙ ap (newest_place c.in-Some.kept.name.now) first))
          (newest_there c.in-Some.kept (reverse c.pop.new.self.items));
    }

pub invariant_of-self : goal.invariant_of-self
invariant_of-self c =
    let first : reverse c.self.inside.locals.items ≡ c.in-Some.kept ∷ reverse c.pop.new.self.items =
    newest_first c.self.inside.locals.items c.pop.new.self.items c.in-Some.kept c.in-Some.ensures.items in
    let chained : AreChained (c.in-Some.kept ∷ reverse c.pop.new.self.items) = subst AreChained first c.self.invariant.1 in (
      left (λ x. newest_at x c.self.inside.newest) (λ x. newest_at x c.reset_newest.new.newest) c.in-Some.kept (reverse c.pop.new.self.items)
          (λ x. c.self.invariant.0 x ∙ ap (newest_place x) first) chained c.reset_newest.ensures,
      chained.1,
    )
