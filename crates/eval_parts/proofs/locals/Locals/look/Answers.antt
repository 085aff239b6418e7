use Rattle.std.proofs.Common.{◌≡◌, ◌<◌, List, Some, None, length, get_or, reverse, sym, ap, ◌∙◌, arith}
use Rattle.std.proofs.lemmas.List.{length-reverse, reverse-reverse}
use Rattle.sail_values.specs.Slots.{look}
use Rattle.eval_parts.specs.declared.locals.Kept.{Kept}
use Rattle.eval_parts.specs.Newest.{newest_place}
use Rattle.eval_parts.proofs.NewestLemmas.{found, found_within, not_found}
use Rattle.eval_parts.proofs.locals.Locals.look.Goals as goal

pub returns-in-Some-get : goal.returns-in-Some-get
returns-in-Some-get c =
    let kept = c.self.inside.locals.items in
    let at : newest_place c.args.name.now (reverse kept) ≡ Some c.in-Some.place = sym (c.self.invariant.0 c.args.name.now) ∙ sym c.newest_of.ensures ∙ c.in-Some.is in
    let there = c.in-Some-get.ensures.lookup.1 ∙ ap (λ (l : List Kept). get_or l c.in-Some.place c.in-Some-get.kept.now) (c.deref.ensures.value ∙ sym (reverse-reverse kept)) in
    ap (λ (k : Kept). Some k.local) there
    ∙ sym (found c.args.name.now (reverse kept) c.in-Some.place c.in-Some-get.kept.now at) ∙ ap (look c.args.name.now) c.self.view_is

pub returns-in-None-get : goal.returns-in-None-get
returns-in-None-get c =
    let kept = c.self.inside.locals.items in
    let at : newest_place c.args.name.now (reverse kept) ≡ Some c.in-Some.place = sym (c.self.invariant.0 c.args.name.now) ∙ sym c.newest_of.ensures ∙ c.in-Some.is in
    let b : c.in-Some.place < length (reverse kept) = found_within c.args.name.now (reverse kept) c.in-Some.place at in
    let n : length c.deref.result.now ≡ length (reverse kept) = ap length c.deref.ensures.value ∙ sym (length-reverse kept) in
    absurd (omega (arith, c.in-None-get.ensures.lookup.3))

pub returns-in-None : goal.returns-in-None
returns-in-None c =
    let kept = c.self.inside.locals.items in
    let at : newest_place c.args.name.now (reverse kept) ≡ None = sym (c.self.invariant.0 c.args.name.now) ∙ sym c.newest_of.ensures ∙ c.in-None.is in
    sym (not_found c.args.name.now (reverse kept) at) ∙ ap (look c.args.name.now) c.self.view_is
