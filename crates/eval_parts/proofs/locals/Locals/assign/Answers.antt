use Rattle.std.proofs.Common.{◌≡◌, ◌<◌, Some, None, length, reverse, sym, ap, ◌∙◌, arith}
use Rattle.std.proofs.lemmas.List.{length-reverse}
use Rattle.sail_values.specs.Slots.{put, has}
use Rattle.sail_values.specs.declared.value.Local.TheVariants.{Is}
use Rattle.eval_parts.specs.Newest.{newest_place}
use Rattle.eval_parts.proofs.NewestLemmas.{found_within, put_in_items, not_put}
use Rattle.eval_parts.proofs.locals.Locals.assign.Goals as goal

pub index_mut-requires : goal.index_mut-requires
index_mut-requires c =
    let items = c.self.inside.locals.items in
    let at : newest_place c.args.name.now (reverse items) ≡ Some c.in-Some.place = sym (c.self.invariant.0 c.args.name.now) ∙ sym c.newest_of.ensures ∙ c.in-Some.is in
    let b : c.in-Some.place < length (reverse items) = found_within c.args.name.now (reverse items) c.in-Some.place at in
    omega (arith, length-reverse items)

pub invariant_of-self : goal.invariant_of-self
invariant_of-self c =
    let items = c.self.inside.locals.items in
    let at : newest_place c.args.name.now (reverse items) ≡ Some c.in-Some.place = sym (c.self.invariant.0 c.args.name.now) ∙ sym c.newest_of.ensures ∙ c.in-Some.is in
    let h = put_in_items c.args.name.now (Is c.args.value) items c.in-Some.place c.index_mut.result.now at c.index_mut.ensures.value in
    (λ x. c.self.invariant.0 x ∙ sym (h.places x), h.chained c.self.invariant.1)

pub returns-in-Some-clause-written : goal.returns-in-Some-clause-written
returns-in-Some-clause-written c =
    let items = c.self.inside.locals.items in
    let at : newest_place c.args.name.now (reverse items) ≡ Some c.in-Some.place = sym (c.self.invariant.0 c.args.name.now) ∙ sym c.newest_of.ensures ∙ c.in-Some.is in
    let h = put_in_items c.args.name.now (Is c.args.value) items c.in-Some.place c.index_mut.result.now at c.index_mut.ensures.value in
    h.written ∙ ap (put c.args.name.now (Is c.args.value)) c.self.view_is

pub returns-in-Some-clause-found : goal.returns-in-Some-clause-found
returns-in-Some-clause-found c =
    let items = c.self.inside.locals.items in
    let at : newest_place c.args.name.now (reverse items) ≡ Some c.in-Some.place = sym (c.self.invariant.0 c.args.name.now) ∙ sym c.newest_of.ensures ∙ c.in-Some.is in
    let h = put_in_items c.args.name.now (Is c.args.value) items c.in-Some.place c.index_mut.result.now at c.index_mut.ensures.value in
    sym h.there ∙ ap (has c.args.name.now) c.self.view_is

pub returns-in-None-clause-written : goal.returns-in-None-clause-written
returns-in-None-clause-written c =
    let items = c.self.inside.locals.items in
    let at : newest_place c.args.name.now (reverse items) ≡ None = sym (c.self.invariant.0 c.args.name.now) ∙ sym c.newest_of.ensures ∙ c.in-None.is in
    sym c.self.view_is ∙ sym (not_put c.args.name.now (Is c.args.value) (reverse items) at).0 ∙ ap (put c.args.name.now (Is c.args.value)) c.self.view_is

pub returns-in-None-clause-found : goal.returns-in-None-clause-found
returns-in-None-clause-found c =
    let items = c.self.inside.locals.items in
    let at : newest_place c.args.name.now (reverse items) ≡ None = sym (c.self.invariant.0 c.args.name.now) ∙ sym c.newest_of.ensures ∙ c.in-None.is in
    sym (not_put c.args.name.now (Is c.args.value) (reverse items) at).1 ∙ ap (has c.args.name.now) c.self.view_is
