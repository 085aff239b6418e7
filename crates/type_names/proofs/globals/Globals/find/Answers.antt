use Rattle.std.proofs.Common.{◌≡◌, ◌<◌, Some, None, length, get_or, sym, ap, ◌∙◌, arith}
use Rattle.type_rules.specs.Names.{find}
use Rattle.type_rules.specs.declared.scope.Entry.{Entry}
use Rattle.std.specs.Prelude.{List}
use Rattle.type_names.specs.Places.{first_place}
use Rattle.type_names.proofs.PlaceLemmas.{found, found_within, not_found}
use Rattle.type_names.proofs.globals.Globals.find.Goals as goal

pub returns-in-Some-get : goal.returns-in-Some-get
returns-in-Some-get c =
    let at : first_place c.args.name.now c.self.inside.entries.items ≡ Some c.in-Some.place = sym (c.self.invariant c.args.name.now) ∙ sym c.place_of.ensures ∙ c.in-Some.is in
    ap (λ (e : Entry). Some e.item) (c.in-Some-get.ensures.lookup.1 ∙ ap (λ (es : List Entry). get_or es c.in-Some.place c.in-Some-get.entry.now) c.deref.ensures.value)
    ∙ sym (found c.args.name.now c.self.inside.entries.items c.in-Some.place c.in-Some-get.entry.now at) ∙ ap (find c.args.name.now) c.self.view_is

pub returns-in-None-get : goal.returns-in-None-get
returns-in-None-get c =
    let at : first_place c.args.name.now c.self.inside.entries.items ≡ Some c.in-Some.place = sym (c.self.invariant c.args.name.now) ∙ sym c.place_of.ensures ∙ c.in-Some.is in
    let b : c.in-Some.place < length c.self.inside.entries.items = found_within c.args.name.now c.self.inside.entries.items c.in-Some.place at in
    let n : length c.deref.result.now ≡ length c.self.inside.entries.items = ap length c.deref.ensures.value in
    absurd (omega (arith, c.in-None-get.ensures.lookup.3))

pub returns-in-None : goal.returns-in-None
returns-in-None c =
    let at : first_place c.args.name.now c.self.inside.entries.items ≡ None = sym (c.self.invariant c.args.name.now) ∙ sym c.place_of.ensures ∙ c.in-None.is in
    sym (not_found c.args.name.now c.self.inside.entries.items at) ∙ ap (find c.args.name.now) c.self.view_is
