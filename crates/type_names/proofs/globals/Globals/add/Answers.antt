use Rattle.std.proofs.Common.{◌≡◌, ◌++◌, List, [], ◌∷◌, length, get_or, sym, ap, ◌∙◌, rules}
use Rattle.std.proofs.lemmas.List.{get_or_push}
use Rattle.type_rules.specs.declared.scope.Entry.{Entry}
use Rattle.type_names.specs.Places.{first_place, or_place, place_for}
use Rattle.type_names.proofs.PlaceLemmas.{first_behind}
use Rattle.type_names.proofs.globals.Globals.add.Goals as goal

pub invariant_of-self-in-Ok : goal.invariant_of-self-in-Ok
invariant_of-self-in-Ok c =
    let entries = c.self.inside.entries.items in
    let entry : Entry = record { name = c.args.name; item = c.args.item } in
    let more : c.push.new.self.items ≡ entries ++ entry ∷ [] = c.in_ok-push.ensures.items in
    let place : c.len-place.result ≡ length entries = search rules in
    let there : c.index.result.now ≡ entry =
    c.index.ensures ∙ ap (λ (es : List Entry). get_or es c.len-place.result c.index.result.now) more ∙ get_or_push entries entry c.index.result.now c.len-place.result (sym place) in
    let name : c.bytes-name.result.now ≡ c.args.name = c.bytes-name.ensures ∙ ap (λ (e : Entry). e.name) there in
    λ x. c.in-Ok.ensures.kept x
    ∙ ap (λ o. or_place o (place_for c.bytes-name.result.now c.len-place.result x)) (c.self.invariant x)
    ∙ ap (λ n. or_place (first_place x entries) (place_for n c.len-place.result x)) name
    ∙ ap (λ p. or_place (first_place x entries) (place_for c.args.name p x)) place
    ∙ sym (first_behind x entries entry)
    ∙ ap (first_place x) (sym more)
