use Rattle.std.proofs.Common.{◌≡◌, ◌≤◌, inl, List, length, map, ap, sym, ◌∙◌, subst, arith}
use Rattle.term_arena.specs.Nodes.{Node, Keeps}
use Rattle.term_arena.specs.declared.keeping.TheConstants.{LIMIT}
use Rattle.term_arena.specs.Arena.{plain, IsKept, asked_node}
use Rattle.term_arena.specs.declared.node.Key.{Key}
use Rattle.std.proofs.lemmas.List.{length-map}
use Rattle.std.proofs.lemmas.Option.{slice_get_within}
use Rattle.term_arena.proofs.MeaningLemmas.{keeps_itself}
use Rattle.term_arena.proofs.AddLemmas.{grown_view, grown_kept, kept_added, view_added, keeps_added, node_added, means_added, not_there}
use Rattle.term_arena.proofs.terms.Terms.add.Goals as goal

view : (c : goal.In-Err) → map (plain c.key_of.new.names) c.self.inside.keys.keys ≡ c.args.self.now
view c = grown_view c.self.inside.names c.self.inside.keys.keys c.self.inside.facts.items c.self.invariant c.args.self.now c.self.view_is c.key_of.new.names c.in-Err.ensures.grows

pub invariant_of-self : goal.invariant_of-self
invariant_of-self c =
    grown_kept c.self.inside.names c.self.inside.keys.keys c.self.inside.facts.items c.self.invariant c.args.self.now c.self.view_is c.key_of.new.names c.in-Err.ensures.grows c.in-Err.ensures.once

pub returns-in-Err-clause-kept : goal.returns-in-Err-clause-kept
returns-in-Err-clause-kept c = subst (Keeps c.args.self.now) (sym (view c)) (keeps_itself c.args.self.now)

pub returns-in-Err-clause-added : goal.returns-in-Err-clause-added
returns-in-Err-clause-added c = inl (view c)

pub returns-in-Err-clause-err : goal.returns-in-Err-clause-err
returns-in-Err-clause-err c = view c

pub invariant_of-self-in-Err-keep : goal.invariant_of-self-in-Err-keep
invariant_of-self-in-Err-keep c =
    let v : map (plain c.key_of.new.names) c.self.inside.keys.keys ≡ c.args.self.now = grown_view c.self.inside.names c.self.inside.keys.keys c.self.inside.facts.items c.self.invariant c.args.self.now c.self.view_is c.key_of.new.names c.in-Ok.ensures.grows in
    let k : IsKept c.key_of.new.names c.self.inside.keys.keys c.self.inside.facts.items = grown_kept c.self.inside.names c.self.inside.keys.keys c.self.inside.facts.items c.self.invariant c.args.self.now c.self.view_is c.key_of.new.names c.in-Ok.ensures.grows c.in-Ok.ensures.once in
    let e = c.in-Err-keep.ensures.err in
    subst (λ (l : List Key). IsKept c.key_of.new.names l c.keep.new.facts.items) (sym e.0) (subst (IsKept c.key_of.new.names c.self.inside.keys.keys) (sym e.1) k)

pub returns-in-Err-keep-clause-err : goal.returns-in-Err-keep-clause-err
returns-in-Err-keep-clause-err c =
    let v : map (plain c.key_of.new.names) c.self.inside.keys.keys ≡ c.args.self.now = grown_view c.self.inside.names c.self.inside.keys.keys c.self.inside.facts.items c.self.invariant c.args.self.now c.self.view_is c.key_of.new.names c.in-Ok.ensures.grows in
    let k : IsKept c.key_of.new.names c.self.inside.keys.keys c.self.inside.facts.items = grown_kept c.self.inside.names c.self.inside.keys.keys c.self.inside.facts.items c.self.invariant c.args.self.now c.self.view_is c.key_of.new.names c.in-Ok.ensures.grows c.in-Ok.ensures.once in
    ap (map (plain c.key_of.new.names)) c.in-Err-keep.ensures.err.0 ∙ v

pub returns-in-Err-keep-clause-kept : goal.returns-in-Err-keep-clause-kept
returns-in-Err-keep-clause-kept c = subst (Keeps c.args.self.now) (sym (returns-in-Err-keep-clause-err c)) (keeps_itself c.args.self.now)

pub returns-in-Err-keep-clause-added : goal.returns-in-Err-keep-clause-added
returns-in-Err-keep-clause-added c = inl (returns-in-Err-keep-clause-err c)

pub returns-in-Err-keep-clause-full : goal.returns-in-Err-keep-clause-full
returns-in-Err-keep-clause-full c h =
    let v : map (plain c.key_of.new.names) c.self.inside.keys.keys ≡ c.args.self.now = grown_view c.self.inside.names c.self.inside.keys.keys c.self.inside.facts.items c.self.invariant c.args.self.now c.self.view_is c.key_of.new.names c.in-Ok.ensures.grows in
    let k : IsKept c.key_of.new.names c.self.inside.keys.keys c.self.inside.facts.items = grown_kept c.self.inside.names c.self.inside.keys.keys c.self.inside.facts.items c.self.invariant c.args.self.now c.self.view_is c.key_of.new.names c.in-Ok.ensures.grows c.in-Ok.ensures.once in
    let is = c.in-Ok.ensures.key ∙ ap (λ (l : List Node). asked_node l c.args.node) c.self.view_is in
    let f = c.in-Err-keep.ensures.full h in
    (ap length (sym v) ∙ length-map c.self.inside.keys.keys (plain c.key_of.new.names) ∙ f.0, not_there c.key_of.new.names c.self.inside.keys.keys c.self.inside.facts.items k c.args.self.now v c.in-Ok.key (asked_node c.args.self.now c.args.node) is c.in-Ok.ensures.named c.requires.typed (record { width = c.width_of_new-width.result; height = c.height_of_new-height.result; args = c.arguments.result }) f.1)

pub overflow_cast-result : goal.overflow_cast-result
overflow_cast-result c =
    let small : length c.keep.new.keys.keys ≤ LIMIT = c.in-Ok-keep.ensures.small (let b = c.self.invariant.arena.small in omega (arith, b, length-map c.self.inside.keys.keys (plain c.self.inside.names))) in
    let lt = slice_get_within c.keep.new.keys.keys c.in-Ok-keep.place c.in-Ok.key c.in-Ok-keep.ensures.stored in
    omega (arith, small, lt)

pub invariant_of-self-2 : goal.invariant_of-self-2
invariant_of-self-2 c =
    let v : map (plain c.key_of.new.names) c.self.inside.keys.keys ≡ c.args.self.now = grown_view c.self.inside.names c.self.inside.keys.keys c.self.inside.facts.items c.self.invariant c.args.self.now c.self.view_is c.key_of.new.names c.in-Ok.ensures.grows in
    let k : IsKept c.key_of.new.names c.self.inside.keys.keys c.self.inside.facts.items = grown_kept c.self.inside.names c.self.inside.keys.keys c.self.inside.facts.items c.self.invariant c.args.self.now c.self.view_is c.key_of.new.names c.in-Ok.ensures.grows c.in-Ok.ensures.once in
    let is = c.in-Ok.ensures.key ∙ ap (λ (l : List Node). asked_node l c.args.node) c.self.view_is in
    let small : length c.keep.new.keys.keys ≤ LIMIT = c.in-Ok-keep.ensures.small (let b = c.self.invariant.arena.small in omega (arith, b, length-map c.self.inside.keys.keys (plain c.self.inside.names))) in
    kept_added c.key_of.new.names c.self.inside.keys.keys c.self.inside.facts.items k c.args.self.now v c.in-Ok.key (asked_node c.args.self.now c.args.node) is c.in-Ok.ensures.named c.requires.typed (record { width = c.width_of_new-width.result; height = c.height_of_new-height.result; args = c.arguments.result }) c.width_of_new-width.ensures c.height_of_new-height.ensures c.arguments.ensures c.if-height-gt-HIGHEST.false c.keep.new.keys.keys c.keep.new.facts.items c.in-Ok-keep.ensures.added c.in-Ok-keep.ensures.once small

pub returns-clause-made : goal.returns-clause-made
returns-clause-made c =
    let v : map (plain c.key_of.new.names) c.self.inside.keys.keys ≡ c.args.self.now = grown_view c.self.inside.names c.self.inside.keys.keys c.self.inside.facts.items c.self.invariant c.args.self.now c.self.view_is c.key_of.new.names c.in-Ok.ensures.grows in
    let k : IsKept c.key_of.new.names c.self.inside.keys.keys c.self.inside.facts.items = grown_kept c.self.inside.names c.self.inside.keys.keys c.self.inside.facts.items c.self.invariant c.args.self.now c.self.view_is c.key_of.new.names c.in-Ok.ensures.grows c.in-Ok.ensures.once in
    let is = c.in-Ok.ensures.key ∙ ap (λ (l : List Node). asked_node l c.args.node) c.self.view_is in
    node_added c.key_of.new.names c.self.inside.keys.keys c.self.inside.facts.items k c.args.self.now v c.in-Ok.key (asked_node c.args.self.now c.args.node) is c.in-Ok.ensures.named c.requires.typed (record { width = c.width_of_new-width.result; height = c.height_of_new-height.result; args = c.arguments.result }) c.width_of_new-width.ensures c.height_of_new-height.ensures c.arguments.ensures c.if-height-gt-HIGHEST.false c.keep.new.keys.keys c.keep.new.facts.items c.in-Ok-keep.ensures.added c.in-Ok-keep.place c.in-Ok-keep.ensures.stored

pub returns-clause-means : goal.returns-clause-means
returns-clause-means c =
    let v : map (plain c.key_of.new.names) c.self.inside.keys.keys ≡ c.args.self.now = grown_view c.self.inside.names c.self.inside.keys.keys c.self.inside.facts.items c.self.invariant c.args.self.now c.self.view_is c.key_of.new.names c.in-Ok.ensures.grows in
    let k : IsKept c.key_of.new.names c.self.inside.keys.keys c.self.inside.facts.items = grown_kept c.self.inside.names c.self.inside.keys.keys c.self.inside.facts.items c.self.invariant c.args.self.now c.self.view_is c.key_of.new.names c.in-Ok.ensures.grows c.in-Ok.ensures.once in
    let is = c.in-Ok.ensures.key ∙ ap (λ (l : List Node). asked_node l c.args.node) c.self.view_is in
    let small : length c.keep.new.keys.keys ≤ LIMIT = c.in-Ok-keep.ensures.small (let b = c.self.invariant.arena.small in omega (arith, b, length-map c.self.inside.keys.keys (plain c.self.inside.names))) in
    means_added c.key_of.new.names c.self.inside.keys.keys c.self.inside.facts.items k c.args.self.now v c.in-Ok.key (asked_node c.args.self.now c.args.node) is c.in-Ok.ensures.named c.requires.typed (record { width = c.width_of_new-width.result; height = c.height_of_new-height.result; args = c.arguments.result }) c.width_of_new-width.ensures c.height_of_new-height.ensures c.arguments.ensures c.if-height-gt-HIGHEST.false c.keep.new.keys.keys c.keep.new.facts.items c.in-Ok-keep.ensures.added c.in-Ok-keep.ensures.once small c.in-Ok-keep.place c.in-Ok-keep.ensures.stored

pub returns-clause-kept : goal.returns-clause-kept
returns-clause-kept c =
    let v : map (plain c.key_of.new.names) c.self.inside.keys.keys ≡ c.args.self.now = grown_view c.self.inside.names c.self.inside.keys.keys c.self.inside.facts.items c.self.invariant c.args.self.now c.self.view_is c.key_of.new.names c.in-Ok.ensures.grows in
    let k : IsKept c.key_of.new.names c.self.inside.keys.keys c.self.inside.facts.items = grown_kept c.self.inside.names c.self.inside.keys.keys c.self.inside.facts.items c.self.invariant c.args.self.now c.self.view_is c.key_of.new.names c.in-Ok.ensures.grows c.in-Ok.ensures.once in
    let is = c.in-Ok.ensures.key ∙ ap (λ (l : List Node). asked_node l c.args.node) c.self.view_is in
    keeps_added c.key_of.new.names c.self.inside.keys.keys c.self.inside.facts.items k c.args.self.now v c.in-Ok.key (asked_node c.args.self.now c.args.node) is c.in-Ok.ensures.named c.requires.typed (record { width = c.width_of_new-width.result; height = c.height_of_new-height.result; args = c.arguments.result }) c.width_of_new-width.ensures c.height_of_new-height.ensures c.arguments.ensures c.if-height-gt-HIGHEST.false c.keep.new.keys.keys c.keep.new.facts.items c.in-Ok-keep.ensures.added

pub returns-clause-added : goal.returns-clause-added
returns-clause-added c =
    let v : map (plain c.key_of.new.names) c.self.inside.keys.keys ≡ c.args.self.now = grown_view c.self.inside.names c.self.inside.keys.keys c.self.inside.facts.items c.self.invariant c.args.self.now c.self.view_is c.key_of.new.names c.in-Ok.ensures.grows in
    let k : IsKept c.key_of.new.names c.self.inside.keys.keys c.self.inside.facts.items = grown_kept c.self.inside.names c.self.inside.keys.keys c.self.inside.facts.items c.self.invariant c.args.self.now c.self.view_is c.key_of.new.names c.in-Ok.ensures.grows c.in-Ok.ensures.once in
    let is = c.in-Ok.ensures.key ∙ ap (λ (l : List Node). asked_node l c.args.node) c.self.view_is in
    view_added c.key_of.new.names c.self.inside.keys.keys c.self.inside.facts.items k c.args.self.now v c.in-Ok.key (asked_node c.args.self.now c.args.node) is c.in-Ok.ensures.named c.requires.typed (record { width = c.width_of_new-width.result; height = c.height_of_new-height.result; args = c.arguments.result }) c.width_of_new-width.ensures c.height_of_new-height.ensures c.arguments.ensures c.if-height-gt-HIGHEST.false c.keep.new.keys.keys c.keep.new.facts.items c.in-Ok-keep.ensures.added
