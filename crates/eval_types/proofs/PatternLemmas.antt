-- What a pattern binds fits what typing enters for it.
use Rattle.std.proofs.Common.{◌≡◌, ℕ, ◌+◌, ◌-◌, ◌≤◌, false, List, [], ◌∷◌, Option, Some, None, refl, subst, arith}
use Rattle.sail_syntax.specs.Tree.{Text}
use Rattle.sail_syntax.specs.Program.{Definition}
use Rattle.sail_syntax.specs.declared.types.Ty.{Ty}
use Rattle.sail_syntax.specs.declared.types.Ty.TheVariants as ty
use Rattle.sail_syntax.specs.declared.patterns.Pattern.{Pattern}
use Rattle.sail_syntax.specs.declared.patterns.Pattern.TheVariants as pattern
use Rattle.sail_syntax.specs.declared.patterns.Part.{Part}
use Rattle.sail_syntax.specs.declared.patterns.Part.TheVariants as part
use Rattle.sail_values.specs.declared.value.Value.{Value}
use Rattle.sail_values.specs.declared.value.Slot.{Slot}
use Rattle.sail_names.specs.declared.things.Named.{Named}
use Rattle.sail_names.specs.declared.things.Thing.{Thing}
use Rattle.sail_names.specs.declared.things.Thing.TheVariants as thing
use Rattle.sail_names.specs.Things.{find_thing}
use Rattle.type_rules.specs.declared.scope.Entry.{Entry}
use Rattle.type_rules.specs.declared.scope.Item.{Item}
use Rattle.type_rules.specs.declared.scope.Item.TheVariants as item
use Rattle.type_rules.specs.declared.scope.Local.{Local as Typed}
use Rattle.type_rules.specs.declared.scope.Sort.TheVariants.{Holds}
use Rattle.type_rules.specs.Names.{find}
use Rattle.type_rules.specs.Judge.{entered_parts, entered_name, entered}
use Rattle.type_rules.specs.HasType.{NameFits, ArePartsOf, PatternFits}
use Rattle.eval_rules.specs.Parts.{width_in, piece, holding, parts_bound, name_bound, pattern_bound}
use Rattle.eval_types.specs.Types.{IsOfType, LocalsFit}
use Rattle.eval_types.proofs.ValueLemmas.{OfBits, as_bits, from_bits, width_in_is, sliced_of}
use Rattle.eval_types.proofs.FlowLemmas.{Behind, one_less}
use Rattle.eval_types.proofs.ThingLemmas.{AsFound}

module _ (defs : List Definition) (globals : List Entry) (things : List Named) (found : (x : Text) → AsFound defs (find x globals) (find_thing x things)) where
  name_fits : (x : Text) (v : Value) (t : Ty) (locals : List Slot) (scope : List Typed) → IsOfType defs v t → LocalsFit defs locals scope
      → (i : Option Item) (o : Option Thing) → AsFound defs i o → NameFits i t → LocalsFit defs (name_bound o x v locals) (entered_name i x (Some t) scope)
  name_fits x v t locals scope p h None None f n = (refl, p, h)
  name_fits x v t locals scope p h None (Some o) f n = absurd f
  name_fits x v t locals scope p h (Some (item.Member e)) (Some (thing.Member of i)) f n = h
  name_fits x v t locals scope p h (Some (item.Member e)) (Some (thing.Register r)) f n = absurd f
  name_fits x v t locals scope p h (Some (item.Member e)) (Some (thing.Given g)) f n = absurd f
  name_fits x v t locals scope p h (Some (item.Member e)) (Some (thing.Function i)) f n = absurd f
  name_fits x v t locals scope p h (Some (item.Member e)) None f n = absurd f
  name_fits x v t locals scope p h (Some (item.Register w)) o f n = absurd n
  name_fits x v t locals scope p h (Some item.Enum) o f n = absurd n
  name_fits x v t locals scope p h (Some (item.Function ps r after)) o f n = absurd n

  parts_grow : (ps : List Part) (before total : ℕ) → ArePartsOf globals ps before total → before ≤ total
  parts_grow [] before total h = omega (arith, h)
  parts_grow (part.Lit b ∷ ps) before total h = let k = parts_grow ps (before + b.width) total h.1 in omega (arith, k)
  parts_grow (part.Bind x w ∷ ps) before total h = let k = parts_grow ps (before + w) total h.1 in omega (arith, k)
  parts_grow (part.Skip w ∷ ps) before total h = let k = parts_grow ps (before + w) total h.1 in omega (arith, k)

  parts_fit : (ps : List Part) (before left total : ℕ) (v : Value) (locals : List Slot) (scope : List Typed) → OfBits v total → before + left ≡ total → ArePartsOf globals ps before total
      → LocalsFit defs locals scope → LocalsFit defs (parts_bound ps left v locals) (entered_parts ps scope)
  parts_fit [] before left total v locals scope a e h f = f
  parts_fit (part.Lit b ∷ ps) before left total v locals scope a e h f =
      let k = parts_grow ps (before + b.width) total h.1 in parts_fit ps (before + b.width) (left - b.width) total v locals scope a (omega (arith, e, k)) h.1 f
  parts_fit (part.Skip w ∷ ps) before left total v locals scope a e h f =
      let k = parts_grow ps (before + w) total h.1 in parts_fit ps (before + w) (left - w) total v locals scope a (omega (arith, e, k)) h.1 f
  parts_fit (part.Bind x w ∷ ps) before left total v locals scope a e h f =
      let k = parts_grow ps (before + w) total h.1 in
      let z = h.0.0.positive in
      let s = sliced_of v total (left - 1) (left - w) w a (omega (arith, e, k, z)) (omega (arith, e, k, z)) (omega (arith, e, k, z)) in
      parts_fit ps (before + w) (left - w) total v (holding x (piece v left w) ∷ locals) (record { name = x; sort = Holds (Some (ty.Bits w)) false } ∷ scope) a (omega (arith, e, k)) h.1
      (refl, from_bits defs (piece v left w) w s, f)

  -- the locals behind those that a pattern binds
  pub pattern_fits : (p : Pattern) (v : Value) (t : Ty) (locals : List Slot) (scope : List Typed) → PatternFits globals p t → IsOfType defs v t → LocalsFit defs locals scope
      → LocalsFit defs (pattern_bound things p v locals) (entered globals p (Some t) scope)
  pattern_fits pattern.Any v t locals scope h p f = f
  pattern_fits (pattern.Name x) v t locals scope h p f = name_fits x v t locals scope p f (find x globals) (find_thing x things) (found x) h
  pattern_fits (pattern.Lit b) v t locals scope h p f = f
  pattern_fits (pattern.Truth b) v t locals scope h p f = f
  pattern_fits (pattern.Parts ps) v t locals scope h p f =
      let n = h.0 in
      let a = as_bits defs v n (subst (IsOfType defs v) h.1.2 p) in
      parts_fit ps 0 (width_in v) n v locals scope a (omega (arith, width_in_is v n a)) h.1.0 f

  -- ---- what is entered is in front

  parts_behind : (ps : List Part) (scope : List Typed) (locals : List Slot) → Behind defs (entered_parts ps scope) locals → Behind defs scope locals
  parts_behind [] scope locals h = h
  parts_behind (part.Lit b ∷ ps) scope locals h = parts_behind ps scope locals h
  parts_behind (part.Skip w ∷ ps) scope locals h = parts_behind ps scope locals h
  parts_behind (part.Bind x w ∷ ps) scope locals h =
      let d : Typed = record { name = x; sort = Holds (Some (ty.Bits w)) false } in one_less defs d scope locals (parts_behind ps (d ∷ scope) locals h)

  name_behind : (i : Option Item) (x : Text) (on : Option Ty) (scope : List Typed) (locals : List Slot) → Behind defs (entered_name i x on scope) locals → Behind defs scope locals
  name_behind (Some (item.Member e)) x on scope locals h = h
  name_behind (Some (item.Register w)) x on scope locals h = one_less defs (record { name = x; sort = Holds on false }) scope locals h
  name_behind (Some item.Enum) x on scope locals h = one_less defs (record { name = x; sort = Holds on false }) scope locals h
  name_behind (Some (item.Function ps r after)) x on scope locals h = one_less defs (record { name = x; sort = Holds on false }) scope locals h
  name_behind None x on scope locals h = one_less defs (record { name = x; sort = Holds on false }) scope locals h

  pub entered_behind : (p : Pattern) (on : Option Ty) (scope : List Typed) (locals : List Slot) → Behind defs (entered globals p on scope) locals → Behind defs scope locals
  entered_behind pattern.Any on scope locals h = h
  entered_behind (pattern.Name x) on scope locals h = name_behind (find x globals) x on scope locals h
  entered_behind (pattern.Lit b) on scope locals h = h
  entered_behind (pattern.Truth b) on scope locals h = h
  entered_behind (pattern.Parts ps) on scope locals h = parts_behind ps scope locals h
