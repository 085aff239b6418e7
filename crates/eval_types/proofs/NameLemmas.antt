-- Names that are read and written.
use Rattle.std.proofs.Common.{◌≡◌, ℕ, zero, suc, Bool, true, false, ◌&&◌, List, [], ◌∷◌, map, Option, Some, None, refl, ap, sym, ◌∙◌, subst, arith}
use Rattle.std.specs.Prelude.{All, is_some, slice_get, slice_set, slice_index_or, nat_eq, if◌then◌else◌}
use Rattle.std.proofs.lemmas.Option.{slice_get_within}
use Rattle.std.proofs.lemmas.List.{length-map}
use Rattle.std.proofs.lemmas.Bool.{eqb-true, and_parts}
use Rattle.std.proofs.lemmas.List.Elements.{All-set}
use Rattle.std.proofs.Math.Seq.{map-set_same}
use Rattle.bv_bits.specs.declared.Bits.{Bits}
use Rattle.bv_bits.specs.Bits.{IsBits, width_of}
use Rattle.sail_syntax.specs.Tree.{Text}
use Rattle.sail_syntax.specs.Program.{Definition, registers_of}
use Rattle.sail_syntax.specs.declared.types.Ty.{Ty}
use Rattle.sail_syntax.specs.declared.types.Ty.TheVariants as ty
use Rattle.state_core.specs.State.{State, register_of}
use Rattle.sail_values.specs.declared.value.Value.{Value}
use Rattle.sail_values.specs.declared.value.Value.TheVariants as value
use Rattle.sail_values.specs.declared.value.Slot.{Slot}
use Rattle.sail_values.specs.declared.value.Local.{Local}
use Rattle.sail_values.specs.declared.value.Local.TheVariants as local
use Rattle.sail_values.specs.Slots.{look, put, has}
use Rattle.sail_values.specs.Values.{is_vector}
use Rattle.sail_names.specs.declared.things.Named.{Named}
use Rattle.sail_names.specs.declared.things.Thing.{Thing}
use Rattle.sail_names.specs.declared.things.Thing.TheVariants as thing
use Rattle.sail_names.specs.Things.{find_thing}
use Rattle.type_rules.specs.declared.scope.Entry.{Entry}
use Rattle.type_rules.specs.declared.scope.Item.{Item}
use Rattle.type_rules.specs.declared.scope.Item.TheVariants as item
use Rattle.type_rules.specs.declared.scope.Sort.{Sort}
use Rattle.type_rules.specs.declared.scope.Sort.TheVariants.{Holds, Counts}
use Rattle.type_rules.specs.declared.scope.Local.{Local as Typed}
use Rattle.type_rules.specs.declared.scope.Target.TheVariants as target
use Rattle.type_rules.specs.Names.{find, look as look_type}
use Rattle.type_rules.specs.Rules.{item_type, local_target, target_of}
use Rattle.type_rules.specs.HasType.{name_type}
use Rattle.eval_rules.specs.Flow.{gives}
use Rattle.eval_rules.specs.Names.{value_in, read_of, read, with_bits, with_value, assigned, in_state, write}
use Rattle.eval_types.specs.Types.{IsOfType, SortFits, LocalsFit, StateFits, declared_width}
use Rattle.eval_types.specs.Keeps.{Ends}
use Rattle.eval_types.proofs.ValueLemmas.{passed_vector}
use Rattle.eval_types.proofs.FlowLemmas.{Keeps}
use Rattle.eval_types.proofs.LocalLemmas.{LookFits, look_fits, has_is, put_fits}
use Rattle.eval_types.proofs.ThingLemmas.{AsFound}

-- ---- registers

pub record IsRegister (b : Bits) (w : ℕ) : Type 0 where
  pub fit : IsBits b
  pub width : b.width ≡ w

some_width : (v w : ℕ) → Some v ≡ Some w → v ≡ w
some_width v w h = cc

width_there : (bs : List Bits) (r w : ℕ) (d : Bits) → slice_get (map width_of bs) r ≡ Some w → (slice_index_or bs r d).width ≡ w
width_there [] r w d e = absurd cc
width_there (b ∷ bs) zero w d e = some_width b.width w e
width_there (b ∷ bs) (suc r) w d e = width_there bs r w d e

register_in : (bs : List Bits) (r w : ℕ) (d : Bits) → All IsBits bs → slice_get (map width_of bs) r ≡ Some w → IsRegister (slice_index_or bs r d) w
register_in bs r w d h e =
    record { fit = h r d (omega (arith, slice_get_within (map width_of bs) r w e, length-map bs width_of)); width = width_there bs r w d e }

some_ty : (t u : Ty) → Some t ≡ Some u → t ≡ u
some_ty t u h = cc

module _ (defs : List Definition) where
  pub register_fits : (s : State) (r w : ℕ) → StateFits defs s → slice_get (map declared_width (registers_of defs)) r ≡ Some w → IsRegister (register_of s r) w
  register_fits s r w f e = register_in s.registers r w (record { width = 0; value = 0 }) f.values.registers (ap (λ ws. slice_get ws r) f.widths ∙ e)

  with_fits : (r : ℕ) (b : Bits) (s : State) → StateFits defs s → StateFits defs (with_bits r b s)
  with_fits r b s f = step (is_vector b && nat_eq b.width (register_of s r).width) refl
    where
      step : (t : Bool) → is_vector b && nat_eq b.width (register_of s r).width ≡ t → StateFits defs (if t then record s { registers = slice_set s.registers r b } else s)
      step true p =
          let q = and_parts (is_vector b) (nat_eq b.width (register_of s r).width) p in
          record {
            values = record { registers = All-set IsBits s.registers r b (passed_vector b q.0) f.values.registers; memory = f.values.memory };
            widths = map-set_same width_of s.registers r b (record { width = 0; value = 0 }) (eqb-true b.width (register_of s r).width q.1) ∙ f.widths;
          }
      step false p = f

  value_fits : (r : ℕ) (v : Value) (s : State) → StateFits defs s → StateFits defs (with_value r v s)
  value_fits r (value.Bits b) s f = with_fits r b s f
  value_fits r value.Unit s f = f
  value_fits r (value.Truth b) s f = f
  value_fits r (value.Member e i) s f = f

  assigned_fits : (o : Option Thing) (v : Value) (s : State) → StateFits defs s → StateFits defs (assigned o v s)
  assigned_fits (Some (thing.Register r)) v s f = value_fits r v s f
  assigned_fits (Some (thing.Member e i)) v s f = f
  assigned_fits (Some (thing.Given g)) v s f = f
  assigned_fits (Some (thing.Function i)) v s f = f
  assigned_fits None v s f = f

  -- ---- reading

  program_name : (i : Option Item) (o : Option Thing) (t : Ty) (s : State) → AsFound defs i o → item_type i ≡ Some t → StateFits defs s → IsOfType defs (value_in o s) t
  program_name (Some (item.Register w)) (Some (thing.Register r)) t s h e f =
      let g = register_fits s r w f h in (g.fit, sym (some_ty (ty.Bits w) t e) ∙ ap ty.Bits (sym g.width))
  program_name (Some (item.Member x)) (Some (thing.Member n i)) t s h e f = subst (IsOfType defs (value.Member n i)) (some_ty (ty.Enum x) t e) h
  program_name (Some (item.Register w)) (Some (thing.Member n i)) t s h e f = absurd h
  program_name (Some (item.Register w)) (Some (thing.Given g)) t s h e f = absurd h
  program_name (Some (item.Register w)) (Some (thing.Function i)) t s h e f = absurd h
  program_name (Some (item.Register w)) None t s h e f = absurd h
  program_name (Some (item.Member x)) (Some (thing.Register r)) t s h e f = absurd h
  program_name (Some (item.Member x)) (Some (thing.Given g)) t s h e f = absurd h
  program_name (Some (item.Member x)) (Some (thing.Function i)) t s h e f = absurd h
  program_name (Some (item.Member x)) None t s h e f = absurd h
  program_name (Some item.Enum) o t s h e f = absurd cc
  program_name (Some (item.Function ps r after)) o t s h e f = absurd cc
  program_name None o t s h e f = absurd cc

  module _ (globals : List Entry) (things : List Named) (found : (x : Text) → AsFound defs (find x globals) (find_thing x things)) where
    name_fits : (x : Text) (o : Option Local) (k : Option Sort) (t : Ty) (s : State) → LookFits defs o k → name_type globals x k ≡ Some t → StateFits defs s → IsOfType defs (read_of things o x s) t
    name_fits x (Some (local.Is v)) (Some (Holds (Some u) m)) t s h e f = subst (IsOfType defs v) (some_ty u t e) h
    name_fits x (Some (local.Is v)) (Some (Holds None m)) t s h e f = absurd h
    name_fits x (Some (local.Is v)) (Some (Counts a b)) t s h e f = absurd h
    name_fits x (Some (local.Counts n)) (Some (Holds u m)) t s h e f = absurd h
    name_fits x (Some (local.Counts n)) (Some (Counts a b)) t s h e f = absurd cc
    name_fits x (Some l) None t s h e f = absurd h
    name_fits x None (Some k) t s h e f = absurd h
    name_fits x None None t s h e f = program_name (find x globals) (find_thing x things) t s (found x) e f

    pub read_kept : (x : Text) (scope : List Typed) (t : Ty) → name_type globals x (look_type x scope) ≡ Some t → Keeps defs scope (λ v. IsOfType defs v t) (read things x)
    read_kept x scope t e locals world h s = (name_fits x (look x locals) (look_type x scope) t world.state (look_fits defs x locals scope h) e s, h, s)

    -- ---- writing

    takes_sort : (k : Sort) (u : Ty) → local_target k ≡ target.Takes (Some u) → k ≡ Holds (Some u) true
    takes_sort (Holds t true) u h = cc
    takes_sort (Holds t false) u h = cc
    takes_sort (Counts a b) u h = cc

    written_local : (x : Text) (v : Value) (u : Ty) (locals : List Slot) (scope : List Typed) → LocalsFit defs locals scope → IsOfType defs v u → (o : Option Local) (k : Option Sort) → is_some o ≡ true → look_type x scope ≡ k
        → LookFits defs o k → target_of globals k x ≡ target.Takes (Some u) → LocalsFit defs (put x (local.Is v) locals) scope
    written_local x v u locals scope h p (Some l) (Some k) t e f g =
        let q = takes_sort k u g in put_fits defs x (local.Is v) k locals scope h e (subst (SortFits defs (local.Is v)) (sym q) p)
    written_local x v u locals scope h p (Some l) None t e f g = absurd f
    written_local x v u locals scope h p None k t e f g = absurd cc

    pub write_kept : (x : Text) (v : Value) (u : Ty) (scope : List Typed) → target_of globals (look_type x scope) x ≡ target.Takes (Some u) → IsOfType defs v u → Keeps defs scope (λ v. IsOfType defs v ty.Unit) (write things x v)
    write_kept x v u scope e p locals world h s = step (has x locals) (has_is defs x locals)
      where
        step : (b : Bool) → b ≡ is_some (look x locals) → Ends defs (λ after. LocalsFit defs after scope) (λ v. IsOfType defs v ty.Unit)
            (if b then gives value.Unit (put x (local.Is v) locals) world else gives value.Unit locals (in_state (assigned (find_thing x things) v world.state) world))
        step true q = (refl, written_local x v u locals scope h p (look x locals) (look_type x scope) (sym q) refl (look_fits defs x locals scope h) e, s)
        step false q = (refl, h, assigned_fits (find_thing x things) v world.state s)
