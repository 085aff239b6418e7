-- What is judged without a fault has a type by the judgement.
use Rattle.std.proofs.Common.{◌≡◌, ℕ, ◌+◌, ◌<◌, ◌≤◌, Bool, true, false, List, [], ◌∷◌, length, Option, Some, None, refl, sym, ap, ◌∙◌, subst, arith, nat_eq}
use Rattle.std.proofs.lemmas.Bool.{eqb-true, eq-eqb}
use Rattle.std.specs.Prelude.{⊤, ◌&&◌, nat_le, bytes_eq, if◌then◌else◌}
use Rattle.sail_syntax.specs.Tree.{Text, Tree, node, Form, unit, lit, truth, name, chain, flip, slice, update, call, widen, choose, when, cases, foreach, check, exit, assign, block, Trees, none, some, Case, arm, Cases, no_case, case, Step, binds, holds, does, Steps, done, next}
use Rattle.sail_syntax.specs.declared.tree.Infix.{Infix}
use Rattle.sail_syntax.specs.declared.types.Ty.{Ty}
use Rattle.sail_syntax.specs.declared.types.Ty.TheVariants as ty
use Rattle.sail_syntax.specs.declared.patterns.Pattern.{Pattern}
use Rattle.type_rules.specs.declared.scope.Entry.{Entry}
use Rattle.type_rules.specs.declared.scope.Item.{Item}
use Rattle.type_rules.specs.declared.scope.Item.TheVariants as item
use Rattle.type_rules.specs.declared.scope.Slot.{Slot}
use Rattle.type_rules.specs.declared.scope.Slot.TheVariants as slot
use Rattle.type_rules.specs.declared.scope.Sort.{Sort}
use Rattle.type_rules.specs.declared.scope.Sort.TheVariants.{Holds, Counts}
use Rattle.type_rules.specs.declared.scope.Local.{Local}
use Rattle.type_rules.specs.declared.scope.Target.TheVariants as target
use Rattle.type_rules.specs.declared.scope.Ending.{Ending}
use Rattle.type_rules.specs.declared.scope.Ending.TheVariants as ending
use Rattle.type_rules.specs.declared.fault.Why.TheVariants.{Later}
use Rattle.type_rules.specs.Faults.{Faults, fine, fault, both, Clean}
use Rattle.type_rules.specs.Names.{find, look, known}
use Rattle.type_rules.specs.Rules.{Judged, is, says, bind, or_else, or_type, place_of, fits, no_type, where_holds, bits_only, is_value, is_join, takes, heads, compares, chain_type, is_chain_of, count, widened, least_width, is_known, total_type, joined, between, indexed, widens, has_arm, asked_of, assigned, slot_of, slots_after, narrowed, finished, counted, local_type, read_name, taken, target_of, maybe_written, asked_slot, given_type}
use Rattle.type_rules.specs.Judge.{judge, judge_form, judge_chain, judge_rest, judge_joins, judge_args, judge_others, judge_arms, judge_steps, judge_pattern, called, entered, local}
use Rattle.type_rules.specs.HasType.{Asks, Where, IsOfBits, AreIndices, name_type, MayBeType, IsFree, slot_asks, SlotTakes, Gives, Calls, HasType, FormHas, ChainHas, AllHave, JoinHas, ArgsHave, OthersHave, ArmsHave, RestHave, StepsHave}
use Rattle.type_rules.specs.Laws.{IsTyped, KnownSort, Known, AreSlots, IsResult, HasTypes, AllHaveTypes}
use Rattle.type_rules.proofs.RuleLemmas.{Found, found_map, then_sound, fits_sound, Held, holds_sound, bits_sound, both_true, Operand, operand_sound, value_sound, heads_sound, chain_known, widened_is, widens_sound, le_true, le_test, or_asked}
use Rattle.type_rules.proofs.NameLemmas.{known_look, local_is, read_sound, taken_sound, target_known, assigned_sound, known_is, maybe_sound, indexed_sound}
use Rattle.type_rules.proofs.PatternLemmas.{pattern_sound, entered_known}
use Rattle.type_rules.proofs.AskedLemmas.{asked, asks_of, OpenAt, open_at}
use Rattle.type_rules.proofs.CallLemmas.{FoundTypes, found_types, IsSlot, Slots, slots, slot_is, narrowed_sound, finished_sound, IsFirst, result_sound, count_sound}

module _ (globals : List Entry) (types : AllHaveTypes globals globals) (here : ℕ) where
  -- an expression that is judged without a fault
  abbrev pub Judges : Tree → Option Ty → List Local → Type 0
  Judges e want scope = Found (judge globals here e want scope) (HasType globals here e want scope)

  -- joined bits without a fault
  abbrev pub Joins : Trees → ℕ → ℕ → Option Ty → List Local → Type 0
  Joins parts total at want scope = Found (judge_joins globals here parts total true at want scope) (λ t. JoinHas globals here parts total scope t × Asks want t)

  joined_sound : (total at : ℕ) (want : Option Ty) (scope : List Local) → Clean (joined at want total true).faults → Joins none total at want scope
  joined_sound total at want scope c =
      let h = holds_sound (nat_le total 128) at want (ty.Bits total) c in
      record { type = h.found.type; is = h.found.is; has = ((le_true total 128 h.holds, h.found.has.0), h.found.has.1) }

  no_first : IsFirst globals [] None
  no_first = tt

  some_first : (q : Slot) (qs : List Slot) (o : Option Ty) (u : Ty) → o ≡ Some u → IsFirst globals (q ∷ qs) o
  some_first q qs o u e = subst (IsFirst globals (q ∷ qs)) (sym e) tt

  pub joins_grow : (parts : Trees) (total : ℕ) (scope : List Local) (t : Ty) → JoinHas globals here parts total scope t → total ≤ 128
  joins_grow none total scope t h = h.0
  joins_grow (some p rest) total scope t h = let k = joins_grow rest (total + h.0) scope t h.1.1 in omega (arith, k)

  -- arguments without a fault
  pub record Args (args : Trees) (ps : List Slot) (scope : List Local) : Type 0 where
    pub first : IsFirst globals ps (judge_args globals here args ps scope).type
    pub have : (r : Option Ty) (t : Ty) → Gives r (judge_args globals here args ps scope).type t → ArgsHave globals here args ps r scope t

  chain_step : (op : Infix) (parts : Trees) (at : ℕ) (want : Option Ty) (scope : List Local)
      → (Clean (judge_joins globals here parts 0 true at want scope).faults → Joins parts 0 at want scope)
      → (Clean (judge_chain globals here parts op at want scope).faults → Found (judge_chain globals here parts op at want scope) (λ t. ChainHas globals here parts op scope t × Asks want t))
      → (b : Bool) → is_chain_of op (count parts) ≡ b → (j : Bool)
      → Clean (if b then (if j then judge_joins globals here parts 0 true at want scope else judge_chain globals here parts op at want scope) else no_type at want).faults
      → Found (if b then (if j then judge_joins globals here parts 0 true at want scope else judge_chain globals here parts op at want scope) else no_type at want)
      (λ t. (is_chain_of op (count parts) ≡ true) × Where j (JoinHas globals here parts 0 scope t) (ChainHas globals here parts op scope t) × Asks want t)
  chain_step op parts at want scope joins chains true e true d = let r = joins d in record { type = r.type; is = r.is; has = (e, r.has.0, r.has.1) }
  chain_step op parts at want scope joins chains true e false d = let r = chains d in record { type = r.type; is = r.is; has = (e, r.has.0, r.has.1) }
  chain_step op parts at want scope joins chains false e j d = absurd d

  call_step : (f : Text) (args : Trees) (at : ℕ) (want : Option Ty) (scope : List Local)
      → ((ps : List Slot) → count args ≡ length ps → AreSlots globals ps → Clean (judge_args globals here args ps scope).faults → Args args ps scope)
      → (i : Option Item) → FoundTypes globals i → Clean (called globals here f at want (count args) (λ params. judge_args globals here args params scope) i).faults
      → Found (called globals here f at want (count args) (λ params. judge_args globals here args params scope) i)
      (λ t. Calls here i (λ params result. ArgsHave globals here args params result scope t) × Asks want t)
  call_step f args at want scope each (Some (item.Function ps r after)) h d =
      let p = finished_sound globals (nat_le after here) f at d.0 in
      let one = (judge_args globals here args ps scope).type in
      let m = count_sound globals (nat_eq (length ps) (count args)) at want (given_type globals r one) d.1.1 in
      let a = each ps (sym (eqb-true (length ps) (count args) m)) h.0 d.1.0 in
      let g = result_sound globals at want ps r one h.1 a.first (subst (λ b. Clean (counted b at want (given_type globals r one)).faults) m d.1.1) in
      record { type = g.type; is = ap (λ b. (counted b at want (given_type globals r one)).type) m ∙ g.is; has = ((le_true after here p, a.have r g.type g.has.0), g.has.1) }
  call_step f args at want scope each (Some (item.Register w)) h d = absurd d.0
  call_step f args at want scope each (Some (item.Member e)) h d = absurd d.0
  call_step f args at want scope each (Some item.Enum) h d = absurd d.0
  call_step f args at want scope each None h d = absurd d.0

  mutual
    pub sound : (e : Tree) (want : Option Ty) (scope : List Local) → Known scope → Clean (judge globals here e want scope).faults → Judges e want scope
    sound (node at form) want scope n c = form_sound form at want scope n c

    -- the one that is asked for
    pub sound_at : (e : Tree) (w : Ty) (scope : List Local) → Known scope → Clean (judge globals here e (Some w) scope).faults → HasType globals here e (Some w) scope w
    sound_at (node at form) w scope n c =
        let r = form_sound form at (Some w) scope n c in
        subst (λ t. HasType globals here (node at form) (Some w) scope t) (sym (asked globals here (node at form) w scope r.type r.has)) r.has

    form_sound : (form : Form) (at : ℕ) (want : Option Ty) (scope : List Local) → Known scope → Clean (judge_form globals here form at want scope).faults
        → Found (judge_form globals here form at want scope) (FormHas globals here form want scope)
    form_sound unit at want scope n c = fits_sound at want ty.Unit c
    form_sound (lit b) at want scope n c =
        let h = holds_sound (is_value b) at want (ty.Bits b.width) c in
        record { type = h.found.type; is = h.found.is; has = (value_sound b h.holds, h.found.has.0, h.found.has.1) }
    form_sound (truth b) at want scope n c = fits_sound at want ty.Bool c
    form_sound (name x) at want scope n c =
        let r = then_sound (read_name globals x at (look x scope)) (fits at want) (λ u. name_type globals x (look x scope) ≡ Some u) (λ u t. (t ≡ u) × Asks want t)
        (read_sound globals x at (look x scope) (known_look x scope n)) (λ u p d. fits_sound at want u d) c in
        record { type = r.type; is = r.is; has = (r.has.1.0 ∙ ap Some (sym r.has.1.1.0), r.has.1.1.1) }
    form_sound (chain op parts) at want scope n c =
        chain_step op parts at want scope (λ d. joins_sound parts 0 at want scope n d) (λ d. chain_sound parts op at want scope n d) (is_chain_of op (count parts)) refl (is_join op) c
    form_sound (flip of) at want scope n c =
        let r = then_sound (bind (judge globals here of None scope) (bits_only (place_of of))) (fits at want) (λ u. HasType globals here of None scope u × IsOfBits u) (λ u t. (t ≡ u) × Asks want t)
        (λ d. let o = operand_sound (judge globals here of None scope) (place_of of) (HasType globals here of None scope) (sound of None scope n) d in
        record { type = ty.Bits o.width; is = o.is; has = (o.has, tt) })
        (λ u p d. fits_sound at want u d) c in
        let e = sym r.has.1.1.0 in
        record { type = r.type; is = r.is; has = (subst (HasType globals here of None scope) e r.has.1.0.0, subst IsOfBits e r.has.1.0.1, r.has.1.1.1) }
    form_sound (slice of hi lo) at want scope n c =
        let o = operand_sound (judge globals here of None scope) (place_of of) (HasType globals here of None scope) (sound of None scope n) c.0 in
        let i = indexed_sound at want hi lo scope o.width (ty.Bits (between hi lo)) (subst (λ w. Clean (indexed at want hi lo scope w (Some (ty.Bits (between hi lo)))).faults) o.is c.1) in
        record {
          type = i.found.type;
          is = ap (λ w. (indexed at want hi lo scope w (Some (ty.Bits (between hi lo)))).type) o.is ∙ i.found.is;
          has = (o.width, (o.has, i.fit, i.found.has.0, i.found.has.1));
        }
    form_sound (update of hi lo by) at want scope n c =
        let o = operand_sound (judge globals here of None scope) (place_of of) (HasType globals here of None scope) (sound of None scope n) c.0 in
        let i = indexed_sound at want hi lo scope o.width (ty.Bits o.width) (subst (λ w. Clean (indexed at want hi lo scope w w).faults) o.is c.1.0) in
        let b = sound_at by (ty.Bits (between hi lo)) scope n c.1.1.0 in
        record {
          type = i.found.type;
          is = ap (λ w. (indexed at want hi lo scope w w).type) o.is ∙ i.found.is;
          has = (o.width, (o.has, i.fit, b, i.found.has.0, i.found.has.1));
        }
    form_sound (call f args) at want scope n c =
        call_step f args at want scope (λ ps m h d. args_sound args ps scope n m h d) (find f globals) (found_types globals globals types f) c
    form_sound (widen signed to of) at want scope n c =
        let o = operand_sound (judge globals here of None scope) (place_of of) (HasType globals here of None scope) (sound of None scope n) c.0 in
        let h = holds_sound (widens to (Some (ty.Bits o.width))) at want (ty.Bits to) (subst (λ w. Clean (where_holds (widens to w) at want (Some (ty.Bits to))).faults) o.is c.1) in
        let w = widens_sound to o.width h.holds in
        record {
          type = h.found.type;
          is = ap (λ w. (where_holds (widens to w) at want (Some (ty.Bits to))).type) o.is ∙ h.found.is;
          has = (o.width, (o.has, w.0, w.1, h.found.has.0, h.found.has.1));
        }
    form_sound (choose test one other) at want scope n c =
        let s = sound_at test ty.Bool scope n c.0 in
        let r = sound one want scope n c.1.0 in
        let q = or_asked want (judge globals here one want scope).type r.type r.is (asks_of globals here one want scope r.type r.has) in
        let d = sound_at other r.type scope n (subst (λ o. Clean (judge globals here other o scope).faults) q c.1.1.0) in
        record { type = r.type; is = ap (λ o. or_else o (judge globals here other (or_else want (judge globals here one want scope).type) scope).type) q; has = (s, r.has, d) }
    form_sound (when test one) at want scope n c =
        let f = fits_sound at want ty.Unit c.1.1 in
        record { type = f.type; is = f.is; has = (sound_at test ty.Bool scope n c.0, sound_at one ty.Unit scope n c.1.0, f.has.0, f.has.1) }
    form_sound (cases on arms) at want scope n c =
        let o = sound on None scope n c.0 in
        let d = subst (λ t. Clean (if has_arm arms then judge_arms globals here arms t want scope else no_type at want).faults) o.is c.1 in
        let r = arms_sound arms at o.type want scope n d in
        record { type = r.type; is = ap (λ t. (if has_arm arms then judge_arms globals here arms t want scope else no_type at want).type) o.is ∙ r.is; has = (o.type, (o.has, r.has)) }
    form_sound (foreach x from to body) at want scope n c =
        let f = fits_sound at want ty.Unit c.1.1 in
        record {
          type = f.type;
          is = f.is;
          has = (taken_sound globals x at c.0, sound_at body ty.Unit (record { name = x; sort = Counts from to } ∷ scope) (tt, n) c.1.0, f.has.0, f.has.1);
        }
    form_sound (check test text) at want scope n c =
        let f = fits_sound at want ty.Unit c.1 in
        record { type = f.type; is = f.is; has = (sound_at test ty.Bool scope n c.0, f.has.0, f.has.1) }
    form_sound exit at want scope n c = record { type = or_type want ty.Unit; is = refl; has = refl }
    form_sound (assign x by) at want scope n c =
        let r = assigned_sound globals x at want (target_of globals (look x scope) x) (target_known globals x (look x scope) (known_look x scope n)) c.1 in
        let s = sound_at by r.takes scope n (subst (λ t. Clean (judge globals here by (asked_of t) scope).faults) r.is c.0) in
        record { type = r.found.type; is = r.found.is; has = (r.takes, (r.is, s, r.found.has.0, r.found.has.1)) }
    form_sound (block steps) at want scope n c = steps_sound steps ending.Open at want scope (open_at steps) n c

    chain_sound : (parts : Trees) (op : Infix) (at : ℕ) (want : Option Ty) (scope : List Local) → Known scope → Clean (judge_chain globals here parts op at want scope).faults
        → Found (judge_chain globals here parts op at want scope) (λ t. ChainHas globals here parts op scope t × Asks want t)
    chain_sound none op at want scope n c = absurd c
    chain_sound (some p rest) op at want scope n c =
        let h = then_sound (judge globals here p None scope) (heads op (place_of p)) (HasType globals here p None scope) (λ u t. (t ≡ u) × (takes op t ≡ true))
        (sound p None scope n) (λ u q d. heads_sound op (place_of p) u d) c.0 in
        let a = rest_sound rest h.type scope n (subst (λ o. Clean (judge_rest globals here rest o scope).faults) h.is c.1.0) in
        let k = chain_known op h.type in
        let f = fits_sound at want k.0 (subst (λ o. Clean (fits at want o).faults) (ap (chain_type op) h.is ∙ k.1.0) c.1.1) in
        record {
          type = f.type;
          is = ap (λ o. (fits at want o).type) (ap (chain_type op) h.is ∙ k.1.0) ∙ f.is;
          has = ((h.type, (subst (HasType globals here p None scope) (sym h.has.1.1.0) h.has.1.0, h.has.1.1.1, a, subst (λ t. Where (compares op) (t ≡ ty.Bool) (t ≡ h.type)) (sym f.has.0) k.1.1)), f.has.1);
        }

    rest_sound : (rest : Trees) (u : Ty) (scope : List Local) → Known scope → Clean (judge_rest globals here rest (Some u) scope).faults → AllHave globals here rest u scope
    rest_sound none u scope n c = tt
    rest_sound (some p rest) u scope n c = (sound_at p u scope n c.0, rest_sound rest u scope n c.1)

    joins_sound : (parts : Trees) (total at : ℕ) (want : Option Ty) (scope : List Local) → Known scope → Clean (judge_joins globals here parts total true at want scope).faults
        → Joins parts total at want scope
    joins_sound none total at want scope n c = joined_sound total at want scope c
    joins_sound (some p rest) total at want scope n c =
        let o = operand_sound (judge globals here p None scope) (place_of p) (HasType globals here p None scope) (sound p None scope n) c.0 in
        let J = λ (w : Option Ty). judge_joins globals here rest (widened total (least_width w)) (true && is_known w) at want scope in
        let m = joins_sound rest (widened total o.width) at want scope n (subst (λ w. Clean (J w).faults) o.is c.1) in
        let e = widened_is total o.width 128 (joins_grow rest (widened total o.width) scope m.type m.has.0) (omega arith) in
        record { type = m.type; is = ap (λ w. (J w).type) o.is ∙ m.is; has = ((o.width, (o.has, subst (λ k. JoinHas globals here rest k scope m.type) e m.has.0)), m.has.1) }

    -- an argument, where the first one has the type
    arg_sound : (a : Tree) (q : Slot) (one : Option Ty) (scope : List Local) → Known scope → IsSlot globals q
        → Clean (bind (judge globals here a (asked_slot globals (Some q) one) scope) (narrowed (Some q) (place_of a))).faults
        → Found (bind (judge globals here a (asked_slot globals (Some q) one) scope) (narrowed (Some q) (place_of a))) (λ t. HasType globals here a (slot_asks q one) scope t × SlotTakes q t)
    arg_sound (node at form) q one scope n s c =
        let e = slot_is globals q one s in
        let J = λ (o : Option Ty). bind (judge_form globals here form at o scope) (narrowed (Some q) at) in
        let r = then_sound (judge_form globals here form at (slot_asks q one) scope) (narrowed (Some q) at) (FormHas globals here form (slot_asks q one) scope) (λ u t. (t ≡ u) × SlotTakes q t)
        (form_sound form at (slot_asks q one) scope n) (λ u p d. narrowed_sound globals q at u d) (subst (λ o. Clean (J o).faults) e c) in
        record { type = r.type; is = ap (λ o. (J o).type) e ∙ r.is; has = (subst (FormHas globals here form (slot_asks q one) scope) (sym r.has.1.1.0) r.has.1.0, r.has.1.1.1) }

    args_sound : (args : Trees) (ps : List Slot) (scope : List Local) → Known scope → count args ≡ length ps → AreSlots globals ps → Clean (judge_args globals here args ps scope).faults
        → Args args ps scope
    args_sound none [] scope n m s c = record { first = no_first; have = λ r t g. g }
    args_sound none (q ∷ qs) scope n m s c = absurd (omega (arith, m))
    args_sound (some a rest) [] scope n m s c = absurd (omega (arith, m))
    args_sound (some a rest) (q ∷ qs) scope n m s c =
        let h = slots globals q qs s in
        let o = arg_sound a q None scope n h.one c.0 in
        let d = others_sound rest qs o.type scope n (omega (arith, m)) h.others (subst (λ k. Clean (judge_others globals here rest qs k scope).faults) o.is c.1.0) in
        record {
          first = some_first q qs (bind (judge globals here a (asked_slot globals (Some q) None) scope) (narrowed (Some q) (place_of a))).type o.type o.is;
          have = λ r t g. (o.type, (o.has.0, o.has.1, d, subst (λ k. Gives r k t) o.is g));
        }

    others_sound : (args : Trees) (ps : List Slot) (one : Ty) (scope : List Local) → Known scope → count args ≡ length ps → AreSlots globals ps
        → Clean (judge_others globals here args ps (Some one) scope).faults → OthersHave globals here args ps one scope
    others_sound none [] one scope n m s c = tt
    others_sound none (q ∷ qs) one scope n m s c = absurd (omega (arith, m))
    others_sound (some a rest) [] one scope n m s c = absurd (omega (arith, m))
    others_sound (some a rest) (q ∷ qs) one scope n m s c =
        let h = slots globals q qs s in
        let o = arg_sound a q (Some one) scope n h.one c.0 in
        (o.type, (o.has.0, o.has.1, others_sound rest qs one scope n (omega (arith, m)) h.others c.1))

    arms_sound : (arms : Cases) (at : ℕ) (u : Ty) (want : Option Ty) (scope : List Local) → Known scope
        → Clean (if has_arm arms then judge_arms globals here arms (Some u) want scope else no_type at want).faults
        → Found (if has_arm arms then judge_arms globals here arms (Some u) want scope else no_type at want) (ArmsHave globals here arms u want scope)
    arms_sound no_case at u want scope n c = absurd c
    arms_sound (case (arm p body) rest) at u want scope n c =
        let h = pattern_sound globals p (place_of body) u c.0 in
        let r = sound body want (entered globals p (Some u) scope) (entered_known globals p u scope n) c.1.0 in
        let q = or_asked want (judge globals here body want (entered globals p (Some u) scope)).type r.type r.is (asks_of globals here body want (entered globals p (Some u) scope) r.type r.has) in
        let m = more_sound rest u r.type scope n (subst (λ o. Clean (judge_arms globals here rest (Some u) o scope).faults) q c.1.1) in
        record { type = r.type; is = ap (λ o. (judge_arms globals here rest (Some u) o scope).type) q ∙ m.0; has = (h, r.has, m.1) }

    -- the arms behind the first one
    more_sound : (arms : Cases) (u t : Ty) (scope : List Local) → Known scope → Clean (judge_arms globals here arms (Some u) (Some t) scope).faults
        → ((judge_arms globals here arms (Some u) (Some t) scope).type ≡ Some t) × RestHave globals here arms u scope t
    more_sound no_case u t scope n c = (refl, tt)
    more_sound (case (arm p body) rest) u t scope n c =
        let h = pattern_sound globals p (place_of body) u c.0 in
        let r = sound_at body t (entered globals p (Some u) scope) (entered_known globals p u scope n) c.1.0 in
        let m = more_sound rest u t scope n c.1.1 in (m.0, (h, r, m.1))

    steps_sound : (steps : Steps) (last : Ending) (at : ℕ) (want : Option Ty) (scope : List Local) → OpenAt steps last → Known scope → Clean (judge_steps globals here steps last at want scope).faults
        → Found (judge_steps globals here steps last at want scope) (StepsHave globals here steps want scope)
    steps_sound done ending.Open at want scope o n c = fits_sound at want ty.Unit c
    steps_sound done (ending.Value t) at want scope o n c = absurd o
    steps_sound (next (does e) done) last at want scope o n c = let r = sound e want scope n c.0 in record { type = r.type; is = r.is; has = r.has }
    steps_sound (next (does e) (next s rest)) last at want scope o n c =
        let r = steps_sound (next s rest) (ending.Value (judge globals here e (Some ty.Unit) scope).type) at want scope tt n c.1 in
        record { type = r.type; is = r.is; has = (sound_at e ty.Unit scope n c.0, r.has) }
    steps_sound (next (binds x d by) rest) last at want scope o n c =
        let l = local_sound x d by scope n c.0 in
        let J = λ (k : Option Ty). judge_steps globals here rest ending.Open at want (record { name = x; sort = Holds k false } ∷ scope) in
        let r = steps_sound rest ending.Open at want (record { name = x; sort = Holds (Some l.type) false } ∷ scope) (open_at rest) (tt, n) (subst (λ k. Clean (J k).faults) l.is c.1) in
        record { type = r.type; is = ap (λ k. (J k).type) l.is ∙ r.is; has = (l.type, (l.has.0, l.has.1, l.has.2, r.has)) }
    steps_sound (next (holds x d by) rest) last at want scope o n c =
        let l = local_sound x d by scope n c.0 in
        let J = λ (k : Option Ty). judge_steps globals here rest ending.Open at want (record { name = x; sort = Holds k true } ∷ scope) in
        let r = steps_sound rest ending.Open at want (record { name = x; sort = Holds (Some l.type) true } ∷ scope) (open_at rest) (tt, n) (subst (λ k. Clean (J k).faults) l.is c.1) in
        record { type = r.type; is = ap (λ k. (J k).type) l.is ∙ r.is; has = (l.type, (l.has.0, l.has.1, l.has.2, r.has)) }

    -- a declaration
    local_sound : (x : Text) (d : Option Ty) (by : Tree) (scope : List Local) → Known scope → Clean (local globals x d (place_of by) (λ a. judge globals here by a scope)).faults
        → Found (local globals x d (place_of by) (λ a. judge globals here by a scope)) (λ u. MayBeType globals d × IsFree globals x × HasType globals here by d scope u)
    local_sound x d (node q form) scope n c =
        let e = maybe_sound globals q d c.0 in
        let r = form_sound form q d scope n (subst (λ a. Clean (judge_form globals here form q a scope).faults) e.is c.1.1.0) in
        let g = ap (λ a. (judge_form globals here form q a scope).type) e.is ∙ r.is in
        let t = local_is d (maybe_written globals q d).type (judge_form globals here form q (maybe_written globals q d).type scope).type r.type e.is g (asks_of globals here (node q form) d scope r.type r.has) in
        record { type = r.type; is = t; has = (e.has, taken_sound globals x q c.1.0, r.has) }
