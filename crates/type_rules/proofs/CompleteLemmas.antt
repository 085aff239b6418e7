-- What has a type by the judgement is judged without a fault.
use Rattle.std.proofs.Common.{◌≡◌, ℕ, ◌+◌, ◌<◌, ◌≤◌, Bool, true, false, List, [], ◌∷◌, length, Option, Some, None, refl, sym, ap, ◌∙◌, subst, arith, nat_eq}
use Rattle.std.proofs.lemmas.Bool.{eq-eqb}
use Rattle.std.specs.Prelude.{⊤, ◌&&◌, nat_le, if◌then◌else◌}
use Rattle.sail_syntax.specs.Tree.{Text, Tree, node, Form, unit, lit, truth, name, chain, flip, slice, update, call, widen, choose, when, cases, foreach, check, exit, assign, block, Trees, none, some, Case, arm, Cases, no_case, case, Step, binds, holds, does, Steps, done, next}
use Rattle.sail_syntax.specs.declared.tree.Infix.{Infix}
use Rattle.sail_syntax.specs.declared.types.Ty.{Ty}
use Rattle.sail_syntax.specs.declared.types.Ty.TheVariants as ty
use Rattle.type_rules.specs.declared.scope.Entry.{Entry}
use Rattle.type_rules.specs.declared.scope.Item.{Item}
use Rattle.type_rules.specs.declared.scope.Item.TheVariants as item
use Rattle.type_rules.specs.declared.scope.Slot.{Slot}
use Rattle.type_rules.specs.declared.scope.Sort.TheVariants.{Holds, Counts}
use Rattle.type_rules.specs.declared.scope.Local.{Local}
use Rattle.type_rules.specs.declared.scope.Ending.{Ending}
use Rattle.type_rules.specs.declared.scope.Ending.TheVariants as ending
use Rattle.type_rules.specs.Faults.{Clean}
use Rattle.type_rules.specs.Names.{find, look}
use Rattle.type_rules.specs.Rules.{is, bind, or_else, or_type, place_of, fits, no_type, where_holds, bits_only, is_value, is_join, takes, heads, compares, chain_type, is_chain_of, count, widened, least_width, is_known, between, indexed, widens, has_arm, asked_of, assigned, narrowed, finished, counted, read_name, target_of, maybe_written, asked_slot, given_type}
use Rattle.type_rules.specs.Judge.{judge, judge_form, judge_chain, judge_rest, judge_joins, judge_args, judge_others, judge_arms, judge_steps, called, entered, local}
use Rattle.type_rules.specs.HasType.{Asks, Where, MayBeType, IsFree, slot_asks, SlotTakes, Gives, Calls, HasType, FormHas, ChainHas, AllHave, JoinHas, ArgsHave, OthersHave, ArmsHave, RestHave, StepsHave}
use Rattle.type_rules.specs.Laws.{IsTyped, AreSlots, AllHaveTypes}
use Rattle.type_rules.proofs.RuleLemmas.{then_complete, after_complete, fits_complete, holds_complete, bits_complete, operand_complete, value_complete, heads_complete, chain_found, widened_of, widens_complete, le_test, or_asked}
use Rattle.type_rules.proofs.NameLemmas.{local_is, read_complete, taken_complete, maybe_complete, indexed_complete}
use Rattle.type_rules.proofs.PatternLemmas.{pattern_complete}
use Rattle.type_rules.proofs.AskedLemmas.{asks_of, OpenAt, open_at}
use Rattle.type_rules.proofs.CallLemmas.{FoundTypes, found_types, IsSlot, slots, slot_is, narrowed_complete, result_complete}
use Rattle.type_rules.proofs.SoundLemmas.{joins_grow}

module _ (globals : List Entry) (types : AllHaveTypes globals globals) (here : ℕ) where
  chain_back : (op : Infix) (parts : Trees) (at : ℕ) (want : Option Ty) (scope : List Local) (t : Ty)
      → (JoinHas globals here parts 0 scope t → IsTyped (judge_joins globals here parts 0 true at want scope) t)
      → (ChainHas globals here parts op scope t → IsTyped (judge_chain globals here parts op at want scope) t)
      → (b : Bool) → b ≡ true → (j : Bool) → Where j (JoinHas globals here parts 0 scope t) (ChainHas globals here parts op scope t)
      → IsTyped (if b then (if j then judge_joins globals here parts 0 true at want scope else judge_chain globals here parts op at want scope) else no_type at want) t
  chain_back op parts at want scope t joins chains true e true h = joins h
  chain_back op parts at want scope t joins chains true e false h = chains h
  chain_back op parts at want scope t joins chains false e j h = absurd cc

  -- arguments as they are judged
  record Args (args : Trees) (ps : List Slot) (r : Option Ty) (scope : List Local) (t : Ty) : Type 0 where
    pub clean : Clean (judge_args globals here args ps scope).faults
    pub gives : Gives r (judge_args globals here args ps scope).type t
    pub number : count args ≡ length ps

  -- those behind the first one
  record Others (args : Trees) (ps : List Slot) (one : Ty) (scope : List Local) : Type 0 where
    pub clean : Clean (judge_others globals here args ps (Some one) scope).faults
    pub number : count args ≡ length ps

  finished_complete : (b : Bool) (f : Text) (at : ℕ) → b ≡ true → Clean (finished b f at).faults
  finished_complete true f at e = tt
  finished_complete false f at e = absurd cc

  call_back : (f : Text) (args : Trees) (at : ℕ) (want : Option Ty) (scope : List Local) (t : Ty)
      → ((ps : List Slot) (r : Option Ty) → AreSlots globals ps → ArgsHave globals here args ps r scope t → Args args ps r scope t)
      → (i : Option Item) → FoundTypes globals i → Calls here i (λ params result. ArgsHave globals here args params result scope t) → Asks want t
      → IsTyped (called globals here f at want (count args) (λ params. judge_args globals here args params scope) i) t
  call_back f args at want scope t each (Some (item.Function ps r after)) h k a =
      let m = each ps r h.0 k.1 in
      let one = (judge_args globals here args ps scope).type in
      let e = eq-eqb (length ps) (count args) (sym m.number) in
      let g = subst (λ b. IsTyped (counted b at want (given_type globals r one)) t) (sym e) (result_complete globals at want ps r one t h.1 m.gives a) in
      (g.0, (finished_complete (nat_le after here) f at (le_test after here k.0), (m.clean, g.1)))
  call_back f args at want scope t each (Some (item.Register w)) h k a = absurd k
  call_back f args at want scope t each (Some (item.Member e)) h k a = absurd k
  call_back f args at want scope t each (Some item.Enum) h k a = absurd k
  call_back f args at want scope t each None h k a = absurd k

  mutual
    pub complete : (e : Tree) (want : Option Ty) (scope : List Local) (t : Ty) → HasType globals here e want scope t → IsTyped (judge globals here e want scope) t
    complete (node at form) want scope t h = form_complete form at want scope t h

    form_complete : (form : Form) (at : ℕ) (want : Option Ty) (scope : List Local) (t : Ty) → FormHas globals here form want scope t → IsTyped (judge_form globals here form at want scope) t
    form_complete unit at want scope t h = fits_complete at want ty.Unit t h.0 h.1
    form_complete (lit b) at want scope t h = holds_complete (is_value b) at want (ty.Bits b.width) t (value_complete b h.0) h.1 h.2
    form_complete (truth b) at want scope t h = fits_complete at want ty.Bool t h.0 h.1
    form_complete (name x) at want scope t h =
        then_complete (read_name globals x at (look x scope)) (fits at want) t t (read_complete globals x at (look x scope) t h.0) (fits_complete at want t t refl h.1)
    form_complete (chain op parts) at want scope t h =
        chain_back op parts at want scope t (λ k. joins_complete parts 0 at want scope t k h.2) (λ k. chain_complete parts op at want scope t k h.2) (is_chain_of op (count parts)) h.0 (is_join op) h.1
    form_complete (flip of) at want scope t h =
        then_complete (bind (judge globals here of None scope) (bits_only (place_of of))) (fits at want) t t
        (then_complete (judge globals here of None scope) (bits_only (place_of of)) t t (complete of None scope t h.0) (bits_complete (place_of of) t h.1)) (fits_complete at want t t refl h.2)
    form_complete (slice of hi lo) at want scope t h =
        then_complete (bind (judge globals here of None scope) (bits_only (place_of of))) (λ w. indexed at want hi lo scope w (Some (ty.Bits (between hi lo)))) (ty.Bits h.0) t
        (operand_complete (judge globals here of None scope) (place_of of) h.0 (complete of None scope (ty.Bits h.0) h.1.0))
        (indexed_complete at want hi lo scope h.0 (ty.Bits (between hi lo)) t h.1.1 h.1.2 h.1.3)
    form_complete (update of hi lo by) at want scope t h =
        then_complete (bind (judge globals here of None scope) (bits_only (place_of of)))
        (λ w. bind (indexed at want hi lo scope w w) (λ k. bind (judge globals here by (Some (ty.Bits (between hi lo))) scope) (λ _. is k))) (ty.Bits h.0) t
        (operand_complete (judge globals here of None scope) (place_of of) h.0 (complete of None scope (ty.Bits h.0) h.1.0))
        (then_complete (indexed at want hi lo scope (Some (ty.Bits h.0)) (Some (ty.Bits h.0))) (λ k. bind (judge globals here by (Some (ty.Bits (between hi lo))) scope) (λ _. is k)) t t
        (indexed_complete at want hi lo scope h.0 (ty.Bits h.0) t h.1.1 h.1.3 h.1.4)
        (after_complete (judge globals here by (Some (ty.Bits (between hi lo))) scope) (is (Some t)) t (complete by (Some (ty.Bits (between hi lo))) scope (ty.Bits (between hi lo)) h.1.2).1 (refl, tt)))
    form_complete (call f args) at want scope t h =
        call_back f args at want scope t (λ ps r s k. args_complete args ps r scope t s k) (find f globals) (found_types globals globals types f) h.0 h.1
    form_complete (widen signed to of) at want scope t h =
        then_complete (bind (judge globals here of None scope) (bits_only (place_of of))) (λ w. where_holds (widens to w) at want (Some (ty.Bits to))) (ty.Bits h.0) t
        (operand_complete (judge globals here of None scope) (place_of of) h.0 (complete of None scope (ty.Bits h.0) h.1.0))
        (holds_complete (widens to (Some (ty.Bits h.0))) at want (ty.Bits to) t (widens_complete to h.0 h.1.1 h.1.2) h.1.3 h.1.4)
    form_complete (choose test one other) at want scope t h =
        let r = complete one want scope t h.1 in
        let q = or_asked want (judge globals here one want scope).type t r.0 (asks_of globals here one want scope t h.1) in
        let d = complete other (Some t) scope t h.2 in (
          ap (λ o. or_else o (judge globals here other (or_else want (judge globals here one want scope).type) scope).type) q,
          ((complete test (Some ty.Bool) scope ty.Bool h.0).1, (r.1, (subst (λ o. Clean (judge globals here other o scope).faults) (sym q) d.1, tt))),
        )
    form_complete (when test one) at want scope t h =
        let f = fits_complete at want ty.Unit t h.2 h.3 in
        (f.0, ((complete test (Some ty.Bool) scope ty.Bool h.0).1, ((complete one (Some ty.Unit) scope ty.Unit h.1).1, f.1)))
    form_complete (cases on arms) at want scope t h =
        then_complete (judge globals here on None scope) (λ u. if has_arm arms then judge_arms globals here arms u want scope else no_type at want) h.0 t
        (complete on None scope h.0 h.1.0) (arms_complete arms at h.0 want scope t h.1.1)
    form_complete (foreach x from to body) at want scope t h =
        let f = fits_complete at want ty.Unit t h.2 h.3 in
        (f.0, (taken_complete globals x at h.0, ((complete body (Some ty.Unit) (record { name = x; sort = Counts from to } ∷ scope) ty.Unit h.1).1, f.1)))
    form_complete (check test text) at want scope t h =
        let f = fits_complete at want ty.Unit t h.1 h.2 in (f.0, ((complete test (Some ty.Bool) scope ty.Bool h.0).1, f.1))
    form_complete exit at want scope t h = (ap Some (sym h), tt)
    form_complete (assign x by) at want scope t h =
        let f = fits_complete at want ty.Unit t h.1.2 h.1.3 in
        let d = (complete by (Some h.0) scope h.0 h.1.1).1 in
        let e = sym h.1.0 in
        let g = subst (λ k. IsTyped (assigned x at want k) t) e f in
        (g.0, (subst (λ k. Clean (judge globals here by (asked_of k) scope).faults) e d, g.1))
    form_complete (block steps) at want scope t h = steps_complete steps ending.Open at want scope t (open_at steps) h

    chain_complete : (parts : Trees) (op : Infix) (at : ℕ) (want : Option Ty) (scope : List Local) (t : Ty) → ChainHas globals here parts op scope t → Asks want t
        → IsTyped (judge_chain globals here parts op at want scope) t
    chain_complete none op at want scope t h a = absurd h
    chain_complete (some p rest) op at want scope t h a =
        let r = then_complete (judge globals here p None scope) (heads op (place_of p)) h.0 h.0 (complete p None scope h.0 h.1.0) (heads_complete op (place_of p) h.0 h.1.1) in
        then_complete (bind (judge globals here p None scope) (heads op (place_of p))) (λ one. bind (judge_rest globals here rest one scope) (λ _. fits at want (chain_type op one))) h.0 t r
        (after_complete (judge_rest globals here rest (Some h.0) scope) (fits at want (chain_type op (Some h.0))) t (rest_complete rest h.0 scope h.1.2)
        (subst (λ o. IsTyped (fits at want o) t) (sym (chain_found op h.0 t h.1.3)) (fits_complete at want t t refl a)))

    rest_complete : (rest : Trees) (u : Ty) (scope : List Local) → AllHave globals here rest u scope → Clean (judge_rest globals here rest (Some u) scope).faults
    rest_complete none u scope h = tt
    rest_complete (some p rest) u scope h = ((complete p (Some u) scope u h.0).1, rest_complete rest u scope h.1)

    joins_complete : (parts : Trees) (total at : ℕ) (want : Option Ty) (scope : List Local) (t : Ty) → JoinHas globals here parts total scope t → Asks want t
        → IsTyped (judge_joins globals here parts total true at want scope) t
    joins_complete none total at want scope t h a = holds_complete (nat_le total 128) at want (ty.Bits total) t (le_test total 128 h.0) h.1 a
    joins_complete (some p rest) total at want scope t h a =
        let o = operand_complete (judge globals here p None scope) (place_of p) h.0 (complete p None scope (ty.Bits h.0) h.1.0) in
        let e = widened_of total h.0 128 (joins_grow globals types here rest (total + h.0) scope t h.1.1) (omega arith) in
        let m = joins_complete rest (widened total h.0) at want scope t (subst (λ k. JoinHas globals here rest k scope t) (sym e) h.1.1) a in
        then_complete (bind (judge globals here p None scope) (bits_only (place_of p))) (λ w. judge_joins globals here rest (widened total (least_width w)) (true && is_known w) at want scope) (ty.Bits h.0) t o m

    arg_complete : (a : Tree) (q : Slot) (one : Option Ty) (scope : List Local) (u : Ty) → IsSlot globals q → HasType globals here a (slot_asks q one) scope u → SlotTakes q u
        → IsTyped (bind (judge globals here a (asked_slot globals (Some q) one) scope) (narrowed (Some q) (place_of a))) u
    arg_complete (node at form) q one scope u s h k =
        subst (λ o. IsTyped (bind (judge_form globals here form at o scope) (narrowed (Some q) at)) u) (sym (slot_is globals q one s))
        (then_complete (judge_form globals here form at (slot_asks q one) scope) (narrowed (Some q) at) u u (form_complete form at (slot_asks q one) scope u h) (narrowed_complete globals q at u k))

    args_complete : (args : Trees) (ps : List Slot) (r : Option Ty) (scope : List Local) (t : Ty) → AreSlots globals ps → ArgsHave globals here args ps r scope t → Args args ps r scope t
    args_complete none [] r scope t s h = record { clean = tt; gives = h; number = refl }
    args_complete none (q ∷ qs) r scope t s h = absurd h
    args_complete (some a rest) [] r scope t s h = absurd h
    args_complete (some a rest) (q ∷ qs) r scope t s h =
        let k = slots globals q qs s in
        let o = arg_complete a q None scope h.0 k.one h.1.0 h.1.1 in
        let d = others_complete rest qs h.0 scope k.others h.1.2 in
        let m = d.number in
        record {
          clean = (o.1, (subst (λ v. Clean (judge_others globals here rest qs v scope).faults) (sym o.0) d.clean, tt));
          gives = subst (λ v. Gives r v t) (sym o.0) h.1.3;
          number = omega (arith, m);
        }

    others_complete : (args : Trees) (ps : List Slot) (one : Ty) (scope : List Local) → AreSlots globals ps → OthersHave globals here args ps one scope → Others args ps one scope
    others_complete none [] one scope s h = record { clean = tt; number = refl }
    others_complete none (q ∷ qs) one scope s h = absurd h
    others_complete (some a rest) [] one scope s h = absurd h
    others_complete (some a rest) (q ∷ qs) one scope s h =
        let k = slots globals q qs s in
        let o = arg_complete a q (Some one) scope h.0 k.one h.1.0 h.1.1 in
        let d = others_complete rest qs one scope k.others h.1.2 in
        let m = d.number in
        record { clean = (o.1, d.clean); number = omega (arith, m) }

    arms_complete : (arms : Cases) (at : ℕ) (u : Ty) (want : Option Ty) (scope : List Local) (t : Ty) → ArmsHave globals here arms u want scope t
        → IsTyped (if has_arm arms then judge_arms globals here arms (Some u) want scope else no_type at want) t
    arms_complete no_case at u want scope t h = absurd h
    arms_complete (case (arm p body) rest) at u want scope t h =
        let r = complete body want (entered globals p (Some u) scope) t h.1 in
        let q = or_asked want (judge globals here body want (entered globals p (Some u) scope)).type t r.0 (asks_of globals here body want (entered globals p (Some u) scope) t h.1) in
        let m = more_complete rest u t scope h.2 in (
          ap (λ o. (judge_arms globals here rest (Some u) o scope).type) q ∙ m.0,
          (pattern_complete globals p (place_of body) u h.0, (r.1, subst (λ o. Clean (judge_arms globals here rest (Some u) o scope).faults) (sym q) m.1)),
        )

    more_complete : (arms : Cases) (u t : Ty) (scope : List Local) → RestHave globals here arms u scope t → IsTyped (judge_arms globals here arms (Some u) (Some t) scope) t
    more_complete no_case u t scope h = (refl, tt)
    more_complete (case (arm p body) rest) u t scope h =
        let r = complete body (Some t) (entered globals p (Some u) scope) t h.1 in
        let m = more_complete rest u t scope h.2 in
        (m.0, (pattern_complete globals p (place_of body) u h.0, (r.1, m.1)))

    steps_complete : (steps : Steps) (last : Ending) (at : ℕ) (want : Option Ty) (scope : List Local) (t : Ty) → OpenAt steps last → StepsHave globals here steps want scope t
        → IsTyped (judge_steps globals here steps last at want scope) t
    steps_complete done ending.Open at want scope t o h = fits_complete at want ty.Unit t h.0 h.1
    steps_complete done (ending.Value k) at want scope t o h = absurd o
    steps_complete (next (does e) done) last at want scope t o h = let r = complete e want scope t h in (r.0, (r.1, tt))
    steps_complete (next (does e) (next s rest)) last at want scope t o h =
        let r = steps_complete (next s rest) (ending.Value (judge globals here e (Some ty.Unit) scope).type) at want scope t tt h.1 in
        (r.0, ((complete e (Some ty.Unit) scope ty.Unit h.0).1, r.1))
    steps_complete (next (binds x d by) rest) last at want scope t o h =
        let l = local_complete x d by scope h.0 h.1.0 h.1.1 h.1.2 in
        let r = steps_complete rest ending.Open at want (record { name = x; sort = Holds (Some h.0) false } ∷ scope) t (open_at rest) h.1.3 in
        let m = subst (λ k. IsTyped (judge_steps globals here rest ending.Open at want (record { name = x; sort = Holds k false } ∷ scope)) t) (sym l.0) r in
        (m.0, (l.1, m.1))
    steps_complete (next (holds x d by) rest) last at want scope t o h =
        let l = local_complete x d by scope h.0 h.1.0 h.1.1 h.1.2 in
        let r = steps_complete rest ending.Open at want (record { name = x; sort = Holds (Some h.0) true } ∷ scope) t (open_at rest) h.1.3 in
        let m = subst (λ k. IsTyped (judge_steps globals here rest ending.Open at want (record { name = x; sort = Holds k true } ∷ scope)) t) (sym l.0) r in
        (m.0, (l.1, m.1))

    local_complete : (x : Text) (d : Option Ty) (by : Tree) (scope : List Local) (u : Ty) → MayBeType globals d → IsFree globals x → HasType globals here by d scope u
        → IsTyped (local globals x d (place_of by) (λ a. judge globals here by a scope)) u
    local_complete x d (node q form) scope u y f h =
        let e = maybe_complete globals q d y in
        let r = form_complete form q d scope u h in
        let g = ap (λ a. (judge_form globals here form q a scope).type) e.0 ∙ r.0 in
        let t = local_is d (maybe_written globals q d).type (judge_form globals here form q (maybe_written globals q d).type scope).type u e.0 g (asks_of globals here (node q form) d scope u h) in
        (t, (e.1, (taken_complete globals x q f, (subst (λ a. Clean (judge_form globals here form q a scope).faults) (sym e.0) r.1, tt))))
