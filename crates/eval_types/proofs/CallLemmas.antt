-- A function of a typed program is what its name stands for, and calls of it keep types.
use Rattle.std.proofs.Common.{◌≡◌, ℕ, zero, suc, ◌+◌, Bool, true, false, cond, List, [], ◌∷◌, ◌++◌, map, length, reverse, Option, Some, None, refl, ap, sym, ◌∙◌, subst, arith, append_assoc}
use Rattle.std.specs.Prelude.{bytes_eq, if◌then◌else◌, slice_get, codes}
use Rattle.std.proofs.lemmas.Bool.{and_parts, false≢true}
use Rattle.std.proofs.lemmas.List.{append-nil, map-append}
use Rattle.std.proofs.lemmas.Option.{slice_get_within}
use Rattle.std.proofs.lemmas.Slice.Eq.{bytes_eq-Decides}
use Rattle.bv_bits.specs.declared.Bits.{Bits}
use Rattle.bv_bits.specs.Bits.{IsBits}
use Rattle.sail_syntax.specs.Tree.{Text}
use Rattle.sail_syntax.specs.Types.{is_same_type}
use Rattle.sail_syntax.specs.Program.{Definition, Function, order, register, enumeration, signature, function, function_of}
use Rattle.sail_syntax.specs.declared.types.Ty.TheVariants as ty
use Rattle.sail_syntax.specs.declared.types.Param.{Param}
use Rattle.state_core.specs.World.{World}
use Rattle.state_core.specs.declared.kinds.Range.{Range}
use Rattle.sail_values.specs.declared.value.Value.{Value}
use Rattle.sail_values.specs.declared.value.Value.TheVariants as value
use Rattle.sail_names.specs.declared.things.Thing.{Thing}
use Rattle.sail_names.specs.declared.things.Thing.TheVariants as thing
use Rattle.sail_names.specs.Things.{find_thing, things_of}
use Rattle.type_rules.specs.declared.scope.Entry.{Entry}
use Rattle.type_rules.specs.declared.scope.Item.{Item}
use Rattle.type_rules.specs.declared.scope.Item.TheVariants as item
use Rattle.type_rules.specs.Names.{find, Declared, declares, declared_from, slots_of, prelude, entry_of}
use Rattle.type_rules.specs.Program.{takes_word, is_of_word, has_word, may_have_word, instr_of}
use Rattle.type_rules.specs.IsTyped.{AreNew, IsTypedProgram}
use Rattle.type_rules.proofs.RuleLemmas.{same_is}
use Rattle.eval_rules.specs.Eval.{Calls, called, calls_of, setting_of, call_of}
use Rattle.eval_types.specs.Types.{IsOfType, AreOfTypes, StateFits}
use Rattle.eval_types.specs.Keeps.{Ends, CallsKeepTypes, InstrKeepsTypes, Instr16KeepsTypes}
use Rattle.eval_types.proofs.ValueLemmas.{as_unit}
use Rattle.eval_types.proofs.FlowLemmas.{ends_map}
use Rattle.eval_types.proofs.GivenLemmas.{Accesses}
use Rattle.eval_types.proofs.ThingLemmas.{AsFound, found}
use Rattle.eval_types.proofs.KeepLemmas.{CallsKeep}
use Rattle.eval_types.proofs.ProgramLemmas.{all_kept}

-- ---- new names

-- the first of its name
find_new : (x : Text) (before : List Entry) (e : Entry) (es : List Entry) → find x before ≡ None → e.name ≡ x → find x (before ++ e ∷ es) ≡ Some e.item
find_new x [] e es h n = ap (λ b. if b then Some e.item else find x es) ((bytes_eq-Decides e.name x).1 n)
find_new x (d ∷ before) e es h n = step (bytes_eq d.name x) (find_new x before e es) h
  where
    step : (b : Bool) → (find x before ≡ None → e.name ≡ x → find x (before ++ e ∷ es) ≡ Some e.item) → (if b then Some d.item else find x before) ≡ None → (if b then Some d.item else find x (before ++ e ∷ es)) ≡ Some e.item
    step true r k = absurd cc
    step false r k = r k n

new_after : (before : List Entry) (xs ys : List Declared) → AreNew before (xs ++ ys) → AreNew (before ++ map entry_of xs) ys
new_after before [] ys h = subst (λ es. AreNew es ys) (sym (append-nil before)) h
new_after before (x ∷ xs) ys h = subst (λ es. AreNew es ys) (append_assoc before (x.entry ∷ []) (map entry_of xs)) (new_after (before ++ x.entry ∷ []) xs ys h.1)

-- what a function's name stands for
abbrev pub function_item : Function → ℕ → Option Item
function_item f i = Some (item.Function (slots_of f.params) (Some f.result) (i + 1))

new_found : (before : List Entry) (ds : List Definition) (i n : ℕ) (f : Function) → AreNew before (declared_from ds i) → slice_get ds n ≡ Some (function f) → find f.name (before ++ map entry_of (declared_from ds i)) ≡ function_item f (i + n)
new_found before [] i n f h e = absurd cc
new_found before (d ∷ ds) i zero f h e = first d (some_first d f e) h
  where
    some_first : (d : Definition) (f : Function) → Some d ≡ Some (function f) → d ≡ function f
    some_first d f e = cc

    first : (d : Definition) → d ≡ function f → AreNew before (declares d i ++ declared_from ds (i + 1)) → find f.name (before ++ map entry_of (declares d i ++ declared_from ds (i + 1))) ≡ function_item f (i + zero)
    first d k h =
        let g = subst (λ d. AreNew before (declares d i ++ declared_from ds (i + 1))) k h in
        let z : i ≡ i + zero = omega arith in
        subst (λ d. find f.name (before ++ map entry_of (declares d i ++ declared_from ds (i + 1))) ≡ function_item f (i + zero)) (sym k)
        (find_new f.name before (record { name = f.name; item = item.Function (slots_of f.params) (Some f.result) (i + 1) }) (map entry_of (declared_from ds (i + 1))) g.0 refl ∙ ap (function_item f) z)
new_found before (d ∷ ds) i (suc n) f h e =
    let r = new_found (before ++ map entry_of (declares d i)) ds (i + 1) n f (new_after before (declares d i) (declared_from ds (i + 1)) h) e in
    let k : i + 1 + n ≡ i + suc n = omega arith in
    let m = ap (λ es. before ++ es) (map-append entry_of (declares d i) (declared_from ds (i + 1))) ∙ sym (append_assoc before (map entry_of (declares d i)) (map entry_of (declared_from ds (i + 1)))) in
    ap (find f.name) m ∙ r ∙ ap (function_item f) k

-- ---- calls

module _ (defs : List Definition) (ranges : List Range) (calls : Calls) (kept : CallsKeep defs (length defs) calls) where
  named_call : (i : ℕ) (f : Function) (at : ℕ) (vs : List Value) (world : World) → slice_get defs i ≡ Some (function f) → AreOfTypes defs vs f.params → StateFits defs world.state
      → (o : Option Thing) → AsFound defs (function_item f i) o → Ends defs (λ after. after ≡ []) (λ v. IsOfType defs v f.result) (called (setting_of defs ranges) calls o at vs [] world)
  named_call i f at vs world e h s (Some (thing.Function n)) k =
      let j : n ≡ i = let b = k.behind in omega (arith, b) in
      let g : slice_get defs n ≡ Some (function f) = ap (slice_get defs) j ∙ e in
      kept n f vs [] world (let w = slice_get_within defs n (function f) g in omega (arith, w)) g h s
  named_call i f at vs world e h s (Some (thing.Given g)) k = let b = k.first in absurd (omega (arith, b))
  named_call i f at vs world e h s (Some (thing.Register r)) k = absurd k
  named_call i f at vs world e h s (Some (thing.Member of n)) k = absurd k
  named_call i f at vs world e h s None k = absurd k

-- what evaluation finds of the name of a function of the program
pub function_found : (defs : List Definition) (i : ℕ) (f : Function) → IsTypedProgram defs → slice_get defs i ≡ Some (function f) → AsFound defs (function_item f i) (find_thing f.name (things_of defs))
function_found defs i f p e =
    let z : 0 + i ≡ i = omega arith in
    subst (λ o. AsFound defs o (find_thing f.name (things_of defs))) (new_found prelude defs 0 i f p.names e ∙ ap (function_item f) z) (found defs f.name)

pub calls_keep_types : ((ranges : List Range) → Accesses ranges) → CallsKeepTypes
calls_keep_types accesses defs ranges i f at vs world p e h s =
    named_call defs ranges (calls_of (setting_of defs ranges) (reverse defs)) (all_kept defs ranges (accesses ranges) p.definitions) i f at vs world e h s (find_thing f.name (things_of defs))
    (function_found defs i f p e)

-- ---- words

-- a function of a program, with its number
pub record Numbered (defs : List Definition) (x : Text) (f : Function) : Type 0 where
  pub number : ℕ
  pub is : slice_get defs number ≡ Some (function f)
  pub name : f.name ≡ x

one_more : (d : Definition) (ds : List Definition) (x : Text) (f : Function) → Numbered ds x f → Numbered (d ∷ ds) x f
one_more d ds x f h = record { number = suc h.number; is = h.is; name = h.name }

pub numbered : (ds : List Definition) (x : Text) (f : Function) → function_of ds x ≡ Some f → Numbered ds x f
numbered [] x f h = absurd cc
numbered (order ∷ ds) x f h = one_more order ds x f (numbered ds x f h)
numbered (register y w at ∷ ds) x f h = one_more (register y w at) ds x f (numbered ds x f h)
numbered (enumeration y ms at ∷ ds) x f h = one_more (enumeration y ms at) ds x f (numbered ds x f h)
numbered (signature y args result at ∷ ds) x f h = one_more (signature y args result at) ds x f (numbered ds x f h)
numbered (function d ∷ ds) x f h = step (bytes_eq d.name x) refl (numbered ds x f) h
  where
    some_is : (d f : Function) → Some d ≡ Some f → d ≡ f
    some_is d f h = cc

    step : (b : Bool) → bytes_eq d.name x ≡ b → (function_of ds x ≡ Some f → Numbered ds x f) → cond b (Some d) (function_of ds x) ≡ Some f → Numbered (function d ∷ ds) x f
    step true p r k = let e = some_is d f k in record { number = zero; is = ap (λ f. Some (function f)) e; name = ap (λ f. f.name) (sym e) ∙ (bytes_eq-Decides d.name x).0 p }
    step false p r k = one_more (function d) ds x f (r k)

pub word_fits : (defs : List Definition) (w : ℕ) (b : Bits) (ps : List Param) → takes_word w ps ≡ true → IsBits b → b.width ≡ w → AreOfTypes defs (value.Bits b ∷ []) ps
word_fits defs w b [] h f e = absurd cc
word_fits defs w b (p ∷ []) h f e = ((f, same_is p.ty (ty.Bits w) h ∙ ap ty.Bits (sym e)), tt)
word_fits defs w b (p ∷ q ∷ ps) h f e = absurd cc

word_call : ((ranges : List Range) → Accesses ranges) → (defs : List Definition) (ranges : List Range) (x : Text) (w : ℕ) (f : Function) (at : ℕ) (b : Bits) (world : World) → IsTypedProgram defs → function_of defs x ≡ Some f → is_of_word w f ≡ true
    → IsBits b → b.width ≡ w → StateFits defs world.state → Ends defs (λ after. after ≡ []) (λ v. v ≡ value.Unit) (call_of defs ranges x at (value.Bits b ∷ []) world)
word_call accesses defs ranges x w f at b world p h k g e s =
    let n = numbered defs x f h in
    let q = and_parts (takes_word w f.params) (is_same_type f.result ty.Unit) k in
    let r = same_is f.result ty.Unit q.1 in
    ends_map defs (λ after. after ≡ []) (λ after. after ≡ []) (λ v. IsOfType defs v f.result) (λ v. v ≡ value.Unit) (call_of defs ranges x at (value.Bits b ∷ []) world)
    (subst (λ x. Ends defs (λ after. after ≡ []) (λ v. IsOfType defs v f.result) (call_of defs ranges x at (value.Bits b ∷ []) world)) n.name
    (calls_keep_types accesses defs ranges n.number f at (value.Bits b ∷ []) world p n.is (word_fits defs w b f.params q.0 g e) s))
    (λ ls l. l) (λ v t. as_unit defs v (subst (IsOfType defs v) r t))

pub instr_keeps_types : ((ranges : List Range) → Accesses ranges) → InstrKeepsTypes
instr_keeps_types accesses defs ranges at b world p g e s = step (instr_of defs) refl p.instr
  where
    step : (o : Option Function) → instr_of defs ≡ o → has_word 32 o ≡ true → Ends defs (λ after. after ≡ []) (λ v. v ≡ value.Unit) (call_of defs ranges (codes "instr") at (value.Bits b ∷ []) world)
    step (Some f) h k = word_call accesses defs ranges (codes "instr") 32 f at b world p h k g e s
    step None h k = absurd (false≢true k)

pub instr16_keeps_types : ((ranges : List Range) → Accesses ranges) → Instr16KeepsTypes
instr16_keeps_types accesses defs ranges f at b world p h g e s =
    word_call accesses defs ranges (codes "instr16") 16 f at b world p h (subst (λ o. may_have_word 16 o ≡ true) h p.instr16) g e s
