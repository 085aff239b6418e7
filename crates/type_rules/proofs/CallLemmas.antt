-- Calls, against what the judgement says of them.
use Rattle.std.proofs.Common.{◌≡◌, ℕ, ◌+◌, Bool, true, false, List, [], ◌∷◌, length, Option, Some, None, refl, sym, ap, ◌∙◌, subst}
use Rattle.std.specs.Prelude.{⊤, bytes_eq, if◌then◌else◌}
use Rattle.sail_syntax.specs.Tree.{Text}
use Rattle.sail_syntax.specs.declared.types.Ty.{Ty}
use Rattle.sail_syntax.specs.declared.types.Ty.TheVariants as ty
use Rattle.type_rules.specs.declared.scope.Entry.{Entry}
use Rattle.type_rules.specs.declared.scope.Item.{Item}
use Rattle.type_rules.specs.declared.scope.Item.TheVariants as item
use Rattle.type_rules.specs.declared.scope.Slot.{Slot}
use Rattle.type_rules.specs.declared.scope.Slot.TheVariants as slot
use Rattle.type_rules.specs.Faults.{Clean}
use Rattle.type_rules.specs.Names.{find, known}
use Rattle.type_rules.specs.Rules.{is, narrowed, finished, counted, asked_slot, given_type}
use Rattle.type_rules.specs.HasType.{Asks, IsType, slot_asks, SlotTakes, Gives}
use Rattle.type_rules.specs.Laws.{IsTyped, AreSlots, IsResult, HasTypes, AllHaveTypes}
use Rattle.type_rules.proofs.RuleLemmas.{Found, Held, fits_sound, fits_complete, bits_sound, bits_complete}
use Rattle.type_rules.proofs.NameLemmas.{known_is}

module _ (globals : List Entry) where
  -- what a name stands for has types
  abbrev pub FoundTypes : Option Item → Type 0
  FoundTypes (Some i) = HasTypes globals i
  FoundTypes None = ⊤

  pub found_types : (es : List Entry) → AllHaveTypes globals es → (x : Text) → FoundTypes (find x es)
  found_types [] h x = tt
  found_types (e ∷ rest) h x = step (bytes_eq e.name x) (found_types rest h.1 x)
    where
      step : (b : Bool) → FoundTypes (find x rest) → FoundTypes (if b then Some e.item else find x rest)
      step true r = h.0
      step false r = r

  -- what is asked of an argument is a type
  abbrev pub IsSlot : Slot → Type 0
  IsSlot (slot.Is q) = IsType globals q
  IsSlot slot.AnyBits = ⊤
  IsSlot slot.Alike = ⊤

  -- of the first argument, and of the others
  pub record Slots (q : Slot) (qs : List Slot) : Type 0 where
    pub one : IsSlot q
    pub others : AreSlots globals qs

  pub slots : (q : Slot) (qs : List Slot) → AreSlots globals (q ∷ qs) → Slots q qs
  slots (slot.Is t) qs h = record { one = h.0; others = h.1 }
  slots slot.AnyBits qs h = record { one = tt; others = h }
  slots slot.Alike qs h = record { one = tt; others = h }

  pub slot_is : (q : Slot) (one : Option Ty) → IsSlot q → asked_slot globals (Some q) one ≡ slot_asks q one
  slot_is (slot.Is t) one h = known_is globals t h
  slot_is slot.AnyBits one h = refl
  slot_is slot.Alike one h = refl

  pub narrowed_sound : (q : Slot) (at : ℕ) (u : Ty) → Clean (narrowed (Some q) at (Some u)).faults → Found (narrowed (Some q) at (Some u)) (λ t. (t ≡ u) × SlotTakes q t)
  narrowed_sound (slot.Is q) at u c = record { type = u; is = refl; has = (refl, tt) }
  narrowed_sound slot.AnyBits at u c = bits_sound at u c
  narrowed_sound slot.Alike at u c = record { type = u; is = refl; has = (refl, tt) }

  pub narrowed_complete : (q : Slot) (at : ℕ) (u : Ty) → SlotTakes q u → IsTyped (narrowed (Some q) at (Some u)) u
  narrowed_complete (slot.Is q) at u h = (refl, tt)
  narrowed_complete slot.AnyBits at u h = bits_complete at u h
  narrowed_complete slot.Alike at u h = (refl, tt)

  pub finished_sound : (b : Bool) (f : Text) (at : ℕ) → Clean (finished b f at).faults → b ≡ true
  finished_sound true f at c = refl
  finished_sound false f at c = absurd c

  -- a first argument is there where the function gives its type
  abbrev pub IsFirst : List Slot → Option Ty → Type 0
  IsFirst [] one = ⊤
  IsFirst (q ∷ qs) (Some u) = ⊤
  IsFirst (q ∷ qs) None = ⊥

  -- what a call gives
  pub result_sound : (at : ℕ) (want : Option Ty) (ps : List Slot) (r one : Option Ty) → IsResult globals ps r → IsFirst ps one → Clean (counted true at want (given_type globals r one)).faults
      → Found (counted true at want (given_type globals r one)) (λ t. Gives r one t × Asks want t)
  result_sound at want ps (Some k) one h f c =
      let e = known_is globals k h in
      let g = fits_sound at want k (subst (λ o. Clean (counted true at want o).faults) e c) in
      record { type = g.type; is = ap (λ o. (counted true at want o).type) e ∙ g.is; has = (sym g.has.0, g.has.1) }
  result_sound at want [] None one h f c = absurd h
  result_sound at want (q ∷ qs) None (Some u) h f c =
      let g = fits_sound at want u c in record { type = g.type; is = g.is; has = (ap Some (sym g.has.0), g.has.1) }
  result_sound at want (q ∷ qs) None None h f c = absurd f

  pub result_complete : (at : ℕ) (want : Option Ty) (ps : List Slot) (r one : Option Ty) (t : Ty) → IsResult globals ps r → Gives r one t → Asks want t
      → IsTyped (counted true at want (given_type globals r one)) t
  result_complete at want ps (Some k) one t h g a = subst (λ o. IsTyped (counted true at want o) t) (sym (known_is globals k h)) (fits_complete at want k t (sym g) a)
  result_complete at want ps None one t h g a = subst (λ o. IsTyped (counted true at want o) t) (sym g) (fits_complete at want t t refl a)

  pub count_sound : (b : Bool) (at : ℕ) (want o : Option Ty) → Clean (counted b at want o).faults → b ≡ true
  count_sound true at want o c = refl
  count_sound false at want o c = absurd c.0
