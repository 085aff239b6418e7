-- How the counts change with one more definition.
use Rattle.std.proofs.Common.{◌≡◌, ℕ, suc, ◌+◌, ◌≤◌, ◌<◌, ◌⊎◌, inl, inr, Bool, true, false, List, [], ◌∷◌, ◌++◌, length, map, Option, Some, None, refl, sym, ap, subst, ◌∙◌, arith}
use Rattle.std.specs.Prelude.{if◌then◌else◌, nat_lt}
use Rattle.std.specs.List.{filter}
use Rattle.std.proofs.lemmas.Bool.Decides.{leb_tells}
use Rattle.sail_syntax.specs.Program.{Definition, order, register, enumeration, signature, function}
use Rattle.sail_syntax.specs.View.{definition_of}
use Rattle.sail_syntax.specs.declared.definitions.Def.{Def}
use Rattle.sail_counts.specs.declared.definitions.Counted.{Counted}
use Rattle.sail_counts.specs.declared.definitions.Counted.TheVariants as counted
use Rattle.sail_counts.specs.Counts.{kind_of, counted_of, capped, one_more, of_kind, HasCounts}

cons_length : (b : Bool) (x : Definition) (all xs : List Definition) (n : ℕ) → length all ≡ length xs + n → length (if b then x ∷ all else all) ≡ length (if b then x ∷ xs else xs) + n
cons_length true x all xs n h = omega (arith, h)
cons_length false x all xs n h = h

none_more : (p : Definition → Bool) (ds : List Def) (d : Def) → p (definition_of d) ≡ false → length (filter p (map definition_of (ds ++ d ∷ []))) ≡ length (filter p (map definition_of ds))
none_more p [] d h = rw h refl
none_more p (x ∷ ds) d h = cons_length (p (definition_of x)) (definition_of x) (filter p (map definition_of (ds ++ d ∷ []))) (filter p (map definition_of ds)) 0 (none_more p ds d h ∙ omega arith) ∙ omega arith

one_longer : (p : Definition → Bool) (ds : List Def) (d : Def) → p (definition_of d) ≡ true → length (filter p (map definition_of (ds ++ d ∷ []))) ≡ length (filter p (map definition_of ds)) + 1
one_longer p [] d h = rw h (omega arith)
one_longer p (x ∷ ds) d h = cons_length (p (definition_of x)) (definition_of x) (filter p (map definition_of (ds ++ d ∷ []))) (filter p (map definition_of ds)) 1 (one_longer p ds d h)

abbrev Tells : ℕ → Type 0
Tells n = ((nat_lt n 1024 ≡ true) × (suc n ≤ 1024)) ⊎ ((nat_lt n 1024 ≡ false) × (1024 < suc n))

capped_by : (n : ℕ) → Tells n → Tells (n + 1) → capped (n + 1) ≡ one_more (capped n)
capped_by n (inl is) (inl more) = rw is.0 (rw is.0 (rw more.0 refl))
capped_by n (inl is) (inr more) = rw is.0 (rw is.0 (rw more.0 (omega (arith, is.1, more.1))))
capped_by n (inr is) (inl more) = omega (arith, is.1, more.1)
capped_by n (inr is) (inr more) = rw is.0 (rw more.0 refl)

capped_more : (n : ℕ) → capped (n + 1) ≡ one_more (capped n)
capped_more n = capped_by n (leb_tells (suc n) 1024) (leb_tells (suc (n + 1)) 1024)

same_count : (kind : Counted) (ds : List Def) (d : Def) → kind_of kind (definition_of d) ≡ false → of_kind kind (ds ++ d ∷ []) ≡ of_kind kind ds
same_count kind ds d h = ap capped (none_more (kind_of kind) ds d h)

next_count : (kind : Counted) (ds : List Def) (d : Def) → kind_of kind (definition_of d) ≡ true → of_kind kind (ds ++ d ∷ []) ≡ one_more (of_kind kind ds)
next_count kind ds d h = ap capped (one_longer (kind_of kind) ds d h) ∙ capped_more (length (filter (kind_of kind) (map definition_of ds)))

-- what a definition is counted as
pub record IsOf (d : Definition) (a b c : Bool) : Type 0 where
  pub register_is : kind_of counted.Register d ≡ a
  pub enum_is : kind_of counted.Enum d ≡ b
  pub function_is : kind_of counted.Function d ≡ c

is_none : (d : Definition) → counted_of d ≡ None → IsOf d false false false
is_none order h = record { register_is = refl; enum_is = refl; function_is = refl }
is_none (register x w at) h = absurd cc
is_none (enumeration x members at) h = absurd cc
is_none (signature x args result at) h = record { register_is = refl; enum_is = refl; function_is = refl }
is_none (function f) h = absurd cc

is_register : (d : Definition) → counted_of d ≡ Some counted.Register → IsOf d true false false
is_register order h = absurd cc
is_register (register x w at) h = record { register_is = refl; enum_is = refl; function_is = refl }
is_register (enumeration x members at) h = absurd cc
is_register (signature x args result at) h = absurd cc
is_register (function f) h = absurd cc

is_enum : (d : Definition) → counted_of d ≡ Some counted.Enum → IsOf d false true false
is_enum order h = absurd cc
is_enum (register x w at) h = absurd cc
is_enum (enumeration x members at) h = record { register_is = refl; enum_is = refl; function_is = refl }
is_enum (signature x args result at) h = absurd cc
is_enum (function f) h = absurd cc

is_function : (d : Definition) → counted_of d ≡ Some counted.Function → IsOf d false false true
is_function order h = absurd cc
is_function (register x w at) h = absurd cc
is_function (enumeration x members at) h = absurd cc
is_function (signature x args result at) h = absurd cc
is_function (function f) h = record { register_is = refl; enum_is = refl; function_is = refl }

with_none : (ds : List Def) (d : Def) (r e f : ℕ) → HasCounts ds r e f → counted_of (definition_of d) ≡ None → HasCounts (ds ++ d ∷ []) r e f
with_none ds d r e f h is =
    let of = is_none (definition_of d) is in
    record { registers_are = h.registers_are ∙ sym (same_count counted.Register ds d of.register_is); enums_are = h.enums_are ∙ sym (same_count counted.Enum ds d of.enum_is); functions_are = h.functions_are ∙ sym (same_count counted.Function ds d of.function_is) }

with_register : (ds : List Def) (d : Def) (r e f : ℕ) → HasCounts ds r e f → counted_of (definition_of d) ≡ Some counted.Register → HasCounts (ds ++ d ∷ []) (one_more r) e f
with_register ds d r e f h is =
    let of = is_register (definition_of d) is in
    record { registers_are = ap one_more h.registers_are ∙ sym (next_count counted.Register ds d of.register_is); enums_are = h.enums_are ∙ sym (same_count counted.Enum ds d of.enum_is); functions_are = h.functions_are ∙ sym (same_count counted.Function ds d of.function_is) }

with_enum : (ds : List Def) (d : Def) (r e f : ℕ) → HasCounts ds r e f → counted_of (definition_of d) ≡ Some counted.Enum → HasCounts (ds ++ d ∷ []) r (one_more e) f
with_enum ds d r e f h is =
    let of = is_enum (definition_of d) is in
    record { registers_are = h.registers_are ∙ sym (same_count counted.Register ds d of.register_is); enums_are = ap one_more h.enums_are ∙ sym (next_count counted.Enum ds d of.enum_is); functions_are = h.functions_are ∙ sym (same_count counted.Function ds d of.function_is) }

with_function : (ds : List Def) (d : Def) (r e f : ℕ) → HasCounts ds r e f → counted_of (definition_of d) ≡ Some counted.Function → HasCounts (ds ++ d ∷ []) r e (one_more f)
with_function ds d r e f h is =
    let of = is_function (definition_of d) is in
    record { registers_are = h.registers_are ∙ sym (same_count counted.Register ds d of.register_is); enums_are = h.enums_are ∙ sym (same_count counted.Enum ds d of.enum_is); functions_are = ap one_more h.functions_are ∙ sym (next_count counted.Function ds d of.function_is) }

pub counts_none : (ds ds' : List Def) (d : Def) (r e f : ℕ) (k : Option Counted) → HasCounts ds r e f → ds' ≡ ds ++ d ∷ [] → k ≡ counted_of (definition_of d) → k ≡ None → HasCounts ds' r e f
counts_none ds ds' d r e f k h is as_ kind = subst (λ l. HasCounts l r e f) (sym is) (with_none ds d r e f h (sym as_ ∙ kind))

pub counts_register : (ds ds' : List Def) (d : Def) (r e f r' : ℕ) (k : Option Counted) → HasCounts ds r e f → ds' ≡ ds ++ d ∷ [] → k ≡ counted_of (definition_of d) → k ≡ Some counted.Register → r' ≡ one_more r → HasCounts ds' r' e f
counts_register ds ds' d r e f r' k h is as_ kind more = subst (λ l. HasCounts l r' e f) (sym is) (subst (λ n. HasCounts (ds ++ d ∷ []) n e f) (sym more) (with_register ds d r e f h (sym as_ ∙ kind)))

pub counts_enum : (ds ds' : List Def) (d : Def) (r e f e' : ℕ) (k : Option Counted) → HasCounts ds r e f → ds' ≡ ds ++ d ∷ [] → k ≡ counted_of (definition_of d) → k ≡ Some counted.Enum → e' ≡ one_more e → HasCounts ds' r e' f
counts_enum ds ds' d r e f e' k h is as_ kind more = subst (λ l. HasCounts l r e' f) (sym is) (subst (λ n. HasCounts (ds ++ d ∷ []) r n f) (sym more) (with_enum ds d r e f h (sym as_ ∙ kind)))

pub counts_function : (ds ds' : List Def) (d : Def) (r e f f' : ℕ) (k : Option Counted) → HasCounts ds r e f → ds' ≡ ds ++ d ∷ [] → k ≡ counted_of (definition_of d) → k ≡ Some counted.Function → f' ≡ one_more f → HasCounts ds' r e f'
counts_function ds ds' d r e f f' k h is as_ kind more = subst (λ l. HasCounts l r e f') (sym is) (subst (λ n. HasCounts (ds ++ d ∷ []) r e n) (sym more) (with_function ds d r e f h (sym as_ ∙ kind)))
