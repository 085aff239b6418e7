-- Names that are declared in two parts.
use Rattle.std.proofs.Common.{◌≡◌, ℕ, ◌+◌, ◌<◌, length, drop, get_or, List, [], ◌∷◌, ◌++◌, sym, ap, ◌∙◌, if◌then◌else◌}
use Rattle.std.specs.Prelude.{map, Option}
use Rattle.std.proofs.lemmas.List.{append_assoc, append-nil, map-append, at_drop_more}
use Rattle.sail_syntax.specs.declared.definitions.Def.{Def}
use Rattle.sail_syntax.specs.View.{definition_of}
use Rattle.type_rules.specs.declared.fault.Fault.{Fault}
use Rattle.type_rules.specs.declared.scope.Entry.{Entry}
use Rattle.type_rules.specs.Faults.{first_from, fine}
use Rattle.type_rules.specs.declared.fault.Why.TheVariants.{Twice}
use Rattle.type_rules.specs.Names.{Declared, entry_of, find, is_free, declares, declared_from}
use Rattle.type_rules.specs.Program.{wrong}
use Rattle.type_globals.specs.Declared.{names_with, fault_with}

-- the names
pub names_two : (before : List Entry) (xs ys : List Declared) → names_with before (xs ++ ys) ≡ names_with (names_with before xs) ys
names_two before xs ys = ap (λ l. before ++ l) (map-append entry_of xs ys) ∙ sym (append_assoc before (map entry_of xs) (map entry_of ys))

-- the first fault
pub fault_two : (best : Option Fault) (before : List Entry) (xs ys : List Declared)
    → fault_with best before (xs ++ ys) ≡ fault_with (fault_with best before xs) (names_with before xs) ys
fault_two best before [] ys = ap (λ l. fault_with best l ys) (sym (append-nil before))
fault_two best before (x ∷ xs) ys =
    fault_two (first_from best (if is_free (find x.entry.name before) then fine else wrong x.at (Twice x.entry.name))) (before ++ x.entry ∷ []) xs ys
    ∙ ap (λ l. fault_with (fault_with best before (x ∷ xs)) l ys) (append_assoc before (x.entry ∷ []) (map entry_of xs))

-- the names that are left, where one definition more has been
pub names_next : (defs : List Def) (i : ℕ) (d : Def) (before now : List Entry) → i < length defs → d ≡ get_or defs i d
    → now ≡ names_with before (declares (definition_of d) i)
    → names_with now (declared_from (map definition_of (drop (i + 1) defs)) (i + 1)) ≡ names_with before (declared_from (map definition_of (drop i defs)) i)
names_next defs i d before now within is h =
    ap (λ l. names_with l (declared_from (map definition_of (drop (i + 1) defs)) (i + 1))) h
    ∙ sym (names_two before (declares (definition_of d) i) (declared_from (map definition_of (drop (i + 1) defs)) (i + 1)))
    ∙ ap (λ e. names_with before (declared_from (map definition_of (e ∷ drop (i + 1) defs)) i)) is
    ∙ sym (at_drop_more (λ l. names_with before (declared_from (map definition_of l) i)) defs i d within)

-- the first fault of what is left
pub fault_next : (defs : List Def) (i : ℕ) (d : Def) (before now : List Entry) (best next : Option Fault) → i < length defs → d ≡ get_or defs i d
    → now ≡ names_with before (declares (definition_of d) i)
    → next ≡ fault_with best before (declares (definition_of d) i)
    → fault_with next now (declared_from (map definition_of (drop (i + 1) defs)) (i + 1)) ≡ fault_with best before (declared_from (map definition_of (drop i defs)) i)
fault_next defs i d before now best next within is h k =
    ap (λ l. fault_with next l (declared_from (map definition_of (drop (i + 1) defs)) (i + 1))) h
    ∙ ap (λ b. fault_with b (names_with before (declares (definition_of d) i)) (declared_from (map definition_of (drop (i + 1) defs)) (i + 1))) k
    ∙ sym (fault_two best before (declares (definition_of d) i) (declared_from (map definition_of (drop (i + 1) defs)) (i + 1)))
    ∙ ap (λ e. fault_with best before (declared_from (map definition_of (e ∷ drop (i + 1) defs)) i)) is
    ∙ sym (at_drop_more (λ l. fault_with best before (declared_from (map definition_of l) i)) defs i d within)

-- two parts behind the others
behind : (old : List Entry) {one two : List Entry} (xs ys : List Entry) → one ≡ old ++ xs → two ≡ one ++ ys → two ≡ old ++ (xs ++ ys)
behind old xs ys h k = k ∙ ap (λ l. l ++ ys) h ∙ append_assoc old xs ys

-- three names behind the others
pub three : (old : List Entry) {one two all : List Entry} (a b c : Entry)
    → one ≡ old ++ a ∷ [] → two ≡ one ++ b ∷ [] → all ≡ two ++ c ∷ [] → all ≡ old ++ a ∷ b ∷ c ∷ []
three old a b c h1 h2 h3 = behind old (a ∷ b ∷ []) (c ∷ []) (behind old (a ∷ []) (b ∷ []) h1 h2) h3

-- five names behind the others
pub five : (old : List Entry) {one two more most all : List Entry} (a b c d e : Entry)
    → one ≡ old ++ a ∷ [] → two ≡ one ++ b ∷ [] → more ≡ two ++ c ∷ [] → most ≡ more ++ d ∷ [] → all ≡ most ++ e ∷ []
    → all ≡ old ++ a ∷ b ∷ c ∷ d ∷ e ∷ []
five old a b c d e h1 h2 h3 h4 h5 = behind old (a ∷ b ∷ c ∷ d ∷ []) (e ∷ []) (behind old (a ∷ b ∷ c ∷ []) (d ∷ []) (three old a b c h1 h2 h3) h4) h5
