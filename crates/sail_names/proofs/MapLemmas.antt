-- Maps from names to what they stand for.
use Rattle.std.proofs.Common.{◌≡◌, ℕ, ◌+◌, ◌<◌, Bool, true, false, List, [], ◌∷◌, ◌++◌, length, get_or, drop, Option, Some, None, refl, sym, ap, ◌∙◌, subst, true≢false}
use Rattle.std.specs.Prelude.{map, bytes_eq, if◌then◌else◌, is_some, Result, Ok, Err, OnOk}
use Rattle.std.specs.BTreeMap.{BTreeMap, UpdatesBy, get_by}
use Rattle.std.specs.Cmp.Lexicographic.{slice_cmp, bytes_decides}
use Rattle.std.specs.Map.{lookup}
use Rattle.std.specs.Ordering.{is_eq, nat_cmp}
use Rattle.std.specs.Global.{Vec}
use Rattle.std.proofs.lemmas.List.{at_drop_more}
use Rattle.sail_syntax.specs.Tree.{Text}
use Rattle.sail_syntax.specs.View.{definition_of}
use Rattle.sail_syntax.specs.declared.definitions.Def.{Def}
use Rattle.type_names.proofs.PlaceLemmas.{updated}
use Rattle.sail_names.specs.declared.things.Named.{Named}
use Rattle.sail_names.specs.declared.things.Thing.{Thing}
use Rattle.sail_names.specs.Things.{find_thing, declares, registers_in, enums_in, things_from}
use Rattle.sail_names.specs.Map.{thing_at, or_thing, thing_for, reached, Adds, IsMapOf}

none_or : (o : Option Thing) → o ≡ or_thing o None
none_or None = refl
none_or (Some t) = refl

pub isnt_there : (o : Option Thing) → is_some o ≡ false → o ≡ None
isnt_there None h = refl
isnt_there (Some t) h = absurd (true≢false h)

-- a name that wasn't there stands for something
pub kept : (m n : BTreeMap (Vec ℕ) Thing) (bs : Text) (t : Thing) → thing_at bs m ≡ None
    → UpdatesBy (λ x y. slice_cmp nat_cmp x.items y.items) (λ k. slice_cmp nat_cmp bs k.items) m n (Some t)
    → (x : Text) → thing_at x n ≡ or_thing (thing_at x m) (thing_for bs t x)
kept m n bs t none h x = updated (λ k. k.items) bs m n (Some t) h x ∙ step (bytes_eq bs x) refl
  where
    step : (b : Bool) → bytes_eq bs x ≡ b → (if b then Some t else thing_at x m) ≡ or_thing (thing_at x m) (if b then Some t else None)
    step true e = ap (λ o. or_thing o (Some t)) (sym (subst (λ l. thing_at l m ≡ None) ((bytes_decides bs x).0 e) none))
    step false e = none_or (thing_at x m)

-- one that was there stays
pub stays : (m : BTreeMap (Vec ℕ) Thing) (bs : Text) (t : Thing) → is_some (thing_at bs m) ≡ true
    → (x : Text) → thing_at x m ≡ or_thing (thing_at x m) (thing_for bs t x)
stays m bs t there x = step (bytes_eq bs x) refl
  where
    first : (o : Option Thing) → is_some o ≡ true → o ≡ or_thing o (Some t)
    first (Some u) h = refl
    first None h = absurd (true≢false (sym h))

    step : (b : Bool) → bytes_eq bs x ≡ b → thing_at x m ≡ or_thing (thing_at x m) (if b then Some t else None)
    step true e = first (thing_at x m) (subst (λ l. is_some (thing_at l m) ≡ true) ((bytes_decides bs x).0 e) there)
    step false e = none_or (thing_at x m)

-- of two lists the first counts
pub find_two : (x : Text) (ns ms : List Named) → find_thing x (ns ++ ms) ≡ or_thing (find_thing x ns) (find_thing x ms)
find_two x [] ms = refl
find_two x (n ∷ ns) ms = step (bytes_eq n.name x) (find_two x ns ms)
  where
    step : (b : Bool) → find_thing x (ns ++ ms) ≡ or_thing (find_thing x ns) (find_thing x ms)
        → (if b then Some n.thing else find_thing x (ns ++ ms)) ≡ or_thing (if b then Some n.thing else find_thing x ns) (find_thing x ms)
    step true h = refl
    step false h = h

or_or : (a b c : Option Thing) → or_thing (or_thing a b) c ≡ or_thing a (or_thing b c)
or_or None b c = refl
or_or (Some t) b c = refl

-- two lists of names, the one behind the other
pub adds_two : (ns ms : List Named) (old mid : BTreeMap (Vec ℕ) Thing) → Adds ns old mid → (x : Text) → reached x mid ms ≡ reached x old (ns ++ ms)
adds_two ns ms old mid h x =
    ap (λ o. or_thing o (find_thing x ms)) (h x) ∙ or_or (thing_at x old) (find_thing x ns) (find_thing x ms)
    ∙ ap (or_thing (thing_at x old)) (sym (find_two x ns ms))

-- two lists of names, the one behind the other
pub adds_more : (ns ms : List Named) (a b c : BTreeMap (Vec ℕ) Thing) → Adds ns a b → Adds ms b c → Adds (ns ++ ms) a c
adds_more ns ms a b c h k x = k x ∙ adds_two ns ms a b h x

pub three : (n m o : Named) (a b c d : BTreeMap (Vec ℕ) Thing) → Adds (n ∷ []) a b → Adds (m ∷ []) b c → Adds (o ∷ []) c d → Adds (n ∷ m ∷ o ∷ []) a d
three n m o a b c d h k l = adds_more (n ∷ m ∷ []) (o ∷ []) a c d (adds_more (n ∷ []) (m ∷ []) a b c h k) l

pub four : (n m o p : Named) (a b c d e : BTreeMap (Vec ℕ) Thing) → Adds (n ∷ []) a b → Adds (m ∷ []) b c → Adds (o ∷ []) c d → Adds (p ∷ []) d e → Adds (n ∷ m ∷ o ∷ p ∷ []) a e
four n m o p a b c d e h k l r = adds_more (n ∷ m ∷ o ∷ []) (p ∷ []) a d e (three n m o a b c d h k l) r

pub five : (n m o p q : Named) (a b c d e f : BTreeMap (Vec ℕ) Thing) → Adds (n ∷ []) a b → Adds (m ∷ []) b c → Adds (o ∷ []) c d → Adds (p ∷ []) d e → Adds (q ∷ []) e f
    → Adds (n ∷ m ∷ o ∷ p ∷ q ∷ []) a f
five n m o p q a b c d e f h k l r s = adds_more (n ∷ m ∷ o ∷ p ∷ []) (q ∷ []) a e f (four n m o p a b c d e h k l r) s

-- five lists of names, each behind the one before
pub five_lists : (n m o p q : List Named) (a b c d e f : BTreeMap (Vec ℕ) Thing) → Adds n a b → Adds m b c → Adds o c d → Adds p d e → Adds q e f
    → Adds (n ++ (m ++ (o ++ (p ++ q)))) a f
five_lists n m o p q a b c d e f h k l r s =
    adds_more n (m ++ (o ++ (p ++ q))) a b f h (adds_more m (o ++ (p ++ q)) b c f k (adds_more o (p ++ q) c d f l (adds_more p q d e f r s)))

-- a map without entries has nothing
pub nothing_at : (x : Text) (m : BTreeMap (Vec ℕ) Thing) → m.entries ≡ [] → thing_at x m ≡ None
nothing_at x m h = ap (λ l. lookup (λ k. is_eq (slice_cmp nat_cmp x k.items)) l) h

-- what is added to nothing and what is added behind it
pub whole : (ns ms : List Named) (a b c : BTreeMap (Vec ℕ) Thing) → ((x : Text) → thing_at x a ≡ None) → Adds ns a b → Adds ms b c → IsMapOf (ns ++ ms) c
whole ns ms a b c none h k x = adds_more ns ms a b c h k x ∙ ap (λ o. or_thing o (find_thing x (ns ++ ms))) (none x)

-- what is reached, where one definition more has been
pub things_next : (defs : List Def) (i r e : ℕ) (d : Def) (before now : BTreeMap (Vec ℕ) Thing) → i < length defs → d ≡ get_or defs i d
    → Adds (declares (definition_of d) r e i) before now
    → (x : Text) → reached x now (things_from (map definition_of (drop (i + 1) defs)) (r + registers_in (definition_of d)) (e + enums_in (definition_of d)) (i + 1))
    ≡ reached x before (things_from (map definition_of (drop i defs)) r e i)
things_next defs i r e d before now within is h x =
    adds_two (declares (definition_of d) r e i) (things_from (map definition_of (drop (i + 1) defs)) (r + registers_in (definition_of d)) (e + enums_in (definition_of d)) (i + 1)) before now h x
    ∙ ap (λ t. reached x before (things_from (map definition_of (t ∷ drop (i + 1) defs)) r e i)) is
    ∙ sym (at_drop_more (λ l. reached x before (things_from (map definition_of l) r e i)) defs i d within)
