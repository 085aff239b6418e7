-- The tests of variables and widths decide what they say.
use Rattle.std.proofs.Common.{◌≡◌, ℕ, ◌*◌, Bool, true, false, ◌&&◌, List, [], ◌∷◌, Option, Some, None, refl, sym, ap}
use Rattle.std.proofs.Math.Bool.{true≢false}
use Rattle.std.specs.Prelude.{All, Any}
use Rattle.std.specs.Bool.{Decides}
use Rattle.std.specs.List.{list_any, list_all}
use Rattle.std.proofs.lemmas.Bool.Decides.{Decides-eqb, Decides-and, Decides-not, Decides-like, Decides-by_and}
use Rattle.std.proofs.lemmas.List.Folds.{Any-from_list_any, list_any-from_Any}
use Rattle.std.proofs.lemmas.Slice.Eq.{bytes_eq-Decides}
use Rattle.term_tree.specs.declared.term.Sort.{Sort}
use Rattle.term_tree.specs.declared.term.Sort.TheVariants as sort
use Rattle.term_tree.specs.declared.term.VarDecl.{VarDecl}
use Rattle.term_tree.specs.Terms.{Text, Tree, lit, var, one, two, three, sel, ArrayTree, array, upd, splice, width_of}
use Rattle.assert_core.specs.Assertions.{PlainAssertion, PlainItem, arr, dev, fact, mem, reg}
use Rattle.assert_core.specs.Sorts.{ArrayUsesDeclared, Declares, HasNamesApart, HasWidth, ItemFits, SortsFit, UsesDeclared, array_uses_declared, declares, has_width, is_named, is_of, item_fits, names_apart, same_sort, scope_of, sorts_fit, uses_declared, written_fits}

-- three tests in a row
pub and_three : {P Q R : Type 0} (x y z : Bool) → Decides x P → Decides y Q → Decides z R → Decides (x && (y && z)) (P × Q × R)
and_three x y z d e f =
    Decides-like (x && (y && z)) (λ h. (h.0, h.1.0, h.1.1)) (λ h. (h.0, (h.1, h.2))) (Decides-and x (y && z) d (Decides-and y z e f))

-- whether some element passes a test
pub any_decides : {X : Type 0} (p : X → Bool) (P : X → Type 0) → ((x : X) → Decides (p x) (P x)) → (xs : List X) → Decides (list_any p xs) (Any P xs)
any_decides p P each xs = (
  (λ e. let m = Any-from_list_any p xs e in (m.0, m.1, m.2, m.3, (each m.1).0 m.4)),
  λ m. list_any-from_Any p xs (m.0, m.1, m.2, m.3, (each m.1).1 m.4),
)

-- the width of a sort, and whether it has one
width_in : Sort → ℕ
width_in (sort.Bits w) = w
width_in sort.Array = 0

is_bits : Sort → Bool
is_bits (sort.Bits w) = true
is_bits sort.Array = false

bits_widths : (a b : ℕ) → sort.Bits a ≡ sort.Bits b → a ≡ b
unfolding width_in
bits_widths a b e = ap width_in e

bits_no_array : (a : ℕ) → sort.Bits a ≡ sort.Array → ⊥
unfolding is_bits
bits_no_array a e = true≢false (ap is_bits e)

pub same_sort_decides : (s t : Sort) → Decides (same_sort s t) (s ≡ t)
same_sort_decides (sort.Bits a) (sort.Bits b) =
    Decides-like (same_sort (sort.Bits a) (sort.Bits b)) (λ (e : a ≡ b). ap sort.Bits e) (bits_widths a b) (Decides-eqb a b)
same_sort_decides (sort.Bits a) sort.Array = ((λ e. absurd (true≢false (sym e))), λ e. absurd (bits_no_array a e))
same_sort_decides sort.Array (sort.Bits b) = ((λ e. absurd (true≢false (sym e))), λ e. absurd (bits_no_array b (sym e)))
same_sort_decides sort.Array sort.Array = ((λ _. refl), λ _. refl)

pub declares_decides : (scope : List VarDecl) (x : Text) (s : Sort) → Decides (declares scope x s) (Declares scope x s)
declares_decides scope x s =
    any_decides (is_of x s) (λ d. (d.name ≡ x) × (d.sort ≡ s)) (λ d. Decides-and _ _ (bytes_eq-Decides d.name x) (same_sort_decides d.sort s)) scope

pub names_decide : (ds : List VarDecl) → Decides (names_apart ds) (HasNamesApart ds)
names_decide [] = ((λ _. tt), λ _. refl)
names_decide (d ∷ ds) =
    Decides-and _ _ (Decides-not _ (any_decides (is_named d.name) (λ e. e.name ≡ d.name) (λ e. bytes_eq-Decides e.name d.name) ds)) (names_decide ds)

pub uses_decides : (scope : List VarDecl) (t : Tree) → Decides (uses_declared scope t) (UsesDeclared scope t)
uses_decides scope (lit b) = ((λ _. tt), λ _. refl)
uses_decides scope (var x w) = declares_decides scope x (sort.Bits w)
uses_decides scope (one op a) = uses_decides scope a
uses_decides scope (two op a b) = Decides-and _ _ (uses_decides scope a) (uses_decides scope b)
uses_decides scope (three op a b c) = and_three _ _ _ (uses_decides scope a) (uses_decides scope b) (uses_decides scope c)
uses_decides scope (sel f i) = Decides-and _ _ (declares_decides scope f sort.Array) (uses_decides scope i)

pub array_uses_decide : (scope : List VarDecl) (f : ArrayTree) → Decides (array_uses_declared scope f) (ArrayUsesDeclared scope f)
array_uses_decide scope (array f) = declares_decides scope f sort.Array
array_uses_decide scope (upd of i e) = and_three _ _ _ (array_uses_decide scope of) (uses_decides scope i) (uses_decides scope e)
array_uses_decide scope (splice of below i) =
    and_three _ _ _ (array_uses_decide scope of) (array_uses_decide scope below) (uses_decides scope i)

pub width_decides : (scope : List VarDecl) (w : ℕ) (t : Tree) → Decides (has_width scope w t) (HasWidth scope w t)
width_decides scope w t = Decides-and _ _ (Decides-eqb (width_of t) w) (uses_decides scope t)

pub item_decides : (scope : List VarDecl) (i : PlainItem) → Decides (item_fits scope i) (ItemFits scope i)
item_decides scope (fact t) = width_decides scope 1 t
item_decides scope (reg x None) = ((λ _. tt), λ _. refl)
item_decides scope (reg x (Some t)) = uses_decides scope t
item_decides scope (mem at bytes number) = Decides-and _ _ (width_decides scope 64 at) (width_decides scope (8 * bytes) number)
item_decides scope (arr at len of) = and_three _ _ _ (width_decides scope 64 at) (width_decides scope 64 len) (array_uses_decide scope of)
item_decides scope (dev x q) = ((λ _. tt), λ _. refl)

-- each item of a list
pub items_decide : (scope : List VarDecl) (items : List PlainItem) → Decides (list_all (item_fits scope) items) (All (ItemFits scope) items)
items_decide scope items =
    Decides-by_and (item_fits scope) (ItemFits scope) (list_all (item_fits scope)) (item_decides scope) refl (λ i is. refl) items

pub sorts_decide : (fixed : List VarDecl) (a : PlainAssertion) → Decides (sorts_fit fixed a) (SortsFit fixed a)
sorts_decide fixed a =
    Decides-like (sorts_fit fixed a) (λ (h : HasNamesApart (scope_of fixed a) × All (ItemFits (scope_of fixed a)) a.items). record { apart = h.0; items = h.1 })
    (λ (h : SortsFit fixed a). (h.apart, h.items)) (Decides-and _ _ (names_decide (scope_of fixed a)) (items_decide (scope_of fixed a) a.items))
