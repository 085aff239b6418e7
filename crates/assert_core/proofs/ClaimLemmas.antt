-- What an assertion claims rests on the values of declared variables.
use Rattle.std.proofs.Common.{◌≡◌, ℕ, zero, suc, ◌+◌, eqb, List, [], ◌∷◌, ◌++◌, Option, Some, None, refl, ap, ◌∙◌}
use Rattle.std.specs.Prelude.{All}
use Rattle.std.proofs.lemmas.List.Elements.{All-head, All-tail}
use Rattle.bv_bits.specs.declared.Bits.{Bits}
use Rattle.state_core.specs.Claims.{Claim, is_so, register_is, bytes_are}
use Rattle.term_tree.specs.declared.term.Sort.TheVariants as sort
use Rattle.term_tree.specs.declared.term.VarDecl.{VarDecl}
use Rattle.term_tree.specs.Terms.{Text, Tree, lit, var, one, two, three, sel, ArrayTree, array, upd, splice}
use Rattle.term_tree.specs.Values.{Values, value, byte_at}
use Rattle.term_tree.specs.Laws.{Agree, AgreeOnArray, AgreeingValues, AgreeingBytes}
use Rattle.assert_core.specs.Assertions.{PlainItem, arr, dev, fact, mem, reg}
use Rattle.assert_core.specs.Denoting.{Numbers, bytes_of, claims_of, claims_of_item, ends_below, low_bytes, named}
use Rattle.assert_core.specs.Laws.{AgreeOnScope}
use Rattle.assert_core.specs.Sorts.{ArrayUsesDeclared, HasWidth, ItemFits, UsesDeclared}

-- values that agree on declared variables agree on a term that uses these alone
agrees : (scope : List VarDecl) (v u : Values) → AgreeOnScope scope v u → (t : Tree) → UsesDeclared scope t → Agree v u t
agrees scope v u a (lit b) h = tt
agrees scope v u a (var x w) h = a.bits x w h
agrees scope v u a (one op p) h = agrees scope v u a p h
agrees scope v u a (two op p q) h = (agrees scope v u a p h.0, agrees scope v u a q h.1)
agrees scope v u a (three op p q r) h = (agrees scope v u a p h.0, agrees scope v u a q h.1, agrees scope v u a r h.2)
agrees scope v u a (sel f i) h = ((λ k. a.bytes f k h.0), agrees scope v u a i h.1)

array_agrees : (scope : List VarDecl) (v u : Values) → AgreeOnScope scope v u → (f : ArrayTree) → ArrayUsesDeclared scope f → AgreeOnArray v u f
array_agrees scope v u a (array f) h = λ k. a.bytes f k h
array_agrees scope v u a (upd of i e) h = (array_agrees scope v u a of h.0, agrees scope v u a i h.1, agrees scope v u a e h.2)
array_agrees scope v u a (splice of below i) h = (array_agrees scope v u a of h.0, array_agrees scope v u a below h.1, agrees scope v u a i h.2)

module _ (values : AgreeingValues) (bytes : AgreeingBytes) (scope : List VarDecl) (v u : Values) (a : AgreeOnScope scope v u) (n : Numbers) where
  same_value : (t : Tree) → UsesDeclared scope t → value v t ≡ value u t
  same_value t h = values v u t (agrees scope v u a t h)

  same_bytes : (f : ArrayTree) → ArrayUsesDeclared scope f → (i k : ℕ) → bytes_of v f i k ≡ bytes_of u f i k
  same_bytes f h i zero = refl
  same_bytes f h i (suc k) =
      ap (λ (b : ℕ). b ∷ bytes_of v f (i + 1) k) (bytes v u f i (array_agrees scope v u a f h))
      ∙ ap (λ (bs : List ℕ). byte_at u f i ∷ bs) (same_bytes f h (i + 1) k)

  same_claims : (i : PlainItem) → ItemFits scope i → claims_of_item n v i ≡ claims_of_item n u i
  same_claims (fact t) h = ap (λ (b : Bits). is_so (eqb b.value 1) ∷ []) (same_value t h.1)
  same_claims (reg x None) h = refl
  same_claims (reg x (Some t)) h = ap (λ (b : Bits). named (n.register x) (λ r. register_is r (Some b)) ∷ []) (same_value t h)
  same_claims (mem at bytes number) h =
      ap (λ (b : Bits). ends_below b.value bytes ∷ bytes_are b.value (low_bytes bytes (value v number).value) ∷ []) (same_value at h.0.1)
      ∙ ap (λ (b : Bits). ends_below (value u at).value bytes ∷ bytes_are (value u at).value (low_bytes bytes b.value) ∷ []) (same_value number h.1.1)
  same_claims (arr at len of) h =
      ap (λ (b : Bits). ends_below b.value (value v len).value ∷ bytes_are b.value (bytes_of v of 0 (value v len).value) ∷ []) (same_value at h.0.1)
      ∙ ap (λ (b : Bits). ends_below (value u at).value b.value ∷ bytes_are (value u at).value (bytes_of v of 0 b.value) ∷ []) (same_value len h.1.1)
      ∙ ap (λ (bs : List ℕ). ends_below (value u at).value (value u len).value ∷ bytes_are (value u at).value bs ∷ []) (same_bytes of h.2 0 (value u len).value)
  same_claims (dev x q) h = refl

  pub same_in_all : (items : List PlainItem) → All (ItemFits scope) items → claims_of n v items ≡ claims_of n u items
  same_in_all [] h = refl
  same_in_all (i ∷ items) h =
      ap (λ (cs : List Claim). cs ++ claims_of n v items) (same_claims i (All-head (ItemFits scope) i items h))
      ∙ ap (λ (cs : List Claim). claims_of_item n u i ++ cs) (same_in_all items (All-tail (ItemFits scope) i items h))
