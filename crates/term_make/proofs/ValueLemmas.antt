-- What is made, and what is selected, keeps its value.
use Rattle.std.proofs.Common.{◌≡◌, ℕ, zero, suc, ◌*◌, [], ◌∷◌, Option, Some, None, refl, ap, ◌∙◌}
use Rattle.bv_bits.specs.declared.Bits.{Bits}
use Rattle.bv_bits.specs.Bits.{apply_of}
use Rattle.term_tree.specs.Terms.{Tree, one, two, IsTyped}
use Rattle.term_tree.specs.Values.{Values, IsValues, value}
use Rattle.term_rules.specs.Rules.{Right, given, made_one, made_two, rule_of}
use Rattle.term_make.specs.Making.{Made, build, make_by, make_within, make}
use Rattle.term_tree.specs.Sizes.{size}
use Rattle.term_rules.specs.Laws.{right_value, right_width, IsTypedRight}
use Rattle.term_rules.proofs.TypedLemmas.{right_typed}
use Rattle.term_make.proofs.TypedLemmas.{IsTypedMaker, built_typed, typed_within, one_typed, two_typed}
use Rattle.term_rules.proofs.RuleLemmas.{right_value_is}

-- ---- what is made

module _ (v : Values) (hv : IsValues v) where
  -- what f makes keeps its value
  abbrev KeepsValue : (Tree → Made Tree) → Type 0
  KeepsValue f = (t : Tree) → IsTyped t → value v (f t).it ≡ value v t

  built_value : (f : Tree → Made Tree) → IsTypedMaker f → KeepsValue f → (r : Right) → IsTypedRight r → value v (build f r).it ≡ right_value v r
  built_value f k s (given t) h = refl
  built_value f k s (made_one op r) h =
      let i = built_typed f k r h.1 in
      let a = one_typed op (build f r).it (right_width r) h.0 i.0 i.1 in
      s (one op (build f r).it) a.0 ∙ ap (λ (b : Bits). apply_of op (b ∷ [])) (built_value f k s r h.1)
  built_value f k s (made_two op r q) h =
      let i = built_typed f k r h.1 in
      let j = built_typed f k q h.2 in
      let a = two_typed op (build f r).it (build f q).it (right_width r) (right_width q) h.0 i.0 j.0 i.1 j.1 in
      s (two op (build f r).it (build f q).it) a.0
      ∙ ap (λ (b : Bits). apply_of op (b ∷ value v (build f q).it ∷ [])) (built_value f k s r h.1)
      ∙ ap (λ (b : Bits). apply_of op (right_value v r ∷ b ∷ [])) (built_value f k s q h.2)

  value_by : (f : Tree → Made Tree) → IsTypedMaker f → KeepsValue f → (t : Tree) → IsTyped t → (o : Option Right) → rule_of t ≡ o → value v (make_by f t o).it ≡ value v t
  value_by f k s t h None e = refl
  value_by f k s t h (Some r) e = built_value f k s r (right_typed t r h e).0 ∙ right_value_is v t r hv h e

  value_within : (n : ℕ) → KeepsValue (make_within n)
  value_within zero t h = refl
  value_within (suc n) t h = value_by (make_within n) (typed_within n) (value_within n) t h (rule_of t) refl

pub make_value : (v : Values) (t : Tree) → IsValues v → IsTyped t → value v (make t).it ≡ value v t
make_value v t hv h = value_within v hv (4 * size t) t h
