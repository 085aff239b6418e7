-- Values that agree on a term's variables give it one value.
use Rattle.std.proofs.Common.{◌≡◌, ℕ, cond, eqb, ltb, [], ◌∷◌, refl, ap, ◌∙◌}
use Rattle.bv_bits.specs.declared.Bits.{Bits}
use Rattle.bv_bits.specs.Bits.{apply_of}
use Rattle.term_tree.specs.Terms.{Tree, lit, var, one, two, three, sel, ArrayTree, array, upd, splice}
use Rattle.term_tree.specs.Values.{Values, value, byte, byte_at}
use Rattle.term_tree.specs.Laws.{Agree, AgreeOnArray}

pub values_agree : (v u : Values) (t : Tree) → Agree v u t → value v t ≡ value u t
values_agree v u (lit b) h = refl
values_agree v u (var x w) h = h
values_agree v u (one op a) h = ap (λ (n : Bits). apply_of op (n ∷ [])) (values_agree v u a h)
values_agree v u (two op a b) h =
    ap (λ (n : Bits). apply_of op (n ∷ value v b ∷ [])) (values_agree v u a h.0)
    ∙ ap (λ (n : Bits). apply_of op (value u a ∷ n ∷ [])) (values_agree v u b h.1)
values_agree v u (three op a b c) h =
    ap (λ (n : Bits). apply_of op (n ∷ value v b ∷ value v c ∷ [])) (values_agree v u a h.0)
    ∙ ap (λ (n : Bits). apply_of op (value u a ∷ n ∷ value v c ∷ [])) (values_agree v u b h.1)
    ∙ ap (λ (n : Bits). apply_of op (value u a ∷ value u b ∷ n ∷ [])) (values_agree v u c h.2)
values_agree v u (sel f i) h =
    ap (λ (n : Bits). byte (v.byte_of f n.value)) (values_agree v u i h.1) ∙ ap byte (h.0 (value u i).value)

pub bytes_agree : (v u : Values) (f : ArrayTree) (k : ℕ) → AgreeOnArray v u f → byte_at v f k ≡ byte_at u f k
bytes_agree v u (array f) k h = h k
bytes_agree v u (upd of i e) k h =
    ap (λ (n : Bits). cond (eqb k n.value) (value v e).value (byte_at v of k)) (values_agree v u i h.1)
    ∙ ap (λ (n : Bits). cond (eqb k (value u i).value) n.value (byte_at v of k)) (values_agree v u e h.2)
    ∙ ap (λ (n : ℕ). cond (eqb k (value u i).value) (value u e).value n) (bytes_agree v u of k h.0)
bytes_agree v u (splice of below i) k h =
    ap (λ (n : Bits). cond (ltb k n.value) (byte_at v below k) (byte_at v of k)) (values_agree v u i h.2)
    ∙ ap (λ (n : ℕ). cond (ltb k (value u i).value) n (byte_at v of k)) (bytes_agree v u below k h.1)
    ∙ ap (λ (n : ℕ). cond (ltb k (value u i).value) (byte_at u below k) n) (bytes_agree v u of k h.0)
