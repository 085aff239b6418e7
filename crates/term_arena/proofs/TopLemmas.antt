-- The parts of a term's node, as terms.
use Rattle.std.proofs.Common.{◌≡◌, ℕ, ◌<◌, ◌≤◌, List, [], ◌∷◌, length, get_or, Some, ap, ◌∙◌, subst}
use Rattle.std.specs.Prelude.{slice_get}
use Rattle.bv_bits.specs.declared.Op.{Op}
use Rattle.term_tree.specs.Terms.{Text, one, two, three, sel, IsTyped}
use Rattle.term_arena.specs.declared.node.TermId.{TermId}
use Rattle.term_arena.specs.Nodes.{Node, as_term, meaning_by, meanings_of, term_at, sel_node}
use Rattle.term_arena.specs.Arena.{IsArena}
use Rattle.term_arena.specs.Answers.{app_node}
use Rattle.term_arena.proofs.MeaningLemmas.{meaning_at-get}
use Rattle.term_arena.proofs.ArgsLemmas.{one_of, two_of, three_of}
use Rattle.term_arena.proofs.EqualLemmas.{parts_below}

-- what stands where there is no argument
abbrev pub none : TermId
none = record { number = 0 }

module _ (nodes : List Node) (ok : IsArena nodes) (i : ℕ) (t : IsTyped (term_at nodes i)) where
  means : (n : Node) → slice_get nodes i ≡ Some n → term_at nodes i ≡ as_term (meaning_by (meanings_of nodes) n)
  means n e = ap as_term (meaning_at-get nodes i n ok.fine e)

  -- the argument of an operator stands before it, and is typed
  pub app_one : (op : Op) (a : TermId) → slice_get nodes i ≡ Some (app_node op (a ∷ [])) → (a.number < i) × IsTyped (term_at nodes a.number) × (term_at nodes i ≡ one op (term_at nodes a.number))
  app_one op a e =
      let m = means (app_node op (a ∷ [])) e in
      (parts_below nodes ok i (app_node op (a ∷ [])) e, (subst IsTyped m t).1, m)

  pub app_two : (op : Op) (a b : TermId) → slice_get nodes i ≡ Some (app_node op (a ∷ b ∷ [])) → ((a.number < i) × (b.number < i)) × (IsTyped (term_at nodes a.number) × IsTyped (term_at nodes b.number)) × (term_at nodes i ≡ two op (term_at nodes a.number) (term_at nodes b.number))
  app_two op a b e =
      let m = means (app_node op (a ∷ b ∷ [])) e in
      let h : IsTyped (two op (term_at nodes a.number) (term_at nodes b.number)) = subst IsTyped m t in
      (parts_below nodes ok i (app_node op (a ∷ b ∷ [])) e, (h.1, h.2), m)

  pub app_three : (op : Op) (a b c : TermId) → slice_get nodes i ≡ Some (app_node op (a ∷ b ∷ c ∷ [])) → ((a.number < i) × (b.number < i) × (c.number < i)) × (IsTyped (term_at nodes a.number) × IsTyped (term_at nodes b.number) × IsTyped (term_at nodes c.number)) × (term_at nodes i ≡ three op (term_at nodes a.number) (term_at nodes b.number) (term_at nodes c.number))
  app_three op a b c e =
      let m = means (app_node op (a ∷ b ∷ c ∷ [])) e in
      let h : IsTyped (three op (term_at nodes a.number) (term_at nodes b.number) (term_at nodes c.number)) = subst IsTyped m t in
      (parts_below nodes ok i (app_node op (a ∷ b ∷ c ∷ [])) e, (h.1, h.2, h.3), m)

  -- the same by a list of arguments
  pub one_args : (op : Op) (xs : List TermId) → slice_get nodes i ≡ Some (app_node op xs) → 1 ≤ length xs → length xs < 2 → (λ (a : TermId). (a.number < i) × IsTyped (term_at nodes a.number) × (term_at nodes i ≡ one op (term_at nodes a.number))) (get_or xs 0 none)
  one_args op xs e h k = app_one op (get_or xs 0 none) (e ∙ ap (λ (l : List TermId). Some (app_node op l)) (one_of xs none h k))

  pub two_args : (op : Op) (xs : List TermId) → slice_get nodes i ≡ Some (app_node op xs) → 2 ≤ length xs → length xs < 3
      → (λ (a b : TermId). ((a.number < i) × (b.number < i)) × (IsTyped (term_at nodes a.number) × IsTyped (term_at nodes b.number)) × (term_at nodes i ≡ two op (term_at nodes a.number) (term_at nodes b.number))) (get_or xs 0 none) (get_or xs 1 none)
  two_args op xs e h k = app_two op (get_or xs 0 none) (get_or xs 1 none) (e ∙ ap (λ (l : List TermId). Some (app_node op l)) (two_of xs none h k))

  pub three_args : (op : Op) (xs : List TermId) → slice_get nodes i ≡ Some (app_node op xs) → 3 ≤ length xs → length xs < 4
      → (λ (a b c : TermId). ((a.number < i) × (b.number < i) × (c.number < i)) × (IsTyped (term_at nodes a.number) × IsTyped (term_at nodes b.number) × IsTyped (term_at nodes c.number)) × (term_at nodes i ≡ three op (term_at nodes a.number) (term_at nodes b.number) (term_at nodes c.number))) (get_or xs 0 none) (get_or xs 1 none) (get_or xs 2 none)
  three_args op xs e h k = app_three op (get_or xs 0 none) (get_or xs 1 none) (get_or xs 2 none) (e ∙ ap (λ (l : List TermId). Some (app_node op l)) (three_of xs none h k))

  pub sel_at : (x : Text) (a : TermId) → slice_get nodes i ≡ Some (sel_node x a.number) → (a.number < i) × IsTyped (term_at nodes a.number) × (term_at nodes i ≡ sel x (term_at nodes a.number))
  sel_at x a e =
      let m = means (sel_node x a.number) e in
      (parts_below nodes ok i (sel_node x a.number) e, (subst IsTyped m t).1, m)
