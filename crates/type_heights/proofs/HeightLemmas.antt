-- One more height in the table, and what bounds heights.
use Rattle.std.proofs.Common.{◌≡◌, ◌≤◌, ℕ, ◌+◌, max, Bool, true, false, List, [], ◌∷◌, ◌++◌, Option, Some, length, reverse, refl, sym, ap, ◌∙◌, subst, arith}
use Rattle.std.specs.Prelude.{map, bytes_eq, if◌then◌else◌}
use Rattle.std.specs.Option.{unwrap_or}
use Rattle.std.specs.Borrow.{Bor}
use Rattle.std.specs.BTreeMap.{BTreeMap, get_by}
use Rattle.std.specs.Cmp.Lexicographic.{slice_cmp}
use Rattle.std.specs.Ordering.{nat_cmp}
use Rattle.std.proofs.lemmas.List.{reverse-append, length-reverse, length-map}
use Rattle.sail_syntax.specs.Tree.{Text, Tree, node, Form, unit, lit, truth, name, chain, flip, slice, update, call, widen, choose, when, cases, foreach, check, exit, assign, block, Trees, none, some, arm, Cases, no_case, case, Step, binds, holds, does, Steps, done, next}
use Rattle.type_rules.specs.Heights.{Height, height_of, deepest, deepest_form, deepest_all, deepest_arms, deepest_step, deepest_steps}
use Rattle.type_heights.specs.declared.heights.HeightRef.{HeightRef}
use Rattle.type_heights.specs.Table.{height_at, heights_of, IsFiled}

-- a newer one
pub one_newer : (xs : List HeightRef) (x : HeightRef) → heights_of (xs ++ x ∷ []) ≡ height_at x ∷ heights_of xs
one_newer xs x = ap (map height_at) (reverse-append xs (x ∷ []))

chosen : (b : Bool) (n m k : ℕ) → n ≤ k → m ≤ k → (if b then n else m) ≤ k
chosen true n m k a c = a
chosen false n m k a c = c

-- what the map has of a name, and its height
told : (b : Bool) (n m : ℕ) (o : Option ℕ) → unwrap_or o 0 ≡ m → unwrap_or (if b then Some n else o) 0 ≡ (if b then n else m)
told true n m o e = refl
told false n m o e = e

-- a function that is at most one higher than there are functions is filed in front of them
newer_filed : (old new : BTreeMap (Bor Text) ℕ) (known : List Height) (h : Height) → IsFiled old known → h.calls ≤ length known + 1
    → ((x : Text) → get_by (λ k. slice_cmp nat_cmp x k.now) new ≡ (if bytes_eq h.name x then Some h.calls else get_by (λ k. slice_cmp nat_cmp x k.now) old))
    → IsFiled new (h ∷ known)
newer_filed old new known h is small found = record {
  found = λ x. ap (λ o. unwrap_or o 0) (found x)
      ∙ told (bytes_eq h.name x) h.calls (height_of x known) (get_by (λ k. slice_cmp nat_cmp x k.now) old) (is.found x);
  below = λ x. omega (arith, chosen (bytes_eq h.name x) h.calls (height_of x known) (length known + 1) small (omega (arith, is.below x)));
}

greatest : (a b n : ℕ) → a ≤ n → b ≤ n → max a b ≤ n
greatest a b n h k = omega (arith, h, k)

module _ (known : List Height) (n : ℕ) (below : (x : Text) → height_of x known ≤ n) where
  mutual
    pub deepest_below : (t : Tree) → deepest known t ≤ n
    deepest_below (node at form) = form_below form

    form_below : (f : Form) → deepest_form known f ≤ n
    form_below unit = omega arith
    form_below (lit b) = omega arith
    form_below (truth b) = omega arith
    form_below (name x) = omega arith
    form_below (chain op parts) = all_below parts
    form_below (flip of) = deepest_below of
    form_below (slice of hi lo) = deepest_below of
    form_below (update of hi lo by) = greatest _ _ n (deepest_below of) (deepest_below by)
    form_below (call f args) = greatest _ _ n (below f) (all_below args)
    form_below (widen signed to of) = deepest_below of
    form_below (choose test one other) = greatest _ _ n (deepest_below test) (greatest _ _ n (deepest_below one) (deepest_below other))
    form_below (when test one) = greatest _ _ n (deepest_below test) (deepest_below one)
    form_below (cases on arms) = greatest _ _ n (deepest_below on) (arms_below arms)
    form_below (foreach x from to body) = deepest_below body
    form_below (check test text) = deepest_below test
    form_below exit = omega arith
    form_below (assign x by) = deepest_below by
    form_below (block steps) = steps_below steps

    all_below : (ts : Trees) → deepest_all known ts ≤ n
    all_below none = omega arith
    all_below (some t rest) = greatest _ _ n (deepest_below t) (all_below rest)

    arms_below : (cs : Cases) → deepest_arms known cs ≤ n
    arms_below no_case = omega arith
    arms_below (case (arm p body) rest) = greatest _ _ n (deepest_below body) (arms_below rest)

    step_below : (s : Step) → deepest_step known s ≤ n
    step_below (binds x t by) = deepest_below by
    step_below (holds x t by) = deepest_below by
    step_below (does e) = deepest_below e

    steps_below : (ss : Steps) → deepest_steps known ss ≤ n
    steps_below done = omega arith
    steps_below (next s rest) = greatest _ _ n (step_below s) (steps_below rest)

-- calls are stacked no higher than there are functions
pub bounded : (newest : BTreeMap (Bor Text) ℕ) (known : List Height) (t : Tree) → IsFiled newest known → deepest known t ≤ length known
bounded newest known t is = deepest_below known (length known) is.below t

-- there are as many functions as entries
pub as_many : (xs : List HeightRef) (known : List Height) → heights_of xs ≡ known → length known ≡ length xs
as_many xs known is = sym (ap (λ (l : List Height). length l) is) ∙ length-map (reverse xs) height_at ∙ length-reverse xs

-- one that is at most one higher is filed
pub entered_filed : (xs : List HeightRef) (old new : BTreeMap (Bor Text) ℕ) (known : List Height) (x : HeightRef)
    → heights_of xs ≡ known → IsFiled old known → x.calls ≤ length known + 1
    → ((y : Text) → get_by (λ k. slice_cmp nat_cmp y k.now) new ≡ (if bytes_eq x.name.now y then Some x.calls else get_by (λ k. slice_cmp nat_cmp y k.now) old))
    → IsFiled new (heights_of (xs ++ x ∷ []))
entered_filed xs old new known x is filed small found =
    subst (IsFiled new) (sym (one_newer xs x ∙ ap (λ (l : List Height). height_at x ∷ l) is)) (newer_filed old new known (height_at x) filed small found)
