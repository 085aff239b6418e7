use Rattle.std.proofs.Common.{◌≡◌, ◌<◌, List, sym, subst, rules}
use Rattle.std.specs.List.Sorted.{IsPermutation, IsNonDecreasingBy}
use Rattle.std.proofs.lemmas.List.Sorted.{IsNonDecreasingBy-from_sort_by_key, All-permutation}
use Rattle.elf_image.specs.declared.segment.Segment.{Segment}
use Rattle.elf_image.proofs.overlap.sorted.Goals as goal

pub least_overlap-requires-clause-permutation : goal.least_overlap-requires-clause-permutation
least_overlap-requires-clause-permutation c =
    let xs = c.args.segments.now in let ys = c.sort_by_key.new.self.items in
    let copied = c.in_ok-sorted.ensures.items_if_clones_equal (λ x y e. e) in
    let moved : IsPermutation xs ys = subst (λ (l : List Segment). IsPermutation l ys) copied c.in_ok-sort_by_key.ensures.permutation in
    subst (λ (l : List Segment). IsPermutation xs l) (sym c.deref.ensures.value) moved

pub least_overlap-requires-clause-some : goal.least_overlap-requires-clause-some
least_overlap-requires-clause-some c =
    let xs = c.args.segments.now in let ys = c.sort_by_key.new.self.items in
    let copied = c.in_ok-sorted.ensures.items_if_clones_equal (λ x y e. e) in
    let moved : IsPermutation xs ys = subst (λ (l : List Segment). IsPermutation l ys) copied c.in_ok-sort_by_key.ensures.permutation in
    All-permutation (λ (s : Segment). 0 < s.size) xs _ (subst (λ (l : List Segment). IsPermutation xs l) (sym c.deref.ensures.value) moved) c.requires.some

pub least_overlap-requires-clause-rising : goal.least_overlap-requires-clause-rising
least_overlap-requires-clause-rising c =
    let ys = c.sort_by_key.new.self.items in
    let rises : IsNonDecreasingBy (λ (s : Segment). s.addr) ys = IsNonDecreasingBy-from_sort_by_key (λ (s : Segment). s.addr) _ c.in_ok-sort_by_key.ensures.sorted (λ a r q k. search rules) in
    subst (λ (l : List Segment). IsNonDecreasingBy (λ (s : Segment). s.addr) l) (sym c.deref.ensures.value) rises
