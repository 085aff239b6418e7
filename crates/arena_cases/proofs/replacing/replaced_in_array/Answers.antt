use Rattle.std.specs.Prelude.{Ok}
use Rattle.term_tree.specs.View.{array_tree}
use Rattle.arena_cases.specs.Widths.{IsWideArray}
use Rattle.arena_cases.proofs.WidthLemmas.{pairs_stay, array_pairs_stay, pairs_replace, pairs_fit_array, array_has}
use Rattle.arena_cases.proofs.replacing.replaced_in_array.Goals as goal

pub substitute_array-requires-clause-bits : goal.substitute_array-requires-clause-bits
substitute_array-requires-clause-bits c =
    let n = c.intern_array.new.terms in
    pairs_replace n c.args.bits.now (pairs_stay c.args.terms.now n c.in_ok-id.ensures.makes.kept c.args.bits.now c.requires.bits)

pub substitute_array-requires-clause-arrays : goal.substitute_array-requires-clause-arrays
substitute_array-requires-clause-arrays c = array_pairs_stay c.args.terms.now c.intern_array.new.terms c.in_ok-id.ensures.makes.kept c.args.arrays.now c.requires.arrays

pub substitute_array-requires-clause-fits : goal.substitute_array-requires-clause-fits
substitute_array-requires-clause-fits c =
    let n = c.intern_array.new.terms in
    pairs_fit_array n c.args.bits.now (pairs_stay c.args.terms.now n c.in_ok-id.ensures.makes.kept c.args.bits.now c.requires.bits) c.args.arrays.now _
    (array_has IsWideArray c.args.terms.now n (Ok c.in_ok-id.id) (array_tree c.args.array.now) c.in_ok-id.ensures.makes c.requires.array)
