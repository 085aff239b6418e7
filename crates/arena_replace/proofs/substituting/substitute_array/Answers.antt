use Rattle.std.proofs.Common.{ap, sym}
use Rattle.term_tree.specs.Terms.{ArrayTree}
use Rattle.term_replace.specs.Replacing.{Replacements, substitute_array}
use Rattle.term_arena.specs.Answers.{id_array}
use Rattle.term_arena.specs.Said.{Said, said_of}
use Rattle.arena_replace.specs.Substituting.{replacements}
use Rattle.term_arena.proofs.MeaningLemmas.{keeps_trans}
use Rattle.term_arena.proofs.MakesLemmas.{makes_as}
use Rattle.arena_replace.proofs.StartLemmas.{replacements_stay}
use Rattle.arena_replace.proofs.substituting.substitute_array.Goals as goal

pub replaced_array-requires-clause-known : goal.replaced_array-requires-clause-known
replaced_array-requires-clause-known c = (replacements c.args.terms.now c.args.bits.now c.args.arrays.now, c.in-Ok.ensures, c.requires.fits)

pub returns-clause-makes : goal.returns-clause-makes
returns-clause-makes c =
    let o = c.args.terms.now in
    let m = c.replaced_array.ensures.makes (replacements o c.args.bits.now c.args.arrays.now) c.in-Ok.ensures c.requires.fits in
    makes_as m
    (λ last k. ap (λ (by : Replacements). let s : Said ⊥ ArrayTree = said_of (substitute_array by (id_array last c.args.array)) in s) (sym (replacements_stay o last c.laws.ensures.equal (keeps_trans o _ last m.kept k) c.args.bits.now c.args.arrays.now c.requires.bits c.requires.arrays)))
