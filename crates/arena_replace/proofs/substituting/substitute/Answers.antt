use Rattle.std.proofs.Common.{ap, sym}
use Rattle.term_tree.specs.Terms.{Tree}
use Rattle.term_replace.specs.Replacing.{Replacements, substitute}
use Rattle.term_arena.specs.Answers.{id_term}
use Rattle.term_arena.specs.Said.{Said, said_of}
use Rattle.arena_replace.specs.Substituting.{replacements}
use Rattle.term_arena.proofs.MeaningLemmas.{keeps_trans}
use Rattle.term_arena.proofs.MakesLemmas.{makes_as}
use Rattle.arena_replace.proofs.StartLemmas.{replacements_stay}
use Rattle.arena_replace.proofs.SubstituteLemmas.{substitute_wide}
use Rattle.arena_replace.proofs.substituting.substitute.Goals as goal

pub replaced-requires-clause-known : goal.replaced-requires-clause-known
replaced-requires-clause-known c = (replacements c.args.terms.now c.args.bits.now c.args.arrays.now, c.in-Ok.ensures, c.requires.fits)

pub returns-clause-makes : goal.returns-clause-makes
returns-clause-makes c =
    let o = c.args.terms.now in
    let m = c.replaced.ensures.makes (replacements o c.args.bits.now c.args.arrays.now) c.in-Ok.ensures c.requires.fits in
    makes_as m
    (λ last k. ap (λ (by : Replacements). let s : Said ⊥ Tree = said_of (substitute by (id_term last c.args.term)) in s) (sym (replacements_stay o last c.laws.ensures.equal (keeps_trans o _ last m.kept k) c.args.bits.now c.args.arrays.now c.requires.bits c.requires.arrays)))

pub returns-clause-wide : goal.returns-clause-wide
returns-clause-wide c =
    let o = c.args.terms.now in
    let by = replacements o c.args.bits.now c.args.arrays.now in
    substitute_wide by o c.replaced.new.terms c.replaced.result c.args.term c.in-Ok.ensures.typed c.requires.term c.requires.fits (c.replaced.ensures.makes by c.in-Ok.ensures c.requires.fits)
