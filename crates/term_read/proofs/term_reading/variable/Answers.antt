use Rattle.std.proofs.Common.{◌≡◌, Some}
use Rattle.term_tree.specs.declared.term.Sort.TheVariants as sort
use Rattle.term_words.specs.Scopes.{sort_of}
use Rattle.term_read.proofs.ReadingLemmas.{declared_width}
use Rattle.term_read.proofs.term_reading.variable.Goals as goal

pub declared-requires : goal.declared-requires
declared-requires c =
    let e : sort_of c.args.scope.now c.args.name.now ≡ Some (sort.Bits c.in-Some-Bits.width) = cc (c.in-Some-Bits.ensures, c.in-Some-Bits.field-0-is) in
    declared_width c.args.scope.now c.args.name.now c.in-Some-Bits.width c.requires.scope e
