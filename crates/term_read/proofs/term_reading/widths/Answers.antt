use Rattle.std.proofs.Common.{◌≡◌, ◌++◌, ◌∷◌, [], rules}
use Rattle.term_read.proofs.ReadingLemmas.{typed_here, widths_more}
use Rattle.term_read.proofs.term_reading.widths.Goals as goal

pub width-requires : goal.width-requires
width-requires c = record { typed = typed_here _ c.loop-term.term-index c.term-item.result c.requires c.loop-term-test.true c.term-item.is }

pub loop-term-preserved : goal.loop-term-preserved
loop-term-preserved c =
    let written : c.push.new.self.items ≡ c.loop-term.widths.items ++ c.width.result ∷ [] = search rules in
    widths_more _ c.loop-term.term-index c.term-item.result c.width.result _ _ c.loop-term-test.true c.term-item.is c.width.ensures.width written c.loop-term.invariant
