use Rattle.std.proofs.Common.{◌≡◌, ◌≤◌, ◌<◌, ◌+◌, ◌∙◌, arith}
use Rattle.sym_parts.proofs.StayLemmas.{fits_stays}
use Rattle.sym_parts.proofs.PartLemmas.{above_none, above_stops, above_made}
use Rattle.sym_parts.proofs.parts.above.Goals as goal

pub returns-then-hi-width-clause-makes : goal.returns-then-hi-width-clause-makes
returns-then-hi-width-clause-makes c =
    above_none c.args.terms.now c.args.value c.args.by c.args.hi c.from-width.result c.requires.first (c.from-width.ensures ∙ c.width_in.ensures) c.if-hi-width.true

pub joined-requires-clause-second : goal.joined-requires-clause-second
joined-requires-clause-second c = fits_stays c.args.terms.now c.sliced.new.terms c.in-Ok.ensures.makes.kept c.args.by c.requires.second

pub returns-in-Ok-clause-makes : goal.returns-in-Ok-clause-makes
returns-in-Ok-clause-makes c =
    above_made c.args.terms.now c.args.value c.args.by c.args.hi c.from-width.result c.requires.first (c.from-width.ensures ∙ c.width_in.ensures)
    (let h = c.if-hi-width.false in omega (arith, h)) c.in-Ok.ensures.makes c.joined.ensures.makes

pub returns-in-Err-clause-makes : goal.returns-in-Err-clause-makes
returns-in-Err-clause-makes c =
    above_stops c.args.terms.now c.args.value c.args.by c.args.hi c.from-width.result c.requires.first (c.from-width.ensures ∙ c.width_in.ensures)
    (let h = c.if-hi-width.false in omega (arith, h)) c.in-Err.ensures.makes
