use Rattle.std.proofs.Common.{◌≡◌, ◌/◌, length, Some, ap, sym, ◌∙◌}
use Rattle.std.specs.Prelude.{slice_get}
use Rattle.std.proofs.lemmas.Bool.{ltb-true}
use Rattle.std.proofs.lemmas.Option.{slice_get-get_or}
use Rattle.axiom_parts.proofs.SubtermLemmas.{byte_found}
use Rattle.axiom_parts.proofs.subterms.byte_part.Goals as goal

pub returns-in-Some : goal.returns-in-Some
returns-in-Some c =
    let subs = c.args.subs.now in
    let q = c.args.part / 2 in
    let sub = c.in-Some.sub.now in
    let found = c.in-Some.ensures.lookup in
    let within = ltb-true q (length subs) (sym found.0) in
    let here : slice_get subs q ≡ Some sub = slice_get-get_or subs q sub within ∙ ap Some (sym found.1) in
    byte_found subs c.args.p c.args.array c.args.x c.args.part c.args.j sub c.pair_part.result c.if-p-q.false here c.pair_part.ensures
