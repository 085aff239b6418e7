use Rattle.std.proofs.Common.{List, ℕ, Some, None, sym, ap, ◌∙◌, if◌then◌else◌, bytes_eq}
use Rattle.std.specs.Borrow.{Bor}
use Rattle.type_names.specs.Newest.{newest_at}
use Rattle.type_names.proofs.NewestLemmas.{sure}
use Rattle.type_names.proofs.PlaceLemmas.{updated}
use Rattle.type_names.proofs.newest.reset_newest.Goals as goal

pub returns-in-Some : goal.returns-in-Some
returns-in-Some c = λ x.
    updated (λ (k : Bor (List ℕ)). k.now) c.args.name.now c.args.newest.now c.insert.new.self (Some c.in-Some.place)
    (sure c.insert.result _ (newest_at c.args.name.now c.args.newest.now) c.requires.is_there c.insert.ensures.absent c.insert.ensures.updates) x
    ∙ ap (λ place. if bytes_eq c.args.name.now x then place else newest_at x c.args.newest.now) (sym c.in-Some.is)

pub returns-in-None : goal.returns-in-None
returns-in-None c = λ x.
    updated (λ (k : Bor (List ℕ)). k.now) c.args.name.now c.args.newest.now c.remove.new.self None c.remove.ensures.updates x
    ∙ ap (λ place. if bytes_eq c.args.name.now x then place else newest_at x c.args.newest.now) (sym c.in-None.is)
