use Rattle.std.proofs.Common.{List, ℕ, Some}
use Rattle.std.specs.Borrow.{Bor}
use Rattle.type_names.proofs.PlaceLemmas.{updated}
use Rattle.type_names.proofs.newest.set_newest.Goals as goal

pub returns-clause-set : goal.returns-clause-set
returns-clause-set c = updated (λ (k : Bor (List ℕ)). k.now) c.args.name.now c.args.newest.now c.insert.new.self (Some c.args.place) c.in_ok-insert.ensures.updates
