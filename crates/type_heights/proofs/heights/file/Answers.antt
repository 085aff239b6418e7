use Rattle.std.proofs.lemmas.Map.Text.{btree_map_updates_str}
use Rattle.type_heights.proofs.heights.file.Goals as goal

pub returns-in-Ok-clause-found : goal.returns-in-Ok-clause-found
returns-in-Ok-clause-found c = btree_map_updates_str c.args.name.now c.args.newest.now c.insert.new.self _ c.in-Ok.ensures.updates
