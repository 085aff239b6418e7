use Rattle.state_core.proofs.View.{view_insert}
use Rattle.state_core.proofs.bytes.Bytes.add.Goals as goal

pub returns-clause-ok : goal.returns-clause-ok
returns-clause-ok c = view_insert _ _ _ _ _ c.self.view_is c.in_ok-insert.ensures.updates.0
