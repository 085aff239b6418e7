use Rattle.std.proofs.Common.{◌∙◌, sym}
use Rattle.state_core.proofs.View.{view_get}
use Rattle.state_core.proofs.bytes.Bytes.get.Goals as goal

pub returns : goal.returns
returns c = c.copied.ensures ∙ c.get.ensures.value ∙ sym (view_get _ _ _ c.self.view_is)
