use Rattle.std.proofs.Common.{◌∙◌, sym, ap, subst, T}
use Rattle.std.specs.Prelude.{is_some}
use Rattle.state_core.proofs.View.{view_insert, view_get}
use Rattle.state_core.proofs.bytes.Bytes.set.Goals as goal

pub unreachable-requires : goal.unreachable-requires
unreachable-requires c =
    subst T (sym (sym (ap is_some (view_get _ _ c.args.addr c.self.view_is ∙ c.in-Err.ensures.absent)) ∙ c.requires)) tt

pub returns : goal.returns
returns c = view_insert _ _ _ _ _ c.self.view_is c.in-Ok.ensures.updates.0
