use Rattle.std.proofs.Common.{◌∙◌, ◌-◌, ap, reverse, drop, length}
use Rattle.sail_values.proofs.Back.{kept}
use Rattle.sail_values.proofs.slots.Slots.keep.Goals as goal

pub returns : goal.returns
returns c = ap reverse c.truncate.ensures.items ∙ kept c.self.inside.slots.items c.args.count ∙ ap (λ s. drop (length s - c.args.count) s) c.self.view_is
