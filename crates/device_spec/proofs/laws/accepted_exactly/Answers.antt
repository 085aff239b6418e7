use Rattle.std.proofs.Common.{[]}
use Rattle.device_spec.proofs.CheckLemmas.{devices_none, no_devices}
use Rattle.device_spec.proofs.laws.accepted_exactly.Goals as goal

pub returns : goal.returns
returns c = λ ds. devices_none [] ds no_devices
