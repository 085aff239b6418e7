use Rattle.std.proofs.Common.{◌≡◌, [], map, take, drop}
use Rattle.device_spec.specs.Checked.{devices_fault}
use Rattle.device_spec.specs.View.{device_of}
use Rattle.device_spec.proofs.check.check_devices.Given as goal

-- the first fault is that of the devices that are left, behind those before
abbrev pub invariant-loop-number : goal.invariant-loop-number
invariant-loop-number l = devices_fault (map device_of (take l.number l.devs)) (map device_of (drop l.number l.devs)) ≡ devices_fault [] (map device_of l.devs)
