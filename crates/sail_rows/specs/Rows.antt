-- Which frames hold parts in a row.
use Rattle.std.specs.Prelude.{Bool, true, false}
use Rattle.sail_machine.specs.Frames as m

-- whether what is open holds parts in a row
abbrev pub is_row : m.Frame → Bool
is_row (m.body head t) = true
is_row (m.args f xs p) = true
is_row (m.armed on cs pattern p) = true
is_row (m.statements ss p) = true
is_row (m.binding ss b x t p) = true
is_row f = false
