use Rattle.std.proofs.Common.{◌≡◌, ◌≤◌, ◌++◌}
use Rattle.bit_text.specs.Texts.{last_digits}
use Rattle.bit_text.proofs.printing.put_digits.Given as goal

-- the digits that are left stand behind those that are written
abbrev pub invariant-loop-left : goal.invariant-loop-left
invariant-loop-left l = (l.left ≤ l.count) × (l.out.items ++ last_digits l.each l.left l.value ≡ l.initial.out.items ++ last_digits l.each l.count l.value)

abbrev pub decreases-loop-left : goal.decreases-loop-left
decreases-loop-left l = l.left
