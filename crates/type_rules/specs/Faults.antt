-- All faults that can be said of a program, in the order of its parts, and the first of them.
use Rattle.std.specs.Prelude.{◌≡◌, ℕ, Bool, true, false, nat_eq, nat_lt, ◌&&◌, ◌||◌, Option, Some, None, if◌then◌else◌, ⊤, ◌⊎◌}
use Rattle.type_rules.specs.declared.fault.Fault.{Fault}
use Rattle.type_rules.specs.declared.fault.Why.{Why}
use Rattle.type_rules.specs.declared.fault.Why.TheVariants.{Unknown, Twice, Differs, Later, TooHigh}
use Rattle.type_rules.specs.declared.fault.TypeFault.{TypeFault}
use Rattle.type_rules.specs.declared.fault.TypeFault.TheVariants as told

-- what is said of a part: nothing, one fault, or what is said of two parts, the inner or left one first
pub data Faults : Type 0 where
  fine : Faults
  fault : (f : Fault) → Faults
  both : (a b : Faults) → Faults

-- the number that the program prints
abbrev pub number : Why → ℕ
number (Unknown x) = 10
number (Twice x) = 11
number (Differs want got) = 12
number (Later x) = 15
number (TooHigh x) = 52

-- f comes before g: nearer to the front of the text, or at the same place with a lower number
abbrev pub sooner : Fault → Fault → Bool
sooner f g = nat_lt f.at g.at || (nat_eq f.at g.at && nat_lt (number f.why) (number g.why))

-- the better of the best so far and one more; of two that are at one place with one number, the one that was said first stays
abbrev pub better : Option Fault → Fault → Option Fault
better None f = Some f
better (Some g) f = if sooner f g then Some f else Some g

-- the best of those before and these
abbrev pub first_from : Option Fault → Faults → Option Fault
first_from best fine = best
first_from best (fault f) = better best f
first_from best (both a b) = first_from (first_from best a) b

-- the first by place and number; none where nothing is said
abbrev pub first : Faults → Option Fault
first fs = first_from None fs

-- nothing is said
abbrev pub Clean : Faults → Type 0
Clean fine = ⊤
Clean (fault f) = ⊥
Clean (both a b) = Clean a × Clean b

-- the fault is said
abbrev pub IsSaid : Fault → Faults → Type 0
IsSaid f fine = ⊥
IsSaid f (fault g) = f ≡ g
IsSaid f (both a b) = IsSaid f a ⊎ IsSaid f b

-- how a fault with a place is told
abbrev pub as_told : ℕ → Why → TypeFault
as_told at (Unknown x) = told.Unknown x at
as_told at (Twice x) = told.Twice x at
as_told at (Differs want got) = told.TypeDiffers want got at
as_told at (Later x) = told.Later x at
as_told at (TooHigh x) = told.CallHeight x at

-- the number that the program prints for what is told; want of memory has none
abbrev pub number_told : TypeFault → Option ℕ
number_told (told.Unknown x at) = Some 10
number_told (told.Twice x at) = Some 11
number_told (told.TypeDiffers want got at) = Some 12
number_told told.NoInstr = Some 13
number_told told.NoPc = Some 14
number_told (told.Later x at) = Some 15
number_told (told.CallHeight x at) = Some 52
number_told (told.BadInstr16 at) = Some 59
number_told told.NoMemory = None
