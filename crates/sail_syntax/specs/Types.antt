-- Types of the Sail profile.
use Rattle.std.specs.Prelude.{Bool, true, false, nat_eq, bytes_eq}
use Rattle.sail_syntax.specs.declared.types.Ty.{Ty}
use Rattle.sail_syntax.specs.declared.types.Ty.TheVariants as ty

-- whether two types are the same: two of bits by their widths, two enums by their names
abbrev pub is_same_type : Ty → Ty → Bool
is_same_type ty.Unit ty.Unit = true
is_same_type ty.Bool ty.Bool = true
is_same_type (ty.Bits v) (ty.Bits w) = nat_eq v w
is_same_type (ty.Enum x) (ty.Enum y) = bytes_eq x y
is_same_type _ _ = false
