-- What is borrowed, as what it stands for.
use Rattle.std.specs.Prelude.{Option, Some, None}
use Rattle.sail_syntax.specs.declared.types.Ty.{Ty}
use Rattle.sail_syntax.specs.declared.types.Ty.TheVariants as ty
use Rattle.type_rules.specs.declared.fault.Fault.{Fault}
use Rattle.type_rules.specs.declared.fault.Why.{Why}
use Rattle.type_rules.specs.declared.fault.Why.TheVariants as why
use Rattle.type_rules.specs.declared.scope.Local.{Local}
use Rattle.type_rules.specs.declared.scope.Sort.{Sort}
use Rattle.type_rules.specs.declared.scope.Sort.TheVariants as sort
use Rattle.type_names.specs.declared.borrowed.TyRef.{TyRef}
use Rattle.type_names.specs.declared.borrowed.TyRef.TheVariants as own_ty
use Rattle.type_names.specs.declared.borrowed.SortRef.{SortRef}
use Rattle.type_names.specs.declared.borrowed.SortRef.TheVariants as own_sort
use Rattle.type_names.specs.declared.borrowed.LocalRef.{LocalRef}
use Rattle.type_names.specs.declared.borrowed.WhyRef.{WhyRef}
use Rattle.type_names.specs.declared.borrowed.WhyRef.TheVariants as own_why
use Rattle.type_names.specs.declared.borrowed.FaultRef.{FaultRef}

-- a type
abbrev pub type_of : TyRef → Ty
type_of own_ty.Unit = ty.Unit
type_of own_ty.Bool = ty.Bool
type_of (own_ty.Bits w) = ty.Bits w
type_of (own_ty.Enum x) = ty.Enum x.now

-- a type, if it is known
abbrev pub maybe_type : Option TyRef → Option Ty
maybe_type (Some t) = Some (type_of t)
maybe_type None = None

-- what a local name stands for
abbrev pub sort_of : SortRef → Sort
sort_of (own_sort.Holds t assigned) = sort.Holds (maybe_type t) assigned
sort_of (own_sort.Counts a b) = sort.Counts a b

-- a local name
abbrev pub local_of : LocalRef → Local
local_of l = record { name = l.name.now; sort = sort_of l.sort }

-- what is wrong
abbrev pub why_of : WhyRef → Why
why_of (own_why.Unknown x) = why.Unknown x.now
why_of (own_why.Twice x) = why.Twice x.now
why_of (own_why.Differs want got) = why.Differs (type_of want) (type_of got)
why_of (own_why.Later x) = why.Later x.now
why_of (own_why.TooHigh x) = why.TooHigh x.now

-- a fault
abbrev pub fault_of : FaultRef → Fault
fault_of f = record { at = f.at; why = why_of f.why }

-- the first fault so far, if there is one
abbrev pub maybe_fault : Option FaultRef → Option Fault
maybe_fault (Some f) = Some (fault_of f)
maybe_fault None = None
