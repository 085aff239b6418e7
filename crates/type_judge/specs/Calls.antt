-- A call, by what its name stands for: the same as the definition's, with its arguments written out.
use Rattle.std.specs.Prelude.{ℕ, List, [], length, Option, Some, None, nat_eq, nat_le}
use Rattle.sail_syntax.specs.Tree.{Text, Trees}
use Rattle.sail_syntax.specs.declared.types.Ty.{Ty}
use Rattle.type_rules.specs.declared.fault.Why.TheVariants.{Unknown}
use Rattle.type_rules.specs.declared.scope.Entry.{Entry}
use Rattle.type_rules.specs.declared.scope.Item.{Item}
use Rattle.type_rules.specs.declared.scope.Item.TheVariants as item
use Rattle.type_rules.specs.declared.scope.Slot.{Slot}
use Rattle.type_rules.specs.declared.scope.Local.{Local}
use Rattle.type_rules.specs.Rules.{Judged, is, says, bind, finished, counted, given_type, count}
use Rattle.type_rules.specs.Judge.{judge_args}

module _ (globals : List Entry) (here : ℕ) (f : Text) (at : ℕ) (want : Option Ty) (args : Trees) (scope : List Local) where
  -- of a function
  abbrev pub function_call : List Slot → Option Ty → ℕ → Judged
  function_call ps r after =
      bind (finished (nat_le after here) f at) (λ _.
      bind (judge_args globals here args ps scope) (λ one. counted (nat_eq (length ps) (count args)) at want (given_type globals r one)))

  -- of another name
  abbrev pub no_call : Judged
  no_call = bind (says at (Unknown f)) (λ _. bind (judge_args globals here args [] scope) (λ _. is None))

  -- of what the name stands for
  abbrev pub any_call : Option Item → Judged
  any_call (Some (item.Function ps r after)) = function_call ps r after
  any_call (Some (item.Register w)) = no_call
  any_call (Some (item.Member e)) = no_call
  any_call (Some item.Enum) = no_call
  any_call None = no_call
