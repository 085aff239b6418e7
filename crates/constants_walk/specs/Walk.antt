-- What the code of the walk answers.
use Rattle.std.specs.Prelude.{◌≡◌, true, false, Some, None}
use Rattle.state_core.specs.World.{World, Halt}
use Rattle.eval_words.specs.Instr.{Ended, whole, cut}
use Rattle.machine_safe.specs.First.{has_touched, Walked, left, outside, touches, fails, too_many}
use Rattle.constants_walk.specs.Failing.{failure_why, failure_of}
use Rattle.constants_walk.specs.declared.walk.Walk.{Walk}
use Rattle.constants_walk.specs.declared.walk.Walk.TheVariants as walk
use Rattle.constants_walk.specs.declared.walk.Stepped.{Stepped}
use Rattle.constants_walk.specs.declared.walk.Stepped.TheVariants as stepped

-- what an instruction comes to is what a step from one world to another one is
abbrev pub IsStepped : Stepped → World → Ended × World → World → Type 0
IsStepped stepped.Whole w s x = (has_touched w x ≡ false) × (s ≡ (whole, x))
IsStepped stepped.Touched w s x = (has_touched w x ≡ true) × ((e : Ended) × (s ≡ (e, x)))
IsStepped (stepped.Failed failure) w s x = (has_touched w x ≡ false) × ((why : Halt) × (s ≡ (cut why, x)) × (failure_why why ≡ Some failure))
IsStepped stepped.Halted w s x = (has_touched w x ≡ false) × ((why : Halt) × (s ≡ (cut why, x)) × (failure_why why ≡ None))

-- an end of a walk and the world that it leaves are those of the definition
abbrev pub IsWalked : Walk → World → Walked × World → Type 0
IsWalked (walk.Left count last) w r = r ≡ (left count last, w)
IsWalked (walk.Outside pc) w r = r ≡ (outside pc, w)
IsWalked (walk.Touches pc) w r = r ≡ (touches pc, w)
IsWalked (walk.Fails failure pc) w r = (e : Ended) × (r ≡ (fails e pc, w)) × (failure_of e ≡ Some failure)
IsWalked (walk.TooMany pc) w r = r ≡ (too_many pc, w)
