-- What a verdict tells of the texts and of their run.
use Rattle.std.specs.Prelude.{◌≡◌, ◌⊎◌, ℕ, true, List, [], Option, Some, None}
use Rattle.sail_syntax.specs.Program.{Definition}
use Rattle.state_core.specs.World.{World, gets, start}
use Rattle.state_core.specs.declared.word.Word.{Word}
use Rattle.eval_uses.specs.Uses.{has_access}
use Rattle.eval_words.specs.Instr.{Ended, moments_of_instr}
use Rattle.machine_run.specs.Words.{fetch_word}
use Rattle.machine_run.specs.Machine.{pc_of, at_count, run}
use Rattle.machine_run.specs.Program.{machine_of}
use Rattle.machine_safe.specs.First.{Constants, fails, walk_from}
use Rattle.constants_walk.specs.Entry.{entry_state}
use Rattle.constants_walk.specs.Failing.{IsFailure}
use Rattle.constants_walk.specs.RunForm.{most_instructions}
use Rattle.constants_walk.specs.declared.failure.Failure.{Failure}
use Rattle.report_text.specs.Outcome.{Said}
use Rattle.report_text.specs.declared.outcome.Status.TheVariants as kind

-- what can be said of three texts: acceptance, a refusal, bad input or a limit
abbrev pub IsTold : Option Said → Type 0
IsTold None = ⊥
IsTold (Some said) = (said.status ≡ kind.Accepted) ⊎ (said.status ≡ kind.Refused) ⊎ (said.status ≡ kind.Input) ⊎ (said.status ≡ kind.Limit)

-- the world in which the run of a specification over constants begins
abbrev pub first_world : List Definition → Constants → World
first_world defs c = start (entry_state (machine_of defs) c) []

-- the walk of the run comes to an instruction at pc that is cut short by this failure
pub record FailsAt (defs : List Definition) (c : Constants) (why : Failure) (pc : ℕ) : Type 0 where
  pub ended : Ended
  pub world : World
  pub walks : walk_from (machine_of defs) c 0 c.entry_at most_instructions (first_world defs c) ≡ (fails ended pc, world)
  pub failure : IsFailure why ended

-- after so many instructions, all of them whole, a word is fetched at pc that accesses memory or a device
pub record TouchesAt (defs : List Definition) (c : Constants) (pc : ℕ) : Type 0 where
  pub done : ℕ
  pub world : World
  pub whole : (run (machine_of defs) [] [] done (first_world defs c)).stop ≡ at_count
  pub reached : (run (machine_of defs) [] [] done (first_world defs c)).world ≡ world
  pub there : pc_of (machine_of defs) world.state ≡ pc
  pub word : Word
  pub behind : World
  pub fetched : fetch_word (machine_of defs).short [] pc world ≡ gets word behind
  pub accesses : has_access (moments_of_instr defs [] word behind) ≡ true
