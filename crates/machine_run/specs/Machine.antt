-- Steps and runs of the machine over words of two and four bytes, for any meaning of words.
use Rattle.std.specs.Prelude.{ℕ, zero, suc, nat_eq, Bool, List, [], ◌++◌, Option, Some, None}
use Rattle.std.specs.List.{position}
use Rattle.state_core.specs.declared.kinds.FaultKind.{FaultKind}
use Rattle.state_core.specs.declared.kinds.Range.{Range}
use Rattle.state_core.specs.declared.word.Word.{Word}
use Rattle.state_core.specs.State.{State, register_of}
use Rattle.state_core.specs.World.{World, fault, lacks_answer, Got, gets, faults, lacks}
use Rattle.eval_rules.specs.Moments.{Use}
use Rattle.eval_words.specs.Instr.{Ended, whole, cut}
use Rattle.machine_run.specs.Words.{fetch_word}

-- a machine: the widths of its registers, the register of the PC, the place of the definition of `instr`, whether it has words of two bytes, what a
-- word does with devices in these ranges, and which registers it uses
pub record Machine : Type 0 where
  pub widths : List ℕ
  pub pc : ℕ
  pub instr_at : ℕ
  pub short : Bool
  pub instr : List Range → Word → World → Ended × World
  pub uses : List Range → Word → World → List Use

-- the address of the next instruction
abbrev pub pc_of : Machine → State → ℕ
pc_of m s = (register_of s m.pc).value

-- the fetched word is executed; a fault of the fetch is one of the definition of `instr`
abbrev pub executed : Machine → List Range → Got Word → Ended × World
executed m ranges (gets word w) = m.instr ranges word w
executed m ranges (faults kind w) = (cut (fault kind m.instr_at), w)
executed m ranges (lacks w) = (cut lacks_answer, w)

-- one step: the word at the PC is fetched and executed
unfoldable pub step : Machine → List Range → World → Ended × World
step m ranges w = executed m ranges (fetch_word m.short ranges (pc_of m w.state) w)

-- the registers that the fetched word uses
abbrev pub used : Machine → List Range → Got Word → List Use
used m ranges (gets word w) = m.uses ranges word w
used m ranges (faults kind w) = []
used m ranges (lacks w) = []

-- the registers that a step uses
unfoldable pub step_uses : Machine → List Range → World → List Use
step_uses m ranges w = used m ranges (fetch_word m.short ranges (pc_of m w.state) w)

-- why a run stops
pub data Stop : Type 0 where
  -- all steps were made
  at_count : Stop
  -- after a whole step the PC is the address of this exit, counted from 0
  at_exit : (index : ℕ) → Stop
  -- a step has a fault, at a place of the Sail text
  at_fault : (kind : FaultKind) → (at : ℕ) → Stop
  -- a step reads a device, and no answer is left
  at_answer : Stop

-- a run: how many steps are whole, why it stops, the world that it reaches and the registers that it uses
pub record Ran : Type 0 where
  pub done : ℕ
  pub stop : Stop
  pub world : World
  pub uses : List Use

-- the first exit whose address is the PC
abbrev pub exit_of : Machine → List ℕ → World → Option ℕ
exit_of m exits w = position (λ e. nat_eq e (pc_of m w.state)) exits

-- a whole step that comes to an exit, or is followed by the rest
abbrev pub followed : Option ℕ → World → List Use → Ran → Ran
followed (Some i) w u rest = record { done = 1; stop = at_exit i; world = w; uses = u }
followed None w u rest = record { done = suc rest.done; stop = rest.stop; world = rest.world; uses = u ++ rest.uses }

-- a step, the exit that it comes to, and the rest
abbrev pub stepped : Ended → World → List Use → Option ℕ → Ran → Ran
stepped whole w u out rest = followed out w u rest
stepped (cut (fault kind at)) w u out rest = record { done = 0; stop = at_fault kind at; world = w; uses = u }
stepped (cut lacks_answer) w u out rest = record { done = 0; stop = at_answer; world = w; uses = u }

-- n steps, or fewer up to the first stop; the exits are tested after each whole step
abbrev pub run : Machine → List Range → List ℕ → ℕ → World → Ran
run m ranges exits zero w = record { done = 0; stop = at_count; world = w; uses = [] }
run m ranges exits (suc n) w =
    let s = step m ranges w in
    stepped s.0 s.1 (step_uses m ranges w) (exit_of m exits s.1) (run m ranges exits n s.1)
