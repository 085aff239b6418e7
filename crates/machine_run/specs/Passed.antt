-- The moments of fetches and steps, and the world in which a run is left after want of memory.
use Rattle.std.specs.Prelude.{◌≡◌, ℕ, ◌+◌, ◌^◌, ◌<◌, ◌++◌, ◌&&◌, nat_lt, Bool, true, false, if◌then◌else◌, List, [], ◌∷◌}
use Rattle.state_core.specs.declared.kinds.AccessKind.TheVariants as access
use Rattle.state_core.specs.declared.kinds.Range.{Range}
use Rattle.state_core.specs.World.{World, Got, gets, faults, lacks}
use Rattle.state_core.specs.Memory.{logged, fetch}
use Rattle.sail_syntax.specs.Program.{Definition}
use Rattle.eval_rules.specs.Moments.{Moment, IsPassed, passes, access_moments}
use Rattle.eval_words.specs.Instr.{moments_of_instr}
use Rattle.machine_run.specs.Words.{is_long, fetch_word}
use Rattle.machine_run.specs.Machine.{run, at_count, pc_of}
use Rattle.machine_run.specs.Program.{machine_of, has_short}
use Rattle.machine_run.specs.declared.machine.Stop.{Stop}
use Rattle.machine_run.specs.declared.machine.Stop.TheVariants as stop

-- ---- fetches

-- the moments of a fetch of n bytes
abbrev pub fetch_moments : List Range → ℕ → ℕ → World → List Moment
fetch_moments ranges at n w = access_moments (logged access.Fetch at n w) (fetch ranges at n w)

-- those of what comes after a fetch: it is done, and then that begins
abbrev pub behind_fetch : {X : Type 0} → Got X → (X → World → List Moment) → List Moment
behind_fetch (gets x w) f = record { did = passes; world = w } ∷ f x w
behind_fetch (faults k w) f = []
behind_fetch (lacks w) f = []

-- those of the second two bytes of a word, which aren't fetched where the first ones are the word or they would begin at 2 ^ 64
abbrev pub second_moments : List Range → ℕ → ℕ → World → List Moment
second_moments ranges at low w = if is_long low && nat_lt (at + 2) (2 ^ 64) then fetch_moments ranges (at + 2) 2 w else []

-- those of the fetch of a word
abbrev pub word_moments : Bool → List Range → ℕ → World → List Moment
word_moments false ranges at w = fetch_moments ranges at 4 w
word_moments true ranges at w = fetch_moments ranges at 2 w ++ behind_fetch (fetch ranges at 2 w) (second_moments ranges at)

-- ---- steps and runs

-- the moments of a step: of the fetch of its word, and of what the word does
unfoldable pub step_moments : List Definition → List Range → World → List Moment
step_moments defs ranges w =
    let at = pc_of (machine_of defs) w.state in
    word_moments (has_short defs) ranges at w ++ behind_fetch (fetch_word (has_short defs) ranges at w) (moments_of_instr defs ranges)

-- a run of n steps is left in this world: so many of its steps are whole and come to no exit, and the next one passes the world
pub record IsLeft (defs : List Definition) (ranges : List Range) (exits : List ℕ) (n done : ℕ) (start world : World) : Type 0 where
  pub fewer : done < n
  pub whole : (run (machine_of defs) ranges exits done start).stop ≡ at_count
  pub passed : IsPassed world (run (machine_of defs) ranges exits done start).world (step_moments defs ranges (run (machine_of defs) ranges exits done start).world)

-- where a run stops for want of memory, this holds
abbrev pub IfNoMemory : Stop → Type 0 → Type 0
IfNoMemory stop.NoMemory P = P
IfNoMemory stop.Count P = Unit {0}
IfNoMemory (stop.Exit index) P = Unit {0}
IfNoMemory (stop.Fault kind at) P = Unit {0}
IfNoMemory stop.NoAnswer P = Unit {0}
