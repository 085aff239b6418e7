-- Safe specifications and safe procedures.
use Rattle.std.specs.Prelude.{◌≡◌, ◌≢◌, ◌<◌, ◌≤◌, ◌^◌, ◌⊎◌, ℕ, List, [], All, Any, Contains, Some, slice_get}
use Rattle.state_core.specs.declared.kinds.FaultKind.{FaultKind}
use Rattle.state_core.specs.declared.kinds.Access.{Access}
use Rattle.state_core.specs.declared.kinds.AccessKind.TheVariants as access
use Rattle.state_core.specs.declared.kinds.DevEvent.{DevEvent}
use Rattle.state_core.specs.declared.kinds.Range.{Range}
use Rattle.state_core.specs.State.{State}
use Rattle.state_core.specs.World.{start}
use Rattle.state_core.specs.Claims.{register, device, Holds, bytes_from}
use Rattle.state_core.specs.Devices.{Transitions, all_taken, no_candidate, write_off, judge, device_at, IsAllowed}
use Rattle.eval_rules.specs.Moments.{Use, use_reads, use_writes}
use Rattle.machine_run.specs.Machine.{Machine, pc_of, at_count, at_exit, at_fault, Ran, run}
use Rattle.machine_safe.specs.Routine.{Exit, Routine, code_claims, cover_parts, own, exit_addresses, IsMet, IsEntry}

module _ {F V W : Type 0} where
  -- the access lies in owned bytes, or in the range of an owned device
  abbrev pub AccessInside : List Range → Routine F V W → F → V → Access → Type 0
  AccessInside ranges r f v a =
      All (Contains (own r f v)) (bytes_from a.addr a.bytes)
      ⊎ ((d : ℕ) × (device_at ranges a.addr a.bytes ≡ Some d) × Contains (own r f v) (device d))

  -- a fetch lies in the cover
  abbrev pub FetchInside : Routine F V W → Access → Type 0
  FetchInside r a = a.kind ≡ access.Fetch → All (Contains (cover_parts r)) (bytes_from a.addr a.bytes)

  -- a register that is read is the PC, an assumed one or an owned one; one that is written is the PC or an owned one
  abbrev pub UseInside : Machine → Routine F V W → F → V → Use → Type 0
  UseInside m r f v (use_reads x) = (x ≡ m.pc) ⊎ (Any (λ a. a.0 ≡ x) r.assumed ⊎ Contains (own r f v) (register x))
  UseInside m r f v (use_writes x) = (x ≡ m.pc) ⊎ Contains (own r f v) (register x)

  -- the event is one of an owned device
  abbrev pub EventInside : List Range → Routine F V W → F → V → DevEvent → Type 0
  EventInside ranges r f v e = (d : ℕ) × (device_at ranges e.addr e.bytes ≡ Some d) × Contains (own r f v) (device d)

  -- a run that does nothing wrong, from these states of the devices
  pub record IsCleanRun (m : Machine) (next : Transitions) (ranges : List Range) (r : Routine F V W) (f : F) (v : V) (devices : ℕ → ℕ) (ran : Ran) : Type 0 where
    -- it doesn't stop at a fault
    pub no_fault : (kind : FaultKind) (at : ℕ) → ran.stop ≢ at_fault kind at
    -- each access lies in what is owned, and each fetch in the cover
    pub accesses : All (AccessInside ranges r f v) ran.world.accesses
    pub fetches : All (FetchInside r) ran.world.accesses
    -- each register that it uses may be used
    pub uses : All (UseInside m r f v) ran.uses
    -- the code is still the image's
    pub code : All (Holds ran.world.state devices) (code_claims r.cover)
    -- each device event is one of an owned device, none lacks a candidate, and no write is off
    pub events : All (EventInside ranges r f v) ran.world.events
    pub candidates : (i : ℕ) → judge next ranges devices ran.world.events ≢ no_candidate i
    pub writes_on : (i : ℕ) → judge next ranges devices ran.world.events ≢ write_off i

  -- the PC is at an exit whose assertion is true, for some values of its own variables, in owned parts
  pub record ExitHolds (IsExitValue : W → Type 0) (m : Machine) (next : Transitions) (ranges : List Range) (r : Routine F V W) (f : F) (v : V) (devices : ℕ → ℕ) (ran : Ran) : Type 0 where
    pub index : ℕ
    pub exit : Exit F W
    pub listed : slice_get r.exits index ≡ Some exit
    pub there : exit.at f ≡ pc_of m ran.world.state
    pub value : W
    pub is_value : IsExitValue value
    pub last : ℕ → ℕ
    pub taken : judge next ranges devices ran.world.events ≡ all_taken last
    pub meets : IsMet ranges ran.world.state last r f v (exit.claims f value)

  -- a clean run that finds the assertion of an exit true where it stops at one
  pub record IsSafeRun (IsExitValue : W → Type 0) (m : Machine) (next : Transitions) (ranges : List Range) (r : Routine F V W) (f : F) (v : V) (devices : ℕ → ℕ) (ran : Ran) : Type 0 where
    pub clean : IsCleanRun m next ranges r f v devices ran
    pub exit : (i : ℕ) → ran.stop ≡ at_exit i → ExitHolds IsExitValue m next ranges r f v devices ran

  -- for all values of the variables, every state and states of the devices that meet the entry, every list of answers and every n, where
  -- the devices allow the answers for the run that stops at these addresses
  abbrev pub FromEntry : (F → Type 0) → (V → Type 0) → Machine → Transitions → List Range → Routine F V W → (F → List ℕ)
      → (F → V → State → (ℕ → ℕ) → List ℕ → ℕ → Type 0) → Type 0
  FromEntry IsFixed IsValue m next ranges r exits Promise =
      (f : F) (v : V) (s : State) (devices : ℕ → ℕ) (answers : List ℕ) (n : ℕ) → IsFixed f → IsValue v → IsEntry m ranges r f v s devices
      → All (λ a. a < 2 ^ 128) answers → IsAllowed (judge next ranges devices (run m ranges (exits f) n (start s answers)).world.events)
      → Promise f v s devices answers n

  -- a safe specification
  abbrev pub IsSafe : (F → Type 0) → (V → Type 0) → (W → Type 0) → Machine → Transitions → List Range → Routine F V W → Type 0
  IsSafe IsFixed IsValue IsExitValue m next ranges r =
      FromEntry IsFixed IsValue m next ranges r (exit_addresses r) (λ f v s devices answers n.
      IsSafeRun IsExitValue m next ranges r f v devices (run m ranges (exit_addresses r f) n (start s answers)))

  -- after some steps, at most n of them, all of them whole and clean, the PC is at the return, whose assertion is true
  pub record Returns (IsExitValue : W → Type 0) (m : Machine) (next : Transitions) (ranges : List Range) (r : Routine F V W) (f : F) (v : V) (s : State) (devices : ℕ → ℕ) (answers : List ℕ) (n : ℕ) : Type 0 where
    pub steps : ℕ
    pub few : steps ≤ n
    pub whole : (run m ranges [] steps (start s answers)).stop ≡ at_count
    pub clean : IsCleanRun m next ranges r f v devices (run m ranges [] steps (start s answers))
    pub there : ExitHolds IsExitValue m next ranges r f v devices (run m ranges [] steps (start s answers))

  -- a safe procedure: its run stops nowhere, and is clean, or is so up to the return
  abbrev pub IsSafeProcedure : (F → Type 0) → (V → Type 0) → (W → Type 0) → Machine → Transitions → List Range → Routine F V W → Type 0
  IsSafeProcedure IsFixed IsValue IsExitValue m next ranges r =
      FromEntry IsFixed IsValue m next ranges r (λ f. []) (λ f v s devices answers n.
      IsCleanRun m next ranges r f v devices (run m ranges [] n (start s answers)) ⊎ Returns IsExitValue m next ranges r f v s devices answers n)
