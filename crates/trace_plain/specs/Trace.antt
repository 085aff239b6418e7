-- Traces as plain data.
use Rattle.std.specs.Prelude.{ℕ, zero, suc, ◌+◌, List, length}
use Rattle.bv_bits.specs.declared.Bits.{Bits}
use Rattle.term_tree.specs.Terms.{Tree}
use Rattle.trace_plain.specs.declared.trace.FailKind.{FailKind}

-- an event; registers and variables go by their numbers
pub data Event : Type 0 where
  -- the value of a register becomes that of a variable
  read_reg : (r var : ℕ) → Event
  -- a register takes the value of a term
  write_reg : (r : ℕ) → (t : Tree) → Event
  -- n bytes from an address on become the value of a variable
  read_mem : (var : ℕ) → (at : Tree) → (n : ℕ) → Event
  -- n bytes from an address on take the value of a term
  write_mem : (at t : Tree) → (n : ℕ) → Event
  -- the path is one on which the bit is 1
  assume : (t : Tree) → Event
  -- the bit has to be 1
  need : (t : Tree) → Event
  -- the path is one on which the register has the value
  assume_reg : (r : ℕ) → (value : Bits) → Event

mutual
  -- events in their order, and an end
  pub data Trace : Type 0 where
    trace : (events : List Event) → (end : End) → Trace

  -- how a trace ends
  pub data End : Type 0 where
    -- the instruction is done
    done : End
    -- it fails
    fail : (kind : FailKind) → End
    -- it goes on as one of these
    cases : (children : Traces) → End

  -- traces in a row
  pub data Traces : Type 0 where
    none : Traces
    -- the first, and those after it
    some : (first : Trace) → (rest : Traces) → Traces

-- how many there are
abbrev pub count : Traces → ℕ
count none = zero
count (some t ts) = suc (count ts)

-- how many events and ends there are
abbrev mutual
  pub size : Trace → ℕ
  size (trace events end) = length events + end_size end

  pub end_size : End → ℕ
  end_size done = 1
  end_size (fail kind) = 1
  end_size (cases ts) = suc (all_size ts)

  pub all_size : Traces → ℕ
  all_size none = 0
  all_size (some t ts) = size t + all_size ts
