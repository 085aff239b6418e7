use Rattle.std.proofs.Common.{◌≡◌, ◌+◌, drop}
use Rattle.constants_walk.specs.Entry as spec
use Rattle.constants_walk.proofs.entry.add_bytes.Given as goal

abbrev pub invariant-loop-byte : goal.invariant-loop-byte
invariant-loop-byte l = record {
  place : l.next ≡ l.at + l.byte-index;
  registers : l.state.registers ≡ l.fn.state.registers;
  rest : spec.with_bytes l.next (drop l.byte-index l.bytes) l.state.memory ≡ spec.with_bytes l.at l.bytes l.fn.state.memory;
}
