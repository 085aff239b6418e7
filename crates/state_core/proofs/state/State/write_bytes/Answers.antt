use Rattle.std.proofs.Common.{rules, sym, subst, ◌+◌, ◌≤◌, ◌^◌}
use Rattle.state_core.specs.State.{IsMemory}
use Rattle.state_core.proofs.Written.{number_memory}
use Rattle.state_core.proofs.state.State.write_bytes.Goals as goal

pub invariant_of-self : goal.invariant_of-self
invariant_of-self c =
    let room : c.args.addr + c.args.bytes ≤ 2 ^ 64 = search rules in
    record {
      registers = c.self.invariant.registers;
      memory = subst (λ m. IsMemory m) (sym c.put_number.ensures) (number_memory c.self.inside.memory c.args.addr c.args.bytes c.args.value c.self.invariant.memory room);
    }
