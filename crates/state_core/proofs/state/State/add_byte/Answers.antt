use Rattle.std.proofs.Common.{rules, sym, subst, ◌<◌, ◌^◌}
use Rattle.state_core.specs.State.{IsMemory}
use Rattle.state_core.proofs.Written.{insert_memory}
use Rattle.state_core.proofs.state.State.add_byte.Goals as goal

pub invariant_of-self-2 : goal.invariant_of-self-2
invariant_of-self-2 c =
    let low : c.args.addr < 2 ^ 64 = search rules in
    let byte : c.args.byte < 2 ^ 8 = search rules in
    record {
      registers = c.self.invariant.registers;
      memory = subst (λ m. IsMemory m) (sym c.in_ok-add.ensures.ok) (insert_memory c.self.inside.memory c.args.addr c.args.byte c.self.invariant.memory low byte);
    }
