use Rattle.std.proofs.Common.{◌+◌, ◌-◌, ◌%◌, arith, sym, subst}
use Rattle.std.specs.Prelude.{IsSome}
use Rattle.state_core.specs.Memory.{number_at}
use Rattle.state_core.proofs.Present.{rest_there}
use Rattle.state_core.proofs.bytes.+put_number.Goals as goal

pub put_number-requires : goal.put_number-requires
put_number-requires t c =
    let left = rest_there c.args.bytes.now c.args.addr (c.args.value % 256) c.args.addr c.args.count (omega arith) c.requires.there in
    (omega arith, (subst (λ m. IsSome (number_at m (c.args.addr + 1) (c.args.count - 1))) (sym c.set.ensures) left, omega arith))
