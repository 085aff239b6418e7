use Rattle.std.proofs.Common.{◌≡◌, ◌∙◌, ap, sym}
use Rattle.state_core.specs.State.{widths_of, register_of}
use Rattle.eval_parts.proofs.Written.{same_widths}
use Rattle.eval_parts.proofs.world.World.put_bits.Goals as goal

pub returns-then-bits-register-clause-widths : goal.returns-then-bits-register-clause-widths
returns-then-bits-register-clause-widths c =
    let s = c.self.inside.state in
    let width : c.args.bits.width ≡ (register_of s c.args.reg).width =
    c.if-bits-register.true ∙ ap (λ b. b.width) c.register.ensures ∙ ap (λ w. (register_of w.state c.args.reg).width) (sym c.self.view_is) in
    ap widths_of c.set_reg.ensures ∙ same_widths s.registers c.args.reg c.args.bits _ width ∙ ap (λ w. widths_of w.state) c.self.view_is
