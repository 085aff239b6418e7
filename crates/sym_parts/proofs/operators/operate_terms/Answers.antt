use Rattle.std.proofs.Common.{◌≡◌}
use Rattle.sym_parts.proofs.OperateLemmas.{has_no_width, is_refused, is_made, is_stopped}
use Rattle.sym_parts.proofs.operators.operate_terms.Goals as goal

pub returns-then-not-wide-clause-makes : goal.returns-then-not-wide-clause-makes
returns-then-not-wide-clause-makes c =
    has_no_width c.args.terms.now c.args.op c.args.args.now c.requires.args (let h = c.if-not-wide.true in let w = c.requires.wide in cc)

pub returns-then-is_unsupported-clause-makes : goal.returns-then-is_unsupported-clause-makes
returns-then-is_unsupported-clause-makes c =
    is_refused c.args.terms.now c.args.op c.args.args.now c.requires.args (let h = c.if-not-wide.false in let w = c.requires.wide in cc)
    (let l = c.requires.literals in let h = c.if-is_unsupported.true in let e = c.is_unsupported.ensures in cc)

pub returns-in-Ok-clause-makes : goal.returns-in-Ok-clause-makes
returns-in-Ok-clause-makes c =
    is_made c.args.terms.now c.args.op c.args.args.now c.requires.args (let h = c.if-not-wide.false in let w = c.requires.wide in cc)
    (let l = c.requires.literals in let h = c.if-is_unsupported.false in let e = c.is_unsupported.ensures in cc) c.make_term.new.terms c.in-Ok.id c.in-Ok.ensures.makes

pub returns-in-Err-clause-makes : goal.returns-in-Err-clause-makes
returns-in-Err-clause-makes c =
    is_stopped c.args.terms.now c.args.op c.args.args.now c.requires.args (let h = c.if-not-wide.false in let w = c.requires.wide in cc)
    (let l = c.requires.literals in let h = c.if-is_unsupported.false in let e = c.is_unsupported.ensures in cc) c.make_term.new.terms c.in-Err.fault c.in-Err.ensures.makes
