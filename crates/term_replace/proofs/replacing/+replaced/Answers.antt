use Rattle.std.proofs.Common.{ap, sym, ◌∙◌, subst}
use Rattle.term_tree.specs.Terms.{IsTyped, IsTerm, width_of}
use Rattle.term_replace.specs.Replacing.{Fits}
use Rattle.term_replace.specs.Replaced.{replacements}
use Rattle.term_replace.proofs.ReplacedLemmas.{var_term}
use Rattle.term_replace.proofs.replacing.+replaced.Goals as goal

pub returns-in_ok-term_for-in-Var-clause-term : goal.returns-in_ok-term_for-in-Var-clause-term
returns-in_ok-term_for-in-Var-clause-term t c =
    let by = replacements c.args.bits.now c.args.arrays.now in
    let is = c.in-Var.ensures.form in
    let found = var_term by c.in-Var.name.now c.in-Var.width c.requires.by (subst (Fits by) is c.requires.fits) (subst IsTyped is c.requires.typed) in
    subst IsTerm (sym c.in_ok-term_for-in-Var.ensures.term) found.0

pub returns-in_ok-term_for-in-Var-clause-width : goal.returns-in_ok-term_for-in-Var-clause-width
returns-in_ok-term_for-in-Var-clause-width t c =
    let by = replacements c.args.bits.now c.args.arrays.now in
    let is = c.in-Var.ensures.form in
    let found = var_term by c.in-Var.name.now c.in-Var.width c.requires.by (subst (Fits by) is c.requires.fits) (subst IsTyped is c.requires.typed) in
    ap width_of c.in_ok-term_for-in-Var.ensures.term ∙ found.1 ∙ ap width_of (sym is)
