use Rattle.std.proofs.Common.{◌≡◌, ◌↔◌, true, not, sym, subst}
use Rattle.term_tree.specs.Terms.{Tree}
use Rattle.term_replace.specs.Replacing.{Fits}
use Rattle.term_replace.specs.Replaced.{replacements}
use Rattle.term_replace.proofs.FittingLemmas.{variable_fits}
use Rattle.term_replace.proofs.fitting.+fits.Goals as goal

pub returns-in-Var : goal.returns-in-Var
returns-in-Var t c =
    let by = replacements c.args.bits.now c.args.arrays.now in
    let some = c.some_misfit.result in
    record {
      exact = subst (λ (u : Tree). (not some ≡ true) ↔ Fits by u) (sym c.in-Var.ensures.form) (variable_fits by c.in-Var.name.now c.in-Var.width some c.some_misfit.ensures.value);
    }
