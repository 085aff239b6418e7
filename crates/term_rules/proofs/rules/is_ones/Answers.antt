use Rattle.term_rules.proofs.CodeLemmas.{ones_literal}
use Rattle.term_rules.proofs.rules.is_ones.Goals as goal

-- src/rules.rt:98:1
pub returns-in-Lit : goal.returns-in-Lit
returns-in-Lit g c = record { value = ones_literal _ _ c.in-Lit.ensures.shape c.requires.typed }
