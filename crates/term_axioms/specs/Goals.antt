-- What is said of a goal.
use Rattle.std.specs.Prelude.{Bool, true, false, List, Result, Ok, Err}
use Rattle.clause_core.specs.declared.Cert.{Cert}
use Rattle.clause_core.specs.declared.CertFault.{CertFault}
use Rattle.clause_core.specs.Derivation.{cert_of}
use Rattle.term_tree.specs.Terms.{Tree}
use Rattle.axiom_rules.specs.Axioms.{clause_in}
use Rattle.axiom_trees.specs.Numbered.{problem_of}
use Rattle.term_axioms.specs.declared.goal.GoalFault.{GoalFault}
use Rattle.term_axioms.specs.declared.goal.GoalFault.TheVariants.{Refused, NoMemory}

-- whether a fault tells want of memory
abbrev pub is_want : GoalFault → Bool
is_want (Refused fault) = false
is_want NoMemory = true

-- the answer of a check
abbrev pub answer_of : Result (Unit {0}) CertFault → Result (Unit {0}) GoalFault
answer_of (Ok u) = Ok u
answer_of (Err fault) = Err (Refused fault)

-- that of a certificate over the axioms of facts and a goal
abbrev pub judged : List Tree → Tree → Cert → Result (Unit {0}) GoalFault
judged facts goal cert = answer_of (cert_of (clause_in (problem_of facts goal)) cert)
