use Rattle.std.proofs.Common.{map, refl, ap, sym, ◌∙◌, subst}
use Rattle.clause_core.specs.Derivation.{cert_of}
use Rattle.clause_core.specs.Meaning.{HaveNoModel}
use Rattle.term_arena.specs.Answers.{id_term}
use Rattle.axiom_rules.specs.Axioms.{Problem, clause_in}
use Rattle.axiom_trees.proofs.ValueLemmas.{goal_follows}
use Rattle.term_axioms.specs.Goals.{answer_of}
use Rattle.term_axioms.proofs.MadeLemmas.{asked}
use Rattle.term_axioms.proofs.goal.check_goal.Goals as goal

pub returns-in-Ok-clause-answer : goal.returns-in-Ok-clause-answer
returns-in-Ok-clause-answer c =
    ap (λ (p : Problem). answer_of (cert_of (clause_in p) c.args.cert.now)) (sym c.in_ok-axioms.ensures) ∙ ap answer_of (sym c.check_cert.ensures.result ∙ c.in-Ok.is)

pub returns-in-Ok-clause-follows : goal.returns-in-Ok-clause-follows
returns-in-Ok-clause-follows c = λ ok.
    let nodes = c.args.terms.now in
    goal_follows (map (id_term nodes) c.args.facts.now) (id_term nodes c.args.goal) (asked nodes c.args.facts.now c.args.goal c.requires.facts c.requires.goal c.requires.lone)
    (subst (λ (p : Problem). HaveNoModel (clause_in p)) c.in_ok-axioms.ensures (c.in-Ok.ensures.sound refl))

pub returns-clause-answer : goal.returns-clause-answer
returns-clause-answer c =
    ap (λ (p : Problem). answer_of (cert_of (clause_in p) c.args.cert.now)) (sym c.in_ok-axioms.ensures) ∙ ap answer_of (sym c.check_cert.ensures.result ∙ c.in-Err.is)
