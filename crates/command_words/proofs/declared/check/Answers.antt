use Rattle.std.proofs.Common.{rules, ap₂, codes, ◌≡◌, ◌∙◌}
use Rattle.clap.specs.Words.{rule_of, with_rule}
use Rattle.command_words.specs.Apps.{required as name}
use Rattle.command_words.proofs.declared.check.Goals as goal

pub returns : goal.returns
returns c =
    let sail_is : rule_of c.required-sail.result ≡ name (codes "SAIL") = search rules in
    let image_is : rule_of c.required-image.result ≡ name (codes "IMAGE") = search rules in
    let proof_is : rule_of c.required-proof.result ≡ name (codes "PROOF") = search rules in
    c.in_ok-check.ensures.shape (search rules)
    ∙ ap₂ with_rule (c.in_ok-arg-2.ensures.shape (search rules) ∙ ap₂ with_rule (c.in_ok-arg.ensures.shape (search rules) ∙ ap₂ with_rule c.new-4.ensures.app sail_is) image_is) proof_is
