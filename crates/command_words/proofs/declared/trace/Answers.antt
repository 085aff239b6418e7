use Rattle.std.proofs.Common.{rules, ap₂, codes, ◌≡◌, ◌∙◌}
use Rattle.clap.specs.Words.{rule_of, with_rule}
use Rattle.command_words.specs.Apps.{repeated, required as name}
use Rattle.command_words.proofs.declared.trace.Goals as goal

pub returns : goal.returns
returns c =
    let sail_is : rule_of c.required-sail.result ≡ name (codes "SAIL") = search rules in
    let opcode_is : rule_of c.required-opcode.result ≡ name (codes "OPCODE") = search rules in
    let given_is : rule_of c.action-given.result ≡ repeated (codes "REG=LIT") = search rules in
    c.in_ok-trace.ensures.shape (search rules)
    ∙ ap₂ with_rule (c.in_ok-arg-2.ensures.shape (search rules) ∙ ap₂ with_rule (c.in_ok-arg.ensures.shape (search rules) ∙ ap₂ with_rule c.new-4.ensures.app sail_is) opcode_is) given_is
