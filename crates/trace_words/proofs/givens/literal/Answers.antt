use Rattle.std.proofs.Common.{◌∙◌, ap, sym, option_map}
use Rattle.std.specs.Prelude.{option_and_then}
use Rattle.lex_core.specs.Values.{literal_of}
use Rattle.sail_grammar.specs.Words.{as_bits}
use Rattle.trace_words.proofs.GivenLemmas.{literal_is}
use Rattle.trace_words.proofs.givens.literal.Goals as goal

pub returns-in-Some-literal-clause-value : goal.returns-in-Some-literal-clause-value
returns-in-Some-literal-clause-value c =
    let is = literal_is c.args.text.now c.in_ok-kind.field-0 c.in_ok-kind.ensures.form c.in_ok-kind.ensures.each in
    ap (option_map as_bits) c.in-Some-literal.ensures.value ∙ sym (is ∙ ap (option_and_then (λ k. option_map as_bits (literal_of k c.args.text.now))) c.in-Some.is)
