use Rattle.std.proofs.Common.{◌≡◌, ◌^◌, ◌<◌, Some, sym, ap, ◌∙◌, subst, rules}
use Rattle.std.proofs.Common.{unwrap_or}
use Rattle.lex_core.specs.declared.token.Literal.{Literal}
use Rattle.trace_words.proofs.OpcodeLemmas.{is_token}
use Rattle.trace_words.proofs.opcodes.number.Goals as goal

pub literal-requires : goal.literal-requires
literal-requires c = record { form = (is_token c.args.text.now c.requires).form }

pub overflow_cast-result : goal.overflow_cast-result
overflow_cast-result c =
    let t = is_token c.args.text.now c.requires in
    let same = ap (λ (o : Literal). o.value) (ap (λ o. unwrap_or o c.in-Some.literal) (c.in-Some.ensures.value ∙ t.value)) in
    let small : c.in-Some.literal.value < 2 ^ 32 = subst (λ v. v < 2 ^ 32) (sym same) t.small in
    search rules

pub unreachable-requires : goal.unreachable-requires
unreachable-requires c = let e = c.in-None.ensures.value ∙ (is_token c.args.text.now c.requires).value in absurd (cc)

pub returns : goal.returns
returns c = ap (λ (o : Literal). o.value) (ap (λ o. unwrap_or o c.in-Some.literal) (c.in-Some.ensures.value ∙ (is_token c.args.text.now c.requires).value))
