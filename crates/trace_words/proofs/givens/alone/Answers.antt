use Rattle.std.proofs.Common.{◌∙◌, ap, sym, length, IfSome, true, ◌≡◌, subst, Ok}
use Rattle.lex_core.specs.declared.token.Kind.{Kind}
use Rattle.lex_core.specs.Forms.{has_form}
use Rattle.trace_words.specs.Given.{only}
use Rattle.trace_words.proofs.GivenLemmas.{found_each, found_form, uncut_each}
use Rattle.trace_words.proofs.givens.alone.Goals as goal

pub returns-in-Ok-clause-form : goal.returns-in-Ok-clause-form
returns-in-Ok-clause-form c =
    let same = c.only.ensures ∙ ap (λ ts. only ts (length c.args.text.now)) c.deref.ensures.value in
    subst (λ o. IfSome o (λ k. has_form k c.args.text.now ≡ true)) (sym same) (found_form c.args.text.now c.in-Ok.found.items c.in-Ok.ensures.each)

pub returns-in-Ok-clause-each : goal.returns-in-Ok-clause-each
returns-in-Ok-clause-each c = λ k form.
    c.only.ensures ∙ ap (λ ts. only ts (length c.args.text.now)) c.deref.ensures.value ∙ found_each c.args.text.now c.in-Ok.found.items k c.in-Ok.ensures.exact form

pub returns-in-Err-clause-each : goal.returns-in-Err-clause-each
returns-in-Err-clause-each c = uncut_each c.args.text.now c.in-Err.fault c.uncut.result c.uncut.ensures c.in-Err.ensures.exact
