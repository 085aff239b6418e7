use Rattle.std.proofs.Common.{ap, ap₂, Bool, true, false, not, ◌&&◌, ◌≡◌, ◌∙◌, refl}
use Rattle.clap.specs.Words.{App, app_of, with_subcommand}
use Rattle.clap.specs.Simple.{app_of_fields}
use Rattle.command_words.specs.Apps.{bare_app as bare}
use Rattle.command_words.proofs.declared.program.Goals as goal

-- a plain command has no argument for those below it
no_global : (a b g d : Bool) → (a && (b && (not g && d))) ≡ true → g ≡ false
no_global true true false d h = refl
no_global true true true d h = absurd (cc)
no_global true false g d h = absurd (cc)
no_global false b g d h = absurd (cc)

pub returns : goal.returns
returns c =
    let bare_is : app_of c.subcommand_required.result ≡ bare =
    ap app_of_fields c.subcommand_required.ensures ∙ ap (λ (a : App). record a { top = record a.top { subcommand_required = true } })
    (ap app_of_fields c.disable_help_subcommand.ensures ∙ ap (λ (a : App). record a { top = record a.top { disable_help_subcommand = true } })
    (ap app_of_fields c.no_binary_name.ensures ∙ ap (λ (a : App). record a { top = record a.top { no_binary_name = true } }) c.new.ensures.app)) in
    c.in_ok-program.ensures.shape (no_global _ _ _ _ (ap (λ (a : App). a.top.is_plain) c.in_ok-trace.ensures))
    ∙ ap₂ with_subcommand
    (c.in_ok-subcommand.ensures.shape (no_global _ _ _ _ (ap (λ (a : App). a.top.is_plain) c.in_ok-check.ensures)) ∙ ap₂ with_subcommand bare_is (ap (λ (a : App). a.top) c.in_ok-check.ensures))
    (ap (λ (a : App). a.top) c.in_ok-trace.ensures)
