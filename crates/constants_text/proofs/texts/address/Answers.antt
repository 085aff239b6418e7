use Rattle.std.proofs.Common.{◌∙◌, ◌-◌, ◌^◌, ap, false, []}
use Rattle.std.specs.Prelude.{option_map}
use Rattle.std.specs.Fmt.{padded_integral, format_spec, styled_digits_output}
use Rattle.constants_text.proofs.AddressLemmas.{address_is}
use Rattle.constants_text.proofs.texts.address.Goals as goal

pub returns : goal.returns
returns c = record {
  exact = ap (λ v. v.items) c.into_bytes.ensures.value
      ∙ address_is c.args.at _ _
      (ap (styled_digits_output c.in_radix.result) c.laid_out.ensures
      ∙ ap (option_map (padded_integral (format_spec 32 0 4 16 (2 ^ 64 - 1)) false [])) c.in_radix.ensures)
      c.in_ok-text.ensures.ok;
}
