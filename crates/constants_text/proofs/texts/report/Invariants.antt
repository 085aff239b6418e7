use Rattle.std.proofs.Common.{◌≡◌, ◌++◌, drop}
use Rattle.std.specs.List.{flat_map}
use Rattle.constants_text.specs.Texts.{spec_lines, report_text}
use Rattle.constants_text.proofs.texts.report.Given as goal

abbrev pub invariant-loop-spec : goal.invariant-loop-spec
invariant-loop-spec l = l.text.items ++ flat_map spec_lines (drop l.spec-index l.specs) ≡ report_text l.specs
