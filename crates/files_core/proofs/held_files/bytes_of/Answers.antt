use Rattle.std.proofs.Common.{◌∙◌, sym, ap, Some}
use Rattle.files_core.proofs.LookupLemmas.{file_at, none_left}
use Rattle.files_core.proofs.held_files.bytes_of.Goals as goal

pub returns-then-has_name : goal.returns-then-has_name
returns-then-has_name c =
    sym c.loop-file.invariant
    ∙ file_at _ _ _ _ _ _ c.loop-file-test.true c.file-item.is c.has_name.ensures c.if-has_name.true ∙ ap Some (sym c.bytes.ensures)

pub loop-file-preserved : goal.loop-file-preserved
loop-file-preserved c =
    sym (file_at _ _ _ _ _ _ c.loop-file-test.true c.file-item.is c.has_name.ensures c.if-has_name.false) ∙ c.loop-file.invariant

pub returns : goal.returns
returns c = sym c.loop-file.invariant ∙ none_left _ _ _ c.loop-file-test.false
