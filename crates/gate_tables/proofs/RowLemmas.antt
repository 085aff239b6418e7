-- Rows that all hold, one by one.
use Rattle.std.proofs.Common.{[], get_or, sym, ◌∙◌, inl, inr}
use Rattle.std.proofs.lemmas.Bool.{cases_Bool, true≢false}
use Rattle.std.proofs.lemmas.List.Folds.{list_all_at}
use Rattle.gate_tables.specs.Gates.{row_holds, EachRowHolds}

pub each_row_holds : EachRowHolds
each_row_holds rows places row h all =
    elim (cases_Bool (row_holds places (get_or rows row []))) [
      | inl holds ↦ holds
      | inr fails ↦ absurd (true≢false (sym all ∙ list_all_at (row_holds places) rows row [] h fails))
    ]
