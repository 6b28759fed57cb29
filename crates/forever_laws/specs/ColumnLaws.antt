-- What holds of columns of walk series and due series: each input has them, and only one of each; and walk times have one length.
use Rattle.std.specs.Prelude.{ℕ, ◌<◌, ◌≡◌, List, length}
use Rattle.walk_times.specs.dioid_matrix.Residuals.{RowFits}
use Rattle.walk_times.specs.series_ops.declared.gains.Gain.{Gain}
use Rattle.teg_net.specs.Nets.{NetLists, HasEndsInRange, IsInput}
use Rattle.teg_net.specs.Circuits.{IsLive}
use Rattle.walk_times.specs.settled_laws.SettledForms.{SettledForm, settled_length}
use Rattle.walk_times.specs.Transfers.{IsTransferOf, TransferSettlesPast}
use Rattle.walk_times.specs.periodic_laws.Equations.{gains}
use Rattle.endless_due.specs.declared.row.EndlessRow.{EndlessRow}
use Rattle.endless_due.specs.EndlessRows.{IsEndlessOf}
use Rattle.forever_laws.specs.SeriesColumns.{AreSeriesColumns, gain_residuals}

-- in a live net each input has columns
abbrev pub ColumnsExist : Type 0
ColumnsExist = (net : NetLists) → HasEndsInRange net → IsLive net → (rows : List EndlessRow) → IsEndlessOf net rows → (input : ℕ) → IsInput net input
    → (walks : ℕ → Gain) × (dues : ℕ → Gain) × AreSeriesColumns net input rows walks dues

-- two columns are one, row by row
abbrev pub ColumnsAreOne : Type 0
ColumnsAreOne = (net : NetLists) (input : ℕ) (rows : List EndlessRow) (walks dues other_walks other_dues : ℕ → Gain)
    → AreSeriesColumns net input rows walks dues → AreSeriesColumns net input rows other_walks other_dues
    → (i : ℕ) → i < length rows → (walks i ≡ other_walks i) × (dues i ≡ other_dues i)

-- a row fits in all columns of an input or in none
abbrev pub RowsFitAlike : Type 0
RowsFitAlike = (net : NetLists) (input : ℕ) (rows : List EndlessRow) (walks dues other_walks other_dues : ℕ → Gain)
    → AreSeriesColumns net input rows walks dues → AreSeriesColumns net input rows other_walks other_dues
    → (i : ℕ) → i < length rows → RowFits gains gain_residuals walks dues i → RowFits gains gain_residuals other_walks other_dues i

-- walk times that have no form of at most this length have a longer shortest one
abbrev pub TransfersHaveOneLength : Type 0
TransfersHaveOneLength = (net : NetLists) (input limit : ℕ) (f : SettledForm) → TransferSettlesPast net input limit → IsTransferOf net input f → limit < settled_length f
