-- Working definitions of what is answered of one input.
use Rattle.std.specs.Prelude.{ℕ, ◌≡◌, ◌≢◌, ◌<◌, List, Some, Result, Ok, Err, length, slice_get, ⊤}
use Rattle.forever_laws.specs.dioid_matrix.Residuals.{RowFits}
use Rattle.forever_laws.specs.dioid_matrix.Tables.{StopsAt}
use Rattle.dioid.specs.declared.dates.Date.TheVariants.{Never}
use Rattle.forever_laws.specs.series_laws.SeriesForms.{Form, value_at}
use Rattle.series_form.specs.NumberBounds.{IsSeries}
use Rattle.series_form.specs.declared.forms.SeriesRefused.{SeriesRefused}
use Rattle.series_form.specs.declared.forms.SeriesRefused.TheVariants.{TooLong, TooGreat, OutOfMemory as NoSpace}
use Rattle.series_ops.specs.declared.gains.Gain.{Gain}
use Rattle.forever_laws.specs.periodic_laws.Equations.{gains}
use Rattle.teg_net.specs.declared.entries.TransitionId.{TransitionId}
use Rattle.teg_net.specs.Nets.{NetLists, IsInput}
use Rattle.teg_settle.specs.walk_times.Transfers.{TransferSettlesPast}
use Rattle.endless_due.specs.declared.row.EndlessRow.{EndlessRow}
use Rattle.forever_laws.specs.due_laws.MeetingDueDates.{InputsMeet, inputs_at_zero}
use Rattle.endless_due.specs.EndlessRows.{due_on}
use Rattle.forever_laws.specs.SeriesColumns.{AreSeriesColumns, gain_residuals}
use Rattle.teg_forever.specs.declared.releases.Release.{Release}
use Rattle.teg_forever.specs.declared.releases.Release.TheVariants.{Free, Latest}
use Rattle.teg_forever.specs.declared.releases.ForeverRefusal.{ForeverRefusal}
use Rattle.teg_forever.specs.declared.releases.ForeverRefusal.TheVariants.{Late, TooLong as FormTooLong, TooWide, OutOfMemory}
use Rattle.teg_forever.specs.LatestReleases.{WalkTimesSettleSoon, IsFine, IsReleaseOf, AreBeside, inputs_below, longest_form}

-- a series was made, or no memory was found
abbrev pub FitsIfMade : Result Form SeriesRefused → Type 0
FitsIfMade (Ok series) = ⊤
FitsIfMade (Err (TooLong need)) = ⊥
FitsIfMade (Err (TooGreat number)) = ⊥
FitsIfMade (Err NoSpace) = ⊤

-- a residual or a meet of the input does not fit at this row first
pub record StopsAtRow (net : NetLists) (rows : List EndlessRow) (u row : ℕ) : Type 0 where
  pub settles : WalkTimesSettleSoon net u
  pub walks : ℕ → Gain
  pub dues : ℕ → Gain
  pub columns : AreSeriesColumns net u rows walks dues
  pub place : ℕ
  pub stops : StopsAt (length rows) (RowFits gains gain_residuals walks dues) place
  pub stopped : EndlessRow
  pub is_row : slice_get rows place ≡ Some stopped
  pub row_is : row ≡ stopped.row

-- why there is no release of the input
abbrev pub IsStopped : NetLists → List EndlessRow → TransitionId → ForeverRefusal → Type 0
IsStopped net rows u (Late t k due least) = ⊥
IsStopped net rows u (FormTooLong v) = (v ≡ u) × TransferSettlesPast net u.index longest_form
IsStopped net rows u (TooWide v row) = (v ≡ u) × StopsAtRow net rows u.index row
IsStopped net rows u OutOfMemory = ⊤

-- inputs at 0 meet the due dates, and these are the releases of the inputs among the first transitions, each of which is fine
pub record AreReleasesBelow (net : NetLists) (rows : List EndlessRow) (n : ℕ) (releases : List Release) : Type 0 where
  pub meet : InputsMeet net (due_on rows) inputs_at_zero
  pub fine : (u : ℕ) → u < n → IsInput net u → IsFine net rows u
  pub each_input : length releases ≡ length (inputs_below net n)
  pub right : AreBeside (IsReleaseOf net rows) (inputs_below net n) releases

-- free where the first of the dates is never, and their series otherwise
abbrev pub IsReleaseBy : Form → Release → Type 0
IsReleaseBy latest Free = value_at latest 0 ≡ Never
IsReleaseBy latest (Latest series) = (value_at latest 0 ≢ Never) × (series ≡ latest) × IsSeries latest

-- the input is fine, and this is its release
pub record IsFineRelease (net : NetLists) (rows : List EndlessRow) (u : ℕ) (release : Release) : Type 0 where
  pub fine : IsFine net rows u
  pub right : IsReleaseOf net rows u release
