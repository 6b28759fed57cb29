-- What is answered of endless due dates: when the inputs are released at the latest, or why they are not told (chapter 5).
use Rattle.std.specs.Prelude.{ℕ, zero, suc, pos, ◌-◌, ◌<◌, ◌≤◌, ◌≡◌, ◌==◌, List, [], ◌∷◌, ◌++◌, Some, length, slice_get, if◌then◌else◌, ⊤}
use Rattle.dioid.specs.declared.dates.Date.{Date}
use Rattle.dioid.specs.declared.dates.Date.TheVariants.{At, Never}
use Rattle.forever_laws.specs.dioid_matrix.Residuals.{RowFits}
use Rattle.forever_laws.specs.dioid_matrix.Tables.{StopsAt}
use Rattle.forever_laws.specs.series_laws.SeriesForms.{value_at}
use Rattle.series_form.specs.NumberBounds.{IsSeries}
use Rattle.series_ops.specs.declared.gains.Gain.{Gain}
use Rattle.forever_laws.specs.periodic_laws.Equations.{gains}
use Rattle.teg_net.specs.Nets.{NetLists, IsInput}
use Rattle.forever_laws.specs.teg_model.Datings.{IsLeastUnder}
use Rattle.forever_laws.specs.settled_laws.SettledForms.{SettledForm, settled_length}
use Rattle.teg_settle.specs.walk_times.Transfers.{IsTransferOf, TransferSettlesPast}
use Rattle.forever_laws.specs.due_laws.MeetingDueDates.{InputsMeet, AreLatestInputs, inputs_at_zero}
use Rattle.forever_laws.specs.due_laws.LatestDates.{IsLatestDate}
use Rattle.forever_laws.specs.due_laws.LatestInputs.{LeadsToNoDue}
use Rattle.teg_due.specs.RowNames.{is_input}
use Rattle.endless_due.specs.declared.row.EndlessRow.{EndlessRow}
use Rattle.endless_due.specs.EndlessRows.{due_on}
use Rattle.forever_laws.specs.EndlessDues.{late_date_bound, late_number_bound}
use Rattle.forever_laws.specs.Late.{IsFirstLateRow}
use Rattle.forever_laws.specs.SeriesColumns.{AreSeriesColumns, gain_residuals}
use Rattle.teg_forever.specs.declared.releases.Release.{Release}
use Rattle.teg_forever.specs.declared.releases.Release.TheVariants.{Free, Latest}
use Rattle.teg_forever.specs.declared.releases.ForeverRefusal.{ForeverRefusal}
use Rattle.teg_forever.specs.declared.releases.ForeverRefusal.TheVariants.{Late, TooLong, TooWide, OutOfMemory}

-- the inputs among the first transitions, in order
abbrev pub inputs_below : NetLists → ℕ → List ℕ
inputs_below net zero = []
inputs_below net (suc n) = inputs_below net n ++ (if is_input net n then n ∷ [] else [])

-- the inputs in order
abbrev pub inputs_of : NetLists → List ℕ
inputs_of net = inputs_below net (length net.transitions)

-- ---- releases

-- the date of release of firing k
abbrev pub release_date : Release → ℕ → Date
release_date Free k = Never
release_date (Latest series) k = value_at series (k - 1)

-- the release that stands beside an input; free where the input has none
abbrev pub release_in : List ℕ → List Release → ℕ → Release
release_in [] releases u = Free
release_in (t ∷ ts) [] u = Free
release_in (t ∷ ts) (r ∷ releases) u = if t == u then r else release_in ts releases u

-- the dates of release of each input
abbrev pub released : NetLists → List Release → ℕ → ℕ → Date
released net releases u k = release_date (release_in (inputs_of net) releases u) k

-- there are as many releases as inputs, and of each input it holds with the release that stands beside it
abbrev pub AreBeside : (ℕ → Release → Type 0) → List ℕ → List Release → Type 0
AreBeside Is [] [] = ⊤
AreBeside Is [] (r ∷ releases) = ⊥
AreBeside Is (t ∷ ts) [] = ⊥
AreBeside Is (t ∷ ts) (r ∷ releases) = Is t r × AreBeside Is ts releases

-- free: no walk leads from a firing of the input to one that is due; otherwise a series: shift k - 1 has the latest date of firing k,
-- which is a number from 0 on
abbrev pub IsReleaseOf : NetLists → List EndlessRow → ℕ → Release → Type 0
IsReleaseOf net rows u Free = (k : ℕ) → 1 ≤ k → LeadsToNoDue net (due_on rows) u k
IsReleaseOf net rows u (Latest series) =
    IsSeries series
    × ((k : ℕ) → 1 ≤ k → IsLatestDate net (due_on rows) u k (value_at series (k - 1)) × ((m : ℕ) × (value_at series (k - 1) ≡ At (pos m))))

-- ---- what fits

-- the longest settled form of walk times that is taken
abbrev pub longest_form : ℕ
longest_form = 20000

-- the shortest settled form of the greatest times of walks from the first firing of the input is not too long
abbrev pub WalkTimesSettleSoon : NetLists → ℕ → Type 0
WalkTimesSettleSoon net u = (f : SettledForm) × IsTransferOf net u f × (settled_length f ≤ longest_form)

-- the form of the walk times of an input is not too long, and over the rows in order each residual of the due series by the walk series
-- fits, and so does its meet with the meet of those before it
pub record IsFine (net : NetLists) (rows : List EndlessRow) (u : ℕ) : Type 0 where
  pub settles : WalkTimesSettleSoon net u
  pub walks : ℕ → Gain
  pub dues : ℕ → Gain
  pub columns : AreSeriesColumns net u rows walks dues
  pub fit : (i : ℕ) → i < length rows → RowFits gains gain_residuals walks dues i

-- the inputs before this one are fine
abbrev pub AreFineBefore : NetLists → List EndlessRow → ℕ → Type 0
AreFineBefore net rows u = (v : ℕ) → v < u → IsInput net v → IsFine net rows v

-- ---- answers

-- inputs at 0 meet the due dates, and each input is fine; the releases of the inputs in order are right, and together the latest inputs that
-- meet the due dates
pub record AreEndlessReleases (net : NetLists) (rows : List EndlessRow) (releases : List Release) : Type 0 where
  pub meet : InputsMeet net (due_on rows) inputs_at_zero
  pub fine : (u : ℕ) → IsInput net u → IsFine net rows u
  pub each_input : length releases ≡ length (inputs_of net)
  pub right : AreBeside (IsReleaseOf net rows) (inputs_of net) releases
  pub latest : AreLatestInputs net (due_on rows) (released net releases)

-- in the least dating with all inputs at 0 firing k of transition t is later than due: it is the least late number of the first row that
-- has one
pub record IsLateAnswer (net : NetLists) (rows : List EndlessRow) (t k due least : ℕ) : Type 0 where
  pub dating : ℕ → ℕ → Date
  pub is_least : IsLeastUnder net inputs_at_zero dating
  pub row : EndlessRow
  pub first : IsFirstLateRow dating rows row k due least
  pub transition : row.transition.index ≡ t
  pub number_in : k < late_number_bound
  pub due_in : due < late_date_bound
  pub least_in : least < late_date_bound

-- inputs at 0 meet the due dates, the inputs before this one are fine, and the settled form of its walk times is too long
pub record IsInputTooLong (net : NetLists) (rows : List EndlessRow) (u : ℕ) : Type 0 where
  pub input : IsInput net u
  pub meet : InputsMeet net (due_on rows) inputs_at_zero
  pub before : AreFineBefore net rows u
  pub long : TransferSettlesPast net u longest_form

-- inputs at 0 meet the due dates, the inputs before this one are fine, its walk times settle, and this is the first row of which a residual
-- or a meet does not fit
pub record IsTooWide (net : NetLists) (rows : List EndlessRow) (u row : ℕ) : Type 0 where
  pub input : IsInput net u
  pub meet : InputsMeet net (due_on rows) inputs_at_zero
  pub before : AreFineBefore net rows u
  pub settles : WalkTimesSettleSoon net u
  pub walks : ℕ → Gain
  pub dues : ℕ → Gain
  pub columns : AreSeriesColumns net u rows walks dues
  pub place : ℕ
  pub stops : StopsAt (length rows) (RowFits gains gain_residuals walks dues) place
  pub stopped : EndlessRow
  pub is_row : slice_get rows place ≡ Some stopped
  pub row_is : row ≡ stopped.row

-- why the releases are not told
abbrev pub ForeverRefused : NetLists → List EndlessRow → ForeverRefusal → Type 0
ForeverRefused net rows (Late t k due least) = IsLateAnswer net rows t.index k due least
ForeverRefused net rows (TooLong u) = IsInputTooLong net rows u.index
ForeverRefused net rows (TooWide u row) = IsTooWide net rows u.index row
ForeverRefused net rows OutOfMemory = ⊤
