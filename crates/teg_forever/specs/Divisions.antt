-- Working definitions of the residuals of due series by walk series: what is kept of them, and what they tell of an input.
use Rattle.std.specs.Prelude.{ℕ, ◌-◌, ◌≡◌, ◌<◌, ◌∷◌, ◌++◌, [], List, Option, None, Some, All, IfSome, IsTrue, length, get_or, slice_get, take, ⊤}
use Rattle.dioid.specs.declared.algebra.Refused.{Refused}
use Rattle.dioid.specs.declared.algebra.Refused.TheVariants.{Range, OutOfMemory as NoRoom}
use Rattle.forever_laws.specs.dioid_matrix.Residuals.{RowFits}
use Rattle.series_ops.specs.declared.gains.Gain.{Gain}
use Rattle.series_ops.specs.Gains.{gain_left, gain_meet, LeftFits, MeetFits}
use Rattle.forever_laws.specs.periodic_laws.Equations.{gains}
use Rattle.teg_net.specs.declared.entries.TransitionId.{TransitionId}
use Rattle.teg_net.specs.Nets.{NetLists}
use Rattle.endless_due.specs.declared.row.EndlessRow.{EndlessRow}
use Rattle.forever_laws.specs.SeriesColumns.{AreSeriesColumns, IsDueSeries, gain_residuals, residual_over}
use Rattle.teg_forever.specs.declared.divisions.Divided.{Divided}
use Rattle.teg_forever.specs.declared.divisions.Divisions.{Divisions}
use Rattle.teg_forever.specs.declared.residuals.Meet.{Meet}
use Rattle.teg_forever.specs.declared.releases.ForeverRefusal.{ForeverRefusal}
use Rattle.teg_forever.specs.declared.releases.ForeverRefusal.TheVariants.{Late, TooLong, TooWide, OutOfMemory}

-- ---- rows that ask the same dates

-- two rows ask the same dates
pub record AreAlike (r s : EndlessRow) : Type 0 where
  pub every : r.every ≡ s.every
  pub gap : r.gap ≡ s.gap
  pub dates : r.dates ≡ s.dates

-- the rows at the two places ask the same dates
pub record IsAlikeAt (rows : List EndlessRow) (place first : ℕ) : Type 0 where
  pub within : first < length rows
  pub alike : (r s : EndlessRow) → slice_get rows place ≡ Some r → slice_get rows first ≡ Some s → AreAlike r s

-- for each of so many rows the place of a row that asks the same dates
pub record AreFirstsTo (rows : List EndlessRow) (count : ℕ) (firsts : List ℕ) : Type 0 where
  pub long : length firsts ≡ count
  pub each : (i : ℕ) → i < count → IsAlikeAt rows i (get_or firsts i 0)

-- ---- what is kept

-- the residual of the due series of the row by the walk series, which fits
abbrev pub IsResidualAt : EndlessRow → Gain → Gain → Type 0
IsResidualAt r walk residual = (due : Gain) → IsDueSeries r due.series → (residual ≡ gain_left walk due) × LeftFits walk due

-- what is kept is the residual of the due series of the row whose place is kept with it
abbrev pub IsDivided : List EndlessRow → Divided → Type 0
IsDivided rows x = (r : EndlessRow) → slice_get rows x.due ≡ Some r → IsResidualAt r x.walk x.residual

-- for each of so many rows its due series, if it is told
pub record AreSteadyTo (rows : List EndlessRow) (count : ℕ) (list : List (Option Gain)) : Type 0 where
  pub long : length list ≡ count
  pub each : (i : ℕ) (r : EndlessRow) → i < count → slice_get rows i ≡ Some r → IfSome (get_or list i None) (λ due. IsDueSeries r due.series)

-- residuals of the due series of these rows
pub record AreDivisions (rows : List EndlessRow) (d : Divisions) : Type 0 where
  pub firsts : AreFirstsTo rows (length rows) d.firsts.items
  pub steady : AreSteadyTo rows (length rows) d.steady.items
  pub each : All (IsDivided rows) d.list.items

-- at the place stands the residual of the due series of the row at `due` by the walk series
pub record IsDividedAt (list : List Divided) (due : ℕ) (walk : Gain) (place : ℕ) : Type 0 where
  pub divided : Divided
  pub stands : slice_get list place ≡ Some divided
  pub due_is : divided.due ≡ due
  pub walk_is : divided.walk ≡ walk

-- the residual stands at the place
abbrev pub StandsAt : List Divided → ℕ → Gain → Type 0
StandsAt list place residual = (x : Divided) → slice_get list place ≡ Some x → residual ≡ x.residual

-- one more stands behind some that were kept before
pub record IsKeptIn (old : List Divided) (x : Divided) (new : List Divided) (place : ℕ) : Type 0 where
  pub count : ℕ
  pub list_is : new ≡ take count old ++ x ∷ []
  pub place_is : place ≡ length (take count old)

-- the due series of the row at `due` has no residual by the walk series that fits
abbrev pub IsMisfit : List EndlessRow → ℕ → Gain → Refused → Type 0
IsMisfit rows due walk Range = (r : EndlessRow) (d : Gain) → slice_get rows due ≡ Some r → IsDueSeries r d.series → ¬ LeftFits walk d
IsMisfit rows due walk NoRoom = ⊤

-- ---- what they tell of an input

-- at the place stands the residual of the row at place i, which fits
pub record IsResidualOf (net : NetLists) (rows : List EndlessRow) (u i : ℕ) (list : List Divided) (place : ℕ) : Type 0 where
  pub divided : Divided
  pub stands : slice_get list place ≡ Some divided
  pub within : place < length list
  pub is : (walks dues : ℕ → Gain) → AreSeriesColumns net u rows walks dues → (divided.residual ≡ gain_left (walks i) (dues i)) × LeftFits (walks i) (dues i)

-- the residual of the row at place i, which fits
abbrev pub IsRowResidual : NetLists → List EndlessRow → ℕ → ℕ → Gain → Type 0
IsRowResidual net rows u i residual = (walks dues : ℕ → Gain) → AreSeriesColumns net u rows walks dues → (residual ≡ gain_left (walks i) (dues i)) × LeftFits (walks i) (dues i)

-- the meet over so many rows, each of which fits
pub record IsMeetTo (walks dues : ℕ → Gain) (count : ℕ) (meet : Gain) : Type 0 where
  pub value : meet ≡ residual_over count walks dues
  pub fit : (i : ℕ) → i < count → RowFits gains gain_residuals walks dues i

-- the meet over so many rows of the columns of the input
abbrev pub IsMeetOver : NetLists → List EndlessRow → ℕ → ℕ → Gain → Type 0
IsMeetOver net rows u count meet = (walks dues : ℕ → Gain) → AreSeriesColumns net u rows walks dues → IsMeetTo walks dues count meet

-- the meet of two series, which fits
pub record AreMet (first second meet : Gain) : Type 0 where
  pub value : meet ≡ gain_meet first second
  pub fit : MeetFits first second

-- the meet stays where it meets once more the residual of the last of so many rows
abbrev pub StaysOver : NetLists → List EndlessRow → ℕ → ℕ → Gain → Type 0
StaysOver net rows u count meet = (walks dues : ℕ → Gain) → AreSeriesColumns net u rows walks dues → AreMet meet (gain_left (walks (count - 1)) (dues (count - 1))) meet

-- the meet over so many rows, and where it tells so, it stays
pub record IsMeetSoFar (net : NetLists) (rows : List EndlessRow) (u count : ℕ) (m : Meet) : Type 0 where
  pub over : IsMeetOver net rows u count m.gain
  pub stays : IsTrue m.stays → StaysOver net rows u count m.gain

-- the row at this place has the walk series and the due series of the row before
abbrev pub IsAsBefore : NetLists → List EndlessRow → ℕ → ℕ → Type 0
IsAsBefore net rows u i = (walks dues : ℕ → Gain) → AreSeriesColumns net u rows walks dues → (walks i ≡ walks (i - 1)) × (dues i ≡ dues (i - 1))

-- the row at place i does not fit, and has this number in the file
pub record MisfitsAt (net : NetLists) (rows : List EndlessRow) (u i row : ℕ) : Type 0 where
  pub stopped : EndlessRow
  pub is_row : slice_get rows i ≡ Some stopped
  pub row_is : row ≡ stopped.row
  pub misfits : (walks dues : ℕ → Gain) → AreSeriesColumns net u rows walks dues → ¬ RowFits gains gain_residuals walks dues i

-- why the row at place i stops the search for the release of the input
abbrev pub IsRefusedAt : NetLists → List EndlessRow → TransitionId → ℕ → ForeverRefusal → Type 0
IsRefusedAt net rows u i (Late t k due least) = ⊥
IsRefusedAt net rows u i (TooLong v) = ⊥
IsRefusedAt net rows u i (TooWide v row) = (v ≡ u) × MisfitsAt net rows u.index i row
IsRefusedAt net rows u i OutOfMemory = ⊤

-- the refusal of an operation on the series of a row of the input
abbrev pub refusal_at : Refused → TransitionId → EndlessRow → ForeverRefusal
refusal_at Range u r = TooWide u r.row
refusal_at NoRoom u r = OutOfMemory
