-- When a number and a period are those of the shortest settled form of a net; and, as working definitions, how two streams of rows
-- tell them: the last rows of the one come again in the other, all moved by one step.
use Rattle.std.specs.Prelude.{ℕ, ℤ, ◌+◌, ◌<◌, ◌≤◌, ◌≡◌, length, All}
use Rattle.dioid.specs.declared.dates.Date.{Date}
use Rattle.dioid.specs.Dates.{move}
use Rattle.teg_net.specs.Limits.{greatest_firing_number}
use Rattle.teg_net.specs.Nets.{NetLists}
use Rattle.bound_laws.specs.teg_model.Datings.{IsLeastDating}
use Rattle.bound_laws.specs.settled_laws.SettledForms.{SettledForm, RepeatsAfter, IsSettledFormOf}
use Rattle.bound_laws.specs.settled_laws.DateDifferences.{between}
use Rattle.date_rows.specs.Streams.{date_back, rows_given, rows_kept}
use Rattle.teg_bound.specs.declared.made_rows.MadeRows.{MadeRows}
use Rattle.teg_bound.specs.declared.two_streams.Returned.{Returned}
use Rattle.teg_bound.specs.declared.two_streams.SettledNumbers.{SettledNumbers}
use Rattle.teg_bound.specs.MadeRows.{AreMadeOf}
use Rattle.teg_bound.specs.PeriodicBounds.{HasPlacesAlone, EachReachesEach}

-- the number and the period are those of the shortest settled form of the net's least dating
pub record IsShortestRepetition (net : NetLists) (found : SettledNumbers) : Type 0 where
  pub form : SettledForm
  pub is : IsSettledFormOf net form
  pub after : form.after ≡ found.after
  pub period : form.period ≡ found.period

-- no input, some place, and from each transition a path to each
pub record IsOnePart (net : NetLists) : Type 0 where
  pub alone : HasPlacesAlone net
  pub strong : EachReachesEach net

-- two streams of rows of the net, of which the first has made a row, and the second no fewer, within the limit
pub record AreTwoStreams (net : NetLists) (early late : MadeRows) : Type 0 where
  pub early_is : AreMadeOf net early
  pub late_is : AreMadeOf net late
  pub some : 1 ≤ rows_given early.stream
  pub before : rows_given early.stream ≤ rows_given late.stream
  pub few : rows_given late.stream ≤ greatest_firing_number

-- as many of both, and as many as the one keeps
pub record AreAbreast (net : NetLists) (early late : MadeRows) : Type 0 where
  pub early_is : AreMadeOf net early
  pub late_is : AreMadeOf net late
  pub same : rows_given late.stream ≡ rows_given early.stream
  pub long : early.stream.last.reach ≤ rows_given early.stream

-- the step from the last date of the first transition in the one stream to that in the other
abbrev pub back_step : MadeRows → MadeRows → ℤ
back_step early late = between (date_back early.stream.last 0 1) (date_back late.stream.last 0 1)

-- the step leads from each date of the row so many back in the one stream to that in the other
abbrev pub IsRowMoved : NetLists → MadeRows → MadeRows → ℤ → ℕ → Type 0
IsRowMoved net early late step b = (t : ℕ) → t < length net.transitions → between (date_back early.stream.last t b) (date_back late.stream.last t b) ≡ step

-- and so in all rows that are kept of the one
abbrev pub AreRowsMoved : NetLists → MadeRows → MadeRows → ℤ → Type 0
AreRowsMoved net early late step = (b : ℕ) → 1 ≤ b → b ≤ rows_kept early.stream.last → IsRowMoved net early late step b

-- the step of the first transition's date of the last number in the period
abbrev pub shown_step : (ℕ → ℕ → Date) → ℕ → ℕ → ℤ
shown_step x last period = between (x 0 last) (x 0 (last + period))

-- so many rows up to the last number come again a period later, all moved by that step
abbrev pub ComesAgain : NetLists → (ℕ → ℕ → Date) → ℕ → ℕ → ℕ → Type 0
ComesAgain net x most last period =
    (t k : ℕ) → t < length net.transitions → last < k + most → k ≤ last → x t (k + period) ≡ move (shown_step x last period) (x t k)

-- those of the net's least dating do
abbrev pub RowsComeAgain : NetLists → ℕ → ℕ → ℕ → Type 0
RowsComeAgain net most last period = (x : ℕ → ℕ → Date) → IsLeastDating net x → ComesAgain net x most last period

-- they do not
abbrev pub RowsDoNot : NetLists → ℕ → ℕ → ℕ → Type 0
RowsDoNot net most last period = (x : ℕ → ℕ → Date) → IsLeastDating net x → ComesAgain net x most last period → ⊥

-- the last rows, as many as a place may have tokens, come again first after this period, by this step
pub record IsReturn (net : NetLists) (most : ℕ) (found : Returned) : Type 0 where
  pub some : 1 ≤ most
  pub tokens : All (λ p. p.tokens ≤ most) net.places
  pub long : most ≤ found.last
  pub one : 1 ≤ found.period
  pub few : found.last + found.period ≤ greatest_firing_number
  pub again : RowsComeAgain net most found.last found.period
  pub step : (x : ℕ → ℕ → Date) → IsLeastDating net x → found.step ≡ shown_step x found.last found.period
  pub first : (period : ℕ) → 1 ≤ period → period < found.period → RowsDoNot net most found.last period

-- the last rows come again after no period within their number
abbrev pub NoneComeAgain : NetLists → MadeRows → Type 0
NoneComeAgain net rows = (period : ℕ) → 1 ≤ period → period ≤ rows_given rows.stream → RowsDoNot net rows.stream.last.reach (rows_given rows.stream) period

-- rows come again so, as many as there are kept
abbrev pub IsReturned : NetLists → Returned → Type 0
IsReturned net found = (most : ℕ) × IsReturn net most found

-- the least dating goes on by some form within so many numbers
pub record HasFormWithin (net : NetLists) (enough : ℕ) : Type 0 where
  pub dating : ℕ → ℕ → Date
  pub least : IsLeastDating net dating
  pub after : ℕ
  pub period : ℕ
  pub step : ℕ → ℤ
  pub repeats : RepeatsAfter (length net.transitions) dating after period step
  pub fits : after + 1000 + period ≤ enough

-- past the number and up to the last the dates have moved by the step a period later, and not from one number earlier on
pub record IsMovedFrom (net : NetLists) (found : Returned) (after : ℕ) : Type 0 where
  pub within : after ≤ found.last
  pub moved : (x : ℕ → ℕ → Date) → IsLeastDating net x → (t k : ℕ) → t < length net.transitions → after < k → k ≤ found.last
      → x t (k + found.period) ≡ move found.step (x t k)
  pub first : (x : ℕ → ℕ → Date) → IsLeastDating net x → 1 ≤ after
      → ((t : ℕ) → t < length net.transitions → x t (after + found.period) ≡ move found.step (x t after)) → ⊥
