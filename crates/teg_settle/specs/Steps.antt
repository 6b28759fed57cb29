-- What rows of a net's least dating show of its settled form, without a row more.
use Rattle.std.specs.Prelude.{ℕ, ℤ, ◌+◌, ◌≤◌, ◌≡◌, length}
use Rattle.dioid.specs.declared.dates.Date.{Date}
use Rattle.teg_net.specs.Limits.{most_place_tokens}
use Rattle.teg_net.specs.Nets.{NetLists}
use Rattle.periodic_laws.specs.teg_model.Datings.{IsLeastDating}
use Rattle.periodic_laws.specs.settled_laws.SettledForms.{RepeatsAfter}
use Rattle.periodic_laws.specs.RepeatNumbers.{repeats_past, repeats_in}
use Rattle.date_rows.specs.DateTables.{TableDates}
use Rattle.teg_settle.specs.declared.releases.Tokens.TheVariants.{Ready}
use Rattle.teg_settle.specs.declared.releases.Releases.{Releases}
use Rattle.teg_settle.specs.declared.releases.Repetition.{Repetition}
use Rattle.teg_settle.specs.InitialReleases.{AreWaits, wait_of}
use Rattle.list_spans.specs.Spans.{AreSpans}
use Rattle.teg_settle.specs.ComparedRows.{read_step}

-- the releases are the ready dates and the input lists of the net, with from where on these go on evenly
pub record AreOwnReleases (net : NetLists) (r : Releases) : Type 0 where
  pub tokens : r.tokens ≡ Ready
  pub waits : AreWaits net (wait_of net) r.waits.items
  pub spans : AreSpans net r.spans.items

-- past this number the least dating goes on in this period by the steps of the rows, and no smaller number and no smaller period will do
pub record ShowsForm (net : NetLists) (rows : TableDates) (f : Repetition) : Type 0 where
  pub fits : f.after + f.period + f.period ≤ rows.count
  pub repeats : (x : ℕ → ℕ → Date) → IsLeastDating net x → RepeatsAfter (length net.transitions) x f.after f.period (read_step rows f.period)
  pub least_period : (x : ℕ → ℕ → Date) → IsLeastDating net x → (k p : ℕ) (s : ℕ → ℤ) → RepeatsAfter (length net.transitions) x k p s → f.period ≤ p
  pub least_after : (x : ℕ → ℕ → Date) → IsLeastDating net x → (k p : ℕ) (s : ℕ → ℤ) → RepeatsAfter (length net.transitions) x k p s → f.after ≤ k

-- rows that show the least dating to go on past a number: two periods past it, and as many as a place may have tokens
abbrev pub rows_for : ℕ → ℕ → ℕ
rows_for after period = after + most_place_tokens + period + period

-- by so many rows no form of the least dating can be shown
abbrev pub ShowsNoForm : NetLists → ℕ → Type 0
ShowsNoForm net count = (x : ℕ → ℕ → Date) → IsLeastDating net x → (after period : ℕ) (step : ℕ → ℤ) → RepeatsAfter (length net.transitions) x after period step
    → rows_for after period ≤ count → ⊥

-- so many rows of the net show a form: its lists tell how many
abbrev pub showing_rows : NetLists → ℕ
showing_rows net = rows_for (repeats_past net) (repeats_in net)
