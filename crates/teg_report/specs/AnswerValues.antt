-- The answers that can be told, by their values.
use Rattle.std.specs.Prelude.{ℕ, List, Option}
use Rattle.dioid.specs.declared.dates.Date.{Date as DateOf}
use Rattle.teg_critical.specs.declared.slacks.Slack.{Slack as PlaceSlack}
use Rattle.date_rows.specs.DateTables.{TableDates}
use Rattle.teg_due.specs.declared.rows.DueRefusal.{DueRefusal}
use Rattle.teg_due.specs.declared.rows.LogRefusal.{LogRefusal}
use Rattle.teg_form.specs.StandardForms.{FormLists}
use Rattle.teg_net.specs.declared.entries.PlaceId.{PlaceId}
use Rattle.teg_net.specs.declared.entries.TransitionId.{TransitionId}
use Rattle.teg_net.specs.Ratios.{Fraction}
use Rattle.teg_reader.specs.declared.refusals.ReadRefusal.{ReadRefusal}
use Rattle.settled_forms.specs.settled_laws.SettledForms.{SettledForm}
use Rattle.series_form.specs.declared.forms.SeriesRefused.{SeriesRefused}
use Rattle.series_laws.specs.SeriesForms.{Form as SeriesForm}
use Rattle.teg_calc.specs.declared.refusals.ParseRefused.{ParseRefused}
use Rattle.teg_report.specs.declared.answer.Failure.{Failure}
use Rattle.teg_report.specs.declared.answer.Which.{Which}
use Rattle.teg_lines.specs.CycleLines.{CycleLists}
use Rattle.teg_jit.specs.Plans.{PlanDates}
use Rattle.teg_report.specs.PlanLines.{LateLists}
use Rattle.teg_lines.specs.RoundLines.{RoundLists}
use Rattle.teg_report.specs.SettledTexts.{TimesFrom}

-- an answer
pub data Answer : Type 0 where
  Usage : Answer
  Live : (transitions places : ℕ) → Answer
  Listed : (table : TableDates) → Answer
  Form : (form : FormLists) → Answer
  NoCircuit : Answer
  Cycle : (answer : CycleLists) (rounds : Option (List (List RoundLists))) → Answer
  Dates : (settled : SettledForm) → Answer
  Date : (transition : TransitionId) (number : ℕ) (date : DateOf) → Answer
  Jit : (plan : PlanDates) → Answer
  Late : (late : Option LateLists) → Answer
  Slack : (ratio : Fraction) (slacks : List PlaceSlack) → Answer
  Transfer : (inputs : List TimesFrom) → Answer
  Replayed : (accepted : ℕ) (lines : List (List ℕ)) → Answer
  Refused : (row : ℕ) (failure : Failure) (lines : List (List ℕ)) → Answer
  Calc : (series : SeriesForm) → Answer
  Trial : (machines places : ℕ) (ratio : Fraction) (critical : ℕ) (last : DateOf) → Answer
  Read : (refusal : ReadRefusal) → Answer
  TooLarge : (file : Which) → Answer
  TokenFree : (circuit : List PlaceId) → Answer
  NoTransition : (word : List ℕ) → Answer
  Due : (refusal : DueRefusal) → Answer
  Log : (refusal : LogRefusal) → Answer
  TooLong : (limit : ℕ) → Answer
  Parse : (refusal : ParseRefused) → Answer
  Series : (refusal : SeriesRefused) → Answer
  Fault : (file : Which) → Answer
