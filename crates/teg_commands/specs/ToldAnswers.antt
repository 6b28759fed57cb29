-- Which answers are told, so that their bytes are those of no other answer about the net: those that the commands give.
use Rattle.std.specs.Prelude.{ℕ, ◌≡◌, ◌≤◌, ◌<◌, List, Option, Some, None, All, length, map}
use Rattle.teg_report.specs.dioid.declared.dates.Date.{Date as DateOf}
use Rattle.teg_report.specs.series_form.declared.forms.SeriesRefused.{SeriesRefused}
use Rattle.teg_report.specs.settled_laws.SettledForms.{SettledForm, IsSettledFormOf}
use Rattle.teg_bound.specs.BoundTexts.{ToldBound, AreNumbersIn, bound_lines}
use Rattle.teg_report.specs.teg_calc.declared.refusals.ParseRefused.{ParseRefused}
use Rattle.teg_report.specs.teg_critical.declared.slacks.Slack.{Slack as PlaceSlack}
use Rattle.teg_report.specs.teg_critical.Slacks.{AreSlacks}
use Rattle.teg_report.specs.date_rows.DateTables.{TableDates, HasDatesOf, IsDateTable}
use Rattle.teg_report.specs.teg_due.declared.rows.DueRefusal.{DueRefusal}
use Rattle.teg_report.specs.teg_due.declared.rows.DueRow.{DueRow}
use Rattle.teg_report.specs.teg_due.declared.rows.LogRefusal.{LogRefusal}
use Rattle.teg_report.specs.teg_due.declared.rows.LogRow.{LogRow}
use Rattle.teg_forever.specs.EndlessTexts.{EndlessAnswer, IsEndlessTold, answer_lines}
use Rattle.teg_report.specs.teg_form.StandardForms.{FormLists, IsStandardFormOf}
use Rattle.teg_report.specs.teg_jit.declared.answers.JitRefusal.{JitRefusal}
use Rattle.teg_report.specs.teg_jit.LateRefusals.{LateIsRight}
use Rattle.teg_report.specs.teg_jit.Plans.{PlanDates}
use Rattle.teg_net.specs.declared.answers.CycleAnswer.{CycleAnswer}
use Rattle.teg_net.specs.declared.entries.TransitionId.{TransitionId}
use Rattle.teg_net.specs.declared.rounds.Round.{Round}
use Rattle.teg_net.specs.Circuits.{IsLive}
use Rattle.teg_net.specs.Limits.{greatest_firing_number}
use Rattle.teg_net.specs.Nets.{NetLists, IsNet}
use Rattle.teg_net.specs.Ratios.{Fraction}
use Rattle.teg_report.specs.teg_outside.declared.monitor.Firing.{Firing}
use Rattle.teg_report.specs.teg_outside.Monitors.{IsOneLine}
use Rattle.teg_replay.specs.declared.replayed.Refused.{Refused as RefusedRow}
use Rattle.teg_replay.specs.declared.replayed.Replayed.{Replayed as Replay}
use Rattle.teg_replay.specs.Replays.{IsReplayOf}
use Rattle.teg_report.specs.AnswerMeanings.{late_lists}
use Rattle.teg_report.specs.teg_lines.CycleMeanings.{cycle_lists, round_lists}
use Rattle.teg_report.specs.AnswerValues.{Listed, Form, Cycle, Dates, Date, Jit, Late, Slack, Transfer, Replayed, Refused, Trial, NoTransition, Due, Log, Parse, Series}
use Rattle.teg_report.specs.declared.answer.Failure.{Failure}
use Rattle.teg_report.specs.FileRows.{IsDueKept, IsLogKept}
use Rattle.teg_report.specs.FormLines.{IsStarKept, IsEntryKept}
use Rattle.teg_report.specs.KeptAnswers.{IsAnswerTold}
use Rattle.teg_report.specs.Reports.{text_of}
use Rattle.teg_report.specs.teg_model.Datings.{IsLeastDating}
use Rattle.teg_report.specs.PlanLines.{AreLatestKept, IsLateKept}
use Rattle.teg_report.specs.teg_lines.RoundLines.{IsRunKept}
use Rattle.teg_report.specs.Series.{IsParseKept, IsSeriesRefusalKept}
use Rattle.teg_report.specs.SettledTexts.{TimesFrom, AreTimesKept, IsSettledKept}
use Rattle.teg_report.specs.SlackLines.{IsRatioKept, IsSlackKept, IsTrialKept}
use Rattle.teg_report.specs.teg_text.Lines.{written}
use Rattle.teg_report.specs.teg_text.ValueWords.{AreBytes, IsDate}
use Rattle.teg_report.specs.teg_lines.Widths.{IsWord32, IsWord64}
use Rattle.teg_sizing.specs.SizingTexts.{SaidSizing, IsSizingSaid, said_lines}
use Rattle.teg_timetable.specs.TimetableTexts.{ToldTimetable, IsTimetableTold, told_lines}
use Rattle.teg_outcome.specs.declared.outcome.Verdict.{Verdict}
use Rattle.teg_pace_commands.specs.Bound.{SaysBound}
use Rattle.teg_files.specs.List.{list_text}
use Rattle.teg_pace_commands.specs.Cycle.{AreRuns, IsCycleAnswer}
use Rattle.teg_commands.specs.Forever.{SaysForever}
use Rattle.teg_plan_commands.specs.Jit.{IsPlanOf}
use Rattle.teg_plan_commands.specs.Replay.{IsToldAs}
use Rattle.teg_pace_commands.specs.Size.{SaysSize}
use Rattle.teg_date_commands.specs.Timetable.{SaysTimetable}
use Rattle.teg_transfer.specs.TimesFromInputs.{AreTimesFrom}

-- the dates that a list says, as a table: a told answer, with the text that is said
pub record IsListTold (net : NetLists) (x : ℕ → ℕ → DateOf) (table : TableDates) : Type 0 where
  pub told : IsAnswerTold (Some net) (Listed table)
  pub text : text_of (Some net) (Listed table) ≡ list_text net x table.count

-- the answers of the commands are told, by what these say of them; those whose texts stand beside them, in the sense of the laws on these texts
pub record AnswersOfCommandsAreTold : Type 0 where
  pub list : (net : NetLists) (x : ℕ → ℕ → DateOf) (table : TableDates) → IsNet net → IsLive net → IsLeastDating net x → IsDateTable table →
      table.width ≡ length net.transitions → HasDatesOf net x table → IsListTold net x table
  pub form : (net : NetLists) (form : FormLists) → IsNet net → IsStandardFormOf net form → All IsStarKept form.stars → All IsEntryKept form.entries →
      IsAnswerTold (Some net) (Form form)
  pub dates : (net : NetLists) (f : SettledForm) → IsNet net → IsSettledFormOf net f → IsSettledKept f → IsAnswerTold (Some net) (Dates f)
  pub date : (net : NetLists) (t : TransitionId) (number : ℕ) (date : DateOf) → IsNet net → t.index < length net.transitions → number ≤ greatest_firing_number →
      IsDate date → IsAnswerTold (Some net) (Date t number date)
  pub slack : (net : NetLists) (r : Fraction) (slacks : List PlaceSlack) → IsNet net → AreSlacks net r slacks → IsRatioKept r → All IsSlackKept slacks →
      IsAnswerTold (Some net) (Slack r slacks)
  pub transfer : (net : NetLists) (limit : ℕ) (times : List TimesFrom) → IsNet net → AreTimesFrom net limit times → All AreTimesKept times →
      IsAnswerTold (Some net) (Transfer times)
  pub plan : (net : NetLists) (rows : List DueRow) (plan : PlanDates) → IsNet net → IsPlanOf net rows plan → AreLatestKept plan → IsAnswerTold (Some net) (Jit plan)
  pub cycle : (net : NetLists) (answer : CycleAnswer) (best : ℕ) → IsNet net → IsCycleAnswer net answer → answer.best ≡ Some best →
      IsAnswerTold (Some net) (Cycle (cycle_lists answer) None)
  pub rounds : (net : NetLists) (answer : CycleAnswer) (runs : List (List Round)) (best : ℕ) → IsNet net → IsCycleAnswer net answer → AreRuns net answer runs →
      All IsRunKept (map (map round_lists) runs) → answer.best ≡ Some best → IsAnswerTold (Some net) (Cycle (cycle_lists answer) (Some (map (map round_lists) runs)))
  pub late : (net : NetLists) (rows : List DueRow) (refusal : JitRefusal) → IsNet net → LateIsRight net rows refusal → IsLateKept (late_lists refusal) →
      IsAnswerTold (Some net) (Late (late_lists refusal))
  pub replayed : (net : NetLists) (accepted : ℕ) (lines : List (List ℕ)) → IsNet net → IsWord64 accepted → All IsOneLine lines → IsAnswerTold (Some net) (Replayed accepted lines)
  pub refused : (net : NetLists) (rows : List LogRow) (firings : List Firing) (replay : Replay) (refused : RefusedRow) (failure : Failure) (lines : List (List ℕ)) → IsNet net →
      IsReplayOf net rows firings replay → replay.refused ≡ Some refused → IsToldAs refused.why failure → IsWord32 refused.row → All IsOneLine lines →
      IsAnswerTold (Some net) (Refused refused.row failure lines)
  pub trial : (machines places : ℕ) (r : Fraction) (critical : ℕ) (last : DateOf) → IsTrialKept machines places r critical last → IsAnswerTold None (Trial machines places r critical last)
  pub no_transition : (word : List ℕ) → AreBytes word → IsAnswerTold None (NoTransition word)
  pub due : (refusal : DueRefusal) → IsDueKept refusal → IsAnswerTold None (Due refusal)
  pub log : (refusal : LogRefusal) → IsLogKept refusal → IsAnswerTold None (Log refusal)
  pub parse : (refusal : ParseRefused) → IsParseKept refusal → IsAnswerTold None (Parse refusal)
  pub series : (refusal : SeriesRefused) → IsSeriesRefusalKept refusal → IsAnswerTold None (Series refusal)
  pub size : (net : NetLists) (word : List ℕ) (time tokens : ℕ) (verdict : Verdict) (text : List ℕ) → SaysSize word time tokens net verdict text →
      (said : SaidSizing) × IsSizingSaid net said × (text ≡ written (said_lines net said))
  pub forever : (net : NetLists) (bytes : List ℕ) (verdict : Verdict) (text : List ℕ) → SaysForever net bytes verdict text →
      (said : EndlessAnswer) × IsEndlessTold net said × (text ≡ written (answer_lines net said))
  pub timetable : (period : ℕ) (limit : Option ℕ) (net : NetLists) (bytes : List ℕ) (verdict : Verdict) (text : List ℕ) → SaysTimetable period limit net bytes verdict text →
      (told : ToldTimetable) × IsTimetableTold net told × (text ≡ written (told_lines net told))
  pub bound : (net : NetLists) (verdict : Verdict) (text : List ℕ) → SaysBound net verdict text → (told : ToldBound) × AreNumbersIn told × (text ≡ written (bound_lines told))
