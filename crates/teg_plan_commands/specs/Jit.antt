-- What is said of the latest inputs of a live net for a due file.
use Rattle.std.specs.Prelude.{ℕ, pos, ◌<◌, ◌≤◌, ◌≡◌, ◌≢◌, ◌⊎◌, List, Option, Some, Ok, Err, ◌∷◌, []}
use Rattle.teg_report.specs.dioid.declared.dates.Date.{Date}
use Rattle.teg_report.specs.dioid.declared.dates.Date.TheVariants.{At as on_date}
use Rattle.teg_report.specs.dioid.Dates.{delayed}
use Rattle.due_laws.specs.MeetingDueDates.{InputsMeet, AreLatestInputs, inputs_at_zero}
use Rattle.teg_due.specs.declared.rows.DueRefusal.{DueRefusal}
use Rattle.teg_due.specs.declared.rows.DueRefusal.TheVariants.{OutOfMemory as NoRoom}
use Rattle.teg_due.specs.declared.rows.DueRow.{DueRow}
use Rattle.teg_due.specs.DueFileRows.{due_of}
use Rattle.teg_due.specs.RowRules.{IsDueOf, due_in}
use Rattle.teg_jit.specs.declared.answers.JitRefusal.{JitRefusal}
use Rattle.teg_jit.specs.declared.answers.JitRefusal.TheVariants.{OutOfMemory}
use Rattle.teg_jit.specs.declared.answers.LatestDate.TheVariants.{Free}
use Rattle.teg_jit.specs.DueDates.{IsGreatestNumber}
use Rattle.teg_jit.specs.Plans.{PlanDates, IsPlanFor, FollowsPlan, latest_at, dates_of_plan}
use Rattle.teg_jit.specs.LateRefusals.{LateIsRight}
use Rattle.teg_net.specs.declared.walks.Step.{Step}
use Rattle.teg_net.specs.Nets.{NetLists}
use Rattle.teg_net.specs.Walks.{Walks, walk_time}
use Rattle.teg_outcome.specs.declared.outcome.Verdict.{Verdict}
use Rattle.teg_outcome.specs.declared.outcome.Verdict.TheVariants.{Done as VerdictDone, Schedule as VerdictSchedule, Late as VerdictLate}
use Rattle.teg_outcome.specs.CommandOutcomes.{TellsWhy}
use Rattle.teg_report.specs.FileRows.{IsDueKept, due_line}
use Rattle.teg_report.specs.PlanLines.{AreLatestKept, IsLateKept, late_lines, plan_lines}
use Rattle.teg_report.specs.AnswerMeanings.{late_lists}
use Rattle.teg_report.specs.teg_text.Lines.{written}

-- the first fault of the due file is said
abbrev pub SaysBadDue : NetLists → List ℕ → Verdict → List ℕ → Type 0
SaysBadDue net bytes verdict text = (refusal : DueRefusal) × (due_of net bytes ≡ Err refusal) × TellsWhy (λ r. due_line r ∷ []) IsDueKept NoRoom VerdictSchedule refusal verdict text

-- from each firing that is not free the steps of the plan lead to one that is due, and their walk is tight
abbrev pub StepsLead : NetLists → (ℕ → ℕ → Option ℕ) → PlanDates → Type 0
StepsLead net due plan = (t k : ℕ) → t < plan.width → 1 ≤ k → k ≤ plan.numbers → latest_at plan t k ≢ Free
    → (steps : List Step) × FollowsPlan net plan t k steps × (b : ℕ) × (n : ℕ) × (d : ℕ) × Walks net t k steps b n × (due b n ≡ Some d)
    × (delayed (walk_time net steps) (dates_of_plan plan t k) ≡ on_date (pos d))

-- the plan of a due list: up to the greatest number that is due the latest date of each firing, with the first step of a tight walk;
-- its dates at the inputs are the latest inputs that meet the due dates, which inputs at 0 meet
pub record IsPlanOf (net : NetLists) (rows : List DueRow) (plan : PlanDates) : Type 0 where
  pub numbers : IsGreatestNumber rows plan.numbers
  pub plan_for : IsPlanFor net (due_in rows) plan
  pub steps : StepsLead net (due_in rows) plan
  pub inputs : AreLatestInputs net (due_in rows) (dates_of_plan plan)
  pub in_time : InputsMeet net (due_in rows) inputs_at_zero

-- no inputs meet the due dates
abbrev pub NoInputsMeet : NetLists → (ℕ → ℕ → Option ℕ) → Type 0
NoInputsMeet net due = (v : ℕ → ℕ → Date) → InputsMeet net due v → ⊥

-- of a due list the plan is said
abbrev pub SaysPlan : NetLists → List DueRow → Verdict → List ℕ → Type 0
SaysPlan net rows verdict text = (verdict ≡ VerdictDone) × ((plan : PlanDates) × IsPlanOf net rows plan × AreLatestKept plan × (text ≡ written (plan_lines net plan)))

-- of a due list the first row is said that the least dating with all inputs at 0 exceeds, and a walk that shows it; no inputs meet the list
abbrev pub SaysLate : NetLists → List DueRow → Verdict → List ℕ → Type 0
SaysLate net rows verdict text =
    (verdict ≡ VerdictLate)
    × ((refusal : JitRefusal) × (refusal ≢ OutOfMemory) × LateIsRight net rows refusal × NoInputsMeet net (due_in rows) × IsLateKept (late_lists refusal)
    × (text ≡ written (late_lines net (late_lists refusal))))

-- of a due list the plan is said, or the first row that comes late
abbrev pub SaysLatest : NetLists → List DueRow → Verdict → List ℕ → Type 0
SaysLatest net rows verdict text = SaysPlan net rows verdict text ⊎ SaysLate net rows verdict text

-- of a live net and a due file its first fault is said, or what its due list comes to
abbrev pub SaysJit : NetLists → List ℕ → Verdict → List ℕ → Type 0
SaysJit net bytes verdict text =
    SaysBadDue net bytes verdict text
    ⊎ ((rows : List DueRow) × (due_of net bytes ≡ Ok rows) × IsDueOf net rows × SaysLatest net rows verdict text)
