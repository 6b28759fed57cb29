-- What a plan and a late row come to.
use Rattle.std.proofs.Common.{◌≢◌, List, refl}
use Rattle.due_laws.specs.MeetingDueDates.{AreLatestInputs, InputsMeet, inputs_at_zero}
use Rattle.due_laws.specs.LatestInputs.{ZeroInputsMeet}
use Rattle.teg_due.specs.declared.rows.DueRow.{DueRow}
use Rattle.teg_due.specs.RowRules.{IsDueOf, due_in}
use Rattle.teg_jit.specs.declared.answers.JitRefusal.{JitRefusal}
use Rattle.teg_jit.specs.declared.answers.JitRefusal.TheVariants.{Late, OutOfMemory}
use Rattle.teg_jit.specs.DueDates.{IsGreatestNumber}
use Rattle.teg_jit.specs.PlansAndLateness.{LateExcludesMeet, PlansLead}
use Rattle.teg_jit.specs.Plans.{IsPlanFor, KeepsSizes, PlanDates, dates_of_plan}
use Rattle.teg_jit.specs.LateRefusals.{LateIsRight}
use Rattle.teg_net.specs.Circuits.{IsLive}
use Rattle.teg_net.specs.Nets.{NetLists, IsNet}
use Rattle.teg_net.proofs.NetRules.{net_ends}
use Rattle.teg_plan_commands.specs.Jit.{IsPlanOf, NoInputsMeet}

pub plan_of : (net : NetLists) (rows : List DueRow) (plan : PlanDates) → IsNet net → PlansLead → KeepsSizes plan → IsGreatestNumber rows plan.numbers → IsPlanFor net (due_in rows) plan →
    AreLatestInputs net (due_in rows) (dates_of_plan plan) → InputsMeet net (due_in rows) inputs_at_zero → IsPlanOf net rows plan
plan_of net rows plan ok leads sizes numbers stands inputs meets =
    record { numbers = numbers; plan_for = stands; steps = leads net (net_ends net ok) plan sizes (due_in rows) stands; inputs = inputs; in_time = meets }

none_where_late : (net : NetLists) (rows : List DueRow) (refusal : JitRefusal) → IsDueOf net rows → LateExcludesMeet
    → refusal ≢ OutOfMemory → LateIsRight net rows refusal → InputsMeet net (due_in rows) inputs_at_zero → ⊥
none_where_late net rows (Late t number due least start walk) of excludes other late meets = excludes net rows of t number due least start walk late meets
none_where_late net rows OutOfMemory of excludes other late meets = absurd (other refl)

-- where a row is late, no inputs meet the due dates
pub none_meet : (net : NetLists) (rows : List DueRow) (refusal : JitRefusal) → IsNet net → IsLive net → IsDueOf net rows
    → ZeroInputsMeet → LateExcludesMeet → refusal ≢ OutOfMemory → LateIsRight net rows refusal →
    NoInputsMeet net (due_in rows)
none_meet net rows refusal ok live of zero excludes other late =
    λ v meets. none_where_late net rows refusal of excludes other late (zero net (net_ends net ok) live (due_in rows) v meets)
