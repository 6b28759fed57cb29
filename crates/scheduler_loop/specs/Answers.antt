-- What a scheduler is told, in the words of the library (chapters 2 and 5).
use Rattle.std.specs.Prelude.{ℕ, false, if◌then◌else◌, ◌<◌, ◌≡◌, ◌≢◌, List, Ok, Err, All, IsSomeAnd, slice_get, ⊤}
use Rattle.teg_net.specs.declared.entries.PlaceId.{PlaceId}
use Rattle.teg_net.specs.Changes.{with_hold}
use Rattle.teg_net.specs.Limits.{greatest_hold}
use Rattle.teg_net.specs.Nets.{NetLists}
use Rattle.teg_reader.specs.Documents.{document}
use Rattle.teg_reader.specs.PassWalks.{is_memory}
use Rattle.teg_reader.specs.declared.refusals.ReadRefusal.{ReadRefusal}
use Rattle.teg_check.specs.declared.refusal.CheckRefusal.{CheckRefusal}
use Rattle.teg_check.specs.declared.refusal.CheckRefusal.TheVariants.{OutOfMemory as check_memory}
use Rattle.teg_check.specs.CheckRefusals.{IsRightCheckRefusal}
use Rattle.teg_due.specs.declared.rows.DueRow.{DueRow}
use Rattle.teg_due.specs.declared.rows.DueRefusal.{DueRefusal}
use Rattle.teg_due.specs.declared.rows.DueRefusal.TheVariants.{OutOfMemory as due_memory}
use Rattle.teg_due.specs.DueFileRows.{due_of}
use Rattle.teg_jit.specs.due_laws.MeetingDueDates.{AreLatestInputs}
use Rattle.teg_due.specs.RowRules.{due_in}
use Rattle.teg_jit.specs.DueDates.{IsGreatestNumber}
use Rattle.teg_jit.specs.Plans.{PlanDates, dates_of_plan, IsPlanFor}
use Rattle.teg_jit.specs.declared.answers.JitRefusal.{JitRefusal}
use Rattle.teg_jit.specs.declared.answers.JitRefusal.TheVariants.{OutOfMemory as jit_memory}
use Rattle.teg_jit.specs.LateRefusals.{LateIsRight}
use Rattle.scheduler_loop.specs.declared.refusals.NoAnswer.{NoAnswer}
use Rattle.scheduler_loop.specs.declared.refusals.NoAnswer.TheVariants.{NoNet, NotLive, NoPlace, HoldTooLong, NoDue, Late, OutOfMemory}

-- why a file says no net, as it is told: want of memory as itself
abbrev pub no_answer_of_read : ReadRefusal → NoAnswer
no_answer_of_read refusal = if is_memory refusal then OutOfMemory else NoNet refusal

-- why a net gets no ranks, as it is told: want of memory as itself
abbrev pub no_answer_of_check : CheckRefusal → NoAnswer
no_answer_of_check check_memory = OutOfMemory
no_answer_of_check refusal = NotLive refusal

-- why a file says no due dates, as it is told: want of memory as itself
abbrev pub no_answer_of_due : DueRefusal → NoAnswer
no_answer_of_due due_memory = OutOfMemory
no_answer_of_due refusal = NoDue refusal

-- why there is no plan, as it is told: want of memory as itself
abbrev pub no_answer_of_jit : JitRefusal → NoAnswer
no_answer_of_jit jit_memory = OutOfMemory
no_answer_of_jit refusal = Late refusal

-- the bytes say no net, or one that is not live, or there is no memory; nothing else keeps a scheduler from being made
abbrev pub IsWhyNone : List ℕ → NoAnswer → Type 0
IsWhyNone bytes (NoNet refusal) = (is_memory refusal ≡ false) × (document bytes ≡ Err refusal)
IsWhyNone bytes (NotLive refusal) = (lists : NetLists) × (refusal ≢ check_memory) × (document bytes ≡ Ok lists) × IsRightCheckRefusal lists refusal
IsWhyNone bytes NoPlace = ⊥
IsWhyNone bytes HoldTooLong = ⊥
IsWhyNone bytes (NoDue refusal) = ⊥
IsWhyNone bytes (Late refusal) = ⊥
IsWhyNone bytes OutOfMemory = ⊤

-- the net with this holding time of the place of this name
abbrev pub IsHoldChanged : NetLists → List ℕ → ℕ → NetLists → Type 0
IsHoldChanged net name hold changed =
    (p : PlaceId) × IsSomeAnd (slice_get net.places p.index) (λ place. place.name ≡ name) × (changed ≡ with_hold net p hold)

-- no place has the name, or one has it and the holding time is past its limit; nothing else keeps a holding time from being changed
abbrev pub IsWhyNotChanged : NetLists → List ℕ → ℕ → NoAnswer → Type 0
IsWhyNotChanged net name hold (NoNet refusal) = ⊥
IsWhyNotChanged net name hold (NotLive refusal) = ⊥
IsWhyNotChanged net name hold NoPlace = All (λ p. p.name ≢ name) net.places
IsWhyNotChanged net name hold HoldTooLong =
    (greatest_hold < hold) × ((p : PlaceId) × IsSomeAnd (slice_get net.places p.index) (λ place. place.name ≡ name))
IsWhyNotChanged net name hold (NoDue refusal) = ⊥
IsWhyNotChanged net name hold (Late refusal) = ⊥
IsWhyNotChanged net name hold OutOfMemory = ⊥

-- the plan is one for the due dates that the bytes say of the net, up to the greatest number that is due, and has at the inputs the latest dates that meet them
abbrev pub IsLatestPlan : NetLists → List ℕ → PlanDates → Type 0
IsLatestPlan net bytes plan =
    (rows : List DueRow) × (due_of net bytes ≡ Ok rows)
    × IsGreatestNumber rows plan.numbers × IsPlanFor net (due_in rows) plan × AreLatestInputs net (due_in rows) (dates_of_plan plan)

-- the bytes say no due dates of the net, or a row of theirs comes late, or there is no memory; nothing else keeps a plan from being told
abbrev pub IsWhyNoPlan : NetLists → List ℕ → NoAnswer → Type 0
IsWhyNoPlan net bytes (NoNet refusal) = ⊥
IsWhyNoPlan net bytes (NotLive refusal) = ⊥
IsWhyNoPlan net bytes NoPlace = ⊥
IsWhyNoPlan net bytes HoldTooLong = ⊥
IsWhyNoPlan net bytes (NoDue refusal) = (refusal ≢ due_memory) × (due_of net bytes ≡ Err refusal)
IsWhyNoPlan net bytes (Late refusal) = (rows : List DueRow) × (refusal ≢ jit_memory) × (due_of net bytes ≡ Ok rows) × LateIsRight net rows refusal
IsWhyNoPlan net bytes OutOfMemory = ⊤
