-- What a planner is told of a net and of due dates, in the words of the library (chapters 2 and 5).
use Rattle.std.specs.Prelude.{ℕ, false, ◌≡◌, ◌≢◌, ◌++◌, List, Option, Some, None, Ok, Err, codes, ⊤}
use Rattle.teg_net.specs.Circuits.{IsLive}
use Rattle.teg_net.specs.Nets.{NetLists}
use Rattle.teg_net.specs.Ratios.{Fraction}
use Rattle.teg_reader.specs.Documents.{document}
use Rattle.teg_reader.specs.PassWalks.{is_memory}
use Rattle.teg_check.specs.CheckRefusals.{IsRightCheckRefusal}
use Rattle.teg_check.specs.declared.refusal.CheckRefusal.TheVariants.{OutOfMemory as check_memory}
use Rattle.teg_text.specs.ValueWords.{ratio_word}
use Rattle.teg_due.specs.declared.rows.DueRow.{DueRow}
use Rattle.teg_due.specs.declared.rows.DueRefusal.TheVariants.{OutOfMemory as due_memory}
use Rattle.teg_due.specs.DueFileRows.{due_of}
use Rattle.teg_jit.specs.due_laws.MeetingDueDates.{AreLatestInputs}
use Rattle.teg_due.specs.RowRules.{due_in}
use Rattle.teg_jit.specs.DueDates.{IsGreatestNumber}
use Rattle.teg_jit.specs.declared.answers.JitRefusal.TheVariants.{OutOfMemory as jit_memory}
use Rattle.teg_jit.specs.Plans.{PlanDates, dates_of_plan, IsPlanFor}
use Rattle.teg_jit.specs.LateRefusals.{LateIsRight}
use Rattle.pace_calls.specs.Paces.{IsPace}
use Rattle.teg_refusals.specs.declared.refusal.Refusal.{Refusal}
use Rattle.teg_refusals.specs.declared.refusal.Refusal.TheVariants.{Read, NotLive, Due, Late, OutOfMemory}

-- the line of a pace
abbrev pub pace_line : Option Fraction → List ℕ
pace_line None = codes "no circuit"
pace_line (Some r) = codes "pace " ++ ratio_word r.time r.tokens

-- the bytes say this net and these due dates
abbrev pub Say : List ℕ → List ℕ → NetLists → List DueRow → Type 0
Say net due lists rows = (document net ≡ Ok lists) × (due_of lists due ≡ Ok rows)

-- the line is that of the pace of the net that the bytes say, and the plan is one for its due dates, up to the greatest number that is due,
-- and has at the inputs the latest dates that meet them
abbrev pub IsAdvice : List ℕ → List ℕ → List ℕ → PlanDates → Type 0
IsAdvice net due line plan =
    (lists : NetLists) × (rows : List DueRow) × (ratio : Option Fraction) × Say net due lists rows
    × IsPace lists ratio × (line ≡ pace_line ratio)
    × IsGreatestNumber rows plan.numbers × IsPlanFor lists (due_in rows) plan × AreLatestInputs lists (due_in rows) (dates_of_plan plan)

-- why there is no advice: the refusal tells its cause in the bytes, of a due file only beside a live net, and is never want of memory, which is told
-- as itself
abbrev pub IsWhyNot : List ℕ → List ℕ → Refusal → Type 0
IsWhyNot net due (Read refusal) = (is_memory refusal ≡ false) × (document net ≡ Err refusal)
IsWhyNot net due (NotLive refusal) = (lists : NetLists) × (refusal ≢ check_memory) × (document net ≡ Ok lists) × IsRightCheckRefusal lists refusal
IsWhyNot net due (Due refusal) = (lists : NetLists) × (refusal ≢ due_memory) × (document net ≡ Ok lists) × IsLive lists × (due_of lists due ≡ Err refusal)
IsWhyNot net due (Late refusal) =
    (lists : NetLists) × (rows : List DueRow) × (refusal ≢ jit_memory) × Say net due lists rows × IsLive lists × LateIsRight lists rows refusal
IsWhyNot net due OutOfMemory = ⊤
IsWhyNot net due other = ⊥
