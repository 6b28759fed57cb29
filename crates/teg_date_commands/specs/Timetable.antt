-- What is said of a timetable of a live net and its delays.
use Rattle.std.specs.Prelude.{ℕ, ◌≡◌, ◌⊎◌, List, Option, Ok, Err, IfSome}
use Rattle.teg_timetable.specs.delay_laws.declared.table.Timetable.{Timetable}
use Rattle.teg_timetable.specs.delay_laws.PlannedTimetables.{IsTableOf}
use Rattle.teg_net.specs.Nets.{NetLists}
use Rattle.teg_report.specs.teg_text.Lines.{written}
use Rattle.teg_timetable.specs.declared.refusals.DelayRefusal.{DelayRefusal}
use Rattle.teg_timetable.specs.declared.refusals.DelayRefusal.TheVariants.{TooLarge, Unworkable, TooLong, OutOfMemory}
use Rattle.teg_timetable.specs.timetable_files.declared.refusals.TableRefusal.{TableRefusal}
use Rattle.teg_timetable.specs.DelayAnswers.{IsDelayRefusal, IsSpread}
use Rattle.teg_timetable.specs.Spreads.{Spread}
use Rattle.teg_timetable.specs.timetable_files.TimetableFiles.{lists_of_table, timetable_of}
use Rattle.teg_timetable.specs.TimetableTexts.{IsTimetableText, IsTimetableTold, delay_told, spread_told, table_told, told_lines}
use Rattle.teg_outcome.specs.declared.outcome.Verdict.{Verdict}
use Rattle.teg_outcome.specs.declared.outcome.Verdict.TheVariants.{Done as VerdictDone, Schedule as VerdictSchedule, TooLong as VerdictTooLong}

-- it is told why a file says no timetable; that is not want of memory, of which nothing is told
abbrev pub TellsBadTable : NetLists → TableRefusal → Verdict → List ℕ → Type 0
TellsBadTable net fault verdict text = (verdict ≡ VerdictSchedule) × IfSome (table_told fault) (IsTimetableTold net) × IsTimetableText net (table_told fault) text

-- the first fault of the file is said
abbrev pub SaysBadTable : NetLists → List ℕ → Verdict → List ℕ → Type 0
SaysBadTable net bytes verdict text = (fault : TableRefusal) × (timetable_of net bytes ≡ Err fault) × TellsBadTable net fault verdict text

-- of a timetable is said how its delays spread
abbrev pub SaysSpread : ℕ → Option ℕ → NetLists → Timetable → Verdict → List ℕ → Type 0
SaysSpread period limit net table verdict text =
    (verdict ≡ VerdictDone)
    × ((spread : Spread) × IsSpread net period table limit spread × IsTimetableTold net (spread_told spread) × (text ≡ written (told_lines net (spread_told spread))))

-- how a command ends that does not say how delays spread; it does not end so for want of memory
abbrev pub EndsUnspread : DelayRefusal → Verdict → Type 0
EndsUnspread (TooLarge transitions places) verdict = verdict ≡ VerdictSchedule
EndsUnspread (Unworkable place) verdict = verdict ≡ VerdictSchedule
EndsUnspread (TooLong limit) verdict = verdict ≡ VerdictTooLong
EndsUnspread OutOfMemory verdict = ⊥

-- it is told why it is not said how delays spread
abbrev pub TellsUnspread : NetLists → DelayRefusal → Verdict → List ℕ → Type 0
TellsUnspread net refusal verdict text =
    EndsUnspread refusal verdict × IfSome (delay_told refusal) (IsTimetableTold net) × IsTimetableText net (delay_told refusal) text

-- of a timetable is said why it is not told how its delays spread
abbrev pub SaysUnspread : ℕ → Option ℕ → NetLists → Timetable → Verdict → List ℕ → Type 0
SaysUnspread period limit net table verdict text =
    (refusal : DelayRefusal) × IsDelayRefusal net period table limit refusal × TellsUnspread net refusal verdict text

-- of a timetable is said how its delays spread, or why not
abbrev pub SaysDelays : ℕ → Option ℕ → NetLists → Timetable → Verdict → List ℕ → Type 0
SaysDelays period limit net table verdict text = SaysSpread period limit net table verdict text ⊎ SaysUnspread period limit net table verdict text

-- of a live net, a period and a file its first fault is said, or what the delays of its timetable come to
abbrev pub SaysTimetable : ℕ → Option ℕ → NetLists → List ℕ → Verdict → List ℕ → Type 0
SaysTimetable period limit net bytes verdict text =
    SaysBadTable net bytes verdict text
    ⊎ ((table : Timetable) × (timetable_of net bytes ≡ Ok (lists_of_table table)) × IsTableOf net table × SaysDelays period limit net table verdict text)
