-- How a call ends, and the exit status of each ending.
use Rattle.std.specs.Prelude.{ℕ, ◌≡◌}
use Rattle.teg_files.specs.declared.status.Status.{Status}
use Rattle.teg_files.specs.declared.status.Status.TheVariants.{Done, Words, Text, Net, Schedule, Late, TooLong, Log, Calc, Name, ReadFault, WriteFault, NoMemory}
use Rattle.teg_outcome.specs.declared.outcome.Verdict.{Verdict}
use Rattle.teg_outcome.specs.declared.outcome.Verdict.TheVariants.{Done as VerdictDone, TooLong as VerdictTooLong, Name as VerdictName}
use Rattle.teg_outcome.specs.declared.outcome.Verdict.TheVariants.{Schedule as VerdictSchedule, Late as VerdictLate, Log as VerdictLog}
use Rattle.teg_outcome.specs.declared.outcome.Verdict.TheVariants.{Calc as VerdictCalc}

-- the exit status of a program that ends so
abbrev pub code_of : Status → ℕ
code_of Done = 0
code_of Words = 2
code_of Text = 3
code_of Net = 4
code_of Schedule = 5
code_of Late = 6
code_of TooLong = 7
code_of Log = 8
code_of Calc = 9
code_of Name = 10
code_of ReadFault = 64
code_of WriteFault = 65
code_of NoMemory = 70

-- the status of a call that ends with this verdict
abbrev pub status_of : Verdict → Status
status_of VerdictDone = Done
status_of VerdictTooLong = TooLong
status_of VerdictName = Name
status_of VerdictSchedule = Schedule
status_of VerdictLate = Late
status_of VerdictLog = Log
status_of VerdictCalc = Calc

-- a status that a command gives: that of some verdict
abbrev pub IsOwn : Status → Type 0
IsOwn status = (verdict : Verdict) × (status_of verdict ≡ status)
