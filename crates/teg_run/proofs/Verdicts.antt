-- Statuses of commands, and those that the call itself gives.
use Rattle.std.proofs.Common.{◌≢◌, refl, subst}
use Rattle.teg_files.specs.declared.status.Status.{Status}
use Rattle.teg_files.specs.declared.status.Status.TheVariants.{Done, Words, Text, Net, Schedule, Late, TooLong, Log, Calc, Name, ReadFault, WriteFault, NoMemory}
use Rattle.teg_outcome.specs.declared.outcome.Verdict.{Verdict}
use Rattle.teg_outcome.specs.declared.outcome.Verdict.TheVariants.{Done as VerdictDone, TooLong as VerdictTooLong, Name as VerdictName}
use Rattle.teg_outcome.specs.declared.outcome.Verdict.TheVariants.{Schedule as VerdictSchedule, Late as VerdictLate, Log as VerdictLog}
use Rattle.teg_outcome.specs.declared.outcome.Verdict.TheVariants.{Calc as VerdictCalc}
use Rattle.teg_files.specs.Statuses.{IsOwn, status_of}

-- the same, status by status
abbrev pub IsGiven : Status → Type 0
IsGiven Done = Unit {0}
IsGiven Words = ⊥
IsGiven Text = ⊥
IsGiven Net = ⊥
IsGiven Schedule = Unit {0}
IsGiven Late = Unit {0}
IsGiven TooLong = Unit {0}
IsGiven Log = Unit {0}
IsGiven Calc = Unit {0}
IsGiven Name = Unit {0}
IsGiven ReadFault = ⊥
IsGiven WriteFault = ⊥
IsGiven NoMemory = ⊥

-- a verdict is none of the statuses that only the call itself gives
pub verdict_is_own : (verdict : Verdict) → IsGiven (status_of verdict)
verdict_is_own VerdictDone = tt
verdict_is_own VerdictTooLong = tt
verdict_is_own VerdictName = tt
verdict_is_own VerdictSchedule = tt
verdict_is_own VerdictLate = tt
verdict_is_own VerdictLog = tt
verdict_is_own VerdictCalc = tt

pub given_of_own : (status : Status) → IsOwn status → IsGiven status
given_of_own status own = subst IsGiven own.1 (verdict_is_own own.0)

pub own_of_given : (status : Status) → IsGiven status → IsOwn status
own_of_given Done given = (VerdictDone, refl)
own_of_given TooLong given = (VerdictTooLong, refl)
own_of_given Name given = (VerdictName, refl)
own_of_given Schedule given = (VerdictSchedule, refl)
own_of_given Late given = (VerdictLate, refl)
own_of_given Log given = (VerdictLog, refl)
own_of_given Calc given = (VerdictCalc, refl)
own_of_given Words given = absurd given
own_of_given Text given = absurd given
own_of_given Net given = absurd given
own_of_given ReadFault given = absurd given
own_of_given WriteFault given = absurd given
own_of_given NoMemory given = absurd given

-- none of the statuses of refused words, of a fault of the sink and of want of memory
pub record IsSaid (status : Status) : Type 0 where
  pub no_words : status ≢ Words
  pub no_write_fault : status ≢ WriteFault
  pub no_memory : status ≢ NoMemory

-- so it is with the statuses of commands
pub own_is_said : (status : Status) → IsGiven status → IsSaid status
own_is_said status own =
    record {
      no_words = λ e. subst IsGiven e own;
      no_write_fault = λ e. subst IsGiven e own;
      no_memory = λ e. subst IsGiven e own;
    }
