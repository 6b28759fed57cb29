-- Latest inputs where the first ones are given: what came in already, or is on its way (chapter 5).
use Rattle.std.specs.Prelude.{ℕ, pos, ◌+◌, ◌≤◌, ◌≡◌, ◌↔◌, Option, nat_le, if◌then◌else◌}
use Rattle.teg_model.specs.dioid.declared.dates.Date.{Date}
use Rattle.teg_model.specs.dioid.declared.dates.Date.TheVariants.{At}
use Rattle.teg_model.specs.dioid.Dates.{IsAtMostDate}
use Rattle.teg_model.specs.teg_net.Nets.{NetLists, HasEndsInRange, IsInput}
use Rattle.teg_model.specs.teg_net.Circuits.{IsLive}
use Rattle.due_laws.specs.MeetingDueDates.{AreInputs, InputsMeet, inputs_at_zero}
use Rattle.due_laws.specs.LatestDates.{AreLatestDates}

-- dates of the first firings of each input, up to a number of its own: from 0 on, or never, and they never fall
pub record AreGiven (net : NetLists) (n : ℕ → ℕ) (given : ℕ → ℕ → Date) : Type 0 where
  pub from_zero : (t k : ℕ) → IsInput net t → 1 ≤ k → k ≤ n t → IsAtMostDate (At (pos 0)) (given t k)
  pub never_fall : (t k : ℕ) → IsInput net t → 1 ≤ k → k + 1 ≤ n t → IsAtMostDate (given t k) (given t (k + 1))

-- inputs that begin with the given dates and meet the due dates
pub record MeetsFrom (net : NetLists) (due : ℕ → ℕ → Option ℕ) (n : ℕ → ℕ) (given v : ℕ → ℕ → Date) : Type 0 where
  pub inputs : AreInputs net v
  pub begins : (t k : ℕ) → IsInput net t → 1 ≤ k → k ≤ n t → v t k ≡ given t k
  pub meet : InputsMeet net due v

-- and of these the latest
pub record IsLatestFrom (net : NetLists) (due : ℕ → ℕ → Option ℕ) (n : ℕ → ℕ) (given v : ℕ → ℕ → Date) : Type 0 where
  pub meets : MeetsFrom net due n given v
  pub latest : (w : ℕ → ℕ → Date) → MeetsFrom net due n given w → (t k : ℕ) → IsInput net t → 1 ≤ k → IsAtMostDate (w t k) (v t k)

-- the given dates up to the number of each input, and from there on the others
abbrev pub given_then : (ℕ → ℕ) → (ℕ → ℕ → Date) → (ℕ → ℕ → Date) → ℕ → ℕ → Date
given_then n given y t k = if nat_le k (n t) then given t k else y t k

-- no given date comes after the latest date of its firing
abbrev pub AreInTime : NetLists → (ℕ → ℕ) → (ℕ → ℕ → Date) → (ℕ → ℕ → Date) → Type 0
AreInTime net n given y = (t k : ℕ) → IsInput net t → 1 ≤ k → k ≤ n t → IsAtMostDate (given t k) (y t k)

-- of a live net in which inputs at 0 meet the due dates, some inputs that begin as given meet them just where each given date is in
-- time
abbrev pub GivenInputsMeetInTime : Type 0
GivenInputsMeetInTime = (net : NetLists) → HasEndsInRange net → IsLive net → (due : ℕ → ℕ → Option ℕ) → InputsMeet net due inputs_at_zero
    → (y : ℕ → ℕ → Date) → AreLatestDates net due y → (n : ℕ → ℕ) (given : ℕ → ℕ → Date) → AreGiven net n given
    → ((v : ℕ → ℕ → Date) × MeetsFrom net due n given v) ↔ AreInTime net n given y

-- and then the latest ones go on by the latest dates, as if nothing were given
abbrev pub LatestGoOnFromGiven : Type 0
LatestGoOnFromGiven = (net : NetLists) → HasEndsInRange net → IsLive net → (due : ℕ → ℕ → Option ℕ) → InputsMeet net due inputs_at_zero
    → (y : ℕ → ℕ → Date) → AreLatestDates net due y → (n : ℕ → ℕ) (given : ℕ → ℕ → Date) → AreGiven net n given → AreInTime net n given y
    → IsLatestFrom net due n given (given_then n given y)
