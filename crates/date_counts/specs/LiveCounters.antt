-- Counters of live nets, and what counters tell (chapter 5).
use Rattle.std.specs.Prelude.{ℕ, pos, ◌<◌, ◌≤◌, ◌≡◌, length, Option}
use Rattle.dioid.specs.declared.dates.Date.{Date}
use Rattle.dioid.specs.declared.dates.Date.TheVariants.{At}
use Rattle.dioid.specs.Dates.{IsAtMostDate}
use Rattle.teg_net.specs.Nets.{NetLists, HasEndsInRange, HasRisingLists, HasListsByRule}
use Rattle.teg_net.specs.Circuits.{IsLive}
use Rattle.teg_model.specs.Datings.{IsLeastDating}
use Rattle.counter_laws.specs.Counters.{AreCounters}

-- the least dating of a live net has counters
abbrev pub CountersOfLiveNetsExist : Type 0
CountersOfLiveNetsExist = (net : NetLists) (x : ℕ → ℕ → Date) → HasEndsInRange net → HasRisingLists net → HasListsByRule net → IsLive net → IsLeastDating net x → (c : ℕ → ℕ → Option ℕ) × AreCounters net x c

-- datings with the same counters have the same dates, where these are not before 0
abbrev pub CountersTellDates : Type 0
CountersTellDates = (net : NetLists) (x y : ℕ → ℕ → Date) (c : ℕ → ℕ → Option ℕ) → AreCounters net x c → AreCounters net y c
    → (t k : ℕ) → t < length net.transitions → 1 ≤ k → IsAtMostDate (At (pos 0)) (x t k) → IsAtMostDate (At (pos 0)) (y t k) → x t k ≡ y t k
