-- Counters by the token game (chapters 2 and 5).
use Rattle.std.specs.Prelude.{ℕ, ◌<◌, ◌≤◌, ◌≡◌, List, Option, Some, nat_le, length, count_by}
use Rattle.teg_model.specs.dioid.declared.dates.Date.{Date}
use Rattle.teg_model.specs.teg_net.Nets.{NetLists}
use Rattle.teg_model.specs.Datings.{IsLeastDating}
use Rattle.run_laws.specs.declared.fired.Fired.{Fired}
use Rattle.run_laws.specs.Runs.{dates_of_transition}
use Rattle.run_laws.specs.EarliestRuns.{IsEarliestRun}
use Rattle.counter_laws.specs.Counters.{AreCounters}

-- a count that is at most the number up to which an earliest run goes is that of its firings up to the date
abbrev pub CountersCountFirings : Type 0
CountersCountFirings = (net : NetLists) (x : ℕ → ℕ → Date) (c : ℕ → ℕ → Option ℕ) (most : ℕ) (run : List Fired)
    → IsLeastDating net x → IsEarliestRun net x most run → AreCounters net x c
    → (t d n : ℕ) → t < length net.transitions → c t d ≡ Some n → n ≤ most → count_by (λ z. nat_le z d) (dates_of_transition run t) ≡ n
