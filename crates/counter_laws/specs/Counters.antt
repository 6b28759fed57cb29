-- Counters: how many firings of each transition come up to each date (chapter 5, counters and daters).
use Rattle.std.specs.Prelude.{ℕ, pos, ◌+◌, ◌-◌, ◌<◌, ◌≤◌, ◌≡◌, ◌↔◌, Option, Some, None, nat_le, if◌then◌else◌, length, All, ⊤}
use Rattle.teg_model.specs.dioid.declared.dates.Date.{Date}
use Rattle.teg_model.specs.dioid.declared.dates.Date.TheVariants.{At}
use Rattle.teg_model.specs.dioid.Dates.{IsAtMostDate}
use Rattle.teg_model.specs.teg_net.declared.entries.Place.{Place}
use Rattle.teg_model.specs.teg_net.Nets.{NetLists, IsInput}
use Rattle.teg_model.specs.teg_net.ReadyDates.{ready_date}

-- the number is at most the count, of which `None` is one without end
abbrev pub IsUpTo : ℕ → Option ℕ → Type 0
IsUpTo k None = ⊤
IsUpTo k (Some n) = k ≤ n

-- k or more of the dates, numbered from 1 on, are counted up to date d just where that of number k is at most d
abbrev pub AreCounts : (ℕ → Date) → (ℕ → Option ℕ) → Type 0
AreCounts dates c = (d k : ℕ) → 1 ≤ k → IsAtMostDate (dates k) (At (pos d)) ↔ IsUpTo k (c d)

-- c t d counts the firings of transition t up to date d
abbrev pub AreCounters : NetLists → (ℕ → ℕ → Date) → (ℕ → ℕ → Option ℕ) → Type 0
AreCounters net x c = (t : ℕ) → t < length net.transitions → AreCounts (x t) (c t)

-- r t d counts the releases of input t up to date d
abbrev pub AreReleaseCounters : NetLists → (ℕ → ℕ → Date) → (ℕ → ℕ → Option ℕ) → Type 0
AreReleaseCounters net u r = (t : ℕ) → IsInput net t → AreCounts (u t) (r t)

-- the count and so many more
abbrev pub and_more : ℕ → Option ℕ → Option ℕ
and_more m None = None
and_more m (Some n) = Some (m + n)

-- how many tokens have been in the place up to the date, by the counts c: the initial ones, and one for each firing of the
-- upstream transition up to a hold before
abbrev pub tokens_by : (ℕ → ℕ → Option ℕ) → Place → ℕ → Option ℕ
tokens_by c p d = if nat_le p.hold d then and_more p.tokens (c p.from.index (d - p.hold)) else Some p.tokens

-- of the first k tokens that firings take from the place each initial one is ready by date d
abbrev pub AreReadyBy : Place → ℕ → ℕ → Type 0
AreReadyBy p d k = (token : ℕ) → 1 ≤ token → token ≤ k → token ≤ p.tokens → ready_date p token ≤ d

-- k is at most the least of the tokens that each place into transition t has had up to date d, of those before the first that
-- is not ready by then and, of an input, of its releases
pub record IsUpToLeast (net : NetLists) (r c : ℕ → ℕ → Option ℕ) (t d k : ℕ) : Type 0 where
  pub tokens : All (λ p. p.to.index ≡ t → IsUpTo k (tokens_by c p d)) net.places
  pub ready : All (λ p. p.to.index ≡ t → AreReadyBy p d k) net.places
  pub released : IsInput net t → IsUpTo k (r t d)

-- no count exceeds that least
abbrev pub AreWithinLeast : NetLists → (ℕ → ℕ → Option ℕ) → (ℕ → ℕ → Option ℕ) → Type 0
AreWithinLeast net r c = (t d k : ℕ) → t < length net.transitions → 1 ≤ k → IsUpTo k (c t d) → IsUpToLeast net r c t d k
