-- The dates of inputs from their next firings on, none before now, as lists.
use Rattle.std.specs.Prelude.{ℕ, ◌+◌, ◌<◌, ◌≤◌, ◌≡◌, ◌⊎◌, List, Option, Some, None, IfSome, option_map, max, slice_index, length, All, Any, ◌-◌}
use Rattle.teg_net.specs.declared.entries.Again.{Again}
use Rattle.teg_net.specs.declared.entries.InputList.{InputList}
use Rattle.teg_net.specs.Inputs.{IsInputDates, input_date, list_of_input}
use Rattle.teg_net.specs.Limits.{greatest_input_date, most_input_dates}
use Rattle.teg_net.specs.Nets.{NetLists, IsInput, IsInputOf}
use Rattle.run_laws.specs.declared.fired.Fired.{Fired}
use Rattle.state_laws.specs.NetsLeft.{count_in}

-- the date, or now where that is later
abbrev pub left_date : ℕ → Option ℕ → Option ℕ
left_date now date = option_map (λ d. max now d) date

-- the date of firing k to come of transition t
abbrev pub left_dates : NetLists → List Fired → ℕ → ℕ → ℕ → Option ℕ
left_dates net run now t k = left_date now (input_date net t (count_in run t + k))

-- the list with these dates
abbrev pub list_with : InputList → List ℕ → InputList
list_with l dates = record { transition = l.transition; dates = dates; again = l.again }

-- a list of the net, which tells the dates of its input
pub record IsListOf (net : NetLists) (l : InputList) : Type 0 where
  pub listed : list_of_input net l.transition.index ≡ Some l
  pub rules : IsInputOf net l
  pub dates : IsInputDates l (input_date net l.transition.index)

-- the first `count` dates, of which the last `clear` are not before now, tell all that follow: the list's own dates are past, and those that
-- repeat are as they were, or do not move
abbrev pub IsJoined : Option Again → ℕ → ℕ → ℕ → ℕ → Type 0
IsJoined None long next count clear = long ≤ next
IsJoined (Some a) long next count clear = (long ≤ next) × (a.every ≤ count) × ((a.gap ≡ 0) ⊎ (a.every ≤ clear))

-- a date that is there, and not before now
abbrev pub IsClear : ℕ → Option ℕ → Type 0
IsClear now date = (d : ℕ) × (date ≡ Some d) × (now ≤ d)

-- how the dates of an input go on: as its list does, and where it has none, each is as that before it
abbrev pub again_by_list : Option InputList → Option Again
again_by_list None = Some (record { every = 1; gap = 0 })
again_by_list (Some l) = l.again

-- no more dates than a list may have, none past the greatest, and as many as repeat
pub record AreWithinLimits (again : Option Again) (dates : List ℕ) : Type 0 where
  pub few : length dates ≤ most_input_dates
  pub early : All (λ d. d ≤ greatest_input_date) dates
  pub enough : IfSome again (λ a. a.every ≤ length dates)

-- no list within the limits that goes on as the dates of the input do tells those from its next firing on, none before now
pub record IsFarInput (net : NetLists) (run : List Fired) (now t : ℕ) : Type 0 where
  pub is_input : IsInput net t
  pub no_list :
      (l : InputList) → l.again ≡ again_by_list (list_of_input net t) → AreWithinLimits l.again l.dates → IsInputDates l (left_dates net run now t) → ⊥

-- none of the first inputs is so
abbrev pub AreNear : NetLists → List Fired → ℕ → ℕ → Type 0
AreNear net run now most = (t : ℕ) → t < most → IsFarInput net run now t → ⊥

-- the dates of the first firings to come, within their limit, of which the last ones are not before now
pub record AreBegun (net : NetLists) (run : List Fired) (now t : ℕ) (dates : List ℕ) (clear : ℕ) : Type 0 where
  pub told : (k : ℕ) → 1 ≤ k → k ≤ length dates → left_dates net run now t k ≡ Some (slice_index dates (k - 1))
  pub early : All (λ d. d ≤ greatest_input_date) dates
  pub few : clear ≤ length dates
  pub late : (k : ℕ) → 1 ≤ k → k ≤ length dates → length dates < k + clear → IsClear now (input_date net t (count_in run t + k))

-- each list tells the dates of its input, and each input of the first transitions has one
pub record AreListsLeft (net : NetLists) (run : List Fired) (now most : ℕ) (lists : List InputList) : Type 0 where
  pub each : All (λ l. IsInputDates l (left_dates net run now l.transition.index)) lists
  pub every : (t : ℕ) → t < most → IsInput net t → Any (λ l. l.transition.index ≡ t) lists
