-- Timetables with delays: planned dates, delays that are given, and what a net asks of the plan (chapters 2 and 3).
use Rattle.std.specs.Prelude.{ℕ, ◌+◌, ◌-◌, ◌*◌, ◌≤◌, ◌<◌, ◌≡◌, ◌≢◌, ◌&&◌, ◌==◌, All, AllPairs, List, find, length, slice_index}
use Rattle.std.specs.Option.{option_map_or}
use Rattle.teg_net.specs.declared.entries.Place.{Place}
use Rattle.teg_net.specs.Nets.{NetLists}
use Rattle.teg_net.specs.ReadyDates.{ready_date}
use Rattle.delay_laws.specs.declared.table.Delay.{Delay}
use Rattle.delay_laws.specs.declared.table.Timetable.{Timetable}

-- the greatest first departure
abbrev pub greatest_departure : ℕ
greatest_departure = 1000000000

-- the greatest number of a departure that is delayed
abbrev pub greatest_delayed_number : ℕ
greatest_delayed_number = 10000

-- the greatest delay
abbrev pub greatest_delay : ℕ
greatest_delay = 50000

-- a delay of a transition of the net, whose numbers keep their limits
pub record IsDelayOf (net : NetLists) (d : Delay) : Type 0 where
  pub transition_in : d.transition.index < length net.transitions
  pub number_some : 1 ≤ d.number
  pub number_in : d.number ≤ greatest_delayed_number
  pub by_some : 1 ≤ d.by
  pub by_in : d.by ≤ greatest_delay

-- a first departure for each transition of the net, and delays of its transitions; no two have the same transition and number
pub record IsTableOf (net : NetLists) (t : Timetable) : Type 0 where
  pub one_each : length t.firsts.items ≡ length net.transitions
  pub firsts_in : All (λ f. f ≤ greatest_departure) t.firsts.items
  pub delays_in : All (IsDelayOf net) t.delays.items
  pub one_delay : AllPairs (λ c d. c.transition.index ≡ d.transition.index → c.number ≢ d.number) t.delays.items

-- the first planned date of transition i
abbrev pub first_planned : Timetable → ℕ → ℕ
first_planned t i = slice_index t.firsts.items i

-- the planned date of departure k of transition i: the first one, and again every period
abbrev pub planned : ℕ → Timetable → ℕ → ℕ → ℕ
planned period t i k = first_planned t i + period * (k - 1)

-- the delay that the rows give departure s of transition i, 0 where they give none
abbrev pub delay_in : List Delay → ℕ → ℕ → ℕ
delay_in ds i s = option_map_or (λ d. d.by) (find (λ d. (d.transition.index == i) && (d.number == s)) ds) 0

-- the delay that the timetable gives departure s of transition i, 0 where it gives none
abbrev pub delay_given : Timetable → ℕ → ℕ → ℕ
delay_given t i s = delay_in t.delays.items i s

-- no delay that is given is above this
abbrev pub AreDelaysUpTo : ℕ → Timetable → Type 0
AreDelaysUpTo most t = All (λ d. d.by ≤ most) t.delays.items

-- of each delay that is given at transition i, the planned date and the delay together come no later than the planned date of departure `number`
abbrev pub IsPastDelays : ℕ → Timetable → ℕ → ℕ → Type 0
IsPastDelays period t i number = All (λ d. d.transition.index ≡ i → period * d.number + d.by ≤ period * number) t.delays.items

-- the plan leaves time for the place: its end departs late enough for the tokens of its start and for its own initial tokens
pub record IsWorkableAt (period : ℕ) (t : Timetable) (p : Place) : Type 0 where
  pub leaves_time : first_planned t p.from.index + p.hold ≤ first_planned t p.to.index + period * p.tokens
  pub ready : (k : ℕ) → 1 ≤ k → k ≤ p.tokens → ready_date p k ≤ planned period t p.to.index k

-- the plan leaves time for each place of the net
abbrev pub IsWorkable : NetLists → ℕ → Timetable → Type 0
IsWorkable net period t = All (IsWorkableAt period t) net.places
