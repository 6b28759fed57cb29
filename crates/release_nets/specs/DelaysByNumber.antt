-- Working definitions of the delays of a timetable by the numbers of departures.
use Rattle.std.specs.Prelude.{ℕ, ◌&&◌, ◌==◌, List, Option, find, option_map}
use Rattle.delay_laws.specs.declared.table.Delay.{Delay}

-- departures of a transition up to a number past its delays, at most
abbrev pub most_releases : ℕ
most_releases = 60000

-- the delay that these rows give departure s of transition i, if they give one
abbrev pub given_in : List Delay → ℕ → ℕ → Option ℕ
given_in ds i s = option_map (λ d. d.by) (find (λ d. (d.transition.index == i) && (d.number == s)) ds)
