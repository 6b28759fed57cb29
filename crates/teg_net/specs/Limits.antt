-- The limits that every net keeps.
use Rattle.std.specs.Prelude.{ℕ}

-- transitions of a net
abbrev pub most_transitions : ℕ
most_transitions = 400

-- places of a net
abbrev pub most_places : ℕ
most_places = 4000

-- holding time of a place, in the user's unit
abbrev pub greatest_hold : ℕ
greatest_hold = 1000000000

-- initial tokens of a place
abbrev pub most_place_tokens : ℕ
most_place_tokens = 1000

-- dates that one input list holds
abbrev pub most_input_dates : ℕ
most_input_dates = 100000

-- an input date, a due date, the gap by which a list of them goes on, and the ready date of a token
abbrev pub greatest_input_date : ℕ
greatest_input_date = 1000000000000

-- firings after which an input list repeats
abbrev pub greatest_every : ℕ
greatest_every = 1000

-- a firing number that is asked or walked to
abbrev pub greatest_firing_number : ℕ
greatest_firing_number = 1000000000000000000

-- the time and the tokens of a ratio in an answer that is checked
abbrev pub greatest_checked_ratio : ℕ
greatest_checked_ratio = 1000000000000

-- the magnitude of a potential in an answer that is checked
abbrev pub greatest_checked_potential : ℕ
greatest_checked_potential = 1000000000000000000

-- dates of a transition that are all kept, one a firing: more than any memory holds
abbrev pub most_rows : ℕ
most_rows = 1000000000000000

-- the time of a circuit, which passes each transition once at most
abbrev pub greatest_circuit_time : ℕ
greatest_circuit_time = 400000000000

-- the tokens of a circuit
abbrev pub most_circuit_tokens : ℕ
most_circuit_tokens = 400000

-- the magnitude of a potential at the ratio of a circuit
abbrev pub greatest_scaled_potential : ℕ
greatest_scaled_potential = 400000000000000000

-- the time of a target ratio, at most
abbrev pub greatest_target_time : ℕ
greatest_target_time = 1000000000000

-- the tokens of a target ratio, at most
abbrev pub most_target_tokens : ℕ
most_target_tokens = 1000000
