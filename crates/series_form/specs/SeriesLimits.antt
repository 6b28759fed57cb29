-- The magnitudes that numbers of series, and numbers on the way to one, do not pass.
use Rattle.std.specs.Prelude.{ℕ}

-- a value and the step of a series
abbrev pub greatest_value : ℕ
greatest_value = 1000000000000000000

-- the shift of a monomial and the magnitude of its date are below this
abbrev pub monomial_bound : ℕ
monomial_bound = 10000000000000000000

-- a value 20,000 steps past one of a series
abbrev pub greatest_value_ahead : ℕ
greatest_value_ahead = 20001000000000000000000

-- a value 60,001 steps past one of a series
abbrev pub greatest_value_far_ahead : ℕ
greatest_value_far_ahead = 60002000000000000000000

-- the value of a part of a star
abbrev pub greatest_part_value : ℕ
greatest_part_value = 200000000000000000000000

-- a common period of two series
abbrev pub most_common_shifts : ℕ
most_common_shifts = 400000000

-- common periods that cover a list, in shifts
abbrev pub most_covering_shifts : ℕ
most_covering_shifts = 400020000

-- what a series gains over a common period
abbrev pub greatest_gain : ℕ
greatest_gain = 400000000000000000000000000

-- a number that an operation may compute before its result is found small
abbrev pub greatest_moderate : ℕ
greatest_moderate = 1000000000000000000000000000

-- a value of a part times a number of shifts
abbrev pub greatest_part_product : ℕ
greatest_part_product = 4000000000000000000000000000

-- what a part loses against steps
abbrev pub greatest_part_loss : ℕ
greatest_part_loss = 8000000000000000000000000000

-- the difference of what two series gain over a common period
abbrev pub greatest_gain_gap : ℕ
greatest_gain_gap = 800000000000000000000000000

-- common periods in which a series makes up what it is behind
abbrev pub most_waits : ℕ
most_waits = 1800000000000000000000000000

-- the common periods in which a series makes up what it is behind, in shifts, and the heights on the way there
abbrev pub greatest_height : ℕ
greatest_height = 1000000000000000000000000000000000000

-- the shift from where a star repeats
abbrev pub greatest_star_need : ℕ
greatest_star_need = 1000000000000000000000000000000000

-- the shift from where a sum or a product repeats, and steps over a moderate number
abbrev pub greatest_reach : ℕ
greatest_reach = 10000000000000000000000000000000000000

-- no number of a list has a greater magnitude
abbrev pub greatest_listed : ℕ
greatest_listed = 500000000000000000000000000
