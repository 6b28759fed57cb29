-- Working definitions of the walk that finds the greatest lead of a series over one of a greater slope.
use Rattle.std.specs.Prelude.{◌≡◌, ◌≤◌, ◌<◌, ◌+◌, ◌-◌, ◌*◌, ◌/◌, ◌%◌, ℕ, ℤ, pos, cond, ltb, ◌-ℤ◌, ◌≤ℤ◌, ◌<ℤ◌}
use Rattle.dioid.specs.declared.dates.Date.{Date}
use Rattle.dioid.specs.declared.dates.Date.TheVariants.{Early, At, Never}
use Rattle.series_laws.specs.Periodic.{times}
use Rattle.series_laws.specs.SeriesForms.{Form, value_at, gap}
use Rattle.series_laws.specs.Needs.{later_start, tail_of, rise_of, fall_of}

-- both series are numbers from where both repeat, and f gains on g over the common period
pub record IsGaining (f g : Form) : Type 0 where
  pub first : (s : ℤ) × (tail_of f ≡ At s)
  pub second : (t : ℤ) × (tail_of g ≡ At t)
  pub gain : pos 0 <ℤ (rise_of f g -ℤ fall_of f g)

-- the number of a date, 0 where it is none
abbrev pub integer_of_date : Date → ℤ
integer_of_date Early = pos 0
integer_of_date (At t) = t
integer_of_date Never = pos 0

-- the lead of g over f, so many shifts past where both repeat
abbrev pub lead_past : Form → Form → ℕ → ℤ
lead_past f g i = gap (value_at f (later_start f g + i)) (value_at g (later_start f g + i))

-- the least number of periods of g that are no shorter than one of f
abbrev pub cover_of : Form → Form → ℕ
cover_of f g = (f.period + (g.period - 1)) / g.period

-- the shifts of the least number of periods of g that are no shorter than one of f
abbrev pub width_of : Form → Form → ℕ
width_of f g = cover_of f g * g.period

-- what g gains in them
abbrev pub climb_of : Form → Form → ℤ
climb_of f g = times (cover_of f g) g.step

-- the place a period of f before a place, both below the width
abbrev pub place_before : Form → Form → ℕ → ℕ
place_before f g place = cond (ltb place f.period) (place + width_of f g - f.period) (place - f.period)

-- what g gains on f from the place before to a place
abbrev pub gain_from_before : Form → Form → ℕ → ℤ
gain_from_before f g place = cond (ltb place f.period) (climb_of f g) (pos 0) -ℤ f.step

-- what g has so many periods of f past a place, less what f gains in them
abbrev pub height_past : Form → Form → ℕ → ℕ → ℤ
height_past f g place j = integer_of_date (value_at g (later_start f g + (place + j * f.period))) -ℤ times j f.step

-- the greatest such height of at least m periods
pub record IsReach (f g : Form) (m place : ℕ) (height : ℤ) : Type 0 where
  pub within : place < width_of f g
  pub reached : (j : ℕ) × (height ≡ height_past f g place j)
  pub greatest : (j : ℕ) → j ≤ m → height_past f g place j ≤ℤ height

-- no lead from a place that the walk back from `start` meets within m steps is greater
abbrev pub NoGreaterLead : Form → Form → ℕ → ℕ → ℤ → Type 0
NoGreaterLead f g start steps best = (m place j : ℕ) → 0 < m → m ≤ steps → place < f.period → (place + m * f.period) % width_of f g ≡ start → j ≤ m
    → lead_past f g (place + j * f.period) ≤ℤ best
