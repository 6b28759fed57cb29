-- From where the result of an operation repeats, and by how many shifts: the words, and the sum and the minimum.
use Rattle.std.specs.Prelude.{◌+◌, ◌-◌, ◌*◌, ◌/◌, ◌%◌, ℕ, ℤ, pos, negsuc, zero, suc, max, eqb, ◌-ℤ◌}
use Rattle.std.specs.Int.{int_max}
use Rattle.dioid.specs.declared.dates.Date.{Date}
use Rattle.dioid.specs.declared.dates.Date.TheVariants.{Early, At, Never}
use Rattle.series_laws.specs.declared.plans.NeedPlan.{NeedPlan}
use Rattle.series_laws.specs.declared.plans.Slopes.{Slopes}
use Rattle.series_laws.specs.declared.plans.Slopes.TheVariants.{Equal, First, Second}
use Rattle.series_laws.specs.Periodic.{times}
use Rattle.series_laws.specs.SeriesForms.{Form, repeat_start, value_at, gap, first_holding, canonical_of}
use Rattle.series_laws.specs.Pointwise.{sum_at, least_at}

-- a plan that repeats from p on by n shifts
abbrev pub plan : ℕ → ℕ → NeedPlan
plan p n = record { from = p; turn = n }

-- the need: the shift from which the result repeats plus the period
abbrev pub need_of : NeedPlan → ℕ
need_of r = r.from + r.turn

-- the canonical form of a function by a plan
abbrev pub form_by : (ℕ → Date) → NeedPlan → Form
form_by s r = canonical_of s r.from r.turn

-- the least m from 1 on for which b divides m a
abbrev pub turns_of : ℕ → ℕ → ℕ
turns_of a b = first_holding (λ m. eqb (m * a % b) 0) 1 (b - 1)

-- the least common multiple
abbrev pub common : ℕ → ℕ → ℕ
common a b = turns_of a b * a

-- l, the least common multiple of the two periods
abbrev pub period_with : Form → Form → ℕ
period_with f g = common f.period g.period

-- what f gains on the common period with g
abbrev pub rise_of : Form → Form → ℤ
rise_of f g = times (period_with f g / f.period) f.step

-- what g gains on the common period with f
abbrev pub fall_of : Form → Form → ℤ
fall_of f g = times (period_with f g / g.period) g.step

-- the value at the shift from which the list repeats
abbrev pub tail_of : Form → Date
tail_of f = value_at f (repeat_start f)

-- the greater slope by the sign of the difference of two gains
abbrev pub by_sign : ℤ → Slopes
by_sign (pos zero) = Equal
by_sign (pos (suc n)) = First
by_sign (negsuc n) = Second

-- which slope is the greater: a Never tail has the greatest, Early the least
abbrev pub slopes_by : Date → Date → ℤ → Slopes
slopes_by Early Early z = Equal
slopes_by Early (At t) z = Second
slopes_by Early Never z = Second
slopes_by (At s) Early z = First
slopes_by (At s) (At t) z = by_sign z
slopes_by (At s) Never z = Second
slopes_by Never Early z = First
slopes_by Never (At t) z = First
slopes_by Never Never z = Equal

-- which of two forms has the greater slope
abbrev pub slopes_of : Form → Form → Slopes
slopes_of f g = slopes_by (tail_of f) (tail_of g) (rise_of f g -ℤ fall_of f g)

-- the greatest of f 0, .., f n
abbrev pub greatest_int : (ℕ → ℤ) → ℕ → ℤ
greatest_int f zero = f 0
greatest_int f (suc n) = int_max (greatest_int f n) (f (suc n))

-- the least m with d at most m g, for g above 0; 0 for d below 0
abbrev pub ceiling : ℤ → ℤ → ℕ
ceiling (pos d) (pos g) = (d + (g - 1)) / g
ceiling (pos d) (negsuc g) = 0
ceiling (negsuc d) g = 0

-- P, the greater of the two shifts from which the lists repeat
abbrev pub later_start : Form → Form → ℕ
later_start f g = max (repeat_start f) (repeat_start g)

-- the greatest lead of g over f on one period
abbrev pub lead_of : Form → Form → ℤ
lead_of f g = greatest_int (λ i. gap (value_at f (later_start f g + i)) (value_at g (later_start f g + i))) (period_with f g - 1)

-- the number of periods after which f, of the greater slope, is the greater one
abbrev pub periods_behind : Form → Form → ℕ
periods_behind f g = ceiling (lead_of f g) (rise_of f g -ℤ fall_of f g)

-- the shift from where f, of the greater slope, is the greater one, by the tails of the forms
abbrev pub crossing_by : Date → Date → Form → Form → ℕ
crossing_by (At s) (At t) f g = later_start f g + periods_behind f g * period_with f g
crossing_by Early b f g = later_start f g
crossing_by Never b f g = later_start f g
crossing_by (At s) Early f g = later_start f g
crossing_by (At s) Never f g = later_start f g

-- the shift from where f, of the greater slope, is the greater one
abbrev pub crossing : Form → Form → ℕ
crossing f g = crossing_by (tail_of f) (tail_of g) f g

-- the plan of a sum by the slopes: with equal slopes by the common period, else by the period of the greater slope
abbrev pub sum_plan_by : Slopes → Form → Form → NeedPlan
sum_plan_by Equal f g = plan (later_start f g) (period_with f g)
sum_plan_by First f g = plan (crossing f g) f.period
sum_plan_by Second f g = plan (crossing g f) g.period

-- the plan of a sum
abbrev pub sum_plan : Form → Form → NeedPlan
sum_plan f g = sum_plan_by (slopes_of f g) f g

-- the plan of a minimum by the slopes: with equal slopes by the common period, else by the period of the lesser slope
abbrev pub least_plan_by : Slopes → Form → Form → NeedPlan
least_plan_by Equal f g = plan (later_start f g) (period_with f g)
least_plan_by First f g = plan (crossing f g) g.period
least_plan_by Second f g = plan (crossing g f) f.period

-- the plan of a minimum
abbrev pub least_plan : Form → Form → NeedPlan
least_plan f g = least_plan_by (slopes_of f g) f g

-- the canonical form of the sum
abbrev pub form_sum : Form → Form → Form
form_sum f g = form_by (sum_at (value_at f) (value_at g)) (sum_plan f g)

-- the canonical form of the minimum
abbrev pub form_least : Form → Form → Form
form_least f g = form_by (least_at (value_at f) (value_at g)) (least_plan f g)
