-- From where a product, a residual and a star repeat, and by how many shifts.
use Rattle.std.specs.Prelude.{◌≡◌, ◌+◌, ◌-◌, ◌*◌, ◌/◌, ℕ, ℤ, pos, negsuc, zero, suc, max, Bool, true, false, cond, ltb, not, [], ◌∷◌, ◌-ℤ◌, int_lt}
use Rattle.dioid.specs.declared.dates.Date.{Date}
use Rattle.dioid.specs.declared.dates.Date.TheVariants.{Early, At, Never}
use Rattle.series_laws.specs.Periodic.{times}
use Rattle.series_laws.specs.SeriesForms.{Form, size_of, repeat_start, value_at, gap}
use Rattle.series_laws.specs.declared.plans.NeedPlan.{NeedPlan}
use Rattle.series_laws.specs.declared.plans.Slopes.{Slopes}
use Rattle.series_laws.specs.declared.plans.Slopes.TheVariants.{Equal, First, Second}
use Rattle.series_laws.specs.declared.plans.Anchor.{Anchor}
use Rattle.series_laws.specs.Needs.{plan, need_of, form_by, period_with, rise_of, fall_of, tail_of, slopes_of, greatest_int, ceiling, later_start, sum_plan, form_sum}
use Rattle.series_laws.specs.Product.{product_at}
use Rattle.series_laws.specs.SeriesStars.{scaled}
use Rattle.series_laws.specs.StarOf.{star_at}
use Rattle.series_laws.specs.Residual.{least_of_first}
use Rattle.dioid.specs.Dates.{date_left}

-- ---- the product

-- the least multiple of the common period that is at least the list of f, in periods
abbrev pub lifts_of : Form → Form → ℕ
lifts_of f g = (size_of f + (period_with f g - 1)) / period_with f g

-- the periods after which f has gained what g gains meanwhile and on the lifts
abbrev pub waits_of : Form → Form → ℕ
waits_of f g = ceiling (times (lifts_of f g) (fall_of f g)) (rise_of f g -ℤ fall_of f g)

-- the plan of a product whose first factor has the greater slope, by the tails of the factors
abbrev pub product_first_by : Date → Date → Form → Form → NeedPlan
product_first_by (At s) b f g = plan (size_of f + repeat_start g + (lifts_of f g * period_with f g + waits_of f g * period_with f g)) f.period
product_first_by Never (At t) f g = plan (size_of f + repeat_start g + lifts_of f g * period_with f g) 1
product_first_by Never Early f g = plan 0 1
product_first_by Never Never f g = plan 0 1
product_first_by Early b f g = plan 0 1

-- the plan of a product whose first factor has the greater slope
abbrev pub product_first : Form → Form → NeedPlan
product_first f g = product_first_by (tail_of f) (tail_of g) f g

-- the plan of a product by the slopes, no factor Early everywhere
abbrev pub product_by_slopes : Slopes → Form → Form → NeedPlan
product_by_slopes Equal f g = plan (repeat_start f + repeat_start g + period_with f g) (period_with f g)
product_by_slopes First f g = product_first f g
product_by_slopes Second f g = product_first g f

-- the plan of a product by the tails: 1 value where a factor is Early everywhere
abbrev pub product_plan_by : Date → Date → Form → Form → NeedPlan
product_plan_by Early b f g = plan 0 1
product_plan_by (At s) Early f g = plan 0 1
product_plan_by (At s) (At t) f g = product_by_slopes (slopes_of f g) f g
product_plan_by (At s) Never f g = product_by_slopes (slopes_of f g) f g
product_plan_by Never Early f g = plan 0 1
product_plan_by Never (At t) f g = product_by_slopes (slopes_of f g) f g
product_plan_by Never Never f g = product_by_slopes (slopes_of f g) f g

-- the plan of a product
abbrev pub product_plan : Form → Form → NeedPlan
product_plan f g = product_plan_by (tail_of f) (tail_of g) f g

-- the canonical form of the product
abbrev pub form_product : Form → Form → Form
form_product f g = form_by (product_at (value_at f) (value_at g)) (product_plan f g)

-- ---- the residual

-- the number of offsets that decide: the later start plus the common period
abbrev pub offsets_of : Form → Form → ℕ
offsets_of f g = later_start f g + period_with f g

-- the least residual at the offsets that decide
abbrev pub left_over : Form → Form → ℕ → Date
left_over f g k = least_of_first (λ i. date_left (value_at f i) (value_at g (k + i))) (offsets_of f g - 1)

-- the offsets decide: the first is not Early everywhere and has no greater slope
pub record OffsetsDecide (f g : Form) : Type 0 where
  pub late : tail_of f ≡ Early → ⊥
  pub gentle : slopes_of f g ≡ First → ⊥

-- the residual at k by the slopes: Early where the first is greater
abbrev pub left_by_slopes : Slopes → Form → Form → ℕ → Date
left_by_slopes Equal f g k = left_over f g k
left_by_slopes First f g k = Early
left_by_slopes Second f g k = left_over f g k

-- the residual at k by the tail of the first: Never where it is Early everywhere
abbrev pub left_by : Date → Form → Form → ℕ → Date
left_by Early f g k = Never
left_by (At s) f g k = left_by_slopes (slopes_of f g) f g k
left_by Never f g k = left_by_slopes (slopes_of f g) f g k

-- the residual at k
abbrev pub residual_at : Form → Form → ℕ → Date
residual_at f g = left_by (tail_of f) f g

-- the plan where the offsets decide how long the list is
abbrev pub long_left : Form → Form → NeedPlan
long_left f g = plan (max (size_of g) (offsets_of f g) - g.period) g.period

-- the plan with the list of the second form
abbrev pub short_left : Form → Form → NeedPlan
short_left f g = plan (repeat_start g) g.period

-- the plan of a residual of two numbers by the slopes
abbrev pub left_plan_by_slopes : Slopes → Form → Form → NeedPlan
left_plan_by_slopes Equal f g = long_left f g
left_plan_by_slopes First f g = short_left f g
left_plan_by_slopes Second f g = long_left f g

-- the plan of a residual by the tails
abbrev pub left_plan_by : Date → Date → Form → Form → NeedPlan
left_plan_by (At s) (At t) f g = left_plan_by_slopes (slopes_of f g) f g
left_plan_by (At s) Early f g = short_left f g
left_plan_by (At s) Never f g = short_left f g
left_plan_by Never Never f g = long_left f g
left_plan_by Never (At t) f g = short_left f g
left_plan_by Never Early f g = short_left f g
left_plan_by Early b f g = short_left f g

-- the plan of a residual
abbrev pub left_plan : Form → Form → NeedPlan
left_plan f g = left_plan_by (tail_of f) (tail_of g) f g

-- the canonical form of the residual
abbrev pub form_left : Form → Form → Form
form_left f g = form_by (residual_at f g) (left_plan f g)

-- ---- the star

-- whether the ratio v / c is the greater one; the first to be found may have an equal ratio
abbrev pub beats : Anchor → ℕ → ℤ → Bool
beats a c v = cond a.found (int_lt (times c a.value) (times a.shift v)) (not (int_lt (times a.shift v) (times c a.value)))

-- the anchor after one more part
abbrev pub anchor_step : Anchor → ℕ → Date → Anchor
anchor_step a c Early = a
anchor_step a c (At v) = cond (beats a c v) (record { found = true; shift = c; value = v }) a
anchor_step a c Never = a

-- the anchor among the parts 1 to m
abbrev pub anchor_upto : Form → ℕ → Anchor
anchor_upto f zero = record { found = false; shift = f.period; value = f.step }
anchor_upto f (suc m) = anchor_step (anchor_upto f m) (suc m) (value_at f (suc m))

-- the anchor among the parts 1 to N - 1
abbrev pub anchor_of : Form → Anchor
anchor_of f = anchor_upto f (size_of f - 1)

-- a number, 0 where it is below 0
abbrev pub natural_of : ℤ → ℕ
natural_of (pos n) = n
natural_of (negsuc n) = 0

-- what the part c loses against steps
abbrev pub loss_of_part : Form → ℕ → ℤ
loss_of_part f c = gap (scaled f.period (value_at f c)) (At (times c f.step))

-- W, the greatest loss of one part of the tail, 0 where it is below 0
abbrev pub worst_loss : Form → ℕ
worst_loss f = natural_of (greatest_int (λ i. loss_of_part f (repeat_start f + i)) (f.period - 1))

-- the plan by the anchor if there is one, else past the greatest loss by the period
abbrev pub anchored_plan : Anchor → Form → NeedPlan
anchored_plan a f = cond a.found
    (plan (a.shift * size_of f + 1) a.shift)
    (plan (size_of f * max (f.period + 1) (worst_loss f) + 1) f.period)

-- the plan of the star by the tail
abbrev pub own_plan_by : Date → Form → NeedPlan
own_plan_by Early f = plan 0 1
own_plan_by (At t) f = anchored_plan (anchor_of f) f
own_plan_by Never f = plan (size_of f) 1

-- the plan of the star of a form that is at least 0 from shift 1 on
abbrev pub own_plan : Form → NeedPlan
own_plan f = own_plan_by (tail_of f) f

-- the monomial of shift 1 and date 0
abbrev pub one_shift : Form
one_shift = record { values = Early ∷ At (pos 0) ∷ []; period = 1; step = pos 0 }

-- the plan with at least this need
abbrev pub at_least : ℕ → NeedPlan → NeedPlan
at_least need r = plan (max r.from (need - r.turn)) r.turn

-- the plan of the star of a form whose first value is not above 0
abbrev pub star_plan : Form → NeedPlan
star_plan f = at_least (need_of (sum_plan f one_shift)) (own_plan (form_sum f one_shift))

-- the plan of a star by the first value: 1 value where it is above 0
abbrev pub star_plan_by : Date → Form → NeedPlan
star_plan_by Early f = star_plan f
star_plan_by (At (pos zero)) f = star_plan f
star_plan_by (At (pos (suc n))) f = plan 0 1
star_plan_by (At (negsuc n)) f = star_plan f
star_plan_by Never f = plan 0 1

-- the number that TooLong carries where the first value is not above 0
abbrev pub carried_of : Form → ℕ
carried_of f = cond (ltb 20000 (need_of (sum_plan f one_shift))) (need_of (sum_plan f one_shift)) (need_of (star_plan f))

-- the need of a star
abbrev pub star_need : Form → ℕ
star_need f = need_of (star_plan_by (value_at f 0) f)

-- the number that a star's TooLong carries: the need of the sum with the monomial of shift 1 and date 0 where that is
-- too great itself
abbrev pub star_carried_by : Date → Form → ℕ
star_carried_by Early f = carried_of f
star_carried_by (At (pos zero)) f = carried_of f
star_carried_by (At (pos (suc n))) f = 1
star_carried_by (At (negsuc n)) f = carried_of f
star_carried_by Never f = 1

-- the number that TooLong carries
abbrev pub star_carried : Form → ℕ
star_carried f = star_carried_by (value_at f 0) f

-- the canonical form of the star
abbrev pub form_star : Form → Form
form_star f = form_by (star_at (value_at f)) (star_plan_by (value_at f 0) f)
