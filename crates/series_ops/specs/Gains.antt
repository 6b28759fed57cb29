-- The operations of the model on gains.
use Rattle.series_laws.specs.SeriesForms.{Form, IsCanonical, early_form, zero_form, value_at}
use Rattle.series_laws.specs.Needs.{need_of, sum_plan, least_plan, form_sum, form_least}
use Rattle.series_laws.specs.ProductNeeds.{product_plan, star_plan_by, left_plan, form_product, form_star, form_left}
use Rattle.series_form.specs.SeriesAnswers.{Fits}
use Rattle.series_ops.specs.declared.gains.Gain.{Gain}

-- the gain of a form
abbrev pub gain_of : Form → Gain
gain_of f = record { series = f }

-- the form of the gain is canonical
abbrev pub IsCanonicalGain : Gain → Type 0
IsCanonicalGain g = IsCanonical g.series

-- Early everywhere
abbrev pub gain_zero : Gain
gain_zero = gain_of early_form

-- 0 everywhere
abbrev pub gain_one : Gain
gain_one = gain_of zero_form

-- the sum
abbrev pub gain_sum : Gain → Gain → Gain
gain_sum a b = gain_of (form_sum a.series b.series)

-- the product
abbrev pub gain_product : Gain → Gain → Gain
gain_product a b = gain_of (form_product a.series b.series)

-- the star
abbrev pub gain_star : Gain → Gain
gain_star a = gain_of (form_star a.series)

-- the residual of the second by the first
abbrev pub gain_left : Gain → Gain → Gain
gain_left a b = gain_of (form_left a.series b.series)

-- the minimum
abbrev pub gain_meet : Gain → Gain → Gain
gain_meet a b = gain_of (form_least a.series b.series)

-- the need and the numbers of the sum are within the bounds of a series
abbrev pub GainSumFits : Gain → Gain → Type 0
GainSumFits a b = Fits (need_of (sum_plan a.series b.series)) (form_sum a.series b.series)

-- the need and the numbers of the product are within the bounds of a series
abbrev pub ProductFits : Gain → Gain → Type 0
ProductFits a b = Fits (need_of (product_plan a.series b.series)) (form_product a.series b.series)

-- the need and the numbers of the star are within the bounds of a series
abbrev pub StarFits : Gain → Type 0
StarFits a = Fits (need_of (star_plan_by (value_at a.series 0) a.series)) (form_star a.series)

-- the need and the numbers of the residual are within the bounds of a series
abbrev pub LeftFits : Gain → Gain → Type 0
LeftFits a b = Fits (need_of (left_plan a.series b.series)) (form_left a.series b.series)

-- the need and the numbers of the minimum are within the bounds of a series
abbrev pub MeetFits : Gain → Gain → Type 0
MeetFits a b = Fits (need_of (least_plan a.series b.series)) (form_least a.series b.series)
