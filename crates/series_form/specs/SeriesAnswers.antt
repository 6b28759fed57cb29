-- What a call on series answers.
use Rattle.std.specs.Prelude.{◌≡◌, ◌≤◌, ◌<◌, ◌-◌, ◌⊎◌, ℕ, ℤ, pos, Result, Ok, Err, Option, Some, None, List, [], ◌∷◌, length, get_or}
use Rattle.std.specs.Int.RustNames.{unsigned_abs}
use Rattle.dioid.specs.declared.dates.Date.{Date}
use Rattle.dioid.specs.declared.dates.Date.TheVariants.{Early, At}
use Rattle.series_form.specs.declared.forms.SeriesRefused.{SeriesRefused}
use Rattle.series_form.specs.declared.forms.SeriesRefused.TheVariants.{TooLong, TooGreat, OutOfMemory}
use Rattle.series_laws.specs.SeriesForms.{Form, form_with, value_at, gap, HasValues, IsCanonical}
use Rattle.series_form.specs.NumberBounds.{IsSmallDate, IsModerateDate, IsModerate, HasSmallNumbers, IsSeries}
use Rattle.series_laws.specs.Periodic.{Rising}
use Rattle.series_form.specs.SeriesLimits.{greatest_value}

-- v is the first value that is too great
pub record IsFirstGreatValue (f : Form) (v : ℤ) : Type 0 where
  pub place : ℕ
  pub value : get_or f.values place Early ≡ At v
  pub great : greatest_value < unsigned_abs v
  pub before : (k : ℕ) → k < place → IsSmallDate (get_or f.values k Early)

-- no value is too great, and the step is v and too great
pub record IsGreatStep (f : Form) (v : ℤ) : Type 0 where
  pub values : (k : ℕ) → IsSmallDate (get_or f.values k Early)
  pub value : f.step ≡ v
  pub great : greatest_value < unsigned_abs v

-- v is the first number that is too great in the canonical form of which `is` holds: values by shift, the step last
pub record IsGreatIn (is : Form → Type 0) (v : ℤ) : Type 0 where
  pub form : Form
  pub canonical : IsCanonical form
  pub values : is form
  pub number : IsFirstGreatValue form v ⊎ IsGreatStep form v

-- the series of which `is` holds; TooLong exactly where the need is too great, with the number that is carried;
-- where not, TooGreat exactly where the canonical form has a number that is too great, with the first
abbrev pub AnswersOf : (Form → Type 0) → ℕ → ℕ → Result Form SeriesRefused → Type 0
AnswersOf is need carried (Ok r) = IsSeries r × is r × (need ≤ 20000)
AnswersOf is need carried (Err (TooLong n)) = (20000 < need) × (n ≡ carried)
AnswersOf is need carried (Err (TooGreat v)) = (need ≤ 20000) × IsGreatIn is v
AnswersOf is need carried (Err OutOfMemory) = Unit {0}

-- the series of the function, or the first number of its canonical form that is too great
abbrev pub IsShortestSeries : (ℕ → Date) → Result Form SeriesRefused → Type 0
IsShortestSeries s (Ok r) = IsSeries r × HasValues r s
IsShortestSeries s (Err (TooLong n)) = ⊥
IsShortestSeries s (Err (TooGreat v)) = IsGreatIn (λ r. HasValues r s) v
IsShortestSeries s (Err OutOfMemory) = ⊥

-- the series with the one value everywhere, or want of memory
abbrev pub IsConstant : Date → Result Form SeriesRefused → Type 0
IsConstant date (Ok r) = (r ≡ form_with (date ∷ []) 1 (pos 0)) × IsSeries r
IsConstant date (Err (TooLong n)) = ⊥
IsConstant date (Err (TooGreat v)) = ⊥
IsConstant date (Err OutOfMemory) = Unit {0}

-- the form of a list whose last n values are the period, and the value after it
abbrev pub form_before : List Date → ℕ → Date → Form
form_before l n next = form_with l n (gap (get_or l (length l - n) Early) next)

-- a list whose last n values are a period, and the value after it, as `shortest` takes them: with the step that the two
-- give, the function never falls and has the value after the list
pub record IsBeginning (l : List Date) (n : ℕ) (next : Date) : Type 0 where
  pub positive : 0 < n
  pub fits : n ≤ length l
  pub short : length l ≤ 20000
  pub moderate : IsModerate (form_before l n next)
  pub moderate_next : IsModerateDate next
  pub rising : Rising (value_at (form_before l n next))
  pub goes_on : value_at (form_before l n next) (length l) ≡ next

-- ---- the model

-- the need and each number are within the bounds
pub record Fits (need : ℕ) (f : Form) : Type 0 where
  pub short : need ≤ 20000
  pub small : HasSmallNumbers f

-- the form, where it fits
abbrev pub AnswersForm : ℕ → Form → Result Form SeriesRefused → Type 0
AnswersForm need f (Ok s) = (s ≡ f) × Fits need f
AnswersForm need f (Err (TooLong n)) = 20000 < need
AnswersForm need f (Err (TooGreat v)) = (need ≤ 20000) × (IsFirstGreatValue f v ⊎ IsGreatStep f v)
AnswersForm need f (Err OutOfMemory) = Unit {0}

-- ---- the search for a number that is too great

-- v is the first of the first n values that is too great
pub record IsFirstGreat (l : List Date) (n : ℕ) (v : ℤ) : Type 0 where
  pub place : ℕ
  pub within : place < n
  pub value : get_or l place Early ≡ At v
  pub great : greatest_value < unsigned_abs v
  pub before : (k : ℕ) → k < place → IsSmallDate (get_or l k Early)

-- the first of the first n values that is too great, or none of them is
abbrev pub IsNumberCheck : List Date → ℕ → Option ℤ → Type 0
IsNumberCheck l n (Some v) = IsFirstGreat l n v
IsNumberCheck l n None = (k : ℕ) → k < n → IsSmallDate (get_or l k Early)
