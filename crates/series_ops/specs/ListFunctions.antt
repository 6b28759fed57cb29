-- Working definitions of lists as functions, and of a list without its last value.
use Rattle.std.specs.Prelude.{◌≡◌, ◌≤◌, ◌<◌, ◌-◌, ℕ, suc, List, length, get_or, take}
use Rattle.std.proofs.Props.{props}
use Rattle.std.specs.Int.RustNames.{unsigned_abs}
use Rattle.dioid.specs.declared.dates.Date.{Date}
use Rattle.dioid.specs.declared.dates.Date.TheVariants.{Early, At, Never}
use Rattle.series_laws.specs.declared.plans.Anchor.{Anchor}
use Rattle.series_form.specs.NumberBounds.{IsMagnitudeUpTo}
use Rattle.series_form.specs.SeriesLimits.{greatest_part_value}

-- the function of a list, Early past it
abbrev pub value_listed : List Date → ℕ → Date
value_listed l k = get_or l k Early

-- each number of the list has a magnitude of at most n
abbrev pub AreUpTo : ℕ → List Date → Type 0
AreUpTo n l = (k : ℕ) → IsMagnitudeUpTo n (get_or l k Early)

magnitude_once : (n : ℕ) (d : Date) → IsProp (IsMagnitudeUpTo n d)
magnitude_once n Early = hlevel props
magnitude_once n (At t) = hlevel props
magnitude_once n Never = hlevel props

-- which has one proof at most
pub AreUpTo-prop : (n : ℕ) (l : List Date) → IsProp (AreUpTo n l)
AreUpTo-prop n l = hlevel (props, magnitude_once)

-- the first n values are Early
abbrev pub AreEarlyTo : ℕ → List Date → Type 0
AreEarlyTo n l = (k : ℕ) → k < n → get_or l k Early ≡ Early

-- the list without its last value
abbrev pub all_but_last : List Date → List Date
all_but_last l = take (length l - 1) l

-- the last value of the list
abbrev pub last_value : List Date → Date
last_value l = get_or l (length l - 1) Early

-- the date is a number
abbrev pub IsNumberDate : Date → Type 0
IsNumberDate Early = ⊥
IsNumberDate (At t) = Unit {0}
IsNumberDate Never = ⊥

-- the values from shift 1 on
abbrev pub later_part : (ℕ → Date) → ℕ → Date
later_part s k = s (suc k)

-- the bounds of an anchor
pub record IsModest (a : Anchor) : Type 0 where
  pub shift : a.shift ≤ 20000
  pub value : unsigned_abs a.value ≤ greatest_part_value
