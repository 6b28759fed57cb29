-- Working definitions of what the first 10,000 rows of a least dating tell of transitions that go on by periods of their own.
use Rattle.std.specs.Prelude.{ℕ, ℤ, pos, ◌+◌, ◌-◌, ◌*ℤ◌, ◌+ℤ◌, ◌-ℤ◌, ◌^◌, ◌<◌, ◌≤◌, ◌≤ℤ◌, ◌≡◌, ◌⊎◌, List, length, get_or, All}
use Rattle.std.specs.Int.{◌∣◌}
use Rattle.std.proofs.Props.{props}
use Rattle.std.specs.Int.RustNames.{unsigned_abs}
use Rattle.dioid.specs.declared.dates.Date.{Date}
use Rattle.dioid.specs.declared.dates.Date.TheVariants.{Early, At, Never}
use Rattle.teg_net.specs.declared.entries.Place.{Place}
use Rattle.teg_net.specs.Circuits.{no_place}
use Rattle.teg_net.specs.Nets.{NetLists}
use Rattle.date_rows.specs.DateTables.{TableDates, date_at}
use Rattle.own_period_laws.specs.OwnPeriods.{Meets, place_worth}
use Rattle.own_periods.specs.declared.periods.OwnPeriod.{OwnPeriod}

-- the number of a date
abbrev pub instant_of : Date → ℤ
instant_of Early = pos 0
instant_of (At z) = z
instant_of Never = pos 0

-- that of transition t and number k
abbrev pub instant_at : TableDates → ℕ → ℕ → ℤ
instant_at rows t k = instant_of (date_at rows t k)

-- the date is a number from 0 to 2^80
pub record IsShort (d : Date) : Type 0 where
  pub is : d ≡ At (instant_of d)
  pub small : unsigned_abs (instant_of d) ≤ 2 ^ 80

-- 10,000 rows of such dates
pub record AreShortRows (rows : TableDates) : Type 0 where
  pub count : rows.count ≡ 10000
  pub short : (t k : ℕ) → t < rows.width → 1 ≤ k → k ≤ 10000 → IsShort (date_at rows t k)

IsShort-prop : (d : Date) → IsProp (IsShort d)
IsShort-prop Early = hlevel props
IsShort-prop (At x) = hlevel props
IsShort-prop Never = hlevel props

-- which has one proof at most
pub AreShortRows-prop : (rows : TableDates) → IsProp (AreShortRows rows)
AreShortRows-prop rows = hlevel (props, IsShort-prop)

-- ---- periods

-- the step leads from the date of the number to that a period later
abbrev pub IsMoved : TableDates → ℕ → ℕ → ℤ → ℕ → Type 0
IsMoved rows t period step k = instant_at rows t (k + period) ≡ instant_at rows t k +ℤ step

-- and so at all numbers past 4,000, as far as the rows go
abbrev pub AreMoved : TableDates → ℕ → ℕ → ℤ → Type 0
AreMoved rows t period step = (k : ℕ) → 4000 < k → k + period ≤ 10000 → IsMoved rows t period step k

-- the step of the first of them
abbrev pub first_step : TableDates → ℕ → ℕ → ℤ
first_step rows t period = instant_at rows t (4001 + period) -ℤ instant_at rows t 4001

-- the least period after which the dates of the transition come again so
pub record IsOwn (rows : TableDates) (t : ℕ) (own : OwnPeriod) : Type 0 where
  pub one : 1 ≤ own.period
  pub few : own.period ≤ 4000
  pub small : unsigned_abs own.step ≤ 2 ^ 81
  pub again : AreMoved rows t own.period own.step
  pub first : (p : ℕ) → 1 ≤ p → p < own.period → AreMoved rows t p (first_step rows t p) → ⊥

-- no period
abbrev pub no_own : OwnPeriod
no_own = record { period = 0; step = pos 0 }

-- that of the transition
abbrev pub own_of : List OwnPeriod → ℕ → OwnPeriod
own_of owns t = get_or owns t no_own

-- one for each transition
pub record AreOwn (rows : TableDates) (owns : List OwnPeriod) : Type 0 where
  pub count : length owns ≡ rows.width
  pub each : (t : ℕ) → t < rows.width → IsOwn rows t (own_of owns t)

-- which has one proof at most
pub AreOwn-prop : (rows : TableDates) (owns : List OwnPeriod) → IsProp (AreOwn rows owns)
AreOwn-prop rows owns = hlevel props

-- the period of the transition
abbrev pub period_in : List OwnPeriod → ℕ → ℕ
period_in owns t = (own_of owns t).period

-- a pace within these limits
pub record IsPace (pace : OwnPeriod) : Type 0 where
  pub one : 1 ≤ pace.period
  pub few : pace.period ≤ 4000
  pub small : unsigned_abs pace.step ≤ 2 ^ 81

-- the period goes on at the pace of this one
abbrev pub IsAtPace : OwnPeriod → OwnPeriod → Type 0
IsAtPace pace own = pos pace.period *ℤ own.step ≡ pos own.period *ℤ pace.step

-- the place leads between transitions of the rows, and has no more tokens and holds no longer than a net allows
pub record IsPlaceIn (rows : TableDates) (p : Place) : Type 0 where
  pub start : p.from.index < rows.width
  pub end : p.to.index < rows.width
  pub hold : p.hold ≤ 1000000000
  pub tokens : p.tokens ≤ 1000

-- ---- slack

-- what the date of number a past 5,000, from 0 on, is worth at the pace
abbrev pub worth_past : TableDates → OwnPeriod → ℕ → ℕ → ℤ
worth_past rows pace t a = (pos pace.period *ℤ instant_at rows t (5001 + a)) -ℤ (pos (5001 + a) *ℤ pace.step)

-- there the token of the place is there in time
abbrev pub IsInTime : TableDates → OwnPeriod → Place → ℕ → ℕ → Type 0
IsInTime rows pace p a b = (worth_past rows pace p.from.index b +ℤ place_worth pace.period pace.step p) ≤ℤ worth_past rows pace p.to.index a

-- wherever numbers of the two ends of the place meet, it keeps its slack
abbrev pub KeepsOwnSlack : TableDates → OwnPeriod → List OwnPeriod → Place → Type 0
KeepsOwnSlack rows pace owns p = (a b : ℕ) → Meets (period_in owns) p a b → IsInTime rows pace p a b

-- ---- firings that are met

-- the place leads to the transition from one whose period divides its own
pub record LeadsIn (net : NetLists) (owns : List OwnPeriod) (t i : ℕ) : Type 0 where
  pub within : i < length net.places
  pub ends : (get_or net.places i no_place).to.index ≡ t
  pub divides : period_in owns (get_or net.places i no_place).from.index ∣ period_in owns t

-- the firing of number k comes with the token of the place
abbrev pub ComesWith : TableDates → Place → ℕ → ℕ → Type 0
ComesWith rows p t k = instant_at rows t k ≡ instant_at rows p.from.index (k - p.tokens) +ℤ pos p.hold

-- it comes with the one before, or with the token of such a place
abbrev pub IsMetIn : NetLists → TableDates → List OwnPeriod → ℕ → ℕ → Type 0
IsMetIn net rows owns t k = (instant_at rows t k ≡ instant_at rows t (k - 1)) ⊎ ((i : ℕ) × LeadsIn net owns t i × ComesWith rows (get_or net.places i no_place) t k)

-- and so in a period past 5,000
abbrev pub AreMetIn : NetLists → TableDates → List OwnPeriod → ℕ → ℕ → Type 0
AreMetIn net rows owns t period = (a : ℕ) → a < period → IsMetIn net rows owns t (5001 + a)

-- all go on at the pace, each place keeps its slack, and each firing of a period is met
pub record GoOnInRows (net : NetLists) (rows : TableDates) (pace : OwnPeriod) (owns : List OwnPeriod) : Type 0 where
  pub at_pace : All (IsAtPace pace) owns
  pub slack : All (KeepsOwnSlack rows pace owns) net.places
  pub met : (t : ℕ) → t < rows.width → AreMetIn net rows owns t (period_in owns t)

-- ---- where they begin

-- past this number and up to 4,000 the dates of the transition go on so, and not from it
pub record IsStart (rows : TableDates) (t : ℕ) (own : OwnPeriod) (after : ℕ) : Type 0 where
  pub few : after ≤ 4000
  pub moved : (k : ℕ) → after < k → k ≤ 4000 → IsMoved rows t own.period own.step k
  pub first : 1 ≤ after → IsMoved rows t own.period own.step after → ⊥

-- past this number and up to 4,000 those of the first `count` transitions do, and those of some do not from it
pub record IsLatestStart (rows : TableDates) (owns : List OwnPeriod) (count after : ℕ) : Type 0 where
  pub few : after ≤ 4000
  pub moved : (t k : ℕ) → t < count → after < k → k ≤ 4000 → IsMoved rows t (period_in owns t) (own_of owns t).step k
  pub first : 1 ≤ after → (t : ℕ) × (t < count) × (IsMoved rows t (period_in owns t) (own_of owns t).step after → ⊥)

-- ---- the period of all

-- the least common multiple of two numbers
pub record IsLeastMultiple (a b whole : ℕ) : Type 0 where
  pub some : 1 ≤ whole
  pub first : a ∣ whole
  pub second : b ∣ whole
  pub least : (m : ℕ) → a ∣ m → b ∣ m → whole ∣ m
