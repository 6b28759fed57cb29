-- How the latest of dates that go on by steps goes on (chapter 3).
use Rattle.std.specs.Prelude.{ℕ, ℤ, pos, ◌+◌, ◌*◌, ◌*ℤ◌, ◌<◌, ◌≤◌, ◌≤ℤ◌, ◌≡◌}
use Rattle.dioid.specs.declared.dates.Date.{Date}
use Rattle.dioid.specs.Dates.{move}
use Rattle.teg_net.specs.declared.entries.Place.{Place}
use Rattle.teg_net.specs.declared.entries.PlaceId.{PlaceId}
use Rattle.teg_net.specs.Circuits.{place_at}
use Rattle.teg_net.specs.Nets.{NetLists}
use Rattle.own_period_laws.specs.OwnPeriods.{GoesOn}
use Rattle.end_laws.specs.Ends.{IsLatestBy, Leaves, date_by}

-- past `after` the dates by each place that leaves u go on by a step in each period, at most by this one
abbrev pub GoOnWithin : NetLists → ℕ → (ℕ → ℕ → ℕ → Date) → ℕ → ℕ → ℕ → ℤ → Type 0
GoOnWithin net u z t after period most =
    (p : PlaceId) → Leaves net u p → (step : ℤ) × GoesOn (date_by z (place_at net p) t) after period step × (step ≤ℤ most)

-- where the latest of them goes on by the greatest step for one period, it does so for ever
abbrev pub LatestGoesOn : Type 0
LatestGoesOn = (net : NetLists) (u t : ℕ) (z : ℕ → ℕ → ℕ → Date) (dates : ℕ → Date) → ((k : ℕ) → 1 ≤ k → IsLatestBy net u z t k (dates k))
    → (after period : ℕ) (most : ℤ) → 1 ≤ period → GoOnWithin net u z t after period most
    → (from : ℕ) → after ≤ from → ((k : ℕ) → from < k → k ≤ from + period → dates (k + period) ≡ move most (dates k))
    → GoesOn dates from period most

-- the dates by a place go on as those from its end, as many numbers on as it has tokens
abbrev pub DatesByPlacesGoOn : Type 0
DatesByPlacesGoOn = (z : ℕ → ℕ → ℕ → Date) (p : Place) (t after period : ℕ) (step : ℤ) → GoesOn (z p.to.index t) after period step
    → GoesOn (date_by z p t) (after + p.tokens) period step
