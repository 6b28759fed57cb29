-- A job that takes longer in all places that begin with it (chapters 2 and 3).
use Rattle.std.specs.Prelude.{ℕ, ◌+◌, ◌<◌, ◌≤◌, ◌≡◌, ◌↔◌, length}
use Rattle.teg_model.specs.teg_net.declared.entries.PlaceId.{PlaceId}
use Rattle.teg_model.specs.teg_net.Nets.{NetLists}
use Rattle.teg_model.specs.teg_net.Ratios.{Fraction}
use Rattle.teg_model.specs.teg_net.Circuits.{place_at, from_of}
use Rattle.teg_model.specs.teg_net.Parts.{to_of}
use Rattle.teg_model.specs.teg_net.GreatestRatios.{IsGreatestRatio, IsAnyPlace}
use Rattle.teg_critical.specs.Slacks.{raised}

-- the place of this number holds so much longer in the second net
pub record IsLongerBy (net longer : NetLists) (p : PlaceId) (more : ℕ) : Type 0 where
  pub from : from_of longer p ≡ from_of net p
  pub to : to_of longer p ≡ to_of net p
  pub tokens : (place_at longer p).tokens ≡ (place_at net p).tokens
  pub hold : (place_at longer p).hold ≡ (place_at net p).hold + more

-- the second net has as many places, each longer by so much, and only those longer that begin at the job's transition
pub record IsLongerJob (net longer : NetLists) (job : ℕ) (more : ℕ → ℕ) : Type 0 where
  pub count : length longer.places ≡ length net.places
  pub each : (p : PlaceId) → p.index < length net.places → IsLongerBy net longer p (more p.index)
  pub of_job : (p : PlaceId) → p.index < length net.places → 1 ≤ more p.index → from_of net p ≡ job

-- a rise of the place's hold by as much, or by more, leaves the greatest ratio as it is
abbrev pub IsWithinSlack : NetLists → Fraction → PlaceId → ℕ → Type 0
IsWithinSlack net r p more = (d : ℕ) × (more ≤ d) × IsGreatestRatio (raised net p d) IsAnyPlace r

-- where the places of a job take longer, the greatest ratio stays as it is just where each of them is longer by at most its slack
abbrev pub JobsMayTakeLonger : Type 0
JobsMayTakeLonger = (net longer : NetLists) (r : Fraction) (job : ℕ) (more : ℕ → ℕ) → IsLongerJob net longer job more → IsGreatestRatio net IsAnyPlace r
    → ((p : PlaceId) → p.index < length net.places → 1 ≤ more p.index → IsWithinSlack net r p (more p.index)) ↔ IsGreatestRatio longer IsAnyPlace r
