-- Working definitions of the search for potentials that show a number of further tokens to be enough.
use Rattle.std.specs.Prelude.{ℕ, ℤ, pos, ◌+◌, ◌*◌, ◌<◌, ◌≤◌, ◌≡◌, ◌+ℤ◌, ◌-ℤ◌, ◌≤ℤ◌, List, length, set, slice_index_or, sum_by}
use Rattle.teg_net.specs.declared.entries.Place.{Place}
use Rattle.teg_net.specs.declared.entries.PlaceId.{PlaceId}
use Rattle.teg_net.specs.Circuits.{IsPathBetween, place_at}
use Rattle.teg_net.specs.Limits.{greatest_checked_potential, greatest_target_time, most_target_tokens}
use Rattle.teg_net.specs.Nets.{NetLists}
use Rattle.teg_net.specs.Ratios.{Fraction}
use Rattle.teg_net.specs.ReducedTimes.{IsMagnitudeWithin}
use Rattle.teg_certificates.specs.Sizes.{extra_at}

-- the target keeps the limits of those that may be asked
pub record IsTarget (r : Fraction) : Type 0 where
  pub time : r.time ≤ greatest_target_time
  pub tokens : r.tokens ≤ most_target_tokens

-- what a path gains by the place: its hold times the tokens of the target
abbrev pub gain : NetLists → Fraction → PlaceId → ℕ
gain net r q = r.tokens * (place_at net q).hold

-- what the path pays for the place: its tokens times the time of the target, where place p has so many further tokens
abbrev pub cost : NetLists → Fraction → PlaceId → ℕ → PlaceId → ℕ
cost net r p extra q = r.time * ((place_at net q).tokens + extra_at p extra q)

-- what a path by the place leaves to the start of it, which has so many further tokens
abbrev pub left_over : Fraction → Place → ℕ → List ℤ → ℤ
left_over r place further us = (slice_index_or us place.to.index (pos 0) +ℤ pos (r.time * (place.tokens + further))) -ℤ pos (r.tokens * place.hold)

-- a path from the transition on pays just this and what it gains
pub record IsPathPotential (net : NetLists) (r : Fraction) (p : PlaceId) (extra t : ℕ) (u : ℤ) : Type 0 where
  pub end : ℕ
  pub places : List PlaceId
  pub end_in : end < length net.transitions
  pub path : IsPathBetween net t places end
  pub is : (u +ℤ pos (sum_by (gain net r) places)) ≡ pos (sum_by (cost net r p extra) places)

-- each path from the transition on with at most so many places pays this and what it gains, or more
abbrev pub IsLeastOfShort : NetLists → Fraction → PlaceId → ℕ → ℕ → ℕ → ℤ → Type 0
IsLeastOfShort net r p extra most t u =
    (ps : List PlaceId) (b : ℕ) → IsPathBetween net t ps b → length ps ≤ most → (u +ℤ pos (sum_by (gain net r) ps)) ≤ℤ pos (sum_by (cost net r p extra) ps)

-- such a potential for each transition, within limits, which all paths of at most so many places keep
pub record ArePathPotentials (net : NetLists) (r : Fraction) (p : PlaceId) (extra most : ℕ) (us : List ℤ) : Type 0 where
  pub count : length us ≡ length net.transitions
  pub within : (t : ℕ) → t < length net.transitions → IsMagnitudeWithin greatest_checked_potential (slice_index_or us t (pos 0))
  pub paths : (t : ℕ) → t < length net.transitions → IsPathPotential net r p extra t (slice_index_or us t (pos 0))
  pub least : (t : ℕ) → t < length net.transitions → IsLeastOfShort net r p extra most t (slice_index_or us t (pos 0))

-- the start of the place has what a path by the place leaves, which is less than before
pub record IsLowered (r : Fraction) (place : Place) (further : ℕ) (old new : List ℤ) : Type 0 where
  pub within : pos 0 ≤ℤ (left_over r place further old +ℤ pos greatest_checked_potential)
  pub less : left_over r place further old ≤ℤ slice_index_or old place.from.index (pos 0)
  pub lowered : new ≡ set old place.from.index (left_over r place further old)

-- the potentials stay, that of the start being at most what a path by the place leaves
pub record IsLowEnough (r : Fraction) (place : Place) (further : ℕ) (old new : List ℤ) : Type 0 where
  pub same : new ≡ old
  pub low : slice_index_or old place.from.index (pos 0) ≤ℤ left_over r place further old

-- what a path by the place leaves is past the limit
abbrev pub IsPastLimit : Fraction → Place → ℕ → List ℤ → Type 0
IsPastLimit r place further old = (left_over r place further old +ℤ pos (greatest_checked_potential + 1)) ≤ℤ pos 0
