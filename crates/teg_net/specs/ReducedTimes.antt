-- Reduced times of places and paths at a ratio, and the greatest ones of paths of a part (chapter 3).
use Rattle.std.specs.Prelude.{ℕ, ℤ, pos, ◌*◌, ◌≡◌, ◌+ℤ◌, ◌-ℤ◌, ◌≤ℤ◌, List, [], ◌∷◌, All}
use Rattle.teg_net.specs.declared.entries.PlaceId.{PlaceId}
use Rattle.teg_net.specs.declared.entries.Place.{Place}
use Rattle.teg_net.specs.Nets.{NetLists}
use Rattle.teg_net.specs.Circuits.{place_at, IsPathBetween}
use Rattle.teg_net.specs.Parts.{IsPlaceOfPart}
use Rattle.teg_net.specs.Ratios.{Fraction}

-- the reduced time of a place at a ratio: the ratio's tokens times its holding time, less the ratio's time times its tokens
abbrev pub reduced_time_of_place : Fraction → Place → ℤ
reduced_time_of_place r p = pos (r.tokens * p.hold) -ℤ pos (r.time * p.tokens)

-- the reduced time of the place of this number at the ratio a / b: b times its holding time, less a times its tokens
abbrev pub reduced_time : NetLists → ℕ → ℕ → PlaceId → ℤ
reduced_time net a b p = pos (b * (place_at net p).hold) -ℤ pos (a * (place_at net p).tokens)

-- the reduced time of a path: what its places have together
abbrev pub reduced_time_of : NetLists → ℕ → ℕ → List PlaceId → ℤ
reduced_time_of net a b [] = pos 0
reduced_time_of net a b (p ∷ ps) = reduced_time net a b p +ℤ reduced_time_of net a b ps

-- the greatest reduced time of the paths in the part from transition s to transition t
pub record IsGreatestPathTime (net : NetLists) (part_of : List ℕ) (part a b s t : ℕ) (z : ℤ) : Type 0 where
  pub attained : (ps : List PlaceId) × IsPathBetween net s ps t × All (IsPlaceOfPart net part_of part) ps × (z ≡ reduced_time_of net a b ps)
  pub greatest : (ps : List PlaceId) → IsPathBetween net s ps t → All (IsPlaceOfPart net part_of part) ps → reduced_time_of net a b ps ≤ℤ z

-- a magnitude of at most the bound
pub record IsMagnitudeWithin (bound : ℕ) (z : ℤ) : Type 0 where
  pub low : pos 0 ≤ℤ (z +ℤ pos bound)
  pub high : z ≤ℤ pos bound
