-- How many further tokens of a place are enough for a target ratio, and what shows it (chapters 2 and 3).
use Rattle.std.specs.Prelude.{ℕ, ℤ, pos, ◌+◌, ◌-◌, ◌*◌, ◌<◌, ◌≤◌, ◌≡◌, ◌⊎◌, ◌==◌, ◌+ℤ◌, ◌-ℤ◌, ◌≤ℤ◌, if◌then◌else◌, List, length, All, Contains, slice_index_or}
use Rattle.teg_net.specs.declared.entries.PlaceId.{PlaceId}
use Rattle.teg_net.specs.declared.entries.Place.{Place}
use Rattle.teg_net.specs.Limits.{greatest_checked_potential}
use Rattle.teg_net.specs.Nets.{NetLists}
use Rattle.teg_net.specs.Ratios.{Fraction, IsRatioWithin}
use Rattle.teg_net.specs.Circuits.{place_at, IsCircuit, BeginsLowest, time_of, tokens_of}
use Rattle.teg_net.specs.ReducedTimes.{IsMagnitudeWithin}

-- no circuit that avoids the place is above the target
abbrev pub OthersKeepTarget : NetLists → Fraction → PlaceId → Type 0
OthersKeepTarget net r p = (ps : List PlaceId) → IsCircuit net ps → (Contains ps p → ⊥) → time_of net ps * r.tokens ≤ r.time * tokens_of net ps

-- with d further tokens of the place no circuit is above the target: time over tokens is at most it, where a circuit that passes
-- the place has d tokens more
pub record IsEnough (net : NetLists) (r : Fraction) (p : PlaceId) (d : ℕ) : Type 0 where
  pub passing : (ps : List PlaceId) → IsCircuit net ps → Contains ps p → time_of net ps * r.tokens ≤ r.time * (tokens_of net ps + d)
  pub others : OthersKeepTarget net r p

-- the least number that is enough, above 0, and a circuit that passes the place and with one token less is above the target
pub record IsFewest (net : NetLists) (r : Fraction) (p : PlaceId) (extra : ℕ) (ps : List PlaceId) : Type 0 where
  pub some : 1 ≤ extra
  pub enough : IsEnough net r p extra
  pub least : (d : ℕ) → IsEnough net r p d → extra ≤ d
  pub circuit : IsCircuit net ps
  pub lowest : BeginsLowest net ps
  pub passes : Contains ps p
  pub one_less : r.time * (tokens_of net ps + (extra - 1)) < time_of net ps * r.tokens

-- no number is enough, for the sake of a circuit above the target: one that avoids the place or, where no such circuit is above it, one
-- that stands against a target of 0
pub record IsNeverEnough (net : NetLists) (r : Fraction) (p : PlaceId) (ps : List PlaceId) : Type 0 where
  pub none : (d : ℕ) → IsEnough net r p d → ⊥
  pub circuit : IsCircuit net ps
  pub lowest : BeginsLowest net ps
  pub above : r.time * tokens_of net ps < time_of net ps * r.tokens
  pub by : (Contains ps p → ⊥) ⊎ ((r.time ≡ 0) × OthersKeepTarget net r p)

-- a circuit that passes the place and is above the target though the place has so many further tokens
pub record IsStillAbove (net : NetLists) (r : Fraction) (p : PlaceId) (extra : ℕ) (ps : List PlaceId) : Type 0 where
  pub circuit : IsCircuit net ps
  pub passes : Contains ps p
  pub above : r.time * (tokens_of net ps + extra) < time_of net ps * r.tokens

-- a circuit above the target that further tokens of the place do not help: it avoids the place, or the target is 0
pub record IsAlwaysAbove (net : NetLists) (r : Fraction) (p : PlaceId) (ps : List PlaceId) : Type 0 where
  pub circuit : IsCircuit net ps
  pub above : r.time * tokens_of net ps < time_of net ps * r.tokens
  pub by : (Contains ps p → ⊥) ⊎ (r.time ≡ 0)

-- the further tokens of place q where place p has so many
abbrev pub extra_at : PlaceId → ℕ → PlaceId → ℕ
extra_at p extra q = if q.index == p.index then extra else 0

-- the place, with so many further tokens, does not lift its end above the potential there
abbrev pub LiftsNone : Fraction → List ℤ → ℕ → Place → Type 0
LiftsNone r vs extra place =
    ((pos (r.tokens * place.hold) -ℤ pos (r.time * (place.tokens + extra))) +ℤ slice_index_or vs place.from.index (pos 0)) ≤ℤ slice_index_or vs place.to.index (pos 0)

-- potentials, one for each transition, above which no place lifts its end where place p has so many further tokens, within limits
pub record AreTargetPotentials (net : NetLists) (r : Fraction) (p : PlaceId) (extra : ℕ) (vs : List ℤ) : Type 0 where
  pub limits : IsRatioWithin r
  pub count : length vs ≡ length net.transitions
  pub within : All (IsMagnitudeWithin greatest_checked_potential) vs
  pub kept : (q : PlaceId) → q.index < length net.places → LiftsNone r vs (extra_at p extra q) (place_at net q)

-- where a circuit is still above the target, what is enough is more
abbrev pub StillAboveShowsMore : Type 0
StillAboveShowsMore =
    (net : NetLists) (r : Fraction) (p : PlaceId) (extra : ℕ) (ps : List PlaceId) → IsStillAbove net r p extra ps
    → (d : ℕ) → IsEnough net r p d → extra < d

-- the circuit of the least number that is enough shows that one less is too few
abbrev pub FewestAreShown : Type 0
FewestAreShown =
    (net : NetLists) (r : Fraction) (p : PlaceId) (extra : ℕ) (ps : List PlaceId) → IsFewest net r p extra ps → IsStillAbove net r p (extra - 1) ps

-- where a circuit is always above the target, no number is enough
abbrev pub AlwaysAboveShowsNone : Type 0
AlwaysAboveShowsNone =
    (net : NetLists) (r : Fraction) (p : PlaceId) (ps : List PlaceId) → IsAlwaysAbove net r p ps → (d : ℕ) → IsEnough net r p d → ⊥

-- the circuit for whose sake no number is enough shows it
abbrev pub NeverEnoughIsShown : Type 0
NeverEnoughIsShown = (net : NetLists) (r : Fraction) (p : PlaceId) (ps : List PlaceId) → IsNeverEnough net r p ps → IsAlwaysAbove net r p ps

-- such potentials show that the number is enough
abbrev pub TargetPotentialsShowEnough : Type 0
TargetPotentialsShowEnough =
    (net : NetLists) (r : Fraction) (p : PlaceId) (extra : ℕ) (vs : List ℤ) → AreTargetPotentials net r p extra vs → IsEnough net r p extra
