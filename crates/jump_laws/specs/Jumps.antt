-- Windows in which dates move in each turn by steps of their residues, and for how many turns they go on so (chapter 3).
use Rattle.std.specs.Prelude.{ℕ, ℤ, pos, ◌+◌, ◌-◌, ◌*◌, ◌*ℤ◌, ◌+ℤ◌, ◌/◌, ◌↔◌, ◌<◌, ◌≤◌, ◌≤ℤ◌, ◌≡◌, ◌⊎◌, length, All}
use Rattle.dioid.specs.declared.dates.Date.{Date}
use Rattle.dioid.specs.declared.dates.Date.TheVariants.{Early, At, Never}
use Rattle.dioid.specs.Dates.{IsAtMostDate, move}
use Rattle.teg_net.specs.declared.entries.Place.{Place}
use Rattle.teg_net.specs.Nets.{NetLists, HasEndsInRange, IsInput}
use Rattle.teg_net.specs.Circuits.{IsLive}
use Rattle.teg_model.specs.Systems.{System, available, IsFeasibleIn, IsLeastIn}
use Rattle.teg_model.specs.LiveRanks.{HaveRanks}
use Rattle.settled_laws.specs.SettledForms.{RepeatsAfter}
use Rattle.teg_model.specs.Datings.{IsFeasibleUnder, IsLeastUnder, extended_places, available_at}

-- numbers a turn apart have one step
abbrev pub AreStepsOfResidues : ℕ → (ℕ → ℕ → ℤ) → Type 0
AreStepsOfResidues turn step = (t k : ℕ) → step t (k + turn) ≡ step t k

-- past `after` and up to `last` each date moves in a turn by the step of its number
abbrev pub MovesTo : (ℕ → Date) → ℕ → ℕ → ℕ → (ℕ → ℤ) → Type 0
MovesTo dates after turn last step = (k : ℕ) → after < k → k + turn ≤ last → dates (k + turn) ≡ move (step k) (dates k)

-- so do the dates of the first `count` transitions
abbrev pub MovesUpTo : ℕ → (ℕ → ℕ → Date) → ℕ → ℕ → ℕ → (ℕ → ℕ → ℤ) → Type 0
MovesUpTo count x after turn last step = (t : ℕ) → t < count → MovesTo (x t) after turn last (step t)

-- past `after` they do so for ever
abbrev pub MovesForEver : ℕ → (ℕ → ℕ → Date) → ℕ → ℕ → (ℕ → ℕ → ℤ) → Type 0
MovesForEver count x after turn step = (t : ℕ) → t < count → (k : ℕ) → after < k → x t (k + turn) ≡ move (step t k) (x t k)

-- moved by so many steps each, the first date, of the start of the place, is at most the second, of its end
abbrev pub IsInTimeAfter : ℕ → (ℕ → ℕ → ℤ) → Place → ℕ → Date → Date → Type 0
IsInTimeAfter turns step p k token date = IsAtMostDate (move (pos turns *ℤ step p.from.index (k - p.tokens)) token) (move (pos turns *ℤ step p.to.index k) date)

-- moved by so many paces and steps, the release is at most the date
abbrev pub IsReleasedAfter : ℕ → (ℕ → ℕ → ℤ) → (ℕ → ℕ → ℤ) → ℕ → ℕ → Date → Date → Type 0
IsReleasedAfter turns step pace t k release date = IsAtMostDate (move (pos turns *ℤ pace t k) release) (move (pos turns *ℤ step t k) date)

-- no step falls along the place at this number, unless from a token that is early or to a date that is never
abbrev pub NoneFallsAlong : (ℕ → ℕ → ℤ) → Place → ℕ → Date → Date → Type 0
NoneFallsAlong step p k token date = (token ≡ Early) ⊎ ((date ≡ Never) ⊎ (step p.from.index (k - p.tokens) ≤ℤ step p.to.index k))

-- ---- of a system

-- past `after` and up to `last` the dates move by the steps, with room for two turns and for the tokens of each place
pub record MovesInTurnsIn (s : System) (x : ℕ → ℕ → Date) (after turn last : ℕ) (step : ℕ → ℕ → ℤ) : Type 0 where
  pub at_least_one : 1 ≤ turn
  pub two_turns : after + turn + turn ≤ last
  pub tokens : All (λ p. after + p.tokens + turn + turn ≤ last) s.places
  pub residues : AreStepsOfResidues turn step
  pub moves : (t : ℕ) → MovesTo (x t) after turn last (step t)

-- so many turns on, the token of each place would be there in time at each number of the last turn
abbrev pub AreInTimeIn : ℕ → System → (ℕ → ℕ → Date) → ℕ → ℕ → (ℕ → ℕ → ℤ) → Type 0
AreInTimeIn turns s x turn last step = (k : ℕ) → last < k + turn → k ≤ last → All (λ p. IsInTimeAfter turns step p k (available s x p k) (x p.to.index k)) s.places

-- a window of turns after which so many more are free of overtakings: in its last two turns and in those the releases move by
-- paces of their residues, and so many turns on each would still be in time
pub record IsJumpIn (s : System) (x : ℕ → ℕ → Date) (after turn last turns : ℕ) (step pace : ℕ → ℕ → ℤ) : Type 0 where
  pub window : MovesInTurnsIn s x after turn last step
  pub in_time : AreInTimeIn turns s x turn last step
  pub paces : AreStepsOfResidues turn pace
  pub releases : (t : ℕ) → MovesTo (s.release t) (last - turn - turn) turn (last + turns * turn) (pace t)
  pub released : (t k : ℕ) → last < k + turn → k ≤ last → IsReleasedAfter turns step pace t k (s.release t k) (x t k)

-- where ranks rise along the places without tokens, the least dating of the system then moves by the steps for as many turns more
abbrev pub DatesJumpIn : Type 0
DatesJumpIn = (s : System) → HaveRanks s.places → (x : ℕ → ℕ → Date) → IsLeastIn s x
    → (after turn last turns : ℕ) (step pace : ℕ → ℕ → ℤ) → IsJumpIn s x after turn last turns step pace
    → (t : ℕ) → MovesTo (x t) after turn (last + turns * turn) (step t)

-- where a feasible dating moves by the steps for so many turns more, each token is there in time
abbrev pub JumpsEndAtOvertakingsIn : Type 0
JumpsEndAtOvertakingsIn = (s : System) (x : ℕ → ℕ → Date) → IsFeasibleIn s x
    → (after turn last turns : ℕ) (step : ℕ → ℕ → ℤ) → MovesInTurnsIn s x after turn last step
    → ((t : ℕ) → MovesTo (x t) after turn (last + turns * turn) (step t))
    → AreInTimeIn turns s x turn last step

-- no step falls along a place in the last turn, nor from a release
pub record NoneFallsIn (s : System) (x : ℕ → ℕ → Date) (turn last : ℕ) (step pace : ℕ → ℕ → ℤ) : Type 0 where
  pub places : (k : ℕ) → last < k + turn → k ≤ last → All (λ p. NoneFallsAlong step p k (available s x p k) (x p.to.index k)) s.places
  pub releases : (t k : ℕ) → last < k + turn → k ≤ last → (s.release t k ≡ Early) ⊎ ((x t k ≡ Never) ⊎ (pace t k ≤ℤ step t k))

-- the least dating of the system then moves by the steps for ever
abbrev pub NoFallIsForEverIn : Type 0
NoFallIsForEverIn = (s : System) → HaveRanks s.places → (x : ℕ → ℕ → Date) → IsLeastIn s x
    → (after turn last : ℕ) (step pace : ℕ → ℕ → ℤ) → MovesInTurnsIn s x after turn last step
    → AreStepsOfResidues turn pace → ((t end : ℕ) → MovesTo (s.release t) (last - turn - turn) turn end (pace t)) → NoneFallsIn s x turn last step pace
    → (t k : ℕ) → after < k → x t (k + turn) ≡ move (step t k) (x t k)

-- where some turns on a token would be late, no form has begun, with its period, two turns before the last number, unless the
-- window is too short to tell
abbrev pub FormsComeAfterJumpsIn : Type 0
FormsComeAfterJumpsIn = (s : System) (x : ℕ → ℕ → Date) → IsFeasibleIn s x
    → (after turn last turns : ℕ) (step : ℕ → ℕ → ℤ) → MovesInTurnsIn s x after turn last step
    → (AreInTimeIn turns s x turn last step → ⊥)
    → (begin period : ℕ) (by : ℕ → ℤ) → 1 ≤ period → ((t k : ℕ) → begin < k → x t (k + period) ≡ move (by t) (x t k))
    → (last < begin + period + turn + turn) ⊎ (last < after + period + turn + turn)

-- ---- of a net

-- past `after` and up to `last` the dates move by the steps, with room for two turns and for the tokens of each place
pub record MovesInTurns (net : NetLists) (x : ℕ → ℕ → Date) (after turn last : ℕ) (step : ℕ → ℕ → ℤ) : Type 0 where
  pub at_least_one : 1 ≤ turn
  pub two_turns : after + turn + turn < last
  pub tokens : All (λ p. after + p.tokens + turn + turn ≤ last) net.places
  pub residues : AreStepsOfResidues turn step
  pub moves : MovesUpTo (length net.transitions) x after turn last step

-- so many turns on, the token of each place would be there in time at each number of the last turn
abbrev pub AreInTimeAfter : ℕ → NetLists → (ℕ → ℕ → Date) → ℕ → ℕ → (ℕ → ℕ → ℤ) → Type 0
AreInTimeAfter turns net x turn last step =
    (k : ℕ) → last < k + turn → k ≤ last → All (λ p. IsInTimeAfter turns step p k (available_at x p k) (x p.to.index k)) (extended_places net)

-- in the last two turns, and for so many more, the releases of each input move by its paces
abbrev pub ReleasesMoveFor : ℕ → NetLists → (ℕ → ℕ → Date) → ℕ → ℕ → (ℕ → ℕ → ℤ) → Type 0
ReleasesMoveFor turns net u turn last pace = (t : ℕ) → IsInput net t → MovesTo (u t) (last - turn - turn) turn (last + turns * turn) (pace t)

-- a window of turns after which so many more are free of overtakings
pub record IsJump (net : NetLists) (u x : ℕ → ℕ → Date) (after turn last turns : ℕ) (step pace : ℕ → ℕ → ℤ) : Type 0 where
  pub window : MovesInTurns net x after turn last step
  pub in_time : AreInTimeAfter turns net x turn last step
  pub paces : AreStepsOfResidues turn pace
  pub releases : ReleasesMoveFor turns net u turn last pace
  pub released : (t k : ℕ) → IsInput net t → last < k + turn → k ≤ last → IsReleasedAfter turns step pace t k (u t k) (x t k)

-- in a live net the least dating then moves by the steps for as many turns more
abbrev pub DatesJump : Type 0
DatesJump = (net : NetLists) → HasEndsInRange net → IsLive net → (u x : ℕ → ℕ → Date) → IsLeastUnder net u x
    → (after turn last turns : ℕ) (step pace : ℕ → ℕ → ℤ) → IsJump net u x after turn last turns step pace
    → MovesUpTo (length net.transitions) x after turn (last + turns * turn) step

-- where a feasible dating moves by the steps for so many turns more, each token is there in time
abbrev pub JumpsEndAtOvertakings : Type 0
JumpsEndAtOvertakings = (net : NetLists) → HasEndsInRange net → (u x : ℕ → ℕ → Date) → IsFeasibleUnder net u x
    → (after turn last turns : ℕ) (step : ℕ → ℕ → ℤ) → MovesInTurns net x after turn last step
    → MovesUpTo (length net.transitions) x after turn (last + turns * turn) step
    → AreInTimeAfter turns net x turn last step

-- so it is in a net
abbrev pub FormsComeAfterJumps : Type 0
FormsComeAfterJumps = (net : NetLists) → HasEndsInRange net → (u x : ℕ → ℕ → Date) → IsFeasibleUnder net u x
    → (after turn last turns : ℕ) (step : ℕ → ℕ → ℤ) → MovesInTurns net x after turn last step
    → (AreInTimeAfter turns net x turn last step → ⊥)
    → (begin period : ℕ) (by : ℕ → ℤ) → RepeatsAfter (length net.transitions) x begin period by
    → (last < begin + period + turn + turn) ⊎ (last < after + period + turn + turn)

-- in the last turn no step falls along a place, nor from a release
pub record NoneFalls (net : NetLists) (u x : ℕ → ℕ → Date) (turn last : ℕ) (step pace : ℕ → ℕ → ℤ) : Type 0 where
  pub places : (k : ℕ) → last < k + turn → k ≤ last → All (λ p. NoneFallsAlong step p k (available_at x p k) (x p.to.index k)) (extended_places net)
  pub releases : (t k : ℕ) → IsInput net t → last < k + turn → k ≤ last → (x t k ≡ Never) ⊎ (pace t k ≤ℤ step t k)

-- the dates then move by the steps for ever
abbrev pub NoFallIsForEver : Type 0
NoFallIsForEver = (net : NetLists) → HasEndsInRange net → IsLive net → (u x : ℕ → ℕ → Date) → IsLeastUnder net u x
    → (after turn last : ℕ) (step pace : ℕ → ℕ → ℤ) → MovesInTurns net x after turn last step
    → AreStepsOfResidues turn pace → ((turns : ℕ) → ReleasesMoveFor turns net u turn last pace) → NoneFalls net u x turn last step pace
    → MovesForEver (length net.transitions) x after turn step

-- and each transition has one step: the dates have settled
abbrev pub NoFallSettles : Type 0
NoFallSettles = (net : NetLists) → HasEndsInRange net → IsLive net → (u x : ℕ → ℕ → Date) → IsLeastUnder net u x
    → (after turn last : ℕ) (step pace : ℕ → ℕ → ℤ) → MovesInTurns net x after turn last step
    → AreStepsOfResidues turn pace → ((turns : ℕ) → ReleasesMoveFor turns net u turn last pace) → NoneFalls net u x turn last step pace
    → RepeatsAfter (length net.transitions) x after turn (λ t. step t last)

-- ---- of single dates

-- where dates move by the steps up to a number, the date some turns on is moved by as many steps
abbrev pub TurnsAreTold : Type 0
TurnsAreTold = (dates : ℕ → Date) (after turn last : ℕ) (step : ℕ → ℤ) → ((k : ℕ) → step (k + turn) ≡ step k) → MovesTo dates after turn last step
    → (k j : ℕ) → after < k → k + j * turn ≤ last → dates (k + j * turn) ≡ move (pos j *ℤ step k) (dates k)

-- two numbers in order, of which the lesser gains on the other in each turn, are in order for as many turns as the gain goes into
-- what they are apart, and no more
abbrev pub TurnsAreReadOff : Type 0
TurnsAreReadOff = (token step : ℤ) (slack gain turns : ℕ) → 1 ≤ gain
    → IsAtMostDate (move (pos turns *ℤ (step +ℤ pos gain)) (At token)) (move (pos turns *ℤ step) (At (token +ℤ pos slack))) ↔ (turns ≤ slack / gain)
