-- Turns in which input lists go on evenly, and the windows of the least dating of a net by its lists (chapters 2 and 3).
use Rattle.std.specs.Prelude.{ℕ, ℤ, pos, ◌+◌, ◌-◌, ◌*◌, ◌/◌, ◌<◌, ◌≤◌, ◌≡◌, ⊤, Option, Some, None, length, All}
use Rattle.dioid.specs.declared.dates.Date.{Date}
use Rattle.teg_net.specs.declared.entries.Again.{Again}
use Rattle.teg_net.specs.declared.entries.InputList.{InputList}
use Rattle.teg_net.specs.Nets.{NetLists, HasEndsInRange, IsInput, HasListsByRule}
use Rattle.teg_net.specs.Inputs.{list_of_input}
use Rattle.teg_net.specs.Circuits.{IsLive}
use Rattle.teg_model.specs.Datings.{IsLeastDating, listed_releases}
use Rattle.settled_laws.specs.SettledForms.{NetSettlesPast}
use Rattle.jump_laws.specs.Jumps.{MovesTo, MovesUpTo, MovesInTurns, AreInTimeAfter, IsReleasedAfter}

-- a turn is some times the `every` of a list that goes on
abbrev pub HasWholeLaps : ℕ → Option Again → Type 0
HasWholeLaps turn None = ⊤
HasWholeLaps turn (Some a) = turn / a.every * a.every ≡ turn

-- the list is left by this number, and goes on in whole laps
pub record GoesOnInTurns (turn after : ℕ) (l : InputList) : Type 0 where
  pub left : length l.dates ≤ after
  pub laps : HasWholeLaps turn l.again

-- by how much the dates of a list go on in a turn: by its gap in each lap, and by 0 where it ends
abbrev pub gaps_in : ℕ → Option Again → ℤ
gaps_in turn None = pos 0
gaps_in turn (Some a) = pos (turn / a.every * a.gap)

-- by 0 too where there is no list
abbrev pub pace_by_list : ℕ → Option InputList → ℤ
pace_by_list turn None = pos 0
pace_by_list turn (Some l) = gaps_in turn l.again

-- the pace of a transition at each number
abbrev pub listed_pace : NetLists → ℕ → ℕ → ℕ → ℤ
listed_pace net turn t k = pace_by_list turn (list_of_input net t)

-- where the lists go on in turns, their dates move by that pace for ever
abbrev pub ListedReleasesMove : Type 0
ListedReleasesMove = (net : NetLists) → HasListsByRule net → (turn after last : ℕ) → All (GoesOnInTurns turn after) net.inputs
    → (t : ℕ) → MovesTo (listed_releases net t) after turn last (listed_pace net turn t)

-- a window of turns by which the lists have been left, and after which so many more are free of overtakings
pub record IsListedJump (net : NetLists) (x : ℕ → ℕ → Date) (after turn last turns : ℕ) (step : ℕ → ℕ → ℤ) : Type 0 where
  pub window : MovesInTurns net x after turn last step
  pub in_time : AreInTimeAfter turns net x turn last step
  pub lists : All (GoesOnInTurns turn (last - turn - turn)) net.inputs
  pub released : (t k : ℕ) → IsInput net t → last < k + turn → k ≤ last
      → IsReleasedAfter turns step (listed_pace net turn) t k (listed_releases net t k) (x t k)

-- in a live net the least dating by its lists then moves by the steps for as many turns more
abbrev pub ListedDatesJump : Type 0
ListedDatesJump = (net : NetLists) → HasEndsInRange net → HasListsByRule net → IsLive net → (x : ℕ → ℕ → Date) → IsLeastDating net x
    → (after turn last turns : ℕ) (step : ℕ → ℕ → ℤ) → IsListedJump net x after turn last turns step
    → MovesUpTo (length net.transitions) x after turn (last + turns * turn) step

-- where the least dating by the lists moves by turns in a window that a limit and two turns leave room in, and some turns on a token
-- would be late, the net has no form within the limit
abbrev pub JumpsTellTooLong : Type 0
JumpsTellTooLong = (net : NetLists) → HasEndsInRange net → (x : ℕ → ℕ → Date) → IsLeastDating net x
    → (after turn last turns limit : ℕ) (step : ℕ → ℕ → ℤ) → MovesInTurns net x after turn last step
    → (AreInTimeAfter turns net x turn last step → ⊥) → after + limit + turn + turn ≤ last
    → NetSettlesPast net limit
