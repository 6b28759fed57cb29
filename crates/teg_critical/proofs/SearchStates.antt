-- What stands while least losses are searched: what is told, what is settled, and the queue.
use Rattle.std.specs.Prelude.{ℕ, Bool, List, sum_by, if◌then◌else◌, ◌+◌, ◌*◌, ◌<◌, ◌≤◌, ◌≡◌, true, false, length, IsSome, Option, Some, None, Contains}
use Rattle.std.specs.BinaryHeap.{IsHeap}
use Rattle.std.specs.declared.cmp.Reverse.{Reverse}
use Rattle.teg_net.specs.declared.entries.PlaceId.{PlaceId}
use Rattle.teg_net.specs.Nets.{NetLists}
use Rattle.teg_net.specs.Circuits.{from_of}
use Rattle.teg_net.specs.Parts.{to_of}
use Rattle.teg_critical.specs.declared.losses.Loss.{Loss}
use Rattle.teg_critical.specs.Losses.{most_loss, loss_at}
use Rattle.teg_critical.specs.LeastLosses.{amount_in, loss_of_path, IsWay, told_at, IsToldWithin, is_settled, entry, nearest_first}

-- how many are not settled
abbrev pub unsettled : List Bool → ℕ
unsettled settled = sum_by (λ s. if s then 0 else 1) settled

-- what is told is the loss of some path; settled transitions are told no more than others, and the places that leave them are taken
pub record IsSearching (net : NetLists) (losses : List (Option Loss)) (start : ℕ) (least : List (Option ℕ)) (settled : List Bool) : Type 0 where
  pub count : length least ≡ length net.transitions
  pub marks : length settled ≡ length net.transitions
  pub begins : IsToldWithin (told_at least start) 0
  pub sound : (t d : ℕ) → told_at least t ≡ Some d → (ps : List PlaceId) × IsWay net losses start ps t × (loss_of_path losses ps ≡ d)
  pub before : (t u d : ℕ) → t < length settled → is_settled settled t ≡ true → is_settled settled u ≡ false → told_at least u ≡ Some d → IsToldWithin (told_at least t) d
  pub taken : (p : PlaceId) (d : ℕ) → p.index < length net.places → IsSome (loss_at losses p) → is_settled settled (from_of net p) ≡ true → told_at least (from_of net p) ≡ Some d
      → IsToldWithin (told_at least (to_of net p)) (d + amount_in (loss_at losses p))
  pub small : (t d : ℕ) → told_at least t ≡ Some d → d + unsettled settled * most_loss ≤ length settled * most_loss

-- the unsettled transition of least loss
pub record IsNearest (least : List (Option ℕ)) (settled : List Bool) (at loss : ℕ) : Type 0 where
  pub in_range : at < length settled
  pub open_ : is_settled settled at ≡ false
  pub told : told_at least at ≡ Some loss
  pub no_nearer : (u d : ℕ) → is_settled settled u ≡ false → told_at least u ≡ Some d → loss ≤ d

-- no unsettled transition is told a loss
abbrev pub IsOver : List (Option ℕ) → List Bool → Type 0
IsOver least settled = (u : ℕ) → is_settled settled u ≡ false → told_at least u ≡ None

-- each loss told of an unsettled transition is in the queue, and the queue has no lesser ones
pub record IsQueueing (net : NetLists) (losses : List (Option Loss)) (start : ℕ) (least : List (Option ℕ)) (settled : List Bool) (queue : List (Reverse (ℕ × ℕ))) : Type 0 where
  pub searching : IsSearching net losses start least settled
  pub heap : IsHeap nearest_first queue
  pub sound : (e : Reverse (ℕ × ℕ)) → Contains queue e → IsToldWithin (told_at least e.0.1) e.0.0
  pub waits : (u d : ℕ) → is_settled settled u ≡ false → told_at least u ≡ Some d → Contains queue (entry d u)
