-- Working definitions of what places lose against the greatest ratio, by the potentials of their parts (chapter 3).
use Rattle.std.specs.Prelude.{ℕ, ℤ, pos, ◌+ℤ◌, ◌+◌, ◌-◌, ◌*◌, ◌<◌, ◌≤◌, ◌≡◌, ◌≢◌, List, [], length, Option, Some, None, slice_index, slice_index_or}
use Rattle.teg_net.specs.declared.entries.PlaceId.{PlaceId}
use Rattle.teg_net.specs.declared.entries.Place.{Place}
use Rattle.teg_net.specs.declared.answers.Potential.{Potential}
use Rattle.teg_net.specs.declared.answers.PartAnswer.{PartAnswer}
use Rattle.teg_net.specs.declared.answers.PartAnswer.TheVariants.{NoCircuit, Best}
use Rattle.teg_net.specs.declared.answers.CycleAnswer.{CycleAnswer}
use Rattle.teg_net.specs.Limits.{greatest_hold, greatest_checked_potential, most_place_tokens}
use Rattle.teg_net.specs.Nets.{NetLists}
use Rattle.teg_net.specs.Ratios.{Fraction, IsRatioWithin}
use Rattle.teg_net.specs.Circuits.{place_at, from_of}
use Rattle.teg_net.specs.Parts.{to_of}
use Rattle.teg_net.specs.ReducedTimes.{IsMagnitudeWithin, reduced_time_of_place}
use Rattle.teg_net.specs.Certificates.{potential_at}
use Rattle.teg_critical.specs.declared.losses.Loss.{Loss}

-- the most that a place loses at its part's ratio
abbrev pub most_lost : ℕ
most_lost = 3000000000000000000

-- the most that it loses at the greatest ratio, times the tokens of its part's ratio
abbrev pub most_loss : ℕ
most_loss = 10000000000000000000000000000000

-- the most that the paths back from the end of a place to its start lack, with the place
abbrev pub most_gap : ℕ
most_gap = 400000000000000000

-- by so much what is counted, from this potential on, stays below that potential
abbrev pub IsLost : ℤ → ℤ → ℤ → ℕ → Type 0
IsLost count start above lost = ((pos lost +ℤ count) +ℤ start) ≡ above

-- it does, by no more than the most, and the potentials keep their limit
pub record CanLose (count start above : ℤ) : Type 0 where
  pub lost : ℕ
  pub is : IsLost count start above lost
  pub small : lost ≤ most_lost
  pub start_in : IsMagnitudeWithin greatest_checked_potential start
  pub above_in : IsMagnitudeWithin greatest_checked_potential above

-- the same at the greatest ratio, times the tokens of the part's own ratio
abbrev pub loss_at_best : Fraction → Fraction → ℕ → ℕ → ℕ
loss_at_best best own lost tokens = best.tokens * lost + (best.time * own.tokens - own.time * best.tokens) * tokens

-- the ratio that the answer of a part tells; nothing over one token where it tells none
abbrev pub ratio_of : PartAnswer → Fraction
ratio_of NoCircuit = record { time = 0; tokens = 1 }
ratio_of (Best ratio circuit potentials) = ratio

-- the potentials that it tells; none where it tells no ratio
abbrev pub potentials_of : PartAnswer → List Potential
potentials_of NoCircuit = []
potentials_of (Best ratio circuit potentials) = potentials.items

-- a place loses in a part with this ratio, which is no greater, and these potentials, and all keep their limits
pub record CanLoseBy (best own : Fraction) (potentials : List Potential) (p : Place) : Type 0 where
  pub best_small : IsRatioWithin best
  pub own_small : IsRatioWithin own
  pub some : 1 ≤ own.tokens
  pub below : own.time * best.tokens ≤ best.time * own.tokens
  pub hold : p.hold ≤ greatest_hold
  pub tokens : p.tokens ≤ most_place_tokens
  pub can_lose : CanLose (reduced_time_of_place own p) (potential_at potentials p.from.index) (potential_at potentials p.to.index)

-- the same in a part with this answer, which tells a ratio
abbrev pub CanLoseIn : Fraction → PartAnswer → Place → Type 0
CanLoseIn best NoCircuit p = ⊥
CanLoseIn best (Best ratio circuit potentials) p = CanLoseBy best ratio potentials.items p

-- the loss of a place in a part with this ratio, between these potentials of its ends
pub record IsLossOf (best own : Fraction) (start above : ℤ) (p : Place) (l : Loss) : Type 0 where
  pub scale : l.scale ≡ own.tokens
  pub some : 1 ≤ own.tokens
  pub below : own.time * best.tokens ≤ best.time * own.tokens
  pub lost : ℕ
  pub is_lost : IsLost (reduced_time_of_place own p) start above lost
  pub amount : l.amount ≡ loss_at_best best own lost p.tokens
  pub small : l.amount ≤ most_loss

-- the answer of the part with this number
abbrev pub answer_of_part : CycleAnswer → ℕ → PartAnswer
answer_of_part answer k = slice_index_or answer.parts.items k NoCircuit

-- the loss of a place whose ends lie in a part with this answer
abbrev pub IsLossIn : Fraction → PartAnswer → Place → Option Loss → Type 0
IsLossIn best part p None = ⊥
IsLossIn best part p (Some l) =
    IsLossOf best (ratio_of part) (potential_at (potentials_of part) p.from.index) (potential_at (potentials_of part) p.to.index) p l

-- the number of the transition's part
abbrev pub part_of_transition : CycleAnswer → ℕ → ℕ
part_of_transition answer t = slice_index answer.part_of.items t

-- the ends of the place lie in two parts
abbrev pub IsBetweenParts : NetLists → CycleAnswer → PlaceId → Type 0
IsBetweenParts net answer p = part_of_transition answer (from_of net p) ≢ part_of_transition answer (to_of net p)

-- the loss of a place with both ends in one part, and none where they lie in two
pub record IsPlaceLoss (net : NetLists) (answer : CycleAnswer) (best : Fraction) (p : PlaceId) (l : Option Loss) : Type 0 where
  pub inside : part_of_transition answer (from_of net p) ≡ part_of_transition answer (to_of net p)
      → IsLossIn best (answer_of_part answer (part_of_transition answer (from_of net p))) (place_at net p) l
  pub apart : IsBetweenParts net answer p → l ≡ None

-- what is told of the place
abbrev pub loss_at : List (Option Loss) → PlaceId → Option Loss
loss_at losses p = slice_index_or losses p.index None

-- the losses of the places of the net, in order
pub record AreLosses (net : NetLists) (answer : CycleAnswer) (best : Fraction) (losses : List (Option Loss)) : Type 0 where
  pub count : length losses ≡ length net.places
  pub each : (p : PlaceId) → p.index < length net.places → IsPlaceLoss net answer best p (loss_at losses p)

-- no loss told passes the most
abbrev pub AreKeptSmall : List (Option Loss) → Type 0
AreKeptSmall losses = (p : PlaceId) (l : Loss) → loss_at losses p ≡ Some l → l.amount ≤ most_loss

-- the gap that is told by a loss of the whole round, times the scale
pub record LeavesGap (total scale : ℕ) : Type 0 where
  pub gap : ℕ
  pub some : 1 ≤ scale
  pub is : total ≡ scale * gap
  pub low : gap ≤ most_gap
