-- All tight potentials of a part, its eigenspace: those that begin at critical transitions span it (chapter 3).
use Rattle.std.specs.Prelude.{ℕ, ℤ, ◌*◌, ◌<◌, ◌≡◌, ◌↔◌, ◌⊎◌, ◌+ℤ◌, ◌≤ℤ◌, List, ◌++◌, length, All, Contains}
use Rattle.teg_net.specs.declared.entries.PlaceId.{PlaceId}
use Rattle.teg_net.specs.Nets.{NetLists}
use Rattle.teg_net.specs.Ratios.{Fraction}
use Rattle.teg_net.specs.Circuits.{IsPathBetween, time_of, tokens_of}
use Rattle.teg_net.specs.Parts.{IsMember, IsPlaceOfPart}
use Rattle.teg_net.specs.ReducedTimes.{IsGreatestPathTime}
use Rattle.teg_net.specs.GreatestRatios.{IsGreatestRatio}
use Rattle.teg_parts.specs.Partitions.{AreStrong}
use Rattle.teg_loops.specs.Loops.{EndsBelow}
use Rattle.pace_laws.specs.TightPotentials.{AreTightPotentials}

-- a way in the part from transition s round to it that has the ratio: a critical circuit, or several in one another
pub record IsCriticalRound (net : NetLists) (part_of : List ℕ) (part a b s : ℕ) (c : List PlaceId) : Type 0 where
  pub not_empty : 0 < length c
  pub closed : IsPathBetween net s c s
  pub inside : All (IsPlaceOfPart net part_of part) c
  pub attains : time_of net c * b ≡ a * tokens_of net c

-- the transition is critical: such a way leads from it
abbrev pub IsCriticalTransition : NetLists → List ℕ → ℕ → ℕ → ℕ → ℕ → Type 0
IsCriticalTransition net part_of part a b s = (c : List PlaceId) × IsCriticalRound net part_of part a b s c

-- the transitions are in one critical part: such a way leads from the first to the second and back
pub record AreInOneCriticalPart (net : NetLists) (part_of : List ℕ) (part a b s t : ℕ) : Type 0 where
  pub there : List PlaceId
  pub back : List PlaceId
  pub to : IsPathBetween net s there t
  pub from : IsPathBetween net t back s
  pub round : IsCriticalRound net part_of part a b s (there ++ back)

-- x is the greater of y and z
pub record IsGreaterOf (y z x : ℤ) : Type 0 where
  pub left : y ≤ℤ x
  pub right : z ≤ℤ x
  pub met : (x ≡ y) ⊎ (x ≡ z)

-- the greatest reduced times of the paths in the part from transition s
abbrev pub AreBegunAt : NetLists → List ℕ → ℕ → ℕ → ℕ → ℕ → (ℕ → ℤ) → Type 0
AreBegunAt net part_of part a b s v = (t : ℕ) → IsMember part_of part t → IsGreatestPathTime net part_of part a b s t (v t)

-- tight potentials moved by one number are tight
abbrev pub MovedPotentialsAreTight : Type 0
MovedPotentialsAreTight =
    (net : NetLists) (part_of : List ℕ) (part a b : ℕ) (v : ℕ → ℤ) (n : ℤ) → AreTightPotentials net part_of part a b v → AreTightPotentials net part_of part a b (λ t. v t +ℤ n)

-- the greater of two tight potentials at each member are tight
abbrev pub GreaterPotentialsAreTight : Type 0
GreaterPotentialsAreTight =
    (net : NetLists) (part_of : List ℕ) (part a b : ℕ) (v w x : ℕ → ℤ) → AreTightPotentials net part_of part a b v → AreTightPotentials net part_of part a b w
    → ((t : ℕ) → IsMember part_of part t → IsGreaterOf (v t) (w t) (x t)) → AreTightPotentials net part_of part a b x

-- those that begin at a critical transition are tight
abbrev pub BegunPotentialsAreTight : Type 0
BegunPotentialsAreTight =
    (net : NetLists) (part_of : List ℕ) (part a b s : ℕ) (v : ℕ → ℤ) → IsCriticalTransition net part_of part a b s → AreBegunAt net part_of part a b s v
    → AreTightPotentials net part_of part a b v

-- from each member of a strong part some begin, at its greatest ratio
abbrev pub BegunPotentialsExist : Type 0
BegunPotentialsExist =
    (net : NetLists) (part_of : List ℕ) (part s : ℕ) (r : Fraction) → EndsBelow net (length net.transitions) → AreStrong net part_of
    → IsGreatestRatio net (IsPlaceOfPart net part_of part) r → IsMember part_of part s
    → (v : ℕ → ℤ) × AreBegunAt net part_of part r.time r.tokens s v

-- the potential of the transition is the greatest of those that begin anywhere, each moved by the potential of where it
-- begins, and it is met by one that begins at a critical transition
pub record IsSpannedAt (net : NetLists) (part_of : List ℕ) (part a b : ℕ) (v : ℕ → ℤ) (t : ℕ) : Type 0 where
  pub none_above : (s : ℕ) (z : ℤ) → IsGreatestPathTime net part_of part a b s t z → (z +ℤ v s) ≤ℤ v t
  pub met : (s : ℕ) × IsCriticalTransition net part_of part a b s × (z : ℤ) × IsGreatestPathTime net part_of part a b s t z × (v t ≡ (z +ℤ v s))

-- tight potentials are so at each member
abbrev pub PotentialsAreSpanned : Type 0
PotentialsAreSpanned =
    (net : NetLists) (part_of : List ℕ) (part a b : ℕ) (v : ℕ → ℤ) → AreTightPotentials net part_of part a b v
    → (t : ℕ) → IsMember part_of part t → IsSpannedAt net part_of part a b v t

-- in one critical part all tight potentials differ by the same from transition to transition
abbrev pub CriticalPartsMoveAsOne : Type 0
CriticalPartsMoveAsOne =
    (net : NetLists) (part_of : List ℕ) (part a b s t : ℕ) (v w : ℕ → ℤ) → AreInOneCriticalPart net part_of part a b s t
    → AreTightPotentials net part_of part a b v → AreTightPotentials net part_of part a b w → (v t +ℤ w s) ≡ (w t +ℤ v s)

-- those that begin at two transitions of one critical part differ by one number
abbrev pub OneBeginsForEachPart : Type 0
OneBeginsForEachPart =
    (net : NetLists) (part_of : List ℕ) (part a b s t : ℕ) (v w : ℕ → ℤ) → AreInOneCriticalPart net part_of part a b s t
    → AreBegunAt net part_of part a b s v → AreBegunAt net part_of part a b t w → (n : ℤ) × ((u : ℕ) → IsMember part_of part u → w u ≡ (v u +ℤ n))

-- where the critical transitions are in one critical part, any two tight potentials differ by one number
abbrev pub OneCriticalPartTellsAll : Type 0
OneCriticalPartTellsAll =
    (net : NetLists) (part_of : List ℕ) (part a b m : ℕ) (v w : ℕ → ℤ) → IsMember part_of part m
    → ((s t : ℕ) → IsCriticalTransition net part_of part a b s → IsCriticalTransition net part_of part a b t → AreInOneCriticalPart net part_of part a b s t)
    → AreTightPotentials net part_of part a b v → AreTightPotentials net part_of part a b w → (n : ℤ) × ((t : ℕ) → IsMember part_of part t → v t ≡ (w t +ℤ n))

-- the potentials are the greatest of those that begin at these transitions, each moved by the number of where it begins: none of
-- these comes above, and each member has one that it meets
pub record AreGreatestFrom (net : NetLists) (part_of : List ℕ) (part a b : ℕ) (starts : List ℕ) (moved : ℕ → ℤ) (v : ℕ → ℤ) : Type 0 where
  pub none_above : (s t : ℕ) (z : ℤ) → Contains starts s → IsGreatestPathTime net part_of part a b s t z → (z +ℤ moved s) ≤ℤ v t
  pub met : (t : ℕ) → IsMember part_of part t → (s : ℕ) × Contains starts s × (z : ℤ) × IsGreatestPathTime net part_of part a b s t z × (v t ≡ (z +ℤ moved s))

-- those that begin at a critical transition are the greatest of others, moved in any way, only where one of these begins in its
-- critical part: none can be left out
abbrev pub NoneCanBeLeftOut : Type 0
NoneCanBeLeftOut =
    (net : NetLists) (part_of : List ℕ) (part a b s : ℕ) (starts : List ℕ) (moved v : ℕ → ℤ) → IsCriticalTransition net part_of part a b s
    → AreBegunAt net part_of part a b s v → AreGreatestFrom net part_of part a b starts moved v
    → (u : ℕ) × Contains starts u × AreInOneCriticalPart net part_of part a b s u

-- so transitions span all tight potentials of a strong part just where each critical part has one of them
abbrev pub OneOfEachPartSpans : Type 0
OneOfEachPartSpans =
    (net : NetLists) (part_of : List ℕ) (part : ℕ) (r : Fraction) (starts : List ℕ) → EndsBelow net (length net.transitions) → AreStrong net part_of
    → IsGreatestRatio net (IsPlaceOfPart net part_of part) r
    → ((v : ℕ → ℤ) → AreTightPotentials net part_of part r.time r.tokens v → (moved : ℕ → ℤ) × AreGreatestFrom net part_of part r.time r.tokens starts moved v)
    ↔ ((s : ℕ) → IsCriticalTransition net part_of part r.time r.tokens s → (u : ℕ) × Contains starts u × AreInOneCriticalPart net part_of part r.time r.tokens s u)
