-- The strong parts of a net and the order of their numbers. A value stands for a net where its lists are the parts of it.
use Rattle.std.specs.Prelude.{ℕ, ◌<◌, ◌≤◌, ◌≡◌, ◌≢◌, ◌↔◌, List, Bool, true, false, length, All, slice_index, slice_index_or}
use Rattle.teg_net.specs.declared.entries.PlaceId.{PlaceId}
use Rattle.teg_net.specs.Nets.{NetLists}
use Rattle.teg_net.specs.Parts.{Reaches, IsMember, IsPlaceOfPart}

-- for each transition the number of its part, and for each part whether some place has both ends in it
pub record PartLists : Type 0 where
  pub part_of : List ℕ
  pub inner : List Bool

-- two transitions have one number exactly where each reaches the other (chapter 2)
pub record AreStrong (net : NetLists) (part_of : List ℕ) : Type 0 where
  pub count : length part_of ≡ length net.transitions
  pub strong : (t u : ℕ) → t < length part_of → u < length part_of → (slice_index part_of t ≡ slice_index part_of u) ↔ (Reaches net t u × Reaches net u t)

-- each other part that lies upstream of part j has a number below k
abbrev pub MayTake : NetLists → List ℕ → ℕ → ℕ → Type 0
MayTake net part_of k j =
    (t u : ℕ) → IsMember part_of j t → u < length part_of → Reaches net u t → slice_index part_of u ≢ j → slice_index part_of u < k

-- a member of part k has a lower number than each of part j
abbrev pub HasLowerMember : List ℕ → ℕ → ℕ → Type 0
HasLowerMember part_of k j = (t : ℕ) × IsMember part_of k t × ((u : ℕ) → IsMember part_of j u → t < u)

-- each part may take its number, and of the parts without one that may take it, it has the lowest numbered transition
pub record AreInOrder (net : NetLists) (part_of : List ℕ) (count : ℕ) : Type 0 where
  pub may : (k : ℕ) → k < count → MayTake net part_of k k
  pub lowest : (k j : ℕ) → k < j → j < count → MayTake net part_of k j → HasLowerMember part_of k j

-- the numbers are those of the strong parts in order, each has a member, none falls along a place, and the marks are right
pub record AreParts (net : NetLists) (p : PartLists) : Type 0 where
  pub strong : AreStrong net p.part_of
  pub below : All (λ k. k < length p.inner) p.part_of
  pub some_member : (k : ℕ) → k < length p.inner → (t : ℕ) × IsMember p.part_of k t
  pub rises : All (λ q. slice_index p.part_of q.from.index ≤ slice_index p.part_of q.to.index) net.places
  pub order : AreInOrder net p.part_of (length p.inner)
  pub inner : (k : ℕ) → k < length p.inner → (slice_index_or p.inner k false ≡ true) ↔ ((q : PlaceId) × IsPlaceOfPart net p.part_of k q)

-- a net has one list of strong parts in their order
abbrev pub PartsAreOne : Type 0
PartsAreOne = (net : NetLists) (p q : PartLists) → AreParts net p → AreParts net q → p ≡ q
