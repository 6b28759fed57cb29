-- The greatest ratio of holding time to tokens, over the circuits of a net or of a part (chapters 2 and 3).
use Rattle.std.specs.Prelude.{ℕ, ◌*◌, ◌<◌, ◌≤◌, ◌≡◌, List, All, Option, Some, None, slice_index_or, ⊤}
use Rattle.teg_net.specs.declared.entries.PlaceId.{PlaceId}
use Rattle.teg_net.specs.declared.answers.PartAnswer.{PartAnswer}
use Rattle.teg_net.specs.declared.answers.PartAnswer.TheVariants.{NoCircuit, Best}
use Rattle.teg_net.specs.Nets.{NetLists}
use Rattle.teg_net.specs.Ratios.{Fraction}
use Rattle.teg_net.specs.Circuits.{IsCircuit, time_of, tokens_of}

-- some circuit of such places with a token has this ratio, and none of them has a greater one
pub record IsGreatestRatio (net : NetLists) (Within : PlaceId → Type 0) (r : Fraction) : Type 0 where
  pub some : 1 ≤ r.tokens
  pub attained : (ps : List PlaceId) × IsCircuit net ps × All Within ps × (time_of net ps * r.tokens ≡ r.time * tokens_of net ps)
  pub token : 1 ≤ tokens_of net attained.0
  pub greatest : (ps : List PlaceId) → IsCircuit net ps → All Within ps → time_of net ps * r.tokens ≤ r.time * tokens_of net ps

-- any place
abbrev pub IsAnyPlace : PlaceId → Type 0
IsAnyPlace p = ⊤

-- no circuit consists of such places
abbrev pub HasNoCircuit : NetLists → (PlaceId → Type 0) → Type 0
HasNoCircuit net Within = (ps : List PlaceId) → IsCircuit net ps → All Within ps → ⊥

-- the ratio that the answer of a part tells
abbrev pub ratio_in : PartAnswer → Option Fraction
ratio_in NoCircuit = None
ratio_in (Best ratio circuit potentials) = Some ratio

-- the ratio that the answer at k tells
abbrev pub ratio_at : List PartAnswer → ℕ → Option Fraction
ratio_at answers k = ratio_in (slice_index_or answers k NoCircuit)

-- the answer at k tells this ratio, none tells a greater one, and each before it a smaller one
pub record IsFirstGreatestAt (answers : List PartAnswer) (k : ℕ) (r : Fraction) : Type 0 where
  pub here : ratio_at answers k ≡ Some r
  pub greatest : (j : ℕ) (q : Fraction) → ratio_at answers j ≡ Some q → q.time * r.tokens ≤ r.time * q.tokens
  pub first : (j : ℕ) (q : Fraction) → j < k → ratio_at answers j ≡ Some q → q.time * r.tokens < r.time * q.tokens

-- the first answer of greatest ratio; none where no answer tells a ratio
abbrev pub IsFirstGreatest : List PartAnswer → Option ℕ → Type 0
IsFirstGreatest answers None = (j : ℕ) → ratio_at answers j ≡ None
IsFirstGreatest answers (Some k) = (r : Fraction) × IsFirstGreatestAt answers k r

-- the answer at k tells the greatest ratio of the net; without one the net has no circuit
abbrev pub IsCycleTime : NetLists → List PartAnswer → Option ℕ → Type 0
IsCycleTime net answers None = HasNoCircuit net IsAnyPlace
IsCycleTime net answers (Some k) = (r : Fraction) × (ratio_at answers k ≡ Some r) × IsGreatestRatio net IsAnyPlace r
