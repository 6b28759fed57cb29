-- How soon a net becomes periodic, and with which period (chapter 3, cyclicity).
use Rattle.std.specs.Prelude.{ℕ, ◌^◌, ◌<◌, ◌≤◌, ◌≡◌, ◌⊎◌, ◌==◌, if◌then◌else◌, List, [], length, All, Any}
use Rattle.std.specs.Int.{◌∣◌}
use Rattle.bound_laws.specs.dioid.declared.dates.Date.{Date}
use Rattle.teg_net.specs.declared.entries.PlaceId.{PlaceId}
use Rattle.teg_net.specs.Nets.{NetLists, IsInput}
use Rattle.teg_net.specs.Ratios.{Fraction, IsLowestTerms}
use Rattle.teg_net.specs.Circuits.{tokens_of}
use Rattle.teg_net.specs.Parts.{Reaches}
use Rattle.teg_net.specs.GreatestRatios.{IsGreatestRatio, IsAnyPlace}
use Rattle.bound_laws.specs.teg_model.Datings.{IsLeastDating}
use Rattle.bound_laws.specs.settled_laws.SettledForms.{SettledForm, IsShortestForm}
pub use Rattle.bound_laws.specs.Critical.{EachReachesEach}
use Rattle.bound_laws.specs.Critical.{IsCriticalAt, AllReadyAtZero, bound_of}
use Rattle.teg_bound.specs.declared.bound.BoundAnswer.{BoundAnswer}
use Rattle.teg_bound.specs.declared.bound.BoundAnswer.TheVariants.{Bound, HasInputs, NoPlace, NotStrong, ReadyDates}

-- ---- the number

-- the greatest hold of a place
pub record IsGreatestHold (net : NetLists) (hold : ℕ) : Type 0 where
  pub attained : Any (λ p. p.hold ≡ hold) net.places
  pub greatest : All (λ p. p.hold ≤ hold) net.places

-- the greater of 1 and the greatest number of tokens of a place
pub record IsMostTokens (net : NetLists) (tokens : ℕ) : Type 0 where
  pub some : 1 ≤ tokens
  pub attained : (tokens ≡ 1) ⊎ Any (λ p. p.tokens ≡ tokens) net.places
  pub greatest : All (λ p. p.tokens ≤ tokens) net.places

-- the bound of a net of n transitions, with its greatest hold, its most tokens and its greatest ratio: 0 where no circuit takes time
abbrev pub bound_number : ℕ → ℕ → ℕ → Fraction → ℕ
bound_number n hold tokens r = if r.time == 0 then 0 else bound_of n hold tokens r.time r.tokens

-- the number is the bound of the net at this ratio
pub record IsNumberOf (net : NetLists) (r : Fraction) (number : ℕ) : Type 0 where
  pub hold : ℕ
  pub hold_is : IsGreatestHold net hold
  pub tokens : ℕ
  pub tokens_is : IsMostTokens net tokens
  pub is : number ≡ bound_number (length net.transitions) hold tokens r

-- ---- the period

-- for each transition of a critical circuit one such circuit, told from there on
abbrev pub IsChoice : NetLists → Fraction → (ℕ → List PlaceId) → Type 0
IsChoice net r chosen = (t : ℕ) (ps : List PlaceId) → IsCriticalAt net r.time r.tokens t ps → IsCriticalAt net r.time r.tokens t (chosen t)

-- a common multiple of the tokens of the circuits that are chosen
abbrev pub IsMultipleOf : NetLists → Fraction → (ℕ → List PlaceId) → ℕ → Type 0
IsMultipleOf net r chosen multiple = (t : ℕ) (ps : List PlaceId) → IsCriticalAt net r.time r.tokens t ps → tokens_of net (chosen t) ∣ multiple

-- the shortest form of the least dating begins within the number, and its period divides each common multiple of the tokens of
-- any choice of critical circuits, one through each critical transition
pub record KeepsBound (net : NetLists) (r : Fraction) (number : ℕ) (f : SettledForm) : Type 0 where
  pub after : f.after ≤ number
  pub period : (chosen : ℕ → List PlaceId) (multiple : ℕ) → IsChoice net r chosen → 1 ≤ multiple → IsMultipleOf net r chosen multiple → f.period ∣ multiple

-- each shortest form of the least dating keeps the bound
abbrev pub FormsKeepBound : NetLists → Fraction → ℕ → Type 0
FormsKeepBound net r number = (x : ℕ → ℕ → Date) → IsLeastDating net x → (f : SettledForm) → IsShortestForm (length net.transitions) f x → KeepsBound net r number f

-- ---- the answer

-- no transition is an input
abbrev pub NoInput : NetLists → Type 0
NoInput net = (t : ℕ) → IsInput net t → ⊥

-- from some transition no path leads to some other
pub record HasNoWay (net : NetLists) : Type 0 where
  pub from : ℕ
  pub to : ℕ
  pub from_in : from < length net.transitions
  pub to_in : to < length net.transitions
  pub none : Reaches net from to → ⊥

-- some token is ready only after 0
abbrev pub HasReadyDate : NetLists → Type 0
HasReadyDate net = Any (λ p. Any (λ d. 1 ≤ d) p.ready) net.places

-- the net has no input, but a place
pub record HasPlacesAlone (net : NetLists) : Type 0 where
  pub no_input : NoInput net
  pub some_place : 0 < length net.places

-- the number is the bound of a strongly connected net without dates from outside, and the least dating keeps it
pub record IsBoundOf (net : NetLists) (number : ℕ) : Type 0 where
  pub alone : HasPlacesAlone net
  pub strong : EachReachesEach net
  pub ready : AllReadyAtZero net
  pub ratio : Fraction
  pub greatest : IsGreatestRatio net IsAnyPlace ratio
  pub terms : IsLowestTerms ratio
  pub number_is : IsNumberOf net ratio number
  pub small : number < 10 ^ 24
  pub keeps : FormsKeepBound net ratio number

-- what is right to tell of a live net: each cause only where none before it is there
abbrev pub IsRightBound : NetLists → BoundAnswer → Type 0
IsRightBound net (Bound number) = IsBoundOf net number
IsRightBound net HasInputs = (t : ℕ) × IsInput net t
IsRightBound net NoPlace = NoInput net × (net.places ≡ [])
IsRightBound net NotStrong = HasPlacesAlone net × HasNoWay net
IsRightBound net ReadyDates = HasPlacesAlone net × EachReachesEach net × HasReadyDate net
