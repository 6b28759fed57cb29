-- The number of a bound, by what is read off a net (chapter 3, cyclicity).
use Rattle.std.specs.Prelude.{ℕ, ◌<◌, ◌≤◌, ◌≡◌, ◌⊎◌, ◌==◌, if◌then◌else◌, All, Any, length}
use Rattle.bound_laws.specs.Critical.{EachReachesEach, bound_of}
use Rattle.teg_net.specs.declared.entries.Role.TheVariants.{Input}
use Rattle.teg_net.specs.GreatestRatios.{IsAnyPlace, IsGreatestRatio}
use Rattle.teg_net.specs.Nets.{NetLists}
use Rattle.teg_net.specs.Ratios.{Fraction, IsLowestTerms}

-- no place holds longer, and one holds so long
pub record IsLongestHold (net : NetLists) (hold : ℕ) : Type 0 where
  pub attained : Any (λ p. p.hold ≡ hold) net.places
  pub longest : All (λ p. p.hold ≤ hold) net.places

-- the most tokens of a place, and at least 1
pub record AreMostAtOne (net : NetLists) (tokens : ℕ) : Type 0 where
  pub some : 1 ≤ tokens
  pub attained : (tokens ≡ 1) ⊎ Any (λ p. p.tokens ≡ tokens) net.places
  pub most : All (λ p. p.tokens ≤ tokens) net.places

-- the number at this ratio, of so many transitions, this hold and these tokens: 0 where no circuit takes time
abbrev pub number_at : ℕ → ℕ → ℕ → Fraction → ℕ
number_at n hold tokens r = if r.time == 0 then 0 else bound_of n hold tokens r.time r.tokens

-- the number at this ratio, of the net
pub record IsNumberAt (net : NetLists) (r : Fraction) (number : ℕ) : Type 0 where
  pub hold : ℕ
  pub hold_is : IsLongestHold net hold
  pub tokens : ℕ
  pub tokens_are : AreMostAtOne net tokens
  pub is : number ≡ number_at (length net.transitions) hold tokens r

-- some transition is an input
abbrev pub HasSomeInput : NetLists → Type 0
HasSomeInput net = Any (λ t. t.role ≡ Input) net.transitions

-- some token is ready only after 0
abbrev pub HasLateToken : NetLists → Type 0
HasLateToken net = Any (λ p. Any (λ d. 1 ≤ d) p.ready) net.places

-- no transition is an input, and some place is there
pub record StandsAlone (net : NetLists) : Type 0 where
  pub no_input : HasSomeInput net → ⊥
  pub some_place : 0 < length net.places

-- a net without dates from outside, in which each transition waits for each other one in the end
pub record CanBeBounded (net : NetLists) : Type 0 where
  pub alone : StandsAlone net
  pub strong : EachReachesEach net
  pub ready : HasLateToken net → ⊥

-- the bound of such a net: the number at its greatest ratio, in lowest terms
pub record IsBoundNumber (net : NetLists) (number : ℕ) : Type 0 where
  pub bounded : CanBeBounded net
  pub ratio : Fraction
  pub greatest : IsGreatestRatio net IsAnyPlace ratio
  pub terms : IsLowestTerms ratio
  pub is : IsNumberAt net ratio number
