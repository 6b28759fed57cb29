-- Which rule of nets lists break first, and at which entry.
use Rattle.std.specs.Prelude.{ℕ, ◌+◌, ◌-◌, ◌<◌, ◌≤◌, ◌≡◌, ◌≢◌, ◌⊎◌, List, length, take, All, AllPairs, Any, IsSomeAnd, slice_get, slice_index}
use Rattle.std.specs.List.Sorted.{IsNonDecreasing}
use Rattle.teg_net.specs.declared.entries.Again.{Again}
use Rattle.teg_net.specs.declared.entries.Transition.{Transition}
use Rattle.teg_net.specs.declared.entries.Place.{Place}
use Rattle.teg_net.specs.declared.entries.InputList.{InputList}
use Rattle.teg_net.specs.declared.faults.NetFault.{NetFault}
use Rattle.teg_net.specs.declared.faults.NetFault.TheVariants.{NoTransition, ManyTransitions, ManyPlaces, SameTransition, SamePlace, BadPlace, SameInput, BadInput}
use Rattle.teg_net.specs.declared.faults.PlaceFault.{PlaceFault}
use Rattle.teg_net.specs.declared.faults.PlaceFault.TheVariants.{UnknownFrom, UnknownTo, EntersInput, LongHold, ManyTokens, ReadyCount, LateReady}
use Rattle.teg_net.specs.declared.faults.InputFault.{InputFault}
use Rattle.teg_net.specs.declared.faults.InputFault.TheVariants.{NoInput, ManyDates, LateDate, FallingDates, EveryZero, GreatEvery, GreatGap, FewDates, EarlyNext}
use Rattle.teg_net.specs.Limits.{most_transitions, most_places, greatest_hold, most_place_tokens, most_input_dates, greatest_input_date, greatest_every}
use Rattle.teg_net.specs.Nets.{NetLists, IsInput, IsPlaceOf, IsInputOf}

-- the entry at i has the key of an earlier one, and no two before it have the same
pub record IsFirstRepeat {X Y : Type 0} (key : X → Y) (xs : List X) (i : ℕ) : Type 0 where
  pub here : IsSomeAnd (slice_get xs i) (λ x. Any (λ y. key y ≡ key x) (take i xs))
  pub before : AllPairs (λ x y. key x ≢ key y) (take i xs)

-- the entry at i breaks a rule, and each before it keeps all of them
pub record IsFirstBreach {X : Type 0} (Keeps Breaks : X → Type 0) (xs : List X) (i : ℕ) : Type 0 where
  pub here : IsSomeAnd (slice_get xs i) Breaks
  pub before : All Keeps (take i xs)

-- both ends of the place are transitions of the net
abbrev pub HasEnds : NetLists → Place → Type 0
HasEnds net p = (p.from.index < length net.transitions) × (p.to.index < length net.transitions)

-- the place has its ends, and enters no input
abbrev pub StandsBetween : NetLists → Place → Type 0
StandsBetween net p = HasEnds net p × (IsInput net p.to.index → ⊥)

-- the place breaks this rule, and none of those before it
abbrev pub IsPlaceFault : NetLists → Place → PlaceFault → Type 0
IsPlaceFault net p UnknownFrom = length net.transitions ≤ p.from.index
IsPlaceFault net p UnknownTo = (p.from.index < length net.transitions) × (length net.transitions ≤ p.to.index)
IsPlaceFault net p EntersInput = HasEnds net p × IsInput net p.to.index
IsPlaceFault net p LongHold = StandsBetween net p × (greatest_hold < p.hold)
IsPlaceFault net p ManyTokens = StandsBetween net p × (p.hold ≤ greatest_hold) × (most_place_tokens < p.tokens)
IsPlaceFault net p ReadyCount =
    StandsBetween net p × (p.hold ≤ greatest_hold) × (p.tokens ≤ most_place_tokens) × (length p.ready ≢ 0) × (length p.ready ≢ p.tokens)
IsPlaceFault net p LateReady =
    StandsBetween net p × (p.hold ≤ greatest_hold) × (p.tokens ≤ most_place_tokens) × ((length p.ready ≡ 0) ⊎ (length p.ready ≡ p.tokens))
    × Any (λ d. greatest_input_date < d) p.ready

-- the way in which the list goes on breaks this rule, and none of those before it
abbrev pub IsAgainFault : List ℕ → Again → InputFault → Type 0
IsAgainFault dates a EveryZero = a.every ≡ 0
IsAgainFault dates a GreatEvery = greatest_every < a.every
IsAgainFault dates a GreatGap = (1 ≤ a.every) × (a.every ≤ greatest_every) × (greatest_input_date < a.gap)
IsAgainFault dates a FewDates =
    (1 ≤ a.every) × (a.every ≤ greatest_every) × (a.gap ≤ greatest_input_date) × (length dates < a.every)
IsAgainFault dates a EarlyNext =
    (1 ≤ a.every) × (a.every ≤ greatest_every) × (a.gap ≤ greatest_input_date) × (a.every ≤ length dates)
    × (slice_index dates (length dates - a.every) + a.gap < slice_index dates (length dates - 1))
IsAgainFault dates a other = ⊥

-- the list breaks this rule, and none of those before it
abbrev pub IsInputFault : NetLists → InputList → InputFault → Type 0
IsInputFault net l NoInput = IsInput net l.transition.index → ⊥
IsInputFault net l ManyDates = IsInput net l.transition.index × (most_input_dates < length l.dates)
IsInputFault net l LateDate =
    IsInput net l.transition.index × (length l.dates ≤ most_input_dates) × Any (λ d. greatest_input_date < d) l.dates
IsInputFault net l FallingDates =
    IsInput net l.transition.index × (length l.dates ≤ most_input_dates) × All (λ d. d ≤ greatest_input_date) l.dates
    × (IsNonDecreasing l.dates → ⊥)
IsInputFault net l fault =
    IsInput net l.transition.index × (length l.dates ≤ most_input_dates) × All (λ d. d ≤ greatest_input_date) l.dates
    × IsNonDecreasing l.dates × IsSomeAnd l.again (λ a. IsAgainFault l.dates a fault)

-- there is a transition, and there are no more transitions and places than a net has
abbrev pub IsOfNetSize : NetLists → Type 0
IsOfNetSize net = (1 ≤ length net.transitions) × (length net.transitions ≤ most_transitions) × (length net.places ≤ most_places)

-- no two transitions have one name
abbrev pub AreNamedApart : List Transition → Type 0
AreNamedApart ts = AllPairs (λ s t. s.name ≢ t.name) ts

-- no two places have one name
abbrev pub ArePlacesApart : List Place → Type 0
ArePlacesApart ps = AllPairs (λ p q. p.name ≢ q.name) ps

-- the lists break this rule, and none of those before it
abbrev pub IsNetFault : NetLists → NetFault → Type 0
IsNetFault net NoTransition = length net.transitions ≡ 0
IsNetFault net ManyTransitions = most_transitions < length net.transitions
IsNetFault net ManyPlaces =
    (1 ≤ length net.transitions) × (length net.transitions ≤ most_transitions) × (most_places < length net.places)
IsNetFault net (SameTransition t) = IsOfNetSize net × IsFirstRepeat (λ (x : Transition). x.name) net.transitions t.index
IsNetFault net (SamePlace p) =
    IsOfNetSize net × AreNamedApart net.transitions × IsFirstRepeat (λ (x : Place). x.name) net.places p.index
IsNetFault net (BadPlace p fault) =
    IsOfNetSize net × AreNamedApart net.transitions × ArePlacesApart net.places
    × IsFirstBreach (IsPlaceOf net) (λ x. IsPlaceFault net x fault) net.places p.index
IsNetFault net (SameInput i) =
    IsOfNetSize net × AreNamedApart net.transitions × ArePlacesApart net.places × All (IsPlaceOf net) net.places
    × IsFirstRepeat (λ (x : InputList). x.transition.index) net.inputs i
IsNetFault net (BadInput i fault) =
    IsOfNetSize net × AreNamedApart net.transitions × ArePlacesApart net.places × All (IsPlaceOf net) net.places
    × AllPairs (λ l m. l.transition.index ≢ m.transition.index) net.inputs
    × IsFirstBreach (IsInputOf net) (λ x. IsInputFault net x fault) net.inputs i
