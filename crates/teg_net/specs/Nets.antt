-- What a net is: its lists, and the rules that they keep.
use Rattle.std.specs.Prelude.{ℕ, ◌+◌, ◌-◌, ◌<◌, ◌≤◌, ◌≡◌, ◌≢◌, ◌⊎◌, List, Option, Some, None, IsSomeAnd, slice_get, slice_index, length, All, AllPairs, IsTrue, ⊤, []}
use Rattle.std.specs.List.Sorted.{IsNonDecreasing}
use Rattle.teg_net.specs.declared.entries.Role.TheVariants.{Input}
use Rattle.teg_net.specs.declared.entries.Again.{Again}
use Rattle.teg_net.specs.declared.entries.Transition.{Transition}
use Rattle.teg_net.specs.declared.entries.Place.{Place}
use Rattle.teg_net.specs.declared.entries.InputList.{InputList}
use Rattle.teg_net.specs.Limits.{most_transitions, most_places, greatest_hold, most_place_tokens, most_input_dates, greatest_input_date, greatest_every}
use Rattle.teg_net.specs.Names.{is_name}

-- the lists of a net, each in the order of the file
pub record NetLists : Type 0 where
  pub transitions : List Transition
  pub places : List Place
  pub inputs : List InputList

-- the lists of these entries
abbrev pub lists_of : List Transition → List Place → List InputList → NetLists
lists_of transitions places inputs = record { transitions = transitions; places = places; inputs = inputs }

-- the transition of this number is an input
abbrev pub IsInput : NetLists → ℕ → Type 0
IsInput net t = IsSomeAnd (slice_get net.transitions t) (λ x. x.role ≡ Input)

-- both ends of the place are transitions of the net, the end is no input, its numbers keep their limits,
-- and it has no ready date, which means that all tokens are ready at 0, or one for each token
pub record IsPlaceOf (net : NetLists) (p : Place) : Type 0 where
  pub from_in : p.from.index < length net.transitions
  pub to_in : p.to.index < length net.transitions
  pub enters_no_input : IsInput net p.to.index → ⊥
  pub hold_in : p.hold ≤ greatest_hold
  pub tokens_in : p.tokens ≤ most_place_tokens
  pub ready_all : (length p.ready ≡ 0) ⊎ (length p.ready ≡ p.tokens)
  pub ready_in : All (λ d. d ≤ greatest_input_date) p.ready

-- each place begins and ends at a transition of the net
abbrev pub HasEndsInRange : NetLists → Type 0
HasEndsInRange net = All (λ p. (p.from.index < length net.transitions) × (p.to.index < length net.transitions)) net.places

-- the list goes on past its end: each date is that of `every` firings before, plus the gap, and dates do not fall there
pub record ListGoesOn (dates : List ℕ) (a : Again) : Type 0 where
  pub some : 1 ≤ a.every
  pub every_in : a.every ≤ greatest_every
  pub gap_in : a.gap ≤ greatest_input_date
  pub enough : a.every ≤ length dates
  pub joins : slice_index dates (length dates - 1) ≤ slice_index dates (length dates - a.every) + a.gap

-- the rule of a list that ends, or goes on
abbrev pub EndsOrGoesOn : List ℕ → Option Again → Type 0
EndsOrGoesOn dates None = ⊤
EndsOrGoesOn dates (Some a) = ListGoesOn dates a

-- each input list keeps the rule of one that ends or goes on
abbrev pub HasListsByRule : NetLists → Type 0
HasListsByRule net = All (λ l. EndsOrGoesOn l.dates l.again) net.inputs

-- the dates of each input list never fall
abbrev pub HasRisingLists : NetLists → Type 0
HasRisingLists net = All (λ l. IsNonDecreasing l.dates) net.inputs

-- each input list is of an input, and no two are of the same
pub record HasListsOfInputs (net : NetLists) : Type 0 where
  pub is_input : All (λ l. IsInput net l.transition.index) net.inputs
  pub one_list : AllPairs (λ l m. l.transition.index ≢ m.transition.index) net.inputs

-- a list of an input of the net: its dates keep their limits and never fall
pub record IsInputOf (net : NetLists) (l : InputList) : Type 0 where
  pub is_input : IsInput net l.transition.index
  pub few : length l.dates ≤ most_input_dates
  pub dates_in : All (λ d. d ≤ greatest_input_date) l.dates
  pub never_falls : IsNonDecreasing l.dates
  pub again : EndsOrGoesOn l.dates l.again

-- the rules that a net keeps
pub record IsNet (net : NetLists) : Type 0 where
  pub some_transition : 1 ≤ length net.transitions
  pub few_transitions : length net.transitions ≤ most_transitions
  pub few_places : length net.places ≤ most_places
  pub transition_names : All (λ t. IsTrue (is_name t.name)) net.transitions
  pub place_names : All (λ p. IsTrue (is_name p.name)) net.places
  pub distinct_transitions : AllPairs (λ s t. s.name ≢ t.name) net.transitions
  pub distinct_places : AllPairs (λ p q. p.name ≢ q.name) net.places
  pub each_place : All (IsPlaceOf net) net.places
  pub one_list : AllPairs (λ l m. l.transition.index ≢ m.transition.index) net.inputs
  pub each_input : All (IsInputOf net) net.inputs

-- the net with the same transitions and places in order, and no input list
abbrev pub without_inputs : NetLists → NetLists
without_inputs net = lists_of net.transitions net.places []

-- the net of these transitions and nothing else
abbrev pub transitions_alone : List Transition → NetLists
transitions_alone transitions = lists_of transitions [] []
