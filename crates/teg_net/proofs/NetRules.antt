-- The rules of a net, put together from tests of its lists.
use Rattle.std.proofs.Common.{◌≢◌, ◌≤◌, List, [], length, get_or}
use Rattle.std.specs.Prelude.{All, AllPairs, IsTrue}
use Rattle.teg_net.specs.declared.entries.Transition.{Transition}
use Rattle.teg_net.specs.declared.entries.Place.{Place}
use Rattle.teg_net.specs.declared.entries.InputList.{InputList}
use Rattle.teg_net.specs.Limits.{most_transitions, most_places, greatest_hold, most_place_tokens}
use Rattle.teg_net.specs.Names.{is_name}
use Rattle.teg_net.specs.Nets.{NetLists, IsPlaceOf, IsInputOf, IsNet, HasEndsInRange, HasListsByRule, HasRisingLists, HasListsOfInputs, lists_of, transitions_alone}

-- what may stand in a net may stand in each net of the same transitions
module _ (transitions : List Transition) (places others : List Place) (inputs more : List InputList) where
  pub place_along : (p : Place) → IsPlaceOf (lists_of transitions places inputs) p → IsPlaceOf (lists_of transitions others more) p
  place_along p h = record {
    from_in = h.from_in;
    to_in = h.to_in;
    enters_no_input = h.enters_no_input;
    hold_in = h.hold_in;
    tokens_in = h.tokens_in;
    ready_all = h.ready_all;
    ready_in = h.ready_in;
  }

  pub input_along : (l : InputList) → IsInputOf (lists_of transitions places inputs) l → IsInputOf (lists_of transitions others more) l
  input_along l h = record {
    is_input = h.is_input;
    few = h.few;
    dates_in = h.dates_in;
    never_falls = h.never_falls;
    again = h.again;
  }

-- each entry of the lists has a name, where it needs one, and may stand in a net of these transitions
abbrev pub AreEntries : List Transition → List Place → List InputList → Type 0
AreEntries ts ps ls =
    All (λ t. IsTrue (is_name t.name)) ts × All (λ p. IsTrue (is_name p.name)) ps × All (IsPlaceOf (transitions_alone ts)) ps × All (IsInputOf (transitions_alone ts)) ls

abbrev pub AreFew : List Transition → List Place → Type 0
AreFew ts ps = (1 ≤ length ts) × (length ts ≤ most_transitions) × (length ps ≤ most_places)

abbrev pub AreDistinct : List Transition → List Place → List InputList → Type 0
AreDistinct ts ps ls =
    AllPairs (λ s t. s.name ≢ t.name) ts × AllPairs (λ p q. p.name ≢ q.name) ps × AllPairs (λ l m. l.transition.index ≢ m.transition.index) ls

pub rules_hold : (ts : List Transition) (ps : List Place) (ls : List InputList) → AreFew ts ps → AreEntries ts ps ls → AreDistinct ts ps ls → IsNet (lists_of ts ps ls)
rules_hold ts ps ls few each apart = record {
  some_transition = few.0;
  few_transitions = few.1;
  few_places = few.2;
  transition_names = each.0;
  place_names = each.1;
  distinct_transitions = apart.0;
  distinct_places = apart.1;
  each_place = λ i d l. place_along ts [] ps [] ls (get_or ps i d) (each.2 i d l);
  one_list = apart.2;
  each_input = λ i d l. input_along ts [] ps [] ls (get_or ls i d) (each.3 i d l);
}

-- ---- what a net keeps, where a law asks for no more

-- its places begin and end at its transitions
pub net_ends : (net : NetLists) → IsNet net → HasEndsInRange net
net_ends net ok i d l = ((ok.each_place i d l).from_in, (ok.each_place i d l).to_in)

-- its lists end, or go on by the rule
pub lists_by_rule : (net : NetLists) → IsNet net → HasListsByRule net
lists_by_rule net ok i d l = (ok.each_input i d l).again

-- the dates of a list never fall
pub lists_rise : (net : NetLists) → IsNet net → HasRisingLists net
lists_rise net ok i d l = (ok.each_input i d l).never_falls

-- and each list is that of one input
pub lists_of_inputs : (net : NetLists) → IsNet net → HasListsOfInputs net
lists_of_inputs net ok = record { is_input = λ i d l. (ok.each_input i d l).is_input; one_list = ok.one_list }

-- no place has a longer hold than the limit, or more tokens
pub holds_within : (net : NetLists) → IsNet net → All (λ p. p.hold ≤ greatest_hold) net.places
holds_within net ok i d l = (ok.each_place i d l).hold_in

pub tokens_within : (net : NetLists) → IsNet net → All (λ p. p.tokens ≤ most_place_tokens) net.places
tokens_within net ok i d l = (ok.each_place i d l).tokens_in
