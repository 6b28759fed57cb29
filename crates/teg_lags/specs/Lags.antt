-- Transitions whose places lead on alike, but that from one all places are held so much longer than from the other (chapter 5).
use Rattle.std.specs.Prelude.{ℕ, ℤ, pos, ◌<◌, ◌≡◌, ◌+ℤ◌, ◌-ℤ◌, List, Contains, length, map}
use Rattle.dioid.specs.Dates.{move}
use Rattle.teg_net.specs.declared.entries.Place.{Place}
use Rattle.teg_net.specs.declared.entries.PlaceId.{PlaceId}
use Rattle.teg_net.specs.declared.places_of.PlaceEnd.TheVariants.{From}
use Rattle.teg_net.specs.Circuits.{from_of, place_at}
use Rattle.teg_net.specs.Nets.{NetLists, IsNet, IsInput}
use Rattle.teg_net.specs.PlaceLists.{ArePlacesOf}
use Rattle.teg_settle.specs.settled_laws.SettledForms.{SettledForm, row_of, step_of_form}
use Rattle.teg_settle.specs.walk_times.Transfers.{IsTransferOf}

-- place q has the end and the tokens of place p, and is held so much longer
pub record IsHeldLonger (lag : ℤ) (p q : Place) : Type 0 where
  pub to : q.to.index ≡ p.to.index
  pub tokens : q.tokens ≡ p.tokens
  pub hold : pos q.hold ≡ pos p.hold +ℤ lag

-- one of these places has the end and the tokens of place p, and is held so much longer
abbrev pub HasHeldLonger : NetLists → ℤ → List PlaceId → Place → Type 0
HasHeldLonger net lag others p = (q : PlaceId) × Contains others q × IsHeldLonger lag p (place_at net q)

-- one of these places has this holding time
abbrev pub HasHold : NetLists → List PlaceId → ℕ → Type 0
HasHold net places hold = (p : PlaceId) × Contains places p × ((place_at net p).hold ≡ hold)

-- to each place that leaves transition u there is one that leaves v, of the same end and tokens, and held so much longer
abbrev pub LeadsLonger : NetLists → ℕ → ℕ → ℤ → Type 0
LeadsLonger net u v lag =
    (p : PlaceId) → p.index < length net.places → from_of net p ≡ u → (q : PlaceId) × (q.index < length net.places) × (from_of net q ≡ v) × IsHeldLonger lag (place_at net p) (place_at net q)

-- transitions u and v lead on alike, but that from v all is held so much longer
abbrev pub AreLagged : NetLists → ℕ → ℕ → ℤ → Type 0
AreLagged net u v lag = LeadsLonger net u v lag × LeadsLonger net v u (pos 0 -ℤ lag)

-- of each transition the places that leave it
abbrev pub AreLeaving : NetLists → List (List PlaceId) → Type 0
AreLeaving net lists = ArePlacesOf net From lists

-- g has the number and the period of f, and at each transition that is no input the row of f, each date so much later, and its step
pub record IsFormMoved (net : NetLists) (lag : ℤ) (f g : SettledForm) : Type 0 where
  pub after : f.after ≡ g.after
  pub period : f.period ≡ g.period
  pub rows : (t : ℕ) → t < length net.transitions → (IsInput net t → ⊥) → map (move lag) (row_of f t) ≡ row_of g t
  pub steps : (t : ℕ) → t < length net.transitions → (IsInput net t → ⊥) → step_of_form f t ≡ step_of_form g t

-- the times of walks from an input from which all is held so much longer are those from the other one, moved
abbrev pub LaggedTimesAreMoved : Type 0
LaggedTimesAreMoved = (net : NetLists) → IsNet net → (u v : ℕ) (lag : ℤ) → IsInput net u → IsInput net v → AreLagged net u v lag
    → (f g : SettledForm) → IsTransferOf net u f → IsTransferOf net v g → IsFormMoved net lag f g
