-- What a net has, as words of a text: transitions and places by their names, and circuits by those of their places; and how
-- they are read back. No text rests on what is read back: all that it says is that there are such functions.
use Rattle.std.specs.Prelude.{ℕ, ◌<◌, ◌≡◌, List, [], ◌∷◌, length, map, codes, slice_index_or}
use Rattle.std.specs.Fmt.{decimal}
use Rattle.teg_net.specs.declared.entries.PlaceId.{PlaceId}
use Rattle.teg_net.specs.declared.entries.Role.TheVariants.{Internal}
use Rattle.teg_net.specs.declared.entries.Transition.{Transition}
use Rattle.teg_net.specs.declared.entries.TransitionId.{TransitionId}
use Rattle.teg_net.specs.Circuits.{place_at}
use Rattle.teg_net.specs.Nets.{NetLists, IsNet}
use Rattle.teg_net.specs.Ratios.{Fraction}
use Rattle.teg_text.specs.WordReading.{number_in, before_slash, behind_slash, index_in}

-- what stands past the end of the list of transitions
abbrev pub no_transition : Transition
no_transition = record { name = []; role = Internal }

-- the name of a transition
abbrev pub name_of_transition : NetLists → TransitionId → List ℕ
name_of_transition net id = (slice_index_or net.transitions id.index no_transition).name

-- the name of a place
abbrev pub name_of_place : NetLists → PlaceId → List ℕ
name_of_place net id = (place_at net id).name

-- a circuit, by the names of its places in order
abbrev pub circuit_line : NetLists → List PlaceId → List (List ℕ)
circuit_line net circuit = codes "circuit" ∷ map (name_of_place net) circuit

-- past which number dates go on, and in how many numbers by a step
abbrev pub settled_words : ℕ → ℕ → List (List ℕ)
settled_words after period = codes "settled" ∷ codes "after" ∷ decimal after ∷ codes "period" ∷ decimal period ∷ []

-- the transition of this name
abbrev pub transition_in : NetLists → List ℕ → TransitionId
transition_in net name = record { index = index_in (λ t. t.name) net.transitions name }

-- the place of this name
abbrev pub place_named : NetLists → List ℕ → PlaceId
place_named net name = record { index = index_in (λ p. p.name) net.places name }

-- a ratio
abbrev pub ratio_of_word : List ℕ → Fraction
ratio_of_word word = record { time = number_in (before_slash word); tokens = number_in (behind_slash word) }

-- transitions of a net are read back from their names
abbrev pub TransitionsAreRead : Type 0
TransitionsAreRead = (net : NetLists) → IsNet net → (id : TransitionId) → id.index < length net.transitions → transition_in net (name_of_transition net id) ≡ id

-- places of a net are read back from their names
abbrev pub PlacesAreRead : Type 0
PlacesAreRead = (net : NetLists) → IsNet net → (id : PlaceId) → id.index < length net.places → place_named net (name_of_place net id) ≡ id
