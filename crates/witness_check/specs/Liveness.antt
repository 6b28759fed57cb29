-- The texts that tell whether a net is live.
use Rattle.std.specs.Prelude.{ℕ, ◌≡◌, ◌++◌, ◌∷◌, [], List, codes, flat_map, length}
use Rattle.std.specs.Fmt.{decimal}
use Rattle.teg_net.specs.declared.entries.PlaceId.{PlaceId}
use Rattle.teg_net.specs.Nets.{NetLists}
use Rattle.teg_net.specs.Circuits.{IsCircuit, tokens_of}
use Rattle.teg_text.specs.Lines.{written}
use Rattle.teg_text.specs.WordsOfNames.{name_of_place}

-- the text that tells these places, a circuit without tokens
abbrev pub deadlock_text : NetLists → List PlaceId → List ℕ
deadlock_text net ps = codes "refused: token-free circuit" ++ flat_map (λ p. 32 ∷ name_of_place net p) ps ++ 10 ∷ []

-- the text tells a circuit of the net that has no token
abbrev pub TellsDeadlock : NetLists → List ℕ → Type 0
TellsDeadlock net text = (ps : List PlaceId) × IsCircuit net ps × (tokens_of net ps ≡ 0) × (text ≡ deadlock_text net ps)

-- the lines of a live net of so many transitions and places
abbrev pub live_words : ℕ → ℕ → List (List (List ℕ))
live_words transitions places = (codes "live" ∷ []) ∷ (codes "transitions" ∷ decimal transitions ∷ []) ∷ (codes "places" ∷ decimal places ∷ []) ∷ []

-- the text tells that the net is live, and how many transitions and places it has
abbrev pub TellsLive : NetLists → List ℕ → Type 0
TellsLive net text = text ≡ written (live_words (length net.transitions) (length net.places))
