-- Places and ratios by the words of a text.
use Rattle.std.specs.Prelude.{ℕ, ◌<◌, ◌≡◌, ◌^◌, ◌∷◌, List, Option, Some, None, flat_map, map}
use Rattle.teg_net.specs.declared.entries.PlaceId.{PlaceId}
use Rattle.teg_net.specs.Circuits.{AreInRange}
use Rattle.teg_net.specs.Nets.{NetLists}
use Rattle.teg_net.specs.Ratios.{Fraction, IsLowestTerms}
use Rattle.teg_text.specs.ValueWords.{ratio_word}
use Rattle.teg_text.specs.WordsOfNames.{name_of_place}

-- the names of these places, each behind a blank
abbrev pub names_behind_blanks : NetLists → List PlaceId → List ℕ
names_behind_blanks net ps = flat_map (λ p. 32 ∷ name_of_place net p) ps

-- the text is the names of these places of the net
pub record AreNamedBy (net : NetLists) (text : List ℕ) (ps : List PlaceId) : Type 0 where
  pub in_range : AreInRange net ps
  pub told : text ≡ names_behind_blanks net ps

-- the places that the text names; none just where it names no places in this way
abbrev pub NamesPlaces : NetLists → List ℕ → Option (List PlaceId) → Type 0
NamesPlaces net text (Some ps) = AreNamedBy net text ps
NamesPlaces net text None = (ps : List PlaceId) → AreNamedBy net text ps → ⊥

-- the ratio that is read; of each ratio in lowest terms of two numbers of 64 bits, it is this one where the word is that of it
abbrev pub ReadsRatio : List ℕ → Option Fraction → Type 0
ReadsRatio word read = (r : Fraction) → IsLowestTerms r → r.time < 2 ^ 64 → r.tokens < 2 ^ 64 → word ≡ ratio_word r.time r.tokens → read ≡ Some r

-- places of the net with just these names
pub record AreNamed (net : NetLists) (names : List (List ℕ)) (ps : List PlaceId) : Type 0 where
  pub in_range : AreInRange net ps
  pub told : map (name_of_place net) ps ≡ names

-- the places of these names; none just where one is the name of no place
abbrev pub NamesEach : NetLists → List (List ℕ) → Option (List PlaceId) → Type 0
NamesEach net names (Some ps) = AreNamed net names ps
NamesEach net names None = (ps : List PlaceId) → AreNamed net names ps → ⊥
