-- What the text of a number of tokens shows.
use Rattle.std.specs.Prelude.{ℕ, ◌-◌, ◌<◌, ◌≤◌, ◌≡◌, ◌⊎◌, ◌∷◌, [], List, Option, Some, None, codes, length}
use Rattle.std.specs.Fmt.{decimal}
use Rattle.teg_net.specs.declared.entries.PlaceId.{PlaceId}
use Rattle.teg_net.specs.Nets.{NetLists}
use Rattle.teg_net.specs.Ratios.{Fraction, IsLowestTerms}
use Rattle.teg_text.specs.ValueWords.{ratio_word}
use Rattle.teg_text.specs.Lines.{written}
use Rattle.teg_text.specs.WordsOfNames.{circuit_line, name_of_place}
use Rattle.teg_certificates.specs.Sizes.{IsAlwaysAbove, IsEnough, IsStillAbove}
use Rattle.pace_check.specs.PathPotentials.{IsTarget}
use Rattle.pace_check.specs.declared.sizes.ShownSize.{ShownSize}
use Rattle.pace_check.specs.declared.sizes.ShownSize.TheVariants.{Enough, Impossible}

-- what is enough is at least this
abbrev pub IsAtMostEnough : NetLists → Fraction → PlaceId → ℕ → Type 0
IsAtMostEnough net target place extra = (d : ℕ) → IsEnough net target place d → extra ≤ d

-- no number is enough
abbrev pub IsNoneEnough : NetLists → Fraction → PlaceId → Type 0
IsNoneEnough net target place = (d : ℕ) → IsEnough net target place d → ⊥

-- the words of a number that is enough
abbrev pub enough_words : NetLists → PlaceId → Fraction → ℕ → List (List ℕ)
enough_words net place target extra = codes "size" ∷ name_of_place net place ∷ ratio_word target.time target.tokens ∷ codes "extra" ∷ decimal extra ∷ []

-- the words of a target that no number reaches
abbrev pub impossible_words : NetLists → PlaceId → Fraction → List (List ℕ)
impossible_words net place target = codes "size" ∷ name_of_place net place ∷ ratio_word target.time target.tokens ∷ codes "impossible" ∷ []

-- the place is one of the net, and the target is one that may be asked, in lowest terms
pub record IsAskedSize (net : NetLists) (place : PlaceId) (target : Fraction) : Type 0 where
  pub place_in : place.index < length net.places
  pub terms : IsLowestTerms target
  pub within : IsTarget target

-- the whole text is the line of this number; where it is above 0, with the line of this circuit, which passes the place and is above the
-- target where the place has one further token less
abbrev pub TellsEnoughBy : NetLists → List ℕ → PlaceId → Fraction → ℕ → List PlaceId → Type 0
TellsEnoughBy net text place target extra circuit =
    ((extra ≡ 0) × (text ≡ written (enough_words net place target extra ∷ [])))
    ⊎ ((1 ≤ extra) × IsStillAbove net target place (extra - 1) circuit × (text ≡ written (enough_words net place target extra ∷ circuit_line net circuit ∷ [])))

-- the same by some circuit
abbrev pub TellsEnough : NetLists → List ℕ → PlaceId → Fraction → ℕ → Type 0
TellsEnough net text place target extra = (circuit : List PlaceId) × TellsEnoughBy net text place target extra circuit

-- the whole text is the line that no number is enough, with that of this circuit, which is above the target, and no number of them helps it
abbrev pub TellsImpossibleBy : NetLists → List ℕ → PlaceId → Fraction → List PlaceId → Type 0
TellsImpossibleBy net text place target circuit =
    IsAlwaysAbove net target place circuit × (text ≡ written (impossible_words net place target ∷ circuit_line net circuit ∷ []))

-- the same by some circuit
abbrev pub TellsImpossible : NetLists → List ℕ → PlaceId → Fraction → Type 0
TellsImpossible net text place target = (circuit : List PlaceId) × TellsImpossibleBy net text place target circuit

-- the text tells this number of further tokens of a place of the net, which is the least that is enough for a target that may be asked; or
-- such a target that no number reaches
abbrev pub IsShownSize : NetLists → List ℕ → ShownSize → Type 0
IsShownSize net text (Enough place target extra) =
    IsAskedSize net place target × TellsEnough net text place target extra × IsEnough net target place extra × IsAtMostEnough net target place extra
IsShownSize net text (Impossible place target) = IsAskedSize net place target × TellsImpossible net text place target × IsNoneEnough net target place

-- what the text is shown to tell; none just where it tells no such thing
abbrev pub ShowsSize : NetLists → List ℕ → Option ShownSize → Type 0
ShowsSize net text (Some shown) = IsShownSize net text shown
ShowsSize net text None = (shown : ShownSize) → IsShownSize net text shown → ⊥
