-- What the text of the slack of the places of a net shows.
use Rattle.std.specs.Prelude.{ℕ, ◌+◌, ◌<◌, ◌≡◌, ◌∷◌, [], List, Contains, codes, length, map, slice_index_or}
use Rattle.std.specs.Fmt.{decimal}
use Rattle.std.specs.List.{range_with_len}
use Rattle.answer_check.specs.declared.slack.ShownSlack.{ShownSlack}
use Rattle.answer_check.specs.declared.slack.ShownSlack.TheVariants.{NoCircuit, Critical, Rise}
use Rattle.teg_net.specs.declared.entries.PlaceId.{PlaceId}
use Rattle.teg_net.specs.Circuits.{IsCircuit, IsLive}
use Rattle.teg_net.specs.GreatestRatios.{IsAnyPlace, IsGreatestRatio}
use Rattle.teg_net.specs.Nets.{NetLists}
use Rattle.teg_net.specs.Ratios.{Fraction, IsLowestTerms}
use Rattle.teg_certificates.specs.SlackWitnesses.{IsAboveWhenRaised, IsCriticalCircuit, MayRise}
use Rattle.teg_text.specs.Lines.{phrase, written}
use Rattle.teg_text.specs.ValueWords.{ratio_word}
use Rattle.teg_text.specs.WordsOfNames.{name_of_place}

-- no circuit passes the place
abbrev pub PassesNone : NetLists → PlaceId → Type 0
PassesNone net p = (ps : List PlaceId) → IsCircuit net ps → Contains ps p → ⊥

-- a circuit of this ratio passes the place
abbrev pub IsPassedBest : NetLists → Fraction → PlaceId → Type 0
IsPassedBest net r p = (ps : List PlaceId) × IsCriticalCircuit net r p ps

-- where the hold of the place is longer by so much, no circuit that passes it is above the ratio, and where it is longer by one more, one is;
-- as it is, each is below
pub record RisesJustBy (net : NetLists) (r : Fraction) (p : PlaceId) (by : ℕ) : Type 0 where
  pub may : MayRise net r p by
  pub no_more : (ps : List PlaceId) × IsAboveWhenRaised net r p (by + 1) ps

-- of the place this is so, where r is the greatest ratio of the net
abbrev pub TellsOfPlace : NetLists → Fraction → PlaceId → ShownSlack → Type 0
TellsOfPlace net r p NoCircuit = PassesNone net p
TellsOfPlace net r p Critical = IsPassedBest net r p
TellsOfPlace net r p (Rise by) = RisesJustBy net r p by

-- the words of what is told of a place
abbrev pub words_of_slack : ShownSlack → List (List ℕ)
words_of_slack NoCircuit = phrase (codes "no circuit")
words_of_slack Critical = codes "critical" ∷ []
words_of_slack (Rise by) = codes "slack" ∷ decimal by ∷ []

-- the line of the place of this number, counted from 0
abbrev pub line_of_slack : NetLists → ℕ → ShownSlack → List (List ℕ)
line_of_slack net i slack = codes "place" ∷ name_of_place net (record { index = i }) ∷ words_of_slack slack

-- the line of a ratio
abbrev pub line_of_pace : Fraction → List (List ℕ)
line_of_pace r = codes "cycle" ∷ codes "time" ∷ ratio_word r.time r.tokens ∷ []

-- a ratio, and a line for each place
abbrev pub lines_of_slacks : NetLists → Fraction → List ShownSlack → List (List (List ℕ))
lines_of_slacks net r slacks = line_of_pace r ∷ map (λ i. line_of_slack net i (slice_index_or slacks i NoCircuit)) (range_with_len 0 (length net.places))

-- of each of the first `count` places what is told is so
abbrev pub AreToldOfPlaces : NetLists → Fraction → ℕ → List ShownSlack → Type 0
AreToldOfPlaces net r count slacks = (i : ℕ) → i < count → TellsOfPlace net r (record { index = i }) (slice_index_or slacks i NoCircuit)

-- the whole text is that of this ratio and of what is told of each place, and that is so
abbrev pub TellsSlacks : NetLists → List ℕ → Fraction → Type 0
TellsSlacks net text r = (slacks : List ShownSlack) × AreToldOfPlaces net r (length net.places) slacks × (text ≡ written (lines_of_slacks net r slacks))

-- the net is live; the text tells its greatest ratio, in lowest terms, and of each place its slack, or that none or one of the greatest ratio of
-- its circuits passes it
pub record IsShownSlack (net : NetLists) (text : List ℕ) (r : Fraction) : Type 0 where
  pub live : IsLive net
  pub greatest : IsGreatestRatio net IsAnyPlace r
  pub terms : IsLowestTerms r
  pub told : TellsSlacks net text r
