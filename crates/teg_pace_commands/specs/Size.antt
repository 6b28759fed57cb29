-- What is said of the fewest further tokens of a place for a target ratio.
use Rattle.std.specs.Prelude.{ℕ, ◌≡◌, ◌≢◌, ◌⊎◌, List, All, IsSomeAnd, slice_get}
use Rattle.teg_net.specs.declared.entries.PlaceId.{PlaceId}
use Rattle.teg_net.specs.Nets.{NetLists}
use Rattle.teg_net.specs.Ratios.{Fraction, IsRatioOf}
use Rattle.teg_sizing.specs.declared.sizing.Sizing.{Sizing}
use Rattle.teg_sizing.specs.Sizings.{IsSizing}
use Rattle.teg_sizing.specs.SizingTexts.{HasNumberIn, no_place_lines, sizing_lines, told_sizing}
use Rattle.teg_report.specs.SlackLines.{IsRatioKept}
use Rattle.teg_report.specs.teg_text.Lines.{written}
use Rattle.teg_report.specs.teg_text.ValueWords.{AreBytes}
use Rattle.teg_outcome.specs.declared.outcome.Verdict.{Verdict}
use Rattle.teg_outcome.specs.declared.outcome.Verdict.TheVariants.{Done as VerdictDone, Name as VerdictName}

-- the place has this name
abbrev pub HasPlaceName : NetLists → PlaceId → List ℕ → Type 0
HasPlaceName net p word = IsSomeAnd (slice_get net.places p.index) (λ place. place.name ≡ word)

-- what is right to tell of the place and the target is said
abbrev pub SaysSizeOf : PlaceId → Fraction → NetLists → Verdict → List ℕ → Type 0
SaysSizeOf p r net verdict text =
    (verdict ≡ VerdictDone)
    × ((sizing : Sizing) × IsSizing net r p sizing × IsRatioKept r × HasNumberIn (told_sizing sizing) × (text ≡ written (sizing_lines net p r (told_sizing sizing))))

-- that no place has this name is said
abbrev pub TellsNoPlace : List ℕ → Verdict → List ℕ → Type 0
TellsNoPlace word verdict text = (verdict ≡ VerdictName) × AreBytes word × (text ≡ written (no_place_lines word))

-- of a live net the fewest further tokens of the place of this name are said, for the ratio of this time to these tokens; or that no
-- place has the name
abbrev pub SaysSize : List ℕ → ℕ → ℕ → NetLists → Verdict → List ℕ → Type 0
SaysSize word time tokens net verdict text =
    (All (λ p. p.name ≢ word) net.places × TellsNoPlace word verdict text)
    ⊎ ((p : PlaceId) × (r : Fraction) × HasPlaceName net p word × IsRatioOf time tokens r × SaysSizeOf p r net verdict text)
