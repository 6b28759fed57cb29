-- The greatest ratio over the circuits of a net, or of a part, is one (chapters 2 and 3).
use Rattle.std.specs.Prelude.{ℕ, ◌*◌, ◌≡◌, List}
use Rattle.teg_net.specs.GreatestRatios.{IsAnyPlace, IsGreatestRatio}
use Rattle.teg_net.specs.Nets.{NetLists}
use Rattle.teg_net.specs.Parts.{IsPlaceOfPart}
use Rattle.teg_net.specs.Ratios.{Fraction, IsLowestTerms}

-- two greatest ratios over all circuits of a net are one fraction, and so are two over the circuits of a part
pub record GreatestRatiosAreOne : Type 0 where
  pub of_net : (net : NetLists) (r s : Fraction) → IsGreatestRatio net IsAnyPlace r → IsGreatestRatio net IsAnyPlace s → r.time * s.tokens ≡ s.time * r.tokens
  pub of_part : (net : NetLists) (part_of : List ℕ) (part : ℕ) (r s : Fraction) → IsGreatestRatio net (IsPlaceOfPart net part_of part) r
      → IsGreatestRatio net (IsPlaceOfPart net part_of part) s → r.time * s.tokens ≡ s.time * r.tokens

-- and in lowest terms they have one time and one number of tokens
pub record LowestRatiosAreOne : Type 0 where
  pub of_net : (net : NetLists) (r s : Fraction) → IsGreatestRatio net IsAnyPlace r → IsGreatestRatio net IsAnyPlace s → IsLowestTerms r → IsLowestTerms s → r ≡ s
  pub of_part : (net : NetLists) (part_of : List ℕ) (part : ℕ) (r s : Fraction) → IsGreatestRatio net (IsPlaceOfPart net part_of part) r
      → IsGreatestRatio net (IsPlaceOfPart net part_of part) s → IsLowestTerms r → IsLowestTerms s → r ≡ s
