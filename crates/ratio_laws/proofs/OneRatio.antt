-- Each of two greatest ratios bounds the other.
use Rattle.std.proofs.Common.{◌*◌, ◌≤◌, ◌≡◌, arith}
use Rattle.teg_net.specs.declared.entries.PlaceId.{PlaceId}
use Rattle.teg_net.specs.Circuits.{time_of, tokens_of}
use Rattle.teg_net.specs.GreatestRatios.{IsAnyPlace, IsGreatestRatio}
use Rattle.teg_net.specs.Nets.{NetLists}
use Rattle.teg_net.specs.Parts.{IsPlaceOfPart}
use Rattle.teg_net.specs.Ratios.{Fraction}
use Rattle.teg_net.proofs.RatioOrdering.{one_ratio}
use Rattle.pace_laws.proofs.Slower.{bounded}
use Rattle.ratio_laws.specs.OneRatio.{GreatestRatiosAreOne, LowestRatiosAreOne}

-- the circuit that has the first is bounded by the second
at_most : (net : NetLists) (Within : PlaceId → Type 0) (r s : Fraction) → IsGreatestRatio net Within r → IsGreatestRatio net Within s → r.time * s.tokens ≤ s.time * r.tokens
at_most net Within r s g h =
    let ps = g.attained.0 in
    let time = time_of net ps in
    let tokens = tokens_of net ps in
    bounded time tokens time tokens r.time r.tokens s.time s.tokens (omega (arith, g.token)) (omega arith) (omega arith) g.attained.3 (h.greatest ps g.attained.1 g.attained.2)

-- so they are one fraction
equal : (net : NetLists) (Within : PlaceId → Type 0) (r s : Fraction) → IsGreatestRatio net Within r → IsGreatestRatio net Within s → r.time * s.tokens ≡ s.time * r.tokens
equal net Within r s g h = omega (arith, at_most net Within r s g h, at_most net Within s r h g)

pub one : GreatestRatiosAreOne
one = record {
  of_net = λ net r s g h. equal net IsAnyPlace r s g h;
  of_part = λ net part_of part r s g h. equal net (IsPlaceOfPart net part_of part) r s g h;
}

pub one_lowest : LowestRatiosAreOne
one_lowest = record {
  of_net = λ net r s g h lowest terms. one_ratio r s lowest terms (equal net IsAnyPlace r s g h);
  of_part = λ net part_of part r s g h lowest terms. one_ratio r s lowest terms (equal net (IsPlaceOfPart net part_of part) r s g h);
}
