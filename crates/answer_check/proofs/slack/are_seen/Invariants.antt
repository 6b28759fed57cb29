use Rattle.std.proofs.Common.{◌≡◌, Some}
use Rattle.teg_net.specs.Ratios.{Fraction}
use Rattle.teg_certificates.specs.BestRatios.{best_ratio_of}
use Rattle.answer_check.specs.ShownSlacks.{AreToldOfPlaces}
use Rattle.answer_check.proofs.slack.are_seen.Given as goal

abbrev pub invariant-loop-index : goal.invariant-loop-index
invariant-loop-index l = (r : Fraction) → best_ratio_of l.answer ≡ Some r → AreToldOfPlaces l.net r l.index l.slacks
