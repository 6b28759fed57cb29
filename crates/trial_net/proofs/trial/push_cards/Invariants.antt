use Rattle.std.proofs.Common.{◌≡◌, ◌++◌, map}
use Rattle.std.specs.List.{range_with_len}
use Rattle.trial_net.specs.Trials.{card_place}
use Rattle.trial_net.proofs.trial.push_cards.Given as goal

abbrev pub invariant-loop-before : goal.invariant-loop-before
invariant-loop-before l = l.places.items ≡ l.initial.places.items ++ map card_place (range_with_len 1 l.before)
