use Rattle.token_shares.specs.BareNets.{IsTrialUpTo}
use Rattle.token_shares.proofs.trials.net_with.Given as goal

abbrev pub invariant-loop-index : goal.invariant-loop-index
invariant-loop-index l = IsTrialUpTo l.plain l.places l.numbers l.index l.trial
