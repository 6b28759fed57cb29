use Rattle.std.specs.Prelude.{All}
use Rattle.token_shares.specs.KeptCuts.{IsCut}
use Rattle.token_shares.specs.TokenShares.{NoneIsEnoughBelow}
use Rattle.token_shares.proofs.budgets.first_shares.Given as goal

abbrev pub invariant-loop-total : goal.invariant-loop-total
invariant-loop-total l = record {
  none : NoneIsEnoughBelow l.asked.plain.now l.asked.target l.asked.places.now l.total;
  cuts : All (IsCut l.asked.plain.now l.asked.places.now) l.cuts.items;
}
