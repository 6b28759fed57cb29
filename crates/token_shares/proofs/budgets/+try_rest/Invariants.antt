use Rattle.std.proofs.Common.{◌≡◌, ◌-◌, length}
use Rattle.std.specs.Prelude.{All}
use Rattle.token_shares.specs.KeptCuts.{IsCut, NoneGoesOnBelow}
use Rattle.token_shares.proofs.budgets.+try_rest.Given as goal

abbrev pub decreases-try_rest : goal.decreases-try_rest
decreases-try_rest l = length l.asked.now.places.now - length l.numbers.now.items

abbrev pub invariant-loop-next : goal.invariant-loop-next
invariant-loop-next l = record {
  same : l.numbers.items ≡ l.fn.numbers.items;
  none : NoneGoesOnBelow l.asked.plain.now l.asked.target l.asked.places.now l.fn.numbers.items l.rest l.next;
  cuts : All (IsCut l.asked.plain.now l.asked.places.now) l.cuts.items;
}
