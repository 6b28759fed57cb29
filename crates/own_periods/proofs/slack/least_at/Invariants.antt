use Rattle.std.proofs.Common.{ℕ, ◌-◌, ◌%◌, ◌<◌, ◌≡◌}
use Rattle.std.specs.Prelude.{◌≤ℤ◌}
use Rattle.own_periods.specs.OwnRows.{worth_past}
use Rattle.own_periods.proofs.slack.least_at.Given as goal

abbrev pub invariant-rests : goal.invariant-rests
invariant-rests l = record {
  at_rest : l.at % l.which.apart ≡ l.which.rest;
  best_in : l.best < l.which.period;
  told : (a : ℕ) → a < l.at → a < l.which.period → a % l.which.apart ≡ l.which.rest → worth_past l.of.rows.now l.of.pace l.transition.index l.best ≤ℤ worth_past l.of.rows.now l.of.pace l.transition.index a;
}

abbrev pub decreases-rests : goal.decreases-rests
decreases-rests l = l.which.period - l.at
