use Rattle.std.proofs.Common.{sym}
use Rattle.teg_pace_commands.proofs.bound.numbers_of.Goals as goal

pub returns-in-Ok : goal.returns-in-Ok
returns-in-Ok c = record {
  form = c.in-Ok.settled;
  is = rw c.net-plain.ensures.net at (rw c.in-Ok.is at c.settle_dates_within.ensures.form);
  after = sym c.after-after.ensures.value;
  period = sym c.period-period.ensures.value;
}

pub settled_numbers-requires-clause-strong : goal.settled_numbers-requires-clause-strong
settled_numbers-requires-clause-strong c = rw c.net-plain.ensures.net c.requires.strong
