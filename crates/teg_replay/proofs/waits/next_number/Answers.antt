use Rattle.std.proofs.Common.{arith}
use Rattle.run_laws.proofs.Dates.{length_dates}
use Rattle.teg_replay.proofs.waits.next_number.Goals as goal

pub returns-clause-few : goal.returns-clause-few
returns-clause-few c = rw c.dates_of.ensures (omega (arith, c.requires.few, length_dates c.args.history.now.run c.args.transition.index))
