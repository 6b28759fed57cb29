use Rattle.std.proofs.Common.{rules}
use Rattle.delay_check.specs.ShownDelays.{recovered_lines}
use Rattle.delay_check.proofs.recovered.shows.Goals as goal

pub returns : goal.returns
returns c = λ yes. record {
  planned = c.args.planned.now.kept;
  told = c.in_ok-tells.ensures.told yes (recovered_lines c.args.told.now.last) (search rules);
  ends = c.in_ok-tells.ensures.over yes;
}
