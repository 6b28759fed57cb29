use Rattle.std.proofs.Common.{◌≡◌, length}
use Rattle.teg_settle.specs.Struck.{AreStruck}
use Rattle.teg_settle.proofs.struck.strike.Given as goal

abbrev pub invariant-loop-period : goal.invariant-loop-period
invariant-loop-period l = record {
  count : length l.struck ≡ length l.fn.struck;
  struck : AreStruck l.asked.net.now l.asked.releases.now l.asked.most l.rows.count l.struck;
}
