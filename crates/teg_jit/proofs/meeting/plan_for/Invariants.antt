use Rattle.std.proofs.Common.{◌-◌, ◌*◌, ◌≡◌, length}
use Rattle.teg_due.specs.RowRules.{due_in}
use Rattle.teg_jit.specs.GoingBack.{ArePassedAbove}
use Rattle.teg_jit.proofs.meeting.plan_for.Given as goal

abbrev pub invariant-loop-done : goal.invariant-loop-done
invariant-loop-done l = record {
  full : length l.dates ≡ l.last * length l.net.transitions;
  settled : ArePassedAbove l.net (due_in l.rows) l.last (l.last - l.done) l.dates;
}
