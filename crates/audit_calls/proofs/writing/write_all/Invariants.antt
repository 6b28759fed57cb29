use Rattle.std.proofs.Common.{◌≡◌, ◌≤◌, ◌-◌, length, take}
use Rattle.teg_outside.specs.Sinks.{BytesGrow}
use Rattle.audit_calls.proofs.writing.write_all.Given as goal

abbrev pub invariant-loop-written : goal.invariant-loop-written
invariant-loop-written g l = record {
  within : l.written ≤ length l.text;
  faults : (g.W.Sink.state l.out).faults ≡ (g.W.Sink.state l.initial.out).faults;
  bytes : BytesGrow (g.W.Sink.state l.initial.out).bytes (g.W.Sink.state l.out).bytes (take l.written l.text);
}

abbrev pub decreases-loop-written : goal.decreases-loop-written
decreases-loop-written g l = length l.text - l.written
