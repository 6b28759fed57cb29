use Rattle.std.proofs.Common.{string_bytes}
use Rattle.late_lines.proofs.PathsWritten.{IsLeft}
use Rattle.late_lines.proofs.late.end_steps.Given as goal

abbrev pub invariant-loop-step : goal.invariant-loop-step
invariant-loop-step l = IsLeft l.net l.walk.start l.walk.number l.walk.steps.items (string_bytes l.initial.text) (string_bytes l.text) l.step-index l.at l.number
