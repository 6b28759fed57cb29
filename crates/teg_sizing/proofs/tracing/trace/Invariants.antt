use Rattle.std.proofs.Common.{◌≡◌, ◌<◌, ◌≤◌, ◌++◌, length, reverse}
use Rattle.teg_sizing.specs.TracedPaths.{trace_of}
use Rattle.teg_sizing.proofs.tracing.trace.Given as goal

abbrev pub invariant-loop-number : goal.invariant-loop-number
invariant-loop-number l = (l.at < length l.net.transitions) × (l.number ≤ length l.rounds)
    × (trace_of l.net l.rounds (length l.rounds) l.end ≡ trace_of l.net l.rounds l.number l.at ++ reverse l.places.items)
