use Rattle.std.proofs.Common.{◌≡◌, [], All, map, take, string_bytes}
use Rattle.teg_outside.specs.Monitors.{IsOneLine}
use Rattle.teg_plan_commands.proofs.replay.lines_of.Given as goal

abbrev pub invariant-loop-monitor : goal.invariant-loop-monitor
invariant-loop-monitor g l =
    (map string_bytes l.lines.items ≡ map (λ m. (goal.Monitor-dyn g (m.vtable, m.value)).line_text m.value []) (take l.monitor-index l.monitors))
    × All IsOneLine (map string_bytes l.lines.items)
