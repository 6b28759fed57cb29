use Rattle.std.proofs.Common.{ℕ, ◌<◌, ◌≡◌}
use Rattle.teg_timetable.specs.Spreads.{delay_left}
use Rattle.teg_timetable.proofs.late.is_late.Given as goal

abbrev pub invariant-loop-index : goal.invariant-loop-index
invariant-loop-index l = (i : ℕ) → i < l.index → delay_left l.left i l.number ≡ 0
