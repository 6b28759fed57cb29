use Rattle.std.proofs.Common.{◌≡◌, length}
use Rattle.delay_laws.specs.declared.table.Delay.{Delay}
use Rattle.seen_rows.proofs.RowsOnce.{AreSeenOnce}
use Rattle.delay_check.proofs.tables.are_once.Given as goal

-- the departures of the delays so far are seen and no others, and no two of them are one
abbrev pub invariant-loop-index : goal.invariant-loop-index
invariant-loop-index l = (l.seen.width ≡ length l.net.transitions) × AreSeenOnce (λ (d : Delay). d.transition.index) (λ (d : Delay). d.number) l.seen l.delays l.index
