use Rattle.std.proofs.Common.{◌≡◌, length}
use Rattle.teg_due.specs.declared.rows.DueRow.{DueRow}
use Rattle.seen_rows.proofs.RowsOnce.{AreSeenOnce}
use Rattle.dating_check.proofs.due_rows.are_once.Given as goal

-- the firings of the rows so far are seen and no others, and no two of them are one
abbrev pub invariant-loop-index : goal.invariant-loop-index
invariant-loop-index l = (l.seen.width ≡ length l.net.transitions) × AreSeenOnce (λ (r : DueRow). r.transition.index) (λ (r : DueRow). r.number) l.seen l.rows l.index
