use Rattle.std.proofs.Common.{ℕ, ◌≡◌, ◌<◌, ◌≤◌, ◌+◌, ◌*◌, Some}
use Rattle.endless_due.specs.EndlessRows.{row_due}
use Rattle.teg_forever.specs.LateFirings.{member}
use Rattle.teg_forever.proofs.leads.line_over.Given as goal

abbrev pub invariant-loop-number : goal.invariant-loop-number
invariant-loop-number l =
    (j d : ℕ) → j < l.number → row_due l.row (l.fn.past + 1 + member l.fn.class j) ≡ Some d → l.start + l.row.gap * member l.fn.class j ≤ l.row.every * d + l.row.gap * l.row.every
