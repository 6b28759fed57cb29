use Rattle.std.proofs.Common.{ℕ, ◌≡◌, ◌<◌, ◌+◌, pos}
use Rattle.dioid.specs.Dates.{move}
use Rattle.forever_laws.specs.settled_laws.SettledForms.{settled_date}
use Rattle.teg_forever.proofs.late.rises_in.Given as goal

abbrev pub invariant-loop-number : goal.invariant-loop-number
invariant-loop-number l =
    (k : ℕ) → l.row.settled.after < k → k < l.number → settled_date l.row.settled l.row.row.transition.index (k + l.cycle.firings)
    ≡ move (pos l.cycle.rise) (settled_date l.row.settled l.row.row.transition.index k)
