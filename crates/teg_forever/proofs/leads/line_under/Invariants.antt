use Rattle.std.proofs.Common.{ℕ, ◌≡◌, ◌<◌, ◌≤◌, ◌+◌, ◌*◌, pos}
use Rattle.dioid.specs.declared.dates.Date.TheVariants.{At}
use Rattle.forever_laws.specs.settled_laws.SettledForms.{settled_date}
use Rattle.teg_forever.specs.LateFirings.{member}
use Rattle.teg_forever.proofs.leads.line_under.Given as goal

abbrev pub invariant-loop-number : goal.invariant-loop-number
invariant-loop-number l =
    (i z : ℕ) → i < l.number → settled_date l.row.settled l.row.row.transition.index (l.fn.past + 1 + member l.fn.class i) ≡ At (pos z)
    → l.cycle.firings * z + l.cycle.rise * l.cycle.firings ≤ l.start + l.cycle.rise * member l.fn.class i
