use Rattle.std.proofs.Common.{◌≡◌, ◌≤◌, ◌<◌, ◌-◌, ℕ, true}
use Rattle.series_laws.specs.SeriesForms.{value_at, repeat_start, moves}
use Rattle.series_form.proofs.shorten.PeriodicList.least_start.Given as goal

abbrev pub invariant-loop-back : goal.invariant-loop-back
invariant-loop-back l = (k : ℕ) → repeat_start l.self - l.back ≤ k → k < repeat_start l.self → moves (value_at l.self) l.fn.turn l.fn.jump k ≡ true
