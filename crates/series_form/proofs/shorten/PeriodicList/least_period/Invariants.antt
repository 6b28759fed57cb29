use Rattle.std.proofs.Common.{◌≡◌, ◌-◌, ◌+◌}
use Rattle.series_laws.specs.SeriesForms.{repeat_start, value_at, repeats_test, first_holding, gap, least_period_of}
use Rattle.series_form.proofs.shorten.PeriodicList.least_period.Given as goal

abbrev pub invariant-loop-turn : goal.invariant-loop-turn
invariant-loop-turn l =
    let f = value_at l.self in
    let p = repeat_start l.self in
    least_period_of f p l.self.period ≡ first_holding (λ i. repeats_test f i (gap (f p) (f (p + i))) p l.self.period) l.turn (l.self.period - l.turn)
