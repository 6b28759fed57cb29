use Rattle.std.proofs.Common.{◌≡◌, true}
use Rattle.series_laws.specs.SeriesForms.{value_at, repeats_test}
use Rattle.series_form.proofs.shorten.PeriodicList.repeats.Given as goal

abbrev pub invariant-loop-index : goal.invariant-loop-index
invariant-loop-index l = repeats_test (value_at l.self) l.fn.turn l.fn.jump l.fn.from l.index ≡ true
