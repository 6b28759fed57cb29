use Rattle.std.proofs.Common.{◌≡◌, ◌-◌, ◌*◌, ◌%◌, eqb}
use Rattle.series_laws.specs.SeriesForms.{first_holding}
use Rattle.series_laws.specs.Needs.{turns_of}
use Rattle.series_form.proofs.plans.turns_between.Given as goal

abbrev pub invariant-loop-turns : goal.invariant-loop-turns
invariant-loop-turns l = turns_of l.first l.second ≡ first_holding (λ m. eqb (m * l.first % l.second) 0) l.turns (l.second - l.turns)
