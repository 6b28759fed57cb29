-- A firing that fails is not legal, and fails in one way.
use Rattle.std.proofs.Common.{◌≤◌, arith}
use Rattle.teg_net.specs.Circuits.{no_place}
use Rattle.run_laws.specs.LegalRuns.{FailuresAreNotLegal, FailuresAreOne}

pub not_legal : FailuresAreNotLegal
not_legal = record {
  late = λ net run f id there h g. h.late (rw (← h.date) at (g.tokens id.index no_place h.in_range h.into));
  back = λ net run f last h g. let low : last ≤ f.date = rw h.last at g.in_order in omega (arith, low, h.before);
  unreleased = λ net run f release h g. h.before (rw (← h.release) at (g.released h.input));
}

pub one_failure : FailuresAreOne
one_failure = record {
  late_not_back = λ net run f id there last h g. h.late (rw (← h.date) at (g.tokens id.index no_place h.in_range h.into));
  late_not_unreleased = λ net run f id there release h g. h.late (rw (← h.date) at (g.tokens id.index no_place h.in_range h.into));
  back_not_unreleased = λ net run f last release h g. let low : last ≤ f.date = rw h.last at g.in_order in omega (arith, low, h.before);
}
