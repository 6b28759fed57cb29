use Rattle.std.proofs.Common.{◌≡◌}
use Rattle.series_laws.specs.SeriesForms.{table, monomial_at}
use Rattle.series_form.proofs.forms.monomial_values.Given as goal

abbrev pub invariant-loop-place : goal.invariant-loop-place
invariant-loop-place l = l.values.items ≡ table (monomial_at l.fn.shift l.fn.date) l._place
