use Rattle.std.proofs.Common.{◌≡◌, ◌<◌, ℕ, get_or}
use Rattle.dioid.specs.declared.dates.Date.TheVariants.{Early}
use Rattle.series_form.proofs.values.same_values.Given as goal

abbrev pub invariant-loop-index : goal.invariant-loop-index
invariant-loop-index l = (k : ℕ) → k < l.index → get_or l.values k Early ≡ get_or l.other k Early
