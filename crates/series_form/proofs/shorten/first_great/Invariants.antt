use Rattle.std.proofs.Common.{◌<◌, ℕ, get_or}
use Rattle.dioid.specs.declared.dates.Date.TheVariants.{Early}
use Rattle.series_form.specs.NumberBounds.{IsSmallDate}
use Rattle.series_form.proofs.shorten.first_great.Given as goal

abbrev pub invariant-loop-place : goal.invariant-loop-place
invariant-loop-place l = (k : ℕ) → k < l.place → IsSmallDate (get_or l.values k Early)
