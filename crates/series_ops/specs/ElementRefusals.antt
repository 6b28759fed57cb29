-- Working definitions of refusals of series as refusals of elements.
use Rattle.std.specs.Prelude.{◌≡◌}
use Rattle.dioid.specs.declared.algebra.Refused.{Refused}
use Rattle.dioid.specs.declared.algebra.Refused.TheVariants.{Range}
use Rattle.series_form.specs.declared.forms.SeriesRefused.{SeriesRefused}
use Rattle.series_form.specs.declared.forms.SeriesRefused.TheVariants.{TooLong, TooGreat, OutOfMemory}

-- TooLong and TooGreat become Range, want of memory stays itself
abbrev pub IsElementRefusal : SeriesRefused → Refused → Type 0
IsElementRefusal (TooLong n) r = r ≡ Range
IsElementRefusal (TooGreat v) r = r ≡ Range
IsElementRefusal OutOfMemory r = r ≡ Refused.OutOfMemory
