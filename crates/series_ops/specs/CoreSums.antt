-- What the greatest sums of a series and a list hold.
use Rattle.std.specs.Prelude.{◌≡◌, ◌+◌, List, length}
use Rattle.dioid.specs.declared.dates.Date.{Date}
use Rattle.series_laws.specs.SeriesForms.{Form}
use Rattle.series_form.specs.NumberBounds.{IsSeries}
use Rattle.series_ops.specs.declared.splits.Span.{Span}
use Rattle.series_ops.specs.declared.strides.Stride.{Stride}
use Rattle.series_ops.specs.ListFunctions.{AreEarlyTo, value_listed}
use Rattle.series_ops.specs.Pieces.{ArePieceSums}
use Rattle.series_ops.specs.Strides.{IsCore, IsStarSums}

-- a form and a list with which its values are added
pub record SummedList : Type 0 where
  pub form : Form
  pub list : List Date

-- this form and this list
abbrev pub summed_list : Form → List Date → SummedList
summed_list f l = record { form = f; list = l }

-- the core of the form by a stride; its places from its first number to where the stride serves, and those from there on; the
-- list, and the list times the star of the stride; and the greatest sums with them, as far as they are known
pub record IsCoreSums (f : Form) (stride : Stride) (core list by_star : List Date) (below others : Span) (head rest : List Date) : Type 0 where
  pub series : IsSeries f
  pub is_core : IsCore f stride core
  pub star : IsStarSums (value_listed list) (value_listed by_star) stride.shifts stride.gain (length list)
  pub size : length by_star ≡ length list
  pub begun : below.from + below.count ≡ stride.from
  pub early : AreEarlyTo below.from core
  pub tail : others.from ≡ stride.from
  pub turn : others.from + others.count ≡ length core
  pub head_sums : ArePieceSums head core list below.from below.count
  pub rest_sums : ArePieceSums rest core by_star others.from others.count
