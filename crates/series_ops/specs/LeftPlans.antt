-- What the plan of a residual holds, where the offsets decide.
use Rattle.std.specs.Prelude.{◌≡◌, ◌≤◌, ◌+◌, ℕ}
use Rattle.series_laws.specs.SeriesForms.{Form, size_of, value_at, table}
use Rattle.series_laws.specs.ProductNeeds.{offsets_of, OffsetsDecide}
use Rattle.series_form.specs.NumberBounds.{IsSeries}
use Rattle.series_ops.specs.Cells.{conjugates_reversed}
use Rattle.series_ops.specs.CoreSums.{SummedList}

-- a form, and the form that it divides
pub record DividedForms : Type 0 where
  pub first : Form
  pub second : Form

-- these two forms
abbrev pub divided_forms : Form → Form → DividedForms
divided_forms f g = record { first = f; second = g }

-- the sums of the first form and the first m values of the second, conjugated and in reverse
pub record IsLeftPlan (sums : SummedList) (g : Form) (m : ℕ) : Type 0 where
  pub left : IsSeries sums.form
  pub right : IsSeries g
  pub decide : OffsetsDecide sums.form g
  pub few : offsets_of sums.form g ≤ 40000
  pub reach : m ≡ size_of g + offsets_of sums.form g
  pub are_values : conjugates_reversed sums.list ≡ table (value_at g) m
