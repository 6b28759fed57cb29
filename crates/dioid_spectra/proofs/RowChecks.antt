-- A row, of what is told with the number that it was asked with.
use Rattle.std.proofs.Common.{ℕ, ℤ, List, ◌≡◌, ◌+ℤ◌, subst, ◌∙◌}
use Rattle.dioid.specs.declared.dates.Date.{Date}
use Rattle.dioid_matrix.specs.Tables.{Table}
use Rattle.dioid_spectra.specs.declared.eigenvectors.EigenValue.{EigenValue}
use Rattle.dioid_spectra.specs.Eigenvectors.{IsRowWithin, IsRowJust, IsRowOf, number_at}

pub row_of : (a : Table Date) (value : EigenValue) (v : List ℤ) (i : ℕ) (w z : ℤ) → w ≡ z → z ≡ value.time +ℤ number_at v i
    → IsRowWithin a value.steps v i w a.columns → IsRowJust a value.steps v i w → IsRowOf a value v i
row_of a value v i w z p q h k = record {
  within = let P : ℤ → Type 0 = λ x. IsRowWithin a value.steps v i x a.columns in subst P (p ∙ q) h;
  just = let Q : ℤ → Type 0 = λ x. IsRowJust a value.steps v i x in subst Q (p ∙ q) k;
}
