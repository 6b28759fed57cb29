-- Canonical forms are equal exactly where their functions are.
use Rattle.std.proofs.Common.{◌≡◌, ◌↔◌, ℕ, Bool, IsTrue, ap}
use Rattle.series_laws.specs.SeriesForms.{Form, value_at}
use Rattle.series_form.specs.NumberBounds.{IsSeries}
use Rattle.series_laws.proofs.Canonical.{one_canonical}

pub equals_is : (f g : Form) (r : Bool) → IsSeries f → IsSeries g → IsTrue r ↔ (f ≡ g) → IsTrue r ↔ ((k : ℕ) → value_at f k ≡ value_at g k)
equals_is f g r a b h = (λ t k. ap (λ (z : Form). value_at z k) (h.0 t), λ e. h.1 (one_canonical f g a.canonical b.canonical e))
