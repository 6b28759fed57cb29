-- When the function of a list never falls.
use Rattle.std.proofs.Common.{ℕ, ℤ, ◌+◌, ◌-◌, ◌<◌, ◌≤◌, sym, arith, Bool, List, length, get_or}
use Rattle.std.specs.Prelude.{◌↔◌, IsTrue}
use Rattle.dioid.specs.declared.dates.Date.{Date}
use Rattle.dioid.specs.declared.dates.Date.TheVariants.{Early}
use Rattle.dioid.specs.DateOrder.{Le}
use Rattle.dioid.specs.Dates.{IsAtMostDate, move}
use Rattle.dioid.proofs.AtMost.{le_is, le_trans}
use Rattle.series_laws.specs.Periodic.{Rising}
use Rattle.series_laws.specs.SeriesForms.{form_with, value_at}
use Rattle.series_laws.proofs.FormValues.{value_in}
use Rattle.series_form.proofs.Listed.{list_rises, past}

module _ (l : List Date) (n : ℕ) (x : ℤ) (some : 0 < n) (fits : n ≤ length l) where
  list_up : Rising (value_at (form_with l n x)) → (k : ℕ) → k + 1 < length l → Le (get_or l k Early) (get_or l (k + 1) Early)
  list_up up k w =
      le_trans (le_is (sym (value_in (form_with l n x) k (omega (arith, w)))))
      (le_trans (up.rises k (k + 1) (omega arith)) (le_is (value_in (form_with l n x) (k + 1) w)))

  period_up : Rising (value_at (form_with l n x)) → Le (get_or l (length l - 1) Early) (move x (get_or l (length l - n) Early))
  period_up up =
      le_trans (le_is (sym (value_in (form_with l n x) (length l - 1) (omega (arith, some, fits)))))
      (le_trans (up.rises (length l - 1) (length l) (omega arith)) (le_is (past l n x some fits (length l) (omega arith) (omega (arith, some)))))

-- where its list never falls, just where the end of its first period does not
pub rising_then :
    (l : List Date) (n : ℕ) (x : ℤ) (list period : Bool) → 0 < n → n ≤ length l
    → (IsTrue list ↔ ((k : ℕ) → k + 1 < length l → IsAtMostDate (get_or l k Early) (get_or l (k + 1) Early)))
    → (IsTrue period ↔ IsAtMostDate (get_or l (length l - 1) Early) (move x (get_or l (length l - n) Early)))
    → IsTrue list → (IsTrue period → Rising (value_at (form_with l n x))) × (Rising (value_at (form_with l n x)) → IsTrue period)
rising_then l n x list period some fits listed ended holds = (
  λ t. list_rises l n x some fits (λ k w. record { holds = listed.0 holds k w }) (record { holds = ended.0 t }),
  λ up. ended.1 ((period_up l n x some fits up).holds),
)

-- where its list falls it falls
pub rising_else :
    (l : List Date) (n : ℕ) (x : ℤ) (list : Bool) → 0 < n → n ≤ length l
    → (IsTrue list ↔ ((k : ℕ) → k + 1 < length l → IsAtMostDate (get_or l k Early) (get_or l (k + 1) Early)))
    → (IsTrue list → ⊥) → (IsTrue list → Rising (value_at (form_with l n x))) × (Rising (value_at (form_with l n x)) → IsTrue list)
rising_else l n x list some fits listed falls =
    (λ t. absurd (falls t), λ up. listed.1 (λ k w. (list_up l n x some fits up k w).holds))
