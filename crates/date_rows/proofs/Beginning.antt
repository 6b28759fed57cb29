-- The loop that writes a number's first dates.
use Rattle.std.proofs.Common.{ℕ, ◌+◌, ◌<◌, ◌≤◌, ◌≡◌, ◌≢◌, List, [], length, get_or, set, ◌∙◌, arith, ⊎_elim}
use Rattle.std.proofs.lemmas.Bool.{cases_lt}
use Rattle.std.proofs.lemmas.List.{length-set, get_or-set_same, get_or-set_other}
use Rattle.dioid.specs.declared.dates.Date.{Date}
use Rattle.dioid.specs.declared.dates.Date.TheVariants.{Early}
use Rattle.dioid.specs.Dates.{later_of}
use Rattle.teg_model.specs.Systems.{available_in}
use Rattle.teg_model.specs.Datings.{implicit_place}
use Rattle.teg_model.proofs.DateFunctions.{Dating, InitialDates}
use Rattle.date_rows.specs.Passes.{seen_at}

-- the dates of number k up to transition i
pub record BegunTo (init : InitialDates) (rel : Dating) (w k : ℕ) (back : Dating) (row : List Date) (i : ℕ) : Type 0 where
  pub full : length row ≡ w
  pub begun : (t : ℕ) → t < i → get_or row t Early ≡ later_of (available_in init (seen_at back [] k) (implicit_place t) k) (rel t k)

pub begun_more :
    (init : InitialDates) (rel : Dating) (w k : ℕ) (back : Dating) (row : List Date) (i : ℕ) (date : Date)
    → i < w → BegunTo init rel w k back row i
    → date ≡ later_of (available_in init (seen_at back [] k) (implicit_place i) k) (rel i k)
    → BegunTo init rel w k back (set row i date) (i + 1)
begun_more init rel w k back row i date l h is = record {
  full = length-set row i date ∙ h.full;
  begun = λ t m. ⊎_elim
      (λ (q : t < i). let other : t ≢ i = omega arith in get_or-set_other row i t date Early other ∙ h.begun t q)
      (λ (q : i ≤ t).
      let t_is : t ≡ i = omega arith in
      rw t_is (get_or-set_same row i date Early (omega (arith, h.full)) ∙ is))
      (cases_lt t i);
}
