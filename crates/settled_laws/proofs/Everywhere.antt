-- Datings that repeat at every transition number, those of no transition of the net too.
use Rattle.std.proofs.Common.{ℕ, ℤ, ◌+◌, ◌<◌, ◌≤◌, ◌≡◌, sym, ap, ◌∙◌, arith, ⊎_elim}
use Rattle.std.specs.Prelude.{◌≤ℤ◌, ◌⊎◌}
use Rattle.std.proofs.lemmas.Bool.{cases_lt}
use Rattle.teg_model.specs.dioid.declared.dates.Date.{Date}
use Rattle.teg_model.specs.dioid.declared.dates.Date.TheVariants.{Early, Never}
use Rattle.teg_model.specs.dioid.Dates.{IsAtMostDate, move}
use Rattle.teg_model.specs.teg_net.declared.entries.Place.{Place}
use Rattle.teg_model.proofs.DateFunctions.{Dating}
use Rattle.settled_laws.specs.SettledForms.{RepeatsAfter}

-- past `after` the dates of each number go on by its step in each period
pub record Repeats (x : ℕ → ℕ → Date) (after period : ℕ) (step : ℕ → ℤ) : Type 0 where
  pub at_least_one : 1 ≤ period
  pub again : (t k : ℕ) → after < k → x t (k + period) ≡ move (step t) (x t k)

-- dates never fall from one number to the next
pub record Climbing (x : ℕ → ℕ → Date) : Type 0 where
  pub climbs : (t k : ℕ) → 1 ≤ k → IsAtMostDate (x t k) (x t (k + 1))

abbrev pub IsNeverPast : (ℕ → ℕ → Date) → ℕ → ℕ → Type 0
IsNeverPast x after t = (k : ℕ) → after < k → x t k ≡ Never

abbrev pub IsEarlyPast : (ℕ → ℕ → Date) → ℕ → ℕ → Type 0
IsEarlyPast x after t = (k : ℕ) → after < k → x t k ≡ Early

-- the step does not fall along the place
abbrev pub IsRising : (ℕ → ℕ → Date) → ℕ → (ℕ → ℤ) → Place → Type 0
IsRising x after step p = (step p.from.index ≤ℤ step p.to.index) ⊎ (IsNeverPast x after p.to.index ⊎ IsEarlyPast x after p.from.index)

-- where nothing fires past the first c transitions, repeating there is repeating everywhere
pub everywhere : (c : ℕ) (x : Dating) (after period : ℕ) (step : ℕ → ℤ) → ((t k : ℕ) → c ≤ t → x t k ≡ Early) → RepeatsAfter c x after period step → Repeats x after period step
everywhere c x after period step out h = record {
  at_least_one = h.at_least_one;
  again = λ t k l. ⊎_elim
      (λ (m : t < c). h.again t k m l)
      (λ (m : c ≤ t). out t (k + period) m ∙ sym (ap (move (step t)) (out t k m)))
      (cases_lt t c);
}

pub on_first : (c : ℕ) (x : Dating) (after period : ℕ) (step : ℕ → ℤ) → Repeats x after period step → RepeatsAfter c x after period step
on_first c x after period step h = record { at_least_one = h.at_least_one; again = λ t k m l. h.again t k l }

-- datings that agree on the first c transitions repeat alike there
pub same_repeats : (c : ℕ) (x y : Dating) (after period : ℕ) (step : ℕ → ℤ) → ((t k : ℕ) → t < c → 1 ≤ k → x t k ≡ y t k) → RepeatsAfter c x after period step → RepeatsAfter c y after period step
same_repeats c x y after period step is h = record {
  at_least_one = h.at_least_one;
  again = λ t k m l. sym (is t (k + period) m (omega arith)) ∙ (h.again t k m l ∙ ap (move (step t)) (is t k m (omega arith)));
}
