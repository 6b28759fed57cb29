-- The least solution of the linear system of places, and that the least dates, which are its values, repeat.
use Rattle.std.proofs.Common.{ℕ, ◌+◌}
use Rattle.dioid_matrix.specs.MatrixStars.{star_of, IsLeastSolution, StarsAreLeast}
use Rattle.dioid_matrix.proofs.Order.{total_is}
use Rattle.series_ops.specs.series_laws.SeriesForms.{IsCanonical}
use Rattle.series_ops.specs.declared.gains.Gain.{Gain}
use Rattle.series_ops.specs.Gains.{gain_product}
use Rattle.series_ops.specs.Proved.GainLaws.{gains_closed, gain_laws}
use Rattle.settled_laws.specs.teg_model.Systems.{System}
use Rattle.settled_laws.specs.teg_model.LiveRanks.{AreRanks}
use Rattle.settled_laws.proofs.teg_model_proofs.DateFunctions.{Dating}
use Rattle.settled_laws.specs.SettledForms.{SettledForm, RepeatsAfter, IsShortestForm}
use Rattle.periodic_laws.specs.PeriodicDates.{ArePeriodic}
use Rattle.periodic_laws.specs.Equations.{gains, gain_stars, AreCoefficients}
use Rattle.periodic_laws.specs.GainColumns.{entry_of_places, right_side, column}
use Rattle.periodic_laws.specs.RepeatNumbers.{common_start, common_period, common_step}
use Rattle.periodic_laws.specs.LinearSystem.{AreGainsOf}
use Rattle.periodic_laws.proofs.Values.{Holds}
use Rattle.periodic_laws.proofs.Entries.{entry_holds}
use Rattle.periodic_laws.proofs.Fixed.{IsSystemOf, IsLeastOn, right_holds, values_are_dates}
use Rattle.periodic_laws.proofs.Forms.{values_repeat, values_settle}
use Rattle.periodic_laws.proofs.Inside.{values_periodic}

module _ (stars : StarsAreLeast gains gain_stars) (count : ℕ) (s : System) (r : ℕ → Gain) (of : IsSystemOf count s) (released : (t : ℕ) → Holds (r t) (λ k. s.release t (k + 1))) where
  abbrev right : ℕ → Gain
  right = right_side s.initial s.places r

  entries_are : (i j : ℕ) → IsCanonical (entry_of_places s.places i j).series
  entries_are i j = (entry_holds s.places i j).is

  right_is : (i : ℕ) → IsCanonical (right i).series
  right_is i = (right_holds count s r of released i).is

  pub coefficients : AreCoefficients s (entry_of_places s.places) right
  coefficients = record {
    entries_are = entries_are;
    entry_values = λ i j. (entry_holds s.places i j).values;
    right_are = right_is;
    right_values = λ i. (right_holds count s r of released i).values;
  }

  law : ((i j : ℕ) → gains.is_element (star_of gains gain_stars count (entry_of_places s.places) i j)) × IsLeastSolution gains count (entry_of_places s.places) right (column count s r)
  unfolding column
  law = stars count (entry_of_places s.places) right entries_are right_is

  column_is : (i : ℕ) → IsCanonical (column count s r i).series
  unfolding column
  column_is i = total_is gains gains_closed gain_laws
      (λ j. gain_product (star_of gains gain_stars count (entry_of_places s.places) i j) (right j)) count
      (λ j. gains_closed.product_is _ _ (law.0 i j) (right_is j))

  pub column_solves : IsLeastSolution gains count (entry_of_places s.places) right (column count s r)
  unfolding column
  column_solves = law.1

  pub column_values : (x : Dating) (bound : ℕ) (rank : ℕ → ℕ) → AreRanks s.places bound rank → IsLeastOn count s x → AreGainsOf count x (column count s r)
  column_values x bound rank ranks h t k l = values_are_dates count s r of released (column count s r) column_is column_solves.equal x bound rank ranks h t k l

  -- the least dates of the system repeat, and so are periodic
  pub column_repeats : (bound : ℕ) (rank : ℕ → ℕ) → AreRanks s.places bound rank → (x : Dating) → IsLeastOn count s x
      → RepeatsAfter count x (common_start count (λ t. (column count s r t).series)) (common_period count (λ t. (column count s r t).series)) (common_step count (λ t. (column count s r t).series))
  column_repeats bound rank ranks x h = values_repeat count (λ t. (column count s r t).series) column_is x (column_values x bound rank ranks h)

  pub column_settles : (bound : ℕ) (rank : ℕ → ℕ) → AreRanks s.places bound rank → (x : Dating) → IsLeastOn count s x → (f : SettledForm) × IsShortestForm count f x
  column_settles bound rank ranks x h = values_settle count (λ t. (column count s r t).series) column_is x (column_values x bound rank ranks h)

  pub column_periodic : (bound : ℕ) (rank : ℕ → ℕ) → AreRanks s.places bound rank → (x : Dating) → IsLeastOn count s x → ArePeriodic count x
  column_periodic bound rank ranks x h t l = values_periodic (column count s r t).series (x t) (column_is t) (λ k. column_values x bound rank ranks h t k l)
