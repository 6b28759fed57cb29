-- A period of a transition's own past the settling number.
use Rattle.std.proofs.Common.{ℕ, ℤ, zero, suc, pos, ◌≡◌, ◌<◌, ◌≤◌, ◌+◌, ◌*◌, sym, ap, subst, ◌∙◌, arith, ⊎_elim}
use Rattle.std.specs.Prelude.{◌+ℤ◌}
use Rattle.std.proofs.lemmas.Int.{ints}
use Rattle.std.proofs.Math.Nat.{eq-or-lt_of_le}
use Rattle.dioid.specs.declared.dates.Date.TheVariants.{At}
use Rattle.dioid.specs.Dates.{move}
use Rattle.dioid.proofs.Moves.{move_zero, move_move, move_swap}
use Rattle.forever_laws.proofs.series_laws_proofs.Repeating.{by_steps}
use Rattle.forever_laws.specs.settled_laws.SettledForms.{SettledForm, settled_date, step_of_form}
use Rattle.teg_forever.specs.LateFirings.{GoesOnBySteps, IsClimbing, RisesIn}

module _ (f : SettledForm) (t : ℕ) (steps : GoesOnBySteps f t) (firings rise : ℕ) where
  -- what is so of the numbers up to one is so of the next
  pub rises_more : (number later here : ℕ) → settled_date f t (number + firings) ≡ At (pos later) → settled_date f t number ≡ At (pos here) → later ≡ here + rise
      → ((k : ℕ) → f.after < k → k < number → settled_date f t (k + firings) ≡ move (pos rise) (settled_date f t k))
      → (k : ℕ) → f.after < k → k < number + 1 → settled_date f t (k + firings) ≡ move (pos rise) (settled_date f t k)
  rises_more number later here a b e old k l m = ⊎_elim
      (λ (same : k ≡ number).
      subst (λ (n : ℕ). settled_date f t (n + firings) ≡ move (pos rise) (settled_date f t n)) (sym same)
      (a ∙ (ap (λ (n : ℕ). At (pos n)) e ∙ sym (ap (move (pos rise)) b))))
      (λ (before : k < number). old k l before)
      (eq-or-lt_of_le {n = k} {m = number} (omega arith))

  -- what is so of one period is so past it
  pub rises_all : 1 ≤ f.period → ((k : ℕ) → f.after < k → k < f.after + f.period + 1 → settled_date f t (k + firings) ≡ move (pos rise) (settled_date f t k)) → RisesIn f t firings rise
  rises_all some base k l =
      by_steps (λ (n : ℕ). settled_date f t (n + firings) ≡ move (pos rise) (settled_date f t n)) (f.after + 1) f.period some
      (λ n u v. base n (omega arith) (omega arith))
      (λ n u old.
      let on : n + f.period + firings ≡ n + firings + f.period = omega arith in
      ap (settled_date f t) on ∙ (steps.again (n + firings) (omega arith)
      ∙ (ap (move (step_of_form f t)) old ∙ (move_swap (step_of_form f t) (pos rise) (settled_date f t n)
      ∙ sym (ap (move (pos rise)) (steps.again n (omega arith)))))))
      k (omega arith)

  -- so many times
  pub rises_times : RisesIn f t firings rise → (m k : ℕ) → f.after < k → settled_date f t (k + m * firings) ≡ move (pos (m * rise)) (settled_date f t k)
  rises_times h zero k l =
      let on : k + zero * firings ≡ k = omega arith in
      let none : zero * rise ≡ 0 = omega arith in
      rw (on, none) (sym (move_zero (settled_date f t k)))
  rises_times h (suc m) k l =
      let on : k + suc m * firings ≡ k + m * firings + firings = omega arith in
      let sum : (pos (m * rise) +ℤ pos rise) ≡ pos (suc m * rise) = omega (arith, ints) in
      ap (settled_date f t) on ∙ (h (k + m * firings) (omega arith)
      ∙ (ap (move (pos rise)) (rises_times h m k l)
      ∙ (move_move (pos (m * rise)) (pos rise) (settled_date f t k) ∙ ap (λ (z : ℤ). move z (settled_date f t k)) sum)))

-- the period of the form is one
pub rises_in_period : (f : SettledForm) (t : ℕ) (climbing : IsClimbing f t) → GoesOnBySteps f t → RisesIn f t f.period climbing.step
rises_in_period f t climbing steps k l = steps.again k l ∙ ap (λ (z : ℤ). move z (settled_date f t k)) climbing.step_is
