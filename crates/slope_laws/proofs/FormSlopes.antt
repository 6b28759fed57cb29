-- The step of a settled form.
use Rattle.std.proofs.Common.{ℕ, ℤ, zero, suc, pos, ◌+◌, ◌-◌, ◌*◌, ◌<◌, ◌≤◌, ◌≡◌, ◌≢◌, refl, sym, ap, ◌∙◌, arith}
use Rattle.std.specs.Prelude.{◌+ℤ◌, negsuc}
use Rattle.std.proofs.lemmas.Int.{ints}
use Rattle.settled_laws.specs.dioid.declared.dates.Date.{Date}
use Rattle.settled_laws.specs.dioid.declared.dates.Date.TheVariants.{Early, At, Never}
use Rattle.settled_laws.specs.dioid.Dates.{IsAtMostDate, move}
use Rattle.settled_laws.proofs.dioid_proofs.DateOrder.{at_most_is, at_most_trans}
use Rattle.settled_laws.proofs.dioid_proofs.Moves.{moved_to_never, delayed_is_move}
use Rattle.settled_laws.specs.teg_model.Datings.{listed_releases}
use Rattle.settled_laws.proofs.teg_model_proofs.Tokens.{not_before_zero, dates_climb}
use Rattle.settled_laws.specs.SettledForms.{IsTail, step_of_form}
use Rattle.slope_laws.specs.SlopesExist.{FormsHaveSlopes, SettledFormsHaveSlopes}
use Rattle.slope_laws.proofs.Lower.{climb_many}
use Rattle.slope_laws.proofs.Slopes.{GrowsBy, slopes_are_greatest}
use Rattle.slope_laws.proofs.Nevers.{nevers_come_from_ended_lists}

never_back : (y : ℕ → Date) (after period : ℕ) (step : ℤ) → ((k : ℕ) → after < k → y (k + period) ≡ move step (y k)) → (k j : ℕ) → after < k → y (k + j * period) ≡ Never → y k ≡ Never
never_back y after period step h k zero l e = ap y (omega arith) ∙ e
never_back y after period step h k (suc j) l e =
    let far : (k + j * period) + period ≡ k + suc j * period = grind arith in
    let low : after < k + j * period = omega (arith, l) in
    never_back y after period step h k j l (moved_to_never step (y (k + j * period)) (sym (h (k + j * period) low) ∙ (ap y far ∙ e)))

-- a date from 0 on that is not Never is a number
number_from : (d : Date) → IsAtMostDate (At (pos 0)) d → d ≢ Never → (a : ℕ) × (d ≡ At (pos a))
number_from Early l n = absurd l
number_from (At (pos a)) l n = (a, refl)
number_from (At (negsuc a)) l n = absurd (omega (arith, ints, l))
number_from Never l n = absurd (n refl)

-- a step that does not go below is a whole number from 0 on
step_from : (s : ℤ) (a : ℕ) → IsAtMostDate (At (pos a)) (At (pos a +ℤ s)) → (n : ℕ) × (s ≡ pos n)
step_from (pos n) a l = (n, refl)
step_from (negsuc n) a l = absurd (omega (arith, ints, l))

at_least_itself : (n p : ℕ) → 1 ≤ p → n ≤ n * p
at_least_itself n p l = let is : p ≡ suc (p - 1) = omega arith in let wide : n * suc (p - 1) ≡ n + n * (p - 1) = grind arith in let same : n * p ≡ n * suc (p - 1) = ap (λ z. n * z) is in omega arith

pub forms_have_slopes : FormsHaveSlopes
forms_have_slopes net ends inputs rules live x h t after period step l some again =
    let by = nevers_come_from_ended_lists net ends inputs rules live x h t l in
    let climbs : (s : ℕ) → 1 ≤ s → IsAtMostDate (x t s) (x t (s + 1)) = λ s o. dates_climb net (listed_releases net) x h.feasible t s l o in
    let begun : x t (after + 1) ≡ Never → IsTail (x t) after period Never = λ e k low high. ap (x t) (omega (arith, low)) ∙ by.on (after + 1) (k - (after + 1)) (omega arith) e in
    record {
      never = (
        λ tail. by.ended (after + 1) (omega arith) (tail (after + 1) (omega arith) (omega arith)),
        λ ended k low high.
            let n = by.never ended.0 ended.1 in
            let much : n.0 ≤ n.0 * period = at_least_itself n.0 period some in
            let far : n.0 + (k + n.0 * period - n.0) ≡ k + n.0 * period = omega arith in
            never_back (x t) after period step again k n.0 low (ap (x t) (sym far) ∙ by.on n.0 (k + n.0 * period - n.0) n.1 n.2),
      );
      slope = λ not_never.
          let date = number_from (x t (after + 1)) (not_before_zero net (listed_releases net) x h.feasible t (after + 1) l (omega arith)) (λ e. not_never (begun e)) in
          let next : x t ((after + 1) + period) ≡ At (pos date.0 +ℤ step) = again (after + 1) (omega arith) ∙ ap (move step) date.1 in
          let up : IsAtMostDate (At (pos date.0)) (At (pos date.0 +ℤ step)) =
          at_most_trans (At (pos date.0)) (x t (after + 1)) (At (pos date.0 +ℤ step))
          (at_most_is (At (pos date.0)) (x t (after + 1)) (sym date.1))
          (at_most_trans (x t (after + 1)) (x t ((after + 1) + period)) (At (pos date.0 +ℤ step))
          (climb_many x t climbs (after + 1) period (omega arith)) (at_most_is (x t ((after + 1) + period)) (At (pos date.0 +ℤ step)) next)) in
          let s = step_from step date.0 up in
          let grows : GrowsBy x t after period s.0 = record {
            some = some;
            date = date.0;
            first = date.1;
            again = λ k low. again k low ∙ (ap (λ z. move z (x t k)) s.1 ∙ sym (delayed_is_move s.0 (x t k)));
          } in
          (s.0, s.1, slopes_are_greatest net ends inputs rules live x h t after period s.0 l grows);
    }

pub settled_forms_have_slopes : SettledFormsHaveSlopes
settled_forms_have_slopes net ends inputs rules live x h f stands t l =
    forms_have_slopes net ends inputs rules live x h t f.after f.period (step_of_form f t) l stands.repeats.at_least_one (λ k low. stands.repeats.again t k l low)
