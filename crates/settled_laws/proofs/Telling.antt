-- A form tells every date of the dating that it stands for.
use Rattle.std.proofs.Common.{ℕ, ℤ, zero, suc, pos, ◌+◌, ◌-◌, ◌*◌, ◌/◌, ◌<◌, ◌≤◌, ◌≡◌, true, false, leb, ◌+ℤ◌, sym, ap, ◌∙◌, arith, ⊎_elim}
use Rattle.std.specs.Prelude.{◌*ℤ◌}
use lib.IntN.{suc_ℤ-*ℤ, zero-*ℤ}
use Rattle.std.proofs.lemmas.Bool.{cases_lt}
use Rattle.std.proofs.lemmas.Bool.Decides.{nat_tests}
use Rattle.teg_model.specs.dioid.Dates.{move}
use Rattle.teg_model.proofs.dioid_proofs.Moves.{move_zero, move_move}
use Rattle.teg_model.proofs.DateFunctions.{Dating}
use Rattle.settled_laws.specs.SettledForms.{RepeatsAfter, SettledForm, settled_length, step_of_form, row_date, periods_past, settled_date_past, settled_date, StandsFor}

-- the date some periods on
pub rounds_on : (c : ℕ) (x : Dating) (after period : ℕ) (step : ℕ → ℤ) → RepeatsAfter c x after period step → (t k j : ℕ) → t < c → after < k
    → x t (k + j * period) ≡ move (pos j *ℤ step t) (x t k)
rounds_on c x after period step h t k zero m l =
    let is : k + 0 * period ≡ k = grind arith in
    rw (is, zero-*ℤ (step t)) (sym (move_zero (x t k)))
rounds_on c x after period step h t k (suc j) m l =
    let is : k + suc j * period ≡ (k + j * period) + period = grind arith in
    let more : pos (suc j) *ℤ step t ≡ (pos j *ℤ step t) +ℤ step t = suc_ℤ-*ℤ (pos j) (step t) in
    rw (is, more)
    (h.again t (k + j * period) m (omega arith) ∙ (ap (move (step t)) (rounds_on c x after period step h t k j m l) ∙ move_move (pos j *ℤ step t) (step t) (x t k)))

-- where that date stands among those of the form
pub back_in : (after period k : ℕ) → 1 ≤ period → after + period < k
    → (let r : ℕ = (k - (after + period) - 1) / period + 1 in (after < k - r * period) × (k - r * period ≤ after + period) × ((k - r * period) + r * period ≡ k))
back_in after period k one l =
    let q : ℕ = (k - (after + period) - 1) / period in
    let prod : (q + 1) * period ≡ period * q + period = grind arith in
    (omega arith, omega arith, omega arith)

told_past : (c : ℕ) (f : SettledForm) (x : Dating) → StandsFor c f x → (t k : ℕ) → t < c → settled_length f < k → settled_date_past f t k ≡ x t k
told_past c f x h t k m l =
    let r : ℕ = periods_past f k in
    let at : ℕ = k - r * f.period in
    let back = back_in f.after f.period k h.sizes.at_least_one l in
    let here : row_date f t at ≡ x t at = h.dates t at m (omega (arith, back.0)) back.1 in
    ap (move (pos r *ℤ step_of_form f t)) here
    ∙ (sym (rounds_on c x f.after f.period (step_of_form f) h.repeats t at r m back.0) ∙ ap (x t) back.2)

pub form_tells : (c : ℕ) (f : SettledForm) (x : Dating) → StandsFor c f x → (t k : ℕ) → t < c → 1 ≤ k → settled_date f t k ≡ x t k
form_tells c f x h t k m o =
    ⊎_elim
    (λ (l : settled_length f < k). let e : leb k (settled_length f) ≡ false = grind (arith, nat_tests) in rw e (told_past c f x h t k m l))
    (λ (l : k ≤ settled_length f). let e : leb k (settled_length f) ≡ true = grind (arith, nat_tests) in rw e (h.dates t k m o l))
    (cases_lt (settled_length f) k)
