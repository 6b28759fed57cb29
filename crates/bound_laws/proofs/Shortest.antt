-- A shortest settled form keeps the bound, and its period divides each period of the dating.
use Rattle.std.proofs.Common.{ℕ, zero, suc, ◌+◌, ◌*◌, ◌≤◌, ◌≡◌, length, subst, ◌∙◌, arith}
use Rattle.std.specs.Prelude.{ℤ, pos}
use Rattle.std.specs.Int.{◌∣◌}
use Rattle.std.proofs.lemmas.Nat.Gcd.{le_of_dvd}
use Rattle.settled_laws.specs.dioid.declared.dates.Date.{Date}
use Rattle.settled_laws.specs.teg_net.Nets.{NetLists}
use Rattle.settled_laws.specs.teg_model.Datings.{IsLeastDating}
use Rattle.bound_laws.specs.Critical.{IsStrong, IsCommon, bound_of}
use Rattle.bound_laws.specs.PastTheBound.{factorial}
use Rattle.settled_laws.proofs.dioid_proofs.Moves.{delayed_is_move}
use Rattle.settled_laws.specs.SettledForms.{SettledForm, RepeatsAfter, IsShortestForm, step_of_form}
use Rattle.settled_laws.proofs.Repeating.{HasPeriod, HasCommon, gcd_period, lowered}
use Rattle.bound_laws.specs.Periods.{FormsKeepTheBound}
use Rattle.bound_laws.proofs.Bounded.{dates_go_on, factorials_are_common, steps_are_whole}

-- a shortest form has the period that divides all others
pub least_divides : (n : ℕ) (x : ℕ → ℕ → Date) (f : SettledForm) (k q : ℕ) (u : ℕ → ℤ) → IsShortestForm n f x → RepeatsAfter n x k q u → f.period ∣ q
least_divides n x f k q u h r =
    let g : HasCommon n x k q f.period = gcd_period n x k (suc (q + f.period)) q f.period (omega arith)
    (record { step = u; repeats = r }) (record { step = step_of_form f; repeats = lowered n x k f.after q f.period u (step_of_form f) r h.stands.repeats }) in
    let one = h.stands.repeats.at_least_one in
    let low : f.period ≤ g.gcd = h.least_period k g.gcd g.form.step g.form.repeats in
    let high : g.gcd ≤ f.period = le_of_dvd (omega arith) g.is_gcd.1 in
    let same : g.gcd ≡ f.period = omega arith in
    subst (λ z. z ∣ q) same g.is_gcd.0

form_of : (net : NetLists) (hold tokens a b : ℕ) → IsStrong net hold tokens a b → (x : ℕ → ℕ → Date) → IsLeastDating net x → (L : ℕ) → 1 ≤ L → IsCommon net a b L
    → HasPeriod (length net.transitions) x (bound_of (length net.transitions) hold tokens a b) L
form_of net hold tokens a b s x least L some common =
    let whole = steps_are_whole net hold tokens a b L s common in
    record {
      step = λ t. pos whole.0;
      repeats = record { at_least_one = some; again = λ t k lt m. dates_go_on net hold tokens a b s x least L whole.0 common whole.1 t k lt m ∙ delayed_is_move whole.0 (x t k) };
    }

factorial_some : (n : ℕ) → 1 ≤ factorial n
factorial_some zero = omega arith
factorial_some (suc n) = let old = factorial_some n in let e : suc n * factorial n ≡ factorial n + n * factorial n = grind arith in omega arith

pub forms_keep_the_bound : FormsKeepTheBound
forms_keep_the_bound net hold tokens a b s x least f h =
    let n : ℕ = length net.transitions in
    let all : HasPeriod n x (bound_of n hold tokens a b) (factorial (n * tokens)) =
    form_of net hold tokens a b s x least (factorial (n * tokens)) (factorial_some (n * tokens)) (factorials_are_common net hold tokens a b s) in (
      h.least_after (bound_of n hold tokens a b) (factorial (n * tokens)) all.step all.repeats,
      λ L some common. let form : HasPeriod n x (bound_of n hold tokens a b) L = form_of net hold tokens a b s x least L some common in
          least_divides n x f (bound_of n hold tokens a b) L form.step h form.repeats,
    )
