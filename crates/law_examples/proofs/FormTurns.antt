-- The settled form of a net moves by turns of its period.
use Rattle.std.proofs.Common.{ℕ, ℤ, ◌+◌, ◌*◌, ◌<◌, ◌≤◌, ◌≡◌, length, refl, arith, ◌*ℤ◌}
use Rattle.std.specs.Prelude.{pos}
use Rattle.teg_model.specs.dioid.declared.dates.Date.{Date}
use Rattle.teg_model.specs.dioid.Dates.{IsAtMostDate, move}
use Rattle.teg_model.specs.Datings.{extended_places}
use Rattle.teg_model.specs.LiveRanks.{HasEndsInRange, HaveRanks}
use Rattle.teg_model.proofs.LiveRanks.{live_is_ranked}
use Rattle.teg_model.proofs.OfNet.{ranks_extended}
use Rattle.teg_net.specs.Circuits.{IsLive}
use Rattle.teg_net.specs.Nets.{NetLists}
use Rattle.settled_laws.specs.SettledForms.{SettledForm, step_of_form, IsShortestForm}
use Rattle.jump_laws.specs.Jumps.{MovesTo, TurnsAreTold}
use Rattle.jump_laws.specs.Runs.{FormsReachBack, RunsKeepDues}

-- ranks rise along the places of a live net, the implicit ones too
pub ranks_of : (net : NetLists) → HasEndsInRange net → IsLive net → HaveRanks (extended_places net)
ranks_of net ends live =
    let ranked = live_is_ranked net ends live in
    (ranked.0, ranked.1, ranks_extended net ranked.0 ranked.1 ranked.2)

module _ (net : NetLists) (f : SettledForm) (x : ℕ → ℕ → Date) (h : IsShortestForm (length net.transitions) f x) (t : ℕ) (in' : t < length net.transitions) where
  abbrev step : ℕ → ℤ
  step k = step_of_form f t

  -- the dates move by the step in each period, up to any number
  moves : (last : ℕ) → MovesTo (x t) f.after f.period last step
  moves last k past l = h.stands.repeats.again t k in' past

  pub periods_on : TurnsAreTold → (k j : ℕ) → f.after < k → x t (k + j * f.period) ≡ move (pos j *ℤ step_of_form f t) (x t k)
  periods_on law k j past =
      law (x t) f.after f.period (k + j * f.period) step (λ i. refl) (moves (k + j * f.period)) k j past (omega arith)

  pub other_goes_on : FormsReachBack → (period k j : ℕ) (by : ℤ) → f.after < k
      → x t (k + 0 * f.period + period) ≡ move by (x t (k + 0 * f.period))
      → x t (k + 1 * f.period + period) ≡ move by (x t (k + 1 * f.period))
      → x t (k + j * f.period + period) ≡ move by (x t (k + j * f.period))
  other_goes_on law period k j by past one two =
      let last : ℕ = k + (j + 1) * f.period + period in
      let wide : (j + 1) * f.period ≡ j * f.period + f.period = grind arith in
      law (x t) f.after f.period last step (λ i. refl) (moves last) period by k 0 past (omega (arith, wide)) one two j (omega (arith, wide))

  pub dues_between : RunsKeepDues → (due : ℕ → Date) (gap : ℤ) (k q j : ℕ) → f.after < k → j ≤ q
      → MovesTo due f.after f.period (k + q * f.period) (λ i. gap) → IsAtMostDate (x t k) (due k)
      → IsAtMostDate (x t (k + q * f.period)) (due (k + q * f.period)) → IsAtMostDate (x t (k + j * f.period)) (due (k + j * f.period))
  dues_between law due gap k q j past few goes first late =
      law (x t) due f.after f.period (k + q * f.period) step (λ i. gap) (λ i. refl) (λ i. refl) (moves (k + q * f.period)) goes k q past (omega arith) first late j few
