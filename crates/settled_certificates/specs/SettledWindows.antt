-- Windows of a least dating in which it moves by steps, and that it then goes on so for ever (chapter 3).
use Rattle.std.specs.Prelude.{ℕ, ℤ, ◌+◌, ◌<◌, ◌≤◌, ◌≤ℤ◌, ◌≡◌, ◌⊎◌, length, All}
use Rattle.dioid.specs.declared.dates.Date.{Date}
use Rattle.dioid.specs.declared.dates.Date.TheVariants.{Early, Never}
use Rattle.dioid.specs.Dates.{move}
use Rattle.teg_net.specs.declared.entries.Place.{Place}
use Rattle.teg_net.specs.Nets.{NetLists, HasEndsInRange, IsInput}
use Rattle.teg_net.specs.Circuits.{IsLive}
use Rattle.teg_model.specs.Datings.{IsLeastUnder}
use Rattle.settled_laws.specs.SettledForms.{RepeatsAfter}

-- no place enters an input
abbrev pub EntersNoInput : NetLists → Type 0
EntersNoInput net = All (λ p. IsInput net p.to.index → ⊥) net.places

-- the step does not fall along the place, unless the date of this number at its end is never or that at its start is early
abbrev pub StepsRiseAlong : (ℕ → ℕ → Date) → ℕ → (ℕ → ℤ) → Place → Type 0
StepsRiseAlong x last step p = (x p.to.index last ≡ Never) ⊎ ((x p.from.index last ≡ Early) ⊎ (step p.from.index ≤ℤ step p.to.index))

-- past `after` the releases of each input move by its step in each period
abbrev pub ReleasesMove : NetLists → (ℕ → ℕ → Date) → ℕ → ℕ → (ℕ → ℤ) → Type 0
ReleasesMove net u after period step = (t k : ℕ) → IsInput net t → after < k → u t (k + period) ≡ move (step t) (u t k)

-- past `after` and up to `last` the dates move by the steps in each period, with room for two periods and for the tokens of each
-- place; no step falls along a place; and the releases of the inputs move by the steps too, for ever
pub record MovesInWindow (net : NetLists) (u x : ℕ → ℕ → Date) (after period last : ℕ) (step : ℕ → ℤ) : Type 0 where
  pub at_least_one : 1 ≤ period
  pub two_periods : after + period + period < last
  pub tokens : All (λ p. after + p.tokens + period + period ≤ last) net.places
  pub moves : (t k : ℕ) → t < length net.transitions → after < k → k + period ≤ last → x t (k + period) ≡ move (step t) (x t k)
  pub rises : All (StepsRiseAlong x last step) net.places
  pub releases : ReleasesMove net u after period step

-- where the least dating of a live net moves by steps in such a window, it moves by them for ever
abbrev pub WindowsGoOn : Type 0
WindowsGoOn = (net : NetLists) → HasEndsInRange net → EntersNoInput net → IsLive net → (u x : ℕ → ℕ → Date) → IsLeastUnder net u x → (after period last : ℕ) (step : ℕ → ℤ)
    → MovesInWindow net u x after period last step → RepeatsAfter (length net.transitions) x after period step
