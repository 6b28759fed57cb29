-- The start of a firing: the date before which it cannot come whatever was fired before.
use Rattle.std.specs.Prelude.{ℕ, pos, ◌≤◌, ◌≡◌, All}
use Rattle.dioid.specs.declared.dates.Date.{Date}
use Rattle.dioid.specs.declared.dates.Date.TheVariants.{Early, At}
use Rattle.dioid.specs.Dates.{IsAtMostDate, later_of}
use Rattle.teg_net.specs.Nets.{NetLists}
use Rattle.teg_net.specs.ReadyDates.{start_date}
use Rattle.teg_model.specs.Systems.{System}
use Rattle.teg_model.specs.Datings.{at_input}

-- z is not before the release of firing k of transition t, nor before the initial tokens that it takes
pub record IsNotBeforeStart (s : System) (t k : ℕ) (z : Date) : Type 0 where
  pub released : IsAtMostDate (s.release t k) z
  pub tokens : All (λ p. p.to.index ≡ t → k ≤ p.tokens → IsAtMostDate (s.initial p k) z) s.places

-- the least such date: the greatest of the release and of the dates of the initial tokens that firing k of transition t takes
pub record IsStartIn (s : System) (t k : ℕ) (start : Date) : Type 0 where
  pub not_before : IsNotBeforeStart s t k start
  pub least : (z : Date) → IsNotBeforeStart s t k z → IsAtMostDate start z

-- in a net under releases of its inputs: the greatest of 0 and the ready dates of the initial tokens that the firing takes,
-- or the release where that is later and the transition is an input
abbrev pub start_of_firing : NetLists → (ℕ → ℕ → Date) → ℕ → ℕ → Date
start_of_firing net u t k = later_of (At (pos (start_date net t k))) (at_input net t (u t k) Early)
