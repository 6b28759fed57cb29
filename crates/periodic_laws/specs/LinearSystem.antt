-- What holds of the least datings of live nets and of their systems: they are the least solution of a linear system over
-- gains, and they settle (chapters 3 and 5).
use Rattle.std.specs.Prelude.{ℕ, ◌+◌, ◌<◌, ◌≡◌, length}
use Rattle.series_ops.specs.dioid.declared.dates.Date.{Date}
use Rattle.dioid_matrix.specs.MatrixStars.{IsLeastSolution, star_of}
use Rattle.dioid_matrix.specs.Sums.{dot}
use Rattle.series_ops.specs.series_laws.SeriesForms.{value_at}
use Rattle.series_ops.specs.declared.gains.Gain.{Gain}
use Rattle.settled_laws.specs.teg_net.declared.entries.Place.{Place}
use Rattle.settled_laws.specs.teg_net.Nets.{NetLists, HasEndsInRange, HasRisingLists, HasListsByRule}
use Rattle.settled_laws.specs.teg_net.Circuits.{IsLive}
use Rattle.settled_laws.specs.teg_model.Systems.{IsLeastIn}
use Rattle.settled_laws.specs.teg_model.Datings.{IsLeastDating, listed_releases, system_of, system_with}
use Rattle.settled_laws.specs.SettledForms.{SettledForm, RepeatsAfter, IsShortestForm, IsSettledFormOf}
use Rattle.periodic_laws.specs.PeriodicDates.{ArePeriodic}
use Rattle.periodic_laws.specs.Equations.{gains, gain_stars, AreCoefficients}
use Rattle.periodic_laws.specs.RepeatNumbers.{repeats_past, repeats_in, repeats_by}

-- a gain for each transition, with the dates of x as its values: shift k stands for firing k + 1
abbrev pub AreGainsOf : ℕ → (ℕ → ℕ → Date) → (ℕ → Gain) → Type 0
AreGainsOf count x c = (t k : ℕ) → t < count → value_at (c t).series k ≡ x t (k + 1)

-- gains for the dates of the net's least dating: the star of the entries times the right side, the least solution of the linear system
-- of its places, the implicit ones among them, of its ready dates and of its input lists, which end or go on
pub record IsNetSolved (net : NetLists) : Type 0 where
  pub entries : ℕ → ℕ → Gain
  pub right : ℕ → Gain
  pub dates : ℕ → Gain
  pub coefficients : AreCoefficients (system_of net (listed_releases net)) entries right
  pub least : IsLeastSolution gains (length net.transitions) entries right dates
  pub by_star : (i : ℕ) → dates i ≡ dot gains (length net.transitions) (star_of gains gain_stars (length net.transitions) entries i) right
  pub are_dates : (x : ℕ → ℕ → Date) → IsLeastDating net x → AreGainsOf (length net.transitions) x dates

-- the least dating of a live net is the least solution of its linear system
abbrev pub LeastDatingsSolve : Type 0
LeastDatingsSolve = (net : NetLists) → HasEndsInRange net → HasRisingLists net → HasListsByRule net → IsLive net → IsNetSolved net

-- the least dating of the net has a shortest settled form
abbrev pub SettlesShortest : NetLists → Type 0
SettlesShortest net = (f : SettledForm) × IsSettledFormOf net f

-- the least dating of every live net has a shortest settled form
abbrev pub LiveNetsSettle : Type 0
LiveNetsSettle = (net : NetLists) → HasEndsInRange net → HasRisingLists net → HasListsByRule net → IsLive net → SettlesShortest net

-- the lists of a live net alone tell numbers by which its least dating repeats
abbrev pub LeastDatingsRepeat : Type 0
LeastDatingsRepeat = (net : NetLists) → HasEndsInRange net → HasRisingLists net → HasListsByRule net → IsLive net → (x : ℕ → ℕ → Date) → IsLeastDating net x
    → RepeatsAfter (length net.transitions) x (repeats_past net) (repeats_in net) (repeats_by net)

-- dates that never fall and repeat, each transition in its own period, have a shortest settled form
abbrev pub PeriodicDatingsSettle : Type 0
PeriodicDatingsSettle = (count : ℕ) (x : ℕ → ℕ → Date) → ArePeriodic count x → (f : SettledForm) × IsShortestForm count f x

-- the least dates of a system of a live net never fall and repeat where its releases do, whatever the dates of its initial tokens
abbrev pub LeastInArePeriodic : Type 0
LeastInArePeriodic = (net : NetLists) → HasEndsInRange net → IsLive net → (initial : Place → ℕ → Date) (release x : ℕ → ℕ → Date)
    → ArePeriodic (length net.transitions) release
    → IsLeastIn (system_with net initial release) x
    → ArePeriodic (length net.transitions) x

-- a system of a live net whose releases never fall and repeat has a least dating, and this has a shortest settled form
abbrev pub SystemsSettle : Type 0
SystemsSettle = (net : NetLists) → HasEndsInRange net → IsLive net → (initial : Place → ℕ → Date) (release : ℕ → ℕ → Date)
    → ArePeriodic (length net.transitions) release
    → (x : ℕ → ℕ → Date) × IsLeastIn (system_with net initial release) x × (f : SettledForm) × IsShortestForm (length net.transitions) f x
