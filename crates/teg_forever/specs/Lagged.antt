-- Working definitions of inputs from which all places are held so much longer than from one before: the release comes so much earlier.
use Rattle.std.specs.Prelude.{ℕ, ℤ, pos, ◌≡◌, ◌<◌, ◌≤◌, ◌-ℤ◌, Some, slice_get, ⊤}
use Rattle.std.specs.Int.RustNames.{unsigned_abs}
use Rattle.dioid.specs.Dates.{move}
use Rattle.forever_laws.specs.series_laws.SeriesForms.{Form, value_at}
use Rattle.series_form.specs.NumberBounds.{IsSeries}
use Rattle.teg_net.specs.Limits.{greatest_hold}
use Rattle.teg_net.specs.Nets.{NetLists, IsInput}
use Rattle.teg_lags.specs.Lags.{AreLagged}
use Rattle.teg_forever.specs.declared.lagged.InputBefore.{InputBefore}
use Rattle.teg_forever.specs.declared.releases.Release.{Release}
use Rattle.teg_forever.specs.declared.releases.Release.TheVariants.{Free, Latest}
use Rattle.teg_forever.specs.LatestReleases.{inputs_below}

-- an input before u stands at this place among the inputs before u, and from u all is held so much longer
pub record IsLaggedAt (net : NetLists) (u : ℕ) (b : InputBefore) : Type 0 where
  pub other : ℕ
  pub before : other < u
  pub input : IsInput net other
  pub stands : slice_get (inputs_below net u) b.place ≡ Some other
  pub lagged : AreLagged net other u b.lag
  pub small : unsigned_abs b.lag ≤ greatest_hold

-- each date of the second series is that of the first, so much earlier
pub record IsEarlierSeries (lag : ℤ) (s t : Form) : Type 0 where
  pub series : IsSeries t
  pub earlier : (k : ℕ) → value_at t k ≡ move (pos 0 -ℤ lag) (value_at s k)

-- the second release is the first, so much earlier
abbrev pub IsEarlierBy : ℤ → Release → Release → Type 0
IsEarlierBy lag Free Free = ⊤
IsEarlierBy lag Free (Latest t) = ⊥
IsEarlierBy lag (Latest s) Free = ⊥
IsEarlierBy lag (Latest s) (Latest t) = IsEarlierSeries lag s t
