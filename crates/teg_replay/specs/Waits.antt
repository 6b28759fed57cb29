-- Working definitions of what the parts of a firing's wait come to.
use Rattle.std.specs.Prelude.{ℕ, ◌<◌, ◌≤◌, ◌≡◌, List, Option, Some, length, All, slice_index_or}
use Rattle.teg_net.specs.declared.entries.PlaceId.{PlaceId}
use Rattle.teg_net.specs.Circuits.{place_at}
use Rattle.teg_net.specs.Nets.{NetLists, IsInput}
use Rattle.teg_net.specs.Inputs.{input_date}
use Rattle.run_laws.specs.declared.fired.Fired.{Fired}
use Rattle.teg_replay.specs.declared.refusal.FireRefusal.{FireRefusal}
use Rattle.teg_replay.specs.declared.refusal.FireRefusal.TheVariants.{Illegal, BackInTime, BeforeRelease, OutOfMemory}
use Rattle.run_laws.specs.Runs.{token_date, IsThereBy, HasTokensBy, IsReleasedBy, last_date}

-- the first date by which the places into the transition have their tokens
pub record IsLatestToken (net : NetLists) (run : List Fired) (t k date : ℕ) : Type 0 where
  pub enough : HasTokensBy net run t k date
  pub first : (other : ℕ) → HasTokensBy net run t k other → date ≤ other

-- the date is that of the firing at most, and the first by which these places into its transition have their tokens for its firing k
pub record IsLatestOf (net : NetLists) (run : List Fired) (f : Fired) (k : ℕ) (ids : List PlaceId) (date : ℕ) : Type 0 where
  pub enough : All (λ p. IsThereBy date (token_date run (place_at net p) k)) ids
  pub first : (other : ℕ) → HasTokensBy net run f.transition.index k other → date ≤ other
  pub by : date ≤ f.date

-- one of these places has its token by no such date, told as its date, and those before it have theirs
pub record IsLateAt (net : NetLists) (run : List Fired) (f : Fired) (k : ℕ) (ids : List PlaceId) (id : PlaceId) (there : Option ℕ) : Type 0 where
  pub at : ℕ
  pub within : at < length ids
  pub is : (d : PlaceId) → slice_index_or ids at d ≡ id
  pub date : there ≡ token_date run (place_at net id) k
  pub late : IsThereBy f.date there → ⊥
  pub before : (j : ℕ) (d : PlaceId) → j < at → IsThereBy f.date (token_date run (place_at net (slice_index_or ids j d)) k)

-- the first of these places whose token is not there by the date of the firing is told, with the date of that token
abbrev pub IsFirstLateOf : NetLists → List Fired → Fired → ℕ → List PlaceId → FireRefusal → Type 0
IsFirstLateOf net run f k ids (Illegal id date) = IsLateAt net run f k ids id date
IsFirstLateOf net run f k ids (BackInTime last) = ⊥
IsFirstLateOf net run f k ids (BeforeRelease release) = ⊥
IsFirstLateOf net run f k ids OutOfMemory = ⊥

-- the first date by which the transition is released
pub record IsLatestRelease (net : NetLists) (t k date : ℕ) : Type 0 where
  pub enough : IsReleasedBy net t k date
  pub first : (other : ℕ) → IsReleasedBy net t k other → date ≤ other

-- the firing is before the last one, whose date is told
abbrev pub IsBackTo : List Fired → Fired → FireRefusal → Type 0
IsBackTo run f (Illegal id date) = ⊥
IsBackTo run f (BackInTime last) = (last_date run ≡ Some last) × (f.date < last)
IsBackTo run f (BeforeRelease release) = ⊥
IsBackTo run f OutOfMemory = ⊥

-- the firing is before its release, which is told
abbrev pub IsUnreleased : NetLists → Fired → ℕ → FireRefusal → Type 0
IsUnreleased net f k (Illegal id date) = ⊥
IsUnreleased net f k (BackInTime last) = ⊥
IsUnreleased net f k (BeforeRelease release) =
    IsInput net f.transition.index × (release ≡ input_date net f.transition.index k) × (IsThereBy f.date release → ⊥)
IsUnreleased net f k OutOfMemory = ⊥
