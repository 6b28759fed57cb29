-- Settled forms of times of walks, by the form of the part of a net that the walks reach.
use Rattle.std.specs.Prelude.{ℕ, ℤ, pos, Bool, ◌<◌, List, IsTrue, if◌then◌else◌, length, map, replicate, slice_index}
use Rattle.std.specs.List.{range_with_len}
use Rattle.dioid.specs.declared.dates.Date.{Date}
use Rattle.dioid.specs.declared.dates.Date.TheVariants.{Early}
use Rattle.periodic_laws.specs.settled_laws.SettledForms.{SettledForm, settled_length, row_of, step_of_form}
use Rattle.settled_forms.specs.Spread.{is_marked}

-- the dates of transition t of the whole net: those of its new number where it is marked, and none else
abbrev pub spread_row : List Bool → List ℕ → SettledForm → ℕ → List Date
spread_row marks new f t = if is_marked marks t then row_of f (slice_index new t) else replicate (settled_length f) Early

-- its step
abbrev pub spread_step : List Bool → List ℕ → SettledForm → ℕ → ℤ
spread_step marks new f t = if is_marked marks t then step_of_form f (slice_index new t) else pos 0

-- the form of a part of a net, told of the whole net
abbrev pub spread_form : List Bool → List ℕ → SettledForm → SettledForm
spread_form marks new f = record {
  after = f.after;
  period = f.period;
  rows = map (spread_row marks new f) (range_with_len 0 (length new));
  steps = map (spread_step marks new f) (range_with_len 0 (length new));
}

-- the new number of each marked transition is one of the form
pub record AreNumbersOf (marks : List Bool) (new : List ℕ) (f : SettledForm) : Type 0 where
  pub each : (t : ℕ) → t < length new → IsTrue (is_marked marks t) → slice_index new t < length f.rows
