-- From when on all that a firing waits for is there, and the tokens in places after a run.
use Rattle.std.specs.Prelude.{ℕ, ◌+◌, ◌-◌, ◌≤◌, ◌≡◌, List, length, All, slice_index_or, sum_by}
use Rattle.teg_net.specs.declared.entries.Place.{Place}
use Rattle.teg_net.specs.Nets.{NetLists}
use Rattle.teg_model.specs.Datings.{extended_places}
use Rattle.run_laws.specs.declared.fired.Fired.{Fired}
use Rattle.run_laws.specs.Runs.{dates_of_transition, token_date, IsThereBy, IsReleasedBy}

-- all that firing k of transition t waits for is there by the date: the tokens of the extended places, and the release of an input
pub record IsOpenBy (net : NetLists) (run : List Fired) (t k date : ℕ) : Type 0 where
  pub tokens : All (λ p. p.to.index ≡ t → IsThereBy date (token_date run p k)) (extended_places net)
  pub released : IsReleasedBy net t k date

-- the first such date: the greatest of the dates of the tokens and the release
pub record IsEarliest (net : NetLists) (run : List Fired) (t k date : ℕ) : Type 0 where
  pub enough : IsOpenBy net run t k date
  pub first : (other : ℕ) → IsOpenBy net run t k other → date ≤ other

-- the tokens in a place after the run
abbrev pub tokens_in : List Fired → Place → ℕ
tokens_in run p = p.tokens + length (dates_of_transition run p.from.index) - length (dates_of_transition run p.to.index)

-- the tokens in all places of the net after the run
abbrev pub tokens_after : NetLists → List Fired → ℕ
tokens_after net run = sum_by (tokens_in run) net.places

-- the last of a list of dates, 0 of none
abbrev pub last_listed_date : List ℕ → ℕ
last_listed_date dates = slice_index_or dates (length dates - 1) 0
