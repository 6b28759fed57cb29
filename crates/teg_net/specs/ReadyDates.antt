-- From when the initial tokens of places are ready, and the start that they give a firing.
use Rattle.std.specs.Prelude.{ℕ, Bool, ◌-◌, ◌≤◌, ◌≡◌, ◌⊎◌, ◌&&◌, ◌==◌, nat_le, max, if◌then◌else◌, slice_index_or, All, Any}
use Rattle.std.specs.List.{fold}
use Rattle.teg_net.specs.declared.entries.Place.{Place}
use Rattle.teg_net.specs.Nets.{NetLists}

-- the date from which a token of the place is ready, counted from 1: 0 where the place has no ready dates
abbrev pub ready_date : Place → ℕ → ℕ
ready_date p token = slice_index_or p.ready (token - 1) 0

-- firing k of transition t takes one of the initial tokens of the place
abbrev pub takes_initial : ℕ → ℕ → Place → Bool
takes_initial t k p = (p.to.index == t) && nat_le k p.tokens

-- the ready date of the initial token that firing k of transition t takes from the place, and 0 where it takes none
abbrev pub ready_for : ℕ → ℕ → Place → ℕ
ready_for t k p = if takes_initial t k p then ready_date p k else 0

-- the start of firing k of transition t: the latest of 0 and the ready dates of the initial tokens that it takes
abbrev pub start_date : NetLists → ℕ → ℕ → ℕ
start_date net t k = fold (λ latest p. max latest (ready_for t k p)) 0 net.places

-- no initial token that firing k of transition t takes is ready later, and the date is 0 or the ready date of one of them
pub record IsStartDate (net : NetLists) (t k date : ℕ) : Type 0 where
  pub late_enough : All (λ p. p.to.index ≡ t → k ≤ p.tokens → ready_date p k ≤ date) net.places
  pub reached : (date ≡ 0) ⊎ Any (λ p. (p.to.index ≡ t) × (k ≤ p.tokens) × (ready_date p k ≡ date)) net.places
