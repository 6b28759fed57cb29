-- What happened in a net, and the dates of each transition in it.
use Rattle.std.specs.Prelude.{ℕ, ◌<◌, ◌≡◌, List, [], length, slice_index_or}
use Rattle.run_laws.specs.declared.fired.Fired.{Fired}
use Rattle.run_laws.specs.Runs.{dates_of_transition}

-- a run, and for how many transitions its dates are kept
pub record Past : Type 0 where
  pub width : ℕ
  pub run : List Fired

-- the columns are the dates of the firings of each transition
abbrev pub AreDatesByTransition : List Fired → List (List ℕ) → Type 0
AreDatesByTransition run columns = (t : ℕ) → t < length columns → slice_index_or columns t [] ≡ dates_of_transition run t
