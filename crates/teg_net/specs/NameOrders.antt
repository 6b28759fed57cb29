-- Transitions by name.
use Rattle.std.specs.Prelude.{ℕ, ◌≡◌, List, Option, All, IfSome, IsSomeAnd, slice_get}
use Rattle.std.specs.Option.{IsSome}
use Rattle.std.specs.BTreeMap.{BTreeMap, get_by}
use Rattle.std.specs.Cmp.Lexicographic.{slice_cmp}
use Rattle.std.specs.Ordering.{nat_cmp}
use denote.Ref.{Bor}
use Rattle.teg_net.specs.declared.entries.Transition.{Transition}
use Rattle.teg_net.specs.declared.entries.TransitionId.{TransitionId}

-- the transition that the map has for a name
abbrev pub id_named : BTreeMap (Bor (List ℕ)) TransitionId → List ℕ → Option TransitionId
id_named ids name = get_by (λ k. slice_cmp nat_cmp name k.now) ids

-- what the map has for a name is a transition of that name, and it has one for each of the first transitions
pub record HasNames (transitions first : List Transition) (ids : BTreeMap (Bor (List ℕ)) TransitionId) : Type 0 where
  pub sound : (name : List ℕ) → IfSome (id_named ids name) (λ id. IsSomeAnd (slice_get transitions id.index) (λ t. t.name ≡ name))
  pub whole : All (λ t. IsSome (id_named ids t.name)) first
