-- Tables of names: of which nets they are, and what they answer.
use Rattle.std.specs.Prelude.{ℕ, ◌≡◌, List, Option, All, IfSome, IsSomeAnd, slice_get}
use Rattle.std.specs.BTreeMap.{get_by_text}
use Rattle.std.specs.Option.{IsSome}
use Rattle.teg_net.specs.declared.entries.Place.{Place}
use Rattle.teg_net.specs.declared.entries.Transition.{Transition}
use Rattle.teg_net.specs.declared.name_tables.Names.{Names}
use Rattle.teg_net.specs.Nets.{NetLists}

-- what is answered to a name is the number of an entry that has it, and a number is answered to the name of each of the first entries
pub record LooksUp {X : Type 0} (name_of : X → List ℕ) (entries first : List X) (look : List ℕ → Option ℕ) : Type 0 where
  pub sound : (name : List ℕ) → IfSome (look name) (λ i. IsSomeAnd (slice_get entries i) (λ x. name_of x ≡ name))
  pub whole : All (λ x. IsSome (look (name_of x))) first

-- the tables are those of the names of the net
pub record AreNamesOf (net : NetLists) (names : Names) : Type 0 where
  pub transitions : LooksUp (λ (t : Transition). t.name) net.transitions net.transitions (λ name. get_by_text names.transitions name)
  pub places : LooksUp (λ (p : Place). p.name) net.places net.places (λ name. get_by_text names.places name)
