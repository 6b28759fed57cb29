-- The ends of the places of any net are below some number.
use Rattle.std.proofs.Common.{ℕ, ◌+◌, ◌<◌, arith}
use Rattle.std.specs.Prelude.{sum_by}
use Rattle.std.proofs.lemmas.List.Sums.{get_or-le-sum_by}
use Rattle.teg_net.specs.declared.entries.Place.{Place}
use Rattle.teg_net.specs.Nets.{NetLists}
use Rattle.teg_net.specs.Circuits.{no_place}
use Rattle.teg_loops.specs.Loops.{EndsBelow}

-- the sum of both ends of a place
abbrev ends_of : Place → ℕ
ends_of p = p.from.index + p.to.index

-- and so is the number t
pub ends_below_some : (net : NetLists) (t : ℕ) → (n : ℕ) × EndsBelow net n × (t < n)
ends_below_some net t = (
  sum_by ends_of net.places + t + 1,
  record {
    from_in = λ p l. let low = get_or-le-sum_by ends_of net.places p.index no_place l in omega arith;
    to_in = λ p l. let low = get_or-le-sum_by ends_of net.places p.index no_place l in omega arith;
  },
  omega arith,
)
