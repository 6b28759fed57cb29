-- A walk from a firing to one that is due bounds the date of the firing.
use Rattle.std.proofs.Common.{ℕ, ◌+◌, ◌≡◌, ap, arith}
use Rattle.std.specs.Prelude.{pos}
use Rattle.std.proofs.lemmas.Int.{ints}
use Rattle.teg_model.specs.dioid.declared.dates.Date.TheVariants.{At}
use Rattle.teg_model.specs.dioid.Dates.{delayed}
use Rattle.teg_model.specs.teg_net.declared.walks.Walk.{Walk}
use Rattle.teg_model.specs.teg_net.Nets.{NetLists, IsNet}
use Rattle.teg_model.specs.teg_net.Walks.{Walks, EndsAt, IsWalk, walk_time}
use Rattle.teg_model.proofs.OfNet.{net_ends}
use Rattle.teg_due.specs.declared.rows.DueRow.{DueRow}
use Rattle.latest_laws.specs.ShownByWalks.{TightWalksBound}
use Rattle.dating_check.specs.ShownWalks.{BoundsByRow}

pub walk_bounds : (net : NetLists) → IsNet net → (row : DueRow) (w : Walk) (t k date : ℕ) → IsWalk net w → w.start.index ≡ t → w.number ≡ k
    → EndsAt net w row.transition.index row.number → date + walk_time net w.steps.items ≡ row.date → TightWalksBound → BoundsByRow net row t k date
walk_bounds net ok row w t k date walk from number ends time law due told =
    let taken : ℕ = walk_time net w.steps.items in
    let leads : Walks net t k w.steps.items row.transition.index row.number = rw from at (rw number at ends) in
    let sum : delayed taken (At (pos date)) ≡ At (pos row.date) = ap At (omega (arith, ints, time)) in
    law net (net_ends net ok) due t k (At (pos date)) w (record {
      is_walk = walk;
      from = from;
      number = number;
      leads = (row.transition.index, row.number, row.date, leads, told, sum);
    })
