-- The least dating of a system of a net, made from the net's ranks: how late it can be, and what rows and tables have of it.
use Rattle.std.proofs.Common.{ℕ, ◌+◌, ◌*◌, ◌^◌, ◌≤◌, List, sym, subst, arith}
use Rattle.teg_net.specs.Nets.{NetLists, IsNet}
use Rattle.teg_net.specs.Limits.{greatest_hold, greatest_firing_number}
use Rattle.teg_model.specs.Systems.{System, IsLeastIn}
use Rattle.teg_model.specs.Datings.{extended_places, listed_releases, system_with, system_of, IsLeastDating}
use Rattle.teg_model.specs.DateBounds.{IsDateWithin}
use Rattle.teg_model.specs.WalkDates.{IsGreatestOfWalks}
use Rattle.teg_model.specs.LiveRanks.{AreRanks}
use Rattle.teg_model.proofs.LeastOver.{least_over, least_over_is_least}
use Rattle.teg_model.proofs.OfNet.{net_ends, ranks_extended, least_of_system}
use Rattle.teg_model.proofs.GreatestWalks.{least_is_walk}
use Rattle.teg_model.proofs.Within.{within_more, least_in_within, net_is_bounded}
use Rattle.teg_model.proofs.ListDates.{first_bound, listed_within}
use Rattle.teg_check.specs.Ranks.{IsRanking}
use Rattle.teg_model.proofs.DateFunctions.{Dating, InitialDates}
use Rattle.date_rows.specs.DateTables.{most_numbers, TableDates, HasDatesOf, HasDatesOfWalks}
use Rattle.date_rows.specs.declared.order.OrderedPlace.{OrderedPlace}
use Rattle.date_rows.specs.PlaceOrder.{OrdersPlaces}
use Rattle.date_rows.specs.KeptRows.{KeepsBounds, KeepsShortBounds, StaysWithin, most_in_cells}
use Rattle.date_rows.specs.Streams.{HasLeast}
use Rattle.date_rows.proofs.Ranking.{rank_of, ranks_of}

unfoldable pub earliest : System → List ℕ → Dating
earliest s ranks = least_over s 400 (rank_of ranks)

extended : (net : NetLists) (ranks : List ℕ) → IsNet net → IsRanking net ranks → AreRanks (extended_places net) 400 (rank_of ranks)
extended net ranks ok r = ranks_extended net 400 (rank_of ranks) (ranks_of net ranks ok r)

pub earliest_is_least : (net : NetLists) (init : InitialDates) (rel : Dating) (ranks : List ℕ) → IsNet net → IsRanking net ranks
    → IsLeastIn (system_with net init rel) (earliest (system_with net init rel) ranks)
unfolding earliest
earliest_is_least net init rel ranks ok r = least_over_is_least (system_with net init rel) 400 (rank_of ranks) (extended net ranks ok r)

-- its dates up to a number are at most what the initial dates, the releases and all holds come to
pub earliest_within : (net : NetLists) (init : InitialDates) (rel : Dating) (ranks : List ℕ) (most n : ℕ) → IsNet net → IsRanking net ranks → StaysWithin most n (system_with net init rel)
    → (t k : ℕ) → 1 ≤ k → k ≤ n → IsDateWithin most (earliest (system_with net init rel) ranks t k)
earliest_within net init rel ranks most n ok r b t k o few =
    let s : System = system_with net init rel in
    let re = extended net ranks ok r in
    let low = re.below t in
    let first = b.1.grows k n few in
    within_more (b.0 k + greatest_hold * (k * 400 + rank_of ranks t)) most (earliest s ranks t k) (omega (arith, low, first, b.2, few))
    (least_in_within s 400 greatest_hold (rank_of ranks) b.0 (earliest s ranks) re b.1 (earliest_is_least net init rel ranks ok r) t k o)

-- dates of sixteen bytes hold what keeps the bounds, at each number
pub bounds_stay : (s : System) (k : ℕ) → KeepsBounds s → k ≤ greatest_firing_number → StaysWithin (2 ^ 126) k s
bounds_stay s k b few = (b.0, b.1, omega (arith, b.1.grows k greatest_firing_number few, b.2))

-- and dates of eight bytes what keeps the short ones, at the first numbers
pub short_bounds_stay : (s : System) (k : ℕ) → KeepsShortBounds s → k ≤ most_in_cells → StaysWithin (2 ^ 62) k s
short_bounds_stay s k b few = (b.0, b.1, omega (arith, b.1.grows k most_in_cells few, b.3))

-- the net's own ready dates and lists keep the bounds
pub net_keeps_bounds : (net : NetLists) → IsNet net → KeepsBounds (system_of net (listed_releases net))
net_keeps_bounds net ok = (first_bound, net_is_bounded net (listed_releases net) first_bound ok (listed_within net ok), omega arith)

pub net_keeps_short_bounds : (net : NetLists) → IsNet net → KeepsShortBounds (system_of net (listed_releases net))
net_keeps_short_bounds net ok = (first_bound, net_is_bounded net (listed_releases net) first_bound ok (listed_within net ok), omega arith, omega arith)

-- and its first numbers need eight bytes
pub net_stays : (net : NetLists) (k : ℕ) → IsNet net → k ≤ most_numbers → StaysWithin (2 ^ 62) k (system_of net (listed_releases net))
net_stays net k ok few = (first_bound, net_is_bounded net (listed_releases net) first_bound ok (listed_within net ok), omega (arith, few))

pub earliest_of_net : (net : NetLists) (ranks : List ℕ) → IsNet net → IsRanking net ranks → IsLeastDating net (earliest (system_of net (listed_releases net)) ranks)
earliest_of_net net ranks ok r =
    let s : System = system_of net (listed_releases net) in
    least_of_system net (listed_releases net) (earliest s ranks) (earliest_is_least net s.initial s.release ranks ok r)

pub ordered_has_least : (net : NetLists) (turns : List OrderedPlace) → IsNet net → OrdersPlaces net turns → HasLeast net
ordered_has_least net turns ok o = (earliest (system_of net (listed_releases net)) o.0, earliest_of_net net o.0 ok o.1)

-- the dates of a table of least dates are those of walks
pub walks_of_table : (net : NetLists) (ranks : List ℕ) (table : TableDates) → IsNet net → IsRanking net ranks
    → HasDatesOf net (earliest (system_of net (listed_releases net)) ranks) table → HasDatesOfWalks net table
walks_of_table net ranks table ok r same t k l o m =
    let x : Dating = earliest (system_of net (listed_releases net)) ranks in
    subst (IsGreatestOfWalks net (listed_releases net) t k) (sym (same t k l o m))
    (least_is_walk net (listed_releases net) x 400 (rank_of ranks) (net_ends net ok) (ranks_of net ranks ok r) (earliest_of_net net ranks ok r) t k l o)
