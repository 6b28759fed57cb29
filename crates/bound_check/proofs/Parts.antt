-- What the parts of a net tell of paths between its transitions.
use Rattle.std.proofs.Common.{◌<◌, ◌≤◌, ◌≡◌, length, get_or, arith}
use Rattle.bound_laws.specs.Critical.{EachReachesEach}
use Rattle.teg_net.specs.Nets.{NetLists}
use Rattle.teg_parts.specs.Partitions.{PartLists, AreParts}
use Rattle.bound_check.specs.ShownBounds.{LacksPath}

-- in one part each transition reaches each
pub each_reaches_each : (net : NetLists) (p : PartLists) → AreParts net p → length p.inner ≤ 1 → EachReachesEach net
each_reaches_each net p h few s t s_in t_in =
    let count = h.strong.count in
    let first : get_or p.part_of s 0 < length p.inner = h.below s 0 (omega arith) in
    let second : get_or p.part_of t 0 < length p.inner = h.below t 0 (omega arith) in
    let same : get_or p.part_of s 0 ≡ get_or p.part_of t 0 = omega arith in
    ((h.strong.strong s t (omega arith) (omega arith)).0 same).0

-- in several some transition does not reach some other: one of the second does not reach one of the first, which is upstream of it
pub lacks_path : (net : NetLists) (p : PartLists) → AreParts net p → 1 < length p.inner → LacksPath net
lacks_path net p h more =
    let first = h.some_member 0 (omega arith) in
    let second = h.some_member 1 more in
    let count = h.strong.count in
    let here = first.1.in_range in
    let there = second.1.in_range in
    record {
      from = second.0;
      to = first.0;
      from_in = omega arith;
      to_in = omega arith;
      none = λ way.
          let is : get_or p.part_of second.0 0 ≡ 1 = second.1.here in
          let below = h.order.may 0 (omega arith) first.0 second.0 first.1 second.1.in_range way (λ e. (omega arith)) in
          (omega arith);
    }
