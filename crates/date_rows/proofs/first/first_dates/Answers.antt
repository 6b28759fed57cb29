use Rattle.std.proofs.Common.{arith}
use Rattle.teg_net.specs.Nets.{IsNet}
use Rattle.teg_model.specs.Datings.{listed_releases, system_of}
use Rattle.date_rows.proofs.Earliest.{earliest, earliest_is_least, earliest_of_net, net_keeps_short_bounds, walks_of_table}
use Rattle.date_rows.proofs.first.first_dates.Goals as goal

pub with_next_in_cells-requires-clause-bounded : goal.with_next_in_cells-requires-clause-bounded
with_next_in_cells-requires-clause-bounded c = net_keeps_short_bounds c.args.net.now c.new-rows.ensures.rules

pub new-requires-2 : goal.new-requires-2
new-requires-2 c =
    let rows = c.loop-number.invariant.limits in
    record {
      width_in = rows.width_in;
      count_in = omega (arith, c.loop-number.invariant.count, c.loop-number.auto._number-end, c.requires.few);
      full = rows.full;
    }

pub returns-clause-least : goal.returns-clause-least
returns-clause-least c =
    let net = c.args.net.now in
    let s = system_of net (listed_releases net) in
    let ok : IsNet net = c.new-rows.ensures.rules in
    let x = earliest s c.args.live.now in
    let least = earliest_is_least net s.initial s.release c.args.live.now ok c.requires.stands in
    (x, earliest_of_net net c.args.live.now ok c.requires.stands, rw c.new-2.ensures (c.loop-number.invariant.least.least x least))

pub returns-clause-walks : goal.returns-clause-walks
returns-clause-walks c =
    let net = c.args.net.now in
    let s = system_of net (listed_releases net) in
    let ok : IsNet net = c.new-rows.ensures.rules in
    let x = earliest s c.args.live.now in
    let least = earliest_is_least net s.initial s.release c.args.live.now ok c.requires.stands in
    walks_of_table net c.args.live.now c.new-2.result ok c.requires.stands (rw c.new-2.ensures (c.loop-number.invariant.least.least x least))
