use Rattle.std.proofs.Common.{arith}
use Rattle.own_periods.specs.OwnRows.{AreOwn}
use Rattle.own_periods.proofs.Short.{short_rows}
use Rattle.own_periods.proofs.numbers.own_numbers.Goals as goal

pub own_periods-requires : goal.own_periods-requires
own_periods-requires c =
    let rows = c.in_ok-rows.ensures in
    short_rows c.args.net.now c.rules.ensures c.args.live.now c.requires.stands c.requires.alone c.in_ok-rows.rows rows.width rows.count rows.least

pub invariant_of-of : goal.invariant_of-of
invariant_of-of c =
    let rows = c.in_ok-rows.ensures in
    let found = rw c.in-Some.is at c.in_ok-own_periods.ensures in
    let own : AreOwn c.in_ok-rows.rows c.as_slice-owns.result.now = rw c.as_slice-owns.ensures.value found in
    let first = own.each 0 (omega (arith, rows.width, c.requires.some)) in
    record {
      short = short_rows c.args.net.now c.rules.ensures c.args.live.now c.requires.stands c.requires.alone c.in_ok-rows.rows rows.width rows.count rows.least;
      width = rows.width;
      own = own;
      at_pace = record { one = first.one; few = first.few; small = first.small };
    }
