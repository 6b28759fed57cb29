use Rattle.std.proofs.Common.{arith}
use Rattle.dating_check.proofs.BackOrder.{some_numbers}
use Rattle.dating_check.proofs.BegunRows.{made_latest}
use Rattle.dating_check.proofs.made_rows.latest_rows.Goals as goal

pub unwrap-ranks-requires : goal.unwrap-ranks-requires
unwrap-ranks-requires c = some_numbers c.args.net.now c.in_ok-rising_numbers.field-0 c.requires.live c.in_ok-rising_numbers.ensures.circuit

pub returns : goal.returns
returns c =
    made_latest c.args.net.now c.args.rows.now c.args.numbers c.in_ok-rows_back.field-0.items c.rules.ensures c.requires.live (omega (arith, c.ranges.numbers.fits))
    c.in_ok-rows_back.ensures.full c.requires.most c.in_ok-rows_back.ensures.made
