use Rattle.std.proofs.Common.{◌<◌, length, get_or, arith}
use Rattle.std.proofs.lemmas.List.{get_or_default}
use Rattle.teg_critical.specs.declared.endings.Ending.{Ending}
use Rattle.teg_critical.specs.LossEndings.{IsEnding}
use Rattle.teg_critical.proofs.Ending.{no_ending}
use Rattle.teg_critical.proofs.EachPlace.{told_one}
use Rattle.teg_critical.proofs.Telling.{tells_slack}
use Rattle.teg_critical.proofs.each_place.tell_places.Goals as goal

pub loop-ending-preserved : goal.loop-ending-preserved
loop-ending-preserved c =
    let k = c.loop-ending.ending-index in
    let l = c.loop-ending-test.true in
    let e : Ending = get_or c.args.endings.now k no_ending in
    let is : IsEnding c.args.known.now.net.now e = c.requires.endings k no_ending l in
    let low : e.place.index < length c.args.slacks.now = omega (arith, is.in_range, c.requires.count) in
    told_one c.args.known.now.net.now c.args.best c.args.endings.now k e c.args.slacks.now c.loop-ending.slacks c.slack_by.result
    c.loop-ending.invariant l (get_or_default c.args.endings.now k no_ending e l) low
    (tells_slack c.args.known.now.net.now c.requires.can.rules c.args.best c.args.known.now.losses.now c.requires.can e.place is.in_range
    c.gap_from-gap.result c.gap_from-gap.ensures.none c.gap_from-gap.ensures.some c.slack_by.result c.slack_by.ensures)
