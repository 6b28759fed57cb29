use Rattle.std.proofs.Common.{rules}
use Rattle.pace_check.specs.ShownCycles.{IsShownTimes}
use Rattle.pace_check.proofs.Paces.{pace_of_times}
use Rattle.pace_check.proofs.pace.shown_pace.Goals as goal

pub returns-in-Some : goal.returns-in-Some
returns-in-Some c =
    let times : IsShownTimes c.args.net.now c.args.text.now c.in-Some.answer = search rules in
    pace_of_times c.args.net.now c.args.text.now c.in-Some.answer c.best_ratio.result times c.best_ratio.ensures
