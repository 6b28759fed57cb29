use Rattle.law_examples.proofs.Answers.{ratios_rise}
use Rattle.std.proofs.Common.{◌∙◌}
use Rattle.teg_net.specs.Changes.{with_hold}
use Rattle.teg_net.specs.GreatestRatios.{IsCycleTime}
use Rattle.teg_net.specs.Nets.{NetLists}
use Rattle.law_examples.proofs.asked.cycle_with_longer_hold.Goals as goal

pub returns : goal.returns
returns c =
    let slower : NetLists = with_hold c.args.net.now c.args.place c.args.hold in
    let before : IsCycleTime c.args.net.now c.in_ok-before.before.parts.items c.in_ok-before.before.best = rw c.net.ensures.net at c.in_ok-before.ensures in
    let after : IsCycleTime slower c.in_ok-after.after.parts.items c.in_ok-after.after.best = rw (c.net-2.ensures.net ∙ c.set_hold.ensures) at c.in_ok-after.ensures in
    let places = c.slower_nets_have_slower_places.ensures c.args.net.now slower (c.longer_holds_make_slower_nets.ensures.longer c.args.net.now c.args.place c.args.hold c.requires.longer) in
    ratios_rise c.pace_rises_with_the_net.ensures.nets c.args.net.now slower places c.in_ok-before.before c.in_ok-after.after before after
