use Rattle.law_examples.proofs.Answers.{forms_later}
use Rattle.settled_laws.specs.SettledForms.{IsSettledFormOf}
use Rattle.std.proofs.Common.{refl}
use Rattle.std.proofs.Common.{◌∙◌}
use Rattle.teg_net.specs.Changes.{with_hold}
use Rattle.teg_net.specs.Nets.{IsNet}
use Rattle.teg_net.specs.Nets.{NetLists}
use Rattle.law_examples.proofs.asked.settle_with_longer_hold.Goals as goal

pub returns : goal.returns
returns c =
    let slower : NetLists = with_hold c.args.net.now c.args.place c.args.hold in
    let before : IsSettledFormOf c.args.net.now c.in_ok-before.before = rw c.net.ensures.net at c.in_ok-before.ensures.form in
    let after : IsSettledFormOf slower c.in_ok-after.after = rw (c.net-3.ensures.net ∙ c.set_hold.ensures) at c.in_ok-after.ensures.form in
    let ok : IsNet slower = rw (c.net-2.ensures.net ∙ c.set_hold.ensures) at c.rules.ensures in
    forms_later c.dates_rise_with_the_net.ensures c.forms_tell_dates.ensures c.args.net.now slower ok
    (c.longer_holds_make_slower_nets.ensures.longer c.args.net.now c.args.place c.args.hold c.requires.longer) (λ t k. refl) c.in_ok-before.before c.in_ok-after.after before after
