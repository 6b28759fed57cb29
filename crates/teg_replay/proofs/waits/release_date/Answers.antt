use Rattle.std.proofs.Common.{◌∙◌, ap}
use Rattle.teg_net.specs.Inputs.{date_by_list}
use Rattle.teg_net.proofs.InputDates.{found_rules}
use Rattle.teg_replay.proofs.waits.release_date.Goals as goal

pub date-requires-clause-again : goal.date-requires-clause-again
date-requires-clause-again c =
    let first = (rw c.in-Some.is at c.input_list.ensures.list) ∙ c.requires.ends.lists c.args.transition.index c.requires.transition in
    (found_rules c.args.net.now c.args.net.now.inputs c.args.transition.index c.in-Some.list.now c.input_list.ensures.rules.each_input first).again

pub returns-in-Some : goal.returns-in-Some
returns-in-Some c =
    let first = (rw c.in-Some.is at c.input_list.ensures.list) ∙ c.requires.ends.lists c.args.transition.index c.requires.transition in
    c.date.ensures.value ∙ ap (λ o. date_by_list o c.args.number) first

pub returns-in-None : goal.returns-in-None
returns-in-None c =
    let first = (rw c.in-None.is at c.input_list.ensures.list) ∙ c.requires.ends.lists c.args.transition.index c.requires.transition in
    ap (λ o. date_by_list o c.args.number) first
