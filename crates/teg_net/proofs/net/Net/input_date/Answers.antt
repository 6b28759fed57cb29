use Rattle.std.proofs.Common.{◌≡◌, ◌∙◌, Some, ap, sym, subst}
use Rattle.teg_net.specs.Inputs.{IsInputDate, input_date, date_by_list}
use Rattle.teg_net.proofs.InputDates.{found_rules, IsInputDate-input_date, list_date-most}
use Rattle.teg_net.proofs.net.Net.input_date.Goals as goal

pub date-requires-clause-again : goal.date-requires-clause-again
date-requires-clause-again c =
    let first = rw c.in-Some.is at c.list_of.ensures.first in
    let rules = found_rules c.args.self.now c.args.self.now.inputs c.args.transition.index c.in-Some.list.now c.list_of.ensures.rules.each_input first in
    rules.again

pub returns-in-Some-clause-meaning : goal.returns-in-Some-clause-meaning
returns-in-Some-clause-meaning c =
    let first = rw c.in-Some.is at c.list_of.ensures.first in
    let is : c.date.result ≡ input_date c.args.self.now c.args.transition.index c.args.number = c.date.ensures.value ∙ ap (λ o. date_by_list o c.args.number) first in
    subst (IsInputDate c.args.self.now c.args.transition.index c.args.number) (sym is)
    (IsInputDate-input_date c.args.self.now c.args.transition.index c.args.number c.list_of.ensures.rules c.requires.first)

pub returns-in-Some-clause-most : goal.returns-in-Some-clause-most
returns-in-Some-clause-most c =
    let first = rw c.in-Some.is at c.list_of.ensures.first in
    let rules = found_rules c.args.self.now c.args.self.now.inputs c.args.transition.index c.in-Some.list.now c.list_of.ensures.rules.each_input first in
    rw c.date.ensures.value (list_date-most c.in-Some.list.now.dates c.in-Some.list.now.again c.args.number rules.dates_in rules.again)

pub returns-in-None-clause-meaning : goal.returns-in-None-clause-meaning
returns-in-None-clause-meaning c =
    let first = rw c.in-None.is at c.list_of.ensures.first in
    let is : Some 0 ≡ input_date c.args.self.now c.args.transition.index c.args.number = ap (λ o. date_by_list o c.args.number) first in
    subst (IsInputDate c.args.self.now c.args.transition.index c.args.number) (sym is)
    (IsInputDate-input_date c.args.self.now c.args.transition.index c.args.number c.list_of.ensures.rules c.requires.first)
