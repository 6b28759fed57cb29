use Rattle.std.proofs.Common.{◌≡◌, ◌≤◌, ◌+◌, ◌*◌, ◌∙◌, Some, None, ap, sym, subst, arith}
use Rattle.std.specs.Prelude.{slice_get, IfSome, pos}
use Rattle.std.proofs.lemmas.Int.{ints}
use Rattle.dioid.specs.declared.dates.Date.TheVariants.{At}
use Rattle.teg_net.specs.Limits.{greatest_input_date}
use Rattle.teg_net.specs.Nets.{IsInputOf}
use Rattle.teg_net.specs.Inputs.{date_by_list, list_date}
use Rattle.teg_net.proofs.InputDates.{list_date-most}
use Rattle.settled_laws.specs.teg_model.Datings.{as_date}
use Rattle.std.proofs.lemmas.Option.{slice_get-get_or}
use Rattle.list_spans.proofs.lists.date_of_list.Goals as goal

pub returns-in-Some-date-clause-value : goal.returns-in-Some-date-clause-value
returns-in-Some-date-clause-value c =
    let net = c.args.net.now in
    let l = c.in-Some.list.now in
    let read = rw c.inputs.ensures.value at c.in-Some.ensures.lookup in
    let at : slice_get net.inputs c.args.list ≡ Some l = slice_get-get_or net.inputs c.args.list l read.3.0 ∙ ap Some (sym (read.3.1 l)) in
    let is : Some c.in-Some-date.date ≡ list_date l.dates l.again c.args.number = sym c.in-Some-date.is ∙ c.date.ensures.value in
    let rules : IsInputOf net l = subst (IsInputOf net) (sym (read.3.1 l)) (c.inputs.ensures.rules.each_input c.args.list l read.3.0) in
    let most : c.in-Some-date.date ≤ greatest_input_date * (c.args.number + 1) =
    subst (λ o. IfSome o (λ d. d ≤ greatest_input_date * (c.args.number + 1))) (sym is)
    (list_date-most l.dates l.again c.args.number rules.dates_in rules.again) in
    let fits : At _ ≡ At (pos c.in-Some-date.date) = ap At (omega (arith, ints, most, c.requires.last)) in
    fits ∙ (ap as_date is ∙ sym (ap (λ o. as_date (date_by_list o c.args.number)) at))

pub returns-in-None-date-clause-value : goal.returns-in-None-date-clause-value
returns-in-None-date-clause-value c =
    let read = rw c.inputs.ensures.value at c.in-Some.ensures.lookup in
    let at : slice_get c.args.net.now.inputs c.args.list ≡ Some c.in-Some.list.now = slice_get-get_or c.args.net.now.inputs c.args.list c.in-Some.list.now read.3.0 ∙ ap Some (sym (read.3.1 c.in-Some.list.now)) in
    let is : None ≡ list_date c.in-Some.list.now.dates c.in-Some.list.now.again c.args.number = sym c.in-None-date.is ∙ c.date.ensures.value in
    ap as_date is ∙ sym (ap (λ o. as_date (date_by_list o c.args.number)) at)
