use Rattle.answer_check.specs.DateReading.{IsListedDate}
use Rattle.answer_check.proofs.Firings.{no_firing_compared, none_compared}
use Rattle.answer_check.proofs.date.compared.Goals as goal

pub returns-in_default : goal.returns-in_default
returns-in_default c = no_firing_compared c.args.net.now c.args.list.now c.args.text.now (rw c.in_default.is at c.in_ok-firing.ensures)

pub returns-in_default-2 : goal.returns-in_default-2
returns-in_default-2 c =
    let firing = c.in-Some.firing in
    let read = rw c.in-Some.is at c.in_ok-firing.ensures in
    none_compared c.args.net.now c.args.list.now c.args.text.now firing.transition firing.number firing.word.now c.rules.ensures read (rw c.in_default-2.is at c.in_ok-date.ensures)

pub listed_date-requires : goal.listed_date-requires
listed_date-requires c = let read = rw c.in-Some.is at c.in_ok-firing.ensures in read.1.transition

pub returns : goal.returns
returns c =
    let firing = c.in-Some.firing in
    let read = rw c.in-Some.is at c.in_ok-firing.ensures in
    let listed : IsListedDate c.args.net.now c.args.list.now firing.transition.index firing.number c.in-Some-2.date = rw c.in-Some-2.is at c.in_ok-date.ensures in
    (firing.word.now, read.1, listed, c.in_ok-is_told.ensures listed.within)
