use Rattle.std.proofs.Common.{Some, arith, refl, subst, sym}
use Rattle.teg_state.specs.LeftLists.{AreNear}
use Rattle.teg_state.proofs.FoundLists.{list_is_of, list_tells, near_by, told_of}
use Rattle.teg_state.proofs.inputs.list_left.Goals as goal

pub dates_left-requires-clause-own : goal.dates_left-requires-clause-own
dates_left-requires-clause-own c = list_tells c.args.net.now c.args.transition.index c.in-Some.list.now c.rules.ensures c.requires.input c.in-Some.ensures

pub dates_left-requires-clause-width : goal.dates_left-requires-clause-width
dates_left-requires-clause-width c =
    let same = list_is_of c.args.net.now c.args.transition.index c.in-Some.list.now c.rules.ensures c.requires.input c.in-Some.ensures in
    omega (arith, same, c.requires.width)

pub dates_left-requires-clause-near : goal.dates_left-requires-clause-near
dates_left-requires-clause-near c =
    subst (AreNear c.args.net.now c.args.history.now.run c.args.now)
    (sym (list_is_of c.args.net.now c.args.transition.index c.in-Some.list.now c.rules.ensures c.requires.input c.in-Some.ensures))
    c.requires.near

pub returns-in_ok-dates-in-Some-clause-dates : goal.returns-in_ok-dates-in-Some-clause-dates
returns-in_ok-dates-in-Some-clause-dates c =
    rw c.new.ensures
    (told_of c.args.net.now c.args.history.now.run c.args.now c.args.transition c.in-Some.list.now c.in_ok-dates-in-Some.dates.items
    (list_is_of c.args.net.now c.args.transition.index c.in-Some.list.now c.rules.ensures c.requires.input c.in-Some.ensures)
    c.in_ok-dates-in-Some.ensures.dates)

pub returns-in_ok-dates-in-Some-clause-near : goal.returns-in_ok-dates-in-Some-clause-near
returns-in_ok-dates-in-Some-clause-near c =
    near_by c.args.net.now c.args.history.now.run c.args.now c.args.transition.index
    (record { transition = c.args.transition; dates = c.new.result; again = c.in-Some.list.now.again })
    (Some c.in-Some.list.now) c.in-Some.ensures refl (rw c.new.ensures c.in_ok-dates-in-Some.ensures.limits) (returns-in_ok-dates-in-Some-clause-dates c)
