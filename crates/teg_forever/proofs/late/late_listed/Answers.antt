use Rattle.std.proofs.Common.{◌≡◌, ◌+◌, ◌-◌, arith, subst}
use Rattle.forever_laws.specs.settled_laws.SettledForms.{settled_date}
use Rattle.forever_laws.specs.Late.{NoneLateTo}
use Rattle.teg_forever.proofs.LateNumbers.{first_found, none_more, none_less}
use Rattle.teg_forever.proofs.late.late_listed.Goals as goal

pub returns-then-due-least-clause-some : goal.returns-then-due-least-clause-some
returns-then-due-least-clause-some c =
    first_found (settled_date c.args.row.now.settled) c.args.row.now.row c.loop-number.number c.due_at-due.result c.least-least.result
    (omega arith) (rw c.row.ensures.value at c.due_at-due.ensures.due) c.least-least.ensures.least c.if-due-least.true c.loop-number.invariant

pub loop-number-preserved : goal.loop-number-preserved
loop-number-preserved c =
    let same : c.loop-number.number ≡ c.loop-number.number + 1 - 1 = omega arith in
    subst (NoneLateTo (settled_date c.args.row.now.settled) c.args.row.now.row) same
    (none_more (settled_date c.args.row.now.settled) c.args.row.now.row c.loop-number.number c.due_at-due.result c.least-least.result
    (rw c.row.ensures.value at c.due_at-due.ensures.due) c.least-least.ensures.least c.if-due-least.false c.loop-number.invariant)

pub returns-clause-none : goal.returns-clause-none
returns-clause-none c = none_less (settled_date c.args.row.now.settled) c.args.row.now.row (c.loop-number.number - 1) c.args.last (omega arith) c.loop-number.invariant
