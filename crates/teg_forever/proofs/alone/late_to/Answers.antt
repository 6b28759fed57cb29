use Rattle.std.proofs.Common.{ℕ, ◌≡◌, ◌+◌, ◌-◌, arith, subst}
use Rattle.forever_laws.specs.Late.{NoneLateTo}
use Rattle.teg_forever.specs.LateFirings.{InLeastAtZero}
use Rattle.teg_forever.proofs.AloneRows.{found, none_so_far, comes_at}
use Rattle.teg_forever.proofs.alone.late_to.Goals as goal

pub returns-then-due-least-clause-some : goal.returns-then-due-least-clause-some
returns-then-due-least-clause-some c =
    let given = c.loop-number.invariant.given in
    let n : ℕ = c.loop-number.number in
    found c.args.plain.now.net c.args.plain.now.row n c.due_at-due.result c.next_least-least.result (omega arith) (rw c.row-row.ensures.value at c.due_at-due.ensures.due)
    (comes_at c.args.plain.now.net c.args.plain.now.row.transition.index _ n c.next_least-least.result (omega arith) c.next_least-least.ensures.least) c.if-due-least.true c.loop-number.invariant.none

pub loop-number-preserved : goal.loop-number-preserved
loop-number-preserved c =
    let net = c.args.plain.now.net in
    let n : ℕ = c.loop-number.number in
    let given = c.loop-number.invariant.given in
    let more = c.next_least-least.ensures.given in
    let full = c.next_least-least.ensures.full in
    let before = c.loop-number.invariant.full in
    let same : n ≡ n + 1 - 1 = omega arith in
    record {
      stands = c.next_least-least.ensures.stands;
      given = omega arith;
      full = omega arith;
      none = subst (λ (m : ℕ). InLeastAtZero net (λ x. NoneLateTo x c.args.plain.now.row m)) same
          (none_so_far net c.args.plain.now.row n c.due_at-due.result c.next_least-least.result (omega arith) (rw c.row-row.ensures.value at c.due_at-due.ensures.due)
          (comes_at net c.args.plain.now.row.transition.index _ n c.next_least-least.result (omega arith) c.next_least-least.ensures.least) c.if-due-least.false c.loop-number.invariant.none);
    }

pub returns-clause-none : goal.returns-clause-none
returns-clause-none c x least k due date low late = c.loop-number.invariant.none x least k due date (omega arith) late
