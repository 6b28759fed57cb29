use Rattle.std.proofs.Common.{◌≡◌, ◌-◌, ◌<◌, ◌≤◌, true, false, length, refl, arith}
use Rattle.std.proofs.lemmas.Bool.{false≢true, iff_false}
use Rattle.round_check.proofs.Choosing.{none_chosen, order_more}
use Rattle.round_check.proofs.choices.in_order.Goals as goal

pub loop-next-init : goal.loop-next-init
loop-next-init c = λ j k d m n. absurd (omega arith)

pub loop-next-preserved : goal.loop-next-preserved
loop-next-preserved c =
    let vs = c.args.choices.now in
    let i = c.loop-next.next in
    let some : 1 ≤ i = omega arith in
    let within : i < length vs = omega arith in
    order_more vs i some within c.loop-next.invariant (c.is_before.ensures.0 c.if-not-is_before.false)

pub returns-then-not-is_before : goal.returns-then-not-is_before
returns-then-not-is_before c =
    let vs = c.args.choices.now in
    let i = c.loop-next.next in
    let before : i - 1 < i = omega arith in
    let within : i < length vs = omega arith in (
      λ (e : false ≡ true). absurd (false≢true e),
      λ h. absurd (iff_false c.is_before.ensures c.if-not-is_before.true (h (i - 1) i none_chosen before within)),
    )

pub returns : goal.returns
returns c = (λ t j k d m n. c.loop-next.invariant j k d m (omega arith), λ h. refl)
