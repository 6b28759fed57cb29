use Rattle.std.proofs.Common.{ℕ, ◌<◌, ◌≤◌, ◌≡◌, [], get_or, map, subst, arith, ⊎_elim}
use Rattle.std.proofs.lemmas.Bool.{cases_lt, iff_false}
use Rattle.round_check.specs.OtherRounds.{BeginsSo}
use Rattle.round_check.proofs.refuted.first_so.Goals as goal

pub loop-index-preserved : goal.loop-index-preserved
loop-index-preserved c = λ j l begins.
    let i = c.loop-index.index in
    let head = c.args.head.now in
    ⊎_elim
    (λ (q : j < i). c.loop-index.invariant j q begins)
    (λ (q : i ≤ j).
    let is : j ≡ i = omega arith in
    let here = subst (λ (n : ℕ). BeginsSo head (get_or (map (λ x. x.now) c.args.lines.now) n [])) is begins in
    iff_false c.begins_so.ensures c.if-begins_so.false (rw c.text_at.ensures here))
    (cases_lt j i)
