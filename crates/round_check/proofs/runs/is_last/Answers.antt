use Rattle.std.proofs.Common.{refl}
use Rattle.std.proofs.lemmas.Bool.{iff_false, false≢true}
use Rattle.round_check.proofs.Stepping.{changed_improves, last_is}
use Rattle.round_check.proofs.runs.is_last.Goals as goal

pub returns-then-is_any : goal.returns-then-is_any
returns-then-is_any c =
    let part = c.args.part.now in
    let w = rw c.deref.ensures.value at (c.is_any.ensures.0 c.if-is_any.true) in
    let up = changed_improves part.net.now part.parts.now part.number c.args.round.now c.in_ok-step.step c.requires.round c.in_ok-step.ensures w.0 w.1 in
    (λ y. absurd (false≢true y), λ last. absurd (last up.0 up.1 up.2))

pub returns : goal.returns
returns c =
    let part = c.args.part.now in
    let last = last_is part.net.now part.parts.now part.number c.args.round.now c.in_ok-step.step c.requires.round c.in_ok-step.ensures
    (λ t k. iff_false (rw c.deref.ensures.value at c.is_any.ensures) c.if-is_any.false (t, k)) in
    (λ yes. last, λ h. refl)
