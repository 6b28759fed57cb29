use Rattle.std.proofs.lemmas.Bool.{iff_false, false≢true}
use Rattle.round_check.proofs.Stepping.{step_policy, follows_made, follows_kept, last_is}
use Rattle.round_check.proofs.Exactly.{kept_where_none, made_where_some}
use Rattle.round_check.proofs.runs.follows.Goals as goal

pub all_fit-requires-clause-policy : goal.all_fit-requires-clause-policy
all_fit-requires-clause-policy c =
    let part = c.args.part.now in
    rw c.deref-2.ensures.value (step_policy part.net.now part.parts.now part.number c.args.before.now c.in_ok-step.step c.requires.before.round c.in_ok-step.ensures)

pub is_made_of-requires-clause-policy : goal.is_made_of-requires-clause-policy
is_made_of-requires-clause-policy c =
    let part = c.args.part.now in
    rw c.deref-4.ensures.value (step_policy part.net.now part.parts.now part.number c.args.before.now c.in_ok-step.step c.requires.before.round c.in_ok-step.ensures)

-- no member is changed
pub returns-then-not-is_any : goal.returns-then-not-is_any
returns-then-not-is_any c =
    let part = c.args.part.now in
    let none = iff_false (rw c.deref.ensures.value at c.is_any.ensures) c.if-not-is_any.true in
    let last = last_is part.net.now part.parts.now part.number c.args.before.now c.in_ok-step.step c.requires.before.round c.in_ok-step.ensures (λ t k. none (t, k)) in
    (λ y. absurd (false≢true y), λ f. absurd (last f.improvable.0 f.improvable.1 f.improvable.2))

pub returns-then-all_fit : goal.returns-then-all_fit
returns-then-all_fit c =
    let part = c.args.part.now in
    let w = rw c.deref.ensures.value at (c.is_any.ensures.0 c.if-not-is_any.false) in
    let none = rw (c.deref-2.ensures.value, c.deref-3.ensures.value) at (c.all_fit.ensures.0 c.if-all_fit.true) in
    let keeps = rw c.deref-then-all_fit.ensures.value at c.in_ok-is_kept.ensures in (
      λ yes. follows_kept part.net.now part.parts.now part.number c.args.before.now c.in_ok-step.step c.requires.before.round c.in_ok-step.ensures w.0 w.1 c.args.round.now c.requires.round
          none (keeps.0 yes),
      λ f. keeps.1
          (kept_where_none part.net.now part.parts.now part.number c.args.before.now c.in_ok-step.step c.requires.before.round c.in_ok-step.ensures c.args.round.now f none),
    )

pub returns : goal.returns
returns c =
    let part = c.args.part.now in
    let w = rw c.deref.ensures.value at (c.is_any.ensures.0 c.if-not-is_any.false) in
    let some = iff_false (rw (c.deref-2.ensures.value, c.deref-3.ensures.value) at c.all_fit.ensures) c.if-all_fit.false in
    let made = rw (c.deref-4.ensures.value, c.deref-5.ensures.value) at c.in_ok-is_made.ensures in (
      λ yes. follows_made part.net.now part.parts.now part.number c.args.before.now c.in_ok-step.step c.requires.before.round c.in_ok-step.ensures w.0 w.1 c.args.round.now c.requires.round
          (made.0 yes),
      λ f. made.1
          (made_where_some part.net.now part.parts.now part.number c.args.before.now c.in_ok-step.step c.requires.before.round c.in_ok-step.ensures c.args.round.now f some),
    )
