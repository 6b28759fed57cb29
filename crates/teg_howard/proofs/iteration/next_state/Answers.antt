use Rattle.std.proofs.Common.{◌∙◌}
use Rattle.std.proofs.lemmas.Bool.{iff_false}
use Rattle.teg_howard.specs.FoundCircuits.{IsBetterPolicy}
use Rattle.teg_howard.proofs.RoundStates.{none_marked}
use Rattle.teg_howard.proofs.iteration.next_state.Goals as goal

pub returns-then-not-is_any-clause-none : goal.returns-then-not-is_any-clause-none
returns-then-not-is_any-clause-none c =
    let st = c.args.state.now in
    let up : IsBetterPolicy c.args.part.now.net.now c.args.part.now.parts.now c.args.part.now.number st.round.ratio st.values.items c.args.policy.now
    c.improve.new.policy c.in_ok-changed.changed.items = rw c.deref.ensures.value at c.in_ok-changed.ensures in
    none_marked c.args.part.now.net.now c.args.part.now.parts.now c.args.part.now.number c.args.policy.now c.improve.new.policy st c.in_ok-changed.changed.items c.requires.standing up
    (λ t y. iff_false c.is_any.ensures c.if-not-is_any.true (t, rw c.deref-2.ensures.value y))

pub next_circuit-requires-clause-improved : goal.next_circuit-requires-clause-improved
next_circuit-requires-clause-improved c =
    let some = c.is_any.ensures.0 c.if-not-is_any.false in
    rw c.deref-3.ensures.value
    (record {
      policy = c.args.policy.now;
      standing = c.requires.standing;
      up = rw c.deref.ensures.value at c.in_ok-changed.ensures;
      count = c.improve.auto.policy ∙ c.requires.standing.count;
      some = (some.0, rw c.deref-2.ensures.value at some.1);
    })

pub returns-clause-some : goal.returns-clause-some
returns-clause-some c = c.in_ok-ratio.ensures.gives c.settle.new.policy c.in_ok-next.next c.settle.auto.policy c.in_ok-next.ensures
