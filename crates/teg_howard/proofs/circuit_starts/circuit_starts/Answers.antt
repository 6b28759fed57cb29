use Rattle.std.proofs.Common.{◌≡◌, length, ap, subst, arith}
use Rattle.teg_net.specs.Parts.{IsMember}
use Rattle.policy_rounds.specs.PolicyLists.{policy_of}
use Rattle.teg_howard.specs.CircuitStarts.{ComesAgain}
use Rattle.policy_rounds.proofs.Back.{back_member}
use Rattle.teg_net.proofs.Reading.{written_back}
use Rattle.teg_howard.proofs.Passing.{started_outside, started_old, started_new, end_member, end_fresh, end_old}
use Rattle.teg_howard.proofs.circuit_starts.circuit_starts.Goals.{then-parts-start+in-Some, then-parts-start+in_default, else-parts-start}
use Rattle.teg_howard.proofs.circuit_starts.circuit_starts.Goals as goal

pub lowest_back-requires-clause-on_policy : goal.lowest_back-requires-clause-on_policy
lowest_back-requires-clause-on_policy c =
    let net = c.args.part.now.net.now in
    let parts = c.args.part.now.parts.now in
    let part = c.args.part.now.number in
    let π = policy_of c.args.policy.now in
    let r = c.requires in
    let i = c.loop-start.start in
    let member : IsMember parts part i = record { in_range = c.loop-start-test.true; here = c.if-parts-start.true } in
    let end = c.in-Some.end in
    let e = rw c.deref_mut.ensures.value at c.in-Some.ensures.some in
    let end_in = end_member net π parts part i c.loop-start.passed.items c.fresh_end.new.passed end r.is_policy member e.0 in
    record { parts = parts; part = part; count = c.args.part.now.count; member = end_in; kept = r.is_policy }

pub lowest_back-requires-clause-again : goal.lowest_back-requires-clause-again
lowest_back-requires-clause-again c =
    let net = c.args.part.now.net.now in
    let π = policy_of c.args.policy.now in
    let passed = c.loop-start.passed.items in
    let e = rw c.deref_mut.ensures.value at c.in-Some.ensures.some in
    let few : length passed ≡ length c.args.policy.now = omega (arith, c.loop-start.invariant.count_passed, c.requires.count) in
    let fresh =
    end_fresh net π c.args.part.now.parts.now c.args.part.now.number c.loop-start.starts.items passed c.fresh_end.new.passed
    c.loop-start.start c.in-Some.end c.loop-start.invariant e.0 e.1 in
    subst (λ n. ComesAgain net π n c.in-Some.end) few (e.0.round fresh)

pub index_mut-requires : goal.index_mut-requires
index_mut-requires c =
    let net = c.args.part.now.net.now in
    let parts = c.args.part.now.parts.now in
    let part = c.args.part.now.number in
    let π = policy_of c.args.policy.now in
    let r = c.requires in
    let i = c.loop-start.start in
    let member : IsMember parts part i = record { in_range = c.loop-start-test.true; here = c.if-parts-start.true } in
    let end = c.in-Some.end in
    let e = rw c.deref_mut.ensures.value at c.in-Some.ensures.some in
    let end_in = end_member net π parts part i c.loop-start.passed.items c.fresh_end.new.passed end r.is_policy member e.0 in
    let low = c.lowest_back.ensures.leads in
    let low_in : IsMember parts part c.lowest_back.result = subst (IsMember parts part) low.1 (back_member net parts part π r.is_policy low.0 end end_in) in
    let ok = c.loop-start.starts.ok in
    omega (arith, low_in.in_range, c.loop-start.invariant.count, ok.0)

pub loop-start-preserved : goal.loop-start-preserved
loop-start-preserved c =
    let net = c.args.part.now.net.now in
    let parts = c.args.part.now.parts.now in
    let part = c.args.part.now.number in
    let π = policy_of c.args.policy.now in
    let i = c.loop-start.start in
    let h = c.loop-start.invariant in
    let passed = c.loop-start.passed.items in
    let starts = c.loop-start.starts.items in
    let ok = c.loop-start.passed.ok in
    elim c.if-parts-start.branch [
      | then-parts-start+in-Some w ↦
          let now = w.fresh_end.new.passed in
          let end = w.in-Some.end in
          let e = rw w.deref_mut.ensures.value at w.in-Some.ensures.some in
          let long : length now ≡ c.loop-start.passed.len = omega (arith, w.fresh_end.auto.passed, ok.0, ap length w.deref_mut.ensures.value) in
          let end_in = end_member net π parts part i passed now end c.requires.is_policy (record { in_range = c.loop-start-test.true; here = w.if-parts-start.true }) e.0 in
          rw (w.starts-is, w.passed-is, written_back now passed c.loop-start.passed.len long)
          (started_new net π parts part starts passed now i end h e.0 c.requires.is_policy w.lowest_back.result
          end_in (end_fresh net π parts part starts passed now i end h e.0 e.1) w.lowest_back.ensures)
      | then-parts-start+in_default w ↦
          let now = w.fresh_end.new.passed in
          let e = rw w.deref_mut.ensures.value at w.in_default.ensures.none in
          let long : length now ≡ c.loop-start.passed.len = omega (arith, w.fresh_end.auto.passed, ok.0, ap length w.deref_mut.ensures.value) in
          rw (w.starts-is, w.passed-is, written_back now passed c.loop-start.passed.len long)
          (started_old net π parts part starts passed now i e.0 h e.1 (end_old net π parts part starts passed now i e.0 h e.1 e.2))
      | else-parts-start w ↦
          rw (w.starts-is, w.passed-is)
          (started_outside net π parts part starts passed i h (λ m. w.if-parts-start.false m.here))
    ]
