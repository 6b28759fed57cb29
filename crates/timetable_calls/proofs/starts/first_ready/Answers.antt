use Rattle.std.proofs.Common.{ℕ, inl, inr, refl, arith}
use Rattle.timetable_calls.proofs.Moving.{ready_more}
use Rattle.timetable_calls.proofs.starts.first_ready.Goals as goal
use Rattle.timetable_calls.proofs.starts.first_ready.Goals.{then-first-least, else-first-least}

pub loop-index-preserved : goal.loop-index-preserved
loop-index-preserved c =
    let k = c.loop-index.index in
    let own = c.periods_before-least.result in
    let old = c.loop-index.first in
    let more = λ (new : ℕ). ready_more c.args.scale c.args.period c.args.ready.now k old own new c.loop-index.invariant c.loop-index-test.true c.periods_before-least.ensures in
    elim c.if-first-least.branch [
      | then-first-least w ↦ rw w.first-is (more own (omega arith) (omega arith) (inr refl))
      | else-first-least w ↦ rw w.first-is (more old (omega arith) w.if-first-least.false (inl refl))
    ]
