use Rattle.std.proofs.Common.{rules, arith, length, ap}
use Rattle.teg_settle.proofs.witness.PeriodTest.is_firing_apart.Goals as goal

pub returns : goal.returns
returns c = rw (← c.self.view_is) (λ said tests.
    let window = c.self.invariant.window in
    let there = tests.moved c.args.number (omega arith) (omega arith) c.args.transition.index (omega (arith, ap length c.transitions.ensures.value)) in
    search rules)
