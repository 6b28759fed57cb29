use Rattle.std.proofs.Common.{◌<◌, ◌≤◌, ◌≡◌, arith, ⊎_elim}
use Rattle.std.proofs.lemmas.Bool.{cases_lt}
use Rattle.run_rows.proofs.Jumping.{input_in}
use Rattle.run_rows.proofs.Ordered.{fewer_release}
use Rattle.run_rows.proofs.in_time.turns_of_inputs.Goals as goal

pub loop-index-preserved : goal.loop-index-preserved
loop-index-preserved c =
    let inv = c.loop-index.invariant in
    let own = c.turns_of_role-turns.ensures in
    record {
      within = omega (arith, own.within, inv.within);
      in_time = λ t l input.
          ⊎_elim
          (λ (m : t < c.loop-index.index). fewer_release _ _ _ _ _ _ _ own.within (inv.in_time t m input))
          (λ (m : c.loop-index.index ≤ t). let here : t ≡ c.loop-index.index = omega (arith, l, m) in rw here (own.in_time (rw here at input)))
          (cases_lt t c.loop-index.index);
    }

pub returns-clause-in_time : goal.returns-clause-in_time
returns-clause-in_time c = λ t input.
    let inside = input_in c.args.last.now.of.net.now t input in
    let all = rw c.transitions-index-end.ensures.value at c.loop-index-test.false in
    c.loop-index.invariant.in_time t (omega (arith, inside, all)) input
