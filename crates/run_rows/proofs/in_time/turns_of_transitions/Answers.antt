use Rattle.std.proofs.Common.{◌<◌, ◌≤◌, ◌≡◌, arith, ⊎_elim}
use Rattle.std.proofs.lemmas.Bool.{cases_lt}
use Rattle.run_rows.proofs.Ordered.{fewer_way}
use Rattle.run_rows.proofs.in_time.turns_of_transitions.Goals as goal

pub loop-index-preserved : goal.loop-index-preserved
loop-index-preserved c =
    let inv = c.loop-index.invariant in
    let own = c.turns_of_way-turns.ensures in
    record {
      within = omega (arith, own.within, inv.within);
      in_time = λ t l.
          ⊎_elim
          (λ (m : t < c.loop-index.index). fewer_way _ _ _ _ _ _ _ _ _ own.within (inv.in_time t m))
          (λ (m : c.loop-index.index ≤ t). let here : t ≡ c.loop-index.index = omega (arith, l, m) in rw here own.in_time)
          (cases_lt t c.loop-index.index);
    }
