use Rattle.std.proofs.Common.{◌≡◌, [], arith}
use Rattle.std.proofs.lemmas.Grind.{common_steps}
use Rattle.teg_settle.proofs.Copying.{mapped_more}
use Rattle.teg_settle.proofs.settled.no_dates.Goals as goal

pub loop-transition-preserved : goal.loop-transition-preserved
loop-transition-preserved c =
    let inv = c.loop-transition.invariant in
    record {
      count = grind (arith, common_steps);
      none = λ t l. rw c.in_ok-push.ensures.items
          (mapped_more (λ r. r.items) (λ i dates. dates ≡ []) [] c.loop-transition.table.items
          c.in_ok-none.none (λ i m. inv.none i (omega (arith, inv.count)))
          c.in_ok-none.ensures.items t (omega (arith, inv.count)));
    }
