use Rattle.std.proofs.Common.{◌≡◌, arith}
use Rattle.std.proofs.lemmas.Grind.{common_steps}
use Rattle.teg_settle.proofs.Copying.{more}
use Rattle.teg_settle.proofs.settled.numbers_below.Goals as goal

pub loop-index-preserved : goal.loop-index-preserved
loop-index-preserved c =
    let inv = c.loop-index.invariant in
    record {
      count = grind (arith, common_steps);
      each = λ t l. rw c.in_ok-push.ensures.items
          (more (λ i n. n ≡ i) 0 c.loop-index.numbers.items _ (λ i m. inv.each i (omega (arith, inv.count))) (omega (arith, inv.count)) t (omega (arith, inv.count)));
    }
