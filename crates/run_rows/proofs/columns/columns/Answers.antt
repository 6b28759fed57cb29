use Rattle.std.proofs.Common.{[], arith}
use Rattle.std.proofs.lemmas.Grind.{common_steps}
use Rattle.run_rows.specs.ReadRuns.{IsColumn}
use Rattle.run_rows.proofs.ReadColumns.{mapped_more}
use Rattle.run_rows.proofs.columns.columns.Goals as goal

pub loop-index-preserved : goal.loop-index-preserved
loop-index-preserved c =
    let inv = c.loop-index.invariant in
    let wide = inv.wide in
    record {
      wide = grind (arith, common_steps);
      each = λ t l. rw c.in_ok-push.ensures.items
          (mapped_more (λ r. r.items) (λ i dates. IsColumn c.args.rows.now i c.args.first c.args.count dates) [] c.loop-index.columns.items
          c.in_ok-dates.dates (λ i m. inv.each i (omega (arith, m, wide)))
          (rw wide c.in_ok-dates.ensures) t (omega (arith, l, wide)));
    }
