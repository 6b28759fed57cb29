use Rattle.std.proofs.Common.{◌≡◌, get_or, false, true, sym, ap}
use Rattle.endless_due.specs.declared.row.EndlessRow.{EndlessRow}
use Rattle.teg_net.proofs.Distinct.{rest_twice, apart_more, not_both}
use Rattle.endless_due.proofs.rules.are_apart.Goals as goal

pub returns-then-any_row_of : goal.returns-then-any_row_of
returns-then-any_row_of c =
    let read = c.index-rows-index.result in
    let same : (get_or c.args.rows.now c.loop-index.index read).transition.index ≡ read.transition.index = ap (λ (r : EndlessRow). r.transition.index) (sym c.index-rows-index.is) in
    let later = c.any_row_of.ensures.0 c.if-any_row_of.true in (
      λ (e : false ≡ true). cc,
      λ once. absurd (rest_twice
          (λ (r : EndlessRow). r.transition.index) c.args.rows.now c.loop-index.index read read.transition.index c.loop-index-test.true same later once),
    )

pub loop-index-preserved : goal.loop-index-preserved
loop-index-preserved c =
    let read = c.index-rows-index.result in
    let same : (get_or c.args.rows.now c.loop-index.index read).transition.index ≡ read.transition.index = ap (λ (r : EndlessRow). r.transition.index) (sym c.index-rows-index.is) in
    apart_more (λ (r : EndlessRow). r.transition.index) c.args.rows.now c.loop-index.index read read.transition.index c.loop-index-test.true same
    (λ any. not_both c.any_row_of.result c.if-any_row_of.false (c.any_row_of.ensures.1 any)) c.loop-index.invariant
