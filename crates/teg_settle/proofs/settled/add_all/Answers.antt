use Rattle.std.proofs.Common.{◌≡◌, ◌≤◌, ◌<◌, length, get_or, ap, sym, ◌∙◌, subst, arith, ⊎_elim}
use Rattle.std.proofs.lemmas.Bool.{cases_lt}
use Rattle.std.proofs.lemmas.List.{length-set}
use Rattle.teg_settle.specs.Copies.{AreShownDates}
use Rattle.teg_settle.proofs.Copying.{row_apart, row_set, row_there}
use Rattle.teg_settle.proofs.settled.add_all.Goals as goal

pub add_dates-requires-clause-fewer : goal.add_dates-requires-clause-fewer
add_dates-requires-clause-fewer c =
    let inv = c.loop-index.invariant in
    let table = c.loop-index.table in
    let i = c.loop-index.index in
    let in' : i < length table = omega (arith, inv.width, c.requires.table.width, c.loop-index-test.true) in
    let row = inv.left i (omega arith) (omega (arith, in', inv.width)) in
    let there = row_there table i c.index-table-index.result in' in
    omega (arith, row.long, ap length there, c.requires.fewer)

pub add_dates-requires-clause-shown : goal.add_dates-requires-clause-shown
add_dates-requires-clause-shown c =
    let inv = c.loop-index.invariant in
    let table = c.loop-index.table in
    let i = c.loop-index.index in
    let rows = c.args.rows.now in
    let dates = (get_or table i c.index-table-index.result).items in
    let in' : i < length table = omega (arith, inv.width, c.requires.table.width, c.loop-index-test.true) in
    let row : AreShownDates rows i c.args.shown dates =
    subst (AreShownDates rows i c.args.shown) (row_there table i c.index-table-index.result in') (inv.left i (omega arith) (omega (arith, in', inv.width))) in
    subst (λ n. AreShownDates rows i n dates) (sym row.long) row

pub loop-index-preserved : goal.loop-index-preserved
loop-index-preserved c =
    let inv = c.loop-index.invariant in
    let table = c.loop-index.table in
    let i = c.loop-index.index in
    let rows = c.args.rows.now in
    let added = c.add_dates.new.dates in
    let in' : i < length table = omega (arith, inv.width, c.requires.table.width, c.loop-index-test.true) in
    record {
      width = length-set table i added ∙ inv.width;
      done = λ t l. ⊎_elim
          (λ (m : t < i). row_apart (AreShownDates rows t c.args.count) table i added t (omega (arith, m, in')) (λ e. absurd (omega (arith, m, e))) (inv.done t m))
          (λ (m : i ≤ t). let is : t ≡ i = omega (arith, l, m) in rw is (row_set (AreShownDates rows i c.args.count) table i added in' c.in_ok-add_dates.ensures))
          (cases_lt t i);
      left = λ t l m. row_apart (AreShownDates rows t c.args.shown) table i added t (omega (arith, m, inv.width)) (λ e. absurd (omega (arith, l, e))) (inv.left t (omega (arith, l)) m);
    }
