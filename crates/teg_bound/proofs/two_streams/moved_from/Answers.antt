use Rattle.std.proofs.Common.{◌+◌, ◌<◌, ◌≤◌, ◌≡◌, sym, ◌∙◌, arith, rules, ⊎_elim}
use Rattle.std.specs.Prelude.{FitsSigned}
use Rattle.std.specs.Int.{w128}
use Rattle.std.proofs.lemmas.Int.{to_z-of_z}
use Rattle.std.proofs.lemmas.Bool.{cases_lt, false≢true}
use Rattle.teg_bound.specs.ReturningRows.{AreTwoStreams}
use Rattle.teg_bound.proofs.TwoStreams.{moved_row, row_moved, some_kept}
use Rattle.teg_bound.proofs.two_streams.moved_from.Goals as goal
use Rattle.teg_bound.proofs.two_streams.moved_from.Goals.{then-not-is_row_moved, else-not-is_row_moved}

pub loop-number-preserved : goal.loop-number-preserved
loop-number-preserved c =
    let net = c.args.net.now in
    let early = c.make_row.new.rows in
    let late = c.make_row-in-loop-number.new.rows in
    let h = c.requires.returned.1 in
    let inv = c.loop-number.invariant in
    let n = c.loop-number.number in
    let p = c.args.found.period in
    let s = c.args.found.step in
    let old = c.loop-number.after in
    let here : early.stream.last.number ≡ n = omega (arith, c.make_row.ensures.next, inv.number) in
    let apart : late.stream.last.number ≡ early.stream.last.number + p = omega (arith, c.make_row.ensures.next, c.make_row-in-loop-number.ensures.next, inv.apart) in
    let first : 1 ≤ n = omega (arith, inv.number) in
    let two : AreTwoStreams net early late = record {
      early_is = c.make_row.ensures.made;
      late_is = c.make_row-in-loop-number.ensures.made;
      some = omega (arith, c.make_row.ensures.next);
      before = omega (arith, apart);
      few = omega (arith, apart, here, h.few, c.loop-number-test.true);
    } in
    let kept = some_kept net early late two in
    let fits : FitsSigned w128 s = search rules in
    let says = simp to_z-of_z at c.is_row_moved.ensures in
    elim c.if-not-is_row_moved.branch [
      | then-not-is_row_moved w ↦
          let is = w.after-is in
          record {
            early_is = c.make_row.ensures.made;
            late_is = c.make_row-in-loop-number.ensures.made;
            number = omega (arith, here);
            apart = apart;
            within = omega (arith, is);
            top = omega (arith, is, c.loop-number-test.true);
            moved = λ x least t k l m q. absurd (omega (arith, is, m, q));
            first = λ x least o all.
                false≢true (sym w.if-not-is_row_moved.true ∙ says.1
                (moved_row net early late two c.requires.part.alone.no_input x least p apart n 1 s (omega (arith, here)) first (omega arith) kept (rw is at all)));
          }
      | else-not-is_row_moved w ↦
          let is = w.after-is in
          rw is (record {
            early_is = c.make_row.ensures.made;
            late_is = c.make_row-in-loop-number.ensures.made;
            number = omega (arith, here);
            apart = apart;
            within = omega (arith, inv.within);
            top = inv.top;
            moved = λ x least t k l m q. ⊎_elim
                (λ (below : k < n). inv.moved x least t k l m below)
                (λ (there : n ≤ k).
                let k_is : k ≡ n = omega (arith, there, q) in
                rw k_is (row_moved net early late two c.requires.part.alone.no_input x least p apart n 1 s (omega (arith, here)) first (omega arith) kept
                (says.0 w.if-not-is_row_moved.false) t l))
                (cases_lt k n);
            first = inv.first;
          })
    ]

pub returns : goal.returns
returns c =
    let inv = c.loop-number.invariant in
    record {
      within = inv.top;
      moved = λ x least t k l m q. inv.moved x least t k l m (omega (arith, q, c.loop-number-test.false));
      first = inv.first;
    }
