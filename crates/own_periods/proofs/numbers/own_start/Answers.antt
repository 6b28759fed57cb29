use Rattle.std.proofs.Common.{◌<◌, ◌≤◌, ◌≡◌, sym, ◌∙◌, arith, ⊎_elim}
use Rattle.std.proofs.lemmas.Bool.{cases_lt, false≢true}
use Rattle.own_periods.proofs.numbers.own_start.Goals as goal
use Rattle.own_periods.proofs.numbers.own_start.Goals.{then-not-is_moved, else-not-is_moved}

pub loop-number-preserved : goal.loop-number-preserved
loop-number-preserved c =
    let inv = c.loop-number.invariant in
    let n = c.loop-number.number in
    let says = c.is_moved.ensures in
    elim c.if-not-is_moved.branch [
      | then-not-is_moved w ↦
          rw w.after-is (record {
            before = omega arith;
            few = omega (arith, c.loop-number-test.true);
            moved = λ k a m. absurd (omega (arith, a, m));
            first = λ o h. false≢true (sym w.if-not-is_moved.true ∙ says.1 h);
          })
      | else-not-is_moved w ↦
          rw w.after-is (record {
            before = omega (arith, inv.before);
            few = inv.few;
            moved = λ k a m. ⊎_elim
                (λ (q : k < n). inv.moved k a q)
                (λ (q : n ≤ k).
                let same : k ≡ n = omega (arith, q, m) in
                rw same (says.0 w.if-not-is_moved.false))
                (cases_lt k n);
            first = inv.first;
          })
    ]
