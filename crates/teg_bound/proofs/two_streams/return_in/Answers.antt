use Rattle.std.proofs.Common.{◌<◌, ◌≤◌, ◌≡◌, sym, subst, arith, rules, ⊎_elim, to_z, of_z}
use Rattle.std.specs.Prelude.{FitsSigned}
use Rattle.std.specs.Int.{w128}
use Rattle.std.proofs.lemmas.Int.{to_z-of_z}
use Rattle.std.proofs.lemmas.Bool.{cases_lt}
use Rattle.teg_bound.specs.ReturningRows.{AreRowsMoved, AreTwoStreams, back_step}
use Rattle.teg_bound.proofs.TwoStreams.{do_not, found_return}
use Rattle.teg_bound.proofs.two_streams.return_in.Goals as goal

pub returns-in-None-clause-found : goal.returns-in-None-clause-found
returns-in-None-clause-found c =
    let net = c.args.net.now in
    let early = c.args.early.now in
    let late = c.make_row.new.rows in
    let h = c.requires.streams in
    let inv = c.loop-period.invariant in
    let two : AreTwoStreams net early late = record {
      early_is = h.early_is;
      late_is = c.make_row.ensures.made;
      some = omega (arith, h.long, h.early_is.stream.one);
      before = omega (arith, c.make_row.ensures.next, inv.number);
      few = omega (arith, c.make_row.ensures.next, inv.number, c.loop-period-test.true, c.number-last.ensures.value, c.requires.few);
    } in
    let fits : FitsSigned w128 c.step_to-step.result = search rules in
    found_return net early late two c.requires.part c.loop-period.period (omega (arith, c.make_row.ensures.next, inv.number)) h.long c.number-last.result _
    c.number-last.ensures.value (simp to_z-of_z c.step_to-step.ensures) (rw c.in-None.is at c.apart.ensures) (omega arith) two.few inv.refuted

pub loop-period-preserved : goal.loop-period-preserved
loop-period-preserved c =
    let net = c.args.net.now in
    let early = c.args.early.now in
    let late = c.make_row.new.rows in
    let h = c.requires.streams in
    let inv = c.loop-period.invariant in
    let n = c.loop-period.period in
    let two : AreTwoStreams net early late = record {
      early_is = h.early_is;
      late_is = c.make_row.ensures.made;
      some = omega (arith, h.long, h.early_is.stream.one);
      before = omega (arith, c.make_row.ensures.next, inv.number);
      few = omega (arith, c.make_row.ensures.next, inv.number, c.loop-period-test.true, c.number-last.ensures.value, c.requires.few);
    } in
    let fits : FitsSigned w128 c.step_to-step.result = search rules in
    let step_is : to_z w128 (of_z w128 c.step_to-step.result) ≡ back_step early late = simp to_z-of_z c.step_to-step.ensures in
    let bad = rw c.in-Some.is at c.apart.ensures in
    record {
      late_is = c.make_row.ensures.made;
      number = omega (arith, c.make_row.ensures.next, inv.number);
      refuted = λ p o l. ⊎_elim
          (λ (q : p < n). inv.refuted p o q)
          (λ (q : n ≤ p).
          let is : p ≡ n = omega arith in
          rw is (do_not net early late two c.requires.part n (omega (arith, c.make_row.ensures.next, inv.number)) h.long
          (λ rows. bad (subst (AreRowsMoved net early late) (sym step_is) rows))))
          (cases_lt p n);
    }

pub returns-clause-found : goal.returns-clause-found
returns-clause-found c = λ period o l. c.loop-period.invariant.refuted period o (omega (arith, l, c.loop-period-test.false, c.number-last.ensures.value))
