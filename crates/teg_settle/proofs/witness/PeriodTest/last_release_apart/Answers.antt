use Rattle.std.proofs.Common.{◌≡◌, ◌+◌, ◌<◌, ◌≤◌, sym, ap, ◌∙◌, subst, arith, ⊎_elim}
use Rattle.std.proofs.lemmas.Bool.{cases_lt, false≢true}
use Rattle.std.proofs.lemmas.Int.{to_z-of_z}
use Rattle.dioid.specs.Dates.{move}
use Rattle.periodic_laws.proofs.settled_laws_proofs.Driven.{GoOn, goes_on_again}
use Rattle.teg_settle.specs.InitialReleases.{release_by}
use Rattle.list_spans.specs.Spans.{IsSpan}
use Rattle.teg_settle.specs.Witnesses.{TestedPeriod}
use Rattle.teg_settle.proofs.witness.PeriodTest.last_release_apart.Goals as goal

pub returns-then-not-is_step : goal.returns-then-not-is_step
returns-then-not-is_step c = rw (← c.self.view_is) (λ all.
    let fits = c.ranges.step in
    let moved : c.date-late.result ≡ move c.args.step c.date-early.result = c.date-late.ensures.value
    ∙ (all c.loop-number.number (omega (arith, ap (λ v. v.after) c.self.view_is, c.loop-number-test.true)) ∙ ap (move c.args.step) (sym c.date-early.ensures.value)) in
    false≢true (sym c.if-not-is_step.true ∙ c.is_step.ensures.1 (simp to_z-of_z moved)))

pub loop-number-preserved : goal.loop-number-preserved
loop-number-preserved c =
    let n = c.loop-number.number in
    let t = c.args.transition.index in
    let fits = c.ranges.step in
    let moved = subst (λ (v : TestedPeriod). release_by v.releases.waits.items v.net t (n + v.period) ≡ move c.args.step (release_by v.releases.waits.items v.net t n)) c.self.view_is
    (rw (c.date-late.ensures.value, c.date-early.ensures.value) at (simp to_z-of_z at (c.is_step.ensures.0 c.if-not-is_step.false))) in
    let test = c.loop-number-test.true in
    record {
      low = omega (arith, ap (λ v. v.after) c.self.view_is);
      high = omega (arith, c.loop-number.invariant.high);
      few = c.loop-number.invariant.few;
      alike = λ k l m. ⊎_elim
          (λ (q : n < k). c.loop-number.invariant.alike k q m)
          (λ (q : k ≤ n). let is : k ≡ n = omega arith in simp to_z-of_z (rw is moved))
          (cases_lt n k);
    }

pub returns : goal.returns
returns c =
    let u = release_by c.args.self.now.releases.waits.items c.args.self.now.net c.args.transition.index in
    let span = subst (λ (v : TestedPeriod). IsSpan (release_by v.releases.waits.items v.net c.args.transition.index) c.span-span.result) c.self.view_is c.span-span.ensures in
    let fits = c.ranges.step in
    let over = c.loop-number-test.false in
    let after = ap (λ v. v.after) c.self.view_is in
    let going : GoOn u c.span-span.result.after c.span-span.result.every c.span-span.result.gap = record { at_least_one = span.some; again = span.again } in
    goes_on_again u c.span-span.result.after c.span-span.result.every c.span-span.result.gap c.args.self.now.after c.max.result c.args.self.now.period
    c.args.step going (omega (arith, c.max.ensures, after)) (omega (arith, c.max.ensures, after))
    (λ k l m. simp to_z-of_z at (c.loop-number.invariant.alike k (omega (arith, after)) m))
