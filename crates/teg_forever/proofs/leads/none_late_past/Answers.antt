use Rattle.std.proofs.Common.{ℕ, ◌≡◌, ◌<◌, subst, sym, arith, ⊎_elim}
use Rattle.std.proofs.Math.Nat.{eq-or-lt_of_le}
use Rattle.forever_laws.proofs.number_laws_proofs.Fractions.{divisor_some}
use Rattle.forever_laws.specs.settled_laws.SettledForms.{settled_date}
use Rattle.teg_forever.specs.LateFirings.{NoneLateInClass}
use Rattle.teg_forever.proofs.KeptApart.{none_after_more, none_of_classes}
use Rattle.teg_forever.proofs.leads.none_late_past.Goals as goal

pub loop-rest-init : goal.loop-rest-init
loop-rest-init c = record { few = omega arith; none = λ rest l. absurd (omega arith) }

pub none_late_in-requires-clause-class : goal.none_late_in-requires-clause-class
none_late_in-requires-clause-class c =
    let divisor = rw c.row.ensures.value at c.common_divisor-divisor.ensures in
    record { low = c.loop-rest-test.true; of_cycle = divisor.0; of_turn = divisor.1 }

pub loop-rest-preserved : goal.loop-rest-preserved
loop-rest-preserved c =
    let a = c.args.row.now in
    let x = settled_date a.settled in
    let divisor : ℕ = c.common_divisor-divisor.result in
    let old : ℕ = c.loop-rest.places in
    let more : ℕ = c.in_ok-more.more in
    let new : ℕ = c.max-places.result in
    record {
      few = omega (arith, c.max-places.ensures, c.in_ok-more.ensures.few, c.loop-rest.invariant.few);
      none = λ rest l. ⊎_elim
          (λ (last : rest ≡ c.loop-rest.rest).
          subst (λ (n : ℕ). NoneLateInClass x a.row c.args.past new (record { divisor = divisor; rest = n })) (sym last)
          (none_after_more x a.row c.args.past more new _ (omega (arith, c.max-places.ensures)) c.in_ok-more.ensures.none))
          (λ (before : rest < c.loop-rest.rest).
          none_after_more x a.row c.args.past old new _ (omega (arith, c.max-places.ensures)) (c.loop-rest.invariant.none rest before))
          (eq-or-lt_of_le {n = rest} {m = c.loop-rest.rest} (omega arith));
    }

pub returns-clause-none : goal.returns-clause-none
returns-clause-none c =
    let a = c.args.row.now in
    let h = c.row.ensures.told in
    let divisor = rw c.row.ensures.value at c.common_divisor-divisor.ensures in
    let some : 0 < c.common_divisor-divisor.result = divisor_some c.args.cycle.firings a.row.every c.common_divisor-divisor.result h.row.goes_on.some divisor in
    none_of_classes (settled_date a.settled) a.row c.args.past c.loop-rest.places c.common_divisor-divisor.result some (λ rest low. c.loop-rest.invariant.none rest (omega arith))
