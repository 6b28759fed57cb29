-- The latest number past which transitions go on by their periods.
use Rattle.std.proofs.Common.{ℕ, ◌+◌, ◌<◌, ◌≤◌, ◌≡◌, List, sym, subst, arith, ⊎_elim}
use Rattle.std.specs.Prelude.{◌⊎◌}
use Rattle.std.proofs.lemmas.Bool.{cases_lt}
use Rattle.date_rows.specs.DateTables.{TableDates}
use Rattle.own_periods.specs.declared.periods.OwnPeriod.{OwnPeriod}
use Rattle.own_periods.specs.OwnRows.{IsLatestStart, IsMoved, IsStart, own_of, period_in}

-- that of one transition more
pub start_more : (rows : TableDates) (owns : List OwnPeriod) (n after own most : ℕ) → after ≤ most → own ≤ most → (most ≡ after) ⊎ (most ≡ own)
    → IsLatestStart rows owns n after → IsStart rows n (own_of owns n) own → IsLatestStart rows owns (n + 1) most
start_more rows owns n after own most first second which h s =
    ⊎_elim
    (λ (e : most ≡ after).
    let l : own ≤ after = omega (arith, second, e) in
    subst (IsLatestStart rows owns (n + 1)) (sym e)
    (record {
      few = h.few;
      moved = λ t k u a m.
          ⊎_elim
          (λ (q : t < n). h.moved t k q a m)
          (λ (q : n ≤ t).
          let same : n ≡ t = omega (arith, u, q) in
          subst (λ i. IsMoved rows i (period_in owns i) (own_of owns i).step k) same (s.moved k (omega (arith, a, l)) m))
          (cases_lt t n);
      first = λ o. let w = h.first o in (w.0, let low = w.1 in omega (arith, low), w.2);
    }))
    (λ (e : most ≡ own).
    let l : after ≤ own = omega (arith, first, e) in
    subst (IsLatestStart rows owns (n + 1)) (sym e)
    (record {
      few = s.few;
      moved = λ t k u a m.
          ⊎_elim
          (λ (q : t < n). h.moved t k q (omega (arith, a, l)) m)
          (λ (q : n ≤ t).
          let same : n ≡ t = omega (arith, u, q) in
          subst (λ i. IsMoved rows i (period_in owns i) (own_of owns i).step k) same (s.moved k a m))
          (cases_lt t n);
      first = λ o. (n, omega arith, s.first o);
    }))
    which
