-- What the rows and the own periods of a net tell of its form.
use Rattle.std.proofs.Common.{ℕ, ℤ, ◌+◌, ◌-◌, ◌<◌, ◌≤◌, ◌≡◌, List, All, length, get_or, sym, ap, subst, ◌∙◌, arith, ⊎_elim, inl, inr, ◌+ℤ◌}
use Rattle.std.proofs.lemmas.Bool.{cases_lt}
use Rattle.std.proofs.lemmas.Int.{ints}
use Rattle.std.specs.Prelude.{◌⊎◌}
use Rattle.dioid.specs.declared.dates.Date.TheVariants.{At}
use Rattle.dioid.specs.Dates.{move}
use Rattle.dioid.proofs.Moves.{at_inj}
use Rattle.teg_net.specs.declared.entries.Place.{Place}
use Rattle.teg_net.specs.Nets.{NetLists, IsNet, IsInput}
use Rattle.teg_net.specs.Circuits.{no_place}
use Rattle.teg_net.proofs.NetRules.{net_ends}
use Rattle.teg_check.specs.Ranks.{IsRanking}
use Rattle.teg_check.proofs.Liveness.{ranking_is_live}
use Rattle.teg_model.specs.Datings.{IsLeastDating, initial_date, listed_releases}
use Rattle.teg_model.proofs.DateFunctions.{Dating}
use Rattle.teg_model.proofs.OfNet.{least_is_over}
use Rattle.teg_model.proofs.Tokens.{available_after}
use Rattle.date_rows.specs.DateTables.{TableDates, HasLeastDates}
use Rattle.date_rows.proofs.Ranking.{rank_of, ranks_of}
use Rattle.own_period_laws.specs.OwnPeriods.{GoesOn, GoOnByOwnPeriods, IsMet}
use Rattle.own_period_laws.specs.OwnForms.{IsBegun, IsLeastCommon, IsOwnPeriod}
use Rattle.own_period_laws.proofs.OwnPeriods.{own_periods_go_on}
use Rattle.own_period_laws.proofs.OwnForms.{own_periods_tell_forms}
use Rattle.own_periods.specs.declared.periods.OwnPeriod.{OwnPeriod}
use Rattle.own_periods.specs.OwnNumbers.{AreLeastNumbers}
use Rattle.own_periods.specs.OwnRows.{AreMetIn, AreOwn, AreShortRows, ComesWith, GoOnInRows, IsAtPace, IsLatestStart, IsMoved, IsPace, KeepsOwnSlack, LeadsIn, instant_at, no_own, own_of, period_in}
use Rattle.own_periods.proofs.Dates.{numbers}

module _ (net : NetLists) (ok : IsNet net) (ranks : List ℕ) (ranking : IsRanking net ranks) (none : (t : ℕ) → IsInput net t → ⊥)
    (rows : TableDates) (short : AreShortRows rows) (wide : rows.width ≡ length net.transitions) (told : HasLeastDates net rows)
    (owns : List OwnPeriod) (own : AreOwn rows owns) (x : Dating) (least : IsLeastDating net x) where
  -- the rows have its dates
  at : (t k : ℕ) → t < length net.transitions → 1 ≤ k → k ≤ 10000 → x t k ≡ At (instant_at rows t k)
  at t k l o m =
      let rr = ranks_of net ranks ok ranking in
      let one = least_is_over net (listed_releases net) told.0 400 (rank_of ranks) rr told.1 t k l o in
      let two = least_is_over net (listed_releases net) x 400 (rank_of ranks) rr least t k l o in
      let count = short.count in
      sym two ∙ (one ∙ (sym (told.2 t k l o (omega (arith, m, count))) ∙ (short.short t k (omega (arith, l, wide)) o m).is))

  its : (t : ℕ) → t < length net.transitions → t < rows.width
  its t l = omega (arith, l, wide)

  -- what is moved in the rows is moved
  moved : (t period k : ℕ) (step : ℤ) → t < length net.transitions → 1 ≤ k → k + period ≤ 10000 → IsMoved rows t period step k → x t (k + period) ≡ move step (x t k)
  moved t period k step l o m h =
      at t (k + period) l (omega (arith, o)) m ∙ (ap At h ∙ sym (ap (move step) (at t k l o (omega (arith, m)))))

  is_moved : (t period k : ℕ) (step : ℤ) → t < length net.transitions → 1 ≤ k → k + period ≤ 10000 → x t (k + period) ≡ move step (x t k) → IsMoved rows t period step k
  is_moved t period k step l o m h =
      at_inj (instant_at rows t (k + period)) (instant_at rows t k +ℤ step)
      (sym (at t (k + period) l (omega (arith, o)) m) ∙ (h ∙ ap (move step) (at t k l o (omega (arith, m)))))

  module _ (pace : OwnPeriod) (limits : IsPace pace) (one_pace : All (IsAtPace pace) owns) (slack : All (KeepsOwnSlack rows pace owns) net.places)
      (met : (t : ℕ) → t < rows.width → AreMetIn net rows owns t (period_in owns t)) where
    met_by : (t k : ℕ) → t < length net.transitions → 5001 ≤ k → k ≤ 10000
        → (instant_at rows t k ≡ instant_at rows t (k - 1)) ⊎ ((i : ℕ) × LeadsIn net owns t i × ComesWith rows (get_or net.places i no_place) t k) → IsMet net x (period_in owns) t k
    met_by t k l o m h =
        ⊎_elim
        (λ (e : instant_at rows t k ≡ instant_at rows t (k - 1)).
        inl (at t k l (omega (arith, o)) m ∙ (ap At e ∙ sym (at t (k - 1) l (omega (arith, o)) (omega (arith, m))))))
        (λ (e : (i : ℕ) × LeadsIn net owns t i × ComesWith rows (get_or net.places i no_place) t k).
        let i : ℕ = e.0 in
        let p : Place = get_or net.places e.0 no_place in
        let p_in = ok.each_place e.0 no_place e.1.within in
        let few = p_in.tokens_in in
        inr (
          e.0,
          record {
            within = e.1.within;
            ends = e.1.ends;
            divides = e.1.divides;
            same = at t k l (omega (arith, o)) m
                ∙ (ap At e.2
                ∙ sym (available_after initial_date x p k (At (instant_at rows p.from.index (k - p.tokens))) (omega (arith, few, o))
                (at p.from.index (k - p.tokens) p_in.from_in (omega (arith, few, o)) (omega (arith, m)))));
          },
        ))
        h

    windows : GoOnByOwnPeriods net x pace.period pace.step 4000 5000 10000 (period_in owns) (λ t. (own_of owns t).step)
    windows = record {
      some = limits.one;
      before = omega arith;
      tokens_before = λ i d l. (let few = (ok.each_place i d l).tokens_in in omega (arith, few));
      tokens_in = λ i d l. (let few = (ok.each_place i d l).tokens_in in omega (arith, few));
      at_least_one = λ t l. (own.each t (its t l)).one;
      room = λ t l. (let few = (own.each t (its t l)).few in omega (arith, few));
      pace = λ t l. one_pace t no_own (let count = own.count in omega (arith, count, its t l));
      again = λ t l k a m. moved t (period_in owns t) k (own_of owns t).step l (omega (arith, a)) m ((own.each t (its t l)).again k a m);
      slack = λ i d l a b h.
          let p : Place = get_or net.places i d in
          let p_in = ok.each_place i d l in
          let start = (own.each p.from.index (its p.from.index p_in.from_in)).few in
          let end = (own.each p.to.index (its p.to.index p_in.to_in)).few in
          let b_in = h.start_in in
          let a_in = h.end_in in
          rw (at p.from.index (5001 + b) p_in.from_in (omega arith) (omega (arith, b_in, start)), at p.to.index (5001 + a) p_in.to_in (omega arith) (omega (arith, a_in, end)))
          (slack i d l a b h);
      met = λ t a l m.
          let few = (own.each t (its t l)).few in
          met_by t (5001 + a) l (omega arith) (omega (arith, m, few)) (met t (its t l) a m);
    }

    goes : (t : ℕ) → t < length net.transitions → GoesOn (x t) 4000 (period_in owns t) (own_of owns t).step
    goes = own_periods_go_on net (net_ends net ok) (ranking_is_live net ranks ranking) none (listed_releases net) x least (numbers net ok ranks ranking none x least)
        pace.period pace.step 4000 5000 10000 (period_in owns) (λ t. (own_of owns t).step) windows

    each : (t : ℕ) → t < length net.transitions → IsOwnPeriod (x t) 4000 (period_in owns t) (own_of owns t).step
    each t l =
        let mine = own.each t (its t l) in
        let few = mine.few in
        record {
          at_least_one = mine.one;
          again = goes t l;
          least = λ p s o m h.
              mine.first p o m
              (λ k a n.
              let here : instant_at rows t (k + p) ≡ instant_at rows t k +ℤ s = is_moved t p k s l (omega (arith, a)) n (h k a) in
              let first : instant_at rows t (4001 + p) ≡ instant_at rows t 4001 +ℤ s = is_moved t p 4001 s l (omega arith) (omega (arith, m, few)) (h 4001 (omega arith)) in
              omega (arith, ints, here, first));
        }

    begun : (after : ℕ) → IsLatestStart rows owns (length net.transitions) after → IsBegun (length net.transitions) x (period_in owns) (λ t. (own_of owns t).step) after
    begun after h = record {
      again = λ t l k a.
          let few = (own.each t (its t l)).few in
          ⊎_elim
          (λ (q : 4000 < k). goes t l k q)
          (λ (q : k ≤ 4000). moved t (period_in owns t) k (own_of owns t).step l (omega (arith, a)) (omega (arith, q, few)) (h.moved t k l a q))
          (cases_lt 4000 k);
      first = λ o all.
          let bad = h.first o in
          let few = (own.each bad.0 (its bad.0 bad.1)).few in
          let up = h.few in
          bad.2 (is_moved bad.0 (period_in owns bad.0) after (own_of owns bad.0).step bad.1 o (omega (arith, up, few)) (all bad.0 bad.1));
    }

-- the least common multiple of the periods and the latest of their numbers are those of the net
pub least_numbers : (net : NetLists) → IsNet net → (ranks : List ℕ) → IsRanking net ranks → ((t : ℕ) → IsInput net t → ⊥)
    → (rows : TableDates) → AreShortRows rows → rows.width ≡ length net.transitions → HasLeastDates net rows
    → (owns : List OwnPeriod) → AreOwn rows owns → (pace : OwnPeriod) → IsPace pace → GoOnInRows net rows pace owns
    → (whole after : ℕ) → IsLeastCommon (length owns) (period_in owns) whole → IsLatestStart rows owns (length owns) after
    → AreLeastNumbers net (record { after = after; period = whole })
least_numbers net ok ranks ranking none rows short wide told owns own pace limits go whole after common start x least =
    let count : length owns ≡ length net.transitions = own.count ∙ wide in
    own_periods_tell_forms (length net.transitions) x 4000 (period_in owns) (λ t. (own_of owns t).step)
    (each net ok ranks ranking none rows short wide told owns own x least pace limits go.at_pace go.slack go.met)
    whole after
    (subst (λ n. IsLeastCommon n (period_in owns) whole) count common)
    (begun net ok ranks ranking none rows short wide told owns own x least pace limits go.at_pace go.slack go.met after (subst (λ n. IsLatestStart rows owns n after) count start))
