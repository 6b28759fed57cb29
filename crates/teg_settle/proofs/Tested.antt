-- What the tests of a period in rows of the least dating tell.
use Rattle.std.proofs.Common.{ℕ, ◌+◌, ◌-◌, ◌^◌, ◌<◌, ◌≤◌, ◌≡◌, length, get_or, refl, sym, ap, ◌∙◌, arith, ⊎_elim, inl, inr}
use Rattle.std.specs.Prelude.{ℤ, ◌⊎◌, ◌≤ℤ◌}
use Rattle.std.proofs.lemmas.Bool.{cases_lt}
use Rattle.std.proofs.lemmas.Int.{ints}
use Rattle.std.proofs.lemmas.List.{get_or_default}
use Rattle.dioid.specs.declared.dates.Date.TheVariants.{Early, Never}
use Rattle.dioid.specs.Dates.{move}
use Rattle.teg_net.specs.declared.entries.Place.{Place}
use Rattle.teg_net.specs.Nets.{NetLists, IsPlaceOf}
use Rattle.teg_net.specs.Circuits.{no_place}
use Rattle.periodic_laws.specs.teg_model.Systems.{System}
use Rattle.periodic_laws.specs.teg_model.DateBounds.{greatest_least_date}
use Rattle.periodic_laws.proofs.teg_model_proofs.LeastOver.{only_least_in}
use Rattle.periodic_laws.proofs.teg_model_proofs.Within.{within_more}
use Rattle.periodic_laws.proofs.teg_model_proofs.OfNet.{all_extended, extended_has}
use Rattle.periodic_laws.proofs.teg_model_proofs.DateFunctions.{Dating}
use Rattle.periodic_laws.specs.settled_laws.SettledForms.{RepeatsAfter}
use Rattle.periodic_laws.specs.settled_laws.DateDifferences.{between}
use Rattle.periodic_laws.proofs.settled_laws_proofs.Everywhere.{Repeats, everywhere, on_first, same_repeats}
use Rattle.periodic_laws.proofs.settled_laws_proofs.Settling.{HasNoRelease, FollowsRelease}
use Rattle.periodic_laws.proofs.settled_laws_proofs.Seen.{IsRisingAt, accepted_repeats, read_steps, form_is_rising_at, form_is_alike}
use Rattle.periodic_laws.proofs.settled_laws_proofs.Repeating.{later_form, period_least, after_least}
use Rattle.date_rows.specs.DateTables.{TableDates, HasDatesOf, date_at}
use Rattle.teg_settle.specs.declared.releases.Releases.{Releases}
use Rattle.teg_settle.specs.InitialReleases.{system_for}
use Rattle.teg_settle.specs.ComparedRows.{read_step, IsReady, AreComparedRows, AreRowsOf, IsRefuted, IsSeenFrom, IsSeen}
use Rattle.teg_settle.specs.Witnesses.{AreTested, IsFailed, IsPassed, tested_period}
use Rattle.date_rows.proofs.Ranking.{rank_of}
use Rattle.teg_settle.proofs.Leasts.{ranks_on, least, least_is, release_outside, outside, climbs, tokens_on, releases_on, dates_on}

same_steps : (c : ℕ) (x : Dating) (after period : ℕ) (s u : ℕ → ℤ) → ((t : ℕ) → t < c → s t ≡ u t) → RepeatsAfter c x after period s → RepeatsAfter c x after period u
same_steps c x after period s u e h = record { at_least_one = h.at_least_one; again = λ t k l m. h.again t k l m ∙ ap (λ z. move z (x t k)) (e t l) }

module _ (net : NetLists) (r : Releases) (most : ℕ) (h : IsReady net r most) (rows : TableDates) (a : AreRowsOf net r rows) where
  abbrev n : ℕ
  n = length net.transitions

  abbrev sys : System
  sys = system_for r net

  abbrev z : Dating
  z = least net r most h

  -- the rows have its dates
  pub read : HasDatesOf net (least net r most h) rows
  read = a.least.least (least net r most h) (least_is net r most h)

  -- they leave room for differences
  pub window_of : (period : ℕ) → 1 ≤ period → period < rows.count → AreComparedRows net rows period
  window_of period one fits =
      let wide = a.least.width in
      let few = a.few in
      record {
        width = wide;
        small = λ t k l o m.
            let in' : t < n = omega arith in
            rw (read t k in' o m) (within_more greatest_least_date (2 ^ 126) (z t k) (omega arith) (dates_on net r most h z (least_is net r most h) t k o (omega arith)));
        some = one;
        fits = fits;
        few = few;
      }

  -- tests that all pass show a form
  pub tested_repeats : (period after : ℕ) → 1 ≤ period → after + most + period + period ≡ rows.count → AreTested (tested_period net r rows period after)
      → Repeats (least net r most h) after period (read_step rows period)
  unfolding least
  tested_repeats period after one fits tests =
      let some = h.some in
      let step : ℕ → ℤ = read_step rows period in
      let end : ℕ = after + most + period + period in
      let wide = a.least.width in
      accepted_repeats sys 400 (rank_of h.ranks) after period most step (ranks_on net r most h) (climbs net r most h) one some (tokens_on net r most h)
      (λ t k l u.
      ⊎_elim
      (λ (in' : t < n).
      sym (read t (k + period) in' (omega arith) (omega arith)) ∙ (tests.moved k l (omega arith) t (omega arith) ∙ ap (move (step t)) (read t k in' (omega arith) (omega arith))))
      (λ (out : n ≤ t). outside net r most h t (k + period) out ∙ sym (ap (move (step t)) (outside net r most h t k out)))
      (cases_lt t n))
      (all_extended net (IsRisingAt z end step)
      (λ i d l.
      let p : Place = get_or net.places i d in
      let p_in : IsPlaceOf net p = h.is_net.each_place i d l in
      let at : (t : ℕ) → t < n → date_at rows t rows.count ≡ z t end = λ t m. read t rows.count m (omega arith) (omega arith) ∙ ap (z t) (sym fits) in
      ⊎_elim
      (λ (e : date_at rows p.to.index rows.count ≡ Never). inl (sym (at p.to.index p_in.to_in) ∙ e))
      (λ (e : (date_at rows p.from.index rows.count ≡ Early) ⊎ (step p.from.index ≤ℤ step p.to.index)).
      ⊎_elim
      (λ (f : date_at rows p.from.index rows.count ≡ Early). inr (inl (sym (at p.from.index p_in.from_in) ∙ f)))
      (λ (f : step p.from.index ≤ℤ step p.to.index). inr (inr f))
      e)
      (tests.rising i d l))
      (λ t. inr (inr (omega (arith, ints)))))
      (λ t.
      ⊎_elim
      (λ (in' : t < n).
      ⊎_elim
      (λ (f : HasNoRelease sys t). inl f)
      (λ (d : FollowsRelease sys z t). inr (d, tests.alike t in'))
      (releases_on net r most h t))
      (λ (out : n ≤ t). inl (λ k o. release_outside net r.waits.items h.waits t k out))
      (cases_lt t n))

  -- a form goes by the steps that the rows show
  pub form_is_read : (period from : ℕ) (step : ℕ → ℤ) → from + period < rows.count → Repeats (least net r most h) from period step → Repeats (least net r most h) from period (read_step rows period)
  form_is_read period from step early rep =
      let one = rep.at_least_one in
      let end : ℕ = rows.count - period in
      let last : end + period ≡ rows.count = omega arith in
      let seen : ℕ → ℤ = λ t. between (z t end) (z t (end + period)) in
      let form : Repeats z from period seen = read_steps z from period end step seen (climbs net r most h) rep (omega arith) (λ t. refl) in
      everywhere n z from period (read_step rows period) (λ t k l. outside net r most h t k l)
      (same_steps n z from period seen (read_step rows period)
      (λ t l.
      let early : date_at rows t (rows.count - period) ≡ z t end = read t end l (omega arith) (omega arith) in
      let late : date_at rows t rows.count ≡ z t (end + period) = read t rows.count l (omega arith) (omega arith) ∙ ap (z t) (sym last) in
      sym (ap (λ d. between d (date_at rows t rows.count)) early ∙ ap (between (z t end)) late))
      (on_first n z from period seen form))

  -- a form that begins early enough passes all tests
  pub form_is_tested : (period from after : ℕ) (step : ℕ → ℤ) → after + most + period + period ≡ rows.count → from ≤ after
      → Repeats (least net r most h) from period step → AreTested (tested_period net r rows period after)
  form_is_tested period from after step fits low rep =
      let one = rep.at_least_one in
      let some = h.some in
      let s : ℕ → ℤ = read_step rows period in
      let wide = a.least.width in
      let first : RepeatsAfter n z after period s = later_form n z from after period s low (on_first n z from period s (form_is_read period from step (omega arith) rep)) in
      let here : Repeats z after period s = everywhere n z after period s (λ t k l. outside net r most h t k l) first in
      record {
        rising = λ i d l.
            let p : Place = get_or net.places i no_place in
            let p_in : IsPlaceOf net p = h.is_net.each_place i no_place l in
            let at : (t : ℕ) → t < n → date_at rows t rows.count ≡ z t rows.count = λ t m. read t rows.count m (omega arith) (omega arith) in
            let up : IsRisingAt z rows.count s p =
            extended_has net (IsRisingAt z rows.count s)
            (form_is_rising_at sys z after period most rows.count s (least_is net r most h).feasible (climbs net r most h)
            (tokens_on net r most h) here (omega arith)) i l in
            rw (get_or_default net.places i d no_place l)
            (⊎_elim
            (λ (e : z p.to.index rows.count ≡ Never). inl (at p.to.index p_in.to_in ∙ e))
            (λ (e : (z p.from.index rows.count ≡ Early) ⊎ (s p.from.index ≤ℤ s p.to.index)).
            ⊎_elim
            (λ (f : z p.from.index rows.count ≡ Early). inr (inl (at p.from.index p_in.from_in ∙ f)))
            (λ (f : s p.from.index ≤ℤ s p.to.index). inr (inr f))
            e)
            up);
        moved = λ k l m t w.
            let in' : t < n = omega arith in
            read t (k + period) in' (omega arith) m ∙ (here.again t k l ∙ ap (move (s t)) (sym (read t k in' (omega arith) (omega arith))));
        alike = λ t l k m. form_is_alike sys z after period s t (releases_on net r most h t) here k m;
      }

  -- tests of which one fails refute the period
  pub refuted : (period : ℕ) → most + period + period ≤ rows.count → IsFailed (tested_period net r rows period (rows.count - most - period - period)) → IsRefuted net r most rows.count period
  refuted period fits bad x is from step rep up =
      bad (form_is_tested period from (rows.count - most - period - period) step (omega arith) (omega arith)
      (everywhere n z from period step (λ t k l. outside net r most h t k l)
      (same_repeats n x z from period step (λ t k l o. only_least_in sys x z is (least_is net r most h) t k o) rep)))

  -- where all pass, a form is seen
  pub seen_from : (period after : ℕ) → 1 ≤ period → most + period + period ≤ rows.count → IsPassed (tested_period net r rows period (rows.count - most - period - period)) after
      → IsSeenFrom net r rows most period after
  seen_from period after one fits pass =
      let low = pass.early in
      let some = h.some in
      let s : ℕ → ℤ = read_step rows period in
      let latest : ℕ = rows.count - most - period - period in
      let wide = a.least.width in
      let there : Repeats z latest period s = tested_repeats period latest one (omega arith) pass.tests in
      let form : RepeatsAfter n z after period s = record {
        at_least_one = one;
        again = λ t k l m.
            ⊎_elim
            (λ (q : latest < k). there.again t k q)
            (λ (q : k ≤ latest). sym (read t (k + period) l (omega arith) (omega arith)) ∙ (pass.moved k m (omega arith) t (omega arith) ∙ ap (move (s t)) (read t k l (omega arith) (omega arith))))
            (cases_lt latest k);
      } in
      record {
        fits = omega arith;
        repeats = λ x is. same_repeats n z x after period s (λ t k l o. only_least_in sys z x (least_is net r most h) is t k o) form;
        first = λ x is o all. pass.first o (λ t w.
            let l : t < n = omega arith in
            let same : (k : ℕ) → 1 ≤ k → z t k ≡ x t k = λ k p. only_least_in sys z x (least_is net r most h) is t k p in
            read t (after + period) l (omega arith) (omega arith) ∙ (same (after + period) (omega arith) ∙ (all t l ∙ ap (move (s t)) (sym (read t after l o (omega arith) ∙ same after o)))));
      }

-- the form of the least period that is seen is the shortest
pub seen_is_least : (net : NetLists) (r : Releases) (rows : TableDates) (most period after : ℕ) → 1 ≤ period → IsSeenFrom net r rows most period after
    → ((p : ℕ) → 1 ≤ p → p < period → IsRefuted net r most rows.count p) → IsSeen net r rows (record { after = after; period = period })
seen_is_least net r rows most period after one h none =
    let n : ℕ = length net.transitions in
    let s : ℕ → ℤ = read_step rows period in
    let fits = h.fits in
    record {
      fits = omega arith;
      repeats = h.repeats;
      least_period = λ x is k p u f.
          period_least n x after period s (h.repeats x is)
          (λ q v l g. let some = g.at_least_one in none q some l x is after v g (omega arith)) k p u f;
      least_after = λ x is k p u f. after_least n x after period s (h.repeats x is) (λ o all. h.first x is o all) k p u f;
    }
