-- Rows that go on from runs of the least dating of a net have its dates too.
use Rattle.std.proofs.Common.{ℕ, ◌+◌, ◌-◌, ◌^◌, ◌<◌, ◌≤◌, ◌≡◌, List, length, get_or, true, false, leb, refl, sym, ap, subst, ◌∙◌, arith, ⊎_elim}
use Rattle.std.specs.Prelude.{All}
use Rattle.std.proofs.lemmas.Bool.{cases_lt}
use Rattle.std.proofs.lemmas.Bool.Decides.{nat_tests}
use Rattle.dioid.specs.declared.dates.Date.{Date}
use Rattle.dioid.specs.declared.dates.Date.TheVariants.{Early}
use Rattle.dioid.specs.Dates.{IsAtMostDate}
use Rattle.teg_net.specs.Limits.{greatest_firing_number}
use Rattle.teg_net.specs.Nets.{NetLists, IsNet}
use Rattle.teg_net.specs.declared.entries.Place.{Place}
use Rattle.teg_model.specs.DateBounds.{IsDateWithin, greatest_least_date}
use Rattle.teg_model.specs.Datings.{IsLeastDating, at_input, extended_places, initial_date, listed_releases, system_of}
use Rattle.teg_model.specs.LiveRanks.{AreRanks}
use Rattle.teg_model.specs.Systems.{System, available, IsLeastIn}
use Rattle.teg_model.proofs.DateFunctions.{Dating}
use Rattle.teg_model.proofs.LeastOver.{least_over, least_over_is_least, tight_in}
use Rattle.teg_model.proofs.NetBound.{least_keeps_bound}
use Rattle.teg_model.proofs.ListDates.{first_bound, listed_within}
use Rattle.teg_model.proofs.OfNet.{all_extended, all_extended_in, least_of_system, net_ends, only_least, ranks_extended}
use Rattle.teg_model.proofs.Tokens.{available_after, available_first, available_same}
use Rattle.teg_model.proofs.Within.{net_is_bounded, within_delayed, within_more}
use Rattle.teg_check.specs.Ranks.{IsRanking}
use Rattle.date_rows.specs.DateTables.{TableDates, date_at}
use Rattle.date_rows.specs.KeptRows.{AreLeastRows, KeepsBounds, KeepsShortBounds}
use Rattle.date_rows.proofs.Ranking.{rank_of, ranks_of}
use Rattle.jump_laws.specs.Runs.{Run, date_by_runs}
use Rattle.jump_laws.proofs.FirstNumbers.{IsLatest, first_numbers}
use Rattle.run_rows.specs.LeastRuns.{AreLateRuns, AreRowsPast, release_past, system_past, token_past}
use Rattle.run_rows.proofs.Joining.{late_tell}

-- the least dating, made from the ranks
unfoldable pub earliest : NetLists → List ℕ → Dating
earliest net ranks = least_over (system_of net (listed_releases net)) 400 (rank_of ranks)

release_in : (net : NetLists) (after t k : ℕ) → after + k ≤ greatest_firing_number → release_past after net t k ≡ at_input net t (listed_releases net t (after + k)) Early
release_in net after t k l = let e : leb (after + k) greatest_firing_number ≡ true = grind (arith, nat_tests) in rw e refl

release_out : (net : NetLists) (after t k : ℕ) → greatest_firing_number < after + k → release_past after net t k ≡ Early
release_out net after t k l = let e : leb (after + k) greatest_firing_number ≡ false = grind (arith, nat_tests) in rw e refl

module _ (net : NetLists) (ok : IsNet net) (ranks : List ℕ) (rank : IsRanking net ranks) where
  abbrev s : System
  s = system_of net (listed_releases net)

  abbrev x : Dating
  x = earliest net ranks

  rr : AreRanks (extended_places net) 400 (rank_of ranks)
  rr = ranks_extended net 400 (rank_of ranks) (ranks_of net ranks ok rank)

  is_in : IsLeastIn (system_of net (listed_releases net)) (earliest net ranks)
  unfolding earliest
  is_in = least_over_is_least s 400 (rank_of ranks) rr

  pub is : IsLeastDating net (earliest net ranks)
  is = least_of_system net (listed_releases net) x is_in

  pub dated : (t k : ℕ) → t < length net.transitions → 1 ≤ k → k ≤ greatest_firing_number → IsDateWithin greatest_least_date (earliest net ranks t k)
  dated t k l o m = least_keeps_bound net x 400 (rank_of ranks) ok (omega arith) (ranks_of net ranks ok rank) is t k l o m

  -- rows from the start are those past 0
  pub rows_at_start : (rows : TableDates) → AreLeastRows net (system_of net (listed_releases net)) rows → rows.count ≤ greatest_firing_number → AreRowsPast net 0 rows
  rows_at_start rows least few =
      let own : (t k : ℕ) → t < length net.transitions → 1 ≤ k → k ≤ rows.count → date_at rows t k ≡ earliest net ranks t k = λ t k l o m. least.least x is_in t k l o m in
      record {
        width = least.width;
        same = λ y least_y t k l o m.
            let at : 0 + k ≡ k = omega arith in
            rw at (own t k l o m ∙ only_least net (listed_releases net) x y is least_y t k l o);
        within = λ t k l o m. rw (own t k l o m) (dated t k l o (omega (arith, m, few)));
      }

  module _ (most : ℕ) (one : 1 ≤ most) (few_tokens : All (λ p. p.tokens ≤ most) net.places) (runs : List Run) (after : ℕ) (h : AreLateRuns net most after runs) where
    abbrev past : System
    past = system_past net runs after

    abbrev on : Dating
    on t k = x t (after + k)

    tell : (t k : ℕ) → t < length net.transitions → 1 ≤ k → after < k + most → k ≤ after → date_by_runs runs t k ≡ earliest net ranks t k
    tell t k l o near m = late_tell (length net.transitions) x most after runs (h x is) t k l o near m

    few_in : All (λ p. p.tokens ≤ most) (extended_places net)
    few_in = all_extended net (λ p. p.tokens ≤ most) few_tokens (λ t. one)

    froms : All (λ p. p.from.index < length net.transitions) (extended_places net)
    froms = all_extended_in net (λ p. p.from.index < length net.transitions) (λ i d l. (net_ends net ok i d l).0) (λ t l. l)

    -- a token of the firings past the number is there when it is in the net
    token : (i : ℕ) (d : Place) → i < length (extended_places net) → (k : ℕ) → 1 ≤ k
        → available (system_past net runs after) (λ t j. earliest net ranks t (after + j)) (get_or (extended_places net) i d) k
        ≡ available (system_of net (listed_releases net)) (earliest net ranks) (get_or (extended_places net) i d) (after + k)
    token i d l k o =
        let p : Place = get_or (extended_places net) i d in
        let in' = froms i d l in
        ⊎_elim
        (λ (m : p.tokens < k).
        let at : after + (k - p.tokens) ≡ (after + k) - p.tokens = omega (arith, m) in
        available_after (token_past runs after) on p k (x p.from.index (after + (k - p.tokens))) m refl
        ∙ sym (available_after initial_date x p (after + k) (x p.from.index (after + (k - p.tokens))) (omega (arith, m)) (ap (x p.from.index) (sym at))))
        (λ (m : k ≤ p.tokens).
        available_first (token_past runs after) on p k m
        ∙ available_same initial_date (date_by_runs runs) x p (after + k) (λ q. tell p.from.index ((after + k) - p.tokens) in' (omega (arith, q)) (omega (arith, q, o, few_in i d l)) (omega (arith, m))))
        (cases_lt p.tokens k)

    latest : (t k : ℕ) → 1 ≤ k → k ≤ greatest_firing_number - after → IsLatest (system_past net runs after) (λ u j. earliest net ranks u (after + j)) t k
    latest t k o m =
        let here : after + k ≤ greatest_firing_number = omega (arith, m, o) in
        let released = release_in net after t k here in
        record {
          there = record {
            tokens = λ i d l e. rw (token i d l k o) (subst (λ v. IsAtMostDate (available s x (get_or (extended_places net) i d) (after + k)) (x v (after + k))) e
                (is_in.feasible.places (after + k) (omega (arith, o)) i d l));
            release = rw released (is_in.feasible.releases t (after + k) (omega (arith, o)));
          };
          least = λ z there. tight_in s 400 (rank_of ranks) x rr is_in t (after + k) z (omega (arith, o))
              (λ i d l e. rw (token i d l k o) at (there.tokens i d l e))
              (rw released at there.release);
        }

    pub rows_past : (rows : TableDates) → AreLeastRows net (system_past net runs after) rows → after + rows.count ≤ greatest_firing_number → AreRowsPast net after rows
    rows_past rows least few =
        let lo : Dating = least_over past 400 (rank_of ranks) in
        let lo_is : IsLeastIn past lo = least_over_is_least past 400 (rank_of ranks) rr in
        let own : (t k : ℕ) → t < length net.transitions → 1 ≤ k → k ≤ rows.count → date_at rows t k ≡ x t (after + k) = λ t k l o m.
        least.least lo lo_is t k l o m
        ∙ sym (first_numbers past 400 (rank_of ranks) rr on lo (greatest_firing_number - after) latest lo_is t k o (omega (arith, m, few))) in
        record {
          width = least.width;
          same = λ y least_y t k l o m. own t k l o m ∙ only_least net (listed_releases net) x y is least_y t (after + k) l (omega (arith, o));
          within = λ t k l o m. rw (own t k l o m) (dated t (after + k) l (omega (arith, o)) (omega (arith, m, few)));
        }

    pub past_keeps_bounds : after ≤ greatest_firing_number → KeepsBounds (system_past net runs after)
    past_keeps_bounds few =
        let bounded = net_is_bounded net (listed_releases net) first_bound ok (listed_within net ok) in
        let first = first_bound in
        let in_own : (k : ℕ) (d : Date) → k ≤ greatest_firing_number → IsDateWithin (first k) d → IsDateWithin (2 ^ 120) d = λ k d m w. within_more (first k) (2 ^ 120) d (omega (arith, bounded.grows k greatest_firing_number m)) w in
        let tokens : All (λ p. p.tokens ≤ greatest_firing_number) (extended_places net) = all_extended net (λ p. p.tokens ≤ greatest_firing_number) (λ i d l. let t = (ok.each_place i d l).tokens_in in omega (arith, t)) (λ t. omega arith) in (
          λ k. 2 ^ 120,
          record {
            holds = bounded.holds;
            grows = λ j k l. omega arith;
            initial = λ i d l k o m.
                let p : Place = get_or (extended_places net) i d in
                ⊎_elim
                (λ (q : p.tokens < after + k).
                rw (available_after initial_date (date_by_runs runs) p (after + k) (x p.from.index ((after + k) - p.tokens)) q (tell p.from.index ((after + k) - p.tokens) (froms i d l) (omega (arith, q)) (omega (arith, q, o, few_in i d l)) (omega (arith, m))))
                (within_delayed greatest_least_date (2 ^ 120) p.hold (x p.from.index ((after + k) - p.tokens)) (let few_hold = bounded.holds i d l in omega (arith, few_hold))
                (dated p.from.index ((after + k) - p.tokens) (froms i d l) (omega (arith, q)) (omega (arith, m, few)))))
                (λ (q : after + k ≤ p.tokens).
                rw (available_first initial_date (date_by_runs runs) p (after + k) q)
                (in_own (after + k) (initial_date p (after + k)) (let t = tokens i d l in omega (arith, q, t)) (bounded.initial i d l (after + k) (omega (arith, o)) q)))
                (cases_lt p.tokens (after + k));
            release = λ t k o.
                ⊎_elim
                (λ (q : greatest_firing_number < after + k). rw (release_out net after t k q) tt)
                (λ (q : after + k ≤ greatest_firing_number). rw (release_in net after t k q) (in_own (after + k) (at_input net t (listed_releases net t (after + k)) Early) q (bounded.release t (after + k) (omega (arith, o)))))
                (cases_lt greatest_firing_number (after + k));
          },
          omega arith,
        )

    -- from the start the dates of the first numbers need eight bytes
    pub start_keeps_short_bounds : after ≡ 0 → KeepsShortBounds (system_past net runs after)
    start_keeps_short_bounds none =
        let bounded = net_is_bounded net (listed_releases net) first_bound ok (listed_within net ok) in (
          first_bound,
          record {
            holds = bounded.holds;
            grows = bounded.grows;
            initial = λ i d l k o m.
                let p : Place = get_or (extended_places net) i d in
                let is : after + k ≡ k = omega (arith, none) in
                rw (available_first initial_date (date_by_runs runs) p (after + k) (omega (arith, none, m)), is) (bounded.initial i d l k o m);
            release = λ t k o.
                let is : after + k ≡ k = omega (arith, none) in
                ⊎_elim
                (λ (q : greatest_firing_number < after + k). rw (release_out net after t k q) tt)
                (λ (q : after + k ≤ greatest_firing_number). rw (release_in net after t k q, is) (bounded.release t k o))
                (cases_lt greatest_firing_number (after + k));
          },
          omega arith,
          omega arith,
        )
