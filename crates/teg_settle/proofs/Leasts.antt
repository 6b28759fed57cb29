-- The least dating of the system of a net and its releases: it climbs, follows its releases, and stays within a bound.
use Rattle.std.proofs.Common.{ℕ, ◌+◌, ◌*◌, ◌<◌, ◌≤◌, ◌≡◌, List, length, refl, sym, ap, subst, arith, ⊎_elim, inl, inr}
use Rattle.std.specs.Prelude.{pos, All, ◌⊎◌, slice_get}
use Rattle.std.proofs.lemmas.Bool.{cases_lt}
use Rattle.std.proofs.lemmas.Int.{ints}
use Rattle.std.proofs.lemmas.List.{get_or_past}
use Rattle.dioid.specs.declared.dates.Date.{Date}
use Rattle.dioid.specs.declared.dates.Date.TheVariants.{Early, At}
use Rattle.dioid.specs.Dates.{IsAtMostDate}
use Rattle.dioid.proofs.DateOrder.{at_most_early}
use Rattle.teg_net.specs.Limits.{greatest_hold, greatest_firing_number}
use Rattle.teg_net.specs.Nets.{NetLists, IsNet, IsInput, IsInputOf}
use Rattle.teg_net.specs.Circuits.{no_place}
use Rattle.periodic_laws.specs.teg_model.Systems.{System, IsLeastIn}
use Rattle.periodic_laws.specs.teg_model.LiveRanks.{AreRanks}
use Rattle.periodic_laws.specs.teg_model.DateBounds.{IsDateWithin, IsBoundedBy, greatest_least_date}
use Rattle.periodic_laws.specs.teg_model.Datings.{implicit_place, extended_places, listed_releases}
use Rattle.periodic_laws.proofs.teg_model_proofs.LeastOver.{least_over, least_is_feasible, least_is_tight, least_over_is_least}
use Rattle.periodic_laws.proofs.teg_model_proofs.OfNet.{all_extended, all_extended_in, implicit_is, ranks_extended}
use Rattle.periodic_laws.proofs.teg_model_proofs.Tokens.{implicit_gives}
use Rattle.periodic_laws.proofs.teg_model_proofs.Within.{within_more, least_in_within, net_is_bounded}
use Rattle.periodic_laws.proofs.teg_model_proofs.ListDates.{first_bound, listed_within}
use Rattle.periodic_laws.proofs.teg_model_proofs.DateFunctions.{Dating}
use Rattle.date_rows.specs.KeptRows.{KeepsShortBounds}
use Rattle.date_rows.proofs.Ranking.{rank_of, ranks_of}
use Rattle.periodic_laws.proofs.settled_laws_proofs.Everywhere.{Climbing}
use Rattle.periodic_laws.proofs.settled_laws_proofs.Settling.{HasNoRelease, FollowsRelease}
use Rattle.periodic_laws.proofs.settled_laws_proofs.Driven.{source_follows}
use Rattle.teg_settle.specs.declared.releases.Tokens.{Tokens}
use Rattle.teg_settle.specs.declared.releases.Tokens.TheVariants.{Ready, Absent}
use Rattle.teg_settle.specs.declared.releases.Wait.{Wait}
use Rattle.teg_settle.specs.declared.releases.Wait.TheVariants.{Nothing, Dates}
use Rattle.teg_settle.specs.declared.releases.Releases.{Releases}
use Rattle.teg_settle.specs.InitialReleases.{initial_by, release_as, wait_in, release_by, system_for, OnlyInputsWait}
use Rattle.teg_settle.specs.ComparedRows.{IsReady}
use Rattle.list_spans.proofs.Listing.{got_rules, dates_climb, dates_late, dates_within}

pub ranks_on : (net : NetLists) (r : Releases) (most : ℕ) (h : IsReady net r most) → AreRanks (extended_places net) 400 (rank_of h.ranks)
ranks_on net r most h = ranks_extended net 400 (rank_of h.ranks) (ranks_of net h.ranks h.is_net h.ranking)

-- the least dating, made from the ranks
unfoldable pub least : (net : NetLists) (r : Releases) (most : ℕ) → IsReady net r most → Dating
least net r most h = least_over (system_for r net) 400 (rank_of h.ranks)

pub least_is : (net : NetLists) (r : Releases) (most : ℕ) (h : IsReady net r most) → IsLeastIn (system_for r net) (least net r most h)
unfolding least
least_is net r most h = least_over_is_least (system_for r net) 400 (rank_of h.ranks) (ranks_on net r most h)

pub release_outside : (net : NetLists) (waits : List Wait) → OnlyInputsWait net waits → (t k : ℕ) → length net.transitions ≤ t → release_by waits net t k ≡ Early
release_outside net waits h t k l =
    let past : wait_in waits t ≡ Nothing = get_or_past waits t Nothing (omega (arith, h.count)) in
    ap (λ w. release_as net w k) past

pub outside : (net : NetLists) (r : Releases) (most : ℕ) (h : IsReady net r most) (t k : ℕ) → length net.transitions ≤ t → least net r most h t k ≡ Early
unfolding least
outside net r most h t k l =
    let s : System = system_for r net in
    let ends : All (λ p. p.to.index < length net.transitions) (extended_places net) =
    all_extended_in net (λ p. p.to.index < length net.transitions) (λ i d m. (h.is_net.each_place i d m).to_in) (λ u m. m) in
    at_most_early (least_over s 400 (rank_of h.ranks) t k)
    (least_is_tight s 400 (rank_of h.ranks) (ranks_on net r most h) t k Early
    (λ i d m e. let in' = ends i d m in absurd (omega arith))
    (rw (release_outside net r.waits.items h.waits t k l) tt))

pub climbs : (net : NetLists) (r : Releases) (most : ℕ) (h : IsReady net r most) → Climbing (least net r most h)
unfolding least
climbs net r most h = record {
  climbs = λ t k o.
      let s : System = system_for r net in
      let x : Dating = least_over s 400 (rank_of h.ranks) in
      ⊎_elim
      (λ (l : t < length net.transitions).
      let own = implicit_is net t l in
      let up = rw own.2 at ((least_is_feasible s 400 (rank_of h.ranks) (ranks_on net r most h)).places (k + 1) (omega arith) own.0 no_place own.1) in
      rw (implicit_gives (initial_by r.tokens) x t k o) at up)
      (λ (l : length net.transitions ≤ t). rw (outside net r most h t k l) tt)
      (cases_lt t (length net.transitions));
}

pub tokens_on : (net : NetLists) (r : Releases) (most : ℕ) → IsReady net r most → All (λ p. p.tokens ≤ most) (extended_places net)
tokens_on net r most h = all_extended net (λ p. p.tokens ≤ most) h.tokens (λ t. h.some)

initial_early : (tokens : Tokens) (t : ℕ) → IsAtMostDate (initial_by tokens (implicit_place t) 1) (At (pos 0))
initial_early Ready t = omega (arith, ints)
initial_early Absent t = tt

at_most_date_trans : (d e : Date) → IsAtMostDate d (At (pos 0)) → IsAtMostDate (At (pos 0)) e → IsAtMostDate d e
at_most_date_trans Early e a b = tt
at_most_date_trans (At x) Early a b = absurd b
at_most_date_trans (At x) (At y) a b = omega (arith, ints)
at_most_date_trans (At x) _ a b = tt
at_most_date_trans _ e a b = absurd a

-- a transition waits for nothing, or each of its dates is its release
waits_on : (net : NetLists) (r : Releases) (most : ℕ) (h : IsReady net r most) (t : ℕ) (w : Wait) → wait_in r.waits.items t ≡ w
    → HasNoRelease (system_for r net) t ⊎ FollowsRelease (system_for r net) (least net r most h) t
unfolding least
waits_on net r most h t Nothing e = inl (λ k o. ap (λ w. release_as net w k) e)
waits_on net r most h t (Dates list) e =
    let s : System = system_for r net in
    let input : IsInput net t = h.waits.inputs t list e in
    let is : (k : ℕ) → s.release t k ≡ release_as net (Dates list) k = λ k. ap (λ w. release_as net w k) e in
    let rules = got_rules (IsInputOf net) net.inputs list h.is_net.each_input in
    inr (source_follows s 400 (rank_of h.ranks) t (ranks_on net r most h)
    (record {
      alone = all_extended net (λ p. p.to.index ≡ t → (p.from.index ≡ t) × (p.hold ≡ 0) × (p.tokens ≡ 1))
          (λ i d l q. absurd ((h.is_net.each_place i d l).enters_no_input (subst (IsInput net) (sym q) input)))
          (λ u q. (q, refl, refl));
      first = all_extended net (λ p. p.to.index ≡ t → IsAtMostDate (s.initial p 1) (s.release t 1))
          (λ i d l q. absurd ((h.is_net.each_place i d l).enters_no_input (subst (IsInput net) (sym q) input)))
          (λ u q. rw (is 1) (at_most_date_trans (initial_by r.tokens (implicit_place u) 1) (release_as net (Dates list) 1) (initial_early r.tokens u) (dates_late (slice_get net.inputs list) 1)));
      climbs = λ k o. rw (is k, is (k + 1)) (dates_climb net (slice_get net.inputs list) rules k o);
    }))

pub releases_on : (net : NetLists) (r : Releases) (most : ℕ) (h : IsReady net r most) (t : ℕ) → HasNoRelease (system_for r net) t ⊎ FollowsRelease (system_for r net) (least net r most h) t
releases_on net r most h t = waits_on net r most h t (wait_in r.waits.items t) refl

-- the bound of its dates
release_as_within : (net : NetLists) (w : Wait) (k : ℕ) → IsNet net → IsDateWithin (first_bound k) (release_as net w k)
release_as_within net Nothing k ok = tt
release_as_within net (Dates list) k ok = dates_within net (slice_get net.inputs list) k (got_rules (IsInputOf net) net.inputs list ok.each_input)

initial_within : (net : NetLists) (tokens : Tokens) → IsNet net → All (λ p. (k : ℕ) → 1 ≤ k → k ≤ p.tokens → IsDateWithin (first_bound k) (initial_by tokens p k)) (extended_places net)
initial_within net Ready ok = (net_is_bounded net (listed_releases net) first_bound ok (listed_within net ok)).initial
initial_within net Absent ok = λ i d l k o m. tt

pub bounded : (net : NetLists) (r : Releases) → IsNet net → IsBoundedBy (system_for r net) greatest_hold first_bound
bounded net r ok = record {
  holds = (net_is_bounded net (listed_releases net) first_bound ok (listed_within net ok)).holds;
  grows = λ j k l. omega arith;
  initial = initial_within net r.tokens ok;
  release = λ t k o. release_as_within net (wait_in r.waits.items t) k ok;
}

pub keeps_bounds : (net : NetLists) (r : Releases) → IsNet net → KeepsShortBounds (system_for r net)
keeps_bounds net r ok = (first_bound, bounded net r ok, omega arith, omega arith)

pub dates_on : (net : NetLists) (r : Releases) (most : ℕ) (h : IsReady net r most) (x : Dating) → IsLeastIn (system_for r net) x
    → (t k : ℕ) → 1 ≤ k → k ≤ greatest_firing_number → IsDateWithin greatest_least_date (x t k)
dates_on net r most h x least t k o m =
    let rr = ranks_on net r most h in
    let low = rr.below t in
    within_more (first_bound k + greatest_hold * (k * 400 + rank_of h.ranks t)) greatest_least_date (x t k) (omega arith)
    (least_in_within (system_for r net) 400 greatest_hold (rank_of h.ranks) first_bound x rr (bounded net r h.is_net) least t k o)
