-- The rest of a net's least dating from now on is the least dating of the net that the run leaves.
use Rattle.std.proofs.Common.{ℕ, pos, ◌+◌, ◌*◌, ◌<◌, ◌≤◌, ◌≡◌, List, length, get_or, map, ap, ◌∙◌, arith, ⊎_elim}
use Rattle.std.specs.Prelude.{All, Any}
use Rattle.std.proofs.lemmas.List.Elements.{All-map}
use Rattle.teg_model.specs.dioid.declared.dates.Date.{Date}
use Rattle.teg_model.specs.dioid.declared.dates.Date.TheVariants.{Early, At}
use Rattle.teg_model.specs.dioid.Dates.{IsAtMostDate, later_of}
use Rattle.teg_model.proofs.dioid_proofs.DateOrder.{at_most_trans, later_left, later_right, later_least}
use Rattle.teg_net.specs.declared.entries.Place.{Place}
use Rattle.teg_net.specs.Nets.{NetLists, IsInput}
use Rattle.teg_net.specs.Circuits.{no_place}
use Rattle.teg_model.specs.Systems.{available, IsLeastIn}
use Rattle.teg_model.specs.LiveRanks.{AreRanks, HasEndsInRange}
use Rattle.teg_model.specs.Datings.{at_input, available_at, extended_places, implicit_place, listed_releases, IsFeasibleUnder}
use Rattle.teg_model.specs.LeastDatings.{IsTight}
use Rattle.teg_model.proofs.DateFunctions.{Dating}
use Rattle.teg_model.proofs.LeastOver.{least_over, least_over_is_least, tight_in}
use Rattle.teg_model.proofs.LiveRanks.{live_is_ranked}
use Rattle.teg_model.proofs.OfNet.{all_extended, all_extended_in, at_input_is, implicit_is, only_least, ranks_extended, release_below}
use Rattle.teg_model.proofs.TightLeast.{tight_is_least}
use Rattle.run_laws.specs.declared.fired.Fired.{Fired}
use Rattle.run_laws.proofs.Dates.{length_dates}
use Rattle.state_laws.specs.Rests.{ArePaid, continued, dating_left, place_left}
use Rattle.state_laws.specs.NetsLeft.{AreReleasesLeft, IsFed, IsNetAfter, count_in, date_in, place_after, system_from, system_under}
use Rattle.state_laws.specs.StateLaws.{IsOver, LegalRunsGoOn, NetsAreContinued, NetsAreContinuedUnder, NetsGoOn, NetsGoOnUnder, NetsStayLive}
use Rattle.state_laws.proofs.LeastGoesOn.{all_unmap, goes_on, is_continued, may_be_released}
use Rattle.state_laws.proofs.LegalInTime.{legal_in_time}
use Rattle.state_laws.proofs.LeftRanks.{rank_left, rank_left_below, ranks_rise_left, ranked_is_live}
use Rattle.state_laws.proofs.LeftTokens.{own_of, left_of, after_from_left, left_from_after, now_available, implicit_from_left, left_from_implicit}

implicit_of : (net : NetLists) (P : Place → Type 0) → All P (extended_places net) → (t : ℕ) → t < length net.transitions → P (implicit_place t)
implicit_of net P h t l = let own = implicit_is net t l in rw own.2 at (h own.0 no_place own.1)

pub all_paid : (net : NetLists) (run : List Fired) → ArePaid (count_in run) net.places → ArePaid (count_in run) (extended_places net)
all_paid net run paid = all_extended net (λ p. count_in run p.to.index ≤ p.tokens + count_in run p.from.index) paid (λ t. omega arith)

ends_left : (net : NetLists) (run : List Fired) (now : ℕ) (rest : NetLists) → IsNetAfter net run now rest → HasEndsInRange net → HasEndsInRange rest
ends_left net run now rest after ends =
    rw (after.places, after.transitions)
    (All-map (λ p. (p.from.index < length net.transitions) × (p.to.index < length net.transitions)) (place_after run now) net.places (λ i d l. ends i d l))

ranks_left : (net : NetLists) (run : List Fired) (now : ℕ) (rest : NetLists) (bound : ℕ) (r : ℕ → ℕ) → IsNetAfter net run now rest → ArePaid (count_in run) net.places → AreRanks net.places bound r
    → AreRanks rest.places ((length run + 1) * bound) (rank_left (count_in run) bound r)
ranks_left net run now rest bound r after paid rr = record {
  below = λ t. rank_left_below (count_in run) (length run) bound r t (length_dates run t) (rr.below t);
  rise = rw after.places
      (All-map (λ p. p.tokens ≡ 0 → rank_left (count_in run) bound r p.from.index < rank_left (count_in run) bound r p.to.index) (place_after run now) net.places
      (ranks_rise_left net.places (count_in run) bound r rr paid));
}

ranks_of_rest : (net : NetLists) (run : List Fired) (now bound : ℕ) (u : Dating) (r : ℕ → ℕ) → ArePaid (count_in run) net.places → AreRanks net.places bound r
    → AreRanks (left_of net run now u).places ((length run + 1) * bound) (rank_left (count_in run) bound r)
ranks_of_rest net run now bound u r paid rr = record {
  below = λ t. rank_left_below (count_in run) (length run) bound r t (length_dates run t) (rr.below t);
  rise = All-map (λ p. p.tokens ≡ 0 → rank_left (count_in run) bound r p.from.index < rank_left (count_in run) bound r p.to.index) (place_left (count_in run)) (extended_places net)
      (ranks_rise_left (extended_places net) (count_in run) bound r (ranks_extended net bound r rr) (all_paid net run paid));
}

pub stays_live : NetsStayLive
stays_live net run now rest ends live paid after =
    let ranks = live_is_ranked net ends live in
    ranked_is_live rest ((length run + 1) * ranks.0) (rank_left (count_in run) ranks.0 ranks.1) (ranks_left net run now rest ranks.0 ranks.1 after paid ranks.2)

-- no firing to come is before now
from_now : (net : NetLists) (run : List Fired) (now : ℕ) (u y : Dating) → IsLeastIn (left_of net run now u) y → (t k : ℕ) → 1 ≤ k → IsAtMostDate (At (pos now)) (y t k)
from_now net run now u y least t k o =
    let own : Date = at_input net t (u t (count_in run t + k)) Early in
    at_most_trans (At (pos now)) (later_of (At (pos now)) own) (y t k) (later_left (At (pos now)) own) (least.feasible.releases t k o)

feasible_after : (net : NetLists) (run : List Fired) (now : ℕ) (rest : NetLists) (u v y : Dating) → IsOver net run now → IsNetAfter net run now rest → AreReleasesLeft net run now u v
    → IsLeastIn (left_of net run now u) y → IsFeasibleUnder rest v y
feasible_after net run now rest u v y over after inputs least =
    let n : ℕ → ℕ = count_in run in
    let tokens : (k : ℕ) → 1 ≤ k → All (λ p. IsAtMostDate (available (left_of net run now u) y (place_left n p) k) (y p.to.index k)) (extended_places net) =
    λ k o. all_unmap (λ q. IsAtMostDate (available (left_of net run now u) y q k) (y q.to.index k)) (place_left n) (extended_places net) (least.feasible.places k o) in
    record {
      places = λ k o. all_extended_in rest (λ q. IsAtMostDate (available_at y q k) (y q.to.index k))
          (rw after.places
          (All-map (λ q. IsAtMostDate (available_at y q k) (y q.to.index k)) (place_after run now) net.places (λ i d l.
          let p : Place = get_or net.places i d in
          after_from_left net run now u y p k (y p.to.index k) (over.paid i d l) o (from_now net run now u y least p.to.index k o)
          (own_of net (λ q. IsAtMostDate (available (left_of net run now u) y (place_left n q) k) (y q.to.index k)) (tokens k o) i d l))))
          (λ t l.
          let in' : t < length net.transitions = rw after.transitions at l in
          implicit_from_left net run now u y t k (y t k) o (from_now net run now u y least t k o)
          (implicit_of net (λ q. IsAtMostDate (available (left_of net run now u) y (place_left n q) k) (y q.to.index k)) (tokens k o) t in'));
      inputs = λ t k o i.
          let own : IsInput net t = rw after.transitions at i in
          let low = least.feasible.releases t k o in
          rw (inputs t k o own) (rw (at_input_is net t (u t (n t + k)) Early own) at low);
    }

tight_after : (net : NetLists) (run : List Fired) (now : ℕ) (rest : NetLists) (u v y : Dating) (bound : ℕ) (r : ℕ → ℕ) → IsFed net → IsOver net run now → IsNetAfter net run now rest
    → AreReleasesLeft net run now u v → AreRanks net.places bound r → IsLeastIn (left_of net run now u) y → IsTight rest v y
tight_after net run now rest u v y bound r fed over after inputs rr least = record {
  tight = λ t k z l o all under.
      let n : ℕ → ℕ = count_in run in
      let here : t < length net.transitions = rw after.transitions at l in
      let listed : Date = u t (n t + k) in
      let released : IsInput net t → IsAtMostDate (later_of (At (pos now)) listed) z = λ own.
      rw (inputs t k o own) at (under (rw after.transitions own)) in
      let each : All (λ p. p.to.index ≡ t → IsAtMostDate (available_at y p k) z) (map (place_after run now) net.places) =
      rw after.places at (own_of rest (λ p. p.to.index ≡ t → IsAtMostDate (available_at y p k) z) all) in
      let own_all : All (λ p. p.to.index ≡ t → IsAtMostDate (available_at y (place_after run now p) k) z) net.places =
      all_unmap (λ p. p.to.index ≡ t → IsAtMostDate (available_at y p k) z) (place_after run now) net.places each in
      let soon : IsAtMostDate (At (pos now)) z =
      ⊎_elim
      (λ (own : IsInput net t). at_most_trans (At (pos now)) (later_of (At (pos now)) listed) z (later_left (At (pos now)) listed) (released own))
      (λ (a : Any (λ p. p.to.index ≡ t) net.places).
      let p : Place = get_or net.places a.0 a.1 in
      let to : p.to.index ≡ t = ap (λ q. q.to.index) a.3 ∙ a.4 in
      at_most_trans (At (pos now)) (available_at y (place_after run now p) k) z (now_available run now y p k o (from_now net run now u y least)) (own_all a.0 a.1 a.2 to))
      (fed t here) in
      tight_in (left_of net run now u) ((length run + 1) * bound) (rank_left n bound r) y (ranks_of_rest net run now bound u r over.paid rr) least t k z o
      (All-map (λ q. q.to.index ≡ t → IsAtMostDate (available (left_of net run now u) y q k) z) (place_left n) (extended_places net)
      (all_extended_in net (λ p. p.to.index ≡ t → IsAtMostDate (available (left_of net run now u) y (place_left n p) k) z)
      (λ i d m e. left_from_after net run now u y (get_or net.places i d) k z (over.paid i d m) o (own_all i d m e))
      (λ a m e.
      let in' : a < length rest.transitions = rw after.transitions m in
      left_from_implicit net run now u y a k z over.over o soon
      (implicit_of rest (λ p. p.to.index ≡ t → IsAtMostDate (available_at y p k) z) all a in' e))))
      (later_least (At (pos now)) (at_input net t listed Early) z soon
      (release_below net t listed z (λ own. at_most_trans listed (later_of (At (pos now)) listed) z (later_right (At (pos now)) listed) (released own))));
}

pub net_goes_on_under : NetsGoOnUnder
net_goes_on_under net run now rest u v x ends live fed over after inputs h =
    let ranks = live_is_ranked net ends live in
    let y : Dating = dating_left (count_in run) x in
    let least : IsLeastIn (left_of net run now u) y = goes_on (system_under net now u) (count_in run) (date_in run) x (all_paid net run over.paid) h in
    tight_is_least rest v y ((length run + 1) * ranks.0) (rank_left (count_in run) ranks.0 ranks.1) (ends_left net run now rest after ends)
    (ranks_left net run now rest ranks.0 ranks.1 after over.paid ranks.2)
    (feasible_after net run now rest u v y over after inputs least)
    (tight_after net run now rest u v y ranks.0 ranks.1 fed over after inputs ranks.2 least)

pub net_goes_on : NetsGoOn
net_goes_on net run now rest x ends live fed over after h = net_goes_on_under net run now rest (listed_releases net) (listed_releases rest) x ends live fed over after after.inputs h

pub is_continued_under : NetsAreContinuedUnder
is_continued_under net run now rest u v y ends live fed over after inputs h =
    let ranks = live_is_ranked net ends live in
    let bound : ℕ = (length run + 1) * ranks.0 in
    let rank : ℕ → ℕ = rank_left (count_in run) ranks.0 ranks.1 in
    let l : Dating = least_over (left_of net run now u) bound rank in
    let x : Dating = continued (count_in run) (date_in run) l in
    let least = is_continued (system_under net now u) (count_in run) (date_in run) l (all_paid net run over.paid)
    (least_over_is_least (left_of net run now u) bound rank (ranks_of_rest net run now ranks.0 u ranks.1 over.paid ranks.2)) in (
      x,
      least,
      λ t k in' o.
          only_least rest v (dating_left (count_in run) x) y (net_goes_on_under net run now rest u v x ends live fed over after inputs least) h t k (rw after.transitions in') o,
    )

pub is_continued_by : NetsAreContinued
is_continued_by net run now rest y ends live fed over after h =
    is_continued_under net run now rest (listed_releases net) (listed_releases rest) y ends live fed over after after.inputs h

pub legal_goes_on : LegalRunsGoOn
legal_goes_on net run now rest x ends live fed legal over after h =
    let fits = legal_in_time net run now legal in
    net_goes_on net run now rest x ends live fed (record { paid = fits.paid; over = over }) after
    (may_be_released (system_from net now) (count_in run) (date_in run) x (all_paid net run fits.paid) fits.in_time h)
