-- At inputs the latest dates are the latest inputs; and where any inputs meet the due dates, those at 0 do.
use Rattle.std.proofs.Common.{ℕ, ◌+◌, ◌-◌, ◌<◌, ◌≤◌, ◌≡◌, suc, length, get_or, refl, subst, arith, ⊎_elim}
use Rattle.std.specs.Prelude.{pos, All}
use Rattle.std.proofs.lemmas.Option.{slice_get_past}
use Rattle.std.proofs.lemmas.List.{get_or_default}
use Rattle.std.proofs.lemmas.Bool.{cases_lt}
use Rattle.teg_model.specs.dioid.declared.dates.Date.TheVariants.{At}
use Rattle.teg_model.specs.dioid.Dates.{IsAtMostDate}
use Rattle.teg_model.proofs.dioid_proofs.DateOrder.{at_most_refl, at_most_trans}
use Rattle.teg_model.specs.teg_net.declared.entries.PlaceId.{PlaceId}
use Rattle.teg_model.specs.teg_net.declared.entries.Place.{Place}
use Rattle.teg_model.specs.teg_net.Nets.{NetLists, IsInput}
use Rattle.teg_model.specs.teg_net.Circuits.{no_place, place_at}
use Rattle.teg_model.specs.LiveRanks.{HasEndsInRange}
use Rattle.teg_model.specs.Datings.{implicit_place, extended_places, initial_date, available_at, IsFeasibleUnder, IsLeastUnder, system_of}
use Rattle.teg_model.proofs.LeastOver.{least_over}
use Rattle.teg_model.proofs.LiveRanks.{live_is_ranked}
use Rattle.teg_model.proofs.OfNet.{all_extended_in, least_of, least_of_system}
use Rattle.teg_model.proofs.Tokens.{available_after, available_first, implicit_after, place_keeps, implicit_keeps, not_before_zero}
use Rattle.teg_model.proofs.DateFunctions.{Dating}
use Rattle.due_laws.specs.MeetingDueDates.{KeepsDues, inputs_at_zero}
use Rattle.due_laws.specs.LatestDates.{AreLatestDates}
use Rattle.due_laws.specs.LatestInputs.{LatestDatesAreLatestInputs, ZeroInputsMeet}
use Rattle.due_laws.proofs.LatestDates.{Dues, kept_below, latest_keeps, latest_keeps_dues}

-- a fact of each place of the net, and of the implicit place of each of its transitions
extended : (net : NetLists) (P : Place → Type 0) → ((q : ℕ) → q < length net.places → P (get_or net.places q no_place))
    → ((t : ℕ) → t < length net.transitions → P (implicit_place t)) → All P (extended_places net)
extended net P a b = all_extended_in net P (λ i d l. rw (get_or_default net.places i d no_place l) (a i l)) b

-- the latest dates are a feasible dating in which each input is there at its latest date
pub latest_is_feasible : (net : NetLists) (due : Dues) (u x y : Dating) → HasEndsInRange net → IsFeasibleUnder net u x → KeepsDues net due x → AreLatestDates net due y → IsFeasibleUnder net y y
latest_is_feasible net due u x y ok f keeps l =
    let k' = latest_keeps net due y ok l in
    let below : (t k : ℕ) → t < length net.transitions → 1 ≤ k → IsAtMostDate (x t k) (y t k) = λ t k in' o. kept_below net due u x ok f keeps t k (y t k) in' o (l t k in' o) in
    record {
      places = λ k o. extended net (λ p. IsAtMostDate (available_at y p k) (y p.to.index k))
          (λ q in'.
          let id : PlaceId = record { index = q } in
          let p : Place = place_at net id in
          let ends = ok q no_place in' in
          ⊎_elim
          (λ (m : p.tokens < k).
          let back : (k - p.tokens) + p.tokens ≡ k = omega arith in
          rw (available_after initial_date y p k (y p.from.index (k - p.tokens)) m refl) (rw back at (k'.by id (k - p.tokens) in' (omega arith))))
          (λ (m : k ≤ p.tokens).
          let first = rw (available_first initial_date x p k m) at (place_keeps net u x f k o q in') in
          rw (available_first initial_date y p k m) (at_most_trans (initial_date p k) (x p.to.index k) (y p.to.index k) first (below p.to.index k ends.1 o)))
          (cases_lt p.tokens k))
          (λ t in'.
          ⊎_elim
          (λ (m : 1 < k).
          let two : suc (suc (k - 2)) ≡ k = omega arith in
          let one : suc (k - 2) + 1 ≡ suc (suc (k - 2)) = omega arith in
          let climbs = k'.next t (suc (k - 2)) in' (omega arith) in
          subst (λ j. IsAtMostDate (available_at y (implicit_place t) j) (y t j)) two (rw implicit_after (rw one at climbs)))
          (λ (m : k ≤ 1).
          let first = rw (available_first initial_date x (implicit_place t) k m) at (implicit_keeps net u x f t k in' o) in
          rw (available_first initial_date y (implicit_place t) k m) (at_most_trans (initial_date (implicit_place t) k) (x t k) (y t k) first (below t k in' o)))
          (cases_lt 1 k));
      inputs = λ t k o i. at_most_refl (y t k);
    }

-- an input is a transition of the net
input_in : (net : NetLists) (t : ℕ) → IsInput net t → t < length net.transitions
input_in net t i =
    ⊎_elim
    (λ (l : t < length net.transitions). l)
    (λ (l : length net.transitions ≤ t). absurd (rw (slice_get_past net.transitions t l) at i))
    (cases_lt t (length net.transitions))

pub latest_dates_are_inputs : LatestDatesAreLatestInputs
latest_dates_are_inputs net ok live due zero y l =
    let ends = ok in
    let ranked = live_is_ranked net ends live in
    let x : Dating = zero.0 in
    let f = zero.1.feasible in
    let least : Dating = least_over (system_of net y) ranked.0 ranked.1 in
    let is_least : IsLeastUnder net y least = least_of_system net y least (least_of net y ranked.0 ranked.1 ranked.2) in
    let k' = latest_keeps net due y ends l in
    record {
      inputs = record {
        from_zero = λ t k i o. at_most_trans (At (pos 0)) (x t k) (y t k) (not_before_zero net inputs_at_zero x f t k (input_in net t i) o)
            (kept_below net due inputs_at_zero x ends f zero.2 t k (y t k) (input_in net t i) o (l t k (input_in net t i) o));
        never_fall = λ t k i o. k'.next t k (input_in net t i) o;
      };
      meet = (
        least,
        is_least,
        λ t k d in' o h.
            at_most_trans (least t k) (y t k) (At (pos d)) (is_least.least y (latest_is_feasible net due inputs_at_zero x y ends f zero.2 l) t k in' o) (latest_keeps_dues net due y l t k d in' o h),
      );
      latest = λ w v meets t k i o.
          at_most_trans (w t k) (meets.0 t k) (y t k) (meets.1.feasible.inputs t k o i)
          (kept_below net due w (meets.0) ends meets.1.feasible meets.2 t k (y t k) (input_in net t i) o (l t k (input_in net t i) o));
    }

pub zero_meets : ZeroInputsMeet
zero_meets net ok live due v meets =
    let ends = ok in
    let ranked = live_is_ranked net ends live in
    let x : Dating = meets.0 in
    let f = meets.1.feasible in
    let least : Dating = least_over (system_of net inputs_at_zero) ranked.0 ranked.1 in
    let is_least : IsLeastUnder net inputs_at_zero least = least_of_system net inputs_at_zero least (least_of net inputs_at_zero ranked.0 ranked.1 ranked.2) in
    let zero : IsFeasibleUnder net inputs_at_zero x = record { places = f.places; inputs = λ t k o i. not_before_zero net v x f t k (input_in net t i) o } in
    (least, is_least, λ t k d in' o h. at_most_trans (least t k) (x t k) (At (pos d)) (is_least.least x zero t k in' o) (meets.2 t k d in' o h))
