-- What waits for less is earlier: by induction on number and rank, and hold by hold.
use Rattle.std.proofs.Common.{ℕ, zero, suc, ◌+◌, ◌-◌, ◌*◌, ◌<◌, ◌≤◌, ◌≡◌, true, false, ltb, length, get_or, refl, sym, ap, ◌∙◌, arith, ⊎_elim}
use Rattle.std.specs.Prelude.{All}
use Rattle.std.proofs.lemmas.Bool.{cases_lt}
use Rattle.std.proofs.lemmas.Bool.Decides.{nat_tests}
use Rattle.std.proofs.lemmas.List.{get_or_default}
use Rattle.teg_model.specs.dioid.declared.dates.Date.{Date}
use Rattle.teg_model.specs.dioid.Dates.{IsAtMostDate, delayed}
use Rattle.teg_model.proofs.dioid_proofs.DateOrder.{at_most_refl, at_most_is, at_most_trans}
use Rattle.teg_model.specs.teg_net.declared.entries.Place.{Place}
use Rattle.teg_model.specs.teg_net.Nets.{NetLists}
use Rattle.teg_model.specs.teg_net.Circuits.{no_place}
use Rattle.teg_model.specs.LiveRanks.{AreRanks, HasEndsInRange}
use Rattle.teg_model.specs.Datings.{extended_places, available_at, initial_date, IsFeasibleUnder}
use Rattle.teg_model.specs.LeastDatings.{IsTight}
use Rattle.teg_model.proofs.DateFunctions.{Dating}
use Rattle.teg_model.proofs.LeastOver.{falls}
use Rattle.teg_model.proofs.LiveRanks.{live_is_ranked}
use Rattle.teg_model.proofs.OfNet.{all_extended, all_extended_in, ranks_extended, extended_has, implicit_is, tight_of_least}
use Rattle.teg_model.proofs.TightLeast.{available_below}
use Rattle.teg_model.proofs.Tokens.{available_after, available_first, place_keeps, implicit_keeps}
use Rattle.dating_laws.proofs.OrderOfDatings.{feasible_before}
use Rattle.dating_laws.proofs.SlowerNets.{longer_hold}
use Rattle.planning_laws.specs.VaryingHolds.{TightDatingsAreEarly, DatesLieBetween, place_of, IsSameButHold, AreHoldsBetween, held_at}
use Rattle.planning_laws.specs.VaryingHolds.{IsDatingWithHolds, AreNoLater, VaryingHoldsLieBetween, LeastDatingsHaveHolds}

-- ---- tight datings are early

ends_in : (net : NetLists) → HasEndsInRange net → All (λ p. p.to.index < length net.transitions → p.from.index < length net.transitions) (extended_places net)
ends_in net ends = all_extended net (λ p. p.to.index < length net.transitions → p.from.index < length net.transitions) (λ i d l u. (ends i d l).0) (λ t h. h)

tight_below : (net : NetLists) (u x y : Dating) (bound : ℕ) (r : ℕ → ℕ) → HasEndsInRange net → AreRanks net.places bound r → IsTight net u x → IsFeasibleUnder net u y
    → (n t k : ℕ) → t < length net.transitions → 1 ≤ k → k * bound + r t < n → IsAtMostDate (x t k) (y t k)
tight_below net u x y bound r ends rr h f zero t k l o m = absurd (omega arith)
tight_below net u x y bound r ends rr h f (suc n) t k l o m =
    h.tight t k (y t k) l o
    (λ i d b q.
    let p : Place = get_or (extended_places net) i d in
    let upper = f.places k o i d b in
    let re = ranks_extended net bound r rr in
    at_most_trans (available_at x p k) (available_at y p k) (y t k)
    (available_below initial_date x y p k (λ more.
    let down = falls bound k p.tokens (r p.from.index) (r p.to.index) more (re.below p.from.index) (re.rise i d b) in
    let here : r p.to.index ≡ r t = ap r q in
    tight_below net u x y bound r ends rr h f n p.from.index (k - p.tokens) (ends_in net ends i d b (rw q l)) (omega (arith, more)) (omega (arith, down, here, m))))
    (rw q at upper))
    (λ e. f.inputs t k o e)

pub tight_are_early : TightDatingsAreEarly
tight_are_early net ends live u x y h f t k l o =
    let ranked = live_is_ranked net ends live in
    tight_below net u x y ranked.0 ranked.1 ends ranked.2 h f (suc (k * ranked.0 + ranked.1 t)) t k l o (omega arith)

pub lie_between : DatesLieBetween
lie_between low high ends live same u x y z first f h last t k l o = (
  first.least y f t k l o,
  tight_are_early high ends live u y z h last.feasible t k (omega (arith, l, same)) o,
)

-- ---- holds

pub held_after : (net : NetLists) (holds : ℕ → ℕ → ℕ) (x : Dating) (i k : ℕ) → (place_of net i).tokens < k
    → held_at net holds x i k ≡ delayed (holds i k) (x (place_of net i).from.index (k - (place_of net i).tokens))
held_after net holds x i k l = let test : ltb (place_of net i).tokens k ≡ true = grind (arith, nat_tests) in rw test refl

pub held_first : (net : NetLists) (holds : ℕ → ℕ → ℕ) (x : Dating) (i k : ℕ) → k ≤ (place_of net i).tokens → held_at net holds x i k ≡ initial_date (place_of net i) k
held_first net holds x i k l = let test : ltb (place_of net i).tokens k ≡ false = grind (arith, nat_tests) in rw test refl

module _ (low high : NetLists) (holds : ℕ → ℕ → ℕ) (b : AreHoldsBetween low high holds) (y : Dating) (i k : ℕ) (l : i < length low.places) (one : 1 ≤ k) where
  abbrev p : Place
  p = place_of low i

  abbrev q : Place
  q = place_of high i

  -- no token is there sooner than after the least hold
  after_least : IsAtMostDate (available_at y p k) (held_at low holds y i k)
  after_least = ⊎_elim
      (λ (m : p.tokens < k).
      let d : Date = y p.from.index (k - p.tokens) in
      rw (available_after initial_date y p k d m refl, held_after low holds y i k m) (longer_hold p.hold (holds i k) d (b.least i k l one)))
      (λ (m : k ≤ p.tokens). rw (available_first initial_date y p k m, held_first low holds y i k m) (at_most_refl (initial_date p k)))
      (cases_lt p.tokens k)

  -- nor later than after the greatest
  until_greatest : IsAtMostDate (held_at low holds y i k) (available_at y q k)
  until_greatest =
      let same : IsSameButHold p q = b.same i l in
      let few = same.tokens in
      ⊎_elim
      (λ (m : p.tokens < k).
      let d : Date = y p.from.index (k - p.tokens) in
      let there : y q.from.index (k - q.tokens) ≡ d = rw (same.from, same.tokens) refl in
      rw (held_after low holds y i k m, available_after initial_date y q k d (omega (arith, m, few)) there) (longer_hold (holds i k) q.hold d (b.greatest i k l one)))
      (λ (m : k ≤ p.tokens).
      let dates : initial_date p k ≡ initial_date q k = rw same.ready refl in
      rw (held_first low holds y i k m, available_first initial_date y q k (omega (arith, m, few))) (at_most_is (initial_date p k) (initial_date q k) dates))
      (cases_lt p.tokens k)

module _ (low high : NetLists) (holds : ℕ → ℕ → ℕ) (b : AreHoldsBetween low high holds) (u y : Dating) (h : IsDatingWithHolds low holds u y) where
  feasible_low : IsFeasibleUnder low u y
  feasible_low = record {
    places = λ k one. all_extended_in low (λ p. IsAtMostDate (available_at y p k) (y p.to.index k))
        (λ i d l. rw (get_or_default low.places i d no_place l)
        (at_most_trans (available_at y (place_of low i) k) (held_at low holds y i k) (y (place_of low i).to.index k) (after_least low high holds b y i k l one) (h.places i k l one)))
        (λ t l. h.in_turn t k l one);
    inputs = h.inputs;
  }

  tight_high : IsTight high u y
  tight_high = record {
    tight = λ t k z l one all under.
        let many : length low.transitions ≡ length high.transitions = ap length b.transitions in
        let count = b.count in
        h.no_later t k z (omega (arith, l, many)) one
        (λ i m e.
        let m' : i < length high.places = omega (arith, m, count) in
        let same : IsSameButHold (place_of low i) (place_of high i) = b.same i m in
        let own = extended_has high (λ p. p.to.index ≡ t → IsAtMostDate (available_at y p k) z) (λ j n. all j no_place n) i m' in
        at_most_trans (held_at low holds y i k) (available_at y (place_of high i) k) z (until_greatest low high holds b y i k m one) (own (sym same.to ∙ e)))
        (let own = implicit_is high t l in (rw own.2 at (all own.0 no_place own.1)) refl)
        (λ i. under (rw b.transitions at i));
  }

pub varying_between : VaryingHoldsLieBetween
varying_between low high holds ends live b u v w x y z early late first h last t k l o =
    let same : length low.transitions ≡ length high.transitions = ap length b.transitions in
    let late' : AreNoLater high v w = λ s j one i. late s j one (rw b.transitions i) in (
      first.least y (feasible_before low u v y early (feasible_low low high holds b v y h)) t k l o,
      tight_are_early high ends live v y z (tight_high low high holds b v y h) (feasible_before high v w z late' last.feasible) t k (omega (arith, l, same)) o,
    )

-- ---- one hold for all firings

pub least_have_holds : LeastDatingsHaveHolds
least_have_holds net ends live u x h =
    let ranked = live_is_ranked net ends live in
    let tight = tight_of_least net u x ranked.0 ranked.1 ranked.2 h in
    record {
      places = λ i k l one. place_keeps net u x h.feasible k one i l;
      in_turn = λ t k l one. implicit_keeps net u x h.feasible t k l one;
      inputs = h.feasible.inputs;
      no_later = λ t k z l one all own under. tight.tight t k z l one
          (all_extended_in net (λ p. p.to.index ≡ t → IsAtMostDate (available_at x p k) z)
          (λ i d m. rw (get_or_default net.places i d no_place m) (all i m))
          (λ s m e. rw e own))
          under;
    }
