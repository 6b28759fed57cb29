-- The least dating of a slower net is feasible in the net.
use Rattle.std.proofs.Common.{ℕ, zero, suc, ◌+◌, ◌-◌, ◌<◌, ◌≤◌, ◌≡◌, length, get_or, refl, ap, subst, arith, ⊎_elim}
use Rattle.std.specs.Prelude.{pos}
use Rattle.std.proofs.lemmas.Bool.{cases_lt}
use Rattle.std.proofs.lemmas.Int.{ints}
use Rattle.std.proofs.lemmas.List.{get_or_default}
use Rattle.teg_model.specs.dioid.declared.dates.Date.{Date}
use Rattle.teg_model.specs.dioid.declared.dates.Date.TheVariants.{At}
use Rattle.teg_model.specs.dioid.Dates.{IsAtMostDate, delayed}
use Rattle.teg_model.proofs.dioid_proofs.DateOrder.{at_most_refl, at_most_trans, delayed_rises, delayed_later}
use Rattle.teg_model.specs.teg_net.declared.entries.Place.{Place}
use Rattle.teg_model.specs.teg_net.Nets.{NetLists}
use Rattle.teg_model.specs.teg_net.Circuits.{no_place}
use Rattle.teg_model.specs.teg_net.ReadyDates.{ready_date}
use Rattle.teg_model.specs.LiveRanks.{HasEndsInRange}
use Rattle.teg_model.specs.Datings.{available_at, initial_date, IsFeasibleUnder}
use Rattle.teg_model.proofs.DateFunctions.{Dating}
use Rattle.teg_model.proofs.Delays.{delayed_twice}
use Rattle.teg_model.proofs.OfNet.{all_extended_in}
use Rattle.teg_model.proofs.Tokens.{available_after, available_first, place_keeps, implicit_keeps, dates_climb, not_before_zero}
use Rattle.change_laws.specs.SlowerNets.{IsSlowerPlace, IsReadyNoLater, HasReadyDatesOfTokens}
use Rattle.change_laws.proofs.Changing.{none_ready}
use Rattle.dating_laws.specs.SlowerNets.{SlowerNetsAreLater}

-- the dates of a feasible dating rise over any numbers
pub climb : (net : NetLists) (u x : Dating) → IsFeasibleUnder net u x → (t k : ℕ) → t < length net.transitions → 1 ≤ k → (n : ℕ) → IsAtMostDate (x t k) (x t (k + n))
climb net u x f t k l o zero = let e : k + 0 ≡ k = omega arith in rw e (at_most_refl (x t k))
climb net u x f t k l o (suc n) =
    let e : k + suc n ≡ k + n + 1 = omega arith in
    rw e (at_most_trans (x t k) (x t (k + n)) (x t (k + n + 1)) (climb net u x f t k l o n) (dates_climb net u x f t (k + n) l (omega arith)))

-- a longer hold delays no less
pub longer_hold : (g h : ℕ) (d : Date) → g ≤ h → IsAtMostDate (delayed g d) (delayed h d)
longer_hold g h d l =
    let e : g + (h - g) ≡ h = omega arith in
    subst (λ n. IsAtMostDate (delayed g d) (delayed n d)) e (rw (delayed_twice g (h - g) d) (delayed_later (h - g) (delayed g d)))

module _ (slower : NetLists) (ends : HasEndsInRange slower) (few : HasReadyDatesOfTokens slower) (v y : Dating) (f : IsFeasibleUnder slower v y) (i : ℕ) (l : i < length slower.places)
    (p : Place) (h : IsSlowerPlace p (get_or slower.places i no_place)) (ready : IsReadyNoLater p (get_or slower.places i no_place)) where
  abbrev q : Place
  q = get_or slower.places i no_place

  -- a place keeps what a slower one keeps
  kept : (k : ℕ) → 1 ≤ k → IsAtMostDate (available_at y p k) (y p.to.index k)
  kept k o =
      let to : ℕ = q.to.index in
      let keeps : IsAtMostDate (available_at y q k) (y to k) = place_keeps slower v y f k o i l in
      let more = h.tokens in
      let low : IsAtMostDate (available_at y p k) (y to k) =
      ⊎_elim
      (λ (m : p.tokens < k).
      let j : ℕ = k - p.tokens in
      let a : Date = y q.from.index j in
      let b : Date = y q.from.index (k - q.tokens) in
      let apart : j + (p.tokens - q.tokens) ≡ k - q.tokens = omega (arith, m, more) in
      let from = (ends i no_place l).0 in
      let rises : IsAtMostDate a b = rw apart at (climb slower v y f q.from.index j from (omega (arith, m)) (p.tokens - q.tokens)) in
      let there : IsAtMostDate (delayed q.hold b) (y to k) = rw (available_after initial_date y q k b (omega (arith, m, more)) refl) at keeps in
      let held = at_most_trans (delayed p.hold a) (delayed q.hold a) (delayed q.hold b) (longer_hold p.hold q.hold a h.holds) (delayed_rises q.hold a b rises) in
      rw (available_after initial_date y p k a m (ap (λ t. y t j) h.same_from)) (at_most_trans (delayed p.hold a) (delayed q.hold b) (y to k) held there))
      (λ (m : k ≤ p.tokens).
      let early = ready k o m in
      let first : IsAtMostDate (At (pos (ready_date p k))) (At (pos (ready_date q k))) = omega (arith, ints, early) in
      let there : IsAtMostDate (At (pos (ready_date q k))) (y to k) =
      ⊎_elim
      (λ (n : q.tokens < k). rw (none_ready slower few (record { index = i }) l k n) (not_before_zero slower v y f to k (ends i no_place l).1 o))
      (λ (n : k ≤ q.tokens). rw (available_first initial_date y q k n) at keeps)
      (cases_lt q.tokens k) in
      rw (available_first initial_date y p k m) (at_most_trans (At (pos (ready_date p k))) (At (pos (ready_date q k))) (y to k) first there))
      (cases_lt p.tokens k) in
      rw h.same_to low

pub slower_later : SlowerNetsAreLater
slower_later net slower ends few s u v x y before least late t k in' o =
    let f = late.feasible in
    let many = ap length s.transitions in
    least.least y
    (record {
      places = λ j one. all_extended_in net (λ p. IsAtMostDate (available_at y p j) (y p.to.index j))
          (λ i d l. let w = s.each (record { index = i }) l in rw (get_or_default net.places i d no_place l) (kept slower ends few v y f w.0.index w.1 (get_or net.places i no_place) w.2 w.3 j one))
          (λ a m. implicit_keeps slower v y f a j (omega (arith, many, m)) one);
      inputs = λ a j one i. at_most_trans (u a j) (v a j) (y a j) (before a j one i) (f.inputs a j one (rw s.transitions at i));
    })
    t k in' o
