-- The latest of dates that go on by steps goes on by the greatest of them, once it does so for a period.
use Rattle.std.proofs.Common.{ℕ, ℤ, zero, suc, pos, ◌+◌, ◌-◌, ◌<◌, ◌≤◌, ◌≡◌, ◌⊎◌, inl, inr, true, false, refl, sym, subst, ap, ◌∙◌, arith, ⊎_elim}
use Rattle.std.specs.Prelude.{◌≤ℤ◌, nat_le}
use Rattle.std.proofs.lemmas.Bool.{cases_lt}
use Rattle.std.proofs.lemmas.Bool.Decides.{nat_tests}
use Rattle.dioid.specs.declared.dates.Date.{Date}
use Rattle.dioid.specs.declared.dates.Date.TheVariants.{Early}
use Rattle.dioid.specs.Dates.{IsAtMostDate, delayed, move}
use Rattle.dioid.proofs.DateOrder.{at_most_is, at_most_trans, same_by_at_most}
use Rattle.dioid.proofs.Moves.{delayed_move, move_rises, moved_again}
use Rattle.teg_net.specs.declared.entries.PlaceId.{PlaceId}
use Rattle.teg_net.specs.Circuits.{place_at}
use Rattle.teg_net.specs.Nets.{NetLists}
use Rattle.own_period_laws.specs.OwnPeriods.{GoesOn}
use Rattle.end_laws.specs.Ends.{IsLatestBy, Leaves, date_by}
use Rattle.end_laws.specs.Latest.{DatesByPlacesGoOn, GoOnWithin, LatestGoesOn}

module _ (net : NetLists) (u t : ℕ) (z : ℕ → ℕ → ℕ → Date) (dates : ℕ → Date) (latest : (k : ℕ) → 1 ≤ k → IsLatestBy net u z t k (dates k))
    (after period : ℕ) (most : ℤ) (some : 1 ≤ period) (on : GoOnWithin net u z t after period most) where
  -- the date by a place
  by : PlaceId → ℕ → Date
  by p k = date_by z (place_at net p) t k

  module _ (k : ℕ) (past : after < k) (once : dates (k + period) ≡ move most (dates k)) where
    one : 1 ≤ (k + period) + period
    one = omega (arith, some)

    next : 1 ≤ k + period
    next = omega (arith, some)

    first : 1 ≤ k
    first = omega (arith, past)

    later : after < k + period
    later = omega (arith, past)

    below : IsAtMostDate (dates ((k + period) + period)) (move most (dates (k + period)))
    unfolding by
    below = ⊎_elim
        (λ (e : dates ((k + period) + period) ≡ Early). rw e tt)
        (λ (h : (p : PlaceId) × Leaves net u p × (dates ((k + period) + period) ≡ date_by z (place_at net p) t ((k + period) + period))).
        let own = on h.0 h.1 in
        let is : dates ((k + period) + period) ≡ move own.0 (by h.0 (k + period)) = h.2 ∙ own.1 (k + period) later in
        rw is (move_rises own.0 most (by h.0 (k + period)) (dates (k + period)) own.2 ((latest (k + period) next).latest h.0 h.1)))
        (latest ((k + period) + period) one).reached

    above : IsAtMostDate (move most (dates (k + period))) (dates ((k + period) + period))
    unfolding by
    above = ⊎_elim
        (λ (e : dates (k + period) ≡ Early). rw e tt)
        (λ (h : (p : PlaceId) × Leaves net u p × (dates (k + period) ≡ date_by z (place_at net p) t (k + period))).
        let own = on h.0 h.1 in
        let low : IsAtMostDate (by h.0 k) (dates k) = (latest k first).latest h.0 h.1 in
        let here : by h.0 (k + period) ≡ move own.0 (by h.0 k) = own.1 k past in
        let there : by h.0 ((k + period) + period) ≡ move own.0 (by h.0 (k + period)) = own.1 (k + period) later in
        let same : move most (dates k) ≡ move own.0 (by h.0 k) = sym once ∙ (h.2 ∙ here) in
        let again : move most (move most (dates k)) ≡ move own.0 (move own.0 (by h.0 k)) = moved_again own.0 most (by h.0 k) (dates k) low (inl own.2) same in
        let is : move most (dates (k + period)) ≡ by h.0 ((k + period) + period) =
        ap (move most) once ∙ (again ∙ (ap (move own.0) (sym here) ∙ sym there)) in
        rw is ((latest ((k + period) + period) one).latest h.0 h.1))
        (latest (k + period) next).reached

    once_more : dates ((k + period) + period) ≡ move most (dates (k + period))
    once_more = same_by_at_most (dates ((k + period) + period)) (move most (dates (k + period))) below above

  module _ (from : ℕ) (behind : after ≤ from) (window : (k : ℕ) → from < k → k ≤ from + period → dates (k + period) ≡ move most (dates k)) where
    up_to : (n k : ℕ) → k ≤ n → from < k → dates (k + period) ≡ move most (dates k)
    up_to zero k l past = absurd (omega (arith, l, past))
    up_to (suc n) k l past = ⊎_elim
        (λ (far : from + period < k).
        let back : (k - period) + period ≡ k = omega (arith, far) in
        let low : k - period ≤ n = omega (arith, l, some, far) in
        let over : from < k - period = omega (arith, far) in
        subst (λ (m : ℕ). dates (m + period) ≡ move most (dates m)) back (once_more (k - period) (omega (arith, over, behind)) (up_to n (k - period) low over)))
        (λ (near : k ≤ from + period). window k past near)
        (cases_lt (from + period) k)

    goes_on : GoesOn dates from period most
    goes_on k past = up_to k k (omega arith) past

pub latest_goes_on : LatestGoesOn
latest_goes_on net u t z dates latest after period most some on from behind window = goes_on net u t z dates latest after period most some on from behind window

pub dates_by_places_go_on : DatesByPlacesGoOn
dates_by_places_go_on z p t after period step h k past =
    let here : nat_le k p.tokens ≡ false = grind (arith, nat_tests) in
    let there : nat_le (k + period) p.tokens ≡ false = grind (arith, nat_tests) in
    let is : (k + period) - p.tokens ≡ (k - p.tokens) + period = omega (arith, past) in
    let on : z p.to.index t ((k + period) - p.tokens) ≡ move step (z p.to.index t (k - p.tokens)) = ap (z p.to.index t) is ∙ h (k - p.tokens) (omega (arith, past)) in
    rw (here, there) (ap (delayed p.hold) on ∙ delayed_move p.hold step (z p.to.index t (k - p.tokens)))
