-- The latest date of a firing is the least of what is ahead of it, and the latest dates are the greatest in time.
use Rattle.std.proofs.Common.{ℕ, ◌+◌, ◌<◌, ◌≤◌, ◌≡◌, ◌≢◌, List, Some, [], ◌∷◌, length, refl, sym, ap, ◌∙◌, arith, ⊎_elim, inl, inr}
use Rattle.std.specs.Prelude.{pos, ◌⊎◌}
use Rattle.std.proofs.lemmas.List.{get_or_default}
use Rattle.std.proofs.lemmas.List.Sums.{sum_by-cons}
use Rattle.teg_model.specs.dioid.declared.dates.Date.{Date}
use Rattle.teg_model.specs.dioid.declared.dates.Date.TheVariants.{At, Never}
use Rattle.teg_model.specs.dioid.Dates.{IsAtMostDate, delayed}
use Rattle.teg_model.proofs.dioid_proofs.DateOrder.{at_most_trans, at_least_never, never_last, same_by_at_most}
use Rattle.teg_model.specs.teg_net.declared.entries.Place.{Place}
use Rattle.teg_model.specs.teg_net.Nets.{NetLists}
use Rattle.teg_model.specs.teg_net.Circuits.{no_place, place_at}
use Rattle.teg_model.specs.teg_net.declared.walks.Step.{Step}
use Rattle.teg_model.specs.teg_net.declared.walks.Step.TheVariants.{By, Next}
use Rattle.teg_model.specs.teg_net.Walks.{Walks, step_time, walk_time}
use Rattle.teg_model.specs.LiveRanks.{HasEndsInRange}
use Rattle.teg_model.proofs.Delays.{delayed_twice, delayed_not}
use Rattle.teg_model.proofs.WalkSteps.{Keeps, walk_below}
use Rattle.teg_model.proofs.DateFunctions.{Dating}
use Rattle.due_laws.specs.MeetingDueDates.{KeepsDues}
use Rattle.due_laws.specs.LatestDates.{IsDateToDue, AreLatestDates}
use Rattle.latest_laws.specs.BackwardEquations.{AreInTime, IsDueThen, IsHoldBefore, LatestDatesAreLeastAhead, LatestDatesAreLastInTime, LatestDatesAreGreatestInTime}
use Rattle.due_laws.proofs.LatestDates.{Dues, delayed_back, never_or_not, latest_keeps, latest_keeps_dues, walk_ends_in}

-- a date is one of those ahead
abbrev IsOneAhead : NetLists → Dues → Dating → ℕ → ℕ → Date → Type 0
IsOneAhead net due y t k date = IsDueThen due t k date ⊎ ((date ≡ y t (k + 1)) ⊎ IsHoldBefore net y t k date)

-- the first step of a walk to a due firing, of which the latest date is the due date less the time
first_step : (net : NetLists) (due : Dues) (y : Dating) → HasEndsInRange net → AreLatestDates net due y → (steps : List Step) (t k b n d : ℕ) → t < length net.transitions → 1 ≤ k
    → Walks net t k steps b n → due b n ≡ Some d → delayed (walk_time net steps) (y t k) ≡ At (pos d) → IsOneAhead net due y t k (y t k)
first_step net due y ok l [] t k b n d in' o w h e = inl (d, rw (← w.0, ← w.1) at h, sym (delayed_not (y t k)) ∙ e)
first_step net due y ok l (By p ∷ steps) t k b n d in' o w h e =
    let place : Place = place_at net p in
    let ends = ok p.index no_place w.0 in
    let rest : IsDateToDue net due place.to.index (k + place.tokens) (delayed place.hold (y t k)) =
    record {
      to = b;
      number = n;
      due_date = d;
      steps = steps;
      walk = w.2;
      is_due = h;
      is = sym (delayed_twice place.hold (walk_time net steps) (y t k)) ∙ (sym (ap (λ m. delayed m (y t k)) (sum_by-cons (step_time net) (By p) steps)) ∙ e);
    } in
    let high = (l place.to.index (k + place.tokens) ends.1 (omega arith)).least (delayed place.hold (y t k)) rest in
    let low = rw w.1 at ((latest_keeps net due y ok l).by p k w.0 o) in
    inr (inr (p, w.0, w.1, same_by_at_most (delayed place.hold (y t k)) (y place.to.index (k + place.tokens)) low high))
first_step net due y ok l (Next ∷ steps) t k b n d in' o w h e =
    let time : walk_time net (Next ∷ steps) ≡ walk_time net steps = omega (arith, sum_by-cons (step_time net) Next steps) in
    let rest : IsDateToDue net due t (k + 1) (y t k) = record { to = b; number = n; due_date = d; steps = steps; walk = w; is_due = h; is = sym (ap (λ m. delayed m (y t k)) time) ∙ e } in
    let high = (l t (k + 1) in' (omega arith)).least (y t k) rest in
    let low = (latest_keeps net due y ok l).next t k in' o in
    inr (inl (same_by_at_most (y t k) (y t (k + 1)) low high))

one_ahead : (net : NetLists) (due : Dues) (y : Dating) → HasEndsInRange net → AreLatestDates net due y → (t k : ℕ) → t < length net.transitions → 1 ≤ k → IsOneAhead net due y t k (y t k)
one_ahead net due y ok l t k in' o =
    ⊎_elim
    (λ (e : y t k ≡ Never).
    let on : IsAtMostDate Never (y t (k + 1)) = rw e at ((latest_keeps net due y ok l).next t k in' o) in
    inr (inl (e ∙ sym (at_least_never (y t (k + 1)) on))))
    (λ (e : y t k ≢ Never).
    let w = (l t k in' o).attained e in
    first_step net due y ok l w.steps t k w.to w.number w.due_date in' o w.walk w.is_due w.is)
    (never_or_not (y t k))

-- each latest date is in time for those ahead
latest_in_time : (net : NetLists) (due : Dues) (y : Dating) → HasEndsInRange net → AreLatestDates net due y → AreInTime net due y
latest_in_time net due y ok l t k in' o =
    let on = latest_keeps net due y ok l in
    record {
      due_date = λ d h. latest_keeps_dues net due y l t k d in' o h;
      next = on.next t k in' o;
      places = λ i d m. rw (get_or_default net.places i d no_place m) (λ q. rw q at (on.by (record { index = i }) k m o));
    }

pub least_ahead : LatestDatesAreLeastAhead
least_ahead net ok due y l t k in' o = record {
  in_time = latest_in_time net due y ok l t k in' o;
  one = one_ahead net due y ok l t k in' o;
}

pub last_in_time : LatestDatesAreLastInTime
last_in_time net ok due y l t k in' o date h =
    ⊎_elim
    (λ (a : IsDueThen due t k (y t k)). rw a.2 (h.due_date a.0 a.1))
    (λ b.
    ⊎_elim
    (λ (c : y t k ≡ y t (k + 1)). rw c h.next)
    (λ (c : IsHoldBefore net y t k (y t k)).
    let place : Place = place_at net (c.0) in
    delayed_back place.hold date (y t k) (rw c.3 (h.places c.0.index no_place c.1 c.2)))
    b)
    (one_ahead net due y ok l t k in' o)

-- what is in time for what is ahead keeps each step
pub in_time_keeps : (net : NetLists) (due : Dues) (z : Dating) → HasEndsInRange net → AreInTime net due z → Keeps net z
in_time_keeps net due z ok h = record {
  by = λ p s m o. (h (place_at net p).from.index s (ok p.index no_place m).0 o).places p.index no_place m refl;
  next = λ t s m o. (h t s m o).next;
}

-- what keeps each step and the due dates is at most the date that a walk to a due firing gives
pub below_walk : (net : NetLists) (due : Dues) (z : Dating) → HasEndsInRange net → Keeps net z → KeepsDues net due z → (t k : ℕ) (d : Date) → t < length net.transitions → 1 ≤ k
    → IsDateToDue net due t k d → IsAtMostDate (z t k) d
below_walk net due z ok steps keeps t k d in' o w =
    let time : ℕ = walk_time net w.steps in
    let end = walk_ends_in net ok w.steps t k w.to w.number in' o w.walk in
    let along = walk_below net z ok steps w.steps t k w.to w.number in' o w.walk in
    let late = at_most_trans (delayed time (z t k)) (z w.to w.number) (At (pos w.due_date)) along (keeps w.to w.number w.due_date end.0 end.1 w.is_due) in
    delayed_back time (z t k) d (rw (← w.is) at late)

pub in_time_keeps_dues : (net : NetLists) (due : Dues) (z : Dating) → AreInTime net due z → KeepsDues net due z
in_time_keeps_dues net due z h t k d in' o e = (h t k in' o).due_date d e

pub greatest_in_time : LatestDatesAreGreatestInTime
greatest_in_time net ok due y z l h t k in' o =
    let ends = ok in
    ⊎_elim
    (λ (e : y t k ≡ Never). rw e (never_last (z t k)))
    (λ (e : y t k ≢ Never). below_walk net due z ends (in_time_keeps net due z ends h) (in_time_keeps_dues net due z h) t k (y t k) in' o ((l t k in' o).attained e))
    (never_or_not (y t k))
