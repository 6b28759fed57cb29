-- The latest dates of firings: walks to due firings, and what the latest dates keep.
use Rattle.std.proofs.Common.{ℕ, ◌+◌, ◌<◌, ◌≤◌, ◌≡◌, ◌≢◌, List, Option, Some, [], ◌∷◌, length, refl, sym, ap, ◌∙◌, arith, ⊎_elim, inl, inr}
use Rattle.std.specs.Prelude.{pos, ◌-ℤ◌, ◌⊎◌}
use Rattle.std.proofs.lemmas.Int.{ints}
use Rattle.std.proofs.lemmas.List.Sums.{sum_by-cons}
use Rattle.teg_model.specs.dioid.declared.dates.Date.{Date}
use Rattle.teg_model.specs.dioid.declared.dates.Date.TheVariants.{Early, At, Never}
use Rattle.teg_model.specs.dioid.Dates.{IsAtMostDate, delayed}
use Rattle.teg_model.proofs.dioid_proofs.DateOrder.{at_most_is, at_most_trans, never_last, delayed_rises}
use Rattle.teg_model.specs.teg_net.declared.entries.PlaceId.{PlaceId}
use Rattle.teg_model.specs.teg_net.declared.entries.Place.{Place}
use Rattle.teg_model.specs.teg_net.Nets.{NetLists}
use Rattle.teg_model.specs.teg_net.Circuits.{no_place, place_at}
use Rattle.teg_model.specs.teg_net.declared.walks.Step.{Step}
use Rattle.teg_model.specs.teg_net.declared.walks.Step.TheVariants.{By, Next}
use Rattle.teg_model.specs.teg_net.Walks.{Walks, step_time, walk_time}
use Rattle.teg_model.specs.LiveRanks.{HasEndsInRange}
use Rattle.teg_model.specs.Datings.{IsFeasibleUnder, initial_date, system_of}
use Rattle.teg_model.proofs.OfNet.{feasible_in}
use Rattle.teg_model.proofs.Delays.{delayed_twice, delayed_not}
use Rattle.teg_model.proofs.WalkSteps.{Keeps, feasible_keeps_in, walk_below}
use Rattle.teg_model.proofs.DateFunctions.{Dating}
use Rattle.due_laws.specs.MeetingDueDates.{KeepsDues}
use Rattle.due_laws.specs.LatestDates.{IsDateToDue, IsLatestDate, AreLatestDates}
use Rattle.due_laws.specs.LatestInputs.{FreeWhereNoWalkLeads}

-- for each firing the date at which it is due, if it is
abbrev pub Dues : Type 0
Dues = ℕ → ℕ → Option ℕ

-- a delay can be taken off on both sides
pub delayed_back : (h : ℕ) (a b : Date) → IsAtMostDate (delayed h a) (delayed h b) → IsAtMostDate a b
delayed_back h Early b l = tt
delayed_back h (At x) Early l = l
delayed_back h (At x) (At y) l = omega (arith, ints, l)
delayed_back h (At x) Never l = tt
delayed_back h Never Early l = l
delayed_back h Never (At y) l = l
delayed_back h Never Never l = tt

-- so many units earlier; Early and Never stay
pub earlier_by : ℕ → Date → Date
earlier_by h Early = Early
earlier_by h (At x) = At (x -ℤ pos h)
earlier_by h Never = Never

pub earlier_delayed : (h : ℕ) (d : Date) → delayed h (earlier_by h d) ≡ d
unfolding earlier_by
earlier_delayed h Early = refl
earlier_delayed h (At x) = ap At (omega (arith, ints))
earlier_delayed h Never = refl

-- what a feasible dating keeps along each step
pub feasible_keeps : (net : NetLists) (u x : Dating) → IsFeasibleUnder net u x → Keeps net x
feasible_keeps net u x f = feasible_keeps_in net initial_date (system_of net u).release x (feasible_in net u x f)

-- a walk from a firing of the net ends at one
pub walk_ends_in : (net : NetLists) → HasEndsInRange net → (steps : List Step) (a s b k : ℕ) → a < length net.transitions → 1 ≤ s → Walks net a s steps b k → (b < length net.transitions) × (1 ≤ k)
walk_ends_in net ok [] a s b k l o w = (rw (← w.0) l, rw (← w.1) o)
walk_ends_in net ok (By p ∷ steps) a s b k l o w = walk_ends_in net ok steps (place_at net p).to.index (s + (place_at net p).tokens) b k (ok p.index no_place w.0).1 (omega arith) w.2
walk_ends_in net ok (Next ∷ steps) a s b k l o w = walk_ends_in net ok steps a (s + 1) b k l (omega arith) w

-- ---- walks to due firings

pub due_here : (net : NetLists) (due : Dues) (t k d : ℕ) → due t k ≡ Some d → IsDateToDue net due t k (At (pos d))
due_here net due t k d h = record { to = t; number = k; due_date = d; steps = []; walk = (refl, refl); is_due = h; is = delayed_not (At (pos d)) }

-- a walk with a place before it
pub due_by : (net : NetLists) (due : Dues) (p : PlaceId) (s : ℕ) (d : Date) → p.index < length net.places
    → IsDateToDue net due (place_at net p).to.index (s + (place_at net p).tokens) (delayed (place_at net p).hold d)
    → IsDateToDue net due (place_at net p).from.index s d
due_by net due p s d in' w =
    let time = sum_by-cons (step_time net) (By p) w.steps in
    record {
      to = w.to;
      number = w.number;
      due_date = w.due_date;
      steps = By p ∷ w.steps;
      walk = (in', refl, w.walk);
      is_due = w.is_due;
      is = ap (λ n. delayed n d) time ∙ (delayed_twice (place_at net p).hold (walk_time net w.steps) d ∙ w.is);
    }

pub due_next : (net : NetLists) (due : Dues) (t s : ℕ) (d : Date) → IsDateToDue net due t (s + 1) d → IsDateToDue net due t s d
due_next net due t s d w =
    let time : walk_time net (Next ∷ w.steps) ≡ walk_time net w.steps = omega (arith, sum_by-cons (step_time net) Next w.steps) in
    record {
      to = w.to;
      number = w.number;
      due_date = w.due_date;
      steps = Next ∷ w.steps;
      walk = w.walk;
      is_due = w.is_due;
      is = ap (λ n. delayed n d) time ∙ w.is;
    }

pub never_or_not : (d : Date) → (d ≡ Never) ⊎ (d ≢ Never)
never_or_not Early = inr (λ e. at_most_is Never Early (sym e))
never_or_not (At x) = inr (λ e. at_most_is Never (At x) (sym e))
never_or_not Never = inl refl

-- a dating that is the latest date at one firing is at most what a walk to another makes of its latest date
latest_before : (net : NetLists) (due : Dues) (t k b n h : ℕ) (y z : Date) → IsLatestDate net due t k y → IsLatestDate net due b n z
    → ((d : Date) → IsDateToDue net due b n (delayed h d) → IsDateToDue net due t k d) → IsAtMostDate (delayed h y) z
latest_before net due t k b n h y z l m on =
    ⊎_elim
    (λ (e : z ≡ Never). rw e (never_last (delayed h y)))
    (λ (e : z ≢ Never).
    let there = m.attained e in
    let back : delayed h (earlier_by h z) ≡ z = earlier_delayed h z in
    let here : IsDateToDue net due t k (earlier_by h z) = on (earlier_by h z) (rw back there) in
    rw back at (delayed_rises h y (earlier_by h z) (l.least (earlier_by h z) here)))
    (never_or_not z)

-- latest dates keep each place and never fall
pub latest_keeps : (net : NetLists) (due : Dues) (y : Dating) → HasEndsInRange net → AreLatestDates net due y → Keeps net y
latest_keeps net due y ok l = record {
  by = λ p s in' o.
      let place : Place = place_at net p in
      let ends = ok p.index no_place in' in
      latest_before net due place.from.index s place.to.index (s + place.tokens) place.hold (y place.from.index s) (y place.to.index (s + place.tokens))
      (l place.from.index s ends.0 o) (l place.to.index (s + place.tokens) ends.1 (omega arith)) (λ d w. due_by net due p s d in' w);
  next = λ t s in' o.
      rw delayed_not at
      (latest_before net due t s t (s + 1) 0 (y t s) (y t (s + 1)) (l t s in' o) (l t (s + 1) in' (omega arith)) (λ d w. due_next net due t s d (rw delayed_not at w)));
}

-- a feasible dating that keeps the due dates is at most the latest dates
pub kept_below : (net : NetLists) (due : Dues) (u x : Dating) → HasEndsInRange net → IsFeasibleUnder net u x → KeepsDues net due x
    → (t k : ℕ) (d : Date) → t < length net.transitions → 1 ≤ k → IsLatestDate net due t k d → IsAtMostDate (x t k) d
kept_below net due u x ok f keeps t k d in' o l =
    ⊎_elim
    (λ (e : d ≡ Never). rw e (never_last (x t k)))
    (λ (e : d ≢ Never).
    let w = l.attained e in
    let end = walk_ends_in net ok w.steps t k w.to w.number in' o w.walk in
    let along = walk_below net x ok (feasible_keeps net u x f) w.steps t k w.to w.number in' o w.walk in
    let late = at_most_trans (delayed (walk_time net w.steps) (x t k)) (x w.to w.number) (At (pos w.due_date)) along (keeps w.to w.number w.due_date end.0 end.1 w.is_due) in
    delayed_back (walk_time net w.steps) (x t k) d (rw (← w.is) at late))
    (never_or_not d)

-- and the latest dates keep the due dates
pub latest_keeps_dues : (net : NetLists) (due : Dues) (y : Dating) → AreLatestDates net due y → KeepsDues net due y
latest_keeps_dues net due y l t k d in' o h = (l t k in' o).least (At (pos d)) (due_here net due t k d h)

-- the latest date is never just where no walk leads to a due firing
pub free_without_walks : FreeWhereNoWalkLeads
unfolding earlier_by
free_without_walks net due t k date l = (
  λ e steps b n d w is.
      let back : Date = earlier_by (walk_time net steps) (At (pos d)) in
      let there : IsDateToDue net due t k back = record { to = b; number = n; due_date = d; steps = steps; walk = w; is_due = is; is = earlier_delayed (walk_time net steps) (At (pos d)) } in
      rw e at (l.least back there),
  λ none.
      ⊎_elim
      (λ (e : date ≡ Never). e)
      (λ (e : date ≢ Never). let w = l.attained e in absurd (none w.steps w.to w.number w.due_date w.walk w.is_due))
      (never_or_not date),
)
