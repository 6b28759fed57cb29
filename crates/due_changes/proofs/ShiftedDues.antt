-- The latest dates move with the due dates.
use Rattle.std.proofs.Common.{ℕ, ◌+◌, ◌≤◌, ◌≡◌, ◌≢◌, Option, Some, None, refl, sym, ap, ◌∙◌, arith, ⊎_elim}
use Rattle.std.specs.Prelude.{pos}
use Rattle.std.proofs.lemmas.Int.{ints}
use Rattle.teg_model.specs.dioid.declared.dates.Date.{Date}
use Rattle.teg_model.specs.dioid.declared.dates.Date.TheVariants.{At, Never}
use Rattle.teg_model.specs.dioid.Dates.{IsAtMostDate, delayed}
use Rattle.teg_model.proofs.dioid_proofs.DateOrder.{at_most_is, at_most_trans, never_last, delayed_rises}
use Rattle.teg_model.specs.teg_net.Nets.{NetLists}
use Rattle.teg_model.specs.teg_net.Walks.{walk_time}
use Rattle.dating_laws.proofs.OrderOfDatings.{delayed_either}
use Rattle.due_laws.specs.LatestDates.{IsDateToDue}
use Rattle.due_changes.specs.ShiftedDues.{LaterDuesLaterLatest, later_due, ShiftedDuesShiftLatest}
use Rattle.due_laws.proofs.LatestDates.{Dues, delayed_back, earlier_by, earlier_delayed, never_or_not}

-- a walk that leads to a due firing, with the date that is its due date less the time
walk_to : (net : NetLists) (due other : Dues) (t k d : ℕ) (date : Date) (w : IsDateToDue net other t k date) → due w.to w.number ≡ Some d
    → IsDateToDue net due t k (earlier_by (walk_time net w.steps) (At (pos d)))
walk_to net due other t k d date w h = record {
  to = w.to;
  number = w.number;
  due_date = d;
  steps = w.steps;
  walk = w.walk;
  is_due = h;
  is = earlier_delayed (walk_time net w.steps) (At (pos d));
}

pub later_dues : LaterDuesLaterLatest
later_dues net due other y z h l m t k in' o =
    ⊎_elim
    (λ (e : z t k ≡ Never). rw e (never_last (y t k)))
    (λ (e : z t k ≢ Never).
    let w : IsDateToDue net other t k (z t k) = (m t k in' o).attained e in
    let time : ℕ = walk_time net w.steps in
    let first = h w.to w.number w.due_date w.is_due in
    let d : ℕ = first.0 in
    let no_later : d ≤ w.due_date = first.2 in
    let low = (l t k in' o).least (earlier_by time (At (pos d))) (walk_to net due other t k d (z t k) w first.1) in
    let dates : IsAtMostDate (At (pos d)) (At (pos w.due_date)) = omega (arith, ints, no_later) in
    let high : IsAtMostDate (earlier_by time (At (pos d))) (z t k) = delayed_back time (earlier_by time (At (pos d))) (z t k) (rw (earlier_delayed time (At (pos d)), w.is) dates) in
    at_most_trans (y t k) (earlier_by time (At (pos d))) (z t k) low high)
    (never_or_not (z t k))

-- a number so much later
date_later : (c d : ℕ) → delayed c (At (pos d)) ≡ At (pos (d + c))
date_later c d = ap At (omega (arith, ints))

-- what a due date so much later was
due_before : (c e : ℕ) (o : Option ℕ) → later_due c o ≡ Some e → (d : ℕ) × (o ≡ Some d) × (later_due c o ≡ Some (d + c))
due_before c e None h = let none : None ≡ Some e = h in cc
due_before c e (Some d) h = (d, refl, refl)

-- the number of an option is one
some_is : (a b : ℕ) → Some a ≡ Some b → a ≡ b
some_is a b h = cc

pub shifted_dues : ShiftedDuesShiftLatest
shifted_dues net due y c l t k in' o = record {
  attained = λ e.
      let w : IsDateToDue net due t k (y t k) = (l t k in' o).attained (λ q. e (ap (delayed c) q)) in
      record {
        to = w.to;
        number = w.number;
        due_date = w.due_date + c;
        steps = w.steps;
        walk = w.walk;
        is_due = ap (later_due c) w.is_due;
        is = delayed_either c (walk_time net w.steps) (y t k) ∙ (ap (delayed c) w.is ∙ date_later c w.due_date);
      };
  least = λ date w.
      let time : ℕ = walk_time net w.steps in
      let own = due_before c w.due_date (due w.to w.number) w.is_due in
      let d : ℕ = own.0 in
      let back : Date = earlier_by time (At (pos d)) in
      let low = (l t k in' o).least back (walk_to net due (λ s j. later_due c (due s j)) t k d date w own.1) in
      let sum : Some (d + c) ≡ Some w.due_date = sym own.2 ∙ w.is_due in
      let same : d + c ≡ w.due_date = some_is (d + c) w.due_date sum in
      let there : delayed time (delayed c back) ≡ delayed time date =
      delayed_either c time back ∙ (ap (delayed c) (earlier_delayed time (At (pos d))) ∙ (date_later c d ∙ (ap (λ n. At (pos n)) same ∙ sym w.is))) in
      at_most_trans (delayed c (y t k)) (delayed c back) date (delayed_rises c (y t k) back low)
      (delayed_back time (delayed c back) date (at_most_is (delayed time (delayed c back)) (delayed time date) there));
}
