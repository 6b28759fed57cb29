-- Least datings under later releases and under shifted ones, and feasible datings together.
use Rattle.std.proofs.Common.{ℕ, ◌+◌, ◌-◌, ◌<◌, ◌≤◌, ◌≡◌, get_or, refl, sym, ap, ◌∙◌, arith, ⊎_elim}
use Rattle.std.proofs.lemmas.Bool.{cases_lt}
use Rattle.teg_model.specs.dioid.declared.dates.Date.{Date}
use Rattle.teg_model.specs.dioid.Dates.{IsAtMostDate, later_of, earlier_of, delayed}
use Rattle.teg_model.proofs.dioid_proofs.DateOrder.{at_most_trans, delayed_rises, delayed_later, later_left, later_right, later_least, later_either, earlier_left, earlier_right, earlier_greatest}
use Rattle.teg_model.specs.teg_net.declared.entries.Place.{Place}
use Rattle.teg_model.specs.teg_net.Nets.{NetLists, IsInput}
use Rattle.teg_model.specs.Datings.{extended_places, available_at, initial_date, IsFeasibleUnder}
use Rattle.dating_laws.specs.OrderOfDatings.{LaterReleasesLaterDates, FeasibleDatingsMeet, FeasibleDatingsJoin, LeastDatingsJoin, NoShiftGrows}
use Rattle.teg_model.proofs.DateFunctions.{Dating}
use Rattle.teg_model.proofs.Delays.{delayed_twice}
use Rattle.teg_model.proofs.Tokens.{available_after, available_first}

-- the later of two datings
abbrev both : Dating → Dating → Dating
both x y = λ t k. later_of (x t k) (y t k)

-- the earlier of two datings
abbrev either : Dating → Dating → Dating
either x y = λ t k. earlier_of (x t k) (y t k)

-- the later of two dates after a hold is not after what neither is after
delayed_both : (h : ℕ) (a b c d : Date) → IsAtMostDate (delayed h a) c → IsAtMostDate (delayed h b) d → IsAtMostDate (delayed h (later_of a b)) (later_of c d)
delayed_both h a b c d l m =
    ⊎_elim
    (λ (e : later_of a b ≡ a). rw e (at_most_trans (delayed h a) c (later_of c d) l (later_left c d)))
    (λ (e : later_of a b ≡ b). rw e (at_most_trans (delayed h b) d (later_of c d) m (later_right c d)))
    (later_either a b)

available_both : (x y : Dating) (p : Place) (k : ℕ) (c d : Date) → IsAtMostDate (available_at x p k) c → IsAtMostDate (available_at y p k) d → IsAtMostDate (available_at (both x y) p k) (later_of c d)
available_both x y p k c d l m =
    ⊎_elim
    (λ (q : p.tokens < k).
    let a : Date = x p.from.index (k - p.tokens) in
    let b : Date = y p.from.index (k - p.tokens) in
    rw (available_after initial_date (both x y) p k (later_of a b) q refl)
    (delayed_both p.hold a b c d (rw (available_after initial_date x p k a q refl) at l) (rw (available_after initial_date y p k b q refl) at m)))
    (λ (q : k ≤ p.tokens).
    rw (available_first initial_date (both x y) p k q)
    (at_most_trans (initial_date p k) c (later_of c d) (rw (available_first initial_date x p k q) at l) (later_left c d)))
    (cases_lt p.tokens k)

available_either : (x y : Dating) (p : Place) (k : ℕ) (c d : Date) → IsAtMostDate (available_at x p k) c
    → IsAtMostDate (available_at y p k) d → IsAtMostDate (available_at (either x y) p k) (earlier_of c d)
available_either x y p k c d l m =
    ⊎_elim
    (λ (q : p.tokens < k).
    let a : Date = x p.from.index (k - p.tokens) in
    let b : Date = y p.from.index (k - p.tokens) in
    let low : IsAtMostDate (delayed p.hold (earlier_of a b)) c =
    at_most_trans (delayed p.hold (earlier_of a b)) (delayed p.hold a) c (delayed_rises p.hold (earlier_of a b) a (earlier_left a b))
    (rw (available_after initial_date x p k a q refl) at l) in
    let high : IsAtMostDate (delayed p.hold (earlier_of a b)) d =
    at_most_trans (delayed p.hold (earlier_of a b)) (delayed p.hold b) d (delayed_rises p.hold (earlier_of a b) b (earlier_right a b))
    (rw (available_after initial_date y p k b q refl) at m) in
    rw (available_after initial_date (either x y) p k (earlier_of a b) q refl) (earlier_greatest c d (delayed p.hold (earlier_of a b)) low high))
    (λ (q : k ≤ p.tokens).
    rw (available_first initial_date (either x y) p k q)
    (earlier_greatest c d (initial_date p k) (rw (available_first initial_date x p k q) at l) (rw (available_first initial_date y p k q) at m)))
    (cases_lt p.tokens k)

-- what is feasible under later releases is feasible under earlier ones
pub feasible_before : (net : NetLists) (u v y : Dating) → ((t k : ℕ) → 1 ≤ k → IsInput net t → IsAtMostDate (u t k) (v t k)) → IsFeasibleUnder net v y → IsFeasibleUnder net u y
feasible_before net u v y h f = record {
  places = f.places;
  inputs = λ t k o i. at_most_trans (u t k) (v t k) (y t k) (h t k o i) (f.inputs t k o i);
}

pub later_dates : LaterReleasesLaterDates
later_dates net u v x y h l m t k in' o = l.least y (feasible_before net u v y h m.feasible) t k in' o

pub feasible_meet : FeasibleDatingsMeet
feasible_meet net u x y f g = record {
  places = λ k o i d m. available_either x y (get_or (extended_places net) i d) k (x (get_or (extended_places net) i d).to.index k)
      (y (get_or (extended_places net) i d).to.index k) (f.places k o i d m) (g.places k o i d m);
  inputs = λ t k o i. earlier_greatest (x t k) (y t k) (u t k) (f.inputs t k o i) (g.inputs t k o i);
}

pub feasible_join : FeasibleDatingsJoin
feasible_join net u v x y f g = record {
  places = λ k o i d q. available_both x y (get_or (extended_places net) i d) k (x (get_or (extended_places net) i d).to.index k)
      (y (get_or (extended_places net) i d).to.index k) (f.places k o i d q) (g.places k o i d q);
  inputs = λ t k o i. later_least (u t k) (v t k) (later_of (x t k) (y t k))
      (at_most_trans (u t k) (x t k) (later_of (x t k) (y t k)) (f.inputs t k o i) (later_left (x t k) (y t k)))
      (at_most_trans (v t k) (y t k) (later_of (x t k) (y t k)) (g.inputs t k o i) (later_right (x t k) (y t k)));
}

pub least_join : LeastDatingsJoin
least_join net u v x y l m = record {
  feasible = feasible_join net u v x y l.feasible m.feasible;
  least = λ z f t k in' o. later_least (x t k) (y t k) (z t k)
      (l.least z (feasible_before net u (both u v) z (λ s j e i. later_left (u s j) (v s j)) f) t k in' o)
      (m.least z (feasible_before net v (both u v) z (λ s j e i. later_right (u s j) (v s j)) f) t k in' o);
}

-- two delays come in either order
pub delayed_either : (c h : ℕ) (a : Date) → delayed h (delayed c a) ≡ delayed c (delayed h a)
delayed_either c h a =
    let turned : c + h ≡ h + c = omega arith in
    sym (delayed_twice c h a) ∙ (ap (λ n. delayed n a) turned ∙ delayed_twice h c a)

-- a dating so much later
abbrev shifted : ℕ → Dating → Dating
shifted c x = λ t k. delayed c (x t k)

-- a token is available at most so much later in the dating so much later
available_shifted : (c : ℕ) (x : Dating) (p : Place) (k : ℕ) (d : Date) → IsAtMostDate (available_at x p k) d → IsAtMostDate (available_at (shifted c x) p k) (delayed c d)
available_shifted c x p k d l =
    ⊎_elim
    (λ (q : p.tokens < k).
    let a : Date = x p.from.index (k - p.tokens) in
    let low : IsAtMostDate (delayed p.hold a) d = rw (available_after initial_date x p k a q refl) at l in
    rw (available_after initial_date (shifted c x) p k (delayed c a) q refl, delayed_either c p.hold a) (delayed_rises c (delayed p.hold a) d low))
    (λ (q : k ≤ p.tokens).
    rw (available_first initial_date (shifted c x) p k q)
    (at_most_trans (initial_date p k) d (delayed c d) (rw (available_first initial_date x p k q) at l) (delayed_later c d)))
    (cases_lt p.tokens k)

pub no_shift_grows : NoShiftGrows
no_shift_grows net c u v x y h l m t k in' o =
    m.least (shifted c x)
    (record {
      places = λ j e i d q. available_shifted c x (get_or (extended_places net) i d) j (x (get_or (extended_places net) i d).to.index j) (l.feasible.places j e i d q);
      inputs = λ s j e i. at_most_trans (v s j) (delayed c (u s j)) (delayed c (x s j)) (h s j e i) (delayed_rises c (u s j) (x s j) (l.feasible.inputs s j e i));
    })
    t k in' o
