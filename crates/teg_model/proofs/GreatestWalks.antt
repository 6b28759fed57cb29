-- The least date of a firing of a net is the greatest start plus time of the walks that end there.
use Rattle.std.proofs.Common.{ℕ, ◌<◌, ◌≤◌, ◌≡◌, length, get_or, refl, sym, ap, subst, ◌∙◌, arith, ⊎_elim}
use Rattle.std.specs.Prelude.{pos, Any}
use Rattle.std.proofs.lemmas.Int.{ints}
use Rattle.std.proofs.lemmas.List.{get_or_default}
use Rattle.dioid.specs.declared.dates.Date.{Date}
use Rattle.dioid.specs.declared.dates.Date.TheVariants.{Early, At}
use Rattle.dioid.specs.Dates.{IsAtMostDate, delayed}
use Rattle.dioid.proofs.DateOrder.{at_most_trans, at_most_is, same_by_at_most, delayed_rises, later_left, later_right, later_least}
use Rattle.teg_net.specs.declared.entries.Place.{Place}
use Rattle.teg_net.specs.Nets.{NetLists}
use Rattle.teg_net.specs.Circuits.{no_place}
use Rattle.teg_net.specs.ReadyDates.{ready_date, start_date}
use Rattle.teg_net.proofs.StartDates.{IsStartDate-start_date}
use Rattle.teg_net.specs.Walks.{walk_time}
use Rattle.teg_model.specs.Systems.{System}
use Rattle.teg_model.specs.LiveRanks.{AreRanks, HasEndsInRange}
use Rattle.teg_model.specs.Datings.{initial_date, IsFeasibleUnder, IsLeastUnder, at_input, system_of}
use Rattle.teg_model.specs.Starts.{IsNotBeforeStart, start_of_firing}
use Rattle.teg_model.specs.WalkDates.{IsFiringStart, IsGreatestOfWalks}
use Rattle.teg_model.proofs.LeastOver.{least_over}
use Rattle.teg_model.proofs.OfNet.{all_extended, release_below, feasible_in, least_of, least_is_over}
use Rattle.teg_model.proofs.Tokens.{available_first, place_keeps, not_before_zero}
use Rattle.teg_model.proofs.WalkSteps.{walk_below, feasible_keeps_in}
use Rattle.teg_model.proofs.SystemWalks.{reached_in, walks_below}
use Rattle.teg_model.proofs.DateFunctions.{Dating}

-- the start of a firing is not before its start in the system
pub start_not_before : (net : NetLists) (u : Dating) (t k : ℕ) → IsNotBeforeStart (system_of net u) t k (start_of_firing net u t k)
start_not_before net u t k =
    let first : ℕ = start_date net t k in
    let after : IsAtMostDate (At (pos first)) (start_of_firing net u t k) = later_left (At (pos first)) (at_input net t (u t k) Early) in
    let is = IsStartDate-start_date net t k in
    record {
      released = later_right (At (pos first)) (at_input net t (u t k) Early);
      tokens = all_extended net (λ p. p.to.index ≡ t → k ≤ p.tokens → IsAtMostDate (initial_date p k) (start_of_firing net u t k))
          (λ i d l q m. let low = is.late_enough i d l q m in at_most_trans (initial_date (get_or net.places i d) k) (At (pos first)) (start_of_firing net u t k) (omega (arith, ints, low)) after)
          (λ v q m. at_most_trans (At (pos 0)) (At (pos first)) (start_of_firing net u t k) (omega (arith, ints)) after);
    }

-- no firing of a feasible dating comes before the ready dates of the tokens that it takes
pub not_before_ready : (net : NetLists) (u x : Dating) → IsFeasibleUnder net u x → (t k : ℕ) → t < length net.transitions → 1 ≤ k → IsAtMostDate (At (pos (start_date net t k))) (x t k)
not_before_ready net u x f t k l o =
    ⊎_elim
    (λ (none : start_date net t k ≡ 0). rw none (not_before_zero net u x f t k l o))
    (λ (one : Any (λ p. (p.to.index ≡ t) × (k ≤ p.tokens) × (ready_date p k ≡ start_date net t k)) net.places).
    let p : Place = get_or net.places one.0 no_place in
    let is : p ≡ one.1 = get_or_default net.places one.0 no_place one.1 one.2 ∙ one.3 in
    let into : p.to.index ≡ t = ap (λ q. q.to.index) is ∙ one.4.0 in
    let few : k ≤ p.tokens = rw is one.4.1 in
    let date : ready_date p k ≡ start_date net t k = ap (λ q. ready_date q k) is ∙ one.4.2 in
    let keeps = place_keeps net u x f k o one.0 one.2 in
    let first = available_first initial_date x p k few in
    let there : IsAtMostDate (At (pos (ready_date p k))) (x t k) = rw into at (rw first at keeps) in
    subst (λ n. IsAtMostDate (At (pos n)) (x t k)) date there)
    (IsStartDate-start_date net t k).reached

-- nor is the start after the date of a feasible dating
pub start_below : (net : NetLists) (u x : Dating) → IsFeasibleUnder net u x → (t k : ℕ) → t < length net.transitions → 1 ≤ k → IsAtMostDate (start_of_firing net u t k) (x t k)
start_below net u x f t k l o =
    later_least (At (pos (start_date net t k))) (at_input net t (u t k) Early) (x t k)
    (not_before_ready net u x f t k l o)
    (release_below net t (u t k) (x t k) (f.inputs t k o))

start_is_below : (net : NetLists) (u x : Dating) → IsFeasibleUnder net u x → (t k : ℕ) (d : Date) → t < length net.transitions → 1 ≤ k → IsFiringStart net u t k d → IsAtMostDate d (x t k)
start_is_below net u x f t k d l o e = rw e (start_below net u x f t k l o)

pub least_is_walk : (net : NetLists) (u x : Dating) (bound : ℕ) (r : ℕ → ℕ) → HasEndsInRange net → AreRanks net.places bound r → IsLeastUnder net u x
    → (t k : ℕ) → t < length net.transitions → 1 ≤ k → IsGreatestOfWalks net u t k (x t k)
least_is_walk net u x bound r ends rr h t k l o =
    let s : System = system_of net u in
    let lo : Dating = least_over s bound r in
    let f = feasible_in net u x h.feasible in
    let w = reached_in net initial_date s.release bound r ends rr lo (least_of net u bound r rr) t k l o in
    let start : Date = start_of_firing net u w.from w.number in
    let time = walk_time net w.steps in
    let up : IsAtMostDate w.start start = w.starts.least start (start_not_before net u w.from w.number) in
    let is : x t k ≡ delayed time w.start = sym (least_is_over net u x bound r rr h t k l o) ∙ w.is in
    let low : IsAtMostDate (x t k) (delayed time start) =
    at_most_trans (x t k) (delayed time w.start) (delayed time start) (at_most_is (x t k) (delayed time w.start) is) (delayed_rises time w.start start up) in
    let high : IsAtMostDate (delayed time start) (x t k) =
    at_most_trans (delayed time start) (delayed time (x w.from w.number)) (x t k)
    (delayed_rises time start (x w.from w.number) (start_below net u x h.feasible w.from w.number w.from_in w.from_one))
    (walk_below net x ends (feasible_keeps_in net initial_date s.release x f) w.steps w.from w.number t k w.from_in w.from_one w.walk) in
    record {
      reached = record {
        from = w.from;
        number = w.number;
        steps = w.steps;
        start = start;
        from_in = w.from_in;
        from_one = w.from_one;
        walk = w.walk;
        starts = refl;
        is = same_by_at_most (x t k) (delayed time start) low high;
      };
      greatest = λ d v. walks_below net (IsFiringStart net u) initial_date s.release x ends f (start_is_below net u x h.feasible) t k d v;
    }
