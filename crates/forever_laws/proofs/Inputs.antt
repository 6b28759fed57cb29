-- The latest dates at the inputs alone are the latest inputs; each is a number from 0 on, or never.
use Rattle.std.proofs.Common.{ℕ, suc, ◌+◌, ◌<◌, ◌≤◌, ◌≡◌, ◌≢◌, Some, length, refl, arith, ⊎_elim, negsuc}
use Rattle.std.specs.Prelude.{pos}
use Rattle.std.proofs.lemmas.Bool.{cases_lt}
use Rattle.std.proofs.lemmas.Int.{ints}
use Rattle.std.proofs.lemmas.Option.{slice_get_past}
use Rattle.walk_times.specs.dioid.declared.dates.Date.{Date}
use Rattle.walk_times.specs.dioid.declared.dates.Date.TheVariants.{Early, At, Never}
use Rattle.walk_times.specs.dioid.Dates.{IsAtMostDate, delayed, later_of}
use Rattle.walk_times.proofs.dioid_proofs.DateOrder.{at_most_is, at_most_trans, delayed_rises, later_either, never_last}
use Rattle.teg_net.specs.Nets.{NetLists, HasEndsInRange, IsInput}
use Rattle.teg_net.specs.Circuits.{IsLive}
use Rattle.teg_net.specs.Walks.{Walks, walk_time}
use Rattle.teg_net.specs.ReadyDates.{start_date}
use Rattle.walk_times.specs.teg_model.Datings.{IsLeastUnder, at_input, system_of}
use Rattle.walk_times.specs.teg_model.Starts.{start_of_firing}
use Rattle.walk_times.specs.teg_model.WalkDates.{IsDateOfWalk}
use Rattle.walk_times.proofs.teg_model_proofs.LeastOver.{least_over}
use Rattle.walk_times.proofs.teg_model_proofs.LiveRanks.{live_is_ranked, live_ranks}
use Rattle.walk_times.proofs.teg_model_proofs.OfNet.{input_or_not, least_of, least_of_system}
use Rattle.walk_times.proofs.teg_model_proofs.GreatestWalks.{least_is_walk, not_before_ready}
use Rattle.walk_times.proofs.teg_model_proofs.Tokens.{not_before_zero}
use Rattle.walk_times.proofs.teg_model_proofs.WalkSteps.{walk_below}
use Rattle.walk_times.proofs.teg_model_proofs.DateFunctions.{Dating}
use Rattle.due_laws.specs.MeetingDueDates.{KeepsDues, inputs_at_zero}
use Rattle.due_laws.specs.LatestDates.{IsDateToDue, IsLatestDate}
use Rattle.due_laws.proofs.LatestDates.{Dues, kept_below, never_or_not, due_next, feasible_keeps, earlier_by, earlier_delayed}
use Rattle.forever_laws.specs.EndlessDues.{LatestAtInputsAreLatest, LatestDatesFromZero}

-- an input is a transition of the net
pub input_in : (net : NetLists) (t : ℕ) → IsInput net t → t < length net.transitions
input_in net t i =
    ⊎_elim
    (λ (l : t < length net.transitions). l)
    (λ (l : length net.transitions ≤ t). absurd (rw (slice_get_past net.transitions t l) at i))
    (cases_lt t (length net.transitions))

-- a latest date, delayed by the time of a walk to a due firing, comes no later than the due date
due_after : (net : NetLists) (due : Dues) (a s t k d : ℕ) (date : Date) (steps : _) → IsLatestDate net due a s date
    → Walks net a s steps t k → due t k ≡ Some d → IsAtMostDate (delayed (walk_time net steps) date) (At (pos d))
due_after net due a s t k d date steps l w h =
    let time : ℕ = walk_time net steps in
    let back : Date = earlier_by time (At (pos d)) in
    let there : IsDateToDue net due a s back = record { to = t; number = k; due_date = d; steps = steps; walk = w; is_due = h; is = earlier_delayed time (At (pos d)) } in
    at_most_trans (delayed time date) (delayed time back) (At (pos d)) (delayed_rises time date back (l.least back there))
    (at_most_is (delayed time back) (At (pos d)) (earlier_delayed time (At (pos d))))

-- no walk under these inputs makes a due firing late
meets_by_walks : (net : NetLists) → HasEndsInRange net → IsLive net → (due : Dues) (v x y : Dating) → IsLeastUnder net inputs_at_zero x
    → KeepsDues net due x → ((t k : ℕ) → IsInput net t → 1 ≤ k → IsLatestDate net due t k (v t k))
    → IsLeastUnder net v y → KeepsDues net due y
meets_by_walks net ends live due v x y zero keeps l least t k d in' o h =
    let ranks = live_ranks net ends live in
    let w : IsDateOfWalk net v t k (y t k) = (least_is_walk net v y (suc (suc (length net.transitions))) ranks.0 ends ranks.1 least t k in' o).reached in
    let time : ℕ = walk_time net w.steps in
    let along : IsAtMostDate (delayed time (x w.from w.number)) (x t k) =
    walk_below net x ends (feasible_keeps net inputs_at_zero x zero.feasible) w.steps w.from w.number t k w.from_in w.from_one w.walk in
    let kept : IsAtMostDate (x t k) (At (pos d)) = keeps t k d in' o h in
    let ready : IsAtMostDate (At (pos (start_date net w.from w.number))) (x w.from w.number) = not_before_ready net inputs_at_zero x zero.feasible w.from w.number w.from_in w.from_one in
    let first : IsAtMostDate (delayed time (At (pos (start_date net w.from w.number)))) (At (pos d)) =
    at_most_trans (delayed time (At (pos (start_date net w.from w.number)))) (x t k) (At (pos d))
    (at_most_trans (delayed time (At (pos (start_date net w.from w.number)))) (delayed time (x w.from w.number)) (x t k)
    (delayed_rises time (At (pos (start_date net w.from w.number))) (x w.from w.number) ready) along)
    kept in
    let second : IsAtMostDate (delayed time (at_input net w.from (v w.from w.number) Early)) (At (pos d)) =
    ⊎_elim
    (λ (e : IsInput net w.from × (at_input net w.from (v w.from w.number) Early ≡ v w.from w.number)).
    rw e.1 (due_after net due w.from w.number t k d (v w.from w.number) w.steps (l w.from w.number e.0 w.from_one) w.walk h))
    (λ (e : (at_input net w.from (v w.from w.number) Early ≡ Early) × (at_input net w.from (v w.from w.number) Early ≡ Early)). rw e.0 tt)
    (input_or_not net w.from (v w.from w.number) Early Early) in
    let both : IsAtMostDate (delayed time (start_of_firing net v w.from w.number)) (At (pos d)) =
    later_delayed time (At (pos (start_date net w.from w.number))) (at_input net w.from (v w.from w.number) Early) (At (pos d)) first second in
    rw w.is (rw w.starts both) where
      later_delayed : (h : ℕ) (a b c : Date) → IsAtMostDate (delayed h a) c → IsAtMostDate (delayed h b) c → IsAtMostDate (delayed h (later_of a b)) c
      later_delayed h a b c l m = ⊎_elim (λ e. rw e l) (λ e. rw e m) (later_either a b)

pub latest_at_inputs : LatestAtInputsAreLatest
latest_at_inputs net ends live due zero v l =
    let ranked = live_is_ranked net ends live in
    let x : Dating = zero.0 in
    let f = zero.1.feasible in
    let least : Dating = least_over (system_of net v) ranked.0 ranked.1 in
    let is_least : IsLeastUnder net v least = least_of_system net v least (least_of net v ranked.0 ranked.1 ranked.2) in
    record {
      inputs = record {
        from_zero = λ t k i o. at_most_trans (At (pos 0)) (x t k) (v t k) (not_before_zero net inputs_at_zero x f t k (input_in net t i) o)
            (kept_below net due inputs_at_zero x ends f zero.2 t k (v t k) (input_in net t i) o (l t k i o));
        never_fall = λ t k i o.
            ⊎_elim
            (λ (e : v t (k + 1) ≡ Never). rw e (never_last (v t k)))
            (λ (e : v t (k + 1) ≢ Never). (l t k i o).least (v t (k + 1)) (due_next net due t k (v t (k + 1)) ((l t (k + 1) i (omega arith)).attained e)))
            (never_or_not (v t (k + 1)));
      };
      meet = (least, is_least, meets_by_walks net ends live due v x least zero.1 zero.2 l is_least);
      latest = λ w u meets t k i o.
          at_most_trans (w t k) (meets.0 t k) (v t k) (meets.1.feasible.inputs t k o i)
          (kept_below net due w (meets.0) ends meets.1.feasible meets.2 t k (v t k) (input_in net t i) o (l t k i o));
    }

number_from : (d : Date) → IsAtMostDate (At (pos 0)) d → d ≢ Never → (m : ℕ) × (d ≡ At (pos m))
number_from Early l n = absurd l
number_from (At (pos m)) l n = (m, refl)
number_from (At (negsuc m)) l n = absurd (omega (arith, ints, l))
number_from Never l n = absurd (n refl)

pub latest_from_zero : LatestDatesFromZero
latest_from_zero net ends due zero t k d in' o l n =
    let x : Dating = zero.0 in
    let f = zero.1.feasible in
    number_from d (at_most_trans (At (pos 0)) (x t k) d (not_before_zero net inputs_at_zero x f t k in' o) (kept_below net due inputs_at_zero x ends f zero.2 t k d in' o l)) n
