-- The walk by the steps of a plan.
use Rattle.std.proofs.Common.{ℕ, zero, suc, ◌+◌, ◌<◌, ◌≤◌, ◌≡◌, ◌≢◌, List, [], ◌∷◌, ◌++◌, length, get_or, refl, sym, ap, subst, ◌∙◌, arith, ⊎_elim, append_assoc, append-nil}
use Rattle.std.specs.Prelude.{pos, Option, Some, None, All, unwrap_or, ⊤}
use Rattle.std.proofs.lemmas.Bool.{cases_lt}
use Rattle.std.proofs.lemmas.Int.{ints}
use Rattle.std.proofs.lemmas.List.Sums.{sum_by-cons}
use Rattle.date_rows.specs.dioid.declared.dates.Date.TheVariants.{At as on_date, Never}
use Rattle.date_rows.specs.dioid.Dates.{delayed}
use Rattle.date_rows.proofs.dioid_proofs.DateOrder.{at_most_is}
use Rattle.teg_net.specs.declared.entries.PlaceId.{PlaceId}
use Rattle.teg_net.specs.declared.entries.Place.{Place}
use Rattle.teg_net.specs.declared.walks.Step.{Step}
use Rattle.teg_net.specs.declared.walks.Step.TheVariants.{By as by_place, Next as to_next}
use Rattle.teg_net.specs.declared.walks.Walk.{Walk}
use Rattle.teg_net.specs.Nets.{NetLists, HasEndsInRange}
use Rattle.teg_net.specs.Circuits.{no_place, place_at}
use Rattle.teg_net.specs.Walks.{Walks, numbers_of, step_time, walk_time}
use Rattle.date_rows.proofs.teg_model_proofs.Delays.{delayed_twice, delayed_not}
use Rattle.date_rows.proofs.teg_model_proofs.WalkSteps.{walk_append, walk_time-append}
use Rattle.teg_jit.specs.declared.answers.Onward.{Onward}
use Rattle.teg_jit.specs.declared.answers.Onward.TheVariants.{Due, By, Next}
use Rattle.teg_jit.specs.declared.answers.LatestDate.{LatestDate}
use Rattle.teg_jit.specs.declared.answers.LatestDate.TheVariants.{Free, At}
use Rattle.due_laws.specs.LatestDates.{IsTightWalk}
use Rattle.teg_jit.specs.FirstSteps.{IsFirstStep, first_step_of}
use Rattle.teg_jit.specs.PlansAndLateness.{PlansLead}
use Rattle.teg_jit.specs.Plans.{date_or_never, dates_of_plan, latest_at, HasOnward, PlanDates, KeepsSizes, IsPlanFor, FollowsPlan}
use Rattle.teg_jit.proofs.TableCells.{past_last}
use Rattle.date_rows.proofs.teg_model_proofs.LiveRanks.{rank_bound, rank_in, ranks_in}
use Rattle.teg_jit.proofs.Tight.{distance, nearer, number_there}

-- the steps so far lead from firing k of transition t to a firing that is not free, and the dates at both ends are as far apart as their time
pub record WalkedTo (net : NetLists) (plan : PlanDates) (t k : ℕ) (steps : List Step) (at count : ℕ) : Type 0 where
  pub at_in : at < plan.width
  pub from_one : 1 ≤ count
  pub to_last : count ≤ plan.numbers
  pub date : ℕ
  pub there : dates_of_plan plan at count ≡ on_date (pos date)
  pub leads : Walks net t k steps at count
  pub time : delayed (walk_time net steps) (dates_of_plan plan t k) ≡ on_date (pos date)
  pub follows : (rest : List Step) → FollowsPlan net plan at count rest → FollowsPlan net plan t k (steps ++ rest)

-- what is not free has a date
not_free : (b : LatestDate) → b ≢ Free → (d : ℕ) × (date_or_never b ≡ on_date (pos d))
not_free Free h = absurd (h refl)
not_free (At d o) h = (d, refl)

pub walk_begins : (net : NetLists) (plan : PlanDates) (t k : ℕ) → t < plan.width → 1 ≤ k → k ≤ plan.numbers → latest_at plan t k ≢ Free → WalkedTo net plan t k [] t k
walk_begins net plan t k l o m h =
    let d = not_free (latest_at plan t k) h in
    record { at_in = l; from_one = o; to_last = m; date = d.0; there = d.1; leads = (refl, refl); time = delayed_not (dates_of_plan plan t k) ∙ d.1; follows = λ rest f. f }

-- where the step leads, and that it is nearer to the end
pub record IsStepTo (net : NetLists) (plan : PlanDates) (t k : ℕ) (steps : List Step) (step : Step) (at count next number : ℕ) : Type 0 where
  pub walked : WalkedTo net plan t k (steps ++ step ∷ []) next number
  pub smaller : distance plan.numbers (rank_bound net) (rank_in net) next number < distance plan.numbers (rank_bound net) (rank_in net) at count

-- a firing with a date is one of the plan's numbers
pub in_numbers : (plan : PlanDates) (t k d : ℕ) → KeepsSizes plan → dates_of_plan plan t k ≡ on_date (pos d) → k ≤ plan.numbers
in_numbers plan t k d is there =
    ⊎_elim
    (λ (q : plan.numbers < k). absurd (at_most_is Never (on_date (pos d)) (sym (ap date_or_never (past_last plan.width plan.numbers plan.dates t k is.full q)) ∙ there)))
    (λ (q : k ≤ plan.numbers). q)
    (cases_lt plan.numbers k)

-- ---- one step more

abbrev IsNoStep : Option Step → Type 0
IsNoStep None = ⊤
IsNoStep (Some s) = ⊥

step_is : (a b : Step) → Some a ≡ Some b → a ≡ b
step_is a b e = ap (λ o. unwrap_or o a) e

none_is_no_step : (a : Step) → None ≡ Some a → ⊥
none_is_no_step a e = subst IsNoStep e tt

pub next_step : (net : NetLists) (plan : PlanDates) (due : ℕ → ℕ → Option ℕ) (t k : ℕ) (steps : List Step) (at count : ℕ) → HasEndsInRange net
    → KeepsSizes plan → IsPlanFor net due plan → WalkedTo net plan t k steps at count
    → (d : ℕ) → latest_at plan at count ≡ At d Next → IsStepTo net plan t k steps to_next at count at (count + 1)
next_step net plan due t k steps at count ends is for h d here =
    let rr = ranks_in net ends for.live in
    let w = for.width in
    let onward : HasOnward net due (dates_of_plan plan) at count (At d Next) = rw here at (rw (← w) at (for.onward at count (rw w at h.at_in) h.from_one)) in
    let same : on_date (pos d) ≡ on_date (pos h.date) = ap date_or_never (sym here) ∙ h.there in
    let last : List Step = to_next ∷ [] in
    let one : walk_time net last ≡ 0 + 0 = sum_by-cons (step_time net) to_next [] in
    let time : walk_time net (steps ++ last) ≡ walk_time net steps = omega (arith, walk_time-append net steps last, one) in
    let there : dates_of_plan plan at (count + 1) ≡ on_date (pos h.date) = onward.0 ∙ same in
    record {
      walked = record {
        at_in = h.at_in;
        from_one = omega arith;
        to_last = in_numbers plan at (count + 1) h.date is there;
        date = h.date;
        there = there;
        leads = walk_append net steps last t k at count at (count + 1) h.leads (refl, refl);
        time = ap (λ n. delayed n (dates_of_plan plan t k)) time ∙ h.time;
        follows = λ rest f. subst (λ z. FollowsPlan net plan t k z) (sym (append_assoc steps last rest)) (h.follows (to_next ∷ rest) (d, here, f));
      };
      smaller = nearer plan.numbers (rank_bound net) count (count + 1) (rank_in net at) (rank_in net at) h.to_last (rr.below at) (rr.below at) (omega arith) (λ e. absurd (omega arith));
    }

pub place_step : (net : NetLists) (plan : PlanDates) (due : ℕ → ℕ → Option ℕ) (t k : ℕ) (steps : List Step) (at count : ℕ) → HasEndsInRange net
    → KeepsSizes plan → IsPlanFor net due plan → WalkedTo net plan t k steps at count
    → (d : ℕ) (p : PlaceId) → latest_at plan at count ≡ At d (By p) → IsStepTo net plan t k steps (by_place p) at count (place_at net p).to.index (count + (place_at net p).tokens)
place_step net plan due t k steps at count ends is for h d p here =
    let rr = ranks_in net ends for.live in
    let w = for.width in
    let onward : HasOnward net due (dates_of_plan plan) at count (At d (By p)) = rw here at (rw (← w) at (for.onward at count (rw w at h.at_in) h.from_one)) in
    let place : Place = place_at net p in
    let same : on_date (pos h.date) ≡ on_date (pos d) = sym h.there ∙ ap date_or_never here in
    let last : List Step = by_place p ∷ [] in
    let one : walk_time net last ≡ place.hold + 0 = sum_by-cons (step_time net) (by_place p) [] in
    let time : walk_time net (steps ++ last) ≡ walk_time net steps + place.hold = omega (arith, walk_time-append net steps last, one) in
    let sum : on_date (pos (d + place.hold)) ≡ delayed place.hold (on_date (pos d)) = ap on_date (omega (arith, ints)) in
    let from : rank_in net place.from.index ≡ rank_in net at = ap (rank_in net) onward.1 in
    let rises : place.tokens ≡ 0 → rank_in net place.from.index < rank_in net place.to.index = rr.rise p.index no_place onward.0 in
    record {
      walked = record {
        at_in = rw w (ends p.index no_place onward.0).1;
        from_one = omega (arith, h.from_one);
        to_last = in_numbers plan place.to.index (count + place.tokens) (d + place.hold) is onward.2;
        date = d + place.hold;
        there = onward.2;
        leads = walk_append net steps last t k at count place.to.index (count + place.tokens) h.leads (onward.0, onward.1, (refl, refl));
        time = ap (λ n. delayed n (dates_of_plan plan t k)) time ∙ (delayed_twice (walk_time net steps) place.hold (dates_of_plan plan t k) ∙ (ap (delayed place.hold) (h.time ∙ same) ∙ sym sum));
        follows = λ rest f. subst (λ z. FollowsPlan net plan t k z) (sym (append_assoc steps last rest)) (h.follows (by_place p ∷ rest) (d, here, f));
      };
      smaller = nearer plan.numbers (rank_bound net) count (count + place.tokens) (rank_in net at)
          (rank_in net place.to.index) h.to_last (rr.below at) (rr.below place.to.index) (omega arith) (λ e. rw from at (rises (omega arith)));
    }

abbrev place_or : PlaceId → Step → PlaceId
place_or d (by_place p) = p
place_or d to_next = d

abbrev IsByPlace : Step → Type 0
IsByPlace (by_place p) = ⊤
IsByPlace to_next = ⊥

by_is_not_next : (p : PlaceId) → by_place p ≡ to_next → ⊥
by_is_not_next p e = subst IsByPlace e tt

onward_by : (o : Onward) (p : PlaceId) → Some (by_place p) ≡ first_step_of o → o ≡ By p
onward_by Due p e = absurd (none_is_no_step (by_place p) (sym e))
onward_by (By q) p e = ap (λ s. By (place_or q s)) (sym (step_is (by_place p) (by_place q) e))
onward_by Next p e = absurd (by_is_not_next p (step_is (by_place p) to_next e))

onward_next : (o : Onward) → Some to_next ≡ first_step_of o → o ≡ Next
onward_next Due e = absurd (none_is_no_step to_next (sym e))
onward_next (By q) e = absurd (by_is_not_next q (sym (step_is to_next (by_place q) e)))
onward_next Next e = refl

pub step_by : (b : LatestDate) (p : PlaceId) → IsFirstStep b (Some (by_place p)) → (d : ℕ) × (b ≡ At d (By p))
step_by Free p h = absurd (none_is_no_step (by_place p) (sym h))
step_by (At d o) p h = (d, ap (At d) (onward_by o p h))

pub step_next : (b : LatestDate) → IsFirstStep b (Some to_next) → (d : ℕ) × (b ≡ At d Next)
step_next Free h = absurd (none_is_no_step to_next (sym h))
step_next (At d o) h = (d, ap (At d) (onward_next o h))

-- a first step by a place, which is one of the net
pub steps_by : (net : NetLists) (plan : PlanDates) (due : ℕ → ℕ → Option ℕ) (t k : ℕ) (steps : List Step) (at count : ℕ) → HasEndsInRange net
    → KeepsSizes plan → IsPlanFor net due plan → WalkedTo net plan t k steps at count → (p : PlaceId) → IsFirstStep (latest_at plan at count) (Some (by_place p))
    → (p.index < length net.places) × IsStepTo net plan t k steps (by_place p) at count (place_at net p).to.index (count + (place_at net p).tokens)
steps_by net plan due t k steps at count ends is for h p step =
    let here = step_by (latest_at plan at count) p step in
    let w = for.width in
    let onward : HasOnward net due (dates_of_plan plan) at count (At here.0 (By p)) = rw here.1 at (rw (← w) at (for.onward at count (rw w at h.at_in) h.from_one)) in
    (onward.0, place_step net plan due t k steps at count ends is for h here.0 p here.1)

-- ---- the end

one_below : (s k i d : ℕ) → s ≤ k → i < length (s ∷ []) → get_or (s ∷ []) i d ≤ k
one_below s k zero d l m = l
one_below s k (suc i) d l m = absurd (omega arith)

more_below : (s k : ℕ) (ns : List ℕ) → s ≤ k → All (λ n. n ≤ k) ns → All (λ n. n ≤ k) (s ∷ ns)
more_below s k ns l h zero d m = l
more_below s k ns l h (suc i) d m = h i d (omega arith)

no_step : (o : Onward) → None ≡ first_step_of o → o ≡ Due
no_step Due e = refl
no_step (By p) e = absurd (none_is_no_step (by_place p) e)
no_step Next e = absurd (none_is_no_step to_next e)

-- the numbers of a walk are at most that of its end
numbers_to : (net : NetLists) (steps : List Step) (a s b k : ℕ) → Walks net a s steps b k → All (λ n. n ≤ k) (numbers_of net s steps) × (s ≤ k)
numbers_to net [] a s b k h = (λ i d l. one_below s k i d (omega (arith, h.1)) l, omega (arith, h.1))
numbers_to net (by_place p ∷ steps) a s b k h =
    let rest = numbers_to net steps (place_at net p).to.index (s + (place_at net p).tokens) b k h.2 in
    (more_below s k (numbers_of net (s + (place_at net p).tokens) steps) (omega (arith, rest.1)) rest.0, omega (arith, rest.1))
numbers_to net (to_next ∷ steps) a s b k h =
    let rest = numbers_to net steps a (s + 1) b k h in
    (more_below s k (numbers_of net (s + 1) steps) (omega (arith, rest.1)) rest.0, omega (arith, rest.1))

pub walk_is_tight : (net : NetLists) (plan : PlanDates) (due : ℕ → ℕ → Option ℕ) (t k : ℕ) (at count : ℕ) (w : Walk)
    → KeepsSizes plan → IsPlanFor net due plan → WalkedTo net plan t k w.steps.items at count
    → t < plan.width → 1 ≤ k → IsFirstStep (latest_at plan at count) None → w.start.index ≡ t → w.number ≡ k → IsTightWalk net due t k (dates_of_plan plan t k) w
walk_is_tight net plan due t k at count w is for h l o last start number =
    let wide = for.width in
    let there = number_there (latest_at plan at count) h.date h.there in
    let is_due : there.0 ≡ Due = no_step there.0 (rw there.1 at last) in
    let here : latest_at plan at count ≡ At h.date Due = there.1 ∙ ap (At h.date) is_due in
    let onward : HasOnward net due (dates_of_plan plan) at count (At h.date Due) = rw here at (rw (← wide) at (for.onward at count (rw wide at h.at_in) h.from_one)) in
    let numbers = (numbers_to net w.steps.items t k at count h.leads).0 in
    let few = is.numbers_in in
    record {
      is_walk = record {
        start_in = rw (start, ← wide) l;
        number_in = rw number o;
        steps = (at, count, rw (start, number) h.leads);
        numbers = rw number (λ i d m. let low = numbers i d m in omega (arith, h.to_last, low));
      };
      from = start;
      number = number;
      leads = (at, count, h.date, h.leads, onward, h.time);
    }

-- the walk that the steps give
pub follows_to_end : (net : NetLists) (plan : PlanDates) (t k : ℕ) (steps : List Step) (at count : ℕ)
    → WalkedTo net plan t k steps at count → IsFirstStep (latest_at plan at count) None → FollowsPlan net plan t k steps
follows_to_end net plan t k steps at count h last =
    let there = number_there (latest_at plan at count) h.date h.there in
    let is_due : there.0 ≡ Due = no_step there.0 (rw there.1 at last) in
    let here : latest_at plan at count ≡ At h.date Due = there.1 ∙ ap (At h.date) is_due in
    subst (λ z. FollowsPlan net plan t k z) (append-nil steps) (h.follows [] (h.date, here))

abbrev LeadsOn : NetLists → PlanDates → (ℕ → ℕ → Option ℕ) → ℕ → ℕ → Type 0
LeadsOn net plan due t k = (steps : List Step) × FollowsPlan net plan t k steps × (b : ℕ) × (n : ℕ) × (d : ℕ) × Walks net t k steps b n
    × (due b n ≡ Some d) × (delayed (walk_time net steps) (dates_of_plan plan t k) ≡ on_date (pos d))

lead : (net : NetLists) (plan : PlanDates) (due : ℕ → ℕ → Option ℕ) → HasEndsInRange net → KeepsSizes plan → IsPlanFor net due plan
    → (fuel t k : ℕ) (steps : List Step) (at count : ℕ) → WalkedTo net plan t k steps at count
    → distance plan.numbers (rank_bound net) (rank_in net) at count < fuel → LeadsOn net plan due t k
lead net plan due ends is for zero t k steps at count h l = absurd (omega (arith, l))
lead net plan due ends is for (suc fuel) t k steps at count h l =
    let there = number_there (latest_at plan at count) h.date h.there in
    by_onward (λ s a c w m. lead net plan due ends is for fuel t k s a c w m) there.0 there.1 where
      by_onward : ((s : List Step) (a c : ℕ) → WalkedTo net plan t k s a c
          → distance plan.numbers (rank_bound net) (rank_in net) a c < fuel → LeadsOn net plan due t k) → (o : Onward)
          → latest_at plan at count ≡ At h.date o → LeadsOn net plan due t k
      by_onward again Due e =
          let wide = for.width in
          let onward : HasOnward net due (dates_of_plan plan) at count (At h.date Due) = rw e at (rw (← wide) at (for.onward at count (rw wide at h.at_in) h.from_one)) in
          (steps, follows_to_end net plan t k steps at count h (rw e refl), at, count, h.date, h.leads, onward, h.time)
      by_onward again (By p) e =
          let on = place_step net plan due t k steps at count ends is for h h.date p e in
          again (steps ++ by_place p ∷ []) (place_at net p).to.index (count + (place_at net p).tokens) on.walked (omega (arith, on.smaller, l))
      by_onward again Next e =
          let on = next_step net plan due t k steps at count ends is for h h.date e in
          again (steps ++ to_next ∷ []) at (count + 1) on.walked (omega (arith, on.smaller, l))

pub plans_lead : PlansLead
plans_lead net ends plan is due for t k l o m h = lead net plan due ends is for (suc (distance plan.numbers (rank_bound net) (rank_in net) t k)) t k [] t k (walk_begins net plan t k l o m h) (omega arith)
