-- The slope of a transition whose dates grow by a step in each period.
use Rattle.std.proofs.Common.{ℕ, zero, suc, ◌+◌, ◌*◌, ◌<◌, ◌≤◌, ◌≡◌, ◌≢◌, ◌⊎◌, List, [], ◌∷◌, length, ap, subst, ◌∙◌, arith, inl, inr, ⊎_elim}
use Rattle.std.specs.Prelude.{pos}
use Rattle.std.proofs.lemmas.Bool.{cases_eq}
use Rattle.std.proofs.lemmas.Int.{ints}
use Rattle.settled_laws.specs.dioid.declared.dates.Date.{Date}
use Rattle.settled_laws.specs.dioid.declared.dates.Date.TheVariants.{At}
use Rattle.settled_laws.specs.dioid.Dates.{IsAtMostDate, delayed}
use Rattle.settled_laws.proofs.dioid_proofs.DateOrder.{at_most_trans}
use Rattle.settled_laws.specs.teg_net.declared.entries.PlaceId.{PlaceId}
use Rattle.settled_laws.specs.teg_net.declared.entries.Again.{Again}
use Rattle.settled_laws.specs.teg_net.declared.entries.InputList.{InputList}
use Rattle.settled_laws.specs.teg_net.Limits.{greatest_every, most_input_dates}
use Rattle.settled_laws.specs.teg_net.Nets.{NetLists, HasEndsInRange, HasListsOfInputs, HasListsByRule}
use Rattle.settled_laws.specs.teg_net.Inputs.{input_date}
use Rattle.settled_laws.specs.teg_net.Circuits.{no_place, IsPathBetween, IsLive, time_of, tokens_of}
use Rattle.teg_loops.specs.Loops.{IsCircuitTowards}
use Rattle.settled_laws.specs.teg_model.Datings.{IsLeastDating, listed_releases, as_date}
use Rattle.settled_laws.proofs.teg_net_proofs.Bounds.{date_bound}
use Rattle.settled_laws.proofs.teg_model_proofs.OfNet.{feasible_in}
use Rattle.settled_laws.proofs.teg_model_proofs.Tokens.{not_before_zero, dates_climb}
use Rattle.settled_laws.proofs.teg_model_proofs.WalkSteps.{Keeps, feasible_keeps_in}
use Rattle.settled_laws.specs.teg_model.Datings.{initial_date, system_of}
use Rattle.slope_laws.specs.Slopes.{IsGoingOnTowards, IsSlope}
use Rattle.slope_laws.proofs.BestWalks.{GoesBy, Tight, go_round_or}
use Rattle.slope_laws.proofs.EndedLists.{rule_in, input_of, dates_by_list, rule_of, list_grows}
use Rattle.slope_laws.proofs.Lower.{lower, carried, round_grows}
use Rattle.slope_laws.proofs.Starts.{KeepsUp, start_behind}

-- the dates of b past number `after` are numbers, and grow by this step in each period
pub record GrowsBy (x : ℕ → ℕ → Date) (b after period step : ℕ) : Type 0 where
  pub some : 1 ≤ period
  pub date : ℕ
  pub first : x b (after + 1) ≡ At (pos date)
  pub again : (k : ℕ) → after < k → x b (k + period) ≡ delayed step (x b k)

-- what a least dating carries along steps
pub least_keeps : (net : NetLists) (x : ℕ → ℕ → Date) → IsLeastDating net x → Keeps net x
least_keeps net x h = feasible_keeps_in net initial_date (system_of net (listed_releases net)).release x (feasible_in net (listed_releases net) x h.feasible)

-- the dates some periods on
goes_by : (x : ℕ → ℕ → Date) (b after nu step : ℕ) → (g : GrowsBy x b after nu step) → GoesBy x b (after + 1) nu g.date step
goes_by x b after nu step g zero =
    let is : (after + 1) + 0 * nu ≡ after + 1 = grind arith in
    let none : g.date + 0 * step ≡ g.date = grind arith in
    rw (is, none) g.first
goes_by x b after nu step g (suc j) =
    let is : (after + 1) + suc j * nu ≡ ((after + 1) + j * nu) + nu = grind arith in
    let more : (g.date + j * step) + step ≡ g.date + suc j * step = grind arith in
    rw is (g.again ((after + 1) + j * nu) (omega arith) ∙ (ap (delayed step) (goes_by x b after nu step g j) ∙ ap At (omega (arith, ints, more))))

attained_at : (net : NetLists) → HasEndsInRange net → HasListsOfInputs net → HasListsByRule net → IsLive net → (x : ℕ → ℕ → Date) → IsLeastDating net x → (b after nu step : ℕ) → b < length net.transitions → GrowsBy x b after nu step
    → (step ≡ 0) ⊎ (Tight net b nu step) ⊎ KeepsUp net b nu step
attained_at net ends inputs rules live x h b after nu step l g =
    ⊎_elim
    (λ (e : step ≡ 0). inl e)
    (λ (e : step ≢ 0).
    inr (go_round_or net ends live (listed_releases net) x h b (after + 1) nu g.date step greatest_every
    (most_input_dates + greatest_every * (nu * date_bound net)) l (omega arith) g.some (omega arith) (omega arith) (goes_by x b after nu step g)
    (λ a s date in' o reaches start. start_behind net inputs rules b nu step (omega arith) a s date o reaches start)))
    (cases_eq step 0)

-- a circuit is at a transition of the net
towards_in : (net : NetLists) → HasEndsInRange net → (ps : List PlaceId) (a : ℕ) → IsPathBetween net a ps a → 0 < length ps → a < length net.transitions
towards_in net ends [] a h l = absurd (omega arith)
towards_in net ends (p ∷ ps) a h l = subst (λ n. n < length net.transitions) h.1 (ends p.index no_place h.0).0

pub slopes_are_greatest : (net : NetLists) → HasEndsInRange net → HasListsOfInputs net → HasListsByRule net → IsLive net → (x : ℕ → ℕ → Date) → IsLeastDating net x
    → (b after period step : ℕ) → b < length net.transitions → GrowsBy x b after period step → IsSlope net b period step
slopes_are_greatest net ends inputs rules live x h b after nu step l g =
    let f = h.feasible in
    let c : Keeps net x = least_keeps net x h in
    let goes = goes_by x b after nu step g in
    let climbs : (s : ℕ) → 1 ≤ s → IsAtMostDate (x b s) (x b (s + 1)) = λ s o. dates_climb net (listed_releases net) x f b s l o in
    let circuits : (ps : List PlaceId) → IsCircuitTowards net b ps → nu * time_of net ps ≤ step * tokens_of net ps = λ ps t.
    (let a_in = towards_in net ends ps t.at t.round t.circuit.not_empty in
    let first = not_before_zero net (listed_releases net) x f t.at 1 a_in (omega arith) in
    lower x b (after + 1) nu g.date step (1 + tokens_of net t.towards.0) (time_of net ps) (tokens_of net ps) climbs (omega arith) g.some (omega arith) goes
    (carried net x c t.towards.0 t.at b 1 (time_of net ps) (tokens_of net ps) (omega arith) t.towards.1 (round_grows net x c ps t.at t.round first))) in
    let lists : (list : InputList) (again : Again) → IsGoingOnTowards net b list again → nu * again.gap ≤ step * again.every = λ list again w.
    (let rule = rule_of list.dates list.again again w.goes_on (rule_in net list rules w.of_net) in
    let s : ℕ = length list.dates in
    lower x b (after + 1) nu g.date step (s + tokens_of net w.reaches.0) again.gap again.every climbs (omega arith) g.some (omega (arith, rule.some, rule.enough)) goes
    (carried net x c w.reaches.0 list.transition.index b s again.gap again.every (omega (arith, rule.some, rule.enough)) w.reaches.1
    (λ i.
    let v = list_grows list again (input_date net list.transition.index) (dates_by_list net list inputs rules w.of_net) w.goes_on rule i in
    let below = f.inputs list.transition.index (s + i * again.every) (omega (arith, rule.some, rule.enough)) (input_of net list inputs w.of_net) in
    let is : listed_releases net list.transition.index (s + i * again.every) ≡ At (pos v.0) = ap as_date v.1 in
    at_most_trans (At (pos (i * again.gap))) (At (pos v.0)) (x list.transition.index (s + i * again.every)) (omega (arith, ints, v.2)) (rw is at below)))) in
    record {
      circuits = circuits;
      lists = lists;
      attained =
          ⊎_elim
          (λ (e : step ≡ 0). inl e)
          (λ other. inr (⊎_elim
          (λ (t : Tight net b nu step). inl (t.0, t.1, omega (arith, t.2, circuits t.0 t.1)))
          (λ (k : KeepsUp net b nu step). inr (k.0, k.1, k.2, omega (arith, k.3, lists k.0 k.1 k.2)))
          other))
          (attained_at net ends inputs rules live x h b after nu step l g);
    }
