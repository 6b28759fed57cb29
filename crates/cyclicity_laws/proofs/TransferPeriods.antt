-- The greatest times of walks from one transition to another repeat by each number that is common by the parts between.
use Rattle.std.proofs.Common.{ℕ, zero, suc, ℤ, pos, ◌+◌, ◌-◌, ◌*◌, ◌<◌, ◌≤◌, ◌≡◌, List, ◌++◌, length, refl, sym, ap, subst, ◌∙◌, arith, ⊎_elim, ◌+ℤ◌}
use Rattle.std.specs.Prelude.{negsuc}
use Rattle.std.proofs.lemmas.Bool.{cases_lt}
use Rattle.std.proofs.lemmas.Int.{ints}
use Rattle.std.proofs.lemmas.List.Sums.{sum_by-append}
use Rattle.std.proofs.lemmas.Nat.Gcd.{dvd_trans}
use Rattle.std.proofs.Math.Nat.{mul-le-mul_left, mul-le-mul_right}
use Rattle.bound_laws.specs.dioid.declared.dates.Date.{Date}
use Rattle.bound_laws.specs.dioid.declared.dates.Date.TheVariants.{Early, At}
use Rattle.bound_laws.specs.dioid.Dates.{IsAtMostDate, delayed, move}
use Rattle.periodic_laws.proofs.dioid_proofs.DateOrder.{at_most_is, same_by_at_most}
use Rattle.periodic_laws.proofs.dioid_proofs.Moves.{delayed_is_move}
use Rattle.bound_laws.specs.teg_net.declared.entries.PlaceId.{PlaceId}
use Rattle.bound_laws.specs.teg_net.declared.walks.Step.{Step}
use Rattle.bound_laws.specs.teg_net.Nets.{NetLists, HasEndsInRange}
use Rattle.bound_laws.specs.teg_net.Circuits.{no_place, place_at, IsPathBetween, IsCircuit, IsLive, time_of, tokens_of}
use Rattle.bound_laws.specs.teg_net.Parts.{Reaches}
use Rattle.bound_laws.specs.teg_net.Walks.{Walks, walk_time}
use Rattle.bound_laws.specs.settled_laws.SettledForms.{SettledForm, step_of_form}
use Rattle.bound_laws.proofs.teg_net_proofs.PathLaws.{IsPathBetween-append}
use Rattle.bound_laws.proofs.teg_loops_proofs.Taking.{loop_sum, by_loops, sum_most}
use Rattle.bound_laws.proofs.teg_loops_proofs.Visits.{FirstVisit, first_visit, rounds, rounds_lead, rounds_sum}
use Rattle.bound_laws.proofs.Onward.{PutIn, put_in, start_in}
use Rattle.growth_laws.proofs.number_laws_proofs.Numbers.{some_of}
use Rattle.growth_laws.proofs.Growth.{cancel, unit, on, near}
use Rattle.periodic_laws.specs.LinearSystem.{SystemsSettle}
use Rattle.bound_laws.proofs.teg_net_proofs.Bounds.{hold_bound, holds_bounded}
use Rattle.bound_laws.proofs.teg_loops_proofs.Ends.{ends_below}
use Rattle.slope_laws.proofs.WalkPaths.{IsPathOf, walk_path}
use Rattle.walk_times.specs.Transfers.{IsGreatestWalkTime, AreWalkTimes}
use Rattle.cyclicity_laws.specs.CriticalParts.{IsStronglyConnected}
use Rattle.cyclicity_laws.specs.PartsTowards.{RepeatBy}
use Rattle.cyclicity_laws.specs.PartsBetween.{IsCircuitBetween, IsRateBetween, IsCommonBetween, RatesBetweenExist, TransfersRepeatByParts, PeriodsOfTransfersDivide}
use Rattle.cyclicity_laws.specs.Reached.{TransfersDivideByParts, CyclicityIsByParts}
use Rattle.cyclicity_laws.proofs.Rounds.{IsRound, ComesRound, repeated, comes_round}
use Rattle.cyclicity_laws.proofs.CriticalWalks.{MeetsCritical, LosesMuch, most_tokens, most_time, meets_or_loses}
use Rattle.cyclicity_laws.proofs.Lines.{outgrown, rise_by}
use Rattle.cyclicity_laws.proofs.RepeatsTowards.{under, short_walk, less_periods, at_most_numbers, both_some, in_periods}
use Rattle.bound_laws.proofs.Shortest.{least_divides}
use Rattle.cyclicity_laws.proofs.Cyclic.{one_after, chosen}
use Rattle.growth_laws.proofs.PathSteps.{path_steps, path_walks, path_time}
use Rattle.cyclicity_laws.proofs.Reached.{waited, waited_walks, waited_time, transfers_are_common, transfers_exist}

-- a transition has one greatest time of walks
one_time : (net : NetLists) (i t k : ℕ) (d e : Date) → IsGreatestWalkTime net i t k d → IsGreatestWalkTime net i t k e → d ≡ e
one_time net i t k d e h g = same_by_at_most d e (below d e h g) (below e d g h) where
  below : (x z : Date) → IsGreatestWalkTime net i t k x → IsGreatestWalkTime net i t k z → IsAtMostDate x z
  below x z p q = ⊎_elim
      (λ early. rw early.0 tt)
      (λ found. subst (λ (w : Date). IsAtMostDate w z) (sym found.2) (q.greatest found.0 found.1))
      p.reached

-- a path and the walks along it, also from later numbers on
walk_along : (net : NetLists) (i t n k : ℕ) (qs : List PlaceId) → IsPathBetween net i qs t → k ≡ (1 + n) + tokens_of net qs → Walks net i 1 (waited n (path_steps qs)) t k
walk_along net i t n k qs h e =
    waited_walks net n i 1 t k (path_steps qs) (subst (λ m. Walks net i (1 + n) (path_steps qs) t m) (sym e) (path_walks net qs i (1 + n) t h))

module _ (net : NetLists) (ends : HasEndsInRange net) (live : IsLive net) (i : ℕ) (y : ℕ → ℕ → Date) (times : AreWalkTimes net i y)
    (t : ℕ) (lt : t < length net.transitions) (leads : Reaches net i t)
    (K P : ℕ) (z : ℤ) (some : 1 ≤ P) (again : (k : ℕ) → K < k → y t (k + P) ≡ move z (y t k)) where
  abbrev way : List PlaceId
  way = leads.0

  way_leads : IsPathBetween net i way t
  way_leads = leads.1

  -- past this number all times are numbers and repeat
  abbrev J : ℕ
  J = K + tokens_of net way

  abbrev v : ℕ → ℕ
  v k = unit (y t k)

  at_least : (qs : List PlaceId) (n k : ℕ) → IsPathBetween net i qs t → k ≡ (1 + n) + tokens_of net qs → IsAtMostDate (At (pos (time_of net qs))) (y t k)
  at_least qs n k h e =
      let steps : List Step = waited n (path_steps qs) in
      let walk : Walks net i 1 steps t k = walk_along net i t n k qs h e in
      let is : walk_time net steps ≡ time_of net qs = waited_time net n (path_steps qs) ∙ path_time net qs in
      subst (λ m. IsAtMostDate (At (pos m)) (y t k)) is ((times t k lt (omega (arith, e))).greatest steps walk)

  is_v : (k : ℕ) → J < k → y t k ≡ At (pos (v k))
  is_v k past = ⊎_elim
      (λ early. absurd (subst (λ m. IsAtMostDate (At (pos (time_of net way))) m) early.0 (at_least way (k - 1 - tokens_of net way) k way_leads (omega (arith, past)))))
      (λ found. let e : v k ≡ walk_time net found.0 = ap unit found.2 in found.2 ∙ ap (λ m. At (pos m)) (sym e))
      (times t k lt (omega (arith, past))).reached

  low : (qs : List PlaceId) (n k : ℕ) → IsPathBetween net i qs t → k ≡ (1 + n) + tokens_of net qs → J < k → time_of net qs ≤ v k
  low qs n k h e past = at_most_numbers (At (pos (time_of net qs))) (y t k) (time_of net qs) (v k) refl (is_v k past) (at_least qs n k h e)

  -- the walk of a time
  record IsBest (k : ℕ) : Type 0 where
    places : List PlaceId
    nexts : ℕ
    path : IsPathBetween net i places t
    date : v k ≡ time_of net places
    count : k ≡ 1 + tokens_of net places + nexts

  best : (k : ℕ) → J < k → IsBest k
  best k past = ⊎_elim
      (λ early. absurd (subst (λ m. IsAtMostDate (At (pos (time_of net way))) m) early.0 (at_least way (k - 1 - tokens_of net way) k way_leads (omega (arith, past)))))
      (λ found.
      let path : IsPathOf net found.0 i 1 t k = walk_path net found.0 i 1 t k found.1 in
      let e : v k ≡ walk_time net found.0 = ap unit found.2 in
      let time = path.time in
      record { places = path.places; nexts = path.nexts; path = path.path; date = e ∙ time; count = path.number })
      (times t k lt (omega (arith, past))).reached

  climb : (k n : ℕ) → J < k → v k ≤ v (k + n)
  climb k n past =
      let w : IsBest k = best k past in
      let count = w.count in
      let date = w.date in
      let up = low w.places (w.nexts + n) (k + n) w.path (omega (arith, count)) (omega (arith, past)) in
      omega (arith, up, date)

  whole : (m : ℤ) → z ≡ m → (n : ℕ) × (z ≡ pos n)
  whole (pos n) e = (n, e)
  whole (negsuc n) e =
      let k : ℕ = J + 1 in
      let there : At (pos (v (k + P))) ≡ At (pos (v k) +ℤ negsuc n) =
      sym (is_v (k + P) (omega arith)) ∙ again k (omega arith) ∙ ap (move z) (is_v k (omega arith)) ∙ ap (λ m. At (pos (v k) +ℤ m)) e in
      let fall = at_most_is (At (pos (v (k + P)))) (At (pos (v k) +ℤ negsuc n)) there in
      let up = climb k P (omega arith) in
      absurd (omega (arith, ints, fall, up))

  abbrev U : ℕ
  U = (whole z refl).0

  next : (k : ℕ) → J < k → v (k + P) ≡ v k + U
  next k past =
      let there : y t (k + P) ≡ At (pos (v k) +ℤ pos U) = again k (omega (arith, past)) ∙ ap (move z) (is_v k past) ∙ ap (λ m. At (pos (v k) +ℤ m)) (whole z refl).1 in
      let e : (pos (v k) +ℤ pos U) ≡ pos (v k + U) = omega (arith, ints) in
      ap unit (there ∙ ap At e)

  -- no circuit on the way rises faster than the times
  slow : (cs : List PlaceId) → IsCircuitBetween net i t cs → P * time_of net cs ≤ U * tokens_of net cs
  slow cs c =
      let at : ℕ = c.at in
      let round : IsPathBetween net at cs at = c.round in
      let there : Reaches net i at = c.from in
      let back : Reaches net at t = c.towards in
      let M : ℕ = tokens_of net cs in
      let T : ℕ = time_of net cs in
      let base : ℕ = (1 + J) + (tokens_of net there.0 + tokens_of net back.0) in
      let all : P * T ≤ M * U = outgrown (P * T) (M * U) (v base) (λ j.
      let r : ℕ = j * P in
      let qs : List PlaceId = there.0 ++ (rounds r cs ++ back.0) in
      let leads : IsPathBetween net i qs t = IsPathBetween-append net there.0 (rounds r cs ++ back.0) i at t there.1
      (IsPathBetween-append net (rounds r cs) back.0 at at t (rounds_lead net at cs r round) back.1) in
      let hold : PlaceId → ℕ = λ p. (place_at net p).hold in
      let token : PlaceId → ℕ = λ p. (place_at net p).tokens in
      let t1 = sum_by-append hold there.0 (rounds r cs ++ back.0) in
      let t2 = sum_by-append hold (rounds r cs) back.0 in
      let t3 = rounds_sum hold cs r in
      let k1 = sum_by-append token there.0 (rounds r cs ++ back.0) in
      let k2 = sum_by-append token (rounds r cs) back.0 in
      let k3 = rounds_sum token cs r in
      let k : ℕ = base + (j * M) * P in
      let many : r * M ≡ (j * M) * P = grind arith in
      let reach : r * T ≤ v k = (let up = low qs J k leads (omega (arith, k1, k2, k3, many)) (omega arith) in omega (arith, up, t1, t2, t3)) in
      let is : v k ≡ v base + (j * M) * U = on v J P U some next (j * M) base (omega arith) in
      let left : j * (P * T) ≡ r * T = grind arith in
      let right : (j * M) * U ≡ j * (M * U) = grind arith in
      omega (arith, reach, is, left, right)) in
      let e : M * U ≡ U * M = grind arith in
      omega (arith, all, e)

  -- ---- at a ratio that no circuit on the way exceeds

  module _ (a b : ℕ) (some_b : 1 ≤ b) (greatest : (ps : List PlaceId) → IsCircuitBetween net i t ps → b * time_of net ps ≤ a * tokens_of net ps) where
    -- no path exceeds the ratio by more than a short one
    path_most : (qs : List PlaceId) → IsPathBetween net i qs t → b * time_of net qs ≤ a * tokens_of net qs + b * most_time net
    path_most qs h = by_loops net (length net.transitions) i t (λ ps. b * time_of net ps ≤ a * tokens_of net ps + b * most_time net) (ends_below net ends) lt
        (λ ps g l.
        let one = sum_most (λ p. (place_at net p).hold) (hold_bound net) net (λ id m. holds_bounded net id.index no_place m) ps i t g in
        let two : length ps * hold_bound net ≤ length net.transitions * hold_bound net = mul-le-mul_right {m = length ps} {n = length net.transitions} (hold_bound net) (omega (arith, l)) in
        let three : b * time_of net ps ≤ b * most_time net = mul-le-mul_left {m = time_of net ps} {n = most_time net} b (omega (arith, one, two)) in
        omega (arith, three))
        (λ ps g loop old. added (time_of net ps) (time_of net (loop.before ++ loop.after)) (time_of net loop.loop)
        (tokens_of net ps) (tokens_of net (loop.before ++ loop.after)) (tokens_of net loop.loop)
        (loop_sum (λ p. (place_at net p).hold) net i t ps loop) (loop_sum (λ p. (place_at net p).tokens) net i t ps loop) old
        (greatest loop.loop (record { circuit = loop.circuit; at = loop.at; round = loop.closed; from = (loop.before, loop.first); towards = (loop.after, loop.last) })))
        qs h where
          added : (time t1 t2 tokens k1 k2 : ℕ) → time ≡ t1 + t2 → tokens ≡ k1 + k2 → b * t1 ≤ a * k1 + b * most_time net → b * t2 ≤ a * k2 → b * time ≤ a * tokens + b * most_time net
          added time t1 t2 tokens k1 k2 e f one two =
              let left : b * (t1 + t2) ≡ b * t1 + b * t2 = grind arith in
              let right : a * (k1 + k2) ≡ a * k1 + a * k2 = grind arith in
              let own : b * time ≡ b * (t1 + t2) = ap (λ m. b * m) e in
              let other : a * tokens ≡ a * (k1 + k2) = ap (λ m. a * m) f in
              omega (arith, left, right, own, other, one, two)

    upper : (k : ℕ) → J < k → b * v k ≤ a * k + b * most_time net
    upper k past =
        let w : IsBest k = best k past in
        let most = path_most w.places w.path in
        let count = w.count in
        let date : b * v k ≡ b * time_of net w.places = ap (λ m. b * m) w.date in
        let wide : a * tokens_of net w.places ≤ a * k = mul-le-mul_left {m = tokens_of net w.places} {n = k} a (omega (arith, count)) in
        omega (arith, most, date, wide)

    rate_up : b * U ≤ a * P
    rate_up = outgrown (b * U) (a * P) (a * (J + 1) + b * most_time net) (λ j.
        let k : ℕ = J + 1 in
        let high = upper (k + j * P) (omega arith) in
        let is : v (k + j * P) ≡ v k + j * U = on v J P U some next j k (omega arith) in
        let own : b * v (k + j * P) ≡ b * (v k + j * U) = ap (λ m. b * m) is in
        let left : b * (v k + j * U) ≡ b * v k + j * (b * U) = grind arith in
        let right : a * (k + j * P) ≡ a * k + j * (a * P) = grind arith in
        omega (arith, high, own, left, right))

    -- ---- at which the times rise

    module _ (rate : a * P ≡ U * b) where
      floor : (k : ℕ) → a * k ≤ b * v k + a * (J + P)
      floor k =
          let line = (near v J P U some next k).0 in
          under a b P U (v k) k (J + P) some rate line

      abbrev Q : ℕ
      Q = 1 + 1 * (b * most_time net) + 1 * (a * (J + P))

      abbrev far : ℕ
      far = (Q + Q + (most_tokens net + most_tokens net * Q)) + J

      -- a far date's walk meets a critical circuit
      far_meets : (k : ℕ) → 1 ≤ a → far < k → (w : IsBest k) → MeetsCritical net a b t w.places
      far_meets k some_a past w = ⊎_elim
          (λ (m : MeetsCritical net a b t w.places). m)
          (λ (o : LosesMuch net a b w.places).
          let number = w.count in
          let date = w.date in
          let value : v k ≡ 0 + time_of net w.places = omega (arith, date) in
          let begin : 1 + 1 * (b * 0) ≤ 1 * (a * 1) + 1 = (let e : b * 0 ≡ 0 = omega arith in omega (arith, e)) in
          let few = short_walk a b 1 1 (most_time net) (a * (J + P)) Q (most_tokens net) (v k) 0 (time_of net w.places) (tokens_of net w.places) o.loops 1 w.nexts k
          some_a (omega arith) (floor k) value begin number o.loss o.few refl in
          absurd (omega (arith, few, past)))
          (meets_or_loses net a b ends i t greatest lt w.places w.path)

      module _ (L : ℕ) (common : 1 ≤ a → IsCommonBetween net i t a b L) where
        record IsLaterBy (k : ℕ) : Type 0 where
          count : ℕ
          rise : ℕ
          critical : b * rise ≡ a * (L + count * P)
          later : v k + rise ≤ v (k + (L + count * P))

        by_rounds : (k : ℕ) → 1 ≤ a → J < k → (w : IsBest k) → MeetsCritical net a b t w.places → IsLaterBy k
        by_rounds k some_a past w m =
            let visit : FirstVisit net i t m.at w.places = first_visit net m.at w.places i t w.path m.meets in
            let c = common some_a m.at m.circuit m.critical (visit.before, visit.first) (visit.after, visit.last) in
            let tokens_some : 1 ≤ tokens_of net m.circuit = some_of (tokens_of net m.circuit) (live m.circuit m.critical.circuit) in
            let period : ℕ = P * tokens_of net m.circuit in
            let own : IsRound net a b m.at (tokens_of net m.circuit) = record { places = m.circuit; closed = m.critical.at; critical = m.critical.critical; tokens = refl } in
            let round : ComesRound net a b m.at period L =
            comes_round net a b m.at period (both_some P (tokens_of net m.circuit) some tokens_some) (repeated net a b m.at P (tokens_of net m.circuit) own) L c.0 c.1 c.2 in
            let cs : List PlaceId = round.round.places in
            let n : ℕ = round.times * tokens_of net m.circuit in
            let periods : round.times * period ≡ n * P = grind arith in
            let put : PutIn net i t 1 w.places cs = put_in net i t m.at 1 w.places cs w.path m.meets round.round.closed in
            let tokens = put.tokens in
            let longer = put.time in
            let rounds' = round.round.tokens in
            let value = w.date in
            let number = w.count in
            let more = low put.walk w.nexts (k + (L + n * P)) put.leads (omega (arith, number, tokens, rounds', periods)) (omega (arith, past)) in
            record {
              count = n;
              rise = time_of net cs;
              critical = in_periods a L (round.times * period) (n * P) (b * time_of net cs) round.round.critical periods;
              later = omega (arith, more, longer, value);
            }

        by_walk : (k : ℕ) → 1 ≤ a → far < k → (w : IsBest k) → IsLaterBy k
        by_walk k some_a past w = by_rounds k some_a (omega (arith, past)) w (far_meets k some_a past w)

        rises : (k : ℕ) → far < k → b * v k + a * L ≤ b * v (k + L)
        rises k past = ⊎_elim
            (λ (some_a : 0 < a).
            let w : IsLaterBy k = by_walk k some_a past (best k (omega (arith, past))) in
            let is : k + (L + w.count * P) ≡ (k + L) + w.count * P = omega arith in
            let periods : v ((k + L) + w.count * P) ≡ v (k + L) + w.count * U = on v J P U some next w.count (k + L) (omega (arith, past)) in
            less_periods a b P L w.count U (v k) (v (k + L)) (v (k + (L + w.count * P))) w.rise rate w.critical w.later (ap v is ∙ periods))
            (λ (none : a ≤ 0).
            let zero_a : a ≡ 0 = omega (arith, none) in
            let nothing : a * L ≡ 0 = rw zero_a (omega arith) in
            let up : b * v k ≤ b * v (k + L) = mul-le-mul_left {m = v k} {n = v (k + L)} b (climb k L (omega (arith, past))) in
            omega (arith, up, nothing))
            (cases_lt 0 a)

        repeats : RepeatBy (y t) a b L
        repeats =
            let r = rise_by v a b P J U L far some_b some rate next (omega arith) rises in
            record {
              after = far;
              step = r.0;
              rate = r.1;
              again = λ k past.
                  let e : (pos (v k) +ℤ pos r.0) ≡ pos (v k + r.0) = omega (arith, ints) in
                  is_v (k + L) (omega (arith, past)) ∙ ap (λ m. At (pos m)) (r.2 k past) ∙ sym (ap (delayed r.0) (is_v k (omega (arith, past))) ∙ ap At e);
            }

  -- so they rise at the rate of the circuits on the way
  rises_by : (a b : ℕ) → IsRateBetween net i t a b → a * P ≡ U * b
  rises_by a b rates =
      let up = rate_up a b rates.some rates.greatest in
      let e : U * b ≡ b * U = grind arith in
      ⊎_elim
      (λ (some_a : 0 < a).
      let core = rates.attained some_a in
      let M : ℕ = tokens_of net core.0 in
      let T : ℕ = time_of net core.0 in
      let some_m : 1 ≤ M = some_of M (live core.0 core.1.circuit) in
      let ratio : b * T ≡ a * M = core.2 in
      let all = slow core.0 core.1 in
      let wide : b * (P * T) ≤ b * (U * M) = mul-le-mul_left {m = P * T} {n = U * M} b all in
      let one : b * (P * T) ≡ P * (b * T) = grind arith in
      let two : P * (b * T) ≡ P * (a * M) = ap (λ m. P * m) ratio in
      let three : P * (a * M) ≡ a * P * M = grind arith in
      let four : b * (U * M) ≡ b * U * M = grind arith in
      let down = cancel (a * P) (b * U) M some_m (omega (arith, wide, one, two, three, four)) in
      omega (arith, up, down, e))
      (λ (none : a ≤ 0). let f : a ≡ 0 = omega (arith, none) in let g : a * P ≡ 0 = rw f (omega arith) in omega (arith, up, g, e))
      (cases_lt 0 a)

  -- and some circuit there has the rate of the times
  own_rate : IsRateBetween net i t U P
  own_rate = record {
    some = some;
    greatest = slow;
    attained = λ some_u.
        let k : ℕ = 1 + far U P some slow refl in
        let w : IsBest k = best k (omega arith) in
        let m = far_meets U P some slow refl k some_u (omega arith) w in
        let visit : FirstVisit net i t m.at w.places = first_visit net m.at w.places i t w.path m.meets in
        (m.circuit, record { circuit = m.critical.circuit; at = m.at; round = m.critical.at; from = (visit.before, visit.first); towards = (visit.after, visit.last) }, m.critical.critical);
  }

-- ---- where no way leads there, all times are early

module _ (net : NetLists) (i t : ℕ) (lt : t < length net.transitions) (y : ℕ → ℕ → Date) (times : AreWalkTimes net i y)
    (K P : ℕ) (z : ℤ) (some : 1 ≤ P) (again : (k : ℕ) → K < k → y t (k + P) ≡ move z (y t k)) (first : y t (K + 1) ≡ Early) where
  stays_early : (j : ℕ) → y t ((K + 1) + j * P) ≡ Early
  stays_early zero = let e : (K + 1) + 0 * P ≡ K + 1 = omega arith in ap (y t) e ∙ first
  stays_early (suc j) =
      let e : (K + 1) + suc j * P ≡ ((K + 1) + j * P) + P = grind arith in
      ap (y t) e ∙ (again ((K + 1) + j * P) (omega arith) ∙ ap (move z) (stays_early j))

  no_way : (qs : List PlaceId) → IsPathBetween net i qs t → ⊥
  no_way qs h =
      let j : ℕ = tokens_of net qs in
      let k : ℕ = (K + 1) + j * P in
      let wide : j ≤ j * P = (let e : j * 1 ≡ j = omega arith in let l : j * 1 ≤ j * P = mul-le-mul_left {m = 1} {n = P} j some in omega (arith, e, l)) in
      let n : ℕ = k - 1 - j in
      let number : k ≡ (1 + n) + j = omega (arith, wide) in
      let low = (times t k lt (omega arith)).greatest (waited n (path_steps qs)) (walk_along net i t n k qs h number) in
      subst (λ (d : Date). IsAtMostDate (At (pos (walk_time net (waited n (path_steps qs))))) d) (stays_early j) low

  all_early : (k : ℕ) → 1 ≤ k → y t k ≡ Early
  all_early k one = ⊎_elim
      (λ early. early.0)
      (λ found. let path : IsPathOf net found.0 i 1 t k = walk_path net found.0 i 1 t k found.1 in absurd (no_way path.places path.path))
      (times t k lt one).reached

  early_repeats : (a b L : ℕ) → IsRateBetween net i t a b → RepeatBy (y t) a b L
  early_repeats a b L rates = record {
    after = 0;
    step = 0;
    rate = still;
    again = λ k past. all_early (k + L) (omega (arith, past)) ∙ sym (ap (delayed 0) (all_early k (omega (arith, past))));
  } where
    still : b * 0 ≡ a * L
    still = ⊎_elim
        (λ (some_a : 0 < a). let core = rates.attained some_a in
        absurd (no_way (core.1.from.0 ++ core.1.towards.0) (IsPathBetween-append net core.1.from.0 core.1.towards.0 i core.1.at t core.1.from.1 core.1.towards.1)))
        (λ (none : a ≤ 0). let e : a ≡ 0 = omega (arith, none) in let f : a * L ≡ 0 = rw e (omega arith) in omega (arith, f))
        (cases_lt 0 a)

-- ---- both together

repeat_between : (net : NetLists) → HasEndsInRange net → IsLive net → (i : ℕ) (y : ℕ → ℕ → Date) → AreWalkTimes net i y → (t : ℕ) → t < length net.transitions
    → (K P : ℕ) (z : ℤ) → 1 ≤ P → ((k : ℕ) → K < k → y t (k + P) ≡ move z (y t k))
    → (a b : ℕ) → IsRateBetween net i t a b → (L : ℕ) → (1 ≤ a → IsCommonBetween net i t a b L) → RepeatBy (y t) a b L
repeat_between net ends live i y times t lt K P z some again a b rates L common = ⊎_elim
    (λ early. early_repeats net i t lt y times K P z some again early.0 a b L rates)
    (λ found.
    let path : IsPathOf net found.0 i 1 t (K + 1) = walk_path net found.0 i 1 t (K + 1) found.1 in
    repeats net ends live i y times t lt (path.places, path.path) K P z some again a b rates.some rates.greatest
    (rises_by net ends live i y times t lt (path.places, path.path) K P z some again a b rates) L common)
    (times t (K + 1) lt (omega arith)).reached

pub transfers_repeat : SystemsSettle → TransfersRepeatByParts
transfers_repeat settle net ends live i i_in y times t lt a b rates L one common =
    let found = transfers_exist settle net ends live i i_in in
    let f : SettledForm = found.0 in
    let w : ℕ → ℕ → Date = found.1.0 in
    let stands = found.1.2.stands.repeats in
    let same : (k : ℕ) → 1 ≤ k → y t k ≡ w t k = λ k o. one_time net i t k (y t k) (w t k) (times t k lt o) (found.1.1 t k lt o) in
    let z : ℤ = step_of_form f t in
    repeat_between net ends live i y times t lt f.after f.period z stands.at_least_one
    (λ k past. same (k + f.period) (omega (arith, past)) ∙ (stands.again t k lt past ∙ sym (ap (move z) (same k (omega (arith, past))))))
    a b rates L common

rate_exists : (net : NetLists) → HasEndsInRange net → IsLive net → (i : ℕ) (y : ℕ → ℕ → Date) → AreWalkTimes net i y → (t : ℕ) → t < length net.transitions
    → (K P : ℕ) (z : ℤ) → 1 ≤ P → ((k : ℕ) → K < k → y t (k + P) ≡ move z (y t k)) → (a b : ℕ) × IsRateBetween net i t a b
rate_exists net ends live i y times t lt K P z some again = ⊎_elim
    (λ early. (
      0,
      1,
      record {
        some = omega arith;
        greatest = λ ps c. absurd (no_way net i t lt y times K P z some again early.0 (c.from.0 ++ c.towards.0) (IsPathBetween-append net c.from.0 c.towards.0 i c.at t c.from.1 c.towards.1));
        attained = λ some_a. absurd (omega (arith, some_a));
      },
    ))
    (λ found.
    let path : IsPathOf net found.0 i 1 t (K + 1) = walk_path net found.0 i 1 t (K + 1) found.1 in
    let rates = own_rate net ends live i y times t lt (path.places, path.path) K P z some again in
    (U net ends live i y times t lt (path.places, path.path) K P z some again, P, rates))
    (times t (K + 1) lt (omega arith)).reached

pub rates_exist : SystemsSettle → RatesBetweenExist
rates_exist settle net ends live i i_in t lt =
    let found = transfers_exist settle net ends live i i_in in
    let f : SettledForm = found.0 in
    let stands = found.1.2.stands.repeats in
    rate_exists net ends live i found.1.0 found.1.1 t lt f.after f.period (step_of_form f t) stands.at_least_one (λ k past. stands.again t k lt past)

pub periods_of_transfers : PeriodsOfTransfersDivide
periods_of_transfers net ends live i i_in f h L one common =
    let y : ℕ → ℕ → Date = h.0 in
    let stands = h.2.stands.repeats in
    let each : (t : ℕ) → t < length net.transitions → (after : ℕ) × ((m : ℤ) × ((k : ℕ) → after < k → y t (k + L) ≡ move m (y t k))) = λ t lt.
    (let own = common t lt in
    let r = repeat_between net ends live i y h.1 t lt f.after f.period (step_of_form f t) stands.at_least_one (λ k past. stands.again t k lt past) own.0 own.1 own.2 L own.3 in
    (r.after, (pos r.step, λ k past. r.again k past ∙ delayed_is_move r.step (y t k)))) in
    let w = one_after (λ t after. (m : ℤ) × ((k : ℕ) → after < k → y t (k + L) ≡ move m (y t k))) (λ t k m l r. (r.0, λ j past. r.1 j (omega (arith, past, l)))) (length net.transitions) each in
    let steps = chosen (λ t m. (k : ℕ) → w.0 < k → y t (k + L) ≡ move m (y t k)) (length net.transitions) w.1 in
    least_divides (length net.transitions) y f w.0 L steps.0 h.2 (record { at_least_one = one; again = λ t k l past. steps.1 t l k past })

-- ---- strongly connected nets

rate_of : (net : NetLists) (a b : ℕ) → IsStronglyConnected net a b → (i t : ℕ) → i < length net.transitions → t < length net.transitions → IsRateBetween net i t a b
rate_of net a b s i t i_in lt = record {
  some = s.ratio.some;
  greatest = λ ps c. let up = s.ratio.greatest ps c.circuit (λ n d m. tt) in let e : b * time_of net ps ≡ time_of net ps * b = grind arith in omega (arith, up, e);
  attained = λ some_a.
      let core = s.ratio.attained in
      let cs : List PlaceId = core.0 in
      let at : ℕ = core.1.closed.0 in
      let at_in = start_in net (length net.transitions) at at cs (ends_below net s.ends) core.1.closed.1 core.1.not_empty in
      let f = core.3 in
      let e : b * time_of net cs ≡ time_of net cs * b = grind arith in
      (cs, record { circuit = core.1; at = at; round = core.1.closed.1; from = s.reaches i at i_in at_in; towards = s.reaches at t at_in lt }, omega (arith, e, f));
}

pub transfers_divide : TransfersDivideByParts
transfers_divide net a b s c c_in f h L one common =
    periods_of_transfers net s.ends s.live c c_in f h L one (λ t lt. (a, b, rate_of net a b s c t c_in lt, λ some d ps critical from towards. common some d ps critical))

pub cyclicity_by_parts : SystemsSettle → CyclicityIsByParts
cyclicity_by_parts settle net a b s some_a L one = (
  λ all c ps critical.
      let c_in = start_in net (length net.transitions) c c ps (ends_below net s.ends) critical.at critical.circuit.not_empty in
      let found = transfers_exist settle net s.ends s.live c c_in in
      let part = transfers_are_common net s.live a b some_a c ps c_in critical (λ qs w. bounded qs w.circuit) found.0 found.1 in
      (part.0, part.1, λ d each. dvd_trans d (part.2 d each) (all c found.0 c_in found.1)),
  λ common c f c_in h. transfers_divide net a b s c c_in f h L one (λ some. common),
) where
  bounded : (ps : List PlaceId) → IsCircuit net ps → b * time_of net ps ≤ a * tokens_of net ps
  bounded ps c = let up = s.ratio.greatest ps c (λ n d m. tt) in let e : b * time_of net ps ≡ time_of net ps * b = grind arith in omega (arith, up, e)
