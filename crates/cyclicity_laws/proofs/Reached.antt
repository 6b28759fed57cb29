-- The walk times from a transition of the critical graph repeat only by multiples of the greatest common divisor of its part.
use Rattle.std.proofs.Common.{ℕ, ℤ, zero, suc, pos, ◌+◌, ◌-◌, ◌*◌, ◌<◌, ◌≤◌, ◌≡◌, List, [], ◌∷◌, ◌++◌, length, refl, sym, ap, subst, ◌∙◌, arith, ⊎_elim, ◌+ℤ◌}
use Rattle.std.specs.Prelude.{negsuc}
use Rattle.std.specs.Int.{◌∣◌}
use Rattle.std.proofs.lemmas.Bool.{cases_lt}
use Rattle.std.proofs.lemmas.Int.{ints}
use Rattle.std.proofs.lemmas.List.Elements.{All-nil, All-cons, All-tail}
use Rattle.std.proofs.lemmas.List.Sums.{sum_by-cons}
use Rattle.std.proofs.lemmas.Nat.Gcd.{dvd-zero}
use Rattle.std.proofs.Math.Nat.{mul-le-mul_left, mul-le-mul_right, dvd-add, dvd-sub, dvd-mul_left_of_dvd}
use Rattle.bound_laws.specs.dioid.declared.dates.Date.{Date}
use Rattle.bound_laws.specs.dioid.declared.dates.Date.TheVariants.{Early, At}
use Rattle.bound_laws.specs.dioid.Dates.{IsAtMostDate, move}
use Rattle.periodic_laws.proofs.dioid_proofs.DateOrder.{at_most_is, at_most_refl}
use Rattle.bound_laws.specs.teg_net.declared.entries.PlaceId.{PlaceId}
use Rattle.bound_laws.specs.teg_net.declared.walks.Step.{Step}
use Rattle.bound_laws.specs.teg_net.declared.walks.Step.TheVariants.{Next}
use Rattle.bound_laws.specs.teg_net.Nets.{NetLists}
use Rattle.bound_laws.specs.teg_net.Circuits.{place_at, IsPathBetween, IsLive, time_of, tokens_of}
use Rattle.bound_laws.specs.teg_net.Walks.{Walks, step_time, walk_time}
use Rattle.bound_laws.specs.settled_laws.SettledForms.{step_of_form}
use Rattle.bound_laws.proofs.teg_loops_proofs.Straight.{closed_looped}
use Rattle.bound_laws.proofs.teg_loops_proofs.Taking.{loop_sum, rest_leads, rest_shorter}
use Rattle.bound_laws.proofs.teg_loops_proofs.Visits.{rounds, rounds_lead, rounds_sum}
use Rattle.bound_laws.specs.Critical.{IsCriticalAt}
use Rattle.growth_laws.proofs.number_laws_proofs.Numbers.{some_of}
use Rattle.growth_laws.proofs.Growth.{cancel}
use Rattle.growth_laws.proofs.PathSteps.{path_steps, path_walks, path_time}
use Rattle.slope_laws.specs.teg_loops.Loops.{HasLoop, IsCircuitTowards}
use Rattle.slope_laws.proofs.WalkPaths.{IsPathOf, walk_path}
use Rattle.walk_times.specs.Transfers.{AreWalkTimes}
use Rattle.growth_laws.proofs.teg_model_proofs.LiveRanks.{live_is_ranked}
use Rattle.growth_laws.proofs.teg_model_proofs.SystemWalks.{least_in_is_walk}
use Rattle.periodic_laws.specs.LinearSystem.{SystemsSettle}
use Rattle.walk_times.specs.Alone.{no_tokens, released_alone}
use Rattle.walk_times.proofs.Walking.{times_from}
use Rattle.periodic_laws.specs.PeriodicDates.{IsPeriodic}
use Rattle.periodic_laws.proofs.dioid_proofs.Moves.{move_zero}
use Rattle.cyclicity_laws.specs.CriticalParts.{IsCircuitOfCriticalPart, IsCommonOfPart}
use Rattle.cyclicity_laws.specs.Reached.{TransfersAreCommon, TransfersExist}

-- ---- walks of paths

-- so many firings waited before
abbrev pub waited : ℕ → List Step → List Step
waited zero steps = steps
waited (suc n) steps = Next ∷ waited n steps

pub waited_walks : (net : NetLists) (n i s j k : ℕ) (steps : List Step) → Walks net i (s + n) steps j k → Walks net i s (waited n steps) j k
waited_walks net zero i s j k steps h = let e : s + 0 ≡ s = omega arith in subst (λ z. Walks net i z steps j k) e h
waited_walks net (suc n) i s j k steps h =
    let e : s + suc n ≡ (s + 1) + n = omega arith in
    waited_walks net n i (s + 1) j k steps (subst (λ z. Walks net i z steps j k) e h)

pub waited_time : (net : NetLists) (n : ℕ) (steps : List Step) → walk_time net (waited n steps) ≡ walk_time net steps
waited_time net zero steps = refl
waited_time net (suc n) steps =
    let rest = waited_time net n steps in
    let one = sum_by-cons (step_time net) Next (waited n steps) in
    omega (arith, rest, one)

-- ---- closed paths at a transition

beyond_rounds : (d r m n : ℕ) → d ∣ m → d ∣ (r * m + n) → d ∣ n
beyond_rounds d r m n h k = let e : (r * m + n) - r * m ≡ n = omega arith in subst (λ z. d ∣ z) e (dvd-sub d k (dvd-mul_left_of_dvd d h r))

module _ (net : NetLists) (a b c : ℕ) (greatest : (qs : List PlaceId) → IsCircuitTowards net c qs → b * time_of net qs ≤ a * tokens_of net qs) where
  -- it does not exceed the ratio, and where it has it circuits of the critical part of c make it up
  record Stays (ps : List PlaceId) : Type 0 where
    below : b * time_of net ps ≤ a * tokens_of net ps
    made : b * time_of net ps ≡ a * tokens_of net ps → IsCommonOfPart net a b c (tokens_of net ps)

  closed_stays : (fuel : ℕ) (ps : List PlaceId) → length ps < fuel → IsPathBetween net c ps c → Stays ps
  closed_stays zero ps l h = absurd (omega (arith, l))
  closed_stays (suc fuel) [] l h = record { below = omega arith; made = λ e. ([], All-nil (IsCircuitOfCriticalPart net a b c), λ d all. dvd-zero d) }
  closed_stays (suc fuel) (p ∷ qs) l h =
      let ps : List PlaceId = p ∷ qs in
      let loop : HasLoop net c c ps = closed_looped net ps c h (omega arith) in
      let rest : List PlaceId = loop.before ++ loop.after in
      let less = rest_shorter net c c ps loop in
      let some : 0 < length loop.loop = loop.circuit.not_empty in
      let old : Stays rest = closed_stays fuel rest (omega (arith, less, some, l)) (rest_leads net c c ps loop) in
      let own = greatest loop.loop (record { circuit = loop.circuit; at = loop.at; round = loop.closed; towards = (loop.after, loop.last) }) in
      let time : time_of net ps ≡ time_of net rest + time_of net loop.loop = loop_sum (λ q. (place_at net q).hold) net c c ps loop in
      let tokens : tokens_of net ps ≡ tokens_of net rest + tokens_of net loop.loop = loop_sum (λ q. (place_at net q).tokens) net c c ps loop in
      let low = old.below in
      let left : b * time_of net ps ≡ b * time_of net rest + b * time_of net loop.loop = spread b (time_of net ps) (time_of net rest) (time_of net loop.loop) time in
      let right : a * tokens_of net ps ≡ a * tokens_of net rest + a * tokens_of net loop.loop = spread a (tokens_of net ps) (tokens_of net rest) (tokens_of net loop.loop) tokens in
      record {
        below = omega (arith, low, own, left, right);
        made = λ e.
            let way : b * time_of net rest ≡ a * tokens_of net rest = omega (arith, low, own, left, right, e) in
            let critical : b * time_of net loop.loop ≡ a * tokens_of net loop.loop = omega (arith, low, own, left, right, e) in
            let own_part : IsCircuitOfCriticalPart net a b c loop.loop = record {
              circuit = loop.circuit;
              at = loop.at;
              round = loop.closed;
              critical = critical;
              there = loop.before;
              back = loop.after;
              to = loop.first;
              from = loop.last;
              way = way;
            } in
            let others = old.made way in (
              loop.loop ∷ others.0,
              All-cons (IsCircuitOfCriticalPart net a b c) loop.loop others.0 own_part others.1,
              λ d all. sum_divided d (tokens_of net ps) (tokens_of net rest) (tokens_of net loop.loop) tokens
                  (others.2 d (All-tail (λ qs. d ∣ tokens_of net qs) loop.loop others.0 all)) (all 0 loop.loop (omega arith)),
            );
      } where
        sum_divided : (d n i j : ℕ) → n ≡ i + j → d ∣ i → d ∣ j → d ∣ n
        sum_divided d n i j e h k = subst (λ z. d ∣ z) (sym e) (dvd-add d h k)

        spread : (m n i j : ℕ) → n ≡ i + j → m * n ≡ m * i + m * j
        spread m n i j e = rw e (grind arith)

  module _ (live : IsLive net) (some_a : 1 ≤ a) (c_in : c < length net.transitions) (ps : List PlaceId) (critical : IsCriticalAt net a b c ps)
      (y : ℕ → ℕ → Date) (times : AreWalkTimes net c y) where
    abbrev M : ℕ
    M = tokens_of net ps

    abbrev T : ℕ
    T = time_of net ps

    some_m : 1 ≤ M
    some_m = some_of M (live ps critical.circuit)

    some_b : 1 ≤ b
    some_b = ⊎_elim
        (λ (l : 0 < b). l)
        (λ (l : b ≤ 0).
        let e : b ≡ 0 = omega (arith, l) in
        let none : b * T ≡ 0 = rw e (omega arith) in
        let some : 1 * M ≤ a * M = mul-le-mul_right {m = 1} {n = a} M some_a in
        let is = critical.critical in
        let m = some_m in
        absurd (omega (arith, none, some, is, m)))
        (cases_lt 0 b)

    round_tokens : (r : ℕ) → tokens_of net (rounds r ps) ≡ r * M
    round_tokens r = rounds_sum (λ q. (place_at net q).tokens) ps r

    round_time : (r : ℕ) → time_of net (rounds r ps) ≡ r * T
    round_time r = rounds_sum (λ q. (place_at net q).hold) ps r

    on_rate : (r : ℕ) → b * (r * T) ≡ a * (r * M)
    on_rate r =
        let one : b * (r * T) ≡ r * (b * T) = grind arith in
        let two : r * (b * T) ≡ r * (a * M) = ap (λ z. r * z) critical.critical in
        let three : r * (a * M) ≡ a * (r * M) = grind arith in
        one ∙ two ∙ three

    -- rounds, also after some firings waited
    at_least : (r n k : ℕ) → k ≡ 1 + (n + r * M) → IsAtMostDate (At (pos (r * T))) (y c k)
    at_least r n k e =
        let steps : List Step = waited n (path_steps (rounds r ps)) in
        let tokens = round_tokens r in
        let end : (1 + n) + tokens_of net (rounds r ps) ≡ k = omega (arith, e, tokens) in
        let walk : Walks net c 1 steps c k = waited_walks net n c 1 c k (path_steps (rounds r ps))
        (subst (λ z. Walks net c (1 + n) (path_steps (rounds r ps)) c z) end (path_walks net (rounds r ps) c (1 + n) c (rounds_lead net c ps r critical.at))) in
        let is : walk_time net steps ≡ r * T = waited_time net n (path_steps (rounds r ps)) ∙ path_time net (rounds r ps) ∙ round_time r in
        subst (λ z. IsAtMostDate (At (pos z)) (y c k)) is ((times c k c_in (omega (arith, e))).greatest steps walk)

    -- the walk of a date
    record IsReached (m w : ℕ) : Type 0 where
      places : List PlaceId
      nexts : ℕ
      path : IsPathBetween net c places c
      time : w ≡ time_of net places
      count : m ≡ tokens_of net places + nexts

    reached : (m w : ℕ) → y c (1 + m) ≡ At (pos w) → IsReached m w
    reached m w e = ⊎_elim
        (λ early. absurd (at_most_is (At (pos w)) Early (sym e ∙ early.0)))
        (λ some.
        let path : IsPathOf net some.0 c 1 c (1 + m) = walk_path net some.0 c 1 c (1 + m) some.1 in
        let same : At (pos w) ≡ At (pos (walk_time net some.0)) = sym e ∙ some.2 in
        let up = at_most_is (At (pos w)) (At (pos (walk_time net some.0))) same in
        let down = at_most_is (At (pos (walk_time net some.0))) (At (pos w)) (sym same) in
        let time = path.time in
        let number = path.number in
        record { places = path.places; nexts = path.nexts; path = path.path; time = omega (arith, ints, up, down, time); count = omega (arith, number) })
        (times c (1 + m) c_in (omega arith)).reached

    below_rate : (m w : ℕ) → y c (1 + m) ≡ At (pos w) → b * w ≤ a * m
    below_rate m w e =
        let h = reached m w e in
        let low = (closed_stays (suc (length h.places)) h.places (omega arith) h.path).below in
        let left : b * w ≡ b * time_of net h.places = ap (λ z. b * z) h.time in
        let number = h.count in
        let right : a * tokens_of net h.places ≤ a * m = mul-le-mul_left {m = tokens_of net h.places} {n = m} a (omega (arith, number)) in
        omega (arith, low, left, right)

    -- a time on the line of the ratio is made up of such circuits
    on_line : (m w : ℕ) → y c (1 + m) ≡ At (pos w) → b * w ≡ a * m → IsCommonOfPart net a b c m
    on_line m w e is =
        let h = reached m w e in
        let stays = closed_stays (suc (length h.places)) h.places (omega arith) h.path in
        let low = stays.below in
        let left : b * w ≡ b * time_of net h.places = ap (λ z. b * z) h.time in
        let number = h.count in
        let sum : a * (tokens_of net h.places + h.nexts) ≡ a * tokens_of net h.places + a * h.nexts = grind arith in
        let right : a * m ≡ a * tokens_of net h.places + a * h.nexts = ap (λ z. a * z) number ∙ sum in
        let some : 1 * h.nexts ≤ a * h.nexts = mul-le-mul_right {m = 1} {n = a} h.nexts some_a in
        let none : h.nexts ≡ 0 = omega (arith, low, left, right, some, is) in
        let whole : tokens_of net h.places ≡ m = omega (arith, number, none) in
        subst (IsCommonOfPart net a b c) whole (stays.made (omega (arith, low, left, right, some, is, none)))

    -- the dates of rounds
    round_date : (r : ℕ) → y c (1 + r * M) ≡ At (pos (r * T))
    round_date r = exact (y c (1 + r * M)) refl (at_least r 0 (1 + r * M) (omega arith)) where
      exact : (date : Date) → y c (1 + r * M) ≡ date → IsAtMostDate (At (pos (r * T))) (y c (1 + r * M)) → y c (1 + r * M) ≡ At (pos (r * T))
      exact date e low = ⊎_elim
          (λ early. absurd (subst (λ z. IsAtMostDate (At (pos (r * T))) z) early.0 low))
          (λ some.
          let w : ℕ = walk_time net some.0 in
          let up : b * w ≤ a * (r * M) = below_rate (r * M) w some.2 in
          let rate = on_rate r in
          let high : w ≤ r * T = cancel w (r * T) b some_b (let f : w * b ≡ b * w = grind arith in let g : r * T * b ≡ b * (r * T) = grind arith in omega (arith, up, rate, f, g)) in
          let at : IsAtMostDate (At (pos (r * T))) (At (pos w)) = subst (λ z. IsAtMostDate (At (pos (r * T))) z) some.2 low in
          let is : w ≡ r * T = omega (arith, ints, high, at) in
          some.2 ∙ ap (λ z. At (pos z)) is)
          (times c (1 + r * M) c_in (omega arith)).reached

    module _ (after L : ℕ) (step : ℤ) (again : (k : ℕ) → after < k → y c (k + L) ≡ move step (y c k)) where
      abbrev r : ℕ
      r = after + 1

      far : r ≤ r * M
      far = let e : r * 1 ≡ r = omega arith in let l : r * 1 ≤ r * M = mul-le-mul_left {m = 1} {n = M} r some_m in omega (arith, e, l)

      next : y c ((1 + r * M) + L) ≡ At (pos (r * T) +ℤ step)
      next = again (1 + r * M) (let l = far in omega (arith, l)) ∙ ap (move step) (round_date r)

      whole_step : (s : ℤ) → step ≡ s → (n : ℕ) × (step ≡ pos n)
      whole_step (pos n) e = (n, e)
      whole_step (negsuc n) e =
          let low : IsAtMostDate (At (pos (r * T))) (y c ((1 + r * M) + L)) = at_least r L ((1 + r * M) + L) (omega arith) in
          let up : IsAtMostDate (At (pos (r * T))) (At (pos (r * T) +ℤ negsuc n)) = subst (λ z. IsAtMostDate (At (pos (r * T))) z) (next ∙ ap (λ z. At (pos (r * T) +ℤ z)) e) low in
          absurd (omega (arith, ints, up))

      abbrev s : ℕ
      s = (whole_step step refl).0

      go : (i : ℕ) → y c ((1 + r * M) + i * L) ≡ At (pos (r * T + i * s))
      go zero =
          let e : (1 + r * M) + 0 * L ≡ 1 + r * M = omega arith in
          let f : r * T ≡ r * T + 0 * s = omega arith in
          ap (y c) e ∙ round_date r ∙ ap (λ z. At (pos z)) f
      go (suc i) =
          let old = go i in
          let e : (1 + r * M) + suc i * L ≡ ((1 + r * M) + i * L) + L = grind arith in
          let on = again ((1 + r * M) + i * L) (let l = far in omega (arith, l)) in
          let is : step ≡ pos s = (whole_step step refl).1 in
          let f : (pos (r * T + i * s) +ℤ pos s) ≡ pos (r * T + i * s + s) = omega (arith, ints) in
          let g : r * T + i * s + s ≡ r * T + suc i * s = grind arith in
          ap (y c) e ∙ on ∙ ap (λ z. move z (y c ((1 + r * M) + i * L))) is ∙ ap (move (pos s)) old ∙ ap At f ∙ ap (λ z. At (pos z)) g

      rate : b * s ≡ a * L
      rate =
          let e : (1 + r * M) + M * L ≡ 1 + (r + L) * M = grind arith in
          let there : At (pos (r * T + M * s)) ≡ At (pos ((r + L) * T)) = sym (go M) ∙ ap (y c) e ∙ round_date (r + L) in
          let up = at_most_is (At (pos (r * T + M * s))) (At (pos ((r + L) * T))) there in
          let down = at_most_is (At (pos ((r + L) * T))) (At (pos (r * T + M * s))) (sym there) in
          let spread : (r + L) * T ≡ r * T + L * T = grind arith in
          let same : M * s ≡ L * T = omega (arith, ints, up, down, spread) in
          let one : b * s * M ≡ b * (M * s) = grind arith in
          let two : b * (M * s) ≡ b * (L * T) = ap (λ z. b * z) same in
          let three = on_rate L in
          let four : a * (L * M) ≡ a * L * M = grind arith in
          equal (b * s) (a * L) (one ∙ two ∙ three ∙ four) where
            equal : (m n : ℕ) → m * M ≡ n * M → m ≡ n
            equal m n e =
                let up = cancel m n M some_m (omega (arith, e)) in
                let down = cancel n m M some_m (omega (arith, e)) in
                omega (arith, up, down)

      made : IsCommonOfPart net a b c L
      made =
          let is : (1 + r * M) + 1 * L ≡ 1 + (r * M + L) = omega arith in
          let line : b * (r * T + 1 * s) ≡ a * (r * M + L) =
          (let e : b * (r * T + 1 * s) ≡ b * (r * T) + b * s = grind arith in
          let f : a * (r * M + L) ≡ a * (r * M) + a * L = grind arith in
          let g = on_rate r in
          let h = rate in
          omega (arith, e, f, g, h)) in
          let two = on_line (r * M + L) (r * T + 1 * s) (ap (y c) (sym is) ∙ go 1) line in
          let none : b * 0 ≡ a * 0 = omega arith in
          let own : IsCircuitOfCriticalPart net a b c ps =
          record { circuit = critical.circuit; at = c; round = critical.at; critical = critical.critical; there = []; back = []; to = refl; from = refl; way = none } in (
            ps ∷ two.0,
            All-cons (IsCircuitOfCriticalPart net a b c) ps two.0 own two.1,
            λ d all. beyond_rounds d r M L (all 0 ps (omega arith)) (two.2 d (All-tail (λ qs. d ∣ tokens_of net qs) ps two.0 all)),
          )

pub transfers_are_common : TransfersAreCommon
transfers_are_common net live a b some_a c ps c_in critical greatest f h =
    made net a b c greatest live some_a c_in ps critical h.0 h.1 f.after f.period (step_of_form f c)
    (λ k past. h.2.stands.repeats.again c k c_in past)

released_periodic : (c t : ℕ) → IsPeriodic (released_alone c t)
released_periodic c t = record {
  after = 0;
  period = 1;
  step = pos 0;
  at_least_one = omega arith;
  rises = λ k o. at_most_refl (released_alone c t k);
  again = λ k l. sym (move_zero (released_alone c t k));
}

pub transfers_exist : SystemsSettle → TransfersExist
transfers_exist law net ends live c c_in =
    let ranked = live_is_ranked net ends live in
    let found = law net ends live no_tokens (released_alone c) (λ t l. released_periodic c t) in (
      found.2,
      (
        found.0,
        (λ t k l o. times_from net c t k (found.0 t k) c_in
            (least_in_is_walk net no_tokens (released_alone c) ranked.0 ranked.1 ends ranked.2 found.0 found.1 t k l o)),
        found.3,
      ),
    )
