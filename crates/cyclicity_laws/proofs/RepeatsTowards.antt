-- The dates of a transition repeat by each number that is common by what leads to it at its slope.
use Rattle.std.proofs.Common.{ℕ, pos, ◌+◌, ◌*◌, ◌/◌, ◌<◌, ◌≤◌, ◌≡◌, List, [], ◌++◌, Some, length, refl, sym, ap, subst, ◌∙◌, arith, ⊎_elim}
use Rattle.std.proofs.lemmas.Bool.{cases_lt}
use Rattle.std.proofs.lemmas.Int.{ints}
use Rattle.std.proofs.lemmas.Nat.{div-add-mod'}
use Rattle.std.proofs.lemmas.Nat.Gcd.{mod-eq-zero_of_dvd}
use Rattle.std.proofs.Math.Nat.{mul-le-mul_left, mul-le-mul_right}
use Rattle.bound_laws.specs.dioid.declared.dates.Date.{Date}
use Rattle.bound_laws.specs.dioid.declared.dates.Date.TheVariants.{At}
use Rattle.bound_laws.specs.dioid.Dates.{IsAtMostDate, delayed}
use Rattle.bound_laws.specs.teg_net.declared.entries.PlaceId.{PlaceId}
use Rattle.bound_laws.specs.teg_net.Limits.{greatest_every, most_input_dates}
use Rattle.bound_laws.specs.teg_net.Nets.{NetLists, HasEndsInRange, HasListsOfInputs, HasRisingLists, HasListsByRule}
use Rattle.bound_laws.specs.teg_net.Circuits.{IsPathBetween, IsLive, time_of, tokens_of}
use Rattle.bound_laws.specs.teg_net.Parts.{Reaches}
use Rattle.bound_laws.specs.teg_net.Inputs.{input_date}
use Rattle.bound_laws.specs.teg_net.Walks.{walk_time}
use Rattle.bound_laws.proofs.teg_net_proofs.Bounds.{date_bound}
use Rattle.bound_laws.proofs.teg_net_proofs.PathLaws.{IsPathBetween-append}
use Rattle.bound_laws.proofs.teg_loops_proofs.Visits.{FirstVisit, first_visit}
use Rattle.bound_laws.specs.teg_model.Datings.{IsLeastDating, listed_releases, as_date}
use Rattle.bound_laws.specs.teg_model.Starts.{start_of_firing}
use Rattle.bound_laws.specs.teg_model.WalkDates.{IsDateOfWalk, IsGreatestOfWalks}
use Rattle.growth_laws.proofs.teg_model_proofs.GreatestWalks.{least_is_walk}
use Rattle.growth_laws.proofs.teg_model_proofs.LiveRanks.{live_is_ranked}
use Rattle.growth_laws.proofs.teg_model_proofs.Tokens.{dates_climb}
use Rattle.growth_laws.proofs.teg_model_proofs.WalkSteps.{Keeps}
use Rattle.growth_laws.proofs.number_laws_proofs.Numbers.{some_of}
use Rattle.periodic_laws.specs.RepeatNumbers.{repeats_past, repeats_in}
use Rattle.periodic_laws.specs.LinearSystem.{LeastDatingsRepeat}
use Rattle.slope_laws.specs.Slopes.{IsSlope}
use Rattle.slope_laws.proofs.EndedLists.{dates_by_list, input_of}
use Rattle.slope_laws.proofs.Lower.{path_keeps, climb_many}
use Rattle.slope_laws.proofs.Slopes.{least_keeps}
use Rattle.slope_laws.proofs.Starts.{Behind}
use Rattle.slope_laws.proofs.WalkPaths.{IsPathOf, walk_path}
use Rattle.bound_laws.proofs.Onward.{PutIn, put_in}
use Rattle.growth_laws.specs.Growth.{IsEndless}
use Rattle.growth_laws.proofs.Growth.{cancel, unit, is_number, on_by, on, near, slope_of, lists_repeat, slopes_are_one}
use Rattle.cyclicity_laws.specs.PartsTowards.{IsCommonTowards, DatesRepeatByParts}
use Rattle.cyclicity_laws.proofs.Lines.{rise_by}
use Rattle.cyclicity_laws.proofs.Rounds.{IsRound, ComesRound, repeated, comes_round}
use Rattle.cyclicity_laws.proofs.CriticalWalks.{MeetsCritical, LosesMuch, most_tokens, most_time, meets_or_loses}
use Rattle.cyclicity_laws.proofs.ListStarts.{IsListStart, IsNumberStart, start_behind_or, start_number, list_on}

-- ---- numbers

-- a line under numbers of another period
pub under : (a b P units v k far : ℕ) → 1 ≤ P → a * P ≡ units * b → units * k ≤ P * v + units * far → a * k ≤ b * v + a * far
under a b P units v k far some same low =
    let more : b * (units * k) ≤ b * (P * v + units * far) = mul-le-mul_left {m = units * k} {n = P * v + units * far} b low in
    let left : a * k * P ≡ k * (a * P) = grind arith in
    let own : k * (a * P) ≡ k * (units * b) = ap (λ z. k * z) same in
    let turned : k * (units * b) ≡ b * (units * k) = grind arith in
    let right : b * (P * v + units * far) ≡ b * v * P + far * (units * b) = grind arith in
    let back : far * (units * b) ≡ far * (a * P) = ap (λ z. far * z) (sym same) in
    let sum : b * v * P + far * (a * P) ≡ (b * v + a * far) * P = grind arith in
    cancel (a * k) (b * v + a * far) P some (omega (arith, more, left, own, turned, right, back, sum))

-- a walk that loses much from a start that is behind is short
pub short_walk : (a b E D M low Q C v sd time tokens loops j nexts k : ℕ) → 1 ≤ a → 1 ≤ E → a * k ≤ b * v + low → v ≡ sd + time
    → j + E * (b * sd) ≤ E * (a * j) + D → k ≡ j + tokens + nexts → b * time + loops ≤ a * tokens + b * M → tokens ≤ C + C * loops
    → Q ≡ D + E * (b * M) + E * low → k ≤ Q + Q + (C + C * Q)
short_walk a b E D M low Q C v sd time tokens loops j nexts k a_one e_one floor value start number loss few q =
    let floors : E * (a * k) ≤ E * (b * v + low) = mul-le-mul_left {m = a * k} {n = b * v + low} E floor in
    let losses : E * (b * time + loops) ≤ E * (a * tokens + b * M) = mul-le-mul_left {m = b * time + loops} {n = a * tokens + b * M} E loss in
    let line : E * (a * k) ≡ E * (a * (j + tokens + nexts)) = ap (λ z. E * (a * z)) number in
    let parts : E * (a * (j + tokens + nexts)) ≡ E * (a * j) + E * (a * tokens) + E * (a * nexts) = grind arith in
    let date : E * (b * v + low) ≡ E * (b * (sd + time) + low) = ap (λ z. E * (b * z + low)) value in
    let dates : E * (b * (sd + time) + low) ≡ E * (b * sd) + E * (b * time) + E * low = grind arith in
    let left : E * (b * time + loops) ≡ E * (b * time) + E * loops = grind arith in
    let right : E * (a * tokens + b * M) ≡ E * (a * tokens) + E * (b * M) = grind arith in
    let all : j + E * (a * nexts) + E * loops ≤ Q = omega (arith, floors, losses, line, parts, date, dates, left, right, start, q) in
    let nexts_in : nexts ≤ Q = omega (arith, wide a nexts a_one, wide E (a * nexts) e_one, all) in
    let loops_in : loops ≤ Q = omega (arith, wide E loops e_one, all) in
    let begun : j + nexts ≤ Q = omega (arith, wide a nexts a_one, wide E (a * nexts) e_one, all) in
    let many : C * loops ≤ C * Q = mul-le-mul_left {m = loops} {n = Q} C loops_in in
    omega (arith, begun, many, few, number) where
      wide : (m n : ℕ) → 1 ≤ m → n ≤ m * n
      wide m n l = let e : 1 * n ≡ n = omega arith in let g : 1 * n ≤ m * n = mul-le-mul_right {m = 1} {n = m} n l in omega (arith, e, g)

-- by a later date, less what its periods add
pub less_periods : (a b P L N units v w later rise : ℕ) → a * P ≡ units * b → b * rise ≡ a * (L + N * P) → v + rise ≤ later → later ≡ w + N * units → b * v + a * L ≤ b * w
less_periods a b P L N units v w later rise same critical low is =
    let more : b * (v + rise) ≤ b * (w + N * units) = mul-le-mul_left {m = v + rise} {n = w + N * units} b (omega (arith, low, is)) in
    let left : b * (v + rise) ≡ b * v + b * rise = grind arith in
    let right : b * (w + N * units) ≡ b * w + N * (units * b) = grind arith in
    let spread : a * (L + N * P) ≡ a * L + N * (a * P) = grind arith in
    let own : N * (a * P) ≡ N * (units * b) = ap (λ z. N * z) same in
    omega (arith, more, left, right, critical, spread, own)

pub at_most_numbers : (d e : Date) (m n : ℕ) → d ≡ At (pos m) → e ≡ At (pos n) → IsAtMostDate d e → m ≤ n
at_most_numbers d e m n f g h = let l : IsAtMostDate (At (pos m)) (At (pos n)) = rw (f, g) at h in omega (arith, ints, l)

pub later_number : (time m : ℕ) → delayed time (At (pos m)) ≡ At (pos (m + time))
later_number time m = ap At (omega (arith, ints))

pub both_some : (m n : ℕ) → 1 ≤ m → 1 ≤ n → 1 ≤ m * n
both_some m n h k = let e : 1 * n ≡ n = omega arith in let l : 1 * n ≤ m * n = mul-le-mul_right {m = 1} {n = m} n h in omega (arith, e, l, k)

pub in_periods : (a L m n rise : ℕ) → rise ≡ a * (L + m) → m ≡ n → rise ≡ a * (L + n)
in_periods a L m n rise e f = e ∙ ap (λ z. a * (L + z)) f

by_gaps : (a b L P m every gap : ℕ) → b * gap ≡ a * every → m * every ≡ L → b * (m * gap) ≡ a * (L + 0 * P)
by_gaps a b L P m every gap rate whole =
    let up : b * (m * gap) ≡ m * (b * gap) = grind arith in
    let turned : m * (a * every) ≡ a * (m * every) = grind arith in
    let is : m * every ≡ L + 0 * P = omega (arith, whole) in
    up ∙ ap (λ z. m * z) rate ∙ turned ∙ ap (λ z. a * z) is

-- ---- past this number each walk of a date meets a critical circuit, or begins with a list of the slope

abbrev pub loss_most : NetLists → ℕ → ℕ → ℕ
loss_most net a b =
    (most_input_dates + greatest_every * (b * date_bound net)) + greatest_every * (b * most_time net) + greatest_every * (a * (repeats_past net + repeats_in net))

abbrev pub far_of : NetLists → ℕ → ℕ → ℕ
far_of net a b = (loss_most net a b + loss_most net a b + (most_tokens net + most_tokens net * loss_most net a b)) + repeats_past net

-- ---- a transition that no ended list reaches

module _ (repeat : LeastDatingsRepeat) (net : NetLists) (ends : HasEndsInRange net) (inputs : HasListsOfInputs net) (rising : HasRisingLists net) (rules : HasListsByRule net)
    (live : IsLive net) (x : ℕ → ℕ → Date) (least : IsLeastDating net x) (t : ℕ) (lt : t < length net.transitions) (endless : IsEndless net t) (a b : ℕ) (some_b : 1 ≤ b) (slope : IsSlope net t b a) where
  abbrev P : ℕ
  P = repeats_in net

  abbrev K : ℕ
  K = repeats_past net

  abbrev Q : ℕ
  Q = loss_most net a b

  abbrev far : ℕ
  far = far_of net a b

  some : 1 ≤ P
  some = (repeat net ends rising rules live x least).at_least_one

  abbrev v : ℕ → ℕ → ℕ
  v c k = unit (x c k)

  same_date : (m n : ℕ) → m ≡ n → v t m ≡ v t n
  same_date m n e = ap (v t) e

  itself : Reaches net t t
  itself = ([], refl)

  -- nor does one reach what leads to it
  endless_before : (c : ℕ) → Reaches net c t → IsEndless net c
  endless_before c r l w = endless l (record {
    of_net = w.of_net;
    ends = w.ends;
    reaches = (w.reaches.0 ++ r.0, IsPathBetween-append net w.reaches.0 r.0 l.transition.index c t w.reaches.1 r.1);
  })

  is_v : (c k : ℕ) → c < length net.transitions → Reaches net c t → 1 ≤ k → x c k ≡ At (pos (v c k))
  is_v c k l r one = is_number repeat net ends inputs rising rules live x least c l (endless_before c r) k one

  units : (u : ℕ) × (a * P ≡ u * b) × ((k : ℕ) → K < k → v t (k + P) ≡ v t k + u)
  units =
      let w = slope_of repeat net ends inputs rising rules live x least t lt endless in (
        w.0,
        slopes_are_one net live t a b w.0 P (lists_repeat net rules t) some_b some slope w.2,
        λ k m. on_by repeat net ends inputs rising rules live x least t lt endless k m,
      )

  floor : (k : ℕ) → a * k ≤ b * v t k + a * (K + P)
  floor k =
      let u = units in
      let low = (near (v t) K P u.0 some u.2 k).0 in
      under a b P u.0 (v t k) k (K + P) some u.1 low

  climbs : (c j : ℕ) → c < length net.transitions → 1 ≤ j → IsAtMostDate (x c j) (x c (j + 1))
  climbs c j l one = dates_climb net (listed_releases net) x least.feasible c j l one

  on_from : (k j : ℕ) → 1 ≤ k → v t k ≤ v t (k + j)
  on_from k j one =
      at_most_numbers (x t k) (x t (k + j)) (v t k) (v t (k + j)) (is_v t k lt itself one) (is_v t (k + j) lt itself (omega (arith, one)))
      (climb_many x t (λ i o. climbs t i lt o) k j one)

  walks : (c k : ℕ) → c < length net.transitions → 1 ≤ k → IsGreatestOfWalks net (listed_releases net) c k (x c k)
  walks c k l one =
      let ranked = live_is_ranked net ends live in
      least_is_walk net (listed_releases net) x ranked.0 ranked.1 ends ranked.2 least c k l one

  -- no date comes before its start
  from_start : (c j sd : ℕ) → c < length net.transitions → Reaches net c t → 1 ≤ j → start_of_firing net (listed_releases net) c j ≡ At (pos sd) → sd ≤ v c j
  from_start c j sd l r one start =
      let st : Date = start_of_firing net (listed_releases net) c j in
      let up = (walks c j l one).greatest (delayed (walk_time net []) st)
      (record { from = c; number = j; steps = []; start = st; from_in = l; from_one = one; walk = (refl, refl); starts = refl; is = refl }) in
      let e : delayed (walk_time net []) st ≡ At (pos (sd + walk_time net [])) = ap (delayed (walk_time net [])) start ∙ later_number (walk_time net []) sd in
      let low = at_most_numbers (delayed (walk_time net []) st) (x c j) (sd + walk_time net []) (v c j) e (is_v c j l r one) up in
      omega (arith, low)

  -- a path carries dates, also from some numbers on
  carries : (ps : List PlaceId) (c j nexts : ℕ) → c < length net.transitions → 1 ≤ j → IsPathBetween net c ps t → v c j + time_of net ps ≤ v t ((j + nexts) + tokens_of net ps)
  carries ps c j nexts lc one h =
      let keeps : Keeps net x = least_keeps net x least in
      let r : Reaches net c t = (ps, h) in
      let rise = climb_many x c (λ k o. climbs c k lc o) j nexts one in
      let up = at_most_numbers (x c j) (x c (j + nexts)) (v c j) (v c (j + nexts)) (is_v c j lc r one) (is_v c (j + nexts) lc r (omega (arith, one))) rise in
      let on = path_keeps net x keeps ps c t (j + nexts) (omega (arith, one)) h in
      let e : delayed (time_of net ps) (x c (j + nexts)) ≡ At (pos (v c (j + nexts) + time_of net ps)) =
      ap (delayed (time_of net ps)) (is_v c (j + nexts) lc r (omega (arith, one))) ∙ later_number (time_of net ps) (v c (j + nexts)) in
      let more = at_most_numbers (delayed (time_of net ps) (x c (j + nexts))) (x t ((j + nexts) + tokens_of net ps))
      (v c (j + nexts) + time_of net ps) (v t ((j + nexts) + tokens_of net ps)) e (is_v t ((j + nexts) + tokens_of net ps) lt itself (omega (arith, one))) on in
      omega (arith, up, more)

  -- the walk of a date
  record IsBestWalk (k : ℕ) : Type 0 where
    from : ℕ
    number : ℕ
    nexts : ℕ
    places : List PlaceId
    start : ℕ
    from_in : from < length net.transitions
    from_one : 1 ≤ number
    path : IsPathBetween net from places t
    starts : start_of_firing net (listed_releases net) from number ≡ At (pos start)
    date : v t k ≡ start + time_of net places
    count : k ≡ number + tokens_of net places + nexts

  best : (k : ℕ) → 1 ≤ k → IsBestWalk k
  best k one =
      let w : IsDateOfWalk net (listed_releases net) t k (x t k) = (walks t k lt one).reached in
      let path : IsPathOf net w.steps w.from w.number t k = walk_path net w.steps w.from w.number t k w.walk in
      let e : delayed (walk_time net w.steps) (start_of_firing net (listed_releases net) w.from w.number) ≡ At (pos (v t k)) =
      ap (delayed (walk_time net w.steps)) (sym w.starts) ∙ sym w.is ∙ is_v t k lt itself one in
      let s : IsNumberStart (start_of_firing net (listed_releases net) w.from w.number) (walk_time net w.steps) (v t k) =
      start_number net w.from w.number (walk_time net w.steps) (v t k) e in
      record {
        from = w.from;
        number = w.number;
        nexts = path.nexts;
        places = path.places;
        start = s.at;
        from_in = w.from_in;
        from_one = w.from_one;
        path = path.path;
        starts = s.is;
        date = s.sum ∙ ap (λ z. s.at + z) path.time;
        count = path.number;
      }

  module _ (L : ℕ) (one : 1 ≤ L) (common_if : 1 ≤ a → IsCommonTowards net t a b L) where
    -- firings later by L and some periods, the date is later at the rate of the slope
    record IsLaterBy (k : ℕ) : Type 0 where
      times : ℕ
      rise : ℕ
      critical : b * rise ≡ a * (L + times * P)
      later : v t k + rise ≤ v t (k + (L + times * P))

    -- by ways round the critical transition that its walk meets
    by_rounds : (k : ℕ) → IsCommonTowards net t a b L → (w : IsBestWalk k) → MeetsCritical net a b t w.places → IsLaterBy k
    by_rounds k common w m =
        let visit : FirstVisit net w.from t m.at w.places = first_visit net m.at w.places w.from t w.path m.meets in
        let chosen = common.parts m.at m.circuit m.critical (visit.after, visit.last) in
        let tokens_some : 1 ≤ tokens_of net m.circuit = some_of (tokens_of net m.circuit) (live m.circuit m.critical.circuit) in
        let period : ℕ = P * tokens_of net m.circuit in
        let own : IsRound net a b m.at (tokens_of net m.circuit) = record { places = m.circuit; closed = m.critical.at; critical = m.critical.critical; tokens = refl } in
        let round : ComesRound net a b m.at period L =
        comes_round net a b m.at period (both_some P (tokens_of net m.circuit) some tokens_some)
        (repeated net a b m.at P (tokens_of net m.circuit) own) L chosen.0 chosen.1 chosen.2 in
        let cs : List PlaceId = round.round.places in
        let times : ℕ = round.times * tokens_of net m.circuit in
        let periods : round.times * period ≡ times * P = grind arith in
        let put : PutIn net w.from t 1 w.places cs = put_in net w.from t m.at 1 w.places cs w.path m.meets round.round.closed in
        let more = carries put.walk w.from w.number w.nexts w.from_in w.from_one put.leads in
        let begin = from_start w.from w.number w.start w.from_in (w.places, w.path) w.from_one w.starts in
        let longer = put.time in
        let tokens = put.tokens in
        let rounds = round.round.tokens in
        let value = w.date in
        let number = w.count in
        let same : (w.number + w.nexts) + tokens_of net put.walk ≡ k + (L + times * P) = omega (arith, number, tokens, rounds, periods) in
        let there = same_date ((w.number + w.nexts) + tokens_of net put.walk) (k + (L + times * P)) same in
        record {
          times = times;
          rise = time_of net cs;
          critical = in_periods a L (round.times * period) (times * P) (b * time_of net cs) round.round.critical periods;
          later = omega (arith, more, begin, longer, value, there);
        }

    -- by later dates of the list with which its walk begins
    by_list : (k : ℕ) → IsCommonTowards net t a b L → (w : IsBestWalk k) → IsListStart net t b a w.from w.number w.start → IsLaterBy k
    by_list k common w s =
        let c : ℕ = s.list.transition.index in
        let every : ℕ = s.again.every in
        let gap : ℕ = s.again.gap in
        let at_most = slope.lists s.list s.again s.towards in
        let at_least = s.keeps_up in
        let rate : b * gap ≡ a * every = omega (arith, at_most, at_least) in
        let m : ℕ = L / every in
        let whole : m * every ≡ L = (let rest = mod-eq-zero_of_dvd every (common.lists s.list s.again s.towards rate) in let parts = div-add-mod' L every in omega (arith, rest, parts)) in
        let later : input_date net c (w.number + m * every) ≡ Some (w.start + m * gap) =
        list_on s.list s.again (input_date net c) (dates_by_list net s.list inputs rules s.towards.of_net) s.towards.goes_on m w.number w.start s.past s.given in
        let release : listed_releases net c (w.number + m * every) ≡ At (pos (w.start + m * gap)) = ap as_date later in
        let lc : c < length net.transitions = subst (λ z. z < length net.transitions) (sym s.here) w.from_in in
        let path : IsPathBetween net c w.places t = subst (λ z. IsPathBetween net z w.places t) (sym s.here) w.path in
        let some_j : 1 ≤ w.number + m * every = (let o = w.from_one in omega (arith, o)) in
        let below = least.feasible.inputs c (w.number + m * every) some_j (input_of net s.list inputs s.towards.of_net) in
        let low = at_most_numbers (listed_releases net c (w.number + m * every)) (x c (w.number + m * every)) (w.start + m * gap) (v c (w.number + m * every))
        release (is_v c (w.number + m * every) lc (w.places, path) some_j) below in
        let more = carries w.places c (w.number + m * every) w.nexts lc some_j path in
        let number = w.count in
        let value = w.date in
        let same : ((w.number + m * every) + w.nexts) + tokens_of net w.places ≡ k + (L + 0 * P) = omega (arith, number, whole) in
        let there = same_date (((w.number + m * every) + w.nexts) + tokens_of net w.places) (k + (L + 0 * P)) same in
        record {
          times = 0;
          rise = m * gap;
          critical = by_gaps a b L P m every gap rate whole;
          later = omega (arith, more, low, value, there);
        }

    -- one that meets none is too short, or begins with such a list
    by_start : (k : ℕ) → 1 ≤ a → far < k → (w : IsBestWalk k) → LosesMuch net a b w.places → IsLaterBy k
    by_start k some_a past w o = ⊎_elim
        (λ (behind : Behind (date_bound net) b a w.number w.start).
        let few = short_walk a b greatest_every (most_input_dates + greatest_every * (b * date_bound net)) (most_time net) (a * (K + P)) Q (most_tokens net) (v t k) w.start
        (time_of net w.places) (tokens_of net w.places) o.loops w.number w.nexts k some_a (omega arith) (floor k) w.date behind w.count o.loss o.few refl in
        absurd (omega (arith, few, past)))
        (λ (s : IsListStart net t b a w.from w.number w.start). by_list k (common_if some_a) w s)
        (start_behind_or net inputs rules t b a some_a w.from w.number w.start w.from_one (w.places, w.path) w.starts)

    by_walk : (k : ℕ) → 1 ≤ a → far < k → IsBestWalk k → IsLaterBy k
    by_walk k some_a past w = ⊎_elim
        (λ (m : MeetsCritical net a b t w.places). by_rounds k (common_if some_a) w m)
        (λ (o : LosesMuch net a b w.places). by_start k some_a past w o)
        (meets_or_loses net a b ends w.from t (λ qs c. slope.circuits qs (record { circuit = c.circuit; at = c.at; round = c.round; towards = c.towards })) lt w.places w.path)

    later : (k : ℕ) → 1 ≤ a → far < k → IsLaterBy k
    later k some_a past = by_walk k some_a past (best k (omega (arith, past)))

    -- so it rises by at least a for b in L firings
    rises : (k : ℕ) → far < k → b * v t k + a * L ≤ b * v t (k + L)
    rises k past = ⊎_elim
        (λ (some_a : 0 < a).
        let w = later k some_a past in
        let u = units in
        let is : k + (L + w.times * P) ≡ (k + L) + w.times * P = omega arith in
        let periods : v t ((k + L) + w.times * P) ≡ v t (k + L) + w.times * u.0 = on (v t) K P u.0 some u.2 w.times (k + L) (omega (arith, past)) in
        less_periods a b P L w.times u.0 (v t k) (v t (k + L)) (v t (k + (L + w.times * P))) w.rise u.1 w.critical w.later (ap (v t) is ∙ periods))
        (λ (none : a ≤ 0).
        let zero_a : a ≡ 0 = omega (arith, none) in
        let nothing : a * L ≡ 0 = rw zero_a (omega arith) in
        let up : b * v t k ≤ b * v t (k + L) = mul-le-mul_left {m = v t k} {n = v t (k + L)} b (on_from k L (omega (arith, past))) in
        omega (arith, up, nothing))
        (cases_lt 0 a)

    repeats : (step : ℕ) × (b * step ≡ a * L) × ((k : ℕ) → far < k → x t (k + L) ≡ delayed step (x t k))
    repeats =
        let u = units in
        let r = rise_by (v t) a b P K u.0 L far some_b some u.1 u.2 (omega arith) rises in (
          r.0,
          r.1,
          λ k past.
              let some_k : 1 ≤ k = omega (arith, past) in
              let there : x t (k + L) ≡ At (pos (v t (k + L))) = is_v t (k + L) lt itself (omega (arith, past)) in
              let here : x t k ≡ At (pos (v t k)) = is_v t k lt itself some_k in
              there ∙ ap (λ z. At (pos z)) (r.2 k past) ∙ sym (ap (delayed r.0) here ∙ later_number r.0 (v t k)),
        )

pub repeat_by_parts : LeastDatingsRepeat → DatesRepeatByParts
repeat_by_parts repeat net ends inputs rising rules live x least t lt endless a b some_b slope L one common =
    let w = repeats repeat net ends inputs rising rules live x least t lt endless a b some_b slope L one common in
    record { after = far_of net a b; step = w.0; rate = w.1; again = w.2 }
