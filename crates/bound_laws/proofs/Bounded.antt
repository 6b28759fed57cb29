-- Past the bound the least dates go on by steps.
use Rattle.std.proofs.Common.{ℕ, zero, suc, ◌+◌, ◌-◌, ◌*◌, ◌<◌, ◌≤◌, ◌≡◌, pos, map, List, [], ◌∷◌, length, refl, sym, ap, subst, ◌∙◌, arith, ⊎_elim, ◌⊎◌}
use Rattle.std.specs.Prelude.{sum_by}
use Rattle.std.specs.List.{range_with_len}
use Rattle.std.proofs.lemmas.Int.{ints}
use Rattle.std.proofs.lemmas.Bool.{cases_lt}
use Rattle.std.proofs.lemmas.List.{get_or-append_right, length-append}
use Rattle.std.proofs.lemmas.List.FromFn.{get_or-map-range_with_len, length-map-range_with_len}
use Rattle.std.proofs.Math.Nat.{mul-le-mul_right, mul-le-mul_left}
use Rattle.settled_laws.specs.dioid.declared.dates.Date.{Date}
use Rattle.settled_laws.specs.dioid.declared.dates.Date.TheVariants.{At}
use Rattle.settled_laws.specs.dioid.Dates.{delayed}
use Rattle.settled_laws.specs.teg_net.declared.entries.PlaceId.{PlaceId}
use Rattle.settled_laws.specs.teg_net.declared.entries.Place.{Place}
use Rattle.settled_laws.specs.teg_net.Nets.{NetLists, HasEndsInRange}
use Rattle.settled_laws.specs.teg_net.Circuits.{no_place, place_at, from_of, IsPathBetween, IsCircuit, IsLive, time_of, tokens_of}
use Rattle.settled_laws.proofs.teg_net_proofs.NetRules.{net_ends}
use Rattle.settled_laws.proofs.teg_net_proofs.PathLaws.{IsPathBetween-in_range}
use Rattle.settled_laws.specs.teg_model.Datings.{IsLeastDating, extended_places, implicit_place}
use Rattle.teg_loops.specs.Loops.{EndsBelow}
use Rattle.teg_loops.proofs.Ends.{ends_below}
use Rattle.teg_loops.proofs.Taking.{Keeps, sum_most}
use Rattle.teg_loops.proofs.Straight.{loop_short}
use Rattle.bound_laws.proofs.Best.{Setting, IsCriticalIn}
use Rattle.bound_laws.proofs.Onward.{IsCommonIn, goes_on, start_in}
use Rattle.bound_laws.specs.Critical.{IsCriticalAt, IsCommon, IsStrong}
use Rattle.std.proofs.lemmas.List.Sums.{sum_by-cons}
use Rattle.settled_laws.proofs.number_laws_proofs.Numbers.{some_of}
use Rattle.teg_loops.proofs.Taking.{closed_keeps}
use Rattle.bound_laws.specs.PastTheBound.{DatesGoOnPastTheBound, factorial, FactorialsAreCommon, StepsAreWhole, StillNetsStayAtZero}
use Rattle.bound_laws.proofs.Unrolled.{unrolled, ends_in, own_is, own_path, path_in, same_sums, once_in, IsWait, kinds}
use Rattle.bound_laws.proofs.WalkTimes.{AreWalkTimes, times_of, walk_times, Waiting, waiting}

-- each extended place keeps what the net's and the implicit ones keep
in_unrolled : (net : NetLists) (P : Place → Type 0) → ((id : PlaceId) → id.index < length net.places → P (place_at net id)) → ((t : ℕ) → t < length net.transitions → P (implicit_place t))
    → (id : PlaceId) → id.index < length (extended_places net) → P (place_at (unrolled net) id)
in_unrolled net P own wait id l =
    let n : ℕ = length net.transitions in
    let waits : List Place = map implicit_place (range_with_len 0 n) in
    let size = length-append net.places waits in
    let long = length-map-range_with_len implicit_place 0 n in
    ⊎_elim
    (λ (low : id.index < length net.places). subst P (sym (own_is net id low)) (own id low))
    (λ (high : length net.places ≤ id.index).
    let t : ℕ = id.index - length net.places in
    let within : t < n = omega arith in
    subst P (sym (get_or-append_right net.places waits (length net.places) id.index no_place refl high
    ∙ get_or-map-range_with_len implicit_place 0 n t t no_place within (omega arith))) (wait t within))
    (cases_lt id.index (length net.places))

-- a circuit of the net is one of the net with its implicit places, and has the same sums
own_circuit : (net : NetLists) (ps : List PlaceId) → IsCircuit net ps → IsCircuit (unrolled net) ps
own_circuit net ps c = record {
  not_empty = c.not_empty;
  closed = (c.closed.0, path_in net ps c.closed.0 c.closed.0 c.closed.1);
  leaves_once = once_in net ps (IsPathBetween-in_range net ps c.closed.0 c.closed.0 c.closed.1) c.leaves_once;
}

circuit_keeps : (net : NetLists) (hold tokens a b : ℕ) → IsStrong net hold tokens a b → (ps : List PlaceId) → IsCircuit (unrolled net) ps → Keeps (unrolled net) a b ps
circuit_keeps net hold tokens a b s ps c = ⊎_elim
    (λ own.
    let time : time_of (unrolled net) ps ≡ time_of net ps = same_sums net (λ p. p.hold) ps own.0 in
    let marks : tokens_of (unrolled net) ps ≡ tokens_of net ps = same_sums net (λ p. p.tokens) ps own.0 in
    let some : 1 ≤ tokens_of net ps = some_of (tokens_of net ps) (s.live ps own.1) in
    record { some = omega arith; ratio = subst (λ (z : ℕ). b * z ≤ a * tokens_of (unrolled net) ps) (sym time) (subst (λ (z : ℕ). b * time_of net ps ≤ a * z) (sym marks) (s.greatest ps own.1)) })
    (λ (w : IsWait net ps).
    let one = w.tokens in
    record { some = omega arith; ratio = subst (λ (z : ℕ). b * z ≤ a * tokens_of (unrolled net) ps) (sym w.time) (omega arith) })
    (kinds net ps c)

-- a critical circuit of the one is one of the other
critical_in : (net : NetLists) (a b c : ℕ) (ps : List PlaceId) → IsCriticalAt net a b c ps → IsCriticalIn (unrolled net) a b c ps
critical_in net a b c ps h =
    let own = IsPathBetween-in_range net ps c c h.at in
    let time : time_of (unrolled net) ps ≡ time_of net ps = same_sums net (λ p. p.hold) ps own in
    let marks : tokens_of (unrolled net) ps ≡ tokens_of net ps = same_sums net (λ p. p.tokens) ps own in
    record { circuit = own_circuit net ps h.circuit; at = path_in net ps c c h.at; critical = ap (λ (z : ℕ). b * z) time ∙ h.critical ∙ ap (λ (z : ℕ). a * z) (sym marks) }

critical_from : (net : NetLists) (a b c : ℕ) (ps : List PlaceId) → 1 ≤ a → IsCriticalIn (unrolled net) a b c ps → IsCriticalAt net a b c ps
critical_from net a b c ps la h = ⊎_elim
    (λ own.
    let time : time_of (unrolled net) ps ≡ time_of net ps = same_sums net (λ p. p.hold) ps own.0 in
    let marks : tokens_of (unrolled net) ps ≡ tokens_of net ps = same_sums net (λ p. p.tokens) ps own.0 in
    record { circuit = own.1; at = own_path net ps c c h.at own.0; critical = ap (λ (z : ℕ). b * z) (sym time) ∙ h.critical ∙ ap (λ (z : ℕ). a * z) marks })
    (λ (w : IsWait net ps).
    let left : b * time_of (unrolled net) ps ≡ b * 0 = ap (λ (z : ℕ). b * z) w.time in
    let right : a * tokens_of (unrolled net) ps ≡ a * 1 = ap (λ (z : ℕ). a * z) w.tokens in
    let both = h.critical in
    absurd (omega arith))
    (kinds net ps h.circuit)

common_in : (net : NetLists) (a b L : ℕ) → 1 ≤ a → IsCommon net a b L → IsCommonIn (unrolled net) a b L
common_in net a b L la h c ps crit =
    let chosen = h c ps (critical_from net a b c ps la crit) in
    let own = IsPathBetween-in_range net chosen.0 c c chosen.1.at in
    let marks : tokens_of net chosen.0 ≡ tokens_of (unrolled net) chosen.0 = sym (same_sums net (λ p. p.tokens) chosen.0 own) in
    (chosen.0, critical_in net a b c chosen.0 chosen.1, chosen.2, chosen.3 ∙ ap (λ (z : ℕ). chosen.2 * z) marks)

-- enough tokens make a walk long
long_enough : (n tokens len m total : ℕ) → 1 ≤ tokens → m ≤ n * tokens → n * tokens * ((n - 1) * tokens + n * tokens) < total → total ≤ len * tokens → (n - 1) * m + n * m ≤ len
long_enough n tokens len m total one lm far few =
    let w : ℕ = (n - 1) + n in
    let product : (n - 1) * m + n * m ≡ w * m = grind arith in
    ⊎_elim
    (λ (less : len < w * m).
    let first : (len + 1) * tokens ≤ w * m * tokens = mul-le-mul_right {m = len + 1} {n = w * m} tokens (omega arith) in
    let second : w * m * tokens ≤ w * (n * tokens) * tokens = mul-le-mul_right {m = w * m} {n = w * (n * tokens)} tokens (mul-le-mul_left {m = m} {n = n * tokens} w lm) in
    let third : w * (n * tokens) * tokens ≡ n * tokens * ((n - 1) * tokens + n * tokens) = grind arith in
    let fourth : (len + 1) * tokens ≡ len * tokens + tokens = grind arith in
    absurd (omega arith))
    (λ (more : w * m ≤ len). omega arith)
    (cases_lt len (w * m))

setting : (net : NetLists) (hold tokens a b : ℕ) (x : ℕ → ℕ → Date) (s : IsStrong net hold tokens a b) (least : IsLeastDating net x)
    → Setting (unrolled net) (length net.transitions) ((length net.transitions - 1) * tokens) (length net.transitions * tokens)
    ((length net.transitions - 1) * hold) a b (times_of net (net_ends net s.net_rules) s.live s.no_input s.ready_at_zero x least)
setting net hold tokens a b x s least =
    let n : ℕ = length net.transitions in
    let e : NetLists = unrolled net in
    let ends : EndsBelow e n = ends_in net (net_ends net s.net_rules) in
    let marks : (id : PlaceId) → id.index < length e.places → (place_at e id).tokens ≤ tokens =
    λ id l. in_unrolled net (λ p. p.tokens ≤ tokens) (λ i m. s.marks i.index no_place m) (λ t m. s.one) id l in
    let holds : (id : PlaceId) → id.index < length e.places → (place_at e id).hold ≤ hold =
    λ id l. in_unrolled net (λ p. p.hold ≤ hold) (λ i m. s.holds i.index no_place m) (λ t m. omega arith) id l in
    let times : AreWalkTimes net x (times_of net (net_ends net s.net_rules) s.live s.no_input s.ready_at_zero x least) = walk_times net (net_ends net s.net_rules) s.live s.no_input s.ready_at_zero x least in
    let core : IsCriticalIn e a b s.center s.core = critical_in net a b s.center s.core s.attained in
    record {
      ends = ends;
      a_some = s.time_some;
      keeps = circuit_keeps net hold tokens a b s;
      short_tokens = λ ps i j h l. short (λ p. (place_at e p).tokens) tokens n ps i j h l marks;
      short_time = λ ps i j h l. short (λ p. (place_at e p).hold) hold n ps i j h l holds;
      loop_tokens = λ ps c. around (λ p. (place_at e p).tokens) tokens n ps c ends marks;
      waits = λ t l. let w : Waiting net t = waiting net t l in (w.id, w.path, w.tokens);
      leads = λ i j li lj. let way = s.reaches i j li lj in (way.0, path_in net way.0 i j way.1);
      center = s.center;
      center_in = start_in e n s.center s.center s.core ends core.at core.circuit.not_empty;
      core = s.core;
      is_core = core;
      reached = times.reached;
      greatest = times.greatest;
      long = λ ps i j m h lm far. long_enough n tokens (length ps) m (tokens_of e ps) s.one lm far (sum_most (λ p. (place_at e p).tokens) tokens e marks ps i j h);
    } where
      short : (f : PlaceId → ℕ) (most n : ℕ) (ps : List PlaceId) (i j : ℕ) → IsPathBetween (unrolled net) i ps j → length ps < n
          → ((id : PlaceId) → id.index < length (extended_places net) → f id ≤ most) → sum_by f ps ≤ (n - 1) * most
      short f most n ps i j h l each =
          let one = sum_most f most (unrolled net) each ps i j h in
          let two : length ps * most ≤ (n - 1) * most = mul-le-mul_right {m = length ps} {n = n - 1} most (omega arith) in
          omega arith

      around : (f : PlaceId → ℕ) (most n : ℕ) (ps : List PlaceId) → IsCircuit (unrolled net) ps → EndsBelow (unrolled net) n
          → ((id : PlaceId) → id.index < length (extended_places net) → f id ≤ most) → sum_by f ps ≤ n * most
      around f most n ps c ends each =
          let one = sum_most f most (unrolled net) each ps c.closed.0 c.closed.0 c.closed.1 in
          let two : length ps * most ≤ n * most = mul-le-mul_right {m = length ps} {n = n} most (loop_short (unrolled net) n ps ends c) in
          omega arith

moved_on : (y S : ℕ) → At (pos (y + S)) ≡ delayed S (At (pos y))
moved_on y S = ap At (omega (arith, ints))

pub dates_go_on : DatesGoOnPastTheBound
dates_go_on net hold tokens a b s x least L S common step t zero lt far = absurd (omega arith)
dates_go_on net hold tokens a b s x least L S common step t (suc k) lt far =
    let y : ℕ → ℕ → ℕ = times_of net (net_ends net s.net_rules) s.live s.no_input s.ready_at_zero x least in
    let times : AreWalkTimes net x y = walk_times net (net_ends net s.net_rules) s.live s.no_input s.ready_at_zero x least in
    let n : ℕ = length net.transitions in
    let on : y t (k + L) ≡ y t k + S = goes_on (unrolled net) n ((n - 1) * tokens) (n * tokens) ((n - 1) * hold) a b y
    (setting net hold tokens a b x s least) s.tokens_some L S (common_in net a b L s.time_some common) step t k lt (omega arith) in
    let one : suc k + L ≡ k + L + 1 = omega arith in
    let two : k + 1 ≡ suc k = omega arith in
    ap (x t) one ∙ times.is t (k + L) lt ∙ ap (λ (z : ℕ). At (pos z)) on ∙ moved_on (y t k) S ∙ ap (delayed S) (sym (times.is t k lt) ∙ ap (x t) two)

-- ---- a common multiple

product_turned : (m n : ℕ) → m * n ≡ n * m
product_turned m n = grind arith

product_moved : (m n k : ℕ) → m * (n * k) ≡ m * n * k
product_moved m n k = grind arith

in_factorial : (m n : ℕ) → 1 ≤ m → m ≤ n → (u : ℕ) × (factorial n ≡ u * m)
in_factorial m zero one l = absurd (omega arith)
in_factorial m (suc n) one l = ⊎_elim
    (λ (less : m < suc n).
    let old = in_factorial m n one (omega arith) in
    (suc n * old.0, ap (λ (z : ℕ). suc n * z) old.1 ∙ product_moved (suc n) old.0 m))
    (λ (more : suc n ≤ m).
    let is : m ≡ suc n = omega arith in
    (factorial n, product_turned (suc n) (factorial n) ∙ ap (λ (z : ℕ). factorial n * z) (sym is)))
    (cases_lt m (suc n))

pub factorials_are_common : FactorialsAreCommon
factorials_are_common net hold tokens a b s c ps crit =
    let n : ℕ = length net.transitions in
    let some : 1 ≤ tokens_of net ps = some_of (tokens_of net ps) (s.live ps crit.circuit) in
    let one = sum_most (λ p. (place_at net p).tokens) tokens net (λ id l. s.marks id.index no_place l) ps c c crit.at in
    let two : length ps * tokens ≤ n * tokens = mul-le-mul_right {m = length ps} {n = n} tokens (loop_short net n ps (ends_below net (net_ends net s.net_rules)) crit.circuit) in
    let u = in_factorial (tokens_of net ps) (n * tokens) some (omega arith) in
    (ps, crit, u.0, u.1)

whole_step : (a b u m s L : ℕ) → b * s ≡ a * m → L ≡ u * m → b * (u * s) ≡ a * L
whole_step a b u m s L e f =
    let one : b * (u * s) ≡ u * (b * s) = grind arith in
    let two : u * (b * s) ≡ u * (a * m) = ap (λ (z : ℕ). u * z) e in
    let three : u * (a * m) ≡ a * (u * m) = grind arith in
    let four : a * (u * m) ≡ a * L = ap (λ (z : ℕ). a * z) (sym f) in
    omega arith

pub steps_are_whole : StepsAreWhole
steps_are_whole net hold tokens a b L s common =
    let chosen = common s.center s.core s.attained in
    (chosen.2 * time_of net chosen.0, whole_step a b chosen.2 (tokens_of net chosen.0) (time_of net chosen.0) L chosen.1.critical chosen.3)

-- ---- nets whose circuits take no time

still_hold : (net : NetLists) → HasEndsInRange net → IsLive net → ((s t : ℕ) → s < length net.transitions → t < length net.transitions → (ps : List PlaceId) × IsPathBetween net s ps t)
    → ((ps : List PlaceId) → IsCircuit net ps → time_of net ps ≡ 0) → (id : PlaceId) → id.index < length net.places → (place_at net id).hold ≡ 0
still_hold net ends live reaches none id l =
    let is = ends id.index no_place l in
    let back = reaches (place_at net id).to.index (place_at net id).from.index is.1 is.0 in
    let each : (ps : List PlaceId) → IsCircuit net ps → Keeps net 0 1 ps =
    λ ps c. let some : 1 ≤ tokens_of net ps = some_of (tokens_of net ps) (live ps c) in let zero_time = none ps c in record { some = some; ratio = omega arith } in
    let round : Keeps net 0 1 (id ∷ back.0) = closed_keeps net 0 1 each (id ∷ back.0) (from_of net id) (l, refl, back.1) (omega arith) in
    let one = round.ratio in
    let two = sum_by-cons (λ q. (place_at net q).hold) id back.0 in
    omega arith

pub still_nets_stay_at_zero_by : StillNetsStayAtZero
still_nets_stay_at_zero_by net ends live no_input reaches none at_zero x least t zero lt one = absurd (omega arith)
still_nets_stay_at_zero_by net ends live no_input reaches none at_zero x least t (suc k) lt one =
    let times : AreWalkTimes net x (times_of net ends live no_input at_zero x least) = walk_times net ends live no_input at_zero x least in
    let reached = times.reached t k lt in
    let holds : (id : PlaceId) → id.index < length (extended_places net) → (place_at (unrolled net) id).hold ≤ 0 =
    λ id l. in_unrolled net (λ p. p.hold ≤ 0) (λ i m. let z = still_hold net ends live reaches none i m in omega arith) (λ u m. omega arith) id l in
    let most = sum_most (λ p. (place_at (unrolled net) p).hold) 0 (unrolled net) holds reached.1 reached.0 t reached.3 in
    let zero_time : times_of net ends live no_input at_zero x least t k ≡ 0 =
    (let time : time_of (unrolled net) reached.1 ≡ times_of net ends live no_input at_zero x least t k = reached.5 in omega arith) in
    let two : k + 1 ≡ suc k = omega arith in
    ap (x t) (sym two) ∙ times.is t k lt ∙ ap (λ (z : ℕ). At (pos z)) zero_time
