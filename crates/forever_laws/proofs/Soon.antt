-- The least late number of a row is not great: a late number is late soon, for the walks of a net.
use Rattle.std.proofs.Common.{ℕ, zero, suc, ◌+◌, ◌*◌, ◌^◌, ◌<◌, ◌≤◌, ◌≡◌, List, length, sym, ap, arith, ⊎_elim, ◌⊎◌, inl, inr}
use Rattle.std.specs.Prelude.{pos, All}
use Rattle.std.proofs.lemmas.Bool.{cases_lt}
use Rattle.std.proofs.lemmas.Int.{ints}
use Rattle.std.proofs.Math.Nat.{mul-le-mul_right, mul-le-mul_left}
use Rattle.walk_times.proofs.number_laws_proofs.Numbers.{some_of}
use Rattle.walk_times.specs.dioid.declared.dates.Date.{Date}
use Rattle.walk_times.specs.dioid.declared.dates.Date.TheVariants.{At}
use Rattle.teg_net.specs.declared.entries.PlaceId.{PlaceId}
use Rattle.teg_net.specs.Limits.{most_place_tokens, greatest_hold, greatest_input_date}
use Rattle.teg_net.specs.Nets.{NetLists, IsNet, HasEndsInRange}
use Rattle.teg_net.specs.Circuits.{no_place, place_at, IsPathBetween, IsCircuit, IsLive, time_of, tokens_of}
use Rattle.teg_net.proofs.NetRules.{holds_within, tokens_within}
use Rattle.walk_times.specs.teg_model.Datings.{IsLeastUnder, extended_places}
use Rattle.walk_times.proofs.teg_model_proofs.OfNet.{net_ends, all_extended_in}
use Rattle.walk_times.proofs.teg_model_proofs.LiveRanks.{live_ranks}
use Rattle.walk_times.proofs.teg_model_proofs.Within.{AreWithin, least_within}
use Rattle.due_laws.specs.MeetingDueDates.{inputs_at_zero}
use Rattle.bound_laws.proofs.Unrolled.{unrolled, ends_in, same_sums, IsWait, kinds}
use Rattle.bound_laws.proofs.WalkTimes.{number_of}
use Rattle.teg_loops.proofs.Taking.{sum_most}
use Rattle.endless_due.specs.declared.row.EndlessRow.{EndlessRow}
use Rattle.endless_due.specs.EndlessRows.{IsEndlessRow}
use Rattle.forever_laws.specs.Late.{IsLateAt}
use Rattle.forever_laws.specs.EndlessDues.{LateNumbersHaveLeast, LateIsSoon, late_date_bound, late_number_bound}
use Rattle.forever_laws.proofs.GoingOn.{due_number, due_is, due_only, due_again, due_slow}
use Rattle.forever_laws.proofs.Late.{LateSetting, flat_bound, steep_bound, late_soon}
use Rattle.forever_laws.proofs.Zeros.{least_number, date_is, path_most, reached}

-- ---- the setting of a net

marks_in : (net : NetLists) (most : ℕ) → 1 ≤ most → All (λ p. p.tokens ≤ most) net.places → (id : PlaceId) → id.index < length (extended_places net) → (place_at (unrolled net) id).tokens ≤ most
marks_in net most some all id l = all_extended_in net (λ p. p.tokens ≤ most) all (λ t m. some) id.index no_place l

holds_in : (net : NetLists) (hold : ℕ) → All (λ p. p.hold ≤ hold) net.places → (id : PlaceId) → id.index < length (extended_places net) → (place_at (unrolled net) id).hold ≤ hold
holds_in net hold all id l = all_extended_in net (λ p. p.hold ≤ hold) all (λ t m. omega arith) id.index no_place l

-- with its implicit places the net is still live
pub live_in : (net : NetLists) → IsLive net → (ps : List PlaceId) → IsCircuit (unrolled net) ps → 1 ≤ tokens_of (unrolled net) ps
live_in net live ps c = ⊎_elim
    (λ own.
    let same : tokens_of (unrolled net) ps ≡ tokens_of net ps = same_sums net (λ p. p.tokens) ps own.0 in
    let some : 1 ≤ tokens_of net ps = some_of (tokens_of net ps) (live ps own.1) in
    omega arith)
    (λ (w : IsWait net ps). let one = w.tokens in omega arith)
    (kinds net ps c)

-- a path of few places has few tokens
few_tokens : (net : NetLists) (most : ℕ) → 1 ≤ most → All (λ p. p.tokens ≤ most) net.places → (ps : List PlaceId) (s t m : ℕ)
    → IsPathBetween (unrolled net) s ps t → length ps ≤ m → tokens_of (unrolled net) ps ≤ m * most
few_tokens net most some all ps s t m h l =
    let one = sum_most (λ p. (place_at (unrolled net) p).tokens) most (unrolled net) (marks_in net most some all) ps s t h in
    let more : length ps * most ≤ m * most = mul-le-mul_right {m = length ps} {n = m} most l in
    omega arith

-- a piece that goes round a number of times at most has few tokens
pub few_in_round : (net : NetLists) (most every : ℕ) → 1 ≤ most → All (λ p. p.tokens ≤ most) net.places → (ps : List PlaceId) (s t : ℕ) → IsPathBetween (unrolled net) s ps t
    → length ps ≤ length net.transitions * every → tokens_of (unrolled net) ps ≤ every * (length net.transitions * most)
few_in_round net most every some all ps s t h l =
    let few = few_tokens net most some all ps s t (length net.transitions * every) h l in
    let turned : length net.transitions * every * most ≡ every * (length net.transitions * most) = grind arith in
    omega arith

-- and so a path of many tokens has many places
pub many_places : (net : NetLists) (most every : ℕ) → 1 ≤ most → All (λ p. p.tokens ≤ most) net.places → (ps : List PlaceId) (s t : ℕ) → IsPathBetween (unrolled net) s ps t
    → every * (length net.transitions * most) < tokens_of (unrolled net) ps → length net.transitions * every ≤ length ps
many_places net most every some all ps s t h far =
    let n : ℕ = length net.transitions in
    ⊎_elim
    (λ (less : length ps < n * every).
    let few = few_in_round net most every some all ps s t h (omega arith) in
    absurd (omega arith))
    (λ (more : n * every ≤ length ps). more)
    (cases_lt (length ps) (n * every))

little_time : (net : NetLists) (hold : ℕ) → All (λ p. p.hold ≤ hold) net.places → (ps : List PlaceId) (s t m : ℕ) → IsPathBetween (unrolled net) s ps t → length ps ≤ m → time_of (unrolled net) ps ≤ m * hold
little_time net hold all ps s t m h l =
    let one = sum_most (λ p. (place_at (unrolled net) p).hold) hold (unrolled net) (holds_in net hold all) ps s t h in
    let more : length ps * hold ≤ m * hold = mul-le-mul_right {m = length ps} {n = m} hold l in
    omega arith

-- where no place has a longer hold, or more tokens
pub setting : (net : NetLists) (ends : HasEndsInRange net) (live : IsLive net) (x : ℕ → ℕ → Date) (least : IsLeastUnder net inputs_at_zero x) (r : EndlessRow) → IsEndlessRow net r
    → (hold most : ℕ) → 1 ≤ most → All (λ p. p.hold ≤ hold) net.places → All (λ p. p.tokens ≤ most) net.places
    → LateSetting (unrolled net) (length net.transitions) (length net.transitions * most) (length net.transitions * most) (length net.transitions * r.every * hold)
    most r.every greatest_input_date r.gap (length r.dates) (least_number net ends live x least) (due_number r)
setting net ends live x least r row hold most some holds marks =
    let n : ℕ = length net.transitions in
    record {
      ends = ends_in net ends;
      live = live_in net live;
      short_tokens = λ ps s t h l. few_tokens net most some marks ps s t n h (omega arith);
      piece_tokens = λ ps s t h l. few_in_round net most r.every some marks ps s t h l;
      piece_time = λ ps s t h l. little_time net hold holds ps s t (n * r.every) h l;
      long = λ ps s t h far. many_places net most r.every some marks ps s t h far;
      every_some = row.goes_on.some;
      reached = reached net ends live x least most some marks;
      first = λ j t ps lj lt h. (let up = path_most net ends live x least t j 1 ps lt lj (omega arith) h in omega arith);
      again = due_again net r row;
      slow = due_slow net r row;
    }

-- ---- the bound

pub product_most : (a b c d : ℕ) → a ≤ c → b ≤ d → a * b ≤ c * d
product_most a b c d l m =
    let one : a * b ≤ c * b = mul-le-mul_right {m = a} {n = c} b l in
    let two : c * b ≤ c * d = mul-le-mul_left {m = b} {n = d} c m in
    omega arith

bound_low : (n every size : ℕ) → n ≤ 400 → every ≤ 1000 → size ≤ 10000
    → flat_bound (n * most_place_tokens) most_place_tokens every size + steep_bound (n * most_place_tokens) (n * most_place_tokens)
    (n * every * greatest_hold) every greatest_input_date < late_number_bound
bound_low n every size ln le ls =
    let piece : every * (n * most_place_tokens) ≤ 1000 * 400000 = product_most every (n * most_place_tokens) 1000 400000 le (omega arith) in
    let span : n * every ≤ 400 * 1000 = product_most n every 400 1000 ln le in
    let last : n * every * greatest_hold * (1 + n * most_place_tokens + every) ≤ 400 * 1000 * greatest_hold * 401001 =
    product_most (n * every * greatest_hold) (1 + n * most_place_tokens + every) (400 * 1000 * greatest_hold) 401001 (omega arith) (omega arith) in
    omega arith

-- ---- the least late number

pub record IsLeastIn (z d : ℕ → ℕ) : Type 0 where
  pub number : ℕ
  pub some : 1 ≤ number
  pub late : d number < z number
  pub first : (i : ℕ) → 1 ≤ i → d i < z i → number ≤ i

pub least_to : (z d : ℕ → ℕ) (m : ℕ) → ((i : ℕ) → 1 ≤ i → i ≤ m → z i ≤ d i) ⊎ IsLeastIn z d
least_to z d zero = inl (λ i one l. absurd (omega arith))
least_to z d (suc m) = ⊎_elim
    (λ (none : (i : ℕ) → 1 ≤ i → i ≤ m → z i ≤ d i). ⊎_elim
    (λ (late : d (suc m) < z (suc m)). inr (record {
      number = suc m;
      some = omega arith;
      late = late;
      first = λ i one h. ⊎_elim (λ (less : i < suc m). let not = none i one (omega arith) in absurd (omega arith)) (λ (more : suc m ≤ i). more) (cases_lt i (suc m));
    }))
    (λ (kept : z (suc m) ≤ d (suc m)). inl (more none kept))
    (cases_lt (d (suc m)) (z (suc m))))
    (λ found. inr found)
    (least_to z d m) where
      more : ((i : ℕ) → 1 ≤ i → i ≤ m → z i ≤ d i) → z (suc m) ≤ d (suc m) → (i : ℕ) → 1 ≤ i → i ≤ suc m → z i ≤ d i
      more none kept i one l = ⊎_elim (λ (less : i < suc m). none i one (omega arith)) (λ (high : suc m ≤ i). let is : i ≡ suc m = omega arith in rw is kept) (cases_lt i (suc m))

-- late numbers by numbers
pub late_from : (net : NetLists) (ends : HasEndsInRange net) (live : IsLive net) (x : ℕ → ℕ → Date) (least : IsLeastUnder net inputs_at_zero x) (r : EndlessRow) → IsEndlessRow net r
    → (k : ℕ) → 1 ≤ k → due_number r k < least_number net ends live x least r.transition.index k → IsLateAt x r k (due_number r k) (least_number net ends live x least r.transition.index k)
late_from net ends live x least r row k one late = record { from_one = one; is_due = due_is r k; comes = date_is net ends live x least r.transition.index k row.in_range one; late = late }

pub late_to : (net : NetLists) (ends : HasEndsInRange net) (live : IsLive net) (x : ℕ → ℕ → Date) (least : IsLeastUnder net inputs_at_zero x) (r : EndlessRow)
    → (k due date : ℕ) → IsLateAt x r k due date → due_number r k < least_number net ends live x least r.transition.index k
late_to net ends live x least r k due date h =
    let one = due_only r k due h.is_due in
    let two : date ≡ number_of (x r.transition.index k) = ap number_of (sym h.comes) in
    let late = h.late in
    omega arith

pub have_least : LateNumbersHaveLeast
have_least net ends live x least r row k due date h =
    let z : ℕ → ℕ = least_number net ends live x least r.transition.index in
    let late = late_to net ends live x least r k due date h in
    ⊎_elim
    (λ none. let not = none k h.from_one (omega arith) in absurd (omega arith))
    (λ (f : IsLeastIn z (due_number r)). (
      f.number,
      due_number r f.number,
      z f.number,
      record { late = late_from net ends live x least r row f.number f.some f.late; first = λ j d y l. f.first j l.from_one (late_to net ends live x least r j d y l) },
    ))
    (least_to z (due_number r) k)

-- the date of a firing grows with its number
pub date_within : (net : NetLists) → IsNet net → IsLive net → (x : ℕ → ℕ → Date) → IsLeastUnder net inputs_at_zero x → (t k date : ℕ) → t < length net.transitions → 1 ≤ k → x t k ≡ At (pos date)
    → date ≤ greatest_input_date + greatest_hold * (k * 402 + 402)
date_within net ok live x least t k date l o e =
    let ranks = live_ranks net (net_ends net ok) live in
    let w : AreWithin net inputs_at_zero (λ j. greatest_input_date) =
    record { grows = λ j m q. omega arith; ready = omega arith; inputs = λ v j q i. (omega (arith, ints), omega (arith, ints)) } in
    let n : ℕ = length net.transitions in
    let size = ok.few_transitions in
    let within = rw e at (least_within net inputs_at_zero x (suc (suc n)) ranks.0 (λ j. greatest_input_date) ok ranks.1 w least t k l o) in
    let low = ranks.1.below t in
    let wide : k * suc (suc n) ≤ k * 402 = mul-le-mul_left {m = suc (suc n)} {n = 402} k (omega arith) in
    omega (arith, ints, within.1)

-- dates of numbers below 10^23 are below 10^35
pub date_low : (net : NetLists) → IsNet net → IsLive net → (x : ℕ → ℕ → Date) → IsLeastUnder net inputs_at_zero x → (t k date : ℕ)
    → t < length net.transitions → 1 ≤ k → k < late_number_bound → x t k ≡ At (pos date) → date < late_date_bound
date_low net ok live x least t k date l o few e = let within = date_within net ok live x least t k date l o e in omega arith

pub late_is_soon : LateIsSoon
late_is_soon net ok live x least r row k due date h =
    let t : ℕ = r.transition.index in
    let n : ℕ = length net.transitions in
    let ends = net_ends net ok in
    let late = late_to net ends live x least r k due date h.late in
    let soon = late_soon (unrolled net) n (n * most_place_tokens) (n * most_place_tokens)
    (n * r.every * greatest_hold) most_place_tokens r.every greatest_input_date r.gap (length r.dates) (least_number net ends live x least) (due_number r)
    (setting net ends live x least r row greatest_hold most_place_tokens (omega arith) (holds_within net ok) (tokens_within net ok)) t k row.in_range h.late.from_one late in
    let within = soon.within in
    let low = bound_low n r.every (length r.dates) ok.few_transitions row.goes_on.every_in row.few in
    let first = h.first soon.number (due_number r soon.number) (least_number net ends live x least t soon.number) (late_from net ends live x least r row soon.number soon.some soon.late) in
    let few : k < late_number_bound = omega arith in
    let small = date_low net ok live x least t k date row.in_range h.late.from_one few h.late.comes in
    let less = h.late.late in
    (few, omega arith, small)
