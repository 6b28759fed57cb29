-- A best walk to a number that is high enough goes round a circuit that keeps up with the step.
use Rattle.std.proofs.Common.{ℕ, suc, ◌+◌, ◌*◌, ◌<◌, ◌≤◌, ◌≡◌, ◌⊎◌, List, [], ◌∷◌, length, get_or, refl, sym, ap, ◌∙◌, arith, inl, inr, ⊎_elim}
use Rattle.std.specs.Prelude.{pos, negsuc, All, sum_by}
use Rattle.std.proofs.lemmas.Bool.{cases_lt}
use Rattle.std.proofs.lemmas.Int.{ints}
use Rattle.std.proofs.lemmas.List.Sums.{sum_by-cons}
use Rattle.settled_laws.specs.dioid.declared.dates.Date.{Date}
use Rattle.settled_laws.specs.dioid.declared.dates.Date.TheVariants.{Early, At, Never}
use Rattle.settled_laws.specs.dioid.Dates.{IsAtMostDate, delayed}
use Rattle.settled_laws.proofs.dioid_proofs.DateOrder.{at_most_is, at_most_trans, later_left}
use Rattle.settled_laws.specs.teg_net.declared.entries.PlaceId.{PlaceId}
use Rattle.settled_laws.specs.teg_net.Nets.{NetLists, HasEndsInRange}
use Rattle.settled_laws.specs.teg_net.ReadyDates.{start_date}
use Rattle.settled_laws.specs.teg_net.Circuits.{place_at, IsLive, time_of, tokens_of}
use Rattle.settled_laws.specs.teg_net.Parts.{Reaches}
use Rattle.settled_laws.specs.teg_net.Walks.{walk_time}
use Rattle.settled_laws.specs.teg_model.Datings.{IsLeastUnder, at_input}
use Rattle.settled_laws.specs.teg_model.Starts.{start_of_firing}
use Rattle.settled_laws.specs.teg_model.WalkDates.{IsDateOfWalk}
use Rattle.settled_laws.proofs.teg_model_proofs.GreatestWalks.{least_is_walk}
use Rattle.settled_laws.proofs.teg_model_proofs.LiveRanks.{live_ranks}
use Rattle.settled_laws.proofs.teg_net_proofs.Bounds.{hold_bound, holds_bounded, token_bound, tokens_bounded}
use Rattle.teg_loops.specs.Loops.{IsCircuitTowards, IsSplit}
use Rattle.teg_loops.proofs.Splitting.{split}
use Rattle.slope_laws.proofs.Sums.{sum_small, times_add, times_le, le_times, at_least}
use Rattle.slope_laws.proofs.WalkPaths.{IsPathOf, walk_path, tokens_straight, time_straight, tokens_round}

-- the dates of b from number first on are numbers, and grow by this step in each period
abbrev pub GoesBy : (ℕ → ℕ → Date) → ℕ → ℕ → ℕ → ℕ → ℕ → Type 0
GoesBy x b first period date step = (j : ℕ) → x b (first + j * period) ≡ At (pos (date + j * step))

-- a circuit keeps up with the step
abbrev pub Tight : NetLists → ℕ → ℕ → ℕ → Type 0
Tight net b period step = (ps : List PlaceId) × IsCircuitTowards net b ps × (step * tokens_of net ps ≤ period * time_of net ps)

-- one of the circuits is tight, or all together lack at least one each
tight_or_not : (net : NetLists) (b period step : ℕ) (cs : List (List PlaceId)) → All (IsCircuitTowards net b) cs
    → Tight net b period step ⊎ (period * sum_by (λ c. time_of net c) cs + length cs ≤ step * sum_by (λ c. tokens_of net c) cs)
tight_or_not net b period step [] all = inr (grind arith)
tight_or_not net b period step (c ∷ cs) all =
    ⊎_elim
    (λ (l : period * time_of net c < step * tokens_of net c).
    ⊎_elim
    (λ (t : Tight net b period step). inl t)
    (λ (rest : period * sum_by (λ x. time_of net x) cs + length cs ≤ step * sum_by (λ x. tokens_of net x) cs).
    let time : period * sum_by (λ x. time_of net x) (c ∷ cs) ≡ period * time_of net c + period * sum_by (λ x. time_of net x) cs =
    ap (λ z. period * z) (sum_by-cons (λ x. time_of net x) c cs) ∙ times_add period (time_of net c) (sum_by (λ x. time_of net x) cs) in
    let tokens : step * sum_by (λ x. tokens_of net x) (c ∷ cs) ≡ step * tokens_of net c + step * sum_by (λ x. tokens_of net x) cs =
    ap (λ z. step * z) (sum_by-cons (λ x. tokens_of net x) c cs) ∙ times_add step (tokens_of net c) (sum_by (λ x. tokens_of net x) cs) in
    inr (omega arith))
    (tight_or_not net b period step cs (λ i d m. all (suc i) d (omega arith))))
    (λ (l : step * tokens_of net c ≤ period * time_of net c). inl (c, all 0 c (omega arith), l))
    (cases_lt (period * time_of net c) (step * tokens_of net c))

-- ---- the start

-- a start that is not before 0 and leads to a number is a number
record IsNumberStart (st : Date) (time date : ℕ) : Type 0 where
  at : ℕ
  is : st ≡ At (pos at)
  sum : date ≡ at + time

number_start : (st : Date) (time date : ℕ) → IsAtMostDate (At (pos 0)) st → delayed time st ≡ At (pos date) → IsNumberStart st time date
number_start Early time date l e = absurd l
number_start (At (pos z)) time date l e =
    let low = at_most_is (delayed time (At (pos z))) (At (pos date)) e in
    let high = at_most_is (At (pos date)) (delayed time (At (pos z))) (sym e) in
    record { at = z; is = refl; sum = omega (arith, ints, low, high) }
number_start (At (negsuc z)) time date l e = absurd (omega (arith, ints, l))
number_start Never time date l e = absurd (at_most_is Never (At (pos date)) e)

from_zero : (net : NetLists) (u : ℕ → ℕ → Date) (a s : ℕ) → IsAtMostDate (At (pos 0)) (start_of_firing net u a s)
from_zero net u a s =
    at_most_trans (At (pos 0)) (At (pos (start_date net a s))) (start_of_firing net u a s) (omega (arith, ints)) (later_left (At (pos (start_date net a s))) (at_input net a (u a s) Early))

-- ---- the sums

turned_times : (m a : ℕ) → m * a ≡ a * m
turned_times m a = grind arith

-- what a walk lacks is bounded, so a walk to a high number does not lack one for each circuit
too_far :
    (nu step within c j k0 at s nexts tq mq times tokens many t q constant : ℕ)
    → 1 ≤ nu → 1 ≤ step → 1 ≤ within
    → c + j * step ≡ at + (tq + times) → k0 + j * nu ≡ s + (mq + tokens) + nexts → nu * times + many ≤ step * tokens
    → s + within * (nu * at) ≤ within * (step * s) + constant → tq ≤ q → mq ≤ t → tokens ≤ many * t
    → j ≤ (within * (step * k0 + nu * q) + constant) + (within * (step * k0 + nu * q) + constant) + t + (within * (step * k0 + nu * q) + constant) * t
too_far nu step within c j k0 at s nexts tq mq times tokens many t q constant n1 s1 w1 e1 e2 e3 e4 tq_in mq_in tokens_in =
    let bound : ℕ = step * k0 + nu * q in
    let d : ℕ = within * bound + constant in
    let p1 : nu * c + nu * (j * step) ≡ nu * at + (nu * tq + nu * times) =
    sym (times_add nu c (j * step)) ∙ (ap (λ z. nu * z) e1 ∙ (times_add nu at (tq + times) ∙ ap (λ z. nu * at + z) (times_add nu tq times))) in
    let p2 : step * k0 + step * (j * nu) ≡ (step * s + (step * mq + step * tokens)) + step * nexts =
    sym (times_add step k0 (j * nu)) ∙ (ap (λ z. step * z) e2
    ∙ (times_add step (s + (mq + tokens)) nexts ∙ ap (λ z. z + step * nexts)
    (times_add step s (mq + tokens) ∙ ap (λ z. step * s + z) (times_add step mq tokens)))) in
    let same : nu * (j * step) ≡ step * (j * nu) = grind arith in
    let wide_q = times_le nu tq q tq_in in
    let lacks : step * s + step * nexts + many ≤ nu * at + bound = omega (arith, p1, p2, same, e3, wide_q) in
    let more = times_le within (step * s + step * nexts + many) (nu * at + bound) lacks in
    let left : within * (step * s + step * nexts + many) ≡ (within * (step * s) + within * (step * nexts)) + within * many =
    times_add within (step * s + step * nexts) many ∙ ap (λ z. z + within * many) (times_add within (step * s) (step * nexts)) in
    let right : within * (nu * at + bound) ≡ within * (nu * at) + within * bound = times_add within (nu * at) bound in
    let all : s + within * (step * nexts) + within * many ≤ d = omega (arith, more, left, right, e4) in
    let many_in : many ≤ within * many = at_least within many w1 in
    let nexts_in : nexts ≤ within * (step * nexts) = omega (arith, at_least step nexts s1, at_least within (step * nexts) w1) in
    let tokens_d : tokens ≤ d * t = omega (arith, tokens_in, le_times t many d (omega (arith, all, many_in))) in
    let j_in : j ≤ j * nu = omega (arith, at_least nu j n1, turned_times nu j) in
    omega (arith, j_in, e2, all, many_in, nexts_in, tokens_d, mq_in)

past_itself : (m : ℕ) → suc m ≤ m → ⊥
past_itself m l = omega (arith, l)

-- where each start either falls behind or is what W says, so is a best walk: it goes round, or W
pub go_round_or :
    {W : Type 0} (net : NetLists) → HasEndsInRange net → IsLive net → (u x : ℕ → ℕ → Date) → IsLeastUnder net u x
    → (b k0 nu c step within constant : ℕ) → b < length net.transitions → 1 ≤ k0 → 1 ≤ nu → 1 ≤ step → 1 ≤ within → GoesBy x b k0 nu c step
    → ((a s date : ℕ) → a < length net.transitions → 1 ≤ s → Reaches net a b → start_of_firing net u a s ≡ At (pos date) → (s + within * (nu * date) ≤ within * (step * s) + constant) ⊎ W)
    → Tight net b nu step ⊎ W
go_round_or {W} net ends live u x h b k0 nu c step within constant l o n1 s1 w1 goes behind =
    let n : ℕ = length net.transitions in
    let t : ℕ = n * token_bound net in
    let q : ℕ = n * hold_bound net in
    let d : ℕ = within * (step * k0 + nu * q) + constant in
    let j : ℕ = suc (d + d + t + d * t) in
    let k : ℕ = k0 + j * nu in
    let ranks = live_ranks net ends live in
    let w : IsDateOfWalk net u b k (x b k) = (least_is_walk net u x (suc (suc n)) ranks.0 ends ranks.1 h b k l (omega arith)).reached in
    let path : IsPathOf net w.steps w.from w.number b k = walk_path net w.steps w.from w.number b k w.walk in
    let parts = split net path.places w.from b path.path in
    let qs = parts.0 in
    let cs = parts.1 in
    let is : IsSplit net w.from path.places b qs cs = parts.2 in
    let start : IsNumberStart (start_of_firing net u w.from w.number) (walk_time net w.steps) (c + j * step) =
    number_start (start_of_firing net u w.from w.number) (walk_time net w.steps) (c + j * step) (from_zero net u w.from w.number)
    (ap (delayed (walk_time net w.steps)) (sym w.starts) ∙ (sym w.is ∙ goes j)) in
    ⊎_elim
    (λ (tight : Tight net b nu step). inl tight)
    (λ (lacks : nu * sum_by (λ y. time_of net y) cs + length cs ≤ step * sum_by (λ y. tokens_of net y) cs).
    let time = is.same (λ p. (place_at net p).hold) in
    let tokens = is.same (λ p. (place_at net p).tokens) in
    let each : sum_by (λ y. tokens_of net y) cs ≤ length cs * t =
    sum_small (λ y. tokens_of net y) t cs (λ i e m. tokens_round net (token_bound net) (get_or cs i e) ends (tokens_bounded net) (is.rounds i e m).circuit) in
    ⊎_elim
    (λ (kept : w.number + within * (nu * start.at) ≤ within * (step * w.number) + constant).
    let far = too_far nu step within c j k0 start.at w.number path.nexts (time_of net qs) (tokens_of net qs)
    (sum_by (λ y. time_of net y) cs) (sum_by (λ y. tokens_of net y) cs) (length cs) t q constant n1 s1 w1
    (omega (arith, start.sum, path.time, time)) (omega (arith, path.number, tokens)) lacks
    kept
    (time_straight net (hold_bound net) qs w.from b ends (holds_bounded net) l is.path)
    (tokens_straight net (token_bound net) qs w.from b ends (tokens_bounded net) l is.path) each in
    absurd (past_itself (d + d + t + d * t) far))
    (λ (other : W). inr other)
    (behind w.from w.number start.at w.from_in w.from_one (path.places, path.path) start.is))
    (tight_or_not net b nu step cs is.rounds)
