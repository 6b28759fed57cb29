-- Round and round a circuit a walk takes more time than due dates give.
use Rattle.std.proofs.Common.{ℕ, ◌+◌, ◌*◌, ◌<◌, ◌≤◌, ◌≡◌, List, ◌++◌, ap, ◌∙◌, arith, ⊎_elim}
use Rattle.std.proofs.lemmas.Bool.{cases_lt}
use Rattle.std.proofs.lemmas.List.Sums.{sum_by-append}
use Rattle.std.proofs.Math.Nat.{mul-le-mul_left}
use Rattle.forever_laws.specs.teg_net.declared.entries.PlaceId.{PlaceId}
use Rattle.forever_laws.specs.teg_net.Limits.{greatest_input_date}
use Rattle.forever_laws.specs.teg_net.Circuits.{place_at, IsPathBetween, time_of, tokens_of}
use Rattle.growth_laws.proofs.teg_net_proofs.PathLaws.{IsPathBetween-append}
use Rattle.growth_laws.proofs.teg_loops_proofs.Visits.{rounds, rounds_lead, rounds_sum}
use Rattle.growth_laws.proofs.PathSteps.{path_steps, path_walks, path_time}
use Rattle.late_laws.specs.SlowDues.{SlowDuesAreLate}
use Rattle.forever_laws.proofs.GoingOn.{due_number, due_slow}
use Rattle.forever_laws.proofs.Zeros.{least_number, walk_most}
use Rattle.forever_laws.proofs.Soon.{late_from}

-- so many rounds take more time than due dates give up to their number
late_by :
    (every gap time tokens more most n date due k : ℕ) → gap * tokens < time * every → k ≡ 1 + (n * tokens + more) → n ≡ every * most + gap * (1 + more + every) + 1
    → n * time ≤ date → every * due ≤ every * most + gap * (k + every) → due < date
late_by every gap time tokens more most n date due k fast k_is n_is low slow =
    ⊎_elim
    (λ (late : due < date). late)
    (λ (not : date ≤ due).
    let up : every * (n * time) ≤ every * due = mul-le-mul_left {m = n * time} {n = due} every (omega arith) in
    let turned : every * (n * time) ≡ n * (time * every) = grind arith in
    let gained : n * (gap * tokens + 1) ≤ n * (time * every) = mul-le-mul_left {m = gap * tokens + 1} {n = time * every} n (omega arith) in
    let spread : n * (gap * tokens + 1) ≡ n * (gap * tokens) + n = grind arith in
    let number : gap * (k + every) ≡ gap * (1 + (n * tokens + more) + every) = ap (λ j. gap * (j + every)) k_is in
    let parts : gap * (1 + (n * tokens + more) + every) ≡ n * (gap * tokens) + gap * (1 + more + every) = grind arith in
    absurd (omega (arith, up, turned, gained, spread, number, parts, slow, n_is)))
    (cases_lt due date)

pub slow_late : SlowDuesAreLate
slow_late net ends live x least r row circuit way s s_in closed leads fast =
    let t : ℕ = r.transition.index in
    let n : ℕ = r.every * greatest_input_date + r.gap * (1 + tokens_of net way + r.every) + 1 in
    let ps : List PlaceId = rounds n circuit ++ way in
    let k : ℕ = 1 + tokens_of net ps in
    let path : IsPathBetween net s ps t = IsPathBetween-append net (rounds n circuit) way s s t (rounds_lead net s circuit n closed) leads in
    let most = walk_most net ends live x least t k s 1 (path_steps ps) row.in_range (omega arith) s_in (omega arith) (path_walks net ps s 1 t path) in
    let tokens : tokens_of net ps ≡ n * tokens_of net circuit + tokens_of net way =
    sum_by-append (λ q. (place_at net q).tokens) (rounds n circuit) way ∙ ap (λ m. m + tokens_of net way) (rounds_sum (λ q. (place_at net q).tokens) circuit n) in
    let time : time_of net ps ≡ n * time_of net circuit + time_of net way =
    sum_by-append (λ q. (place_at net q).hold) (rounds n circuit) way ∙ ap (λ m. m + time_of net way) (rounds_sum (λ q. (place_at net q).hold) circuit n) in
    let same = path_time net ps in
    let low : n * time_of net circuit ≤ least_number net ends live x least t k = omega (arith, most, time, same) in
    let late : due_number r k < least_number net ends live x least t k =
    late_by r.every r.gap (time_of net circuit) (tokens_of net circuit) (tokens_of net way) greatest_input_date n
    (least_number net ends live x least t k) (due_number r k) k fast (ap (λ m. 1 + m) tokens) (omega arith) low (due_slow net r row k) in
    (k, due_number r k, least_number net ends live x least t k, late_from net ends live x least r row k (omega arith) late)
