use Rattle.std.proofs.Common.{◌+◌, ◌%◌, ◌<◌, ◌≤◌, ◌≡◌, refl, sym, ap, ◌∙◌, arith, mod-lt, ⊎_elim}
use Rattle.std.specs.Int.{◌∣◌}
use Rattle.std.proofs.lemmas.Bool.{cases_lt}
use Rattle.std.proofs.lemmas.Nat.Gcd.{le_of_dvd}
use Rattle.own_periods.specs.OwnRows.{own_of, period_in}
use Rattle.own_periods.proofs.Rests.{rests_meet, some_divisor}
use Rattle.own_periods.proofs.slack.keeps_slack.Goals as goal

pub overflow_add-met : goal.overflow_add-met
overflow_add-met c =
    let own = c.args.of.now.own.each c.args.place.now.from.index c.requires.start in
    let some : 1 ≤ (own_of c.args.of.now.owns.now c.index.result).period = rw c.index.ensures own.one in
    let few : (own_of c.args.of.now.owns.now c.index.result).period ≤ 4000 = rw c.index.ensures own.few in
    let up = le_of_dvd some c.common_divisor-apart.ensures.0 in
    omega (arith, c.loop-rest-test.true, up, few, c.from.ensures, c.requires.tokens)

pub invariant_of-first : goal.invariant_of-first
invariant_of-first c =
    let own = c.args.of.now.own.each c.args.place.now.from.index c.requires.start in
    let some : 1 ≤ (own_of c.args.of.now.owns.now c.index.result).period = rw c.index.ensures own.one in
    record { few = rw c.index.ensures own.few; within = le_of_dvd some c.common_divisor-apart.ensures.0; rest_in = c.loop-rest-test.true }

pub invariant_of-met : goal.invariant_of-met
invariant_of-met c =
    let own = c.args.of.now.own.each c.args.place.now.to.index c.requires.end in
    let some : 1 ≤ (own_of c.args.of.now.owns.now c.index-2.result).period = rw c.index-2.ensures own.one in
    record { few = rw c.index-2.ensures own.few; within = le_of_dvd some c.common_divisor-apart.ensures.1; rest_in = mod-lt _ (omega (arith, c.loop-rest-test.true)) }

pub loop-rest-preserved : goal.loop-rest-preserved
loop-rest-preserved c = λ r a b l la lb rb ra.
    let n = c.loop-rest.rest in
    let apart = c.common_divisor-apart.result in
    ⊎_elim
    (λ (q : r < n). c.loop-rest.invariant r a b q la lb rb ra)
    (λ (q : n ≤ r).
    let is : r ≡ n = omega (arith, q, l) in
    c.keeps_slack_at.ensures c.if-not-keeps_slack_at.false a b la lb (rb ∙ is)
    (ra ∙ (ap (λ i. (i + c.args.place.now.tokens) % apart) is ∙ ap (λ i. (n + i) % apart) (sym c.from.ensures))))
    (cases_lt r n)

pub returns : goal.returns
returns c = λ yes a b h.
    let owns = c.args.of.now.owns.now in
    let from = c.args.place.now.from.index in
    let to = c.args.place.now.to.index in
    let apart = c.common_divisor-apart.result in
    let own = c.args.of.now.own.each from c.requires.start in
    let starts : apart ∣ period_in owns from = rw c.index.ensures at c.common_divisor-apart.ensures.0 in
    let ends : apart ∣ period_in owns to = rw c.index-2.ensures at c.common_divisor-apart.ensures.1 in
    let some : 0 < apart = some_divisor apart (period_in owns from) own.one starts in
    let low : b % apart < apart = mod-lt b some in
    let end = c.loop-rest-test.false in
    c.loop-rest.invariant (b % apart) a b (omega (arith, low, end)) (rw c.index-2.ensures h.end_in) (rw c.index.ensures h.start_in) refl
    (rests_meet a b c.args.place.now.tokens (period_in owns to) (period_in owns from) h.ends h.starts apart ends starts h.same)
