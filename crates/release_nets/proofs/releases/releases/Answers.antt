use Rattle.std.proofs.Common.{ℕ, ◌+◌, ◌-◌, ◌*◌, ◌<◌, ◌≤◌, ◌≡◌, List, Option, get_or, length, max, ap, subst, ◌∙◌, arith}
use Rattle.std.specs.Prelude.{unwrap_or}
use Rattle.std.proofs.lemmas.List.{get_or_read}
use Rattle.std.proofs.Math.Nat.{mul-le-mul_left, mul-le-mul_right}
use Rattle.delay_laws.specs.declared.table.Timetable.{Timetable}
use Rattle.delay_laws.specs.PlannedTimetables.{delay_given, planned}
use Rattle.delay_laws.specs.Delays.{IsReleaseAt}
use Rattle.teg_net.specs.Limits.{greatest_input_date}
use Rattle.teg_net.specs.Nets.{NetLists}
use Rattle.release_nets.specs.PlannedNets.{greatest_period}
use Rattle.release_nets.specs.DelaysByNumber.{given_in, most_releases}
use Rattle.release_nets.specs.PlannedNets.{IsPlannedNet}
use Rattle.release_nets.specs.ReleaseNetsBuilt.{AreBuilt}
use Rattle.release_nets.proofs.Releasing.{given_number, given_small, next_is, releases_more}
use Rattle.release_nets.proofs.releases.releases.Goals as goal

-- departure k + 1 of transition i as it is read: its planned date with its delay, which keeps the limit of dates
asked : (net : NetLists) (period : ℕ) (t : Timetable) → IsPlannedNet net period t → (i k count first by : ℕ) (cells : List (Option ℕ)) (o : Option ℕ) → i < length net.transitions
    → k < count → count ≤ most_releases → first ≡ get_or t.firsts.items i first → AreBuilt (λ s b. b ≡ given_in t.delays.items i (s + 1)) count cells
    → o ≡ get_or cells k o → by ≡ unwrap_or o 0
    → (first + period * k + by ≡ planned period t i (k + 1) + delay_given t i (k + 1)) × (first + period * k + by ≤ greatest_input_date)
asked net period t h i k count first by cells o i_in below few is given read by_is =
    let each = h.table.one_each in
    let within : i < length t.firsts.items = omega arith in
    let own = get_or_read t.firsts.items i first within is 0 in
    let low = h.table.firsts_in i 0 within in
    let late : by ≡ delay_given t i (k + 1) = by_is ∙ ap (λ (x : Option ℕ). unwrap_or x 0) (read ∙ given.each k o below) ∙ given_number t.delays.items i (k + 1) in
    let most = given_small net t.delays.items i (k + 1) h.table.delays_in in
    let n : k + 1 - 1 ≡ k = omega arith in
    let product : period * (k + 1 - 1) ≡ period * k = ap (λ (z : ℕ). period * z) n in
    let a : period * k ≤ period * most_releases = mul-le-mul_left {m = k} {n = most_releases} period (omega arith) in
    let b : period * most_releases ≤ greatest_period * most_releases = mul-le-mul_right most_releases h.period_in in
    (omega arith, omega arith)

pub overflow_add-date-in-loop-index : goal.overflow_add-date-in-loop-index
overflow_add-date-in-loop-index c =
    let p = c.args.planned.now in
    let date = asked p.net.now p.period p.table.now p.kept c.args.transition c.loop-index.index c.args.count c.index-first.result.now c.unwrap_or-by.result c.in_ok-given.given.items
    c.index.result.now c.requires.transition c.loop-index-test.true c.requires.few c.index-first.ensures c.in_ok-given.ensures c.index.ensures c.unwrap_or-by.ensures in
    omega (arith, date.1)

pub loop-index-preserved : goal.loop-index-preserved
loop-index-preserved c =
    let p = c.args.planned.now in
    let t = p.table.now in
    let i = c.args.transition in
    let k = c.loop-index.index in
    let old = c.loop-index.invariant in
    let date = asked p.net.now p.period t p.kept i k c.args.count c.index-first.result.now c.unwrap_or-by.result c.in_ok-given.given.items
    c.index.result.now c.requires.transition c.loop-index-test.true c.requires.few c.index-first.ensures c.in_ok-given.ensures c.index.ensures c.unwrap_or-by.ensures in
    let own : ℕ = c.index-first.result.now + p.period * k + c.unwrap_or-by.result in
    let before = old.small in
    let is : max own c.loop-index.latest ≡ c.max-latest.result = omega (arith, c.max-latest.ensures) in
    let most : c.max-latest.result ≤ greatest_input_date = omega (arith, date.1) in
    let next : IsReleaseAt p.period t i (k + 1) c.max-latest.result =
    subst (IsReleaseAt p.period t i (k + 1)) is (next_is p.period t i k c.loop-index.latest own date.0 old.none old.latest) in
    record {
      dates = rw c.in_ok-push.ensures.items (releases_more p.period t i k c.max-latest.result c.loop-index.dates.items old.dates next most);
      none = λ e. absurd (omega arith);
      latest = λ _. next;
      small = most;
    }
