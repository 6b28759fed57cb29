use Rattle.std.proofs.Common.{◌≤◌, ◌*◌, ◌/◌, refl, arith}
use Rattle.std.proofs.lemmas.Nat.{div-add-mod', mul-le}
use Rattle.teg_forever.proofs.Cycles.{rises_times}
use Rattle.teg_forever.proofs.late.turn_of.Goals as goal

pub returns-clause-turn : goal.returns-clause-turn
returns-clause-turn c =
    let a = c.args.row.now in
    let told = c.row-due.ensures.told in
    let n = c.common_cycles-cycles.result in
    let firings = c.args.cycle.firings in
    let every = a.row.every in
    let cycle = c.requires in
    let whole = div-add-mod' (n * firings) every in
    let common = rw c.row-due.ensures.value at c.common_cycles-cycles.ensures.common in
    let one : 1 ≤ n = c.common_cycles-cycles.ensures.from_one in
    let some : 1 ≤ firings = cycle.some in
    let past = c.past_of.ensures in
    let after = past.after in
    let listed = past.listed in
    rw c.row-due.ensures.value (record {
      some = omega (arith, mul-le 1 1 n firings one some);
      dates_rise = λ k l. rises_times a.settled a.row.transition.index told.steps firings c.args.cycle.rise cycle.rises n k (omega arith);
      past_list = listed;
      rounds = n * firings / every;
      by_list = omega arith;
      fall_is = refl;
    })
