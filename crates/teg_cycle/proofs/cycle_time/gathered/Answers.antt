use Rattle.std.proofs.Common.{arith, rules}
use Rattle.teg_net.specs.declared.answers.CycleAnswer.{CycleAnswer}
use Rattle.teg_net.specs.GreatestRatios.{IsFirstGreatest}
use Rattle.teg_net.proofs.NetRules.{net_ends}
use Rattle.teg_cycle.proofs.Telling.{have_tokens}
use Rattle.teg_certificates.proofs.Certified.{tell_of_nets}
use Rattle.teg_cycle.proofs.Gathering.{certified}
use Rattle.teg_cycle.proofs.cycle_time.gathered.Goals as goal

pub best_number-best-requires-clause-tokens : goal.best_number-best-requires-clause-tokens
best_number-best-requires-clause-tokens c = rw c.deref.ensures.value (have_tokens c.args.net.now c.args.parts.now.part_of c.args.answers.items c.requires.answers)

pub best_number-best-requires-clause-few : goal.best_number-best-requires-clause-few
best_number-best-requires-clause-few c = rw c.deref.ensures.value (omega (arith, c.requires.count, c.count-count.ensures.value, c.count-count.ensures.few))

pub returns : goal.returns
returns c =
    let net = c.args.net.now in
    let r = c.requires in
    let best : IsFirstGreatest c.args.answers.items c.best_number-best.result = rw c.deref.ensures.value at c.best_number-best.ensures in
    let answer : CycleAnswer = record { part_of = c.args.part_of; parts = c.args.answers; best = c.best_number-best.result } in
    let is = certified net c.args.parts.now answer r.parts r.numbers r.count r.certificates best in
    record { part_of = search rules; parts = search rules; best = best; net = tell_of_nets net answer (net_ends net r.rules) is; certificate = is }
