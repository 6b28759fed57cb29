use Rattle.std.proofs.Common.{◌≡◌, true, length, replicate, rules}
use Rattle.walk_times.proofs.ReachedPart.{all_closed}
use Rattle.walk_times.proofs.reached.marks_from.Goals as goal

pub returns-clause-closed : goal.returns-clause-closed
returns-clause-closed c =
    let net = c.args.net.now in
    let value = c.transitions-count.ensures.value in
    let is : c.in_ok-all.all.items ≡ replicate (length net.transitions) true = search (rules, value) in
    all_closed net c.args.input.index c.in_ok-all.all.items c.transitions-count.ensures.rules c.requires is
