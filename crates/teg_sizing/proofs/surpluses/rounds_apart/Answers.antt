use Rattle.std.proofs.Common.{ℕ, ◌≡◌, ◌+◌, List, length, ap, subst}
use Rattle.teg_net.specs.declared.entries.Transition.{Transition}
use Rattle.teg_sizing.specs.TracedPaths.{HaveToldAll}
use Rattle.teg_sizing.specs.Surpluses.{StartsEverywhere}
use Rattle.teg_sizing.proofs.Traces.{of_net}
use Rattle.teg_sizing.proofs.surpluses.rounds_apart.Goals as goal

pub returns-clause-apart : goal.returns-clause-apart
returns-clause-apart c =
    let net = c.args.net.now in
    let first = c.in_ok-first.first in
    let all = c.in_ok-all.all.items in
    let n : length c.transitions-count.result.now ≡ length net.transitions = ap (λ (z : List Transition). length z) c.transitions-count.ensures.value in
    let starts : StartsEverywhere (length net.transitions) first = subst (λ (z : ℕ). StartsEverywhere z first) n c.in_ok-first.ensures in
    record {
      first = first;
      starts = starts;
      told = subst (λ (z : ℕ). HaveToldAll net c.args.target c.args.place first (z + 1) all) n c.in_ok-all.ensures.all;
      of_net = of_net net c.args.target c.args.place first all c.in_ok-all.ensures.rounds starts.by_none;
    }
