use Rattle.std.specs.Prelude.{IfOk}
use Rattle.std.proofs.lemmas.Result.{IfOk-weaker}
use Rattle.teg_howard.proofs.Runs.{lowest_begins, first_of_lowest}
use Rattle.teg_howard.proofs.iteration.begin.Goals as goal

pub begin_with-requires-clause-begins : goal.begin_with-requires-clause-begins
begin_with-requires-clause-begins c = lowest_begins c.args.net.now c.args.parts.now c.args.part c.in_ok-policy.policy.items c.requires c.in_ok-policy.ensures

pub returns-clause-first : goal.returns-clause-first
returns-clause-first c =
    IfOk-weaker c.begin_with.result _ _
    (λ at begins. first_of_lowest c.args.net.now c.args.parts.now c.args.part c.in_ok-policy.policy.items at.state.round c.requires c.in_ok-policy.ensures begins)
    c.begin_with.ensures.first
