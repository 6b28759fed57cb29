use Rattle.std.proofs.Common.{arith}
use borrow.Author.Count.{below_more}
use Rattle.std.proofs.lemmas.Bool.{iff_false}
use Rattle.std.proofs.Common.{get_or}
use Rattle.policy_rounds.specs.Policies.{first_id}
use Rattle.teg_howard.specs.FoundCircuits.{LeadsOn}
use Rattle.teg_howard.proofs.settling.next_join.Goals as goal

pub loop-rank-preserved : goal.loop-rank-preserved
loop-rank-preserved c =
    below_more (λ k. LeadsOn c.args.net.now c.args.values.now (get_or c.args.ids.now k first_id) → ⊥) c.loop-rank.rank c.loop-rank.invariant (iff_false c.joins.ensures c.if-joins.false)

pub returns-then-joins-clause-some : goal.returns-then-joins-clause-some
returns-then-joins-clause-some c = record { in_list = c.loop-rank-test.true; leads = c.joins.ensures.0 c.if-joins.true; none_before = c.loop-rank.invariant }

pub returns-clause-none : goal.returns-clause-none
returns-clause-none c = λ k l. c.loop-rank.invariant k (omega (arith, l, c.loop-rank-test.false))
