use Rattle.std.proofs.Common.{◌-◌}
use Rattle.answer_check.proofs.OtherRows.{IsBetween}
use Rattle.answer_check.proofs.refuted_list.first_other_row.Given as goal

abbrev pub invariant-halving : goal.invariant-halving
invariant-halving l = IsBetween l.net l.dates l.count l.right l.wrong

abbrev pub decreases-halving : goal.decreases-halving
decreases-halving l = l.wrong - l.right
