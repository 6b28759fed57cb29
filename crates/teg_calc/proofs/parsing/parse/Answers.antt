use Rattle.std.proofs.Common.{◌≤◌, arith, sym, length, Some}
use Rattle.teg_calc.specs.ExpressionTrees.{tree_of_expression}
use Rattle.teg_calc.specs.ParseAnswers.{IsParsed}
use Rattle.teg_calc.specs.Readers.{state_of}
use Rattle.teg_calc.proofs.Accepting.{one_tree}
use Rattle.teg_calc.proofs.Sizes.{has_few, has_short}
use Rattle.teg_calc.proofs.Faults.{levels_length, next_run, next_shallow, parsed, told_at, told_at_end, whole_read, whole_shallow}
use Rattle.teg_calc.proofs.parsing.parse.Goals as goal

pub loop-at-preserved : goal.loop-at-preserved
loop-at-preserved c = record {
  read = next_run c.args.text.now c.loop-at.at (state_of c.loop-at.reader) (Some (state_of c.in-Ok.next)) c.loop-at-test.true c.loop-at.invariant.read c.in-Ok.ensures.0;
  well = c.in-Ok.ensures.1;
  shallow = next_shallow c.args.text.now c.loop-at.at (state_of c.loop-at.reader) c.loop-at.invariant.read
      (rw (levels_length c.loop-at.reader.outer.items) c.in-Ok.ensures.2) c.loop-at.invariant.shallow;
}

pub returns-in-Err-clause-answer : goal.returns-in-Err-clause-answer
returns-in-Err-clause-answer c = rw c.refused.ensures
    (told_at c.args.text.now c.loop-at.at (length c.loop-at.reader.outer.items) (state_of c.loop-at.reader) c.in-Err.stop c.loop-at-test.true c.loop-at.invariant.read
    (sym (levels_length c.loop-at.reader.outer.items)) c.in-Err.ensures c.loop-at.invariant.shallow)

pub returns-in-Err-clause-one : goal.returns-in-Err-clause-one
returns-in-Err-clause-one c = one_tree c.args.text.now

pub returns-in-Ok-finish-clause-answer : goal.returns-in-Ok-finish-clause-answer
returns-in-Ok-finish-clause-answer c =
    let all : length c.args.text.now ≤ c.loop-at.at = omega (arith, c.loop-at-test.false) in
    parsed c.args.text.now (state_of c.loop-at.reader) (tree_of_expression c.in-Ok-finish.expr)
    (whole_read c.args.text.now c.loop-at.at (state_of c.loop-at.reader) all c.loop-at.invariant.read) c.in-Ok-finish.ensures
    (whole_shallow c.args.text.now c.loop-at.at all c.loop-at.invariant.shallow)

pub returns-in-Ok-finish-clause-nodes : goal.returns-in-Ok-finish-clause-nodes
returns-in-Ok-finish-clause-nodes c =
    let p : IsParsed c.args.text.now (tree_of_expression c.in-Ok-finish.expr) = returns-in-Ok-finish-clause-answer c in
    omega (arith, has_few c.args.text.now (tree_of_expression c.in-Ok-finish.expr) p.expression)

pub returns-in-Ok-finish-clause-numbers : goal.returns-in-Ok-finish-clause-numbers
returns-in-Ok-finish-clause-numbers c =
    let p : IsParsed c.args.text.now (tree_of_expression c.in-Ok-finish.expr) = returns-in-Ok-finish-clause-answer c in
    has_short c.args.text.now (tree_of_expression c.in-Ok-finish.expr) p.expression

pub returns-in-Ok-finish-clause-one : goal.returns-in-Ok-finish-clause-one
returns-in-Ok-finish-clause-one c = one_tree c.args.text.now

pub returns-in-Err-finish-clause-answer : goal.returns-in-Err-finish-clause-answer
returns-in-Err-finish-clause-answer c =
    let all : length c.args.text.now ≤ c.loop-at.at = omega (arith, c.loop-at-test.false) in
    rw c.refused-in-Err-finish.ensures
    (told_at_end c.args.text.now (state_of c.loop-at.reader) c.in-Err-finish.stop
    (whole_read c.args.text.now c.loop-at.at (state_of c.loop-at.reader) all c.loop-at.invariant.read) c.in-Err-finish.ensures
    (whole_shallow c.args.text.now c.loop-at.at all c.loop-at.invariant.shallow))

pub returns-in-Err-finish-clause-one : goal.returns-in-Err-finish-clause-one
returns-in-Err-finish-clause-one c = one_tree c.args.text.now
