use Rattle.std.proofs.Common.{Option, sym, subst}
use Rattle.teg_calc.specs.ExpressionTrees.{tree_of_expression}
use Rattle.teg_calc.specs.Readers.{State, IsReached, level_of}
use Rattle.teg_calc.proofs.Closing.{close_is}
use Rattle.teg_calc.proofs.readers.close.Goals as goal

pub returns-in-Some-pop : goal.returns-in-Some-pop
returns-in-Some-pop c =
    let closes = rw (c.in-Some.is, c.in_ok-last.ensures.call, c.in_ok-last.ensures.first) at c.in_ok-closed.ensures in
    subst (λ (z : Option State). IsReached z c.factored.result)
    (sym (close_is c.args.outer.items c.pop.new.self.items c.in-Some-pop.inner (level_of c.args.inner) (tree_of_expression c.args.term)
    (tree_of_expression c.in_ok-last.last.sum) (tree_of_expression c.in-Some.factor)
    c.in-Some-pop.ensures.items c.in_ok-last.ensures.sum closes))
    c.factored.ensures
