use Rattle.dioid_matrix.proofs.Recursion.{answers_solve}
use Rattle.dioid_matrix.proofs.grid.Matrix.solve_least.Goals as goal

pub returns-clause-answer : goal.returns-clause-answer
returns-clause-answer g c = answers_solve g.D.Dioid g.D.Kleene c.args.self.now c.args.right.now _ c.in_ok-star.ensures.answer c.times.ensures.right.elements c.times.result c.times.ensures.answer
