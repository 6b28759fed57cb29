use Rattle.dioid_laws.specs.SquareMatrices.{square_dioid}
use Rattle.dioid_laws.proofs.OrderFacts.{order_of_sums}
use Rattle.dioid_laws.proofs.Squares.{squares_are_dioid}
use Rattle.dioid_laws.proofs.laws.square_matrices_are_a_dioid.Goals as goal

pub returns-clause-laws : goal.returns-clause-laws
returns-clause-laws g c n = squares_are_dioid g.D.Dioid n g.met.D.Dioid.closed g.met.D.Dioid.laws

pub returns-clause-order : goal.returns-clause-order
returns-clause-order g c n =
    let squares = squares_are_dioid g.D.Dioid n g.met.D.Dioid.closed g.met.D.Dioid.laws in
    order_of_sums (square_dioid g.D.Dioid n) squares.closed squares.laws
