use Rattle.dioid_laws.specs.SquareMatrices.{square_dioid, square_residuals}
use Rattle.dioid_laws.proofs.ResidualFacts.{residual_identities}
use Rattle.dioid_laws.proofs.Squares.{squares_are_dioid}
use Rattle.dioid_laws.proofs.SquareStars.{squares_have_residuals}
use Rattle.dioid_laws.proofs.laws.square_matrices_have_residuals.Goals as goal

pub returns-clause-greatest : goal.returns-clause-greatest
returns-clause-greatest g c n = squares_have_residuals g.D.Dioid n g.met.D.Dioid.closed g.met.D.Dioid.laws g.D.Residuated g.met.D.Residuated.residual_laws

pub returns-clause-identities : goal.returns-clause-identities
returns-clause-identities g c n =
    let d = g.D.Dioid in
    let squares = squares_are_dioid d n g.met.D.Dioid.closed g.met.D.Dioid.laws in
    residual_identities (square_dioid d n) (square_residuals d g.D.Residuated n) squares.closed squares.laws
    (squares_have_residuals d n g.met.D.Dioid.closed g.met.D.Dioid.laws g.D.Residuated g.met.D.Residuated.residual_laws)
