use Rattle.dioid_laws.specs.SquareMatrices.{square_dioid, square_stars, square_residuals}
use Rattle.dioid_laws.proofs.FeedbackFacts.{feedback_laws}
use Rattle.dioid_laws.proofs.Squares.{squares_are_dioid}
use Rattle.dioid_laws.proofs.SquareStars.{squares_have_stars, squares_have_residuals}
use Rattle.dioid_laws.proofs.laws.feedback_keeps_transfers.Goals as goal

pub returns-clause-elements : goal.returns-clause-elements
returns-clause-elements g c = feedback_laws g.D.Dioid g.D.Kleene g.D.Residuated g.met.D.Dioid.closed g.met.D.Dioid.laws g.met.D.Kleene.star_laws g.met.D.Residuated.residual_laws

pub returns-clause-squares : goal.returns-clause-squares
returns-clause-squares g c n =
    let d = g.D.Dioid in
    let closed = g.met.D.Dioid.closed in
    let laws = g.met.D.Dioid.laws in
    let squares = squares_are_dioid d n closed laws in
    feedback_laws (square_dioid d n) (square_stars d g.D.Kleene n) (square_residuals d g.D.Residuated n) squares.closed squares.laws
    (squares_have_stars d n closed laws g.D.Kleene g.met.D.Kleene.star_laws) (squares_have_residuals d n closed laws g.D.Residuated g.met.D.Residuated.residual_laws)
