use Rattle.dioid_laws.specs.SquareMatrices.{square_dioid, square_stars}
use Rattle.dioid_laws.proofs.StarFacts.{star_identities}
use Rattle.dioid_laws.proofs.Squares.{squares_are_dioid}
use Rattle.dioid_laws.proofs.SquareStars.{squares_have_stars}
use Rattle.dioid_laws.proofs.laws.square_matrices_have_stars.Goals as goal

pub returns-clause-least : goal.returns-clause-least
returns-clause-least g c n = squares_have_stars g.D.Dioid n g.met.D.Dioid.closed g.met.D.Dioid.laws g.D.Kleene g.met.D.Kleene.star_laws

pub returns-clause-identities : goal.returns-clause-identities
returns-clause-identities g c n =
    let d = g.D.Dioid in
    let squares = squares_are_dioid d n g.met.D.Dioid.closed g.met.D.Dioid.laws in
    star_identities (square_dioid d n) (square_stars d g.D.Kleene n) squares.closed squares.laws (squares_have_stars d n g.met.D.Dioid.closed g.met.D.Dioid.laws g.D.Kleene g.met.D.Kleene.star_laws)
