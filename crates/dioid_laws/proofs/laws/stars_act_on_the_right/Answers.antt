use Rattle.dioid_laws.specs.SquareMatrices.{square_dioid, square_stars}
use Rattle.dioid_laws.specs.RightHand.{square_turned}
use Rattle.dioid_laws.proofs.Squares.{squares_are_dioid}
use Rattle.dioid_laws.proofs.SquareStars.{squares_have_stars}
use Rattle.dioid_laws.proofs.Turnings.{right_star_laws}
use Rattle.dioid_laws.proofs.TurnedSquares.{elements_turn, squares_turn}
use Rattle.dioid_laws.proofs.laws.stars_act_on_the_right.Goals as goal

pub returns-clause-elements : goal.returns-clause-elements
returns-clause-elements g c commute = right_star_laws g.D.Dioid (λ a. a) g.met.D.Dioid.closed g.met.D.Dioid.laws (elements_turn g.D.Dioid commute) g.D.Kleene g.met.D.Kleene.star_laws

pub returns-clause-squares : goal.returns-clause-squares
returns-clause-squares g c commute n =
    let d = g.D.Dioid in
    let closed = g.met.D.Dioid.closed in
    let laws = g.met.D.Dioid.laws in
    let squares = squares_are_dioid d n closed laws in
    right_star_laws (square_dioid d n) square_turned squares.closed squares.laws (squares_turn d n closed laws commute)
    (square_stars d g.D.Kleene n) (squares_have_stars d n closed laws g.D.Kleene g.met.D.Kleene.star_laws)
