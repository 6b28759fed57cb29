use Rattle.delay_laws.proofs.Dated.{delays_are_within, delays_left_are_within}
use Rattle.delay_laws.proofs.laws.delays_are_within.Goals as goal

pub returns : goal.returns
returns c = record { dating = delays_are_within; left = delays_left_are_within }
