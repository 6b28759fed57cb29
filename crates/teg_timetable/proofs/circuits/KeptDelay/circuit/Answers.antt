use Rattle.teg_timetable.proofs.Feeding.{good_turned}
use Rattle.teg_timetable.proofs.circuits.KeptDelay.circuit.Goals as goal

pub returns-clause-good : goal.returns-clause-good
returns-clause-good c =
    good_turned c.args.self.now c.in_ok-places.places.items c.begin_lowest.new.self.places.items c.begin_lowest.ensures.turned c.in_ok-places.ensures.good
