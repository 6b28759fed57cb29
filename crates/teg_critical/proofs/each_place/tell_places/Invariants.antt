use Rattle.std.proofs.Common.{take}
use Rattle.teg_critical.specs.Told.{AreToldMore}
use Rattle.teg_critical.proofs.each_place.tell_places.Given as goal

abbrev pub invariant-loop-ending : goal.invariant-loop-ending
invariant-loop-ending l = AreToldMore l.known.net.now l.best (take l.ending-index l.endings) l.initial.slacks l.slacks
