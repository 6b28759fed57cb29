use Rattle.teg_net.proofs.PathLaws.{IsLeft}
use Rattle.teg_net.proofs.paths.path_end.Given as goal

abbrev pub invariant-loop-id : goal.invariant-loop-id
invariant-loop-id l = IsLeft l.net l.places l.fn.start.index l.id-index l.at.index
