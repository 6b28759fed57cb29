use Rattle.std.proofs.Common.{◌≡◌, ◌+◌, map}
use Rattle.toml.specs.View.{view}
use Rattle.teg_reader.specs.PassWalks.{first_finding}
use Rattle.teg_reader.proofs.TreeLemmas.{entries_from}
use Rattle.teg_reader.proofs.walk.look_at_each.Given as goal

abbrev pub invariant-loop-index : goal.invariant-loop-index
invariant-loop-index g l =
    first_finding (g.P.Pass.looks l.pass) l.section (l.index + 1) (entries_from l.index l.entries) ≡ first_finding (g.P.Pass.looks l.pass) l.section 1 (map view l.entries)
