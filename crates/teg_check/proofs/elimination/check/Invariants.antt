use Rattle.teg_check.specs.Exits.{AreExitsLeft}
use Rattle.teg_check.proofs.Ranking.{Ranked}
use Rattle.teg_check.proofs.elimination.check.Given as goal

abbrev pub invariant-loop-rank : goal.invariant-loop-rank
invariant-loop-rank l =
    Ranked l.net l.ranks.items l.ranked.items l.rank × AreExitsLeft l.net l.ranked.items l.exits.leaving l.exits.passed.items
