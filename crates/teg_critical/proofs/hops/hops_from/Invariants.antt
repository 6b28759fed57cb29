use Rattle.teg_critical.specs.Hops.{AreHops, open_count}
use Rattle.teg_critical.proofs.hops.hops_from.Given as goal

abbrev pub invariant-further : goal.invariant-further
invariant-further l = AreHops l.net l.usable l.place l.hops.items

abbrev pub decreases-further : goal.decreases-further
decreases-further l = open_count l.hops.items
