use Rattle.std.proofs.Common.{◌+◌, ◌*◌, length}
use Rattle.teg_parts.proofs.Marks.{unmarked}
use Rattle.teg_parts.proofs.Reaching.{IsSearch}
use Rattle.teg_parts.proofs.components.led_from.Given as goal

abbrev pub invariant-search : goal.invariant-search
invariant-search l = IsSearch l.net l.along.near l.start l.marks.items l.agenda.items

abbrev pub decreases-search : goal.decreases-search
decreases-search l = unmarked l.marks.items * (length l.net.places + 1) + length l.agenda.items
