use Rattle.teg_form.proofs.Merging.{EntriesUpTo}
use Rattle.teg_form.proofs.entries.entries_of.Given as goal

abbrev pub invariant-loop-turn : goal.invariant-loop-turn
invariant-loop-turn l = EntriesUpTo l.net l.order.items l.entries.items l.turn
