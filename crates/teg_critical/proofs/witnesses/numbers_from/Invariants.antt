use Rattle.std.proofs.Common.{ℕ, ◌≡◌, ◌<◌, length, get_or}
use Rattle.teg_critical.specs.Hops.{hop_at, reached_number}
use Rattle.teg_critical.proofs.witnesses.numbers_from.Given as goal

abbrev pub invariant-loop-hop : goal.invariant-loop-hop
invariant-loop-hop l = (length l.numbers.items ≡ l.hop-index) × ((k : ℕ) → k < l.hop-index → get_or l.numbers.items k 0 ≡ reached_number (hop_at l.hop-items k))
