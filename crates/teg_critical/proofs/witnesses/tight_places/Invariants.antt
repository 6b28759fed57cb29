use Rattle.std.proofs.Common.{ℕ, ◌≡◌, ◌<◌, true, length, get_or}
use Rattle.std.specs.Prelude.{◌↔◌}
use Rattle.teg_net.specs.Circuits.{place_at}
use Rattle.teg_critical.specs.Heights.{IsTightBy}
use Rattle.teg_critical.proofs.witnesses.tight_places.Given as goal

abbrev pub invariant-loop-number : goal.invariant-loop-number
invariant-loop-number l = (length l.tight.items ≡ l.number) × ((k : ℕ) → k < l.number → (get_or l.tight.items k true ≡ true) ↔ IsTightBy l.raised k (place_at l.net (record { index = k })) l.heights)
