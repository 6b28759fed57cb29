use Rattle.std.proofs.Common.{ℕ, ◌≡◌, ◌<◌, cond, length, get_or}
use Rattle.settled_forms.specs.Spread.{is_marked}
use Rattle.settled_forms.proofs.spread.owned_by.Given as goal

abbrev pub invariant-loop-index : goal.invariant-loop-index
invariant-loop-index l = record {
  count : length l.owned.items ≡ l.index;
  each : (t : ℕ) → t < l.index → get_or l.owned.items t 0 ≡ cond (is_marked l.marks t) (get_or l.own (get_or l.new t 0) 0) l.other;
}
