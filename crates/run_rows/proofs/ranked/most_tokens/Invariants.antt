use Rattle.std.proofs.Common.{◌≤◌, ◌<◌, ℕ, get_or}
use Rattle.teg_net.specs.Circuits.{no_place}
use Rattle.teg_net.specs.Limits.{most_place_tokens}
use Rattle.run_rows.proofs.ranked.most_tokens.Given as goal

abbrev pub invariant-loop-place : goal.invariant-loop-place
invariant-loop-place l = record {
  one : 1 ≤ l.most;
  most : l.most ≤ most_place_tokens;
  all : (q : ℕ) → q < l.place-index → (get_or l.net.places q no_place).tokens ≤ l.most;
}
