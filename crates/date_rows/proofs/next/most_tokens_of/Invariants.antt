use Rattle.std.proofs.Common.{◌≤◌, ◌<◌, ℕ, get_or}
use Rattle.std.specs.Prelude.{All}
use Rattle.teg_net.specs.Circuits.{no_place}
use Rattle.teg_net.specs.Limits.{most_place_tokens}
use Rattle.date_rows.proofs.next.most_tokens_of.Given as goal

abbrev pub invariant-loop-place : goal.invariant-loop-place
invariant-loop-place l = record {
  one : 1 ≤ l.most;
  most : l.most ≤ most_place_tokens;
  all : (q : ℕ) → q < l.place-index → (get_or l.net.places q no_place).tokens ≤ l.most;
  few : (n : ℕ) → 1 ≤ n → All (λ p. p.tokens ≤ n) l.net.places → l.most ≤ n;
}
