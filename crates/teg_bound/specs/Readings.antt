-- Working definitions of what is read off a net.
use Rattle.std.specs.Prelude.{ℕ, ◌≤◌}
use Rattle.teg_net.specs.Limits.{greatest_circuit_time, greatest_hold, most_circuit_tokens}

-- a count, a hold, tokens, and a ratio within their limits
pub record AreReadingsWithin (count hold tokens time per : ℕ) : Type 0 where
  pub some : 1 ≤ count
  pub count_in : count ≤ 400
  pub hold_in : hold ≤ greatest_hold
  pub tokens_in : tokens ≤ 1000
  pub time_in : time ≤ greatest_circuit_time
  pub per_in : per ≤ most_circuit_tokens
