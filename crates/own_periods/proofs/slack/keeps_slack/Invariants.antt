use Rattle.std.proofs.Common.{ℕ, ◌+◌, ◌%◌, ◌<◌, ◌≡◌}
use Rattle.own_periods.specs.OwnRows.{IsInTime}
use Rattle.own_periods.proofs.slack.keeps_slack.Given as goal

abbrev pub invariant-loop-rest : goal.invariant-loop-rest
invariant-loop-rest l = (r a b : ℕ) → r < l.rest → a < l.ends → b < l.starts → b % l.apart ≡ r → a % l.apart ≡ (r + l.place.tokens) % l.apart → IsInTime l.of.rows.now l.of.pace l.place a b
