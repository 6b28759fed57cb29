-- Which numbers a run has, and what it says of them.
use Rattle.std.proofs.Common.{ℕ, ◌-◌, ◌<◌, ◌≤◌, arith}
use Rattle.std.specs.Prelude.{◌/◌, ◌%◌}
use lib.IntN.{zero-*ℤ}
use Rattle.std.proofs.Math.Nat.{div-lt_iff_lt-mul, mod-lt}
use Rattle.dioid.proofs.Moves.{move_zero}
use Rattle.teg_model.specs.DateBounds.{IsDateWithin, greatest_least_date}
use Rattle.jump_laws.specs.Runs.{Run, IsInRun, kept_date, kept_step, run_date}
use Rattle.run_rows.specs.RoomyRuns.{IsRoomy}

-- in how many whole turns from its first number on a number of the run stands
pub turn_in : (r : Run) (k : ℕ) → 1 ≤ r.turn → IsInRun r k → (k - r.first) / r.turn < r.turns
turn_in r k some h =
    let from = h.from in
    let to = h.to in
    (div-lt_iff_lt-mul some).1 (omega (arith, from, to))

-- the first date and that of the number are within the bound
pub kept_within : (r : Run) (t k : ℕ) → IsRoomy r → IsInRun r k → IsDateWithin greatest_least_date (kept_date r t ((k - r.first) % r.turn))
kept_within r t k h has =
    let i : ℕ = (k - r.first) % r.turn in
    let below = turn_in r k h.some has in
    rw (zero-*ℤ (kept_step r t i), move_zero) at (h.room t i 0 (mod-lt (k - r.first) h.some) (omega (arith, below)))

pub moved_within : (r : Run) (t k : ℕ) → IsRoomy r → IsInRun r k → IsDateWithin greatest_least_date (run_date r t k)
moved_within r t k h has =
    h.room t ((k - r.first) % r.turn) ((k - r.first) / r.turn) (mod-lt (k - r.first) h.some) (turn_in r k h.some has)
