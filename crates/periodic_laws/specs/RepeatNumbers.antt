-- From which number on the least dating of a net repeats, in which period and by which steps: told by the lists of the net
-- alone.
use Rattle.std.specs.Prelude.{ℕ, ℤ, zero, suc, ◌*◌, ◌/◌, max, length}
use Rattle.series_ops.specs.series_laws.Periodic.{times}
use Rattle.series_ops.specs.series_laws.SeriesForms.{Form, repeat_start}
use Rattle.settled_laws.specs.teg_net.Nets.{NetLists}
use Rattle.periodic_laws.specs.GainColumns.{dates_form}

-- the greatest of f 0, .., f (n - 1)
abbrev pub greatest_of : (ℕ → ℕ) → ℕ → ℕ
greatest_of f zero = 0
greatest_of f (suc n) = max (greatest_of f n) (f n)

-- the product of f 0, .., f (n - 1)
abbrev pub product_of : (ℕ → ℕ) → ℕ → ℕ
product_of f zero = 1
product_of f (suc n) = product_of f n * f n

-- where the last of the first `count` forms begins to repeat
abbrev pub common_start : ℕ → (ℕ → Form) → ℕ
common_start count f = greatest_of (λ t. repeat_start (f t)) count

-- a period of all of them: the product of theirs
abbrev pub common_period : ℕ → (ℕ → Form) → ℕ
common_period count f = product_of (λ t. (f t).period) count

-- the step of one of them in that period
abbrev pub common_step : ℕ → (ℕ → Form) → ℕ → ℤ
common_step count f t = times (common_period count f / (f t).period) (f t).step

-- the number past which the least dating of the net repeats
unfoldable pub repeats_past : NetLists → ℕ
repeats_past net = common_start (length net.transitions) (dates_form net)

-- a period in which it repeats
unfoldable pub repeats_in : NetLists → ℕ
repeats_in net = common_period (length net.transitions) (dates_form net)

-- the step of each transition in that period
unfoldable pub repeats_by : NetLists → ℕ → ℤ
repeats_by net t = common_step (length net.transitions) (dates_form net) t
