-- The least dates of a live net, by its input lists, keep the bound.
use Rattle.std.proofs.Common.{ℕ, ◌+◌, ◌*◌, ◌<◌, ◌≤◌, length, arith}
use Rattle.teg_net.specs.Nets.{NetLists, IsNet}
use Rattle.teg_net.specs.Limits.{greatest_hold, greatest_firing_number}
use Rattle.teg_model.specs.LiveRanks.{AreRanks}
use Rattle.teg_model.specs.DateBounds.{IsDateWithin, greatest_least_date}
use Rattle.teg_model.specs.Datings.{listed_releases, IsLeastDating}
use Rattle.teg_model.proofs.Within.{within_more, least_within}
use Rattle.teg_model.proofs.ListDates.{first_bound, listed_within}
use Rattle.teg_model.proofs.DateFunctions.{Dating}

-- ranks keep a greater bound
ranks_more : (net : NetLists) (bound : ℕ) (r : ℕ → ℕ) → bound ≤ 402 → AreRanks net.places bound r → AreRanks net.places 402 r
ranks_more net bound r l rr = record { below = λ t. omega (arith, rr.below t, l); rise = rr.rise }

pub least_keeps_bound : (net : NetLists) (x : Dating) (bound : ℕ) (r : ℕ → ℕ) → IsNet net → bound ≤ 402 → AreRanks net.places bound r → IsLeastDating net x
    → (t k : ℕ) → t < length net.transitions → 1 ≤ k → k ≤ greatest_firing_number → IsDateWithin greatest_least_date (x t k)
least_keeps_bound net x bound r ok few rr h t k l o m =
    let re = ranks_more net bound r few rr in
    let low = re.below t in
    within_more (first_bound k + greatest_hold * (k * 402 + r t)) greatest_least_date (x t k) (omega arith)
    (least_within net (listed_releases net) x 402 r first_bound ok re (listed_within net ok) h t k l o)
