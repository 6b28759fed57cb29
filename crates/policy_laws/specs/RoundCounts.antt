-- How many rounds policy iteration takes (chapter 3).
use Rattle.std.specs.Prelude.{ℕ, ◌+◌, ◌*◌, ◌<◌, ◌≤◌, ◌≡◌, List, length, All, slice_index_or}
use Rattle.teg_net.specs.declared.rounds.Round.{Round}
use Rattle.teg_net.specs.Nets.{NetLists}
use Rattle.teg_net.specs.Circuits.{IsLive}
use Rattle.teg_net.specs.Parts.{ListsMembers}
use Rattle.policy_rounds.specs.PolicyRounds.{IsPolicyRun}

-- of one ratio there are at most as many rounds as the part has members
abbrev pub RoundsOfOneRatioAreFew : Type 0
RoundsOfOneRatioAreFew =
    (net : NetLists) (part_of : List ℕ) (part : ℕ) (members : List ℕ) (rounds : List Round) → IsLive net → ListsMembers part_of part members
    → IsPolicyRun net part_of part rounds
    → (i k : ℕ) (d : Round) → i ≤ k → k < length rounds → (slice_index_or rounds i d).ratio ≡ (slice_index_or rounds k d).ratio → k < i + length members

-- how many ratios of circuits of a net there can be at most, where no circuit has more time or tokens than this: one of no time, and
-- one for each time and each number of tokens
abbrev pub most_ratios : ℕ → ℕ → ℕ
most_ratios time tokens = time * tokens + 1

-- and so there are at most so many rounds in a run, by the greatest holding time and the most tokens of a place
abbrev pub RoundsAreFew : Type 0
RoundsAreFew =
    (net : NetLists) (part_of : List ℕ) (part : ℕ) (members : List ℕ) (hold tokens : ℕ) (rounds : List Round) → IsLive net
    → ListsMembers part_of part members → IsPolicyRun net part_of part rounds
    → All (λ p. p.hold ≤ hold) net.places → All (λ p. p.tokens ≤ tokens) net.places
    → length rounds ≤ length members * most_ratios (length members * hold) (length members * tokens)
