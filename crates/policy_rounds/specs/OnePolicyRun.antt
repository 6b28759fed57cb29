-- Policy runs are determined by the net and the part.
use Rattle.std.specs.Prelude.{ℕ, ◌<◌, ◌≡◌, List, length, slice_index_or}
use Rattle.teg_net.specs.declared.rounds.Round.{Round}
use Rattle.teg_net.specs.Nets.{NetLists}
use Rattle.teg_net.specs.Circuits.{IsLive}
use Rattle.policy_rounds.specs.PolicyRounds.{chosen, potential, IsPolicyRun}

-- the rounds have the same choices, and so the same places and potentials of each transition, the same circuit and the
-- same ratio
pub record AreSameRounds (r q : Round) : Type 0 where
  pub choices : r.choices.items ≡ q.choices.items
  pub places : (t : ℕ) → chosen r t ≡ chosen q t
  pub potentials : (t : ℕ) → potential r t ≡ potential q t
  pub circuit : r.circuit.places.items ≡ q.circuit.places.items
  pub ratio : r.ratio ≡ q.ratio

-- the runs are equally long and have the same rounds
pub record AreSameRuns (rs qs : List Round) : Type 0 where
  pub count : length rs ≡ length qs
  pub rounds : (k : ℕ) (d : Round) → k < length rs → AreSameRounds (slice_index_or rs k d) (slice_index_or qs k d)

-- a part of a live net has one policy run only
abbrev pub PolicyRunsAreOne : Type 0
PolicyRunsAreOne =
    (net : NetLists) (part_of : List ℕ) (part : ℕ) (rs qs : List Round) → IsLive net → IsPolicyRun net part_of part rs → IsPolicyRun net part_of part qs → AreSameRuns rs qs
