-- What ranks of a net are, by tests.
use Rattle.std.proofs.Common.{ℕ, ◌<◌, ◌≡◌, subst, sym, List, length}
use Rattle.std.specs.Prelude.{All, slice_index}
use Rattle.std.proofs.lemmas.List.Elements.{All-from_get_or, All-get_or}
use Rattle.teg_check.specs.Ranks.{IsRanking}
use Rattle.teg_net.specs.Nets.{NetLists}

-- ranks that are as many as transitions, each below their number, and that rise along places without tokens
pub ranking_by_tests :
    (net : NetLists) (ranks : List ℕ) → length ranks ≡ length net.transitions
    → ((t : ℕ) → t < length net.transitions → slice_index ranks t < length net.transitions)
    → All (λ p. p.tokens ≡ 0 → slice_index ranks p.from.index < slice_index ranks p.to.index) net.places
    → IsRanking net ranks
ranking_by_tests net ranks count small rises = record {
  count = count;
  small = All-from_get_or (λ r. r < length net.transitions) ranks 0 (λ t w. small t (subst (λ (n : ℕ). t < n) count w));
  rises = rises;
}

-- each rank of a ranking is below their number
pub rank_is_small : (net : NetLists) (ranks : List ℕ) → IsRanking net ranks → (t : ℕ) → t < length net.transitions → slice_index ranks t < length net.transitions
rank_is_small net ranks h t w = All-get_or (λ r. r < length net.transitions) ranks t 0 (subst (λ (n : ℕ). t < n) (sym h.count) w) h.small
