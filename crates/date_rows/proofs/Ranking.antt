-- The ranks that a live net's value holds.
use Rattle.std.proofs.Common.{ℕ, ◌<◌, ◌≤◌, List, length, get_or, arith, ⊎_elim}
use Rattle.std.proofs.lemmas.Bool.{cases_lt}
use Rattle.std.proofs.lemmas.List.{get_or_past}
use Rattle.teg_net.specs.Nets.{NetLists, IsNet}
use Rattle.teg_model.specs.LiveRanks.{AreRanks}
use Rattle.teg_check.specs.Ranks.{IsRanking}

abbrev pub rank_of : List ℕ → ℕ → ℕ
rank_of ranks t = get_or ranks t 0

pub ranks_of : (net : NetLists) (ranks : List ℕ) → IsNet net → IsRanking net ranks → AreRanks net.places 400 (rank_of ranks)
ranks_of net ranks ok r = record {
  below = λ t. ⊎_elim
      (λ (l : t < length ranks). omega (arith, r.small t 0 l, ok.few_transitions))
      (λ (l : length ranks ≤ t). rw get_or_past (omega arith))
      (cases_lt t (length ranks));
  rise = r.rises;
}
