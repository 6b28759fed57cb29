-- The dates of live nets without inputs are numbers.
use Rattle.std.proofs.Common.{ℕ, pos, ◌≡◌, List, length, ap, ◌∙◌, ⊎_elim, ◌+ℤ◌}
use Rattle.dioid.specs.declared.dates.Date.TheVariants.{Early, At}
use Rattle.dioid.specs.Dates.{delayed, later_of}
use Rattle.teg_net.specs.Nets.{NetLists, IsNet, IsInput}
use Rattle.teg_net.specs.ReadyDates.{start_date}
use Rattle.teg_net.specs.Walks.{walk_time}
use Rattle.teg_net.proofs.NetRules.{net_ends}
use Rattle.teg_check.specs.Ranks.{IsRanking}
use Rattle.teg_model.specs.Datings.{IsLeastDating, at_input, listed_releases}
use Rattle.teg_model.specs.Starts.{start_of_firing}
use Rattle.teg_model.specs.WalkDates.{IsDateOfWalk, IsGreatestOfWalks}
use Rattle.teg_model.proofs.DateFunctions.{Dating}
use Rattle.teg_model.proofs.GreatestWalks.{least_is_walk}
use Rattle.teg_model.proofs.OfNet.{input_or_not}
use Rattle.date_rows.proofs.Ranking.{rank_of, ranks_of}
use Rattle.own_period_laws.specs.OwnPeriods.{AreNumbers}

start_is : (net : NetLists) → ((t : ℕ) → IsInput net t → ⊥) → (t k : ℕ) → start_of_firing net (listed_releases net) t k ≡ At (pos (start_date net t k))
start_is net none t k = ⊎_elim
    (λ e. absurd (none t e.0))
    (λ (e : (at_input net t (listed_releases net t k) Early ≡ Early) × (at_input net t (listed_releases net t k) Early ≡ Early)).
    ap (later_of (At (pos (start_date net t k)))) e.0)
    (input_or_not net t (listed_releases net t k) Early Early)

pub numbers : (net : NetLists) → IsNet net → (ranks : List ℕ) → IsRanking net ranks → ((t : ℕ) → IsInput net t → ⊥) → (x : Dating) → IsLeastDating net x
    → AreNumbers (length net.transitions) x
numbers net ok ranks ranking none x least t k l o =
    let walks : IsGreatestOfWalks net (listed_releases net) t k (x t k) =
    least_is_walk net (listed_releases net) x 400 (rank_of ranks) (net_ends net ok) (ranks_of net ranks ok ranking) least t k l o in
    let w : IsDateOfWalk net (listed_releases net) t k (x t k) = walks.reached in
    (pos (start_date net w.from w.number) +ℤ pos (walk_time net w.steps), w.is ∙ ap (delayed (walk_time net w.steps)) (w.starts ∙ start_is net none w.from w.number))
