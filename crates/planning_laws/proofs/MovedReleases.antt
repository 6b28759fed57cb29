-- The walk that makes a date of a release makes it as much later where the release is.
use Rattle.std.proofs.Common.{ℕ, ◌<◌, ◌≤◌, ◌≡◌, List, length, ◌∙◌, ⊎_elim}
use Rattle.std.specs.Prelude.{pos}
use Rattle.teg_model.specs.dioid.declared.dates.Date.{Date}
use Rattle.teg_model.specs.dioid.declared.dates.Date.TheVariants.{Early, At}
use Rattle.teg_model.specs.dioid.Dates.{IsAtMostDate, later_of, delayed}
use Rattle.teg_model.proofs.dioid_proofs.DateOrder.{at_most_refl, at_most_trans, same_by_at_most, delayed_rises, delayed_later, later_left, later_either}
use Rattle.teg_model.specs.teg_net.Nets.{NetLists, IsInput}
use Rattle.teg_model.specs.teg_net.ReadyDates.{start_date}
use Rattle.teg_model.specs.teg_net.declared.walks.Step.{Step}
use Rattle.teg_model.specs.teg_net.Walks.{Walks, walk_time}
use Rattle.teg_model.specs.teg_net.Circuits.{IsLive}
use Rattle.teg_model.specs.LiveRanks.{HasEndsInRange}
use Rattle.teg_model.specs.Datings.{at_input, initial_date, system_of, IsFeasibleUnder, IsLeastUnder}
use Rattle.teg_model.specs.WalkDates.{IsDateOfWalk}
use Rattle.teg_model.proofs.DateFunctions.{Dating}
use Rattle.teg_model.proofs.GreatestWalks.{not_before_ready, least_is_walk}
use Rattle.teg_model.proofs.LiveRanks.{live_is_ranked}
use Rattle.teg_model.proofs.OfNet.{feasible_in, input_or_not}
use Rattle.teg_model.proofs.WalkSteps.{Keeps, feasible_keeps_in, walk_below}
use Rattle.dating_laws.proofs.OrderOfDatings.{later_dates, no_shift_grows, delayed_either}
use Rattle.io_laws.specs.InputOutput.{no_releases}
use Rattle.planning_laws.specs.MovedReleases.{moved, ReleasesMoveDates}

module _ (net : NetLists) (ends : HasEndsInRange net) (c : ℕ) (u free x y : Dating) (none : IsLeastUnder net no_releases free)
    (least : IsLeastUnder net u x) (later : IsLeastUnder net (moved c u) y) where
  steps_kept : (v z : Dating) → IsFeasibleUnder net v z → Keeps net z
  steps_kept v z f = feasible_keeps_in net initial_date (system_of net v).release z (feasible_in net v z f)

  -- a date that a walk makes of a ready token is there without releases
  free_below : (a s t k : ℕ) (steps : List Step) → a < length net.transitions → 1 ≤ s → Walks net a s steps t k
      → x t k ≡ delayed (walk_time net steps) (At (pos (start_date net a s))) → IsAtMostDate (x t k) (free t k)
  free_below a s t k steps in' one walk is =
      let time : ℕ = walk_time net steps in
      let ready : Date = At (pos (start_date net a s)) in
      let begun = delayed_rises time ready (free a s) (not_before_ready net no_releases free none.feasible a s in' one) in
      let along = walk_below net free ends (steps_kept no_releases free none.feasible) steps a s t k in' one walk in
      rw is (at_most_trans (delayed time ready) (delayed time (free a s)) (free t k) begun along)

  -- one that a walk makes of a release comes as much later as it
  moved_above : (i j t k : ℕ) (steps : List Step) → IsInput net i → i < length net.transitions → 1 ≤ j → Walks net i j steps t k
      → x t k ≡ delayed (walk_time net steps) (u i j) → IsAtMostDate (delayed c (x t k)) (y t k)
  moved_above i j t k steps input in' one walk is =
      let time : ℕ = walk_time net steps in
      let begun = delayed_rises time (delayed c (u i j)) (y i j) (later.feasible.inputs i j one input) in
      let along = walk_below net y ends (steps_kept (moved c u) y later.feasible) steps i j t k in' one walk in
      let low = at_most_trans (delayed time (delayed c (u i j))) (delayed time (y i j)) (y t k) begun along in
      rw is (rw (delayed_either c time (u i j)) at low)

  above : IsLive net → (t k : ℕ) → t < length net.transitions → 1 ≤ k → ¬ IsAtMostDate (x t k) (free t k) → IsAtMostDate (delayed c (x t k)) (y t k)
  above live t k l o waits =
      let ranked = live_is_ranked net ends live in
      let w : IsDateOfWalk net u t k (x t k) = (least_is_walk net u x ranked.0 ranked.1 ends ranked.2 least t k l o).reached in
      let ready : Date = At (pos (start_date net w.from w.number)) in
      let release : Date = at_input net w.from (u w.from w.number) Early in
      ⊎_elim
      (λ (e : later_of ready release ≡ ready). absurd (waits (free_below w.from w.number t k w.steps w.from_in w.from_one w.walk (rw (w.starts ∙ e) at w.is))))
      (λ (e : later_of ready release ≡ release).
      ⊎_elim
      (λ (i : IsInput net w.from × (release ≡ u w.from w.number)).
      moved_above w.from w.number t k w.steps i.0 w.from_in w.from_one w.walk (rw (w.starts ∙ e ∙ i.1) at w.is))
      (λ (i : (release ≡ Early) × (release ≡ Early)). absurd (rw (e ∙ i.0) at (later_left ready release)))
      (input_or_not net w.from (u w.from w.number) Early Early))
      (later_either ready release)

pub releases_move : ReleasesMoveDates
releases_move net ends live c u free x y none least later t k l o =
    let most = no_shift_grows net c u (moved c u) x y (λ s j one i. at_most_refl (delayed c (u s j))) least later t k l o in
    record {
      not_before = later_dates net u (moved c u) x y (λ s j one i. delayed_later c (u s j)) least later t k l o;
      at_most = most;
      just = λ waits. same_by_at_most (y t k) (delayed c (x t k)) most (above net ends c u free x y none least later live t k l o waits);
    }
