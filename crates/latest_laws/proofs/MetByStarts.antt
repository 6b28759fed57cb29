-- Inputs at 0 meet the due dates where no latest date is before its start: the least date of a due firing is the start plus the
-- time of a walk to it, and the latest date of the firing where that walk begins is at most the due date less the time.
use Rattle.std.proofs.Common.{ℕ, ◌+◌, ◌<◌, ◌≤◌, ◌≡◌, List, [], ◌∷◌, Some, length, ap, ◌∙◌, refl, arith, ⊎_elim}
use Rattle.std.specs.Prelude.{pos}
use Rattle.std.proofs.lemmas.Int.{ints}
use Rattle.teg_model.specs.dioid.declared.dates.Date.{Date}
use Rattle.teg_model.specs.dioid.declared.dates.Date.TheVariants.{Early, At}
use Rattle.teg_model.specs.dioid.Dates.{IsAtMostDate, delayed}
use Rattle.teg_model.proofs.dioid_proofs.DateOrder.{at_most_trans, delayed_rises, later_is_left}
use Rattle.teg_model.specs.teg_net.Nets.{NetLists, IsInput}
use Rattle.teg_model.specs.teg_net.Circuits.{IsLive, place_at}
use Rattle.teg_model.specs.teg_net.ReadyDates.{start_date}
use Rattle.teg_model.specs.teg_net.declared.walks.Step.{Step}
use Rattle.teg_model.specs.teg_net.declared.walks.Step.TheVariants.{By, Next}
use Rattle.teg_model.specs.teg_net.Walks.{Walks, walk_time}
use Rattle.teg_model.specs.LiveRanks.{HasEndsInRange}
use Rattle.teg_model.specs.Datings.{at_input, system_of, IsLeastUnder}
use Rattle.teg_model.specs.Starts.{start_of_firing}
use Rattle.teg_model.specs.WalkDates.{IsDateOfWalk}
use Rattle.teg_model.proofs.DateFunctions.{Dating}
use Rattle.teg_model.proofs.GreatestWalks.{least_is_walk, not_before_ready}
use Rattle.teg_model.proofs.LeastOver.{least_over}
use Rattle.teg_model.proofs.LiveRanks.{live_is_ranked}
use Rattle.teg_model.proofs.OfNet.{input_or_not, least_of, least_of_system}
use Rattle.due_laws.specs.MeetingDueDates.{InputsMeet, inputs_at_zero}
use Rattle.due_laws.specs.LatestDates.{AreLatestDates, IsDateToDue}
use Rattle.due_laws.proofs.LatestDates.{Dues, earlier_by, earlier_delayed, kept_below}
use Rattle.latest_laws.specs.MetByStarts.{StartsAreKept, ZeroInputsMeetByStarts, ZeroInputsMeetByAllStarts}

-- the start of a firing, where the inputs are at 0
start_at_zero : (net : NetLists) (a s : ℕ) → start_of_firing net inputs_at_zero a s ≡ At (pos (start_date net a s))
start_at_zero net a s =
    let first : Date = At (pos (start_date net a s)) in
    ⊎_elim
    (λ (e : IsInput net a × (at_input net a (At (pos 0)) Early ≡ At (pos 0))). rw e.1 (later_is_left first (At (pos 0)) (omega (arith, ints))))
    (λ (e : (at_input net a (At (pos 0)) Early ≡ Early) × (at_input net a (At (pos 0)) Early ≡ Early)). rw e.0 refl)
    (input_or_not net a (At (pos 0)) Early Early)

-- no step leads to a smaller number
numbers_rise : (net : NetLists) (steps : List Step) (a s b k : ℕ) → Walks net a s steps b k → s ≤ k
numbers_rise net [] a s b k w = omega (arith, w.1)
numbers_rise net (By p ∷ steps) a s b k w =
    let rest = numbers_rise net steps (place_at net p).to.index (s + (place_at net p).tokens) b k w.2 in
    omega (arith, rest)
numbers_rise net (Next ∷ steps) a s b k w = let rest = numbers_rise net steps a (s + 1) b k w in omega (arith, rest)

-- a live net has a least dating with inputs at 0
zero_dating : (net : NetLists) → HasEndsInRange net → IsLive net → (x : Dating) × IsLeastUnder net inputs_at_zero x
zero_dating net ends live =
    let ranked = live_is_ranked net ends live in
    let x : Dating = least_over (system_of net inputs_at_zero) ranked.0 ranked.1 in (
      x,
      least_of_system net inputs_at_zero x (least_of net inputs_at_zero ranked.0 ranked.1 ranked.2),
    )

-- no latest date is before its start where inputs at 0 meet the due dates
starts_kept : (net : NetLists) (due : Dues) (y : Dating) → HasEndsInRange net → AreLatestDates net due y → InputsMeet net due inputs_at_zero → (last : ℕ) → StartsAreKept net last y
starts_kept net due y ends l meets last t k in' o few =
    let x : Dating = meets.0 in
    let f = meets.1.feasible in
    at_most_trans (At (pos (start_date net t k))) (x t k) (y t k)
    (not_before_ready net inputs_at_zero x f t k in' o)
    (kept_below net due inputs_at_zero x ends f meets.2 t k (y t k) in' o (l t k in' o))

-- a due firing comes in time where the starts up to its number are kept
due_kept : (net : NetLists) (due : Dues) (x y : Dating) → HasEndsInRange net → IsLive net → IsLeastUnder net inputs_at_zero x → AreLatestDates net due y
    → (t k d : ℕ) → t < length net.transitions → 1 ≤ k → due t k ≡ Some d → StartsAreKept net k y → IsAtMostDate (x t k) (At (pos d))
due_kept net due x y ends live h l t k d in' o is kept =
    let ranked = live_is_ranked net ends live in
    let w : IsDateOfWalk net inputs_at_zero t k (x t k) = (least_is_walk net inputs_at_zero x ranked.0 ranked.1 ends ranked.2 h t k in' o).reached in
    let time : ℕ = walk_time net w.steps in
    let start : Date = At (pos (start_date net w.from w.number)) in
    let back : Date = earlier_by time (At (pos d)) in
    let whole : delayed time back ≡ At (pos d) = earlier_delayed time (At (pos d)) in
    let leads : IsDateToDue net due w.from w.number back = record { to = t; number = k; due_date = d; steps = w.steps; walk = w.walk; is_due = is; is = whole } in
    let first : IsAtMostDate start (y w.from w.number) = kept w.from w.number w.from_in w.from_one (numbers_rise net w.steps w.from w.number t k w.walk) in
    let low = at_most_trans start (y w.from w.number) back first ((l w.from w.number w.from_in w.from_one).least back leads) in
    let reached : x t k ≡ delayed time start = w.is ∙ ap (delayed time) (w.starts ∙ start_at_zero net w.from w.number) in
    rw reached (rw whole at (delayed_rises time start back low))

pub zero_meet_by_starts : ZeroInputsMeetByStarts
zero_meet_by_starts net ends live due last up y l = (
  λ meets. starts_kept net due y ends l meets last,
  λ kept.
      let x = zero_dating net ends live in (
        x.0,
        x.1,
        λ t k d in' o is. due_kept net due (x.0) y ends live x.1 l t k d in' o is (λ s j s_in one few. let below = up t k d in' is in kept s j s_in one (omega (arith, few, below))),
      ),
)

pub zero_meet_by_all_starts : ZeroInputsMeetByAllStarts
zero_meet_by_all_starts net ends live due y l = (
  λ meets. starts_kept net due y ends l meets,
  λ kept. let x = zero_dating net ends live in (x.0, x.1, λ t k d in' o is. due_kept net due (x.0) y ends live x.1 l t k d in' o is (kept k)),
)
