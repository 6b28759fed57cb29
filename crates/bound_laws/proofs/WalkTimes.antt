-- Without inputs the least dates are the greatest times of the paths with so many tokens.
use Rattle.std.proofs.Common.{ℕ, pos, suc, ◌+◌, ◌-◌, ◌*◌, ◌<◌, ◌≤◌, ◌≡◌, nat_abs, List, [], ◌∷◌, ◌++◌, length, get_or, refl, sym, ap, ap₂, subst, ◌∙◌, arith, ⊎_elim}
use Rattle.std.specs.Prelude.{All, Any}
use Rattle.std.proofs.lemmas.Int.{ints}
use Rattle.std.proofs.lemmas.List.Sums.{sum_by-append, sum_by-cons}
use Rattle.settled_laws.specs.dioid.declared.dates.Date.{Date}
use Rattle.settled_laws.specs.dioid.declared.dates.Date.TheVariants.{Early, At, Never}
use Rattle.settled_laws.specs.dioid.Dates.{IsAtMostDate, delayed, later_of}
use Rattle.settled_laws.specs.teg_net.declared.entries.PlaceId.{PlaceId}
use Rattle.settled_laws.specs.teg_net.declared.entries.Place.{Place}
use Rattle.settled_laws.specs.teg_net.Nets.{NetLists, HasEndsInRange, IsInput}
use Rattle.settled_laws.specs.teg_net.Circuits.{place_at, IsPathBetween, IsLive, time_of, tokens_of}
use Rattle.settled_laws.specs.teg_net.Walks.{walk_time}
use Rattle.settled_laws.proofs.teg_net_proofs.PathLaws.{IsPathBetween-append}
use Rattle.settled_laws.specs.teg_model.Datings.{IsLeastDating, listed_releases, at_input, implicit_place}
use Rattle.settled_laws.specs.teg_model.Starts.{start_of_firing}
use Rattle.settled_laws.specs.teg_model.WalkDates.{IsDateOfWalk, IsGreatestOfWalks}
use Rattle.settled_laws.proofs.teg_model_proofs.OfNet.{implicit_is, input_or_not}
use Rattle.settled_laws.proofs.teg_model_proofs.GreatestWalks.{least_is_walk}
use Rattle.settled_laws.proofs.teg_model_proofs.LiveRanks.{live_ranks}
use Rattle.settled_laws.specs.teg_net.ReadyDates.{ready_date, start_date}
use Rattle.settled_laws.proofs.teg_net_proofs.StartDates.{IsStartDate-start_date}
use Rattle.std.proofs.lemmas.Bool.{cases_lt}
use Rattle.std.proofs.lemmas.List.{get_or_past}
use Rattle.bound_laws.specs.Critical.{AllReadyAtZero}
use Rattle.teg_loops.proofs.Visits.{rounds, rounds_lead, rounds_sum}
use Rattle.bound_laws.proofs.Unrolled.{unrolled, Pathed, pathed, Stepped, stepped}

abbrev pub number_of : Date → ℕ
number_of Early = 0
number_of (At z) = nat_abs z
number_of Never = 0

from_zero : (h : ℕ) → delayed h (At (pos 0)) ≡ At (pos h)
from_zero h = ap At (omega (arith, ints))

at_most_number : (h k : ℕ) → IsAtMostDate (At (pos h)) (At (pos k)) → h ≤ k
at_most_number h k l = omega (arith, ints, l)

-- x is the number y of tokens before, as a date
pub record AreWalkTimes (net : NetLists) (x : ℕ → ℕ → Date) (y : ℕ → ℕ → ℕ) : Type 0 where
  pub is : (t k : ℕ) → t < length net.transitions → x t (k + 1) ≡ At (pos (y t k))
  pub reached : (t k : ℕ) → t < length net.transitions → (j : ℕ) × (ps : List PlaceId) × (j < length net.transitions)
      × IsPathBetween (unrolled net) j ps t × (tokens_of (unrolled net) ps ≡ k) × (time_of (unrolled net) ps ≡ y t k)
  pub greatest : (t k j : ℕ) (ps : List PlaceId) → t < length net.transitions → j < length net.transitions
      → IsPathBetween (unrolled net) j ps t → tokens_of (unrolled net) ps ≡ k → time_of (unrolled net) ps ≤ y t k

-- the place by which a transition waits
pub record Waiting (net : NetLists) (t : ℕ) : Type 0 where
  pub id : PlaceId
  pub path : IsPathBetween (unrolled net) t (id ∷ []) t
  pub tokens : tokens_of (unrolled net) (id ∷ []) ≡ 1
  pub time : time_of (unrolled net) (id ∷ []) ≡ 0

pub waiting : (net : NetLists) (t : ℕ) → t < length net.transitions → Waiting net t
waiting net t l =
    let wait = implicit_is net t l in
    let id : PlaceId = record { index = wait.0 } in
    let same : place_at (unrolled net) id ≡ implicit_place t = wait.2 in
    record {
      id = id;
      path = (wait.1, ap (λ (q : Place). q.from.index) same, ap (λ (q : Place). q.to.index) same);
      tokens = (let e : (place_at (unrolled net) id).tokens ≡ 1 = ap (λ (q : Place). q.tokens) same in let c = sum_by-cons (λ q. (place_at (unrolled net) q).tokens) id [] in omega arith);
      time = (let e : (place_at (unrolled net) id).hold ≡ 0 = ap (λ (q : Place). q.hold) same in let c = sum_by-cons (λ q. (place_at (unrolled net) q).hold) id [] in omega arith);
    }

module _ (net : NetLists) (ends : HasEndsInRange net) (live : IsLive net) (no_input : (t : ℕ) → IsInput net t → ⊥) (at_zero : AllReadyAtZero net) (x : ℕ → ℕ → Date) (least : IsLeastDating net x) where
  ready_zero : (a s : ℕ) → start_date net a s ≡ 0
  ready_zero a s =
      ⊎_elim
      (λ (none : start_date net a s ≡ 0). none)
      (λ (one : Any (λ p. (p.to.index ≡ a) × (s ≤ p.tokens) × (ready_date p s ≡ start_date net a s)) net.places).
      let (i, p, l, r, (into, few, e)) = one in
      sym e ∙ zero_date p.ready (s - 1) (subst (λ q. All (λ d. d ≡ 0) q.ready) r (at_zero i p l)))
      (IsStartDate-start_date net a s).reached where
        zero_date : (xs : List ℕ) (i : ℕ) → All (λ d. d ≡ 0) xs → get_or xs i 0 ≡ 0
        zero_date xs i all = ⊎_elim (λ (l : i < length xs). all i 0 l) (λ (l : length xs ≤ i). get_or_past xs i 0 l) (cases_lt i (length xs))

  starts : (a s : ℕ) → start_of_firing net (listed_releases net) a s ≡ At (pos 0)
  starts a s = ⊎_elim
      (λ e. absurd (no_input a e.0))
      (λ (e : (at_input net a (listed_releases net a s) Early ≡ Early) × (at_input net a (listed_releases net a s) Early ≡ Early)). ap₂ later_of (ap (λ (z : ℕ). At (pos z)) (ready_zero a s)) e.0)
      (input_or_not net a (listed_releases net a s) Early Early)

  walks : (t k : ℕ) → t < length net.transitions → IsGreatestOfWalks net (listed_releases net) t (k + 1) (x t (k + 1))
  walks t k l =
      let ranks = live_ranks net ends live in
      least_is_walk net (listed_releases net) x (suc (suc (length net.transitions))) ranks.0 ends ranks.1 least t (k + 1) l (omega arith)

  date_is : (t k : ℕ) (l : t < length net.transitions) → x t (k + 1) ≡ At (pos (walk_time net (walks t k l).reached.steps))
  date_is t k l =
      let w : IsDateOfWalk net (listed_releases net) t (k + 1) (x t (k + 1)) = (walks t k l).reached in
      w.is ∙ ap (delayed (walk_time net w.steps)) (w.starts ∙ starts w.from w.number) ∙ from_zero (walk_time net w.steps)

  pub times_of : ℕ → ℕ → ℕ
  times_of t k = number_of (x t (k + 1))

  time_is : (t k : ℕ) (l : t < length net.transitions) → times_of t k ≡ walk_time net (walks t k l).reached.steps
  unfolding times_of
  time_is t k l = ap number_of (date_is t k l)

  reached_by : (t k : ℕ) → (l : t < length net.transitions) → (j : ℕ) × (ps : List PlaceId) × (j < length net.transitions)
      × IsPathBetween (unrolled net) j ps t × (tokens_of (unrolled net) ps ≡ k) × (time_of (unrolled net) ps ≡ times_of t k)
  reached_by t k l =
      let w : IsDateOfWalk net (listed_releases net) t (k + 1) (x t (k + 1)) = (walks t k l).reached in
      let path : Pathed net w.from t w.number (k + 1) w.steps = pathed net ends w.steps w.from w.number t (k + 1) w.from_in w.walk in
      let wait : Waiting net w.from = waiting net w.from w.from_in in
      let before : List PlaceId = rounds (w.number - 1) (wait.id ∷ []) in
      let f : PlaceId → ℕ = λ p. (place_at (unrolled net) p).tokens in
      let g : PlaceId → ℕ = λ p. (place_at (unrolled net) p).hold in
      let one : tokens_of (unrolled net) before ≡ (w.number - 1) * 1 = rounds_sum f (wait.id ∷ []) (w.number - 1) ∙ ap (λ (z : ℕ). (w.number - 1) * z) wait.tokens in
      let two : time_of (unrolled net) before ≡ (w.number - 1) * 0 = rounds_sum g (wait.id ∷ []) (w.number - 1) ∙ ap (λ (z : ℕ). (w.number - 1) * z) wait.time in
      let three : tokens_of (unrolled net) (before ++ path.places) ≡ tokens_of (unrolled net) before + tokens_of (unrolled net) path.places = sum_by-append f before path.places in
      let four : time_of (unrolled net) (before ++ path.places) ≡ time_of (unrolled net) before + time_of (unrolled net) path.places = sum_by-append g before path.places in
      let five = path.number in
      let six : walk_time net w.steps ≡ time_of (unrolled net) path.places = path.time in
      let seven : times_of t k ≡ walk_time net w.steps = time_is t k l in
      let some = w.from_one in (
        w.from,
        before ++ path.places,
        w.from_in,
        IsPathBetween-append (unrolled net) before path.places w.from w.from t (rounds_lead (unrolled net) w.from (wait.id ∷ []) (w.number - 1) wait.path) path.path,
        omega arith,
        omega arith,
      )

  greatest_of : (t k j : ℕ) (ps : List PlaceId) → t < length net.transitions → j < length net.transitions
      → IsPathBetween (unrolled net) j ps t → tokens_of (unrolled net) ps ≡ k → time_of (unrolled net) ps ≤ times_of t k
  greatest_of t k j ps l lj h e =
      let s : Stepped net j t 1 ps = stepped net ps j t 1 h in
      let number : s.number ≡ k + 1 = (let z = s.number_is in omega arith) in
      let date : IsDateOfWalk net (listed_releases net) t s.number (delayed (walk_time net s.steps) (start_of_firing net (listed_releases net) j 1)) =
      record { from = j; number = 1; steps = s.steps; start = start_of_firing net (listed_releases net) j 1; starts = refl; from_in = lj; from_one = omega arith; walk = s.walks; is = refl } in
      let below : IsAtMostDate (delayed (walk_time net s.steps) (start_of_firing net (listed_releases net) j 1)) (x t (k + 1)) =
      (walks t k l).greatest (delayed (walk_time net s.steps) (start_of_firing net (listed_releases net) j 1))
      (subst (λ (z : ℕ). IsDateOfWalk net (listed_releases net) t z
      (delayed (walk_time net s.steps) (start_of_firing net (listed_releases net) j 1))) number date) in
      let left : delayed (walk_time net s.steps) (start_of_firing net (listed_releases net) j 1) ≡ At (pos (walk_time net s.steps)) =
      ap (delayed (walk_time net s.steps)) (starts j 1) ∙ from_zero (walk_time net s.steps) in
      let numbers : IsAtMostDate (At (pos (walk_time net s.steps))) (At (pos (walk_time net (walks t k l).reached.steps))) =
      subst (λ (z : Date). IsAtMostDate z (At (pos (walk_time net (walks t k l).reached.steps)))) left
      (subst (IsAtMostDate (delayed (walk_time net s.steps) (start_of_firing net (listed_releases net) j 1))) (date_is t k l) below) in
      let most = at_most_number (walk_time net s.steps) (walk_time net (walks t k l).reached.steps) numbers in
      let one = s.time in
      let two = time_is t k l in
      omega arith

  pub walk_times : AreWalkTimes net x times_of
  walk_times = record { is = λ t k l. date_is t k l ∙ ap (λ (z : ℕ). At (pos z)) (sym (time_is t k l)); reached = reached_by; greatest = greatest_of }
