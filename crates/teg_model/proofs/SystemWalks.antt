-- The least dates of a system of a ranked net are those of walks.
use Rattle.std.proofs.Common.{ℕ, zero, suc, ◌+◌, ◌-◌, ◌*◌, ◌<◌, ◌≤◌, ◌≡◌, List, [], ◌∷◌, ◌++◌, length, get_or, refl, sym, ap, subst, ◌∙◌, arith, ⊎_elim}
use Rattle.std.proofs.lemmas.Bool.{cases_lt}
use Rattle.std.proofs.lemmas.List.Sums.{sum_by-cons}
use Rattle.dioid.specs.declared.dates.Date.{Date}
use Rattle.dioid.specs.Dates.{IsAtMostDate, delayed}
use Rattle.dioid.proofs.DateOrder.{at_most_trans, at_most_is, same_by_at_most, delayed_rises}
use Rattle.teg_net.specs.declared.entries.PlaceId.{PlaceId}
use Rattle.teg_net.specs.declared.entries.Place.{Place}
use Rattle.teg_net.specs.declared.walks.Step.{Step}
use Rattle.teg_net.specs.declared.walks.Step.TheVariants.{By, Next}
use Rattle.teg_net.specs.Nets.{NetLists}
use Rattle.teg_net.specs.Circuits.{no_place, place_at}
use Rattle.teg_net.specs.Walks.{walk_time, step_time}
use Rattle.teg_model.specs.Systems.{System, available_in, IsFeasibleIn, IsLeastIn}
use Rattle.teg_model.specs.LiveRanks.{AreRanks, HasEndsInRange}
use Rattle.teg_model.specs.Starts.{IsStartIn}
use Rattle.teg_model.specs.Datings.{implicit_place, extended_places, system_with}
use Rattle.teg_model.specs.WalkDates.{IsDateOfWalkFrom, IsGreatestOfWalksIn}
use Rattle.teg_model.proofs.LeastOver.{least_over, least_is_attained, least_is_feasible, least_over_is_least, only_least_in, falls}
use Rattle.teg_model.proofs.OfNet.{which_place, ranks_extended}
use Rattle.teg_model.proofs.Delays.{delayed_twice, delayed_not}
use Rattle.teg_model.proofs.Tokens.{available_after, available_first, implicit_gives}
use Rattle.teg_model.proofs.FirstStarts.{start_in, start_is, feasible_not_before}
use Rattle.teg_model.proofs.WalkSteps.{walk_append, walk_time-append, walk_below, feasible_keeps_in}
use Rattle.teg_model.proofs.DateFunctions.{Dating, InitialDates}

-- the walk without steps
pub walk_starts : (net : NetLists) (IsStart : ℕ → ℕ → Date → Type 0) (t k : ℕ) (d : Date) → t < length net.transitions → 1 ≤ k → IsStart t k d → IsDateOfWalkFrom net IsStart t k d
walk_starts net IsStart t k d l o h = record { from = t; number = k; steps = []; start = d; from_in = l; from_one = o; walk = (refl, refl); starts = h; is = sym (delayed_not d) }

-- a walk with one place more
pub walk_by : (net : NetLists) (IsStart : ℕ → ℕ → Date → Type 0) (p : PlaceId) (k : ℕ) (d : Date) → p.index < length net.places → (place_at net p).tokens < k
    → IsDateOfWalkFrom net IsStart (place_at net p).from.index (k - (place_at net p).tokens) d → IsDateOfWalkFrom net IsStart (place_at net p).to.index k (delayed (place_at net p).hold d)
walk_by net IsStart p k d in' l r =
    let place : Place = place_at net p in
    let back : (k - place.tokens) + place.tokens ≡ k = omega arith in
    let last : List Step = By p ∷ [] in
    let one : walk_time net last ≡ place.hold + 0 = sum_by-cons (step_time net) (By p) [] in
    let time : walk_time net (r.steps ++ last) ≡ walk_time net r.steps + place.hold = omega (arith, walk_time-append net r.steps last, one) in
    record {
      from = r.from;
      number = r.number;
      steps = r.steps ++ last;
      start = r.start;
      from_in = r.from_in;
      from_one = r.from_one;
      walk = walk_append net r.steps last r.from r.number place.from.index (k - place.tokens) place.to.index k r.walk (in', refl, (refl, back));
      starts = r.starts;
      is = ap (delayed place.hold) r.is ∙ (sym (delayed_twice (walk_time net r.steps) place.hold r.start) ∙ ap (λ n. delayed n r.start) (sym time));
    }

-- a walk that goes on to the next firing
pub walk_next : (net : NetLists) (IsStart : ℕ → ℕ → Date → Type 0) (t k : ℕ) (d : Date) → IsDateOfWalkFrom net IsStart t k d → IsDateOfWalkFrom net IsStart t (k + 1) d
walk_next net IsStart t k d r =
    let last : List Step = Next ∷ [] in
    let one : walk_time net last ≡ 0 + 0 = sum_by-cons (step_time net) Next [] in
    let time : walk_time net (r.steps ++ last) ≡ walk_time net r.steps = omega (arith, walk_time-append net r.steps last, one) in
    record {
      from = r.from;
      number = r.number;
      steps = r.steps ++ last;
      start = r.start;
      from_in = r.from_in;
      from_one = r.from_one;
      walk = walk_append net r.steps last r.from r.number t k t (k + 1) r.walk (refl, refl);
      starts = r.starts;
      is = r.is ∙ ap (λ n. delayed n r.start) (sym time);
    }

-- no walk ends later than a dating has it that keeps its start and each of its steps
pub walks_below : (net : NetLists) (IsStart : ℕ → ℕ → Date → Type 0) (init : InitialDates) (release x : Dating) → HasEndsInRange net → IsFeasibleIn (system_with net init release) x
    → ((t k : ℕ) (d : Date) → t < length net.transitions → 1 ≤ k → IsStart t k d → IsAtMostDate d (x t k))
    → (b k : ℕ) (d : Date) → IsDateOfWalkFrom net IsStart b k d → IsAtMostDate d (x b k)
walks_below net IsStart init release x ends f below b k d w =
    rw w.is
    (at_most_trans (delayed (walk_time net w.steps) w.start) (delayed (walk_time net w.steps) (x w.from w.number)) (x b k)
    (delayed_rises (walk_time net w.steps) w.start (x w.from w.number) (below w.from w.number w.start w.from_in w.from_one w.starts))
    (walk_below net x ends (feasible_keeps_in net init release x f) w.steps w.from w.number b k w.from_in w.from_one w.walk))

-- the starts of a system
abbrev pub IsWalkIn : NetLists → System → ℕ → ℕ → Date → Type 0
IsWalkIn net s b k d = IsDateOfWalkFrom net (IsStartIn s) b k d

size_less : (bound k j r n : ℕ) → j + 1 ≡ k → r < bound → k * bound + r < suc n → j * bound + r < n
size_less bound k j r n e b l =
    let product : k * bound ≡ j * bound + bound = rw (← e) (grind arith) in
    omega (arith, product)

module _ (net : NetLists) (init : InitialDates) (release : Dating) (bound : ℕ) (r : ℕ → ℕ) (ends : HasEndsInRange net) (rr : AreRanks net.places bound r) where
  abbrev sys : System
  sys = system_with net init release

  abbrev lo : Dating
  lo = least_over (system_with net init release) bound r

  -- a firing that comes no later than its start comes at it
  at_start : (t k : ℕ) → t < length net.transitions → 1 ≤ k → IsAtMostDate (lo t k) (start_in sys t k) → IsWalkIn net sys t k (lo t k)
  at_start t k l o h =
      let f = least_is_feasible sys bound r (ranks_extended net bound r rr) in
      let s = start_is sys t k in
      let same : start_in sys t k ≡ lo t k = same_by_at_most (start_in sys t k) (lo t k) (s.least (lo t k) (feasible_not_before sys lo f t k o)) h in
      subst (IsWalkIn net sys t k) same (walk_starts net (IsStartIn sys) t k (start_in sys t k) l o s)

  -- by induction on number and rank: what attains the date of a firing comes at the end of a walk
  reached : (n t k : ℕ) → t < length net.transitions → 1 ≤ k → k * bound + r t < n → IsWalkIn net sys t k (lo t k)
  reached zero t k l o s = absurd (omega arith)
  reached (suc n) t k l o s =
      let start = start_is sys t k in
      ⊎_elim
      (λ (e : lo t k ≡ release t k). at_start t k l o (at_most_trans (lo t k) (release t k) (start_in sys t k) (at_most_is (lo t k) (release t k) e) start.not_before.released))
      (λ (a : (i : ℕ) × (i < length (extended_places net)) × ((get_or (extended_places net) i no_place).to.index ≡ t) × (lo t k ≡ available_in init lo (get_or (extended_places net) i no_place) k)).
      let q : Place = get_or (extended_places net) a.0 no_place in
      ⊎_elim
      (λ (m : q.tokens < k).
      ⊎_elim
      (λ (b : (a.0 < length net.places) × (get_or (extended_places net) a.0 no_place ≡ get_or net.places a.0 no_place)).
      let id : PlaceId = record { index = a.0 } in
      let p : Place = place_at net id in
      let ends' : p.to.index ≡ t = ap (λ z. z.to.index) (sym b.1) ∙ a.2 in
      let from : lo t k ≡ available_in init lo p k = a.3 ∙ ap (λ z. available_in init lo z k) b.1 in
      let more : p.tokens < k = rw b.1 at m in
      let down = falls bound k p.tokens (r p.from.index) (r p.to.index) more (rr.below p.from.index) (rr.rise a.0 no_place b.0) in
      let rank_is : r p.to.index ≡ r t = ap r ends' in
      let before = reached n p.from.index (k - p.tokens) (ends a.0 no_place b.0).0 (omega arith) (omega arith) in
      let now = walk_by net (IsStartIn sys) id k (lo p.from.index (k - p.tokens)) b.0 more before in
      let same : lo t k ≡ delayed p.hold (lo p.from.index (k - p.tokens)) = from ∙ available_after init lo p k (lo p.from.index (k - p.tokens)) more refl in
      subst (λ d. IsWalkIn net sys t k d) (sym same) (subst (λ v. IsWalkIn net sys v k (delayed p.hold (lo p.from.index (k - p.tokens)))) ends' now))
      (λ (b : (v : ℕ) × (get_or (extended_places net) a.0 no_place ≡ implicit_place v)).
      let v_is : b.0 ≡ t = ap (λ z. z.to.index) (sym b.1) ∙ a.2 in
      let more : 1 < k = rw b.1 at m in
      let j : ℕ = k - 1 in
      let plus : j + 1 ≡ k = omega arith in
      let from : lo t k ≡ available_in init lo (implicit_place t) k = a.3 ∙ (ap (λ z. available_in init lo z k) b.1 ∙ ap (λ v. available_in init lo (implicit_place v) k) v_is) in
      let from_j : lo t k ≡ lo t j = from ∙ (ap (λ y. available_in init lo (implicit_place t) y) (sym plus) ∙ implicit_gives init lo t j (omega arith)) in
      let before = reached n t j l (omega arith) (size_less bound k j (r t) n plus (rr.below t) s) in
      subst (λ d. IsWalkIn net sys t k d) (sym from_j) (subst (λ y. IsWalkIn net sys t y (lo t j)) plus (walk_next net (IsStartIn sys) t j (lo t j) before)))
      (which_place net a.0 a.1))
      (λ (m : k ≤ q.tokens).
      let is : lo t k ≡ init q k = a.3 ∙ available_first init lo q k m in
      at_start t k l o (at_most_trans (lo t k) (init q k) (start_in sys t k) (at_most_is (lo t k) (init q k) is) (start.not_before.tokens a.0 no_place a.1 a.2 m)))
      (cases_lt q.tokens k))
      (least_is_attained sys bound r (ranks_extended net bound r rr) t k)

  -- the date of each firing is that of a walk
  pub reached_in : (x : Dating) → IsLeastIn (system_with net init release) x → (t k : ℕ) → t < length net.transitions → 1 ≤ k → IsWalkIn net (system_with net init release) t k (x t k)
  reached_in x h t k l o =
      let same : lo t k ≡ x t k = only_least_in sys lo x (least_over_is_least sys bound r (ranks_extended net bound r rr)) h t k o in
      subst (IsWalkIn net sys t k) same (reached (suc (k * bound + r t)) t k l o (omega arith))

  pub least_in_is_walk : (x : Dating) → IsLeastIn (system_with net init release) x → (t k : ℕ) → t < length net.transitions → 1 ≤ k → IsGreatestOfWalksIn net (system_with net init release) t k (x t k)
  least_in_is_walk x h t k l o = record {
    reached = reached_in x h t k l o;
    greatest = λ d w. walks_below net (IsStartIn sys) init release x ends h.feasible (λ a s e m one i. i.least (x a s) (feasible_not_before sys x h.feasible a s one)) t k d w;
  }
