-- The greatest start plus time where one input alone is released, at 0, is the greatest time of a walk from its first firing.
use Rattle.std.proofs.Common.{ℕ, zero, suc, ◌+◌, ◌-◌, ◌<◌, ◌≤◌, ◌≡◌, ◌≢◌, List, ◌∷◌, true, false, eqb, length, Option, Some, None, refl, sym, ap, subst, ◌∙◌, arith, ⊎_elim, inl, inr}
use Rattle.std.specs.Prelude.{pos, ◌⊎◌, slice_get, IsSomeAnd}
use Rattle.std.proofs.lemmas.Bool.{cases_lt, cases_eq}
use Rattle.std.proofs.lemmas.Bool.Decides.{nat_tests}
use Rattle.std.proofs.lemmas.Int.{ints}
use Rattle.std.proofs.lemmas.List.Sums.{sum_by-cons}
use Rattle.std.proofs.lemmas.Option.{slice_get_past}
use Rattle.dioid.specs.declared.dates.Date.{Date}
use Rattle.dioid.specs.declared.dates.Date.TheVariants.{Early, At}
use Rattle.dioid.specs.Dates.{IsAtMostDate, delayed}
use Rattle.dioid.proofs.DateOrder.{at_most_refl, at_most_early, same_by_at_most}
use Rattle.teg_net.specs.declared.entries.Transition.{Transition}
use Rattle.teg_net.specs.declared.entries.Role.TheVariants.{Input}
use Rattle.teg_net.specs.declared.walks.Step.{Step}
use Rattle.teg_net.specs.declared.walks.Step.TheVariants.{Next}
use Rattle.teg_net.specs.Nets.{NetLists, IsInput}
use Rattle.teg_net.specs.Walks.{Walks, walk_time, step_time}
use Rattle.periodic_laws.specs.teg_model.Starts.{IsStartIn}
use Rattle.periodic_laws.specs.teg_model.WalkDates.{IsGreatestOfWalksIn}
use Rattle.walk_times.specs.Alone.{alone}
use Rattle.walk_times.specs.Transfers.{IsGreatestWalkTime}

is_transition : (o : Option Transition) → o ≡ None → IsSomeAnd o (λ x. x.role ≡ Input) → ⊥
is_transition None e h = h
is_transition (Some t) e h = absurd (cc)

pub input_within : (net : NetLists) (input : ℕ) → IsInput net input → input < length net.transitions
input_within net input h =
    ⊎_elim
    (λ (l : input < length net.transitions). l)
    (λ (l : length net.transitions ≤ input). absurd (is_transition (slice_get net.transitions input) (slice_get_past net.transitions input l) h))
    (cases_lt input (length net.transitions))

-- a walk that goes on from a later firing of a transition also goes on from an earlier one, in the same time
lead_in : (net : NetLists) (a b k m s : ℕ) (steps : List Step) → Walks net a (s + m) steps b k → (all : List Step) × Walks net a s all b k × (walk_time net all ≡ walk_time net steps)
lead_in net a b k zero s steps w = let is : s + 0 ≡ s = omega arith in (steps, rw is at w, refl)
lead_in net a b k (suc m) s steps w =
    let is : s + suc m ≡ (s + 1) + m = omega arith in
    let on = lead_in net a b k m (s + 1) steps (rw is at w) in
    let one : walk_time net (Next ∷ on.0) ≡ 0 + walk_time net on.0 = sum_by-cons (step_time net) Next on.0 in
    (Next ∷ on.0, on.1, omega (arith, one, on.2))

-- the starts: 0 at the input, and no other
starts_at : (net : NetLists) (input k : ℕ) → IsStartIn (alone net input) input k (At (pos 0))
starts_at net input k =
    let b : eqb input input ≡ true = grind (arith, nat_tests) in
    record {
      not_before = record { released = rw b (at_most_refl (At (pos 0))); tokens = λ i d l e m. tt };
      least = λ z h. rw b at h.released;
    }

start_is : (net : NetLists) (input t k : ℕ) (start : Date) → IsStartIn (alone net input) t k start → ((t ≡ input) × (start ≡ At (pos 0))) ⊎ (start ≡ Early)
start_is net input t k start h =
    ⊎_elim
    (λ (e : t ≡ input).
    let b : eqb input t ≡ true = grind (arith, nat_tests) in
    inl (
      e,
      same_by_at_most start (At (pos 0)) (h.least (At (pos 0)) (record { released = rw b (at_most_refl (At (pos 0))); tokens = λ i d l q m. tt })) (rw b at h.not_before.released),
    ))
    (λ (e : t ≢ input).
    let b : eqb input t ≡ false = grind (arith, nat_tests) in
    inr (at_most_early start (h.least Early (record { released = rw b tt; tokens = λ i d l q m. tt }))))
    (cases_eq t input)

zero_later : (n : ℕ) → At (pos n) ≡ delayed n (At (pos 0))
zero_later n = ap At (omega (arith, ints))

-- the greatest start plus time is the greatest time from the first firing of the input
pub times_from : (net : NetLists) (input t k : ℕ) (d : Date) → input < length net.transitions → IsGreatestOfWalksIn net (alone net input) t k d → IsGreatestWalkTime net input t k d
times_from net input t k d in' h =
    let most : (steps : List Step) → Walks net input 1 steps t k → IsAtMostDate (At (pos (walk_time net steps))) d =
    λ steps w. h.greatest (At (pos (walk_time net steps)))
    (record { from = input; number = 1; steps = steps; start = At (pos 0); from_in = in'; from_one = omega arith; walk = w; starts = starts_at net input 1; is = zero_later (walk_time net steps) }) in
    let r = h.reached in
    record {
      reached = ⊎_elim
          (λ (e : (r.from ≡ input) × (r.start ≡ At (pos 0))).
          let one = r.from_one in
          let is : 1 + (r.number - 1) ≡ r.number = omega arith in
          let walk : Walks net input (1 + (r.number - 1)) r.steps t k = rw is (subst (λ a. Walks net a r.number r.steps t k) e.0 r.walk) in
          let all = lead_in net input t k (r.number - 1) 1 r.steps walk in
          inr (all.0, all.1, r.is ∙ (ap (delayed (walk_time net r.steps)) e.1 ∙ (sym (zero_later (walk_time net r.steps)) ∙ ap (λ n. At (pos n)) (sym all.2)))))
          (λ (e : r.start ≡ Early).
          let early : d ≡ Early = r.is ∙ ap (delayed (walk_time net r.steps)) e in
          inl (early, λ steps w. rw early at (most steps w)))
          (start_is net input r.from r.number r.start r.starts);
      greatest = most;
    }
