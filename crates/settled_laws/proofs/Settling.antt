-- A form that was seen in a window, and whose steps rise along the places, stands for the least dating at every number; and
-- the steps of any form rise so.
use Rattle.std.proofs.Common.{ℕ, ℤ, zero, suc, ◌+◌, ◌-◌, ◌<◌, ◌≤◌, ◌≡◌, true, ltb, length, get_or, refl, sym, ap, subst, ◌∙◌, arith, ⊎_elim, inl, inr}
use Rattle.std.specs.Prelude.{◌≤ℤ◌, All, ◌⊎◌}
use Rattle.std.proofs.lemmas.Bool.{cases_lt}
use Rattle.std.proofs.lemmas.Bool.Decides.{nat_tests}
use Rattle.teg_model.specs.dioid.declared.dates.Date.TheVariants.{Early, Never}
use Rattle.teg_model.specs.dioid.Dates.{IsAtMostDate, move}
use Rattle.teg_model.proofs.dioid_proofs.DateOrder.{at_most_refl, never_last}
use Rattle.teg_model.proofs.dioid_proofs.Moves.{move_rises, delayed_move, moved_again}
use Rattle.teg_model.specs.teg_net.declared.entries.Place.{Place}
use Rattle.teg_model.specs.teg_net.Circuits.{no_place}
use Rattle.teg_model.specs.Systems.{System, available, IsFeasibleIn, IsTightIn}
use Rattle.teg_model.specs.LiveRanks.{AreRanks}
use Rattle.teg_model.proofs.LeastOver.{least_over, least_is_feasible, least_is_attained, least_over_is_least, only_least_in}
use Rattle.teg_model.proofs.Tokens.{available_same}
use Rattle.teg_model.proofs.TightLeast.{tight_is_least_in}
use Rattle.teg_model.proofs.DateFunctions.{Dating}
use Rattle.settled_laws.proofs.Everywhere.{Repeats, IsNeverPast, IsEarlyPast, IsRising}

-- a place has its token at just this date
pub record AttainedBy (s : System) (y : Dating) (t k i : ℕ) : Type 0 where
  pub within : i < length s.places
  pub ends : (get_or s.places i no_place).to.index ≡ t
  pub same : y t k ≡ available s y (get_or s.places i no_place) k

abbrev pub IsAttained : System → Dating → ℕ → ℕ → Type 0
IsAttained s y t k = ((i : ℕ) × AttainedBy s y t k i) ⊎ (y t k ≡ s.release t k)

-- a feasible dating whose every date is attained is the least
pub attained_is_least :
    (s : System) (bound : ℕ) (r : ℕ → ℕ) (y : Dating) → AreRanks s.places bound r → IsFeasibleIn s y → ((t k : ℕ) → 1 ≤ k → IsAttained s y t k)
    → (t k : ℕ) → 1 ≤ k → y t k ≡ least_over s bound r t k
attained_is_least s bound r y rr f all =
    let tight : IsTightIn s y = record {
      tight = λ t k z o places under.
          ⊎_elim
          (λ (a : (i : ℕ) × AttainedBy s y t k i). rw a.1.same (places a.0 no_place a.1.within a.1.ends))
          (λ (e : y t k ≡ s.release t k). rw e under)
          (all t k o);
    } in
    only_least_in s y (least_over s bound r) (tight_is_least_in s y bound r rr f tight) (least_over_is_least s bound r rr)

-- when the tokens of a place are available past the window
pub available_again : (s : System) (y : Dating) (after period most : ℕ) (step : ℕ → ℤ) → Repeats y after period step
    → (p : Place) (k : ℕ) → p.tokens ≤ most → after + most < k → available s y p (k + period) ≡ move (step p.from.index) (available s y p k)
available_again s y after period most step h p k few l =
    let now : ltb p.tokens k ≡ true = grind (arith, nat_tests) in
    let next : ltb p.tokens (k + period) ≡ true = grind (arith, nat_tests) in
    let at : (k + period) - p.tokens ≡ (k - p.tokens) + period = omega arith in
    rw (now, next, at, h.again p.from.index (k - p.tokens) (omega arith)) (delayed_move p.hold (step p.from.index) (y p.from.index (k - p.tokens)))

-- a transition that waits for no release, or whose every date is its release
abbrev pub HasNoRelease : System → ℕ → Type 0
HasNoRelease s t = (k : ℕ) → 1 ≤ k → s.release t k ≡ Early

abbrev pub FollowsRelease : System → Dating → ℕ → Type 0
FollowsRelease s y t = (k : ℕ) → 1 ≤ k → y t k ≡ s.release t k

-- a dating that repeats past `after`, that is the least up to the end of a window, and whose steps rise along the places
pub record IsSeen (s : System) (x y : Dating) (after period most : ℕ) (step : ℕ → ℤ) : Type 0 where
  pub tokens : All (λ p. p.tokens ≤ most) s.places
  pub repeats : Repeats y after period step
  pub same : (t k : ℕ) → 1 ≤ k → k ≤ after + most + period + period → y t k ≡ x t k
  pub rises : All (IsRising y after step) s.places
  pub releases : (t : ℕ) → HasNoRelease s t ⊎ FollowsRelease s y t

-- where a place is rising, or its end is never or its token is early
rising_at : (s : System) (y : Dating) (after most : ℕ) (step : ℕ → ℤ) (p : Place) (k : ℕ) → IsRising y after step p → p.tokens ≤ most → after + most < k
    → (step p.from.index ≤ℤ step p.to.index) ⊎ ((y p.to.index k ≡ Never) ⊎ (available s y p k ≡ Early))
rising_at s y after most step p k h few l =
    let now : ltb p.tokens k ≡ true = grind (arith, nat_tests) in
    ⊎_elim
    (λ (a : step p.from.index ≤ℤ step p.to.index). inl a)
    (λ (b : IsNeverPast y after p.to.index ⊎ IsEarlyPast y after p.from.index).
    ⊎_elim
    (λ (n : IsNeverPast y after p.to.index). inr (inl (n k (omega arith))))
    (λ (e : IsEarlyPast y after p.from.index). inr (inr (rw (now, e (k - p.tokens) (omega arith)) refl)))
    b)
    h

feasible_on : (s : System) (x y : Dating) (after period most : ℕ) (step : ℕ → ℤ) → IsFeasibleIn s x
    → IsSeen s x y after period most step → (n k : ℕ) → k ≤ n → 1 ≤ k → All (λ p. IsAtMostDate (available s y p k) (y p.to.index k)) s.places
feasible_on s x y after period most step f h zero k l o i d within = absurd (omega arith)
feasible_on s x y after period most step f h (suc n) k l o i d within =
    let p : Place = get_or s.places i d in
    let one = h.repeats.at_least_one in
    ⊎_elim
    (λ (q : after + most + period + period < k).
    let k_is : k ≡ (k - period) + period = omega arith in
    let before : IsAtMostDate (available s y p (k - period)) (y p.to.index (k - period)) = feasible_on s x y after period most step f h n (k - period) (omega arith) (omega arith) i d within in
    let few : p.tokens ≤ most = h.tokens i d within in
    rw (k_is, available_again s y after period most step h.repeats p (k - period) few (omega arith), h.repeats.again p.to.index (k - period) (omega arith))
    (⊎_elim
    (λ (a : step p.from.index ≤ℤ step p.to.index). move_rises (step p.from.index) (step p.to.index) (available s y p (k - period)) (y p.to.index (k - period)) a before)
    (λ (b : (y p.to.index (k - period) ≡ Never) ⊎ (available s y p (k - period) ≡ Early)).
    ⊎_elim
    (λ (e : y p.to.index (k - period) ≡ Never). rw e (never_last (move (step p.from.index) (available s y p (k - period)))))
    (λ (e : available s y p (k - period) ≡ Early). rw e tt)
    b)
    (rising_at s y after most step p (k - period) (h.rises i d within) few (omega arith))))
    (λ (q : k ≤ after + most + period + period).
    rw (h.same p.to.index k o q, available_same s.initial y x p k (λ m. h.same p.from.index (k - p.tokens) (omega arith) (omega arith))) (f.places k o i d within))
    (cases_lt (after + most + period + period) k)

-- a place that attains a date in the last period of the window does so ever after
attained_more :
    (s : System) (x y : Dating) (after period most : ℕ) (step : ℕ → ℤ) → IsFeasibleIn s x → IsSeen s x y after period most step → (t k i : ℕ) → after + most + period < k
    → AttainedBy s y t k i → AttainedBy s y t (k + period) i
attained_more s x y after period most step f h t k i l a =
    let p : Place = get_or s.places i no_place in
    let one = h.repeats.at_least_one in
    let few : p.tokens ≤ most = h.tokens i no_place a.within in
    let j : ℕ = k - period in
    let k_is : j + period ≡ k = omega arith in
    let before : IsAtMostDate (available s y p j) (y p.to.index j) = feasible_on s x y after period most step f h j j (omega arith) (omega arith) i no_place a.within in
    let attained_here : y p.to.index (j + period) ≡ available s y p (j + period) = subst (λ z. y p.to.index z ≡ available s y p z) (sym k_is) (ap (λ z. y z k) a.ends ∙ a.same) in
    let own : y p.to.index (j + period) ≡ move (step p.to.index) (y p.to.index j) = h.repeats.again p.to.index j (omega arith) in
    let its : available s y p (j + period) ≡ move (step p.from.index) (available s y p j) = available_again s y after period most step h.repeats p j few (omega arith) in
    let rise = rising_at s y after most step p j (h.rises i no_place a.within) few (omega arith) in
    let twice = moved_again (step p.from.index) (step p.to.index) (available s y p j) (y p.to.index j) before rise (sym own ∙ (attained_here ∙ its)) in
    let own2 : y p.to.index ((j + period) + period) ≡ move (step p.to.index) (move (step p.to.index) (y p.to.index j)) =
    h.repeats.again p.to.index (j + period) (omega arith) ∙ ap (move (step p.to.index)) own in
    let its2 : available s y p ((j + period) + period) ≡ move (step p.from.index) (move (step p.from.index) (available s y p j)) =
    available_again s y after period most step h.repeats p (j + period) few (omega arith) ∙ ap (move (step p.from.index)) its in
    let there : y p.to.index (k + period) ≡ available s y p (k + period) = subst (λ z. y p.to.index (z + period) ≡ available s y p (z + period)) k_is (own2 ∙ (twice ∙ sym its2)) in
    record { within = a.within; ends = a.ends; same = sym (ap (λ z. y z (k + period)) a.ends) ∙ there }

attained_on : (s : System) (bound : ℕ) (r : ℕ → ℕ) (y : Dating) (after period most : ℕ) (step : ℕ → ℤ) → AreRanks s.places bound r → IsSeen s (least_over s bound r) y after period most step
    → (n t k : ℕ) → k ≤ n → 1 ≤ k → IsAttained s y t k
attained_on s bound r y after period most step rr h zero t k l o = absurd (omega arith)
attained_on s bound r y after period most step rr h (suc n) t k l o =
    let x : Dating = least_over s bound r in
    let one = h.repeats.at_least_one in
    ⊎_elim
    (λ (q : after + most + period + period < k).
    let k_is : (k - period) + period ≡ k = omega arith in
    ⊎_elim
    (λ (a : (i : ℕ) × AttainedBy s y t (k - period) i).
    inl (a.0, subst (λ z. AttainedBy s y t z a.0) k_is (attained_more s x y after period most step (least_is_feasible s bound r rr) h t (k - period) a.0 (omega arith) a.1)))
    (λ (e : y t (k - period) ≡ s.release t (k - period)).
    inr (⊎_elim
    (λ (free : HasNoRelease s t).
    let early : y t (k - period) ≡ Early = e ∙ free (k - period) (omega arith) in
    let now : y t k ≡ Early = sym (ap (y t) k_is) ∙ (h.repeats.again t (k - period) (omega arith) ∙ ap (move (step t)) early) in
    now ∙ sym (free k o))
    (λ (driven : FollowsRelease s y t). driven k o)
    (h.releases t)))
    (attained_on s bound r y after period most step rr h n t (k - period) (omega arith) (omega arith)))
    (λ (q : k ≤ after + most + period + period).
    ⊎_elim
    (λ (e : x t k ≡ s.release t k). inr (h.same t k o q ∙ e))
    (λ (a : (i : ℕ) × (i < length s.places) × ((get_or s.places i no_place).to.index ≡ t) × (x t k ≡ available s x (get_or s.places i no_place) k)).
    let p : Place = get_or s.places a.0 no_place in
    inl (
      a.0,
      record {
        within = a.1;
        ends = a.2;
        same = h.same t k o q ∙ (a.3 ∙ sym (available_same s.initial y x p k (λ m. h.same p.from.index (k - p.tokens) (omega arith) (omega arith))));
      },
    ))
    (least_is_attained s bound r rr t k))
    (cases_lt (after + most + period + period) k)

-- the sound half: what was seen in the window stands at every number
pub seen_is_least :
    (s : System) (bound : ℕ) (r : ℕ → ℕ) (y : Dating) (after period most : ℕ) (step : ℕ → ℤ) → AreRanks s.places bound r → IsSeen s (least_over s bound r) y after period most step
    → (t k : ℕ) → 1 ≤ k → y t k ≡ least_over s bound r t k
seen_is_least s bound r y after period most step rr h =
    let x : Dating = least_over s bound r in
    attained_is_least s bound r y rr
    (record {
      places = λ k o. feasible_on s x y after period most step (least_is_feasible s bound r rr) h k k (omega arith) o;
      releases = λ t k o. ⊎_elim
          (λ (free : HasNoRelease s t). rw (free k o) tt)
          (λ (driven : FollowsRelease s y t). rw (driven k o) (at_most_refl (s.release t k)))
          (h.releases t);
    })
    (λ t k o. attained_on s bound r y after period most step rr h k t k (omega arith) o)
