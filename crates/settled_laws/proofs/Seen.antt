-- What is seen of a least dating in a window tells whether it repeats.
use Rattle.std.proofs.Common.{ℕ, ℤ, zero, suc, ◌+◌, ◌-◌, ◌<◌, ◌≤◌, ◌≡◌, true, false, cond, ltb, length, get_or, refl, sym, ap, ◌∙◌, arith, ⊎_elim, inl, inr}
use Rattle.std.specs.Prelude.{◌≤ℤ◌, All, ◌⊎◌}
use Rattle.std.proofs.lemmas.Bool.{cases_lt}
use Rattle.std.proofs.lemmas.Bool.Decides.{nat_tests}
use Rattle.std.proofs.lemmas.Int.{ints}
use Rattle.teg_model.specs.dioid.declared.dates.Date.{Date}
use Rattle.teg_model.specs.dioid.declared.dates.Date.TheVariants.{Early, At, Never}
use Rattle.teg_model.specs.dioid.Dates.{IsAtMostDate, move}
use Rattle.teg_model.proofs.dioid_proofs.Moves.{move_rises}
use Rattle.teg_model.specs.teg_net.declared.entries.Place.{Place}
use Rattle.teg_model.specs.teg_net.Circuits.{no_place}
use Rattle.teg_model.specs.Systems.{System, IsFeasibleIn}
use Rattle.teg_model.specs.LiveRanks.{AreRanks}
use Rattle.teg_model.proofs.LeastOver.{least_over}
use Rattle.teg_model.proofs.DateFunctions.{Dating}
use Rattle.settled_laws.specs.DateDifferences.{between}
use Rattle.settled_laws.proofs.Everywhere.{Repeats, Climbing, IsNeverPast, IsEarlyPast}
use Rattle.settled_laws.proofs.Settling.{HasNoRelease, FollowsRelease, IsSeen, seen_is_least}
use Rattle.settled_laws.proofs.Tails.{never_past, early_past}
use Rattle.settled_laws.proofs.Rising.{form_is_rising}
use Rattle.settled_laws.proofs.Driven.{follows_on}

-- x up to `end`, and from there on by the steps
going : Dating → ℕ → ℕ → (ℕ → ℤ) → ℕ → Dating
going x end period step zero t k = x t k
going x end period step (suc n) t k = cond (ltb end k) (move (step t) (going x end period step n t (k - period))) (x t k)

going_in : (x : Dating) (end period : ℕ) (step : ℕ → ℤ) (n t k : ℕ) → k ≤ end → going x end period step n t k ≡ x t k
unfolding going
going_in x end period step zero t k l = refl
going_in x end period step (suc n) t k l = let e : ltb end k ≡ false = grind (arith, nat_tests) in rw e refl

going_past : (x : Dating) (end period : ℕ) (step : ℕ → ℤ) (n t k : ℕ) → end < k → going x end period step (suc n) t k ≡ move (step t) (going x end period step n t (k - period))
unfolding going
going_past x end period step n t k l = let e : ltb end k ≡ true = grind (arith, nat_tests) in rw e refl

going_fuel : (x : Dating) (end period : ℕ) (step : ℕ → ℤ) → 1 ≤ period → (n m t k : ℕ) → k ≤ n → k ≤ m → going x end period step n t k ≡ going x end period step m t k
going_fuel x end period step o zero m t k l h = let i : k ≤ end = omega arith in going_in x end period step 0 t k i ∙ sym (going_in x end period step m t k i)
going_fuel x end period step o (suc n) zero t k l h = let i : k ≤ end = omega arith in going_in x end period step (suc n) t k i ∙ sym (going_in x end period step 0 t k i)
going_fuel x end period step o (suc n) (suc m) t k l h =
    ⊎_elim
    (λ (i : end < k).
    going_past x end period step n t k i ∙ (ap (move (step t)) (going_fuel x end period step o n m t (k - period) (omega arith) (omega arith)) ∙ sym (going_past x end period step m t k i)))
    (λ (i : k ≤ end). going_in x end period step (suc n) t k i ∙ sym (going_in x end period step (suc m) t k i))
    (cases_lt end k)

gone : Dating → ℕ → ℕ → (ℕ → ℤ) → Dating
gone x end period step t k = going x end period step k t k

gone_in : (x : Dating) (end period : ℕ) (step : ℕ → ℤ) (t k : ℕ) → k ≤ end → gone x end period step t k ≡ x t k
unfolding gone
gone_in x end period step t k l = going_in x end period step k t k l

gone_repeats : (x : Dating) (after end period : ℕ) (step : ℕ → ℤ) → 1 ≤ period → after + period ≤ end
    → ((t k : ℕ) → after < k → k + period ≤ end → x t (k + period) ≡ move (step t) (x t k))
    → Repeats (gone x end period step) after period step
unfolding gone
gone_repeats x after end period step o fits h = record {
  at_least_one = o;
  again = λ t k l.
      ⊎_elim
      (λ (q : end < k + period).
      let n : ℕ = (k + period) - 1 in
      let is : suc n ≡ k + period = omega arith in
      let back : (k + period) - period ≡ k = omega arith in
      ap (λ z. going x end period step z t (k + period)) (sym is)
      ∙ (going_past x end period step n t (k + period) q
      ∙ (ap (λ z. move (step t) (going x end period step n t z)) back ∙ ap (move (step t)) (going_fuel x end period step o n k t k (omega arith) (omega arith)))))
      (λ (q : k + period ≤ end).
      going_in x end period step (k + period) t (k + period) q ∙ (h t k l q ∙ ap (move (step t)) (sym (going_in x end period step k t k (omega arith)))))
      (cases_lt end (k + period));
}

climbs_to : (x y : Dating) (after end period : ℕ) (step : ℕ → ℤ) → Climbing x → Repeats y after period step → after + period < end
    → ((t k : ℕ) → k ≤ end → y t k ≡ x t k) → (n t k : ℕ) → k ≤ n → 1 ≤ k → IsAtMostDate (y t k) (y t (k + 1))
climbs_to x y after end period step c r fits h zero t k l o = absurd (omega arith)
climbs_to x y after end period step c r fits h (suc n) t k l o =
    let one = r.at_least_one in
    ⊎_elim
    (λ (q : end < k + 1).
    let j : ℕ = k - period in
    let is : j + period ≡ k = omega arith in
    let is1 : (j + 1) + period ≡ k + 1 = omega arith in
    let before = climbs_to x y after end period step c r fits h n t j (omega arith) (omega arith) in
    let low : y t k ≡ move (step t) (y t j) = sym (ap (y t) is) ∙ r.again t j (omega arith) in
    let high : y t (k + 1) ≡ move (step t) (y t (j + 1)) = sym (ap (y t) is1) ∙ r.again t (j + 1) (omega arith) in
    rw (low, high) (move_rises (step t) (step t) (y t j) (y t (j + 1)) (omega (arith, ints)) before))
    (λ (q : k + 1 ≤ end). rw (h t k (omega arith), h t (k + 1) q) (c.climbs t k o))
    (cases_lt end (k + 1))

-- what the tests see at the last number of the window
abbrev pub IsRisingAt : Dating → ℕ → (ℕ → ℤ) → Place → Type 0
IsRisingAt x end step p = (x p.to.index end ≡ Never) ⊎ ((x p.from.index end ≡ Early) ⊎ (step p.from.index ≤ℤ step p.to.index))

abbrev pub IsAlike : System → Dating → ℕ → ℕ → (ℕ → ℤ) → ℕ → Type 0
IsAlike s x after period step t = HasNoRelease s t ⊎ (FollowsRelease s x t × ((k : ℕ) → after < k → s.release t (k + period) ≡ move (step t) (s.release t k)))

pub accepted_repeats :
    (s : System) (bound : ℕ) (r : ℕ → ℕ) (after period most : ℕ) (step : ℕ → ℤ) → AreRanks s.places bound r
    → Climbing (least_over s bound r) → 1 ≤ period → 1 ≤ most → All (λ p. p.tokens ≤ most) s.places
    → ((t k : ℕ) → after < k → k + period ≤ after + most + period + period → least_over s bound r t (k + period) ≡ move (step t) (least_over s bound r t k))
    → All (IsRisingAt (least_over s bound r) (after + most + period + period) step) s.places
    → ((t : ℕ) → IsAlike s (least_over s bound r) after period step t)
    → Repeats (least_over s bound r) after period step
accepted_repeats s bound r after period most step rr c one some tokens window rises releases =
    let x : Dating = least_over s bound r in
    let end : ℕ = after + most + period + period in
    let y : Dating = gone x end period step in
    let same : (t k : ℕ) → k ≤ end → y t k ≡ x t k = λ t k l. gone_in x end period step t k l in
    let again : Repeats y after period step = gone_repeats x after end period step one (omega arith) window in
    let climbing : Climbing y = record { climbs = λ t k o. climbs_to x y after end period step c again (omega arith) same k t k (omega arith) o } in
    let seen : IsSeen s x y after period most step = record {
      tokens = tokens;
      repeats = again;
      same = λ t k o l. same t k l;
      rises = λ i d l.
          let p : Place = get_or s.places i d in
          ⊎_elim
          (λ (n : x p.to.index end ≡ Never). inr (inl (never_past y after period step climbing again p.to.index end (same p.to.index end (omega arith) ∙ n) (omega arith))))
          (λ (b : (x p.from.index end ≡ Early) ⊎ (step p.from.index ≤ℤ step p.to.index)).
          ⊎_elim
          (λ (e : x p.from.index end ≡ Early). inr (inr (early_past y after period step climbing again p.from.index end (same p.from.index end (omega arith) ∙ e) (omega arith))))
          (λ (e : step p.from.index ≤ℤ step p.to.index). inl e)
          b)
          (rises i d l);
      releases = λ t. ⊎_elim
          (λ (f : HasNoRelease s t). inl f)
          (λ (d : FollowsRelease s x t × ((k : ℕ) → after < k → s.release t (k + period) ≡ move (step t) (s.release t k))).
          inr (follows_on s y after period step t again d.1 (λ k o l. same t k (omega arith) ∙ d.0 k o)))
          (releases t);
    } in
    let is = seen_is_least s bound r y after period most step rr seen in
    record {
      at_least_one = one;
      again = λ t k l. sym (is t (k + period) (omega arith)) ∙ (again.again t k l ∙ ap (move (step t)) (is t k (omega arith)));
    }

-- what is read off two dates is the step
between_is : (d : Date) (a : ℤ) → (d ≡ Early) ⊎ ((d ≡ Never) ⊎ (between d (move a d) ≡ a))
between_is Early a = inl refl
between_is (At x) a = inr (inr (omega (arith, ints)))
between_is Never a = inr (inl refl)

-- a form goes by the steps that are read off at any number past `after`
pub read_steps : (x : Dating) (after period end : ℕ) (step read : ℕ → ℤ) → Climbing x → Repeats x after period step → after < end
    → ((t : ℕ) → read t ≡ between (x t end) (x t (end + period))) → Repeats x after period read
read_steps x after period end step read c h l is = record {
  at_least_one = h.at_least_one;
  again = λ t k m.
      let one = h.at_least_one in
      let last : x t (end + period) ≡ move (step t) (x t end) = h.again t end l in
      ⊎_elim
      (λ (e : x t end ≡ Early).
      let past = early_past x after period step c h t end e l in
      past (k + period) (omega arith) ∙ sym (ap (move (read t)) (past k m)))
      (λ (e : (x t end ≡ Never) ⊎ (between (x t end) (move (step t) (x t end)) ≡ step t)).
      ⊎_elim
      (λ (n : x t end ≡ Never).
      let past = never_past x after period step c h t end n (omega arith) in
      past (k + period) (omega arith) ∙ sym (ap (move (read t)) (past k m)))
      (λ (b : between (x t end) (move (step t) (x t end)) ≡ step t).
      let same : read t ≡ step t = is t ∙ (ap (between (x t end)) last ∙ b) in
      h.again t k m ∙ ap (λ z. move z (x t k)) (sym same))
      e)
      (between_is (x t end) (step t));
}

-- the tests accept each form, at every number past its `after`
pub form_is_rising_at :
    (s : System) (x : Dating) (after period most end : ℕ) (step : ℕ → ℤ) → IsFeasibleIn s x → Climbing x → All (λ p. p.tokens ≤ most) s.places → Repeats x after period step → after < end
    → (i : ℕ) → i < length s.places → IsRisingAt x end step (get_or s.places i no_place)
form_is_rising_at s x after period most end step f c tokens h l i within =
    let p : Place = get_or s.places i no_place in
    ⊎_elim
    (λ (e : step p.from.index ≤ℤ step p.to.index). inr (inr e))
    (λ (e : IsNeverPast x after p.to.index ⊎ IsEarlyPast x after p.from.index).
    ⊎_elim
    (λ (n : IsNeverPast x after p.to.index). inl (n end l))
    (λ (n : IsEarlyPast x after p.from.index). inr (inl (n end l)))
    e)
    (form_is_rising s x after period most step f c tokens h i within)

pub form_is_alike : (s : System) (x : Dating) (after period : ℕ) (step : ℕ → ℤ) (t : ℕ) → HasNoRelease s t ⊎ FollowsRelease s x t
    → Repeats x after period step → (k : ℕ) → after < k → s.release t (k + period) ≡ move (step t) (s.release t k)
form_is_alike s x after period step t k h i l =
    let one = h.at_least_one in
    ⊎_elim
    (λ (f : HasNoRelease s t). rw (f (i + period) (omega arith), f i (omega arith)) refl)
    (λ (d : FollowsRelease s x t). sym (d (i + period) (omega arith)) ∙ (h.again t i l ∙ ap (move (step t)) (d i (omega arith))))
    k
