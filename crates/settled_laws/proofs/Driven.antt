-- Transitions whose every date is their release, and releases that go on.
use Rattle.std.proofs.Common.{ℕ, ℤ, zero, suc, ◌+◌, ◌-◌, ◌<◌, ◌≤◌, ◌≡◌, true, false, ltb, get_or, sym, ap, subst, ◌∙◌, arith, ⊎_elim}
use Rattle.std.specs.Prelude.{All}
use Rattle.std.proofs.lemmas.Bool.{cases_lt}
use Rattle.std.proofs.lemmas.Bool.Decides.{nat_tests}
use Rattle.teg_model.specs.dioid.declared.dates.Date.{Date}
use Rattle.teg_model.specs.dioid.Dates.{IsAtMostDate, delayed, move}
use Rattle.teg_model.proofs.dioid_proofs.DateOrder.{at_most_refl, same_by_at_most}
use Rattle.teg_model.proofs.dioid_proofs.Moves.{delayed_move}
use Rattle.teg_model.specs.teg_net.declared.entries.Place.{Place}
use Rattle.teg_model.specs.Systems.{System}
use Rattle.teg_model.specs.LiveRanks.{AreRanks}
use Rattle.teg_model.proofs.Delays.{delayed_not}
use Rattle.teg_model.proofs.LeastOver.{least_over, least_is_feasible, least_is_tight}
use Rattle.teg_model.proofs.DateFunctions.{Dating}
use Rattle.settled_laws.proofs.Everywhere.{Repeats}
use Rattle.settled_laws.proofs.Settling.{FollowsRelease}

-- past `long` the dates u go on by `gap` in each `every` numbers
pub record GoOn (u : ℕ → Date) (long every gap : ℕ) : Type 0 where
  pub at_least_one : 1 ≤ every
  pub again : (k : ℕ) → long < k → u (k + every) ≡ delayed gap (u k)

-- a finite test shows that such dates repeat with another period too
again_on : (u : ℕ → Date) (long every gap after end period : ℕ) (step : ℤ) → GoOn u long every gap → after ≤ end → long ≤ end
    → ((k : ℕ) → after < k → k ≤ end + every → u (k + period) ≡ move step (u k))
    → (n k : ℕ) → k ≤ n → after < k → u (k + period) ≡ move step (u k)
again_on u long every gap after end period step g a b h zero k l m = absurd (omega arith)
again_on u long every gap after end period step g a b h (suc n) k l m =
    let one = g.at_least_one in
    ⊎_elim
    (λ (q : end + every < k).
    let j : ℕ = k - every in
    let is : j + every ≡ k = omega arith in
    let there : (j + period) + every ≡ k + period = omega arith in
    let before = again_on u long every gap after end period step g a b h n j (omega arith) (omega arith) in
    sym (ap u there) ∙ (g.again (j + period) (omega arith) ∙ (ap (delayed gap) before ∙ (delayed_move gap step (u j) ∙ ap (move step) (sym (g.again j (omega arith)) ∙ ap u is)))))
    (λ (q : k ≤ end + every). h k m q)
    (cases_lt (end + every) k)

pub goes_on_again : (u : ℕ → Date) (long every gap after end period : ℕ) (step : ℤ) → GoOn u long every gap → after ≤ end → long ≤ end
    → ((k : ℕ) → after < k → k ≤ end + every → u (k + period) ≡ move step (u k))
    → (k : ℕ) → after < k → u (k + period) ≡ move step (u k)
goes_on_again u long every gap after end period step g a b h k m = again_on u long every gap after end period step g a b h k k (omega arith) m

-- where both repeat alike and agree up to the first period, they agree
follows_to : (s : System) (y : Dating) (after period : ℕ) (step : ℕ → ℤ) (t : ℕ) → Repeats y after period step
    → ((k : ℕ) → after < k → s.release t (k + period) ≡ move (step t) (s.release t k))
    → ((k : ℕ) → 1 ≤ k → k ≤ after + period → y t k ≡ s.release t k)
    → (n k : ℕ) → k ≤ n → 1 ≤ k → y t k ≡ s.release t k
follows_to s y after period step t r f h zero k l o = absurd (omega arith)
follows_to s y after period step t r f h (suc n) k l o =
    let one = r.at_least_one in
    ⊎_elim
    (λ (q : after + period < k).
    let j : ℕ = k - period in
    let is : j + period ≡ k = omega arith in
    let before = follows_to s y after period step t r f h n j (omega arith) (omega arith) in
    sym (ap (y t) is) ∙ (r.again t j (omega arith) ∙ (ap (move (step t)) before ∙ (sym (f j (omega arith)) ∙ ap (s.release t) is))))
    (λ (q : k ≤ after + period). h k o q)
    (cases_lt (after + period) k)

pub follows_on : (s : System) (y : Dating) (after period : ℕ) (step : ℕ → ℤ) (t : ℕ) → Repeats y after period step
    → ((k : ℕ) → after < k → s.release t (k + period) ≡ move (step t) (s.release t k))
    → ((k : ℕ) → 1 ≤ k → k ≤ after + period → y t k ≡ s.release t k)
    → FollowsRelease s y t
follows_on s y after period step t r f h k o = follows_to s y after period step t r f h k k (omega arith) o

-- a transition that only its implicit place enters, and whose releases never fall and are not before its token
pub record IsReleaseAlone (s : System) (t : ℕ) : Type 0 where
  pub alone : All (λ p. p.to.index ≡ t → (p.from.index ≡ t) × (p.hold ≡ 0) × (p.tokens ≡ 1)) s.places
  pub first : All (λ p. p.to.index ≡ t → IsAtMostDate (s.initial p 1) (s.release t 1)) s.places
  pub climbs : (k : ℕ) → 1 ≤ k → IsAtMostDate (s.release t k) (s.release t (k + 1))

source_on : (s : System) (bound : ℕ) (r : ℕ → ℕ) (t : ℕ) → AreRanks s.places bound r → IsReleaseAlone s t → (n : ℕ) → least_over s bound r t (n + 1) ≡ s.release t (n + 1)
source_on s bound r t rr h zero =
    let x : Dating = least_over s bound r in
    same_by_at_most (x t 1) (s.release t 1)
    (least_is_tight s bound r rr t 1 (s.release t 1)
    (λ i d l q.
    let a = h.alone i d l q in
    let no : ltb (get_or s.places i d).tokens 1 ≡ false = grind (arith, nat_tests, a.2) in
    rw no (h.first i d l q))
    (at_most_refl (s.release t 1)))
    ((least_is_feasible s bound r rr).releases t 1 (omega arith))
source_on s bound r t rr h (suc n) =
    let x : Dating = least_over s bound r in
    let k : ℕ = suc n + 1 in
    let before = source_on s bound r t rr h n in
    same_by_at_most (x t k) (s.release t k)
    (least_is_tight s bound r rr t k (s.release t k)
    (λ i d l q.
    let a = h.alone i d l q in
    let p : Place = get_or s.places i d in
    let yes : ltb p.tokens k ≡ true = grind (arith, nat_tests, a.2) in
    let at : k - p.tokens ≡ n + 1 = omega (arith, a.2) in
    let is : (n + 1) + 1 ≡ k = omega arith in
    let up : IsAtMostDate (s.release t (n + 1)) (s.release t k) = rw is at (h.climbs (n + 1) (omega arith)) in
    rw (yes, at, a.0, a.1, delayed_not (x t (n + 1)), before) up)
    (at_most_refl (s.release t k)))
    ((least_is_feasible s bound r rr).releases t k (omega arith))

-- then its least dates are just its releases
pub source_follows : (s : System) (bound : ℕ) (r : ℕ → ℕ) (t : ℕ) → AreRanks s.places bound r → IsReleaseAlone s t → FollowsRelease s (least_over s bound r) t
source_follows s bound r t rr h k o =
    let is : (k - 1) + 1 ≡ k = omega arith in
    subst (λ z. least_over s bound r t z ≡ s.release t z) is (source_on s bound r t rr h (k - 1))
