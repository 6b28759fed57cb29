-- A feasible dating that is tight is the least: by induction on number and rank.
use Rattle.std.proofs.Common.{ℕ, zero, suc, ◌+◌, ◌-◌, ◌*◌, ◌<◌, ◌≤◌, ◌≡◌, length, get_or, refl, ap, arith, ⊎_elim}
use Rattle.std.specs.Prelude.{All, ⊤}
use Rattle.std.proofs.lemmas.Bool.{cases_lt}
use Rattle.dioid.specs.declared.dates.Date.TheVariants.{Early}
use Rattle.dioid.specs.declared.dates.Date.{Date}
use Rattle.dioid.specs.Dates.{IsAtMostDate}
use Rattle.dioid.proofs.DateOrder.{at_most_refl, at_most_trans, delayed_rises}
use Rattle.teg_net.specs.declared.entries.Place.{Place}
use Rattle.teg_net.specs.Nets.{NetLists}
use Rattle.teg_model.specs.Systems.{System, available_in, available, IsFeasibleIn, IsLeastIn, IsTightIn}
use Rattle.teg_model.specs.LiveRanks.{AreRanks, HasEndsInRange}
use Rattle.teg_model.specs.Datings.{extended_places, system_of, IsFeasibleUnder, IsLeastUnder}
use Rattle.teg_model.specs.LeastDatings.{IsTight}
use Rattle.teg_model.proofs.LeastOver.{falls}
use Rattle.teg_model.proofs.OfNet.{all_extended, ranks_extended, feasible_in, at_input_is}
use Rattle.teg_model.proofs.Tokens.{available_after, available_first}
use Rattle.teg_model.proofs.DateFunctions.{Dating, InitialDates}

-- a token is available no later where the firing that gives it comes no later
pub available_below : (init : InitialDates) (x y : Dating) (p : Place) (k : ℕ) → (p.tokens < k → IsAtMostDate (x p.from.index (k - p.tokens)) (y p.from.index (k - p.tokens)))
    → IsAtMostDate (available_in init x p k) (available_in init y p k)
available_below init x y p k h =
    ⊎_elim
    (λ (l : p.tokens < k).
    let after = available_after init x p k (x p.from.index (k - p.tokens)) l refl in
    let after' = available_after init y p k (y p.from.index (k - p.tokens)) l refl in
    rw (after, after') (delayed_rises p.hold (x p.from.index (k - p.tokens)) (y p.from.index (k - p.tokens)) (h l)))
    (λ (l : k ≤ p.tokens).
    let first = available_first init x p k l in
    let first' = available_first init y p k l in
    rw (first, first') (at_most_refl (init p k)))
    (cases_lt p.tokens k)

-- tight at the transitions of a set from which no place leads back out
record IsTightAmong (s : System) (In : ℕ → Type 0) (x : Dating) : Type 0 where
  closed : All (λ p. In p.to.index → In p.from.index) s.places
  tight : (t k : ℕ) (z : Date) → In t → 1 ≤ k → All (λ p. p.to.index ≡ t → IsAtMostDate (available s x p k) z) s.places → IsAtMostDate (s.release t k) z → IsAtMostDate (x t k) z

among_below : (s : System) (In : ℕ → Type 0) (x y : Dating) (bound : ℕ) (r : ℕ → ℕ) → AreRanks s.places bound r → IsTightAmong s In x → IsFeasibleIn s y
    → (n t k : ℕ) → In t → 1 ≤ k → k * bound + r t < n → IsAtMostDate (x t k) (y t k)
among_below s In x y bound r rr h f zero t k l o m = absurd (omega arith)
among_below s In x y bound r rr h f (suc n) t k l o m =
    h.tight t k (y t k) l o
    (λ i d b q.
    let p : Place = get_or s.places i d in
    let upper = f.places k o i d b in
    at_most_trans (available s x p k) (available s y p k) (y t k)
    (available_below s.initial x y p k (λ more.
    let down = falls bound k p.tokens (r p.from.index) (r p.to.index) more (rr.below p.from.index) (rr.rise i d b) in
    let here : r p.to.index ≡ r t = ap r q in
    among_below s In x y bound r rr h f n p.from.index (k - p.tokens) (h.closed i d b (rw q l)) (omega (arith, more)) (omega (arith, down, here, m))))
    (rw q at upper))
    (f.releases t k o)

pub tight_is_least_in : (s : System) (x : Dating) (bound : ℕ) (r : ℕ → ℕ) → AreRanks s.places bound r → IsFeasibleIn s x → IsTightIn s x → IsLeastIn s x
tight_is_least_in s x bound r rr f h =
    let all : IsTightAmong s (λ t. ⊤) x = record { closed = λ i d l u. tt; tight = λ t k z u o a b. h.tight t k z o a b } in
    record { feasible = f; least = λ y g t k o. among_below s (λ t. ⊤) x y bound r rr all g (suc (k * bound + r t)) t k tt o (omega arith) }

-- a place that ends at a transition of the net begins at one
ends_in : (net : NetLists) → HasEndsInRange net → All (λ p. p.to.index < length net.transitions → p.from.index < length net.transitions) (extended_places net)
ends_in net ends = all_extended net (λ p. p.to.index < length net.transitions → p.from.index < length net.transitions) (λ i d l u. (ends i d l).0) (λ t h. h)

pub tight_is_least : (net : NetLists) (u x : Dating) (bound : ℕ) (r : ℕ → ℕ) → HasEndsInRange net → AreRanks net.places bound r → IsFeasibleUnder net u x → IsTight net u x → IsLeastUnder net u x
tight_is_least net u x bound r ends rr f h =
    let s : System = system_of net u in
    let among : IsTightAmong s (λ t. t < length net.transitions) x =
    record {
      closed = ends_in net ends;
      tight = λ t k z l o all under. h.tight t k z l o all (λ e. rw (at_input_is net t (u t k) Early e) at under);
    } in
    record {
      feasible = f;
      least = λ y g t k l o. among_below s (λ v. v < length net.transitions) x y bound r (ranks_extended net bound r rr) among (feasible_in net u y g) (suc (k * bound + r t)) t k l o (omega arith);
    }
