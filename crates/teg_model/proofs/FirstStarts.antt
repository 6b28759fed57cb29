-- Each firing has one start, and a feasible dating has it no earlier.
use Rattle.std.proofs.Common.{ℕ, ◌<◌, ◌≤◌, ◌≡◌, get_or, refl, ⊎_elim}
use Rattle.std.proofs.lemmas.Bool.{cases_lt}
use Rattle.dioid.specs.declared.dates.Date.{Date}
use Rattle.dioid.specs.declared.dates.Date.TheVariants.{Early}
use Rattle.dioid.specs.Dates.{IsAtMostDate}
use Rattle.dioid.proofs.DateOrder.{same_by_at_most}
use Rattle.teg_net.specs.declared.entries.Place.{Place}
use Rattle.teg_model.specs.Systems.{System, available, IsFeasibleIn}
use Rattle.teg_model.specs.Starts.{IsNotBeforeStart, IsStartIn}
use Rattle.teg_model.proofs.LeastOver.{latest_into, latest_above, latest_upper, latest_least}
use Rattle.teg_model.proofs.Tokens.{available_after, available_first}
use Rattle.teg_model.proofs.DateFunctions.{Dating}

-- where nothing is fired, only initial tokens are available
nothing : Dating
nothing t k = Early

first_alone : (s : System) (z : Date) (t k : ℕ) (p : Place) → p.to.index ≡ t → (p.to.index ≡ t → k ≤ p.tokens → IsAtMostDate (s.initial p k) z) → IsAtMostDate (available s nothing p k) z
unfolding nothing
first_alone s z t k p q h =
    ⊎_elim
    (λ (l : p.tokens < k). rw (available_after s.initial nothing p k Early l refl) tt)
    (λ (l : k ≤ p.tokens). rw (available_first s.initial nothing p k l) (h q l))
    (cases_lt p.tokens k)

-- the latest of the release and of the initial tokens
pub start_in : System → ℕ → ℕ → Date
start_in s t k = latest_into s.places s.initial nothing t k (s.release t k)

pub start_is : (s : System) (t k : ℕ) → IsStartIn s t k (start_in s t k)
unfolding start_in
start_is s t k = record {
  not_before = record {
    released = latest_above s.places s.initial nothing t k (s.release t k);
    tokens = λ i d l q m. rw (available_first s.initial nothing (get_or s.places i d) k m) at (latest_upper s.places s.initial nothing t k (s.release t k) i d l q);
  };
  least = λ z h. latest_least s.places s.initial nothing t k (s.release t k) z (λ i d l q. first_alone s z t k (get_or s.places i d) q (h.tokens i d l)) h.released;
}

pub one_start : (s : System) (t k : ℕ) (d e : Date) → IsStartIn s t k d → IsStartIn s t k e → d ≡ e
one_start s t k d e h g = same_by_at_most d e (h.least e g.not_before) (g.least d h.not_before)

-- no firing of a feasible dating comes before its start
pub feasible_not_before : (s : System) (x : Dating) → IsFeasibleIn s x → (t k : ℕ) → 1 ≤ k → IsNotBeforeStart s t k (x t k)
feasible_not_before s x f t k o = record {
  released = f.releases t k o;
  tokens = λ i d l q m. rw q at (rw (available_first s.initial x (get_or s.places i d) k m) at (f.places k o i d l));
}
