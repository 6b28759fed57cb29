-- The date of a firing in a run, found by going along it.
use Rattle.std.proofs.Common.{ℕ, zero, suc, ◌-◌, ◌≤◌, ◌≡◌, List, [], ◌∷◌, Some, None, get_or, drop, eqb, leb, true, false, arith, refl, ⊎_elim}
use Rattle.std.specs.Prelude.{All, IfSome, slice_get, nat_le, if◌then◌else◌, pos}
use Rattle.std.proofs.lemmas.Bool.{cases_Bool}
use Rattle.std.proofs.lemmas.Bool.Decides.{nat_tests}
use Rattle.std.proofs.lemmas.List.Elements.{All-cons}
use Rattle.run_laws.specs.declared.fired.Fired.{Fired}
use Rattle.run_laws.specs.Runs.{dates_of_transition, firing_date}
use Rattle.run_laws.proofs.Dates.{get_last, get_there}
use Rattle.state_laws.specs.NetsLeft.{count_in, date_in}
use Rattle.dioid.specs.declared.dates.Date.{Date}
use Rattle.dioid.specs.declared.dates.Date.TheVariants.{At}

all_dates : (run : List Fired) (t n : ℕ) → All (λ f. f.date ≤ n) run → All (λ d. d ≤ n) (dates_of_transition run t)
all_dates [] t n h = λ i d l. absurd (omega (arith, l))
all_dates (f ∷ run) t n h =
    let rest : All (λ d. d ≤ n) (dates_of_transition run t) = all_dates run t n (λ i d l. h (suc i) d (omega (arith, l))) in
    ⊎_elim
    (λ (b : eqb f.transition.index t ≡ true). rw b (All-cons (λ d. d ≤ n) f.date (dates_of_transition run t) (h 0 f (omega arith)) rest))
    (λ (b : eqb f.transition.index t ≡ false). rw b rest)
    (cases_Bool (eqb f.transition.index t))

one_of : (ds : List ℕ) (i n : ℕ) → All (λ d. d ≤ n) ds → IfSome (slice_get ds i) (λ d. d ≤ n)
one_of [] i n h = tt
one_of (d ∷ ds) zero n h = h 0 d (omega arith)
one_of (d ∷ ds) (suc i) n h = one_of ds i n (λ j e l. h (suc j) e (omega (arith, l)))

pub firing_date_few : (run : List Fired) (t k n : ℕ) → All (λ f. f.date ≤ n) run → IfSome (firing_date run t k) (λ d. d ≤ n)
firing_date_few run t k n h = one_of (dates_of_transition run t) (k - 1) n (all_dates run t n h)

-- what is left of a search, at the firing at index i
pub record IsSearch (run : List Fired) (t number i left : ℕ) : Type 0 where
  pub some : 1 ≤ left
  pub few : left ≤ number
  pub same : firing_date run t number ≡ firing_date (drop i run) t left

-- a firing that happened is released when it did, and another one as the other date says
pub released_some : (run : List Fired) (t k date : ℕ) (other : Date) → 1 ≤ k → firing_date run t k ≡ Some date → (if nat_le k (count_in run t) then date_in run t k else other) ≡ At (pos date)
released_some run t k date other o e =
    let there = (get_there (dates_of_transition run t) (k - 1) date e).0 in
    let test : leb k (count_in run t) ≡ true = grind (arith, nat_tests, o, there) in
    rw (test, e) refl

pub released_none : (run : List Fired) (t k : ℕ) (other : Date) → 1 ≤ k → firing_date run t k ≡ None → (if nat_le k (count_in run t) then date_in run t k else other) ≡ other
released_none run t k other o e =
    ⊎_elim
    (λ (q : leb k (count_in run t) ≡ true).
    let few : k ≤ count_in run t = grind (arith, nat_tests) in
    let is : firing_date run t k ≡ Some (get_or (dates_of_transition run t) (k - 1) 0) = get_last (dates_of_transition run t) (k - 1) (omega (arith, o, few)) in
    absurd (cc))
    (λ (q : leb k (count_in run t) ≡ false). rw q refl)
    (cases_Bool (leb k (count_in run t)))
