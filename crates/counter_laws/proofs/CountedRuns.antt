-- The firings of a transition in an earliest run up to a date are the first so many.
use Rattle.std.proofs.Common.{ℕ, zero, suc, ◌+◌, ◌-◌, ◌<◌, ◌≤◌, ◌≡◌, ◌≢◌, List, [], ◌∷◌, Bool, Some, true, false, cond, length, get_or, ap, arith, ⊎_elim}
use Rattle.std.specs.Prelude.{pos, nat_le, count_by}
use Rattle.std.proofs.lemmas.Bool.{cases_eq, cases_lt}
use Rattle.std.proofs.lemmas.Bool.Decides.{nat_tests}
use Rattle.std.proofs.lemmas.Int.{ints}
use Rattle.std.proofs.lemmas.List.Sums.{sum_by-cons}
use Rattle.teg_model.specs.dioid.declared.dates.Date.TheVariants.{At, Never}
use Rattle.teg_model.specs.dioid.Dates.{IsAtMostDate}
use Rattle.run_laws.specs.Runs.{dates_of_transition, firing_date}
use Rattle.run_laws.proofs.Dates.{get_there, get_last}
use Rattle.game_laws.proofs.Gathering.{all_dated}
use Rattle.game_laws.proofs.Numbering.{earliest_whole}
use Rattle.counter_laws.specs.Counters.{IsUpTo}
use Rattle.counter_laws.specs.CountedRuns.{CountersCountFirings}

-- what a test counts of one item
abbrev one_if : Bool → ℕ
one_if b = cond b 1 0

-- a test that just the first n pass counts n
count_first : (p : ℕ → Bool) (xs : List ℕ) (n : ℕ) → n ≤ length xs → ((i : ℕ) → i < n → p (get_or xs i 0) ≡ true) → ((i : ℕ) → n ≤ i → i < length xs → p (get_or xs i 0) ≡ false)
    → count_by p xs ≡ n
count_first p [] n l passes fails = omega (arith, l)
count_first p (x ∷ xs) zero l passes fails =
    let one = sum_by-cons (λ y. one_if (p y)) x xs in
    let rest = count_first p xs zero (omega arith) (λ i m. absurd (omega (arith, m))) (λ i m o. fails (suc i) (omega arith) (omega (arith, o))) in
    let test : p x ≡ false = fails 0 (omega arith) (omega arith) in
    let none : one_if (p x) ≡ 0 = ap one_if test in
    omega (arith, one, none, rest)
count_first p (x ∷ xs) (suc n) l passes fails =
    let one = sum_by-cons (λ y. one_if (p y)) x xs in
    let rest = count_first p xs n (omega (arith, l)) (λ i m. passes (suc i) (omega (arith, m))) (λ i m o. fails (suc i) (omega (arith, m)) (omega (arith, o))) in
    let test : p x ≡ true = passes 0 (omega arith) in
    let some : one_if (p x) ≡ 1 = ap one_if test in
    omega (arith, one, some, rest)

pub counters_count : CountersCountFirings
counters_count net x c most run least e counts t d n l is up =
    let whole = earliest_whole net x most run least e in
    let ds : List ℕ = dates_of_transition run t in
    let dated : (i : ℕ) → i < length ds → x t (i + 1) ≡ At (pos (get_or ds i 0)) =
    λ i m.
    let back : i + 1 - 1 ≡ i = omega arith in
    let here : firing_date run t (i + 1) ≡ Some (get_or ds i 0) = rw back (get_last ds i m) in
    whole.dated t (i + 1) (get_or ds i 0) l (omega arith) here in
    let there : n ≤ length ds =
    ⊎_elim
    (λ (q : n ≡ 0). omega (arith, q))
    (λ (q : n ≢ 0).
    let one : 1 ≤ n = omega (arith, q) in
    let counted : IsUpTo n (c t d) = rw is (omega arith) in
    let low : IsAtMostDate (x t n) (At (pos d)) = (counts t l d n one).1 counted in
    ⊎_elim
    (λ (never : x t n ≡ Never). absurd (rw never at low))
    (λ (z : (date : ℕ) × (x t n ≡ At (pos date))).
    let at = (get_there ds (n - 1) z.0 (whole.all t n z.0 l one up z.1)).0 in
    omega (arith, at, one))
    (all_dated net x least.feasible t n l one))
    (cases_eq n 0) in
    count_first (λ z. nat_le z d) ds n there
    (λ i m.
    let counted : IsUpTo (i + 1) (c t d) = rw is (omega (arith, m)) in
    let low : IsAtMostDate (At (pos (get_or ds i 0))) (At (pos d)) = rw (dated i (omega (arith, m, there))) at ((counts t l d (i + 1) (omega arith)).1 counted) in
    let small : get_or ds i 0 ≤ d = omega (arith, ints, low) in
    grind (arith, nat_tests))
    (λ i m o.
    let past : d < get_or ds i 0 =
    ⊎_elim
    (λ (q : d < get_or ds i 0). q)
    (λ (q : get_or ds i 0 ≤ d).
    let low : IsAtMostDate (x t (i + 1)) (At (pos d)) = rw (dated i o) (omega (arith, ints, q)) in
    let counted : i + 1 ≤ n = rw is at ((counts t l d (i + 1) (omega arith)).0 low) in
    absurd (omega (arith, counted, m)))
    (cases_lt d (get_or ds i 0)) in
    grind (arith, nat_tests))
