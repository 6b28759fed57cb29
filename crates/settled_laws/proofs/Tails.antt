-- One date decides a whole tail that never falls: once Never it is Never, and Early past the first number it is Early.
use Rattle.std.proofs.Common.{ℕ, ℤ, zero, suc, ◌+◌, ◌-◌, ◌<◌, ◌≤◌, ◌≡◌, sym, ap, ◌∙◌, arith, ⊎_elim}
use Rattle.std.proofs.lemmas.Bool.{cases_lt}
use Rattle.teg_model.specs.dioid.declared.dates.Date.TheVariants.{Early, Never}
use Rattle.teg_model.specs.dioid.Dates.{move}
use Rattle.teg_model.proofs.dioid_proofs.DateOrder.{at_most_early, at_least_never}
use Rattle.teg_model.proofs.dioid_proofs.Moves.{moved_to_never}
use Rattle.teg_model.proofs.DateFunctions.{Dating}
use Rattle.settled_laws.proofs.Everywhere.{Repeats, Climbing, IsNeverPast, IsEarlyPast}

-- never at one number past `after` is never at all of them
never_from : (x : Dating) (after period : ℕ) (step : ℕ → ℤ) → Climbing x → Repeats x after period step → (t j : ℕ) → x t j ≡ Never → 1 ≤ j → (n k : ℕ) → j ≤ k → k ≤ j + n → x t k ≡ Never
never_from x after period step c h t j e o zero k l m = let is : k ≡ j = omega arith in rw is e
never_from x after period step c h t j e o (suc n) k l m =
    ⊎_elim
    (λ (q : j < k).
    let is : (k - 1) + 1 ≡ k = omega arith in
    let before = never_from x after period step c h t j e o n (k - 1) (omega arith) (omega arith) in
    at_least_never (x t k) (rw (before, is) at (c.climbs t (k - 1) (omega arith))))
    (λ (q : k ≤ j). let is : k ≡ j = omega arith in rw is e)
    (cases_lt j k)

never_back : (x : Dating) (after period : ℕ) (step : ℕ → ℤ) → Climbing x → Repeats x after period step → (t j : ℕ) → x t j ≡ Never → 1 ≤ j → (n k : ℕ) → j ≤ k + n → after < k → x t k ≡ Never
never_back x after period step c h t j e o zero k l m = never_from x after period step c h t j e o (k - j) k (omega arith) (omega arith)
never_back x after period step c h t j e o (suc n) k l m =
    let one = h.at_least_one in
    moved_to_never (step t) (x t k) (sym (h.again t k m) ∙ never_back x after period step c h t j e o n (k + period) (omega arith) (omega arith))

pub never_past : (x : Dating) (after period : ℕ) (step : ℕ → ℤ) → Climbing x → Repeats x after period step → (t j : ℕ) → x t j ≡ Never → 1 ≤ j → IsNeverPast x after t
never_past x after period step c h t j e o k m = never_back x after period step c h t j e o j k (omega arith) m

early_to : (x : Dating) → Climbing x → (t j : ℕ) → x t j ≡ Early → (n k : ℕ) → 1 ≤ k → k ≤ j → j ≤ k + n → x t k ≡ Early
early_to x c t j e zero k o l m = let is : k ≡ j = omega arith in rw is e
early_to x c t j e (suc n) k o l m =
    ⊎_elim
    (λ (q : k < j).
    let more = early_to x c t j e n (k + 1) (omega arith) (omega arith) (omega arith) in
    at_most_early (x t k) (rw more at (c.climbs t k o)))
    (λ (q : j ≤ k). let is : k ≡ j = omega arith in rw is e)
    (cases_lt k j)

early_on : (x : Dating) (after period : ℕ) (step : ℕ → ℤ) → Climbing x → Repeats x after period step → (t : ℕ) → (n j k : ℕ) → x t j ≡ Early → after < j → 1 ≤ k → k ≤ j + n → x t k ≡ Early
early_on x after period step c h t zero j k e l o m = early_to x c t j e j k o (omega arith) (omega arith)
early_on x after period step c h t (suc n) j k e l o m =
    let one = h.at_least_one in
    early_on x after period step c h t n (j + period) k (h.again t j l ∙ ap (move (step t)) e) (omega arith) o (omega arith)

pub early_past : (x : Dating) (after period : ℕ) (step : ℕ → ℤ) → Climbing x → Repeats x after period step → (t j : ℕ) → x t j ≡ Early → after < j → IsEarlyPast x after t
early_past x after period step c h t j e l k m = early_on x after period step c h t k j k e l (omega arith) (omega arith)
