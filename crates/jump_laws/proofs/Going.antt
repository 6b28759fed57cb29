-- Dates that are given up to a number and go on by steps of their residues from there.
use Rattle.std.proofs.Common.{ℕ, ℤ, zero, suc, ◌+◌, ◌-◌, ◌<◌, ◌≤◌, ◌≡◌, true, false, ltb, cond, refl, sym, ap, ◌∙◌, arith, ⊎_elim}
use Rattle.std.proofs.lemmas.Bool.{cases_lt}
use Rattle.std.proofs.lemmas.Bool.Decides.{nat_tests}
use Rattle.dioid.specs.Dates.{move}
use Rattle.teg_model.proofs.DateFunctions.{Dating}
use Rattle.jump_laws.specs.Jumps.{MovesTo}

-- x up to `end`, and from there on by the steps
going : Dating → ℕ → ℕ → (ℕ → ℕ → ℤ) → ℕ → Dating
going x end turn step zero t k = x t k
going x end turn step (suc n) t k = cond (ltb end k) (move (step t (k - turn)) (going x end turn step n t (k - turn))) (x t k)

going_in : (x : Dating) (end turn : ℕ) (step : ℕ → ℕ → ℤ) (n t k : ℕ) → k ≤ end → going x end turn step n t k ≡ x t k
unfolding going
going_in x end turn step zero t k l = refl
going_in x end turn step (suc n) t k l = let e : ltb end k ≡ false = grind (arith, nat_tests) in rw e refl

going_past : (x : Dating) (end turn : ℕ) (step : ℕ → ℕ → ℤ) (n t k : ℕ) → end < k
    → going x end turn step (suc n) t k ≡ move (step t (k - turn)) (going x end turn step n t (k - turn))
unfolding going
going_past x end turn step n t k l = let e : ltb end k ≡ true = grind (arith, nat_tests) in rw e refl

going_fuel : (x : Dating) (end turn : ℕ) (step : ℕ → ℕ → ℤ) → 1 ≤ turn → (n m t k : ℕ) → k ≤ n → k ≤ m → going x end turn step n t k ≡ going x end turn step m t k
going_fuel x end turn step o zero m t k l h = let i : k ≤ end = omega arith in going_in x end turn step 0 t k i ∙ sym (going_in x end turn step m t k i)
going_fuel x end turn step o (suc n) zero t k l h = let i : k ≤ end = omega arith in going_in x end turn step (suc n) t k i ∙ sym (going_in x end turn step 0 t k i)
going_fuel x end turn step o (suc n) (suc m) t k l h =
    ⊎_elim
    (λ (i : end < k).
    going_past x end turn step n t k i ∙ (ap (move (step t (k - turn))) (going_fuel x end turn step o n m t (k - turn) (omega arith) (omega arith)) ∙ sym (going_past x end turn step m t k i)))
    (λ (i : k ≤ end). going_in x end turn step (suc n) t k i ∙ sym (going_in x end turn step (suc m) t k i))
    (cases_lt end k)

pub gone : Dating → ℕ → ℕ → (ℕ → ℕ → ℤ) → Dating
gone x end turn step t k = going x end turn step k t k

pub gone_in : (x : Dating) (end turn : ℕ) (step : ℕ → ℕ → ℤ) (t k : ℕ) → k ≤ end → gone x end turn step t k ≡ x t k
unfolding gone
gone_in x end turn step t k l = going_in x end turn step k t k l

-- what moves by the steps up to there does so for ever
pub gone_moves : (x : Dating) (after end turn : ℕ) (step : ℕ → ℕ → ℤ) → 1 ≤ turn → (t : ℕ) → MovesTo (x t) after turn end (step t)
    → (k : ℕ) → after < k → gone x end turn step t (k + turn) ≡ move (step t k) (gone x end turn step t k)
unfolding gone
gone_moves x after end turn step o t h k l =
    ⊎_elim
    (λ (q : end < k + turn).
    let n : ℕ = (k + turn) - 1 in
    let is : suc n ≡ k + turn = omega arith in
    let back : (k + turn) - turn ≡ k = omega arith in
    ap (λ z. going x end turn step z t (k + turn)) (sym is)
    ∙ (going_past x end turn step n t (k + turn) q
    ∙ (ap (λ z. move (step t z) (going x end turn step n t z)) back ∙ ap (move (step t k)) (going_fuel x end turn step o n k t k (omega arith) (omega arith)))))
    (λ (q : k + turn ≤ end).
    going_in x end turn step (k + turn) t (k + turn) q ∙ (h k l q ∙ ap (move (step t k)) (sym (going_in x end turn step k t k (omega arith)))))
    (cases_lt end (k + turn))
