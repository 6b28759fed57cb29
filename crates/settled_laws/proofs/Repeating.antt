-- Periods of one dating: they have their greatest common divisor, and the least number and the least period come together.
use Rattle.std.proofs.Common.{ℕ, ℤ, zero, suc, ◌+◌, ◌-◌, ◌<◌, ◌≤◌, ◌≡◌, sym, ap, subst, ◌∙◌, arith, ⊎_elim, ◌-ℤ◌}
use Prim.Native.Nat.{◌∣◌}
use Rattle.std.specs.Int.{IsGcd}
use Rattle.std.proofs.lemmas.Bool.{cases_lt}
use Rattle.std.proofs.lemmas.Nat.Gcd.{dvd_refl, le_of_dvd, IsGcd-from_sub, IsGcd-swap}
use Rattle.teg_model.specs.dioid.Dates.{move}
use Rattle.teg_model.proofs.dioid_proofs.Moves.{move_swap, move_injective, move_between}
use Rattle.teg_model.proofs.DateFunctions.{Dating}
use Rattle.settled_laws.specs.SettledForms.{RepeatsAfter}

pub later_form : (c : ℕ) (x : Dating) (k j p : ℕ) (s : ℕ → ℤ) → k ≤ j → RepeatsAfter c x k p s → RepeatsAfter c x j p s
later_form c x k j p s l h = record { at_least_one = h.at_least_one; again = λ t i b m. h.again t i b (omega arith) }

-- the difference of two periods is a period
difference : (c : ℕ) (x : Dating) (k p q : ℕ) (s u : ℕ → ℤ) → p < q → RepeatsAfter c x k p s → RepeatsAfter c x k q u → RepeatsAfter c x k (q - p) (λ t. u t -ℤ s t)
difference c x k p q s u l a b = record {
  at_least_one = omega arith;
  again = λ t i n m.
      let there : (i + (q - p)) + p ≡ i + q = omega arith in
      let long : move (s t) (x t (i + (q - p))) ≡ move (u t) (x t i) = sym (a.again t (i + (q - p)) n (omega arith)) ∙ (ap (x t) there ∙ b.again t i n m) in
      move_between (s t) (u t) (x t (i + (q - p))) (x t i) long;
}

-- past number k the dates go on in this period
pub record HasPeriod (c : ℕ) (x : Dating) (k p : ℕ) : Type 0 where
  pub step : ℕ → ℤ
  pub repeats : RepeatsAfter c x k p step

-- and in the greatest common divisor of two
pub record HasCommon (c : ℕ) (x : Dating) (k p q : ℕ) : Type 0 where
  pub gcd : ℕ
  pub is_gcd : IsGcd p q gcd
  pub form : HasPeriod c x k gcd

swap_gcd : (c : ℕ) (x : Dating) (k p q : ℕ) → HasCommon c x k p q → HasCommon c x k q p
swap_gcd c x k p q h = record { gcd = h.gcd; is_gcd = IsGcd-swap p q h.gcd h.is_gcd; form = h.form }

more_gcd : (c : ℕ) (x : Dating) (k p q : ℕ) → p < q → HasCommon c x k (q - p) p → HasCommon c x k q p
more_gcd c x k p q l h = record { gcd = h.gcd; is_gcd = IsGcd-from_sub q p h.gcd (omega arith) h.is_gcd; form = h.form }

-- so the greatest common divisor of two periods is a period
pub gcd_period : (c : ℕ) (x : Dating) (k n p q : ℕ) → p + q < n → HasPeriod c x k p → HasPeriod c x k q → HasCommon c x k p q
gcd_period c x k zero p q m a b = absurd (omega arith)
gcd_period c x k (suc n) p q m a b =
    let one = a.repeats.at_least_one in
    let two = b.repeats.at_least_one in
    ⊎_elim
    (λ (l : p < q).
    let d : HasPeriod c x k (q - p) = record { step = λ t. b.step t -ℤ a.step t; repeats = difference c x k p q a.step b.step l a.repeats b.repeats } in
    swap_gcd c x k q p (more_gcd c x k p q l (gcd_period c x k n (q - p) p (omega arith) d a)))
    (λ (l : q ≤ p).
    ⊎_elim
    (λ (o : q < p).
    let d : HasPeriod c x k (p - q) = record { step = λ t. a.step t -ℤ b.step t; repeats = difference c x k q p b.step a.step o b.repeats a.repeats } in
    more_gcd c x k q p o (gcd_period c x k n (p - q) q (omega arith) d b))
    (λ (o : p ≤ q).
    let same : p ≡ q = omega arith in
    record { gcd = p; is_gcd = (dvd_refl p, subst (λ z. p ∣ z) same (dvd_refl p), λ d e f. e); form = a })
    (cases_lt q p))
    (cases_lt p q)

-- a period of one form begins where any form begins
lowered_on : (c : ℕ) (x : Dating) (k j p q : ℕ) (s u : ℕ → ℤ) → RepeatsAfter c x k p s → RepeatsAfter c x j q u → (n t i : ℕ) → t < c → j < i + n → k < i → x t (i + q) ≡ move (u t) (x t i)
lowered_on c x k j p q s u a b zero t i o l m = b.again t i o (omega arith)
lowered_on c x k j p q s u a b (suc n) t i o l m =
    let one = a.at_least_one in
    let ahead = lowered_on c x k j p q s u a b n t (i + p) o (omega arith) (omega arith) in
    let there : (i + q) + p ≡ (i + p) + q = omega arith in
    move_injective (s t) (x t (i + q)) (move (u t) (x t i))
    (sym (a.again t (i + q) o (omega arith)) ∙ (ap (x t) there ∙ (ahead ∙ (ap (move (u t)) (a.again t i o m) ∙ move_swap (u t) (s t) (x t i)))))

pub lowered : (c : ℕ) (x : Dating) (k j p q : ℕ) (s u : ℕ → ℤ) → RepeatsAfter c x k p s → RepeatsAfter c x j q u → RepeatsAfter c x k q u
lowered c x k j p q s u a b = record { at_least_one = b.at_least_one; again = λ t i o m. lowered_on c x k j p q s u a b (suc j) t i o (omega arith) m }

common_form : (c : ℕ) (x : Dating) (k j p q : ℕ) (s u : ℕ → ℤ) → RepeatsAfter c x k p s → RepeatsAfter c x j q u → HasCommon c x k p q
common_form c x k j p q s u a b =
    gcd_period c x k (suc (p + q)) p q (omega arith) (record { step = s; repeats = a }) (record { step = u; repeats = lowered c x k j p q s u a b })

-- where no smaller period is one from `from` on, none is one at all
pub period_least : (c : ℕ) (x : Dating) (from period : ℕ) (step : ℕ → ℤ) → RepeatsAfter c x from period step
    → ((p : ℕ) (s : ℕ → ℤ) → p < period → RepeatsAfter c x from p s → ⊥)
    → (k p : ℕ) (s : ℕ → ℤ) → RepeatsAfter c x k p s → period ≤ p
period_least c x from period step h none k p s f =
    let g = common_form c x from k period p step s h f in
    let one = f.at_least_one in
    let two = h.at_least_one in
    let up : g.gcd ≤ p = le_of_dvd (omega arith) g.is_gcd.1 in
    let down : g.gcd ≤ period = le_of_dvd (omega arith) g.is_gcd.0 in
    ⊎_elim
    (λ (m : g.gcd < period). absurd (none g.gcd g.form.step m g.form.repeats))
    (λ (m : period ≤ g.gcd). omega arith)
    (cases_lt g.gcd period)

-- where the dates do not go on so from one number before, they do so from no earlier number in any period
pub after_least : (c : ℕ) (x : Dating) (after period : ℕ) (step : ℕ → ℤ) → RepeatsAfter c x after period step
    → (1 ≤ after → ((t : ℕ) → t < c → x t (after + period) ≡ move (step t) (x t after)) → ⊥)
    → (k p : ℕ) (s : ℕ → ℤ) → RepeatsAfter c x k p s → after ≤ k
after_least c x after period step h first k p s f =
    ⊎_elim
    (λ (m : k < after).
    let form = lowered c x k after p period s step f h in
    absurd (first (omega arith) (λ t l. form.again t after l m)))
    (λ (m : after ≤ k). m)
    (cases_lt k after)
