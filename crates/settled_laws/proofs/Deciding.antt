-- Whether a dating that repeats in one period also repeats in another can be told from its dates in one period.
use Rattle.std.proofs.Common.{ℕ, ℤ, zero, suc, pos, ◌+◌, ◌-◌, ◌<◌, ◌≤◌, ◌≡◌, refl, sym, ap, ◌∙◌, arith, ⊎_elim, inl, inr, ◌-ℤ◌}
use Rattle.std.specs.Prelude.{◌⊎◌}
use Rattle.std.proofs.lemmas.Bool.{cases_lt}
use Rattle.std.proofs.lemmas.Int.{ints, by_lt_z}
use Rattle.teg_model.specs.dioid.declared.dates.Date.{Date}
use Rattle.teg_model.specs.dioid.declared.dates.Date.TheVariants.{Early, At, Never}
use Rattle.teg_model.specs.dioid.Dates.{move}
use Rattle.teg_model.proofs.dioid_proofs.Moves.{at_inj, move_swap}
use Rattle.teg_model.proofs.DateFunctions.{Dating}
use Rattle.settled_laws.specs.SettledForms.{RepeatsAfter}

same_number : (a b : ℤ) → (a ≡ b) ⊎ (a ≡ b → ⊥)
same_number a b = by_lt_z a b (λ l. inr (λ e. absurd (omega (arith, ints)))) (λ l. by_lt_z b a (λ m. inr (λ e. absurd (omega (arith, ints)))) (λ m. inl (omega (arith, ints))))

pub same_date : (d e : Date) → (d ≡ e) ⊎ (d ≡ e → ⊥)
same_date Early Early = inl refl
same_date Early (At y) = inr (λ h. absurd (cc))
same_date Early Never = inr (λ h. absurd (cc))
same_date (At x) Early = inr (λ h. absurd (cc))
same_date (At x) (At y) = ⊎_elim (λ (q : x ≡ y). inl (ap At q)) (λ (q : x ≡ y → ⊥). inr (λ h. q (at_inj x y h))) (same_number x y)
same_date (At x) Never = inr (λ h. absurd (cc))
same_date Never Early = inr (λ h. absurd (cc))
same_date Never (At y) = inr (λ h. absurd (cc))
same_date Never Never = inl refl

-- a condition on steps that just one step meets
abbrev IsOnly : (ℤ → Type 0) → Type 0
IsOnly P = (s : ℤ) × P s × ((u : ℤ) → P u → u ≡ s)

-- all steps meet the condition, or one, or none
abbrev Steps : (ℤ → Type 0) → Type 0
Steps P = ((s : ℤ) → P s) ⊎ (IsOnly P ⊎ ((s : ℤ) → P s → ⊥))

both : (P Q : ℤ → Type 0) → Steps P → Steps Q → Steps (λ s. P s × Q s)
both P Q a b =
    ⊎_elim
    (λ (all : (s : ℤ) → P s).
    ⊎_elim
    (λ (all' : (s : ℤ) → Q s). inl (λ s. (all s, all' s)))
    (λ (r : IsOnly Q ⊎ ((s : ℤ) → Q s → ⊥)).
    ⊎_elim
    (λ (one : IsOnly Q). inr (inl (one.0, (all one.0, one.1), λ u h. one.2 u h.1)))
    (λ (none : (s : ℤ) → Q s → ⊥). inr (inr (λ s h. none s h.1)))
    r)
    b)
    (λ (r : IsOnly P ⊎ ((s : ℤ) → P s → ⊥)).
    ⊎_elim
    (λ (one : IsOnly P).
    ⊎_elim
    (λ (all' : (s : ℤ) → Q s). inr (inl (one.0, (one.1, all' one.0), λ u h. one.2 u h.0)))
    (λ (r' : IsOnly Q ⊎ ((s : ℤ) → Q s → ⊥)).
    ⊎_elim
    (λ (one' : IsOnly Q).
    ⊎_elim
    (λ (e : one'.0 ≡ one.0). inr (inl (one.0, (one.1, rw e at one'.1), λ u h. one.2 u h.0)))
    (λ (e : one'.0 ≡ one.0 → ⊥). inr (inr (λ s h. e (sym (one'.2 s h.1) ∙ one.2 s h.0))))
    (same_number one'.0 one.0))
    (λ (none : (s : ℤ) → Q s → ⊥). inr (inr (λ s h. none s h.1)))
    r')
    b)
    (λ (none : (s : ℤ) → P s → ⊥). inr (inr (λ s h. none s h.0)))
    r)
    a

steps_map : (P Q : ℤ → Type 0) → ((s : ℤ) → P s → Q s) → ((s : ℤ) → Q s → P s) → Steps P → Steps Q
steps_map P Q f g a =
    ⊎_elim
    (λ (all : (s : ℤ) → P s). inl (λ s. f s (all s)))
    (λ (r : IsOnly P ⊎ ((s : ℤ) → P s → ⊥)).
    ⊎_elim
    (λ (one : IsOnly P). inr (inl (one.0, f one.0 one.1, λ u h. one.2 u (g u h))))
    (λ (none : (s : ℤ) → P s → ⊥). inr (inr (λ s h. none s (g s h))))
    r)
    a

steps_of : (d e : Date) → Steps (λ s. e ≡ move s d)
steps_of Early Early = inl (λ s. refl)
steps_of Early (At y) = inr (inr (λ s h. absurd (cc)))
steps_of Early Never = inr (inr (λ s h. absurd (cc)))
steps_of (At x) Early = inr (inr (λ s h. absurd (cc)))
steps_of (At x) (At y) = inr (inl (y -ℤ x, ap At (omega (arith, ints)), λ u h. (let e = at_inj _ _ h in omega (arith, ints))))
steps_of (At x) Never = inr (inr (λ s h. absurd (cc)))
steps_of Never Early = inr (inr (λ s h. absurd (cc)))
steps_of Never (At y) = inr (inr (λ s h. absurd (cc)))
steps_of Never Never = inl (λ s. refl)

-- past `after` the dates of one transition go on by the step in each period
abbrev pub RowRepeats : (ℕ → Date) → ℕ → ℕ → ℤ → Type 0
RowRepeats f after period s = (k : ℕ) → after < k → f (k + period) ≡ move s (f k)

-- the same of so many numbers past `after`
abbrev RowRepeatsTo : (ℕ → Date) → ℕ → ℕ → ℕ → ℤ → Type 0
RowRepeatsTo f after period n s = (k : ℕ) → after < k → k ≤ after + n → f (k + period) ≡ move s (f k)

steps_to : (f : ℕ → Date) (after period n : ℕ) → Steps (RowRepeatsTo f after period n)
steps_to f after period zero = inl (λ s k l m. absurd (omega arith))
steps_to f after period (suc n) =
    let last : ℕ = after + suc n in
    steps_map (λ s. RowRepeatsTo f after period n s × (f (last + period) ≡ move s (f last))) (RowRepeatsTo f after period (suc n))
    (λ s h k l m. ⊎_elim (λ (q : k < last). h.0 k l (omega arith)) (λ (q : last ≤ k). let is : k ≡ last = omega arith in rw is h.1) (cases_lt k last))
    (λ s h. (λ k l m. h k l (omega arith), h last (omega arith) (omega arith)))
    (both (RowRepeatsTo f after period n) (λ s. f (last + period) ≡ move s (f last)) (steps_to f after period n) (steps_of (f last) (f (last + period))))

-- a step, 0 where any will do
chosen : (P : ℤ → Type 0) → Steps P → ℤ
chosen P a = ⊎_elim (λ (all : (s : ℤ) → P s). pos 0) (λ (r : IsOnly P ⊎ ((s : ℤ) → P s → ⊥)). ⊎_elim (λ (one : IsOnly P). one.0) (λ (none : (s : ℤ) → P s → ⊥). pos 0) r) a

chosen_holds : (P : ℤ → Type 0) (a : Steps P) (s : ℤ) → P s → P (chosen P a)
unfolding chosen
chosen_holds P (inl all) s h = all (pos 0)
chosen_holds P (inr (inl one)) s h = one.1
chosen_holds P (inr (inr none)) s h = absurd (none s h)

chosen_neat : (P : ℤ → Type 0) (a : Steps P) → P (pos 0) → chosen P a ≡ pos 0
unfolding chosen
chosen_neat P (inl all) h = refl
chosen_neat P (inr (inl one)) h = sym (one.2 (pos 0) h)
chosen_neat P (inr (inr none)) h = refl

chosen_or : (P : ℤ → Type 0) (a : Steps P) → P (chosen P a) ⊎ ((s : ℤ) → P s → ⊥)
unfolding chosen
chosen_or P (inl all) = inl (all (pos 0))
chosen_or P (inr (inl one)) = inl one.1
chosen_or P (inr (inr none)) = inr none

-- the step that the dates of q numbers past `after` give
pub neat_step : Dating → ℕ → ℕ → ℕ → ℕ → ℤ
neat_step x after period q t = chosen (RowRepeatsTo (x t) after period q) (steps_to (x t) after period q)

-- of dates that repeat in a period of q the next q tell all
row_on : (f : ℕ → Date) (after p q : ℕ) (s v : ℤ) → 1 ≤ q → RowRepeats f after q v → RowRepeatsTo f after p q s → (n k : ℕ) → k ≤ n → after < k → f (k + p) ≡ move s (f k)
row_on f after p q s v one h w zero k l m = absurd (omega arith)
row_on f after p q s v one h w (suc n) k l m =
    ⊎_elim
    (λ (far : after + q < k).
    let j : ℕ = k - q in
    let is : j + q ≡ k = omega arith in
    let there : (j + p) + q ≡ k + p = omega arith in
    let before = row_on f after p q s v one h w n j (omega arith) (omega arith) in
    sym (ap f there) ∙ (h (j + p) (omega arith) ∙ (ap (move v) before ∙ (move_swap v s (f j) ∙ ap (move s) (sym (h j (omega arith)) ∙ ap f is)))))
    (λ (near : k ≤ after + q). w k m near)
    (cases_lt (after + q) k)

pub neat_repeats : (c : ℕ) (x : Dating) (after p q : ℕ) (u v : ℕ → ℤ) → RepeatsAfter c x after q v → RepeatsAfter c x after p u → RepeatsAfter c x after p (neat_step x after p q)
unfolding neat_step
neat_repeats c x after p q u v known h = record {
  at_least_one = h.at_least_one;
  again = λ t k b l.
      row_on (x t) after p q (neat_step x after p q t) (v t) known.at_least_one (λ j m. known.again t j b m)
      (chosen_holds (RowRepeatsTo (x t) after p q) (steps_to (x t) after p q) (u t) (λ j m n. h.again t j b m)) k k (omega arith) l;
}

pub neat_is : (x : Dating) (after p q t : ℕ) → RowRepeats (x t) after p (pos 0) → neat_step x after p q t ≡ pos 0
unfolding neat_step
neat_is x after p q t h = chosen_neat (RowRepeatsTo (x t) after p q) (steps_to (x t) after p q) (λ k l m. h k l)

-- each number below c is of the first kind, or one is of the second
pub all_below : (P Q : ℕ → Type 0) → ((t : ℕ) → P t ⊎ Q t) → (c : ℕ) → ((t : ℕ) → t < c → P t) ⊎ ((t : ℕ) × (t < c) × Q t)
all_below P Q f zero = inl (λ t l. absurd (omega arith))
all_below P Q f (suc c) =
    ⊎_elim
    (λ (all : (t : ℕ) → t < c → P t).
    ⊎_elim
    (λ (here : P c). inl (λ t l. ⊎_elim (λ (q : t < c). all t q) (λ (q : c ≤ t). let is : t ≡ c = omega arith in rw is here) (cases_lt t c)))
    (λ (here : Q c). inr (c, omega arith, here))
    (f c))
    (λ (one : (t : ℕ) × (t < c) × Q t). inr (one.0, omega (arith, one.1), one.2))
    (all_below P Q f c)

pub decide_period : (c : ℕ) (x : Dating) (after p q : ℕ) (v : ℕ → ℤ) → 1 ≤ p → RepeatsAfter c x after q v
    → RepeatsAfter c x after p (neat_step x after p q) ⊎ ((u : ℕ → ℤ) → RepeatsAfter c x after p u → ⊥)
unfolding neat_step
decide_period c x after p q v one known =
    ⊎_elim
    (λ (all : (t : ℕ) → t < c → RowRepeatsTo (x t) after p q (chosen (RowRepeatsTo (x t) after p q) (steps_to (x t) after p q))).
    inl (record {
      at_least_one = one;
      again = λ t k b l. row_on (x t) after p q (neat_step x after p q t) (v t) known.at_least_one (λ j m. known.again t j b m) (all t b) k k (omega arith) l;
    }))
    (λ (no : (t : ℕ) × (t < c) × ((s : ℤ) → RowRepeatsTo (x t) after p q s → ⊥)). inr (λ u h. no.2 (u no.0) (λ k l m. h.again no.0 k no.1 l)))
    (all_below (λ t. RowRepeatsTo (x t) after p q (chosen (RowRepeatsTo (x t) after p q) (steps_to (x t) after p q))) (λ t. (s : ℤ) → RowRepeatsTo (x t) after p q s → ⊥)
    (λ t. chosen_or (RowRepeatsTo (x t) after p q) (steps_to (x t) after p q)) c)
