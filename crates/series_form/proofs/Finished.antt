-- How an operation ends: by the first values of its function, and the value after them.
use Rattle.std.proofs.Common.{◌≡◌, refl, ap, arith, ℕ, ℤ, pos, zero, suc, ◌+◌, ◌*◌, ◌-◌, ◌/◌, ◌%◌, ◌≤◌, ◌<◌, sym, ◌∙◌, subst, ⊎_elim, ◌⊎◌, List, []}
use Rattle.std.proofs.Common.{◌∷◌, ◌++◌, length, get_or, false, ltb, Result, Ok, Err}
use Rattle.std.specs.Int.RustNames.{unsigned_abs}
use Rattle.std.proofs.lemmas.Int.{unsigned_abs-mul}
use Rattle.std.proofs.lemmas.Bool.{cases_lt}
use Rattle.std.proofs.lemmas.Nat.{mul-le}
use Rattle.std.proofs.Math.ListN.{get_or-eq_default}
use Rattle.std.proofs.lemmas.Bool.Decides.{nat_tests}
use Rattle.dioid.specs.declared.dates.Date.{Date}
use Rattle.dioid.specs.declared.dates.Date.TheVariants.{Early, At, Never}
use Rattle.series_laws.specs.declared.plans.NeedPlan.{NeedPlan}
use Rattle.series_form.specs.declared.forms.SeriesRefused.{SeriesRefused}
use Rattle.series_form.specs.declared.forms.SeriesRefused.TheVariants.{TooLong, TooGreat, OutOfMemory}
use Rattle.dioid.specs.Dates.{move}
use Rattle.dioid.proofs.AtMost.{le_is, le_trans, early_le}
use Rattle.series_laws.specs.Periodic.{Rising, times}
use Rattle.series_laws.specs.SeriesForms.{Form, form_with, size_of, repeat_start, value_at, gap, table, HasValues, IsCanonical, monomial_at}
use Rattle.series_laws.proofs.FormValues.{table_at, table_length, value_in, form_values, step_is_gap}
use Rattle.series_laws.proofs.Canonical.{one_canonical, constant_is}
use Rattle.series_form.specs.NumberBounds.{IsMagnitudeUpTo, IsSmallDate, IsModerateDate, IsModerate, HasSmallNumbers, IsSeries}
use Rattle.series_form.specs.SeriesAnswers.{IsFirstGreatValue, IsGreatStep, AnswersOf, IsShortestSeries, IsBeginning, form_before, AnswersForm}
use Rattle.series_laws.specs.Needs.{plan, need_of}
use Rattle.series_laws.proofs.Sums.{Serves}
use Rattle.series_form.proofs.DateNumbers.{abs_sum, abs_difference, times_product, div_below}
use Rattle.series_laws.proofs.Shifts.{monomial_below, monomial_from}
use Rattle.dioid.proofs.Moves.{move_zero}
use Rattle.series_form.specs.SeriesLimits.{greatest_value, greatest_moderate, greatest_listed, monomial_bound}

-- ---- bounds

pub up_to_more : (m n : ℕ) (d : Date) → m ≤ n → IsMagnitudeUpTo m d → IsMagnitudeUpTo n d
up_to_more m n Early w h = tt
up_to_more m n (At t) w h = let k : unsigned_abs t ≤ m = h in omega arith
up_to_more m n Never w h = tt

up_to_move : (m n t : ℕ) (x : ℤ) (d : Date) → IsMagnitudeUpTo m d → t * unsigned_abs x ≤ n → IsMagnitudeUpTo (m + n) (move (times t x) d)
up_to_move m n t x Early h w = tt
up_to_move m n t x (At s) h w =
    let a : unsigned_abs (times t x) ≡ t * unsigned_abs x = ap unsigned_abs (times_product t x) ∙ unsigned_abs-mul (pos t) x in
    abs_sum s (times t x) m n h (omega arith)
up_to_move m n t x Never h w = tt

-- how far a series comes by a shift
pub value_up_to : (f : Form) → IsSeries f → (k m : ℕ) → k ≤ m → IsMagnitudeUpTo (greatest_value + m * greatest_value) (value_at f k)
value_up_to f h k m w = ⊎_elim
    (λ short. subst (λ (z : Date). IsMagnitudeUpTo (greatest_value + m * greatest_value) z) (sym (value_in f k short))
    (up_to_more greatest_value (greatest_value + m * greatest_value) (get_or f.values k Early) (omega arith) (h.small.values k)))
    (λ long.
    let e : ltb k (size_of f) ≡ false = grind (arith, nat_tests) in
    let p : 0 < f.period = h.canonical.form.period_positive in
    let t : (k - repeat_start f) / f.period ≤ k - repeat_start f = div_below (k - repeat_start f) f.period p in
    let x : unsigned_abs f.step ≤ greatest_value = h.small.step in
    let far : (k - repeat_start f) / f.period * unsigned_abs f.step ≤ m * greatest_value = mul-le ((k - repeat_start f) / f.period) (unsigned_abs f.step) m greatest_value (omega arith) x in
    rw e (up_to_move greatest_value (m * greatest_value) ((k - repeat_start f) / f.period) f.step (get_or f.values (repeat_start f + (k - repeat_start f) % f.period) Early)
    (h.small.values (repeat_start f + (k - repeat_start f) % f.period)) far))
    (cases_lt k (size_of f))

-- ---- the function of a table

-- the first values of a function by a plan, the value after them, and how great they are
pub record IsTabled (s : ℕ → Date) (r : NeedPlan) (l : List Date) (next : Date) : Type 0 where
  pub rising : Rising s
  pub serves : Serves s r
  pub values : l ≡ table s (need_of r)
  pub next_is : next ≡ s (need_of r)
  pub bounded : (k : ℕ) → k ≤ need_of r → IsMagnitudeUpTo greatest_listed (s k)

pub gap_up_to : (m : ℕ) (a b : Date) → IsMagnitudeUpTo m a → IsMagnitudeUpTo m b → unsigned_abs (gap a b) ≤ m + m
gap_up_to m Early b h k = omega arith
gap_up_to m (At s) Early h k = omega arith
gap_up_to m (At s) (At t) h k = abs_difference t s m m k h
gap_up_to m (At s) Never h k = omega arith
gap_up_to m Never b h k = omega arith

module _ (s : ℕ → Date) (r : NeedPlan) (l : List Date) (next : Date) (h : IsTabled s r l next) where
  pub tabled_length : length l ≡ need_of r
  tabled_length = ap length h.values ∙ table_length s (need_of r)

  begins : length l - r.turn ≡ r.from
  begins = let e : length l ≡ r.from + r.turn = tabled_length in omega arith

  first : get_or l (length l - r.turn) Early ≡ s r.from
  first =
      let pos_n : 0 < r.turn = h.serves.turns in
      ap (λ (z : ℕ). get_or l z Early) begins ∙ ap (λ (z : List Date). get_or z r.from Early) h.values ∙ table_at s (need_of r) r.from (omega arith)

  form : form_before l r.turn next ≡ form_with (table s (need_of r)) r.turn (gap (s r.from) (s (need_of r)))
  form =
      ap (λ (z : Date). form_with l r.turn (gap z next)) first
      ∙ ap (λ (z : Date). form_with l r.turn (gap (s r.from) z)) h.next_is
      ∙ ap (λ (z : List Date). form_with z r.turn (gap (s r.from) (s (need_of r)))) h.values

  pub tabled_values : HasValues (form_before l r.turn next) s
  tabled_values = subst (λ (z : Form). HasValues z s) (sym form)
      (form_values s r.from r.turn (gap (s r.from) (s (need_of r))) h.serves.turns
      (step_is_gap s r.from r.turn r.from h.serves.step h.rising h.serves.turns h.serves.repeats (omega arith)))

  pub tabled_rises : Rising (value_at (form_before l r.turn next))
  tabled_rises = record { rises = λ j k w. le_trans (le_is (tabled_values j)) (le_trans (h.rising.rises j k w) (le_is (sym (tabled_values k)))) }

  value : (k : ℕ) → IsMagnitudeUpTo greatest_listed (get_or l k Early)
  value k = ⊎_elim
      (λ w. subst (λ (z : Date). IsMagnitudeUpTo greatest_listed z)
      (sym (ap (λ (z : List Date). get_or z k Early) h.values ∙ table_at s (need_of r) k (omega (arith, tabled_length))))
      (h.bounded k (omega (arith, tabled_length))))
      (λ w. subst (λ (z : Date). IsMagnitudeUpTo greatest_listed z) (sym (get_or-eq_default l Early {n = k} w)) tt)
      (cases_lt k (length l))

  after : IsMagnitudeUpTo greatest_listed next
  after = subst (λ (z : Date). IsMagnitudeUpTo greatest_listed z) (sym h.next_is) (h.bounded (need_of r) (omega arith))

  pub tabled_next : IsModerateDate next
  tabled_next = up_to_more greatest_listed greatest_moderate next (omega arith) after

  pub tabled_moderate : IsModerate (form_before l r.turn next)
  tabled_moderate = record {
    values = λ k. up_to_more greatest_listed greatest_moderate (get_or l k Early) (omega arith) (value k);
    step = let u : unsigned_abs (gap (get_or l (length l - r.turn) Early) next) ≤ greatest_listed + greatest_listed =
        gap_up_to greatest_listed (get_or l (length l - r.turn) Early) next (value (length l - r.turn)) after in omega arith;
  }

  pub tabled_begins : need_of r ≤ 20000 → IsBeginning l r.turn next
  tabled_begins short =
      let e : length l ≡ r.from + r.turn = tabled_length in
      record {
        positive = h.serves.turns;
        fits = omega arith;
        short = omega arith;
        moderate = tabled_moderate;
        moderate_next = tabled_next;
        rising = tabled_rises;
        goes_on = tabled_values (length l) ∙ ap s tabled_length ∙ sym h.next_is;
      }

  -- the answer of a call that ends by the table
  pub tabled_answer : (is : Form → Type 0) (x : Result Form SeriesRefused) → ((f : Form) → HasValues f s → is f) → need_of r ≤ 20000
      → IsShortestSeries (value_at (form_before l r.turn next)) x → AnswersOf is (need_of r) (need_of r) x
  tabled_answer is (Ok f) has short e = (e.0, has f (λ k. e.1 k ∙ tabled_values k), short)
  tabled_answer is (Err (TooLong n)) has short e = absurd e
  tabled_answer is (Err (TooGreat v)) has short e = (short, record { form = e.form; canonical = e.canonical; values = has e.form (λ k. e.values k ∙ tabled_values k); number = e.number })
  tabled_answer is (Err OutOfMemory) has short e = tt

-- ---- the model

-- an answer of the function's values is one of the function's canonical form
pub model_answer : (s : ℕ → Date) (f : Form) (is : Form → Type 0) (need carried : ℕ) (x : Result Form SeriesRefused) → IsCanonical f
    → HasValues f s → ((g : Form) → is g → HasValues g s) → AnswersOf is need carried x → AnswersForm need f x
model_answer s f is need carried (Ok g) cf same has h =
    let e : g ≡ f = one_canonical g f h.0.canonical cf (λ k. has g h.1 k ∙ sym (same k)) in
    (e, record { short = h.2; small = subst (λ (z : Form). HasSmallNumbers z) e h.0.small })
model_answer s f is need carried (Err (TooLong n)) cf same has h = h.0
model_answer s f is need carried (Err (TooGreat v)) cf same has h =
    let e : h.1.form ≡ f = one_canonical h.1.form f h.1.canonical cf (λ k. has h.1.form h.1.values k ∙ sym (same k)) in
    (h.0, subst (λ (z : Form). IsFirstGreatValue z v ⊎ IsGreatStep z v) e h.1.number)
model_answer s f is need carried (Err OutOfMemory) cf same has h = tt

-- the answer of a call that ends by the table of its plan
pub planned_answer : (s : ℕ → Date) (r q : NeedPlan) (l : List Date) (next : Date) → IsTabled s r l next → r ≡ q → need_of r ≤ 20000
    → (is : Form → Type 0) (x : Result Form SeriesRefused) → ((f : Form) → HasValues f s → is f)
    → IsShortestSeries (value_at (form_before l r.turn next)) x → AnswersOf is (need_of q) (need_of q) x
planned_answer s r q l next h e short is x has a = subst (λ (z : NeedPlan). AnswersOf is (need_of z) (need_of z) x) e (tabled_answer s r l next h is x has short a)

-- the same in the model
pub planned_form : (s : ℕ → Date) (r q : NeedPlan) (l : List Date) (next : Date) → IsTabled s r l next → r ≡ q → need_of r ≤ 20000
    → (f : Form) (x : Result Form SeriesRefused) → IsCanonical f → HasValues f s → IsShortestSeries (value_at (form_before l r.turn next)) x → AnswersForm (need_of q) f x
planned_form s r q l next h e short f x cf same a =
    model_answer s f (λ g. HasValues g s) (need_of q) (need_of q) x cf same (λ g k. k) (planned_answer s r q l next h e short (λ g. HasValues g s) x (λ g k. k) a)

-- ---- constants and monomials

pub constant_series : (d : Date) → IsSmallDate d → IsSeries (form_with (d ∷ []) 1 (pos 0))
constant_series d h = record {
  canonical = (constant_is d (move_zero d)).0;
  short = omega arith;
  small = record { values = values; step = omega arith };
} where
  values : (k : ℕ) → IsSmallDate (get_or (d ∷ []) k Early)
  values zero = h
  values (suc k) = tt

pub monomial_tabled : (n : ℕ) (t : ℤ) (l : List Date) → unsigned_abs t < monomial_bound → l ≡ table (monomial_at n t) (n + 1) → IsTabled (monomial_at n t) (plan n 1) l (At t)
monomial_tabled n t l small e = record {
  rising = record {
    rises = λ j k w. ⊎_elim
        (λ low. le_trans (le_is (monomial_below n t j low)) (early_le (monomial_at n t k)))
        (λ high. le_is (monomial_from n t j high ∙ sym (monomial_from n t k (omega arith))))
        (cases_lt j n);
  };
  serves = record {
    turns = omega arith;
    step = pos 0;
    repeats = record { at = λ k w. monomial_from n t (k + 1) (omega arith) ∙ sym (move_zero (At t)) ∙ ap (move (pos 0)) (sym (monomial_from n t k w)) };
  };
  values = e;
  next_is = sym (monomial_from n t (n + 1) (omega arith));
  bounded = λ k _. ⊎_elim
      (λ low. subst (λ (z : Date). IsMagnitudeUpTo greatest_listed z) (sym (monomial_below n t k low)) tt)
      (λ high. subst (λ (z : Date). IsMagnitudeUpTo greatest_listed z) (sym (monomial_from n t k high)) (let u : unsigned_abs t ≤ greatest_listed = omega arith in u))
      (cases_lt k n);
}

-- ---- the loop that writes the table

table_more : (f : ℕ → Date) (n : ℕ) → table f n ++ (f n ∷ []) ≡ table f (suc n)
table_more f zero = refl
table_more f (suc n) = ap (λ (z : List Date). f 0 ∷ z) (table_more (λ i. f (suc i)) n)

pub table_push : (f : ℕ → Date) (n : ℕ) (l : List Date) (d : Date) → l ≡ table f n → d ≡ f n → l ++ (d ∷ []) ≡ table f (n + 1)
table_push f n l d e g =
    let k : suc n ≡ n + 1 = omega arith in
    ap (λ (z : List Date). z ++ (d ∷ [])) e ∙ ap (λ (z : Date). table f n ++ (z ∷ [])) g ∙ table_more f n ∙ ap (table f) k
