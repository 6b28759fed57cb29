-- The canonical form of a function that repeats, and that it is the only one.
use Rattle.std.proofs.Common.{◌≡◌, refl, ap, arith, ℕ, ℤ, pos, ◌+◌, ◌-◌, ◌≤◌, ◌<◌, ◌+ℤ◌, sym, ◌∙◌, ⊎_elim, inl, inr, Bool, true, [], ◌∷◌}
use Rattle.std.proofs.lemmas.Int.{ints}
use Rattle.std.proofs.lemmas.Bool.{cases_lt}
use Rattle.dioid.specs.declared.dates.Date.{Date}
use Rattle.dioid.specs.declared.dates.Date.TheVariants.{Early, At, Never}
use Rattle.dioid.specs.Dates.{move}
use Rattle.dioid.proofs.AtMost.{le_is, le_trans, never_le}
use Rattle.dioid.proofs.Moves.{at_inj, move_zero, move_swap}
use Rattle.series_laws.specs.Periodic.{Rising, Repeats}
use Rattle.series_laws.proofs.Repeating.{repeats_is, by_steps}
use Rattle.series_laws.specs.SeriesForms.{Form, size_of, repeat_start, value_at, IsForm, HasValues, IsCanonical, gap, repeats_test, least_period_of, least_start_of, canonical_of}
use Rattle.series_laws.proofs.FormValues.{value_in, value_repeats, pulled_back, early_all, step_is_gap, table_length, same_lists, form_values}
use Rattle.series_laws.proofs.FormValues.{test_sound, test_complete, first_ge, first_le, first_holds}

-- ---- the canonical form

-- a form of f repeats as f does
form_repeats : (f : ℕ → Date) (g : Form) → IsForm g → HasValues g f → Repeats f (repeat_start g) g.period g.step
form_repeats f g is same = let a : Repeats (value_at g) (repeat_start g) g.period g.step = value_repeats g is.period_positive is.period_fits in
    record { at = λ k w. sym (same (k + g.period)) ∙ a.at k w ∙ ap (move g.step) (same k) }

module _ (f : ℕ → Date) (p n : ℕ) (x : ℤ) (up : Rising f) (pos_n : 0 < n) (repeats : Repeats f p n x) where
  abbrev test_of : ℕ → Bool
  test_of i = repeats_test f i (gap (f p) (f (p + i))) p n

  test_at : (m : ℕ) → Repeats f p m (gap (f p) (f (p + m))) → test_of m ≡ true
  test_at m a = test_complete f m (gap (f p) (f (p + m))) p n (λ k u _. a.at k u)

  abbrev least : ℕ
  least = least_period_of f p n

  least_positive : 0 < least
  least_positive = first_ge test_of 1 (n - 1)

  -- any period is at least this one
  least_is : (q m : ℕ) (y : ℤ) → 0 < m → Repeats f q m y → least ≤ m
  least_is q m y pos_m a = first_le test_of 1 (n - 1) m pos_m (test_at m (step_is_gap f p m p y up pos_m (pulled_back f p n q m x y pos_n repeats a) (omega arith)))

  abbrev jump : ℤ
  jump = gap (f p) (f (p + least))

  least_repeats : Repeats f p least jump
  least_repeats =
      let whole : 1 + (n - 1) ≡ n = omega arith in
      let last : test_of (1 + (n - 1)) ≡ true = ap test_of whole ∙ test_at n (step_is_gap f p n p x up pos_n repeats (omega arith)) in
      let found : test_of least ≡ true = first_holds test_of 1 (n - 1) last in
      record {
        at = λ k w. by_steps (λ (j : ℕ). f (j + least) ≡ move jump (f j)) p n pos_n
            (λ j u v. test_sound f least jump p n found j u v)
            (λ j u e. ap f (omega arith) ∙ repeats.at (j + least) (omega arith) ∙ ap (move x) e ∙ move_swap x jump (f j) ∙ ap (move jump) (sym (repeats.at j u)))
            k w;
      }

  abbrev start_test : ℕ → Bool
  start_test q = repeats_test f least jump q (p - q)

  abbrev start : ℕ
  start = least_start_of f p least jump

  start_repeats : Repeats f start least jump
  start_repeats =
      let none : p - p ≡ 0 = omega arith in
      let low : start ≤ p = first_le start_test 0 p p (omega arith) (ap (λ (z : ℕ). repeats_test f least jump p z) none) in
      let last : start_test (0 + p) ≡ true = (let e : 0 + p ≡ p = omega arith in ap start_test e) ∙ ap (λ (z : ℕ). repeats_test f least jump p z) none in
      let found : start_test start ≡ true = first_holds start_test 0 p last in
      record {
        at = λ k w. ⊎_elim
            (λ short. test_sound f least jump start (p - start) found k w (omega arith))
            (λ long. least_repeats.at k long)
            (cases_lt k p);
      }

  start_is : (q : ℕ) (y : ℤ) → Repeats f q least y → start ≤ q
  start_is q y a = ⊎_elim
      (λ short. first_le start_test 0 p q (omega arith)
      (let b : Repeats f q least jump = step_is_gap f q least p y up least_positive a (omega arith) in test_complete f least jump q (p - q) (λ k u _. b.at k u)))
      (λ long. let low : start ≤ p = first_le start_test 0 p p (omega arith) (let none : p - p ≡ 0 = omega arith in ap (λ (z : ℕ). repeats_test f least jump p z) none) in omega arith)
      (cases_lt q p)

  pub canonical_values : HasValues (canonical_of f p n) f
  canonical_values = form_values f start least jump least_positive start_repeats

  pub least_below : least ≤ n
  least_below = least_is p n x pos_n repeats

  pub start_below : start ≤ p
  start_below = first_le start_test 0 p p (omega arith) (let none : p - p ≡ 0 = omega arith in ap (λ (z : ℕ). repeats_test f least jump p z) none)

  -- the canonical form is no longer than what it was found by
  pub canonical_short : size_of (canonical_of f p n) ≤ p + n
  canonical_short = let a : least ≤ n = least_below in let b : start ≤ p = start_below in omega (arith, table_length f (start + least))

  pub canonical_is : IsCanonical (canonical_of f p n)
  canonical_is = record { form = form; least_period = period; least_size = size } where
    c : Form
    c = canonical_of f p n

    long : size_of (canonical_of f p n) ≡ start + least
    long = table_length f (start + least)

    begins : repeat_start (canonical_of f p n) ≡ start
    begins = omega (arith, long)

    low : start ≤ p
    low = first_le start_test 0 p p (omega arith) (let none : p - p ≡ 0 = omega arith in ap (λ (z : ℕ). repeats_test f least jump p z) none)

    flat : (d : Date) → move (pos 0) d ≡ d → gap d d ≡ pos 0 → ((k : ℕ) → start ≤ k → f k ≡ d) → (least ≡ 1) × (jump ≡ pos 0)
    flat d move_zero none all =
        let one : Repeats f start 1 (pos 0) = record { at = λ k w. all (k + 1) (omega arith) ∙ sym move_zero ∙ ap (move (pos 0)) (sym (all k w)) } in
        let most : least ≤ 1 = least_is start 1 (pos 0) (omega arith) one in
        let pos_least : 0 < least = least_positive in
        (omega arith, ap (λ z. gap z (f (p + least))) (all p low) ∙ ap (gap d) (all (p + least) (omega (arith, low))) ∙ none)

    here : value_at (canonical_of f p n) (repeat_start (canonical_of f p n)) ≡ f start
    here = canonical_values (repeat_start (canonical_of f p n)) ∙ ap f begins

    form : IsForm (canonical_of f p n)
    form = record {
      period_positive = least_positive;
      period_fits = omega (arith, long);
      rising = record { rises = λ j k w. le_trans (le_is (canonical_values j)) (le_trans (up.rises j k w) (le_is (sym (canonical_values k)))) };
      tail = λ h. ⊎_elim
          (λ e. flat Never refl refl (λ k w. never_le (le_trans (le_is (sym e ∙ here)) (up.rises start k w))))
          (λ e. flat Early refl refl (λ k w. early_all f start least start jump up least_positive start_repeats (omega arith) (sym here ∙ e) k))
          h;
    }

    period : (g : Form) → IsForm g → HasValues g (value_at (canonical_of f p n)) → least ≤ g.period
    period g is same = least_is (repeat_start g) g.period g.step is.period_positive (form_repeats f g is (λ k. same k ∙ canonical_values k))

    size : (g : Form) → IsForm g → HasValues g (value_at (canonical_of f p n)) → g.period ≡ least → size_of (canonical_of f p n) ≤ size_of g
    size g is same e =
        let begin : start ≤ repeat_start g = start_is (repeat_start g) g.step (repeats_is e refl (form_repeats f g is (λ k. same k ∙ canonical_values k))) in
        let fits : g.period ≤ size_of g = is.period_fits in
        omega (arith, long)

-- ---- one canonical form

form_ext : (a b : Form) → a.values ≡ b.values → a.period ≡ b.period → a.step ≡ b.step → a ≡ b
form_ext a b e g h = λ i. record { values = e i; period = g i; step = h i }

-- equal functions have equal canonical forms
pub one_canonical : (f g : Form) → IsCanonical f → IsCanonical g → ((k : ℕ) → value_at f k ≡ value_at g k) → f ≡ g
one_canonical f g cf cg same =
    let p1 : f.period ≤ g.period = cf.least_period g cg.form (λ k. sym (same k)) in
    let p2 : g.period ≤ f.period = cg.least_period f cf.form same in
    let pe : f.period ≡ g.period = omega arith in
    let s1 : size_of f ≤ size_of g = cf.least_size g cg.form (λ k. sym (same k)) (sym pe) in
    let s2 : size_of g ≤ size_of f = cg.least_size f cf.form same pe in
    let se : size_of f ≡ size_of g = omega arith in
    let start : repeat_start f ≡ repeat_start g = omega arith in
    let values : f.values ≡ g.values = same_lists f.values g.values se (λ k w. sym (value_in f k w) ∙ same k ∙ value_in g k (omega arith)) in
    form_ext f g values pe (steps pe start (value_at f (repeat_start f)) refl) where
      steps : f.period ≡ g.period → repeat_start f ≡ repeat_start g → (d : Date) → value_at f (repeat_start f) ≡ d → f.step ≡ g.step
      steps pe start d e =
          let af : Repeats (value_at f) (repeat_start f) f.period f.step = value_repeats f cf.form.period_positive cf.form.period_fits in
          let ag : Repeats (value_at g) (repeat_start g) g.period g.step = value_repeats g cg.form.period_positive cg.form.period_fits in
          let eg : value_at g (repeat_start g) ≡ d = ap (value_at g) (sym start) ∙ sym (same (repeat_start f)) ∙ e in
          let next : move f.step d ≡ move g.step d =
          ap (move f.step) (sym e) ∙ sym (af.at (repeat_start f) (omega arith)) ∙ same (repeat_start f + f.period)
          ∙ ap (value_at g) (let u : repeat_start f + f.period ≡ repeat_start g + g.period = omega arith in u)
          ∙ ag.at (repeat_start g) (omega arith) ∙ ap (move g.step) eg in
          by_value d e eg next where
            by_value : (d : Date) → value_at f (repeat_start f) ≡ d → value_at g (repeat_start g) ≡ d → move f.step d ≡ move g.step d → f.step ≡ g.step
            by_value Early e eg next = (cf.form.tail (inr e)).1 ∙ sym (cg.form.tail (inr eg)).1
            by_value (At v) e eg next = let h : v +ℤ f.step ≡ v +ℤ g.step = at_inj _ _ next in omega (arith, ints)
            by_value Never e eg next = (cf.form.tail (inl e)).1 ∙ sym (cg.form.tail (inl eg)).1

-- ---- constant functions

pub constant_is : (d : Date) → move (pos 0) d ≡ d → IsCanonical (record { values = d ∷ []; period = 1; step = pos 0 }) × HasValues (record { values = d ∷ []; period = 1; step = pos 0 }) (λ _. d)
constant_is d e = (
  record {
    form = form;
    least_period = λ g is _. is.period_positive;
    least_size = λ g is _ _. let h : g.period ≤ size_of g = is.period_fits in let p : 0 < g.period = is.period_positive in omega arith;
  },
  values,
) where
  values : HasValues (record { values = d ∷ []; period = 1; step = pos 0 }) (λ _. d)
  values = form_values (λ _. d) 0 1 (pos 0) (omega arith) (record { at = λ k w. sym e })

  form : IsForm (record { values = d ∷ []; period = 1; step = pos 0 })
  form = record { period_positive = omega arith; period_fits = omega arith; rising = record { rises = λ j k w. le_is (values j ∙ sym (values k)) }; tail = λ _. (refl, refl) }
