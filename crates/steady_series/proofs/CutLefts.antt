-- Before a series that goes on from shift to shift, the first values of another tell the residual, where the others are earlier than these by
-- more than it ever drops.
use Rattle.std.proofs.Common.{ℕ, ℤ, pos, zero, suc, ◌+◌, ◌-◌, ◌≤◌, ◌<◌, ◌≡◌, ◌+ℤ◌, ◌-ℤ◌, Bool, true, false, Ok, get_or, refl, sym, ap, subst, ◌∙◌, arith, ⊎_elim}
use Rattle.std.specs.Prelude.{◌≤ℤ◌}
use Rattle.std.specs.Int.{int_max}
use Rattle.std.proofs.lemmas.Int.{int_max_is, ints}
use Rattle.std.proofs.lemmas.Bool.{cases_lt}
use Rattle.std.proofs.lemmas.List.{get_or-take, length-take-le}
use Rattle.std.proofs.Math.Nat.{eq-or-lt_of_le}
use Rattle.dioid.specs.Dates.{date_left, move}
use Rattle.dioid.specs.ElementAnswers.{Answers}
use Rattle.dioid.specs.declared.dates.Date.{Date}
use Rattle.dioid.specs.declared.dates.Date.TheVariants.{Early, At, Never}
use Rattle.dioid.specs.DateOrder.{Le}
use Rattle.dioid.proofs.AtMost.{early_le, le_antisym, le_early, le_is, le_never, le_trans, never_le}
use Rattle.dioid.proofs.Moves.{at_inj, move_zero}
use Rattle.series_laws.specs.Periodic.{Repeats, Rising, times}
use Rattle.series_laws.specs.Residual.{IsLeftAt}
use Rattle.series_laws.specs.SeriesForms.{Form, HasValues, IsForm, repeat_start, size_of, value_at}
use Rattle.series_laws.specs.ProductNeeds.{residual_at, form_left}
use Rattle.series_laws.proofs.Canonical.{one_canonical}
use Rattle.series_laws.proofs.FormValues.{value_in, value_placed}
use Rattle.series_laws.proofs.Lefts.{left_is, left_mono, form_left_is, form_left_values}
use Rattle.series_laws.proofs.Repeating.{repeats_is, times_add}
use Rattle.series_laws.proofs.Sums.{form_repeats_own}
use Rattle.series_form.specs.NumberBounds.{HasSmallNumbers, IsSeries}
use Rattle.series_ops.specs.declared.gains.Gain.{Gain}
use Rattle.series_ops.specs.Gains.{gain_left, gain_of, LeftFits}
use Rattle.steady_series.specs.Cuts.{IsCut, IsDrop, IsDropTo, IsNotAbove, IsUnder, cut_form}
use Rattle.steady_series.proofs.SteadyLefts.{left_room, no_never, under_all}

-- ---- the values of a cut

no_step : (m : ℕ) → times m (pos 0) ≡ pos 0
no_step zero = refl
no_step (suc m) = let e : times m (pos 0) ≡ pos 0 = no_step m in omega (arith, ints)

pub cut_size : (f : Form) (m : ℕ) → m ≤ size_of f → size_of (cut_form f m) ≡ m
cut_size f m fits = length-take-le m f.values fits

cut_in : (f : Form) (m : ℕ) → m ≤ size_of f → (i : ℕ) → i < m → value_at (cut_form f m) i ≡ value_at f i
cut_in f m fits i within =
    let size = cut_size f m fits in
    value_in (cut_form f m) i (omega (arith, size, within)) ∙ get_or-take m f.values i Early within ∙ sym (value_in f i (omega (arith, fits, within)))

cut_past : (f : Form) (m : ℕ) → 0 < m → m ≤ size_of f → (i : ℕ) → m ≤ i → value_at (cut_form f m) i ≡ value_at f (m - 1)
cut_past f m some fits i past =
    let w = cut_form f m in
    let size = cut_size f m fits in
    let turns : ℕ = i - (m - 1) in
    let placed : value_at w i ≡ move (times turns (pos 0)) (get_or w.values (repeat_start w + 0) Early) =
    value_placed w (omega arith) (omega (arith, size, some)) turns 0 i (omega arith) (omega (arith, size, some, past)) in
    let last : repeat_start w + 0 ≡ m - 1 = omega (arith, size) in
    placed ∙ ap (λ (z : ℤ). move z (get_or w.values (repeat_start w + 0) Early)) (no_step turns) ∙ move_zero (get_or w.values (repeat_start w + 0) Early)
    ∙ ap (λ (n : ℕ). get_or w.values n Early) last ∙ get_or-take m f.values (m - 1) Early (omega (arith, some)) ∙ sym (value_in f (m - 1) (omega (arith, some, fits)))

pub cut_rises : (f : Form) (m : ℕ) → Rising (value_at f) → 0 < m → m ≤ size_of f → Rising (value_at (cut_form f m))
cut_rises f m rising some fits = record {
  rises = λ j k up. ⊎_elim
      (λ (first : j < m). ⊎_elim
      (λ (second : k < m). le_trans (le_is (cut_in f m fits j first)) (le_trans (rising.rises j k up) (le_is (sym (cut_in f m fits k second)))))
      (λ (second : m ≤ k). le_trans (le_is (cut_in f m fits j first)) (le_trans (rising.rises j (m - 1) (omega (arith, first))) (le_is (sym (cut_past f m some fits k second)))))
      (cases_lt k m))
      (λ (first : m ≤ j). le_is (cut_past f m some fits j first ∙ sym (cut_past f m some fits k (omega (arith, first, up)))))
      (cases_lt j m);
}

-- ---- the drop of all values

-- the value before one that is a number, a step on
step_back : (d : Date) (step y : ℤ) → move step d ≡ At y → (x : ℤ) × (d ≡ At x) × (y ≡ x +ℤ step)
step_back Early step y e = let c : Early ≡ At y = e in absurd cc
step_back (At x) step y e = (x, refl, at_inj _ _ (sym e))
step_back Never step y e = let c : Never ≡ At y = e in absurd cc

module _ (g : Form) (isg : IsForm g) (single : g.period ≡ 1) (drop : ℤ) (h : IsDrop g drop) where
  by_one : (k : ℕ) → size_of g ≤ k + 1 → value_at g (k + 1) ≡ move g.step (value_at g k)
  by_one k past =
      let own : Repeats (value_at g) (repeat_start g) 1 g.step = repeats_is single refl (form_repeats_own g isg) in
      own.at k (omega (arith, single, past))

  at_last : (n : ℕ) → IsDropTo g g.step (size_of g + n) drop → (k e : ℕ) (x y : ℤ) → k + e ≡ size_of g + n → value_at g k ≡ At x → value_at g (k + e) ≡ At y → (x +ℤ times e g.step) ≤ℤ (y +ℤ drop)
  at_last n old k zero x y last there here =
      let at : k + 0 ≡ k = omega arith in
      let same : y ≡ x = at_inj _ _ (sym here ∙ ap (value_at g) at ∙ there) in
      let low = h.low in
      omega (arith, ints, same, low)
  at_last n old k (suc e) x y last there here =
      let at : k + suc e ≡ (k + e) + 1 = omega arith in
      let back = step_back (value_at g (k + e)) g.step y (sym (by_one (k + e) (omega (arith, last))) ∙ ap (value_at g) (sym at) ∙ here) in
      let kept : (x +ℤ times e g.step) ≤ℤ (back.0 +ℤ drop) = old k e x back.0 (omega (arith, last)) there back.1 in
      let next = back.2 in
      omega (arith, ints, kept, next)

  drop_to : (n : ℕ) → IsDropTo g g.step (size_of g + n) drop
  drop_to zero = λ k e x y within there here. h.drops k e x y (omega (arith, within)) there here
  drop_to (suc n) = λ k e x y within there here. ⊎_elim
      (λ (last : k + e ≡ size_of g + n). at_last n (drop_to n) k e x y last there here)
      (λ (before : k + e < size_of g + n). drop_to n k e x y before there here)
      (eq-or-lt_of_le {n = k + e} {m = size_of g + n} (omega (arith, within)))

  pub drop_of_all : (k e : ℕ) (x y : ℤ) → value_at g k ≡ At x → value_at g (k + e) ≡ At y → (x +ℤ times e g.step) ≤ℤ (y +ℤ drop)
  drop_of_all k e x y there here = drop_to (k + e + 1) k e x y (omega arith) there here

-- ---- the residual

module _ (f g w : Form) (m : ℕ) (isf : IsForm f) (isg : IsForm g) (isw : IsForm w) (h : IsCut f g m) (values : HasValues w (value_at (cut_form f m))) where
  fits : m ≤ size_of f
  fits = let early = h.early in omega (arith, early)

  some : 0 < m
  some = let before = h.before in omega (arith, before)

  w_in : (i : ℕ) → i < m → value_at w i ≡ value_at f i
  w_in i within = values i ∙ cut_in f m fits i within

  w_past : (i : ℕ) → m ≤ i → value_at w i ≡ value_at f (m - 1)
  w_past i past = values i ∙ cut_past f m some fits i past

  -- the residuals at a place past the cut are no less than that at the place of the lead
  no_less : (k i : ℕ) → m ≤ i → (d a b : Date) → value_at f i ≡ d → value_at g (k + h.place) ≡ a → value_at g (k + i) ≡ b
      → Le (date_left (At (h.lead +ℤ times h.place g.step)) a) (date_left d b)
  no_less k i past Early a b ed ea eb = le_never (date_left (At (h.lead +ℤ times h.place g.step)) a)
  no_less k i past Never a b ed ea eb = absurd (no_never f isf h.tail h.is_tail i ed)
  no_less k i past (At z) Early b ed ea eb = early_le (date_left (At z) b)
  no_less k i past (At z) (At x) Early ed ea eb =
      let before = h.before in
      let c : At x ≡ Early = le_early (le_trans (le_is (sym ea)) (le_trans (isg.rising.rises (k + h.place) (k + i) (omega (arith, before, past))) (le_is eb))) in absurd cc
  no_less k i past (At z) (At x) (At y) ed ea eb =
      let before = h.before in
      let e : ℕ = i - h.place in
      let there : (k + h.place) + e ≡ k + i = omega (arith, before, past) in
      let drop : (x +ℤ times e g.step) ≤ℤ (y +ℤ h.drop) = drop_of_all g isg h.single h.drop h.is_drop (k + h.place) e x y ea (ap (value_at g) there ∙ eb) in
      let own : h.place + e ≡ i = omega (arith, before, past) in
      let steps : times i g.step ≡ times h.place g.step +ℤ times e g.step = ap (λ (n : ℕ). times n g.step) (sym own) ∙ times_add h.place e g.step in
      let low : z ≤ℤ ((h.lead -ℤ h.drop) +ℤ times i g.step) = under_all f isf h.tail h.is_tail g.step h.slow m h.early (h.lead -ℤ h.drop) h.under i z past ed in
      record { holds = omega (arith, ints, drop, steps, low) }
  no_less k i past (At z) (At x) Never ed ea eb = le_never (At (x -ℤ (h.lead +ℤ times h.place g.step)))
  no_less k i past (At z) Never b ed ea eb =
      let before = h.before in
      let never : b ≡ Never = never_le (le_trans (le_is (sym ea)) (le_trans (isg.rising.rises (k + h.place) (k + i) (omega (arith, before, past))) (le_is eb))) in
      le_trans (le_never Never) (le_is (sym (ap (date_left (At z)) never)))

  as_cut : (k : ℕ) (x : Date) → IsLeftAt (value_at w) (value_at g) k x → IsLeftAt (value_at f) (value_at g) k x
  as_cut k x left = record {
    below = λ i. ⊎_elim
        (λ (within : i < m). le_trans (left.below i) (le_is (ap (λ (z : Date). date_left z (value_at g (k + i))) (w_in i within))))
        (λ (past : m ≤ i). le_trans (left.below h.place)
        (le_trans (le_is (ap (λ (z : Date). date_left z (value_at g (k + h.place))) (w_in h.place h.before ∙ h.attained)))
        (no_less k i past (value_at f i) (value_at g (k + h.place)) (value_at g (k + i)) refl refl refl)))
        (cases_lt i m);
    greatest = λ y low. left.greatest y (λ j. ⊎_elim
        (λ (within : j < m). le_trans (low j) (le_is (sym (ap (λ (z : Date). date_left z (value_at g (k + j))) (w_in j within)))))
        (λ (past : m ≤ j). le_trans (low (m - 1))
        (le_trans (left_mono (value_at f (m - 1)) (isg.rising.rises (k + (m - 1)) (k + j) (omega (arith, past))))
        (le_is (sym (ap (λ (z : Date). date_left z (value_at g (k + j))) (w_past j past))))))
        (cases_lt j m));
  }

  residual_same : (k : ℕ) → residual_at f g k ≡ residual_at w g k
  residual_same k =
      let own = left_is f g isf isg k in
      let other = as_cut k (residual_at w g k) (left_is w g isw isg k) in
      le_antisym (other.greatest (residual_at f g k) own.below) (own.greatest (residual_at w g k) other.below)

  pub cut_same : form_left f g ≡ form_left w g
  cut_same = one_canonical (form_left f g) (form_left w g) (form_left_is f g isf isg) (form_left_is w g isw isg)
      (λ k. form_left_values f g isf isg k ∙ residual_same k ∙ sym (form_left_values w g isw isg k))

-- what the cut answers is answered of the form
pub cut_answers : (a b w : Gain) (m : ℕ) → IsCut a.series b.series m → IsSeries w.series → HasValues w.series (value_at (cut_form a.series m)) → (r : Gain)
    → Answers true (LeftFits w b) (gain_left w b) (Ok r) → Answers true (LeftFits a b) (gain_left a b) (Ok r)
cut_answers a b w m h isw values r answer =
    let isf = h.first.canonical.form in
    let same = cut_same a.series b.series w.series m isf h.second.canonical.form isw.canonical.form h values in (
      answer.0 ∙ ap gain_of (sym same),
      record { short = left_room a.series b.series isf h.single h.first.short h.second.short h.room; small = subst HasSmallNumbers (sym same) answer.1.small },
    )

-- ---- one value more

-- the greater of two numbers is no less than either
above_both : (x y more : ℤ) → more ≡ int_max x y → (x ≤ℤ more) × (y ≤ℤ more)
above_both x y more e = let most = int_max_is x y in (omega (arith, ints, most, e), omega (arith, ints, most, e))

-- the greatest lead of the first values
pub top_on : (g : Form) (step : ℤ) (count : ℕ) (top own more : ℤ) → IsUnder g step 0 count top → value_at g count ≡ At (own +ℤ times count step) → more ≡ int_max top own
    → IsUnder g step 0 (count + 1) more
top_on g step count top own more old here e =
    let up = above_both top own more e in
    let left = up.0 in
    let right = up.1 in
    λ i z begun within there. ⊎_elim
    (λ (last : i ≡ count).
    let is : z ≡ own +ℤ times count step = at_inj _ _ (sym there ∙ ap (value_at g) last ∙ here) in
    let steps : times i step ≡ times count step = ap (λ (n : ℕ). times n step) last in
    omega (arith, ints, is, steps, right))
    (λ (before : i < count). let kept = old i z begun before there in omega (arith, ints, kept, left))
    (eq-or-lt_of_le {n = i} {m = count} (omega (arith, within)))

-- the drop of the first values
pub drop_on : (g : Form) (step : ℤ) (count : ℕ) (top own drop more : ℤ) → IsUnder g step 0 (count + 1) top → IsDropTo g step count drop → value_at g count ≡ At (own +ℤ times count step)
    → more ≡ int_max drop (top -ℤ own) → IsDropTo g step (count + 1) more
drop_on g step count top own drop more under old here e =
    let up = above_both drop (top -ℤ own) more e in
    let left = up.0 in
    let right = up.1 in
    λ k d x y within there now. ⊎_elim
    (λ (last : k + d ≡ count).
    let is : y ≡ own +ℤ times count step = at_inj _ _ (sym now ∙ ap (value_at g) last ∙ here) in
    let steps : times count step ≡ times k step +ℤ times d step = ap (λ (n : ℕ). times n step) (sym last) ∙ times_add k d step in
    let high : x ≤ℤ (top +ℤ times k step) = under k x (omega arith) (omega (arith, last)) there in
    omega (arith, ints, is, steps, high, right))
    (λ (before : k + d < count). let kept = old k d x y before there now in omega (arith, ints, kept, left))
    (eq-or-lt_of_le {n = k + d} {m = count} (omega (arith, within)))

-- the drop is no less than 0
pub low_on : (drop own more : ℤ) → pos 0 ≤ℤ drop → more ≡ int_max drop own → pos 0 ≤ℤ more
low_on drop own more low e = let left = (above_both drop own more e).0 in omega (arith, ints, low, left)

-- the values of which none is above the level, with one before them
pub under_on : (f : Form) (step level other gained : ℤ) (from before : ℕ) (value : Date) (said : Bool) → IsUnder f step from (size_of f) level → before + 1 ≡ from → value_at f before ≡ value
    → gained ≡ times before step → IsNotAbove value gained other said → said ≡ false → other ≡ level → IsUnder f step before (size_of f) level
under_on f step level other gained from before value said old next here rise says denied same = λ i z begun within there. ⊎_elim
    (λ (first : before ≡ i).
    let low : (y : ℤ) → value ≡ At y → y ≤ℤ (other +ℤ gained) = subst (IsNotAbove value gained other) denied says in
    let bound = low z (sym here ∙ ap (value_at f) first ∙ there) in
    let steps : times i step ≡ times before step = ap (λ (n : ℕ). times n step) (sym first) in
    omega (arith, ints, bound, steps, rise, same))
    (λ (later : before < i). old i z (omega (arith, next, later)) within there)
    (eq-or-lt_of_le {n = before} {m = i} begun)
