-- The shortest form of a dating that has a form: it is found, and a dating that never falls has no other.
use Rattle.std.proofs.Common.{ℕ, ℤ, zero, suc, pos, ◌+◌, ◌-◌, ◌<◌, ◌≤◌, ◌≡◌, List, [], ◌∷◌, map, length, get_or, refl, sym, ap, ◌∙◌, arith, ⊎_elim, inl, inr}
use Rattle.std.specs.Prelude.{◌⊎◌}
use Rattle.std.specs.List.{range_with_len}
use Rattle.std.proofs.lemmas.Bool.{cases_lt}
use Rattle.std.proofs.lemmas.List.Elements.{All-map}
use Rattle.std.proofs.lemmas.List.FromFn.{get_or-map-range_with_len, length-map-range_with_len}
use Rattle.teg_model.specs.dioid.declared.dates.Date.{Date}
use Rattle.teg_model.specs.dioid.declared.dates.Date.TheVariants.{Early, Never}
use Rattle.teg_model.specs.dioid.Dates.{IsAtMostDate, move}
use Rattle.teg_model.proofs.dioid_proofs.DateOrder.{at_most_early, at_least_never}
use Rattle.teg_model.proofs.dioid_proofs.Moves.{same_move}
use Rattle.teg_model.proofs.DateFunctions.{Dating}
use Rattle.settled_laws.specs.SettledForms.{RepeatsAfter, IsTail, SettledForm, settled_length, row_of, row_date, step_of_form, HasSizes, StandsFor, IsShortestForm, IsSettlingLength, NeverFalls}
use Rattle.settled_laws.proofs.Repeating.{period_least, after_least}
use Rattle.settled_laws.proofs.Deciding.{RowRepeats, same_date, neat_step, neat_repeats, neat_is, all_below, decide_period}

-- ---- it is found

record HasLeastPeriod (c : ℕ) (x : Dating) (after q : ℕ) : Type 0 where
  period : ℕ
  repeats : RepeatsAfter c x after period (neat_step x after period q)
  none : (p : ℕ) (s : ℕ → ℤ) → p < period → RepeatsAfter c x after p s → ⊥

least_from : (c : ℕ) (x : Dating) (after q : ℕ) (v : ℕ → ℤ) → RepeatsAfter c x after q v → (n p : ℕ) → 1 ≤ p → p + n ≡ q
    → ((j : ℕ) (s : ℕ → ℤ) → j < p → RepeatsAfter c x after j s → ⊥) → HasLeastPeriod c x after q
least_from c x after q v known zero p one is none =
    let p_is : p ≡ q = omega arith in
    record { period = p; repeats = neat_repeats c x after p q v v known (rw p_is known); none = none }
least_from c x after q v known (suc n) p one is none =
    ⊎_elim
    (λ (yes : RepeatsAfter c x after p (neat_step x after p q)). record { period = p; repeats = yes; none = none })
    (λ (no : (u : ℕ → ℤ) → RepeatsAfter c x after p u → ⊥).
    least_from c x after q v known n (p + 1) (omega arith) (omega arith)
    (λ j s l h. ⊎_elim (λ (m : j < p). none j s m h) (λ (m : p ≤ j). let j_is : j ≡ p = omega arith in no s (rw j_is at h)) (cases_lt j p)))
    (decide_period c x after p q v one known)

record HasLeastAfter (c : ℕ) (x : Dating) (from period : ℕ) (s : ℕ → ℤ) : Type 0 where
  after : ℕ
  within : after ≤ from
  repeats : RepeatsAfter c x after period s
  first : 1 ≤ after → ((t : ℕ) → t < c → x t (after + period) ≡ move (s t) (x t after)) → ⊥

lowest : (c : ℕ) (x : Dating) (period : ℕ) (s : ℕ → ℤ) (from : ℕ) → RepeatsAfter c x from period s → HasLeastAfter c x from period s
lowest c x period s zero h = record { after = 0; within = omega arith; repeats = h; first = λ o all. absurd (omega arith) }
lowest c x period s (suc a) h =
    ⊎_elim
    (λ (all : (t : ℕ) → t < c → x t (suc a + period) ≡ move (s t) (x t (suc a))).
    let here : RepeatsAfter c x a period s = record {
      at_least_one = h.at_least_one;
      again = λ t k b l. ⊎_elim (λ (m : suc a < k). h.again t k b m) (λ (m : k ≤ suc a). let k_is : k ≡ suc a = omega arith in rw k_is (all t b)) (cases_lt (suc a) k);
    } in
    let down = lowest c x period s a here in
    record { after = down.after; within = omega (arith, down.within); repeats = down.repeats; first = down.first })
    (λ (no : (t : ℕ) × (t < c) × (x t (suc a + period) ≡ move (s t) (x t (suc a)) → ⊥)).
    record { after = suc a; within = omega arith; repeats = h; first = λ o all. no.2 (all no.0 no.1) })
    (all_below (λ t. x t (suc a + period) ≡ move (s t) (x t (suc a))) (λ t. x t (suc a + period) ≡ move (s t) (x t (suc a)) → ⊥)
    (λ t. same_date (x t (suc a + period)) (move (s t) (x t (suc a)))) c)

-- ---- its dates

made_rows : ℕ → Dating → ℕ → List (List Date)
made_rows c x long = map (λ t. map (x t) (range_with_len 1 long)) (range_with_len 0 c)

made_form : ℕ → Dating → ℕ → ℕ → (ℕ → ℤ) → SettledForm
made_form c x after period s = record { after = after; period = period; rows = made_rows c x (after + period); steps = map s (range_with_len 0 c) }

made_row : (c : ℕ) (x : Dating) (long t : ℕ) → t < c → get_or (made_rows c x long) t [] ≡ map (x t) (range_with_len 1 long)
unfolding made_rows
made_row c x long t l = get_or-map-range_with_len (λ t. map (x t) (range_with_len 1 long)) 0 c t t [] l (omega arith)

made_date : (c : ℕ) (x : Dating) (after period : ℕ) (s : ℕ → ℤ) (t k : ℕ) → t < c → 1 ≤ k → k ≤ after + period → row_date (made_form c x after period s) t k ≡ x t k
unfolding made_form
made_date c x after period s t k l o m =
    rw (made_row c x (after + period) t l)
    (get_or-map-range_with_len (x t) 1 (after + period) (k - 1) k Early (omega arith) (omega arith))

made_step : (c : ℕ) (x : Dating) (after period : ℕ) (s : ℕ → ℤ) (t : ℕ) → t < c → step_of_form (made_form c x after period s) t ≡ s t
unfolding made_form
made_step c x after period s t l = get_or-map-range_with_len s 0 c t t (pos 0) l (omega arith)

made_sizes : (c : ℕ) (x : Dating) (after period : ℕ) (s : ℕ → ℤ) → 1 ≤ period → HasSizes c (made_form c x after period s)
unfolding made_form made_rows
made_sizes c x after period s one = record {
  at_least_one = one;
  rows_are = length-map-range_with_len (λ t. map (x t) (range_with_len 1 (after + period))) 0 c;
  steps_are = length-map-range_with_len s 0 c;
  full = All-map (λ row. length row ≡ after + period) (λ t. map (x t) (range_with_len 1 (after + period))) (range_with_len 0 c)
      (λ i d l. length-map-range_with_len (x (get_or (range_with_len 0 c) i d)) 1 (after + period));
}

-- dates that are one in the first period past `after` are one ever after
pub tail_on : (f : ℕ → Date) (after period : ℕ) (s : ℤ) (d : Date) → 1 ≤ period → move s d ≡ d → RowRepeats f after period s → IsTail f after period d → (n k : ℕ) → k ≤ n → after < k → f k ≡ d
tail_on f after period s d one stays h tail zero k l m = absurd (omega arith)
tail_on f after period s d one stays h tail (suc n) k l m =
    ⊎_elim
    (λ (q : after + period < k).
    let is : (k - period) + period ≡ k = omega arith in
    sym (ap f is) ∙ (h (k - period) (omega arith) ∙ (ap (move s) (tail_on f after period s d one stays h tail n (k - period) (omega arith) (omega arith)) ∙ stays)))
    (λ (q : k ≤ after + period). tail k m q)
    (cases_lt (after + period) k)

tail_stays : (f : ℕ → Date) (after from period : ℕ) (s : ℤ) (d : Date) → 1 ≤ period → after ≤ from → move s d ≡ d → move (pos 0) d ≡ d
    → RowRepeats f after period s → IsTail f after period d → RowRepeats f from period (pos 0)
tail_stays f after from period s d one low stays stays' h tail k l =
    let all : (j : ℕ) → after < j → f j ≡ d = λ j m. tail_on f after period s d one stays h tail j j (omega arith) m in
    all (k + period) (omega arith) ∙ (sym stays' ∙ ap (move (pos 0)) (sym (all k (omega arith))))

-- the form of these dates, where a step is 0 if the dates of a period stay
made_stands : (c : ℕ) (x : Dating) (from after period : ℕ) (s : ℕ → ℤ) → after ≤ from → RepeatsAfter c x after period s
    → ((t : ℕ) → RowRepeats (x t) from period (pos 0) → s t ≡ pos 0) → StandsFor c (made_form c x after period s) x
unfolding made_form
made_stands c x from after period s low h neat =
    let still : (t : ℕ) (d : Date) → t < c → move (s t) d ≡ d → move (pos 0) d ≡ d → IsTail (x t) after period d → s t ≡ pos 0 =
    λ t d l a b tail. neat t (tail_stays (x t) after from period (s t) d h.at_least_one low a b (λ k m. h.again t k l m) tail) in
    record {
      sizes = made_sizes c x after period s h.at_least_one;
      dates = λ t k l o m. made_date c x after period s t k l o m;
      repeats = record { at_least_one = h.at_least_one; again = λ t k l m. rw (made_step c x after period s t l) (h.again t k l m) };
      still = λ t l e. made_step c x after period s t l
          ∙ ⊎_elim (λ (a : IsTail (x t) after period Never). still t Never l refl refl a) (λ (a : IsTail (x t) after period Early). still t Early l refl refl a) e;
    }

made_is_shortest : (c : ℕ) (x : Dating) (after period : ℕ) (s : ℕ → ℤ) → StandsFor c (made_form c x after period s) x
    → ((k p : ℕ) (u : ℕ → ℤ) → RepeatsAfter c x k p u → period ≤ p) → ((k p : ℕ) (u : ℕ → ℤ) → RepeatsAfter c x k p u → after ≤ k)
    → (f : SettledForm) × IsShortestForm c f x × IsSettlingLength c x (settled_length f)
unfolding made_form
made_is_shortest c x after period s stands least_p least_a = (
  made_form c x after period s,
  record { stands = stands; least_period = least_p; least_after = least_a },
  record {
    attained = (made_form c x after period s, stands, refl);
    least = λ k st. (
        let a = least_a k.after k.period (step_of_form k) st.repeats in
        let b = least_p k.after k.period (step_of_form k) st.repeats in
        omega (arith, a, b));
  },
)

pub shortest_exists : (c : ℕ) (x : Dating) (g : SettledForm) → StandsFor c g x → (f : SettledForm) × IsShortestForm c f x × IsSettlingLength c x (settled_length f)
shortest_exists c x g h =
    let one = h.repeats.at_least_one in
    let best : HasLeastPeriod c x g.after g.period =
    least_from c x g.after g.period (step_of_form g) h.repeats (g.period - 1) 1 (omega arith) (omega arith)
    (λ j s l r. absurd (let two = r.at_least_one in omega arith)) in
    let s : ℕ → ℤ = neat_step x g.after best.period g.period in
    let low : HasLeastAfter c x g.after best.period s = lowest c x best.period s g.after best.repeats in
    made_is_shortest c x low.after best.period s
    (made_stands c x g.after low.after best.period s low.within low.repeats (λ t r. neat_is x g.after best.period g.period t r))
    (period_least c x g.after best.period s best.repeats best.none)
    (after_least c x low.after best.period s low.repeats low.first)

-- ---- there is no other

abbrev Climbs : (ℕ → Date) → Type 0
Climbs f = (k : ℕ) → 1 ≤ k → IsAtMostDate (f k) (f (k + 1))

never_up : (f : ℕ → Date) → Climbs f → (j : ℕ) → 1 ≤ j → f j ≡ Never → (n k : ℕ) → k ≤ j + n → j ≤ k → f k ≡ Never
never_up f c j o e zero k l m = let is : k ≡ j = omega arith in rw is e
never_up f c j o e (suc n) k l m =
    ⊎_elim
    (λ (q : j < k).
    let is : (k - 1) + 1 ≡ k = omega arith in
    let before = never_up f c j o e n (k - 1) (omega arith) (omega arith) in
    at_least_never (f k) (rw (before, is) at (c (k - 1) (omega arith))))
    (λ (q : k ≤ j). let is : k ≡ j = omega arith in rw is e)
    (cases_lt j k)

early_down : (f : ℕ → Date) → Climbs f → (j : ℕ) → f j ≡ Early → (n k : ℕ) → 1 ≤ k → k ≤ j → j ≤ k + n → f k ≡ Early
early_down f c j e zero k o l m = let is : k ≡ j = omega arith in rw is e
early_down f c j e (suc n) k o l m =
    ⊎_elim
    (λ (q : k < j).
    let more = early_down f c j e n (k + 1) (omega arith) (omega arith) (omega arith) in
    at_most_early (f k) (rw more at (c k o)))
    (λ (q : j ≤ k). let is : k ≡ j = omega arith in rw is e)
    (cases_lt k j)

-- two steps of one row are equal, or its tail is no number
one_step : (f : ℕ → Date) → Climbs f → (after period : ℕ) (s u : ℤ) → 1 ≤ period → RowRepeats f after period s → RowRepeats f after period u
    → (s ≡ u) ⊎ (IsTail f after period Never ⊎ IsTail f after period Early)
one_step f c after period s u one a b =
    let first : ℕ = after + 1 in
    let last : ℕ = after + period in
    ⊎_elim
    (λ (e : s ≡ u). inl e)
    (λ (e : (f first ≡ Early) ⊎ (f first ≡ Never)).
    ⊎_elim
    (λ (early : f first ≡ Early).
    ⊎_elim
    (λ (q : s ≡ u). inl q)
    (λ (q : (f last ≡ Early) ⊎ (f last ≡ Never)).
    ⊎_elim
    (λ (at : f last ≡ Early). inr (inr (λ k l m. early_down f c last at last k (omega arith) m (omega arith))))
    (λ (at : f last ≡ Never).
    let next : ℕ = first + period in
    let is : f next ≡ Early = a first (omega arith) ∙ ap (move s) early in
    let no : f next ≡ Never = never_up f c last (omega arith) at 1 next (omega arith) (omega arith) in
    absurd (cc))
    q)
    (same_move s u (f last) (sym (a last (omega arith)) ∙ b last (omega arith))))
    (λ (never : f first ≡ Never). inr (inl (λ k l m. never_up f c first (omega arith) never k k (omega arith) (omega arith))))
    e)
    (same_move s u (f first) (sym (a first (omega arith)) ∙ b first (omega arith)))

same_list : {X : Type 0} (d : X) (xs ys : List X) → length xs ≡ length ys → ((i : ℕ) → i < length xs → get_or xs i d ≡ get_or ys i d) → xs ≡ ys
same_list d [] [] e h = refl
same_list d [] (y ∷ ys) e h = absurd (omega arith)
same_list d (x ∷ xs) [] e h = absurd (omega arith)
same_list d (x ∷ xs) (y ∷ ys) e h =
    let head : x ≡ y = h 0 (omega arith) in
    let tail : xs ≡ ys = same_list d xs ys (omega arith) (λ i l. h (suc i) (omega arith)) in
    rw (head, tail) refl

same_form : (f g : SettledForm) → f.after ≡ g.after → f.period ≡ g.period → f.rows ≡ g.rows → f.steps ≡ g.steps → f ≡ g
same_form f g a p r s =
    ap (λ z. record { after = z; period = f.period; rows = f.rows; steps = f.steps }) a
    ∙ (ap (λ z. record { after = g.after; period = z; rows = f.rows; steps = f.steps }) p
    ∙ (ap (λ z. record { after = g.after; period = g.period; rows = z; steps = f.steps }) r
    ∙ ap (λ z. record { after = g.after; period = g.period; rows = g.rows; steps = z }) s))

pub shortest_is_one : (c : ℕ) (x : Dating) → NeverFalls c x → (f g : SettledForm) → IsShortestForm c f x → IsShortestForm c g x → f ≡ g
shortest_is_one c x climbs f g a b =
    let up = a.least_after g.after g.period (step_of_form g) b.stands.repeats in
    let down = b.least_after f.after f.period (step_of_form f) a.stands.repeats in
    let less = a.least_period g.after g.period (step_of_form g) b.stands.repeats in
    let more = b.least_period f.after f.period (step_of_form f) a.stands.repeats in
    let after_is : f.after ≡ g.after = omega arith in
    let period_is : f.period ≡ g.period = omega arith in
    let long : settled_length f ≡ settled_length g = omega arith in
    let fs = a.stands.sizes in
    let gs = b.stands.sizes in
    let rows_are : f.rows ≡ g.rows = same_list [] f.rows g.rows (fs.rows_are ∙ sym gs.rows_are)
    (λ t l.
    let in' : t < c = omega (arith, fs.rows_are) in
    let wide : length (row_of f t) ≡ settled_length f = fs.full t [] l in
    let wide' : length (row_of g t) ≡ settled_length g = gs.full t [] (omega (arith, gs.rows_are)) in
    same_list Early (row_of f t) (row_of g t) (omega (arith, wide, wide', long))
    (λ i m.
    let back : (i + 1) - 1 ≡ i = omega arith in
    let here : row_date f t (i + 1) ≡ row_date g t (i + 1) = a.stands.dates t (i + 1) in' (omega arith) (omega (arith, wide))
    ∙ sym (b.stands.dates t (i + 1) in' (omega arith) (omega (arith, wide, long))) in
    rw back at here)) in
    let steps_are : f.steps ≡ g.steps = same_list (pos 0) f.steps g.steps (fs.steps_are ∙ sym gs.steps_are)
    (λ t l.
    let in' : t < c = omega (arith, fs.steps_are) in
    let other : RowRepeats (x t) f.after f.period (step_of_form g t) = λ k m. rw period_is (b.stands.repeats.again t k in' (omega (arith, after_is, m))) in
    ⊎_elim
    (λ (e : step_of_form f t ≡ step_of_form g t). e)
    (λ (e : IsTail (x t) f.after f.period Never ⊎ IsTail (x t) f.after f.period Early). a.stands.still t in' e ∙ sym (b.stands.still t in' (rw (after_is, period_is) at e)))
    (one_step (x t) (λ k o. climbs t k in' o) f.after f.period (step_of_form f t) (step_of_form g t) a.stands.repeats.at_least_one (λ k m. a.stands.repeats.again t k in' m) other)) in
    same_form f g after_is period_is rows_are steps_are
