-- A settled form of a part of a net, told of the whole net by rows that transitions share.
use Rattle.std.proofs.Common.{ℕ, leb, ◌+◌, ◌-◌, ◌*◌, ◌<◌, ◌≤◌, ◌≡◌, Bool, true, false, cond, List, [], ◌∷◌, ◌++◌, Vec, map, length, get_or, replicate}
use Rattle.std.proofs.Common.{refl, sym, ap, subst, ◌∙◌, arith, ⊎_elim, length-append}
use Rattle.std.specs.declared.alloc.Global.{Global}
use Rattle.std.specs.Prelude.{ℤ, pos, ◌*ℤ◌}
use Rattle.std.proofs.lemmas.Bool.{cases_lt, cases_Bool}
use Rattle.std.proofs.lemmas.List.{get_or_append_left, get_or_default, get_or_past, get_or-map, get_or-replicate, length-map, length-replicate, map-append}
use Rattle.std.proofs.Math.Seq.{get_or-append_seam}
use Rattle.dioid.specs.declared.dates.Date.{Date}
use Rattle.dioid.specs.declared.dates.Date.TheVariants.{Early}
use Rattle.dioid.specs.Dates.{move}
use Rattle.teg_net.specs.Limits.{most_transitions}
use Rattle.settled_laws.specs.teg_model.DateBounds.{IsDateWithin, greatest_least_date}
use Rattle.settled_laws.specs.SettledForms.{SettledForm, settled_length, row_of, row_date, step_of_form, periods_past, settled_date, HasSizes}
use Rattle.settled_forms.specs.Stored.{IsStored, stored_form}
use Rattle.settled_forms.specs.KeptForms.{IsFormKept}
use Rattle.settled_forms.specs.Spread.{is_marked, IsSpreadOut}

all_early : (n i : ℕ) → get_or (replicate n Early) i Early ≡ Early
all_early n i =
    ⊎_elim
    (λ (l : i < n). get_or-replicate n i Early Early l)
    (λ (l : n ≤ i). get_or_past (replicate n Early) i Early (omega (arith, l, length-replicate n Early)))
    (cases_lt i n)

-- forms with the same number and period, row and step tell the same dates
same_date : (f g : SettledForm) (t u k : ℕ) → g.after ≡ f.after → g.period ≡ f.period → row_of g t ≡ row_of f u → step_of_form g t ≡ step_of_form f u → settled_date g t k ≡ settled_date f u k
same_date f g t u k a p r s = rw (a, p, r, s) refl

-- a row without dates tells none
early_row : (g : SettledForm) (t k n : ℕ) → row_of g t ≡ replicate n Early → row_date g t k ≡ Early
early_row g t k n e = ap (λ r. get_or r (k - 1) Early) e ∙ all_early n (k - 1)

early_date : (g : SettledForm) (t k n : ℕ) → row_of g t ≡ replicate n Early → settled_date g t k ≡ Early
early_date g t k n e =
    ⊎_elim
    (λ (b : leb k (settled_length g) ≡ true). rw b (early_row g t k n e))
    (λ (b : leb k (settled_length g) ≡ false). rw b (ap (move (pos (periods_past g k) *ℤ step_of_form g t)) (early_row g t (k - periods_past g k * g.period) n e)))
    (cases_Bool (leb k (settled_length g)))

module _ (count : ℕ) (marks : List Bool) (new : List ℕ) (f g : SettledForm) (h : IsSpreadOut marks new f g) where
  length_same : settled_length g ≡ settled_length f
  length_same = omega (arith, h.after, h.period)

  row_on : (t : ℕ) → t < length new → is_marked marks t ≡ true → row_of g t ≡ row_of f (get_or new t 0)
  row_on t l e = h.rows t l ∙ ap (λ b. cond b (row_of f (get_or new t 0)) (replicate (settled_length f) Early)) e

  row_off : (t : ℕ) → t < length new → is_marked marks t ≡ false → row_of g t ≡ replicate (settled_length f) Early
  row_off t l e = h.rows t l ∙ ap (λ b. cond b (row_of f (get_or new t 0)) (replicate (settled_length f) Early)) e

  step_on : (t : ℕ) → t < length new → is_marked marks t ≡ true → step_of_form g t ≡ step_of_form f (get_or new t 0)
  step_on t l e = h.steps t l ∙ ap (λ b. cond b (step_of_form f (get_or new t 0)) (pos 0)) e

  pub spread_sizes : HasSizes count f → ((t : ℕ) → t < length new → is_marked marks t ≡ true → get_or new t 0 < count) → HasSizes (length new) g
  spread_sizes s known = record {
    at_least_one = omega (arith, h.period, s.at_least_one);
    rows_are = h.rows_count;
    steps_are = h.steps_count;
    full = λ t d l.
        let in' : t < length new = omega (arith, l, h.rows_count) in
        rw (get_or_default g.rows t d [] l)
        (⊎_elim
        (λ (e : is_marked marks t ≡ true).
        let full = s.full (get_or new t 0) [] (omega (arith, known t in' e, s.rows_are)) in
        ap length (row_on t in' e) ∙ (full ∙ sym length_same))
        (λ (e : is_marked marks t ≡ false). ap length (row_off t in' e) ∙ (length-replicate (settled_length f) Early ∙ sym length_same))
        (cases_Bool (is_marked marks t)));
  }

  pub spread_kept : IsFormKept f → length new ≤ most_transitions → ((t : ℕ) → t < length new → is_marked marks t ≡ true → get_or new t 0 < length f.rows) → count ≡ length f.rows → IsFormKept g
  spread_kept kept few known is = record {
    sizes = subst (λ n. HasSizes n g) (sym h.rows_count) (spread_sizes (subst (λ n. HasSizes n f) (sym is) kept.sizes) (λ t l e. omega (arith, known t l e, is)));
    few = omega (arith, h.rows_count, few);
    short = omega (arith, length_same, kept.short);
    within = λ t k l o m.
        let in' : t < length new = omega (arith, l, h.rows_count) in
        ⊎_elim
        (λ (e : is_marked marks t ≡ true).
        subst (IsDateWithin greatest_least_date) (sym (same_date f g t (get_or new t 0) k h.after h.period (row_on t in' e) (step_on t in' e))) (kept.within (get_or new t 0) k (known t in' e) o m))
        (λ (e : is_marked marks t ≡ false). subst (IsDateWithin greatest_least_date) (sym (early_date g t k (settled_length f) (row_off t in' e))) tt)
        (cases_Bool (is_marked marks t));
  }

-- rows with one more, without dates, and of each transition the number of its row
module _ (after period : ℕ) (rows : List (List Date)) (steps : List ℤ) (own owned : List ℕ) (marks : List Bool) (new : List ℕ) (h : IsStored after period rows steps own)
    (known : (t : ℕ) → t < length new → is_marked marks t ≡ true → get_or new t 0 < length own) (count : length owned ≡ length new)
    (each : (t : ℕ) → t < length new → get_or owned t 0 ≡ cond (is_marked marks t) (get_or own (get_or new t 0) 0) (length rows)) where
  abbrev early : List Date
  early = replicate (after + period) Early

  abbrev row : List (List Date) → ℕ → List Date
  row rs i = get_or rs i []

  abbrev step : List ℤ → ℕ → ℤ
  step ss i = get_or ss i (pos 0)

  owned_on : (t : ℕ) → t < length new → is_marked marks t ≡ true → get_or owned t 0 ≡ get_or own (get_or new t 0) 0
  owned_on t l e = each t l ∙ ap (λ b. cond b (get_or own (get_or new t 0) 0) (length rows)) e

  owned_off : (t : ℕ) → t < length new → is_marked marks t ≡ false → get_or owned t 0 ≡ length rows
  owned_off t l e = each t l ∙ ap (λ b. cond b (get_or own (get_or new t 0) 0) (length rows)) e

  is_row : (t : ℕ) → t < length new → is_marked marks t ≡ true → get_or own (get_or new t 0) 0 < length rows
  is_row t l e = h.rows_in (get_or new t 0) 0 (known t l e)

  pub stored_spread : IsSpreadOut marks new (stored_form after period rows steps own) (stored_form after period (rows ++ early ∷ []) (steps ++ pos 0 ∷ []) owned)
  stored_spread = record {
    after = refl;
    period = refl;
    rows_count = length-map owned (row (rows ++ early ∷ [])) ∙ count;
    steps_count = length-map owned (step (steps ++ pos 0 ∷ [])) ∙ count;
    rows = λ t l.
        let more = row (rows ++ early ∷ []) in
        let first : get_or (map more owned) t [] ≡ more (get_or owned t 0) = get_or-map more owned t 0 [] (omega (arith, l, count)) in
        ⊎_elim
        (λ (e : is_marked marks t ≡ true).
        let u : ℕ = get_or new t 0 in
        let there : get_or (map (row rows) own) u [] ≡ row rows (get_or own u 0) = get_or-map (row rows) own u 0 [] (known t l e) in
        first ∙ (ap more (owned_on t l e) ∙ (get_or_append_left rows (early ∷ []) [] (get_or own u 0) (is_row t l e)
        ∙ (sym there ∙ sym (ap (λ b. cond b (get_or (map (row rows) own) u []) early) e)))))
        (λ (e : is_marked marks t ≡ false).
        first ∙ (ap more (owned_off t l e) ∙ (get_or-append_seam rows early [] [] ∙ sym (ap (λ b. cond b (get_or (map (row rows) own) (get_or new t 0) []) early) e))))
        (cases_Bool (is_marked marks t));
    steps = λ t l.
        let more = step (steps ++ pos 0 ∷ []) in
        let first : get_or (map more owned) t (pos 0) ≡ more (get_or owned t 0) = get_or-map more owned t 0 (pos 0) (omega (arith, l, count)) in
        ⊎_elim
        (λ (e : is_marked marks t ≡ true).
        let u : ℕ = get_or new t 0 in
        let there : get_or (map (step steps) own) u (pos 0) ≡ step steps (get_or own u 0) = get_or-map (step steps) own u 0 (pos 0) (known t l e) in
        first ∙ (ap more (owned_on t l e) ∙ (get_or_append_left steps (pos 0 ∷ []) (pos 0) (get_or own u 0)
        (omega (arith, is_row t l e, h.steps_count)) ∙ (sym there ∙ sym (ap (λ b. cond b (get_or (map (step steps) own) u (pos 0)) (pos 0)) e)))))
        (λ (e : is_marked marks t ≡ false).
        first ∙ (ap more (owned_off t l e ∙ sym h.steps_count)
        ∙ (get_or-append_seam steps (pos 0) [] (pos 0) ∙ sym (ap (λ b. cond b (get_or (map (step steps) own) (get_or new t 0) (pos 0)) (pos 0)) e))))
        (cases_Bool (is_marked marks t));
  }

  pub stored_more : length new ≤ most_transitions → IsStored after period (rows ++ early ∷ []) (steps ++ pos 0 ∷ []) owned
  stored_more few = record {
    kept = spread_kept (length own) marks new (stored_form after period rows steps own) (stored_form after period (rows ++ early ∷ []) (steps ++ pos 0 ∷ []) owned) stored_spread
        h.kept few (λ t l e. omega (arith, known t l e, length-map own (row rows))) (sym (length-map own (row rows)));
    rows_in = λ t d l.
        let in' : t < length new = omega (arith, l, count) in
        let long = length-append rows (early ∷ []) in
        rw (get_or_default owned t d 0 l)
        (⊎_elim
        (λ (e : is_marked marks t ≡ true). omega (arith, owned_on t in' e, is_row t in' e, long))
        (λ (e : is_marked marks t ≡ false). omega (arith, owned_off t in' e, long))
        (cases_Bool (is_marked marks t)));
    steps_count = omega (arith, length-append rows (early ∷ []), length-append steps (pos 0 ∷ []), h.steps_count);
  }

-- the same of rows in memory
pub spread_stored : (after period : ℕ) (rows : List (Vec Date Global)) (more : Vec Date Global) (steps : List ℤ) (own owned : List ℕ) (marks : List Bool) (new : List ℕ) (s : SettledForm) (other : ℕ)
    → IsStored after period (map (λ r. r.items) rows) steps own → stored_form after period (map (λ r. r.items) rows) steps own ≡ s → length new ≤ most_transitions
    → ((t : ℕ) → t < length new → is_marked marks t ≡ true → get_or new t 0 < length s.rows) → more.items ≡ replicate (after + period) Early → other ≡ length rows → length owned ≡ length new
    → ((t : ℕ) → t < length new → get_or owned t 0 ≡ cond (is_marked marks t) (get_or own (get_or new t 0) 0) other)
    → IsStored after period (map (λ r. r.items) (rows ++ more ∷ [])) (steps ++ pos 0 ∷ []) owned
    × IsSpreadOut marks new s (stored_form after period (map (λ r. r.items) (rows ++ more ∷ [])) (steps ++ pos 0 ∷ []) owned)
spread_stored after period rows more steps own owned marks new s other h is few known none there count each =
    let items : List (List Date) = map (λ r. r.items) rows in
    let longer : items ++ replicate (after + period) Early ∷ [] ≡ map (λ r. r.items) (rows ++ more ∷ []) =
    ap (λ d. items ++ d ∷ []) (sym none) ∙ sym (map-append (λ (r : Vec Date Global). r.items) rows (more ∷ [])) in
    let in' : (t : ℕ) → t < length new → is_marked marks t ≡ true → get_or new t 0 < length own =
    λ t l e. omega (arith, known t l e, ap (λ a. length a.rows) is, length-map own (λ i. get_or items i [])) in
    let own_by : (t : ℕ) → t < length new → get_or owned t 0 ≡ cond (is_marked marks t) (get_or own (get_or new t 0) 0) (length items) =
    λ t l. each t l ∙ ap (λ n. cond (is_marked marks t) (get_or own (get_or new t 0) 0) n) (there ∙ sym (length-map rows (λ r. r.items))) in (
      subst (λ rs. IsStored after period rs (steps ++ pos 0 ∷ []) owned) longer (stored_more after period items steps own owned marks new h in' count own_by few),
      subst (λ rs. IsSpreadOut marks new s (stored_form after period rs (steps ++ pos 0 ∷ []) owned)) longer
          (subst (λ a. IsSpreadOut marks new a (stored_form after period (items ++ replicate (after + period) Early ∷ [])
          (steps ++ pos 0 ∷ []) owned)) is (stored_spread after period items steps own owned marks new h in' count own_by)),
    )
