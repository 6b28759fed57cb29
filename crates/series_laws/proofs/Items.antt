-- A list of parts, with its long parts written as a core and steps.
use Rattle.std.proofs.Common.{◌≡◌, refl, ap, arith, ℕ, ℤ, pos, zero, suc, ◌+◌, ◌*◌, ◌-◌, ◌/◌, ◌%◌, ◌≤◌, ◌<◌, sym, ◌∙◌, subst, ⊎_elim, ◌⊎◌, inl, inr}
use Rattle.std.proofs.Common.{List, [], ◌∷◌, ◌++◌, take, drop, length, length-drop}
use Rattle.std.proofs.lemmas.Int.{ints}
use Rattle.std.proofs.lemmas.Bool.{cases_lt}
use Rattle.std.proofs.lemmas.List.{take-append-drop, length-take-le}
use Rattle.std.proofs.lemmas.Nat.{div-add-mod', mod_below}
use Rattle.std.proofs.Math.Seq.{take-add}
use Rattle.dioid.specs.Dates.{date_product, move}
use Rattle.dioid.specs.Proved.DateLaws.{times_assoc, one_times, times_one}
use Rattle.dioid.specs.declared.dates.Date.{Date}
use Rattle.dioid.specs.declared.dates.Date.TheVariants.{Early, At, Never}
use Rattle.dioid.specs.DateOrder.{Le}
use Rattle.dioid.proofs.AtMost.{le_is, le_trans}
use Rattle.dioid.proofs.Moves.{product_is_move, product_move_left, product_move_right, move_zero, move_move}
use Rattle.series_laws.specs.Periodic.{Repeats, times}
use Rattle.series_laws.proofs.Repeating.{repeats_times}
use Rattle.number_laws.proofs.Pigeons.{pigeons, difference}
use Rattle.series_laws.specs.SeriesStars.{total_of_parts, sum_of_values, ArePositive, IsStarAt}

pub times_commutes : (a b : Date) → date_product a b ≡ date_product b a
times_commutes Early Early = refl
times_commutes Early (At t) = refl
times_commutes Early Never = refl
times_commutes (At s) Early = refl
times_commutes (At s) (At t) = ap At (omega (arith, ints))
times_commutes (At s) Never = refl
times_commutes Never Early = refl
times_commutes Never (At t) = refl
times_commutes Never Never = refl

-- u (v w) is (v u) w, and v (u w)
pub turned : (u v w : Date) → date_product u (date_product v w) ≡ date_product (date_product v u) w
turned u v w = sym (times_assoc u v w) ∙ ap (λ z. date_product z w) (times_commutes u v)

pub exchanged : (u v w : Date) → date_product u (date_product v w) ≡ date_product v (date_product u w)
exchanged u v w = turned u v w ∙ times_assoc v u w

-- an item of a list of parts: a part of some length, or a step of the period
pub data Item : Type 0 where
  part : ℕ → Item
  step : Item

module _ (s : ℕ → Date) (n : ℕ) (x : ℤ) where
  abbrev pub length_of : Item → ℕ
  length_of (part c) = c
  length_of step = n

  abbrev pub worth_of : Item → Date
  worth_of (part c) = s c
  worth_of step = At x

  abbrev pub lengths : List Item → ℕ
  lengths [] = 0
  lengths (i ∷ l) = length_of i + lengths l

  abbrev pub worths : List Item → Date
  worths [] = At (pos 0)
  worths (i ∷ l) = date_product (worth_of i) (worths l)

  abbrev pub StepFree : List Item → Type 0
  StepFree [] = Unit {0}
  StepFree (part c ∷ l) = StepFree l
  StepFree (step ∷ l) = ⊥

  -- each length is from 1 to m
  abbrev pub Fit : ℕ → List Item → Type 0
  Fit m [] = Unit {0}
  Fit m (i ∷ l) = (0 < length_of i) × (length_of i ≤ m) × Fit m l

  pub lengths_append : (a b : List Item) → lengths (a ++ b) ≡ lengths a + lengths b
  lengths_append [] b = omega arith
  lengths_append (i ∷ a) b = let e : lengths (a ++ b) ≡ lengths a + lengths b = lengths_append a b in omega arith

  pub worths_append : (a b : List Item) → worths (a ++ b) ≡ date_product (worths a) (worths b)
  worths_append [] b = sym (one_times (worths b))
  worths_append (i ∷ a) b = ap (date_product (worth_of i)) (worths_append a b) ∙ sym (times_assoc (worth_of i) (worths a) (worths b))

  pub fit_first : (m : ℕ) (a b : List Item) → Fit m (a ++ b) → Fit m a
  fit_first m [] b h = tt
  fit_first m (i ∷ a) b h = (h.0, h.1, fit_first m a b h.2)

  pub fit_second : (m : ℕ) (a b : List Item) → Fit m (a ++ b) → Fit m b
  fit_second m [] b h = h
  fit_second m (i ∷ a) b h = fit_second m a b h.2

  pub fit_join : (m : ℕ) (a b : List Item) → Fit m a → Fit m b → Fit m (a ++ b)
  fit_join m [] b h k = k
  fit_join m (i ∷ a) b h k = (h.0, h.1, fit_join m a b h.2 k)

  pub free_first : (a b : List Item) → StepFree (a ++ b) → StepFree a
  free_first [] b h = tt
  free_first (part c ∷ a) b h = free_first a b h
  free_first (step ∷ a) b h = h

  pub free_second : (a b : List Item) → StepFree (a ++ b) → StepFree b
  free_second [] b h = h
  free_second (part c ∷ a) b h = free_second a b h
  free_second (step ∷ a) b h = absurd h

  pub free_join : (a b : List Item) → StepFree a → StepFree b → StepFree (a ++ b)
  free_join [] b h k = k
  free_join (part c ∷ a) b h k = free_join a b h k
  free_join (step ∷ a) b h k = h

  pub lengths_least : (m : ℕ) (l : List Item) → Fit m l → length l ≤ lengths l
  lengths_least m [] h = omega arith
  lengths_least m (i ∷ l) h = let e : length l ≤ lengths l = lengths_least m l h.2 in let u : 0 < length_of i = h.0 in omega arith

  pub lengths_most : (m : ℕ) (l : List Item) → Fit m l → lengths l ≤ length l * m
  lengths_most m [] h = omega arith
  lengths_most m (i ∷ l) h = let e : lengths l ≤ length l * m = lengths_most m l h.2 in let u : length_of i ≤ m = h.1 in omega arith

  -- a run of items whose length is a multiple of b, above 0
  pub record Run (b : ℕ) (l : List Item) : Type 0 where
    pub before : List Item
    pub run : List Item
    pub after : List Item
    pub is : l ≡ before ++ (run ++ after)
    pub number : ℕ
    pub whole : lengths run ≡ suc number * b

  run_made : (b : ℕ) (before r after l : List Item) → l ≡ before ++ (r ++ after) → (q : ℕ) → lengths r ≡ q * b → 1 ≤ lengths r → Run b l
  run_made b before r after l e zero f u = absurd (omega arith)
  run_made b before r after l e (suc q) f u = record { before = before; run = r; after = after; is = e; number = q; whole = f }

  -- among b items some run adds up to a multiple of b
  pub run_of : (b m : ℕ) (l : List Item) → 0 < b → b ≤ length l → Fit m l → Run b l
  run_of b m l pos_b many fit =
      let f : ℕ → ℕ = λ i. lengths (take i l) % b in
      let pair : (i : ℕ) × (j : ℕ) × (i < j) × (j ≤ b) × (f i ≡ f j) = pigeons b f (λ i _. mod_below (lengths (take i l)) b pos_b) in
      run_between pair.0 pair.1 pair.2 pair.3 pair.4 where
        run_between : (i j : ℕ) → i < j → j ≤ b → lengths (take i l) % b ≡ lengths (take j l) % b → Run b l
        run_between i j ij jb e =
            let w : ℕ = j - i in
            let rest : List Item = drop i l in
            let r : List Item = take w rest in
            let ji : j ≡ i + w = omega arith in
            let split : l ≡ take i l ++ (r ++ drop w rest) = sym (take-append-drop i l) ∙ ap (λ (z : List Item). take i l ++ z) (sym (take-append-drop w rest)) in
            let sums : lengths (take j l) ≡ lengths (take i l) + lengths r = ap (λ (z : ℕ). lengths (take z l)) ji ∙ ap lengths (take-add i w l) ∙ lengths_append (take i l) r in
            let d : (q : ℕ) × (lengths r ≡ q * b) = difference (lengths (take i l)) (lengths r) b pos_b (e ∙ ap (λ (z : ℕ). z % b) sums) in
            let fit_rest : Fit m (r ++ drop w rest) = fit_second m (take i l) (r ++ drop w rest) (subst (λ (z : List Item). Fit m z) split fit) in
            let least : length r ≤ lengths r = lengths_least m r (fit_first m r (drop w rest) fit_rest) in
            let room : w ≤ length rest = omega (arith, length-drop i l) in
            let wide : length r ≡ w = length-take-le w rest room in
            run_made b (take i l) r (drop w rest) l split d.0 d.1 (omega arith)

  -- ---- from items back to parts

  module _ (star : ℕ → Date) (p : ℕ) (is : (k : ℕ) → IsStarAt s k (star k)) (repeats : Repeats s p n x) where
    -- The items beside a core, of which the parts in l are done with. Steps go to the core, which stands in the tail if there are any.
    pub realised : (m : ℕ) (items : List Item) (core : ℕ) (l : List ℕ) (k : ℕ) → Fit m items → 0 < core → ArePositive l → StepFree items ⊎ (p ≤ core)
        → core + (total_of_parts l + lengths items) ≡ k → Le (date_product (s core) (date_product (sum_of_values s l) (worths items))) (star k)
    realised m [] core l k fit pos_core pos_l tail e =
        le_trans (le_is (ap (date_product (s core)) (times_one (sum_of_values s l)))) ((is k).below (core ∷ l) (pos_core, pos_l) (omega arith))
    realised m (part c ∷ items) core l k fit pos_core pos_l tail e =
        le_trans (le_is (ap (date_product (s core)) (turned (sum_of_values s l) (s c) (worths items))))
        (realised m items core (c ∷ l) k fit.2 pos_core (fit.0, pos_l) tail (omega arith))
    realised m (step ∷ items) core l k fit pos_core pos_l tail e = ⊎_elim
        (λ none. absurd none)
        (λ far. le_trans
        (le_is (ap (λ z. date_product (s core) (date_product (sum_of_values s l) z)) (product_is_move x (worths items))
        ∙ ap (date_product (s core)) (product_move_right x (sum_of_values s l) (worths items))
        ∙ product_move_right x (s core) (date_product (sum_of_values s l) (worths items))
        ∙ sym (product_move_left x (s core) (date_product (sum_of_values s l) (worths items)))
        ∙ ap (λ z. date_product z (date_product (sum_of_values s l) (worths items))) (sym (repeats.at core far))))
        (realised m items (core + n) l k fit.2 (omega arith) pos_l (inr (omega arith)) (omega arith)))
        tail

  -- ---- from parts to items

  abbrev steps : ℕ → List Item → List Item
  steps zero l = l
  steps (suc m) l = step ∷ steps m l

  steps_lengths : (m : ℕ) (l : List Item) → lengths (steps m l) ≡ m * n + lengths l
  steps_lengths zero l = omega arith
  steps_lengths (suc m) l = let e : lengths (steps m l) ≡ m * n + lengths l = steps_lengths m l in omega arith

  steps_worths : (m : ℕ) (l : List Item) → worths (steps m l) ≡ move (times m x) (worths l)
  steps_worths zero l = sym (move_zero (worths l))
  steps_worths (suc m) l = product_is_move x (worths (steps m l)) ∙ ap (move x) (steps_worths m l) ∙ move_move (times m x) x (worths l)

  steps_fit : (m w : ℕ) (l : List Item) → 0 < n → n ≤ w → Fit w l → Fit w (steps m l)
  steps_fit zero w l h k f = f
  steps_fit (suc m) w l h k f = (h, k, steps_fit m w l h k f)

  pub record Cores (p : ℕ) (l : List ℕ) : Type 0 where
    pub core : ℕ
    pub items : List Item
    pub is_positive : 0 < core
    pub low : core ≤ p + n
    pub fit : Fit (p + n) items
    pub tail : StepFree items ⊎ (p ≤ core)
    pub long : core + lengths items ≡ total_of_parts l
    pub worth : date_product (s core) (worths items) ≡ sum_of_values s l

  -- a long part: its core, and then the steps
  unrolled : (p c : ℕ) (l : List ℕ) (items : List Item) → Repeats s p n x → 0 < n → p + n < c → Fit (p + n) items
      → lengths items ≡ total_of_parts l → worths items ≡ sum_of_values s l → Cores p (c ∷ l)
  unrolled p c l items repeats pos_n far fit long worth =
      let w : ℕ = c - suc p in
      let m : ℕ = w / n in
      let r : ℕ = w % n in
      let d : m * n + r ≡ w = div-add-mod' w n in
      let low : r < n = mod_below w n pos_n in
      let core : ℕ = suc p + r in
      let whole : c ≡ core + m * n = omega arith in
      let high : s c ≡ move (times m x) (s core) = ap s whole ∙ (repeats_times m repeats).at core (omega arith) in
      record {
        core = core;
        items = steps m items;
        is_positive = omega arith;
        low = omega arith;
        fit = steps_fit m (p + n) items pos_n (omega arith) fit;
        tail = inr (omega arith);
        long = let e : lengths (steps m items) ≡ m * n + lengths items = steps_lengths m items in omega arith;
        worth = ap (date_product (s core)) (steps_worths m items) ∙ product_move_right (times m x) (s core) (worths items)
            ∙ sym (product_move_left (times m x) (s core) (worths items)) ∙ ap (λ z. date_product z (worths items)) (sym high) ∙ ap (date_product (s c)) worth;
      }

  pub cores_of : (p c : ℕ) (l : List ℕ) → Repeats s p n x → 0 < n → 0 < c → ArePositive l → Cores p (c ∷ l)
  cores_of p c [] repeats pos_n pos_c pos_l = ⊎_elim
      (λ far. unrolled p c [] [] repeats pos_n far tt refl refl)
      (λ near. record { core = c; items = []; is_positive = pos_c; low = near; fit = tt; tail = inl tt; long = refl; worth = refl })
      (cases_lt (p + n) c)
  cores_of p c (b ∷ l) repeats pos_n pos_c pos_l =
      let old : Cores p (b ∷ l) = cores_of p b l repeats pos_n pos_l.0 pos_l.1 in
      ⊎_elim
      (λ far. unrolled p c (b ∷ l) (part old.core ∷ old.items) repeats pos_n far (old.is_positive, old.low, old.fit) old.long old.worth)
      (λ near. record {
        core = old.core;
        items = part c ∷ old.items;
        is_positive = old.is_positive;
        low = old.low;
        fit = (pos_c, near, old.fit);
        tail = ⊎_elim (λ free. inl free) (λ far. inr far) old.tail;
        long = let e : old.core + lengths old.items ≡ b + total_of_parts l = old.long in omega arith;
        worth = exchanged (s old.core) (s c) (worths old.items) ∙ ap (date_product (s c)) old.worth;
      })
      (cases_lt (p + n) c)
