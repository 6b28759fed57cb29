-- The greatest sums with a function from where a stride of it serves on: by its core, with the other function times the star
-- of the stride.
use Rattle.std.proofs.Common.{◌≡◌, refl, ap, arith, ℕ, ℤ, zero, suc, ◌+◌, ◌*◌, ◌-◌, ◌≤◌, ◌<◌, sym, ◌∙◌, ⊎_elim}
use Rattle.std.proofs.Common.{true, false, cond, ltb, Bool, List, [], ◌∷◌, ◌++◌, length, get_or, subst}
use Rattle.std.specs.Int.RustNames.{unsigned_abs}
use Rattle.std.proofs.lemmas.Bool.{cases_lt}
use Rattle.std.proofs.lemmas.Bool.Decides.{nat_tests}
use Rattle.std.proofs.lemmas.List.{get_or_push, get_or_append_left}
use Rattle.std.proofs.Math.ListN.{get_or-eq_default}
use Rattle.dioid.specs.declared.dates.Date.{Date}
use Rattle.dioid.specs.declared.dates.Date.TheVariants.{Early, At, Never}
use Rattle.dioid.specs.Dates.{later_of, date_product, move}
use Rattle.dioid.specs.DateOrder.{Le}
use Rattle.dioid.specs.Proved.DateLaws.{times_later}
use Rattle.dioid.proofs.AtMost.{le_is, le_trans, le_antisym, le_refl, early_le, le_later_left, le_later_right, later_le, product_le}
use Rattle.dioid.proofs.Moves.{product_move_left, product_move_right}
use Rattle.series_laws.proofs.Repeating.{by_steps}
use Rattle.series_ops.specs.Splits.{greatest_from, split_of, product_from, places_to}
use Rattle.series_ops.specs.Strides.{Gains, IsCoreAt, IsStarSums, star_sum_at}
use Rattle.series_ops.specs.CoreSums.{IsCoreSums}
use Rattle.series_ops.specs.declared.splits.Span.{Span}
use Rattle.series_ops.specs.declared.strides.Stride.{Stride}
use Rattle.series_ops.specs.Pieces.{window}
use Rattle.series_ops.specs.ListFunctions.{value_listed}
use Rattle.series_laws.specs.SeriesForms.{Form, value_at}
use Rattle.series_laws.specs.Product.{product_at}
use Rattle.series_form.specs.NumberBounds.{IsMagnitudeUpTo}
use Rattle.series_form.specs.SeriesLimits.{greatest_value, greatest_value_far_ahead, greatest_listed}
use Rattle.series_form.proofs.DateNumbers.{abs_sum}
use Rattle.series_form.proofs.Finished.{up_to_more}
use Rattle.series_form.proofs.PointwiseTables.{later_up_to}
use Rattle.series_ops.proofs.SplitLaws.{le_greatest_from, greatest_from_le, product_parted}
use Rattle.series_ops.proofs.StrideLaws.{core_begins, core_le}

is_below : (j n : ℕ) → j < n → ltb j n ≡ true
is_below j n h = grind (arith, nat_tests)

not_below : (j n : ℕ) → n ≤ j → ltb j n ≡ false
not_below j n h = grind (arith, nat_tests)

module _ (s t v c : ℕ → Date) (p n m q k : ℕ) (x : ℤ) (pos_n : 0 < n) (gains : Gains s p n x) (core : (i : ℕ) → IsCoreAt s p n x i (c i)) (past : (i : ℕ) → p + q ≤ i → c i ≡ Early)
    (star : IsStarSums t v n x m) (w : k < m) where
  star_begun : (j : ℕ) → j < m → j < n → v j ≡ t j
  star_begun j a b = let e : ltb j n ≡ true = is_below j n b in star j a ∙ ap (λ (z : Bool). cond z (t j) (later_of (t j) (move x (v (j - n))))) e

  star_later : (j : ℕ) → j < m → n ≤ j → v j ≡ later_of (t j) (move x (v (j - n)))
  star_later j a b = let e : ltb j n ≡ false = not_below j n b in star j a ∙ ap (λ (z : Bool). cond z (t j) (later_of (t j) (move x (v (j - n))))) e

  abbrev by_core : Date
  by_core = greatest_from (split_of c v k) p (places_to p q k)

  -- the sums with the core
  in_core : (i : ℕ) → p ≤ i → i ≤ k → Le (date_product (c i) (v (k - i))) by_core
  in_core i a b = ⊎_elim
      (λ low. let here : p + (i - p) ≡ i = omega arith in
      le_trans (le_is (ap (split_of c v k) (sym here))) (le_greatest_from (split_of c v k) p (places_to p q k) (i - p) (omega arith)))
      (λ high. le_trans (le_is (ap (λ (z : Date). date_product z (v (k - i))) (past i high))) (early_le by_core))
      (cases_lt i (p + q))

  own_in_core : (i : ℕ) → p ≤ i → i ≤ k → c i ≡ s i → Le (date_product (s i) (v (k - i))) by_core
  own_in_core i a b e = le_trans (le_is (ap (λ (z : Date). date_product z (v (k - i))) (sym e))) (in_core i a b)

  -- a move goes over from one factor to the other
  moved_over : (i : ℕ) → date_product (move x (s i)) (v (k - (i + n))) ≡ date_product (s i) (move x (v (k - i - n)))
  moved_over i =
      let here : k - (i + n) ≡ k - i - n = omega arith in
      product_move_left x (s i) (v (k - (i + n))) ∙ sym (product_move_right x (s i) (v (k - (i + n)))) ∙ ap (λ (z : ℕ). date_product (s i) (move x (v z))) here

  -- each sum is at most one with the core
  all_in_core : (i : ℕ) → p ≤ i → i ≤ k → Le (date_product (s i) (v (k - i))) by_core
  all_in_core i a = by_steps (λ (z : ℕ). z ≤ k → Le (date_product (s z) (v (k - z))) by_core) p n pos_n
      (λ z b u h. own_in_core z b h (core_begins s p n z x (c z) u (core z)))
      (λ z b before h. ⊎_elim
      (λ own. own_in_core (z + n) (omega arith) h own)
      (λ out.
      let back : z + n - n ≡ z = omega arith in
      le_trans (le_is (ap (λ (d : Date). date_product d (v (k - (z + n)))) (out.0.moved ∙ ap (λ (j : ℕ). move x (s j)) back) ∙ moved_over z))
      (le_trans (product_le (le_refl (s z)) (le_trans (le_later_right (t (k - z)) (move x (v (k - z - n)))) (le_is (sym (star_later (k - z) (omega arith) (omega arith))))))
      (before (omega arith))))
      (core (z + n)))
      i a

  star_over : (j : ℕ) → j < m → Le (t j) (v j)
  star_over j u = ⊎_elim
      (λ low. le_is (sym (star_begun j u low)))
      (λ high. le_trans (le_later_left (t j) (move x (v (j - n)))) (le_is (sym (star_later j u high))))
      (cases_lt j n)

  -- and a date above each sum with t is above each sum with v
  all_within : (d : Date) → ((i : ℕ) → p ≤ i → i ≤ k → Le (date_product (s i) (t (k - i))) d) → (r i : ℕ) → k ≤ i + r → p ≤ i → i ≤ k → Le (date_product (s i) (v (k - i))) d
  all_within d h zero i e a b = le_trans (le_is (ap (date_product (s i)) (star_begun (k - i) (omega arith) (omega arith)))) (h i a b)
  all_within d h (suc r) i e a b = ⊎_elim
      (λ low. le_trans (le_is (ap (date_product (s i)) (star_begun (k - i) (omega arith) low))) (h i a b))
      (λ high. le_trans (le_is (ap (date_product (s i)) (star_later (k - i) (omega arith) high)))
      (le_trans (le_is (times_later (s i) (t (k - i)) (move x (v (k - i - n))))) (later_le (h i a b)
      (le_trans (le_is (sym (moved_over i))) (le_trans (product_le (gains.at i a) (le_refl (v (k - (i + n))))) (all_within d h r (i + n) (omega arith) (omega arith) (omega arith)))))))
      (cases_lt (k - i) n)

  -- the greatest sums whose first part is at least p
  pub core_sums : by_core ≡ product_from s t p k
  core_sums = le_antisym
      (greatest_from_le (split_of c v k) p (places_to p q k) (product_from s t p k) (λ j u.
      le_trans (product_le (core_le s p n (p + j) x (c (p + j)) (core (p + j))) (le_refl (v (k - (p + j)))))
      (all_within (product_from s t p k) whole k (p + j) (omega arith) (omega arith) (omega arith))))
      (greatest_from_le (split_of s t k) p (suc k - p) by_core (λ j u.
      le_trans (product_le (le_refl (s (p + j))) (star_over (k - (p + j)) (omega arith))) (all_in_core (p + j) (omega arith) (omega arith)))) where
        whole : (i : ℕ) → p ≤ i → i ≤ k → Le (date_product (s i) (t (k - i))) (product_from s t p k)
        whole i a b = let here : p + (i - p) ≡ i = omega arith in
            le_trans (le_is (ap (split_of s t k) (sym here))) (le_greatest_from (split_of s t k) p (suc k - p) (i - p) (omega arith))

-- ---- the list times the star

-- one value more
pub star_sums_pushed : (t : ℕ → Date) (l q : List Date) (n m : ℕ) (x : ℤ) (d : Date) → 0 < n → length l ≡ m → q ≡ l ++ d ∷ [] → d ≡ star_sum_at t (value_listed l) n x m
    → IsStarSums t (value_listed l) n x m → IsStarSums t (value_listed q) n x (m + 1)
star_sums_pushed t l q n m x d pos_n size e last h = subst (λ (z : List Date). IsStarSums t (value_listed z) n x (m + 1)) (sym e) (λ k w. ⊎_elim
    (λ low. get_or_append_left l (d ∷ []) Early k (omega arith) ∙ h k low ∙ same k (omega arith))
    (λ high.
    let here : m ≡ k = omega arith in
    let end : length l ≡ k = omega arith in
    get_or_push l d Early k end ∙ last ∙ ap (star_sum_at t (value_listed l) n x) here ∙ same k (omega arith))
    (cases_lt k m)) where
      same : (k : ℕ) → k ≤ length l → star_sum_at t (value_listed l) n x k ≡ star_sum_at t (value_listed (l ++ d ∷ [])) n x k
      same k w = ⊎_elim
          (λ few. let e : ltb k n ≡ true = grind (arith, nat_tests) in rw e refl)
          (λ many.
          let e : ltb k n ≡ false = grind (arith, nat_tests) in
          let g : get_or l (k - n) Early ≡ get_or (l ++ d ∷ []) (k - n) Early = sym (get_or_append_left l (d ∷ []) Early (k - n) (omega arith)) in
          rw e (ap (λ (z : Date). later_of (t k) (move x z)) g))
          (cases_lt k n)

moved_up_to : (m : ℕ) (x : ℤ) (d : Date) → unsigned_abs x ≤ greatest_value → IsMagnitudeUpTo m d → IsMagnitudeUpTo (m + greatest_value) (move x d)
moved_up_to m x Early h k = tt
moved_up_to m x (At t) h k = abs_sum t x m greatest_value k h
moved_up_to m x Never h k = tt

module _ (t v : ℕ → Date) (n : ℕ) (x : ℤ) (pos_n : 0 < n) (step : unsigned_abs x ≤ greatest_value) (low : (k : ℕ) → IsMagnitudeUpTo greatest_value_far_ahead (t k)) where
  by_place : (k : ℕ) → (n ≤ k → IsMagnitudeUpTo (greatest_value_far_ahead + k * greatest_value) (move x (v (k - n))))
      → IsMagnitudeUpTo (greatest_value_far_ahead + k * greatest_value) (star_sum_at t v n x k)
  by_place k back = ⊎_elim
      (λ few. let e : ltb k n ≡ true = grind (arith, nat_tests) in rw e own)
      (λ many.
      let e : ltb k n ≡ false = grind (arith, nat_tests) in
      rw e (later_up_to (greatest_value_far_ahead + k * greatest_value) (t k) (move x (v (k - n))) own (back many)))
      (cases_lt k n) where
        own : IsMagnitudeUpTo (greatest_value_far_ahead + k * greatest_value) (t k)
        own = up_to_more greatest_value_far_ahead (greatest_value_far_ahead + k * greatest_value) (t k) (omega arith) (low k)

  climbs : (m c k : ℕ) → k ≤ c → k ≤ m → IsStarSums t v n x m → IsMagnitudeUpTo (greatest_value_far_ahead + k * greatest_value) (star_sum_at t v n x k)
  climbs m zero k a w h = by_place k (λ many. absurd (omega arith))
  climbs m (suc c) k a w h = by_place k (λ many.
      up_to_more (greatest_value_far_ahead + (k - n) * greatest_value + greatest_value) (greatest_value_far_ahead + k * greatest_value) (move x (v (k - n))) (omega arith)
      (moved_up_to (greatest_value_far_ahead + (k - n) * greatest_value) x (v (k - n)) step
      (subst (λ (z : Date). IsMagnitudeUpTo (greatest_value_far_ahead + (k - n) * greatest_value) z) (sym (h (k - n) (omega arith))) (climbs m c (k - n) (omega arith) (omega arith) h))))

  -- the next value of a list that is short enough
  pub star_sum_up_to : (m : ℕ) → m ≤ 60001 → IsStarSums t v n x m → IsMagnitudeUpTo greatest_listed (star_sum_at t v n x m)
  star_sum_up_to m short h = up_to_more (greatest_value_far_ahead + m * greatest_value) greatest_listed (star_sum_at t v n x m) (omega arith) (climbs m m m (omega arith) (omega arith) h)

-- ---- all sums

module _ (f : Form) (stride : Stride) (core list by_star : List Date) (below others : Span) (head rest : List Date)
    (h : IsCoreSums f stride core list by_star below others head rest) (k : ℕ) (w : k < length list) where
  abbrev own : ℕ → Date
  own = split_of (value_at f) (value_listed list) k

  abbrev cored : ℕ → Date
  cored = split_of (value_listed core) (value_listed list) k

  begins : (i : ℕ) → i < stride.from → own i ≡ cored i
  begins i u =
      let some : 0 < stride.shifts = h.is_core.is_stride.shifts in
      ap (λ (z : Date). date_product z (value_listed list (k - i))) (sym (core_begins (value_at f) stride.from stride.shifts i stride.gain (value_listed core i) (omega arith) (h.is_core.at i)))

  -- before the stride serves
  head_is : window (value_listed core) (value_listed list) below.from below.count k ≡ greatest_from own 0 (places_to 0 stride.from k)
  head_is =
      let all : below.from + below.count ≡ stride.from = h.begun in
      le_antisym
      (greatest_from_le cored below.from (places_to below.from below.count k) (greatest_from own 0 (places_to 0 stride.from k)) (λ j u.
      let here : 0 + (below.from + j) ≡ below.from + j = omega arith in
      le_trans (le_is (sym (begins (below.from + j) (omega arith)) ∙ ap own (sym here))) (le_greatest_from own 0 (places_to 0 stride.from k) (below.from + j) (omega arith))))
      (greatest_from_le own 0 (places_to 0 stride.from k) (greatest_from cored below.from (places_to below.from below.count k)) (λ j u.
      let here : 0 + j ≡ j = omega arith in
      le_trans (le_is (ap own here ∙ begins j (omega arith))) (⊎_elim
      (λ low. le_trans (le_is (ap (λ (z : Date). date_product z (value_listed list (k - j))) (h.early j low))) (early_le (greatest_from cored below.from (places_to below.from below.count k))))
      (λ high.
      let there : below.from + (j - below.from) ≡ j = omega arith in
      le_trans (le_is (ap cored (sym there))) (le_greatest_from cored below.from (places_to below.from below.count k) (j - below.from) (omega arith)))
      (cases_lt j below.from))))

  -- and from there on
  rest_is : window (value_listed core) (value_listed by_star) others.from others.count k ≡ product_from (value_at f) (value_listed list) stride.from k
  rest_is =
      let from : others.from ≡ stride.from = h.tail in
      let whole : others.from + others.count ≡ length core = h.turn in
      ap (λ (z : ℕ). window (value_listed core) (value_listed by_star) z others.count k) from
      ∙ core_sums (value_at f) (value_listed list) (value_listed by_star) (value_listed core) stride.from stride.shifts (length list) others.count k stride.gain
      h.is_core.is_stride.shifts h.is_core.is_stride.gains h.is_core.at (λ i u. get_or-eq_default core Early {n = i} (omega arith)) h.star w

  pub all_sums : (a b : Date) → a ≡ window (value_listed core) (value_listed list) below.from below.count k → b ≡ window (value_listed core) (value_listed by_star) others.from others.count k
      → later_of a b ≡ product_at (value_at f) (value_listed list) k
  all_sums a b ea eb =
      ap (λ (z : Date). later_of z b) (ea ∙ head_is) ∙ ap (later_of (greatest_from own 0 (places_to 0 stride.from k))) (eb ∙ rest_is)
      ∙ sym (product_parted (value_at f) (value_listed list) stride.from k)
