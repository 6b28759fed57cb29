-- The values of an entry, from the places between its transitions.
use Rattle.std.proofs.Common.{ℕ, ℤ, zero, suc, pos, negsuc, ◌+◌, ◌-◌, ◌*◌, ◌<◌, ◌≤◌, ◌≡◌, ◌⊎◌, inr, List, [], ◌∷◌, ◌++◌, true, false, eqb, cond, ◌&&◌, length, get_or, refl, sym, ap, subst, ◌∙◌, arith, below_more, ⊎_elim}
use Rattle.std.specs.Prelude.{◌≤ℤ◌, ◌+ℤ◌, Result, Err}
use Rattle.std.specs.Int.RustNames.{unsigned_abs}
use Rattle.std.proofs.lemmas.Int.{ints}
use Rattle.std.proofs.lemmas.Bool.{cases_lt}
use Rattle.std.proofs.lemmas.List.{length_push, get_or_append_left, get_or_push, get_or_default, get_or_past}
use Rattle.std.proofs.lemmas.List.Elements.{All-push}
use Rattle.series_ops.specs.dioid.declared.dates.Date.{Date}
use Rattle.series_ops.specs.dioid.declared.dates.Date.TheVariants.{Early, At, Never}
use Rattle.series_ops.specs.dioid.Dates.{later_of, move}
use Rattle.series_ops.specs.dioid.DateOrder.{Le}
use Rattle.series_ops.proofs.dioid_proofs.AtMost.{le_trans, le_antisym, le_early, early_le, le_later_left, le_later_right, later_le}
use Rattle.series_ops.proofs.dioid_proofs.Moves.{move_zero}
use Rattle.series_ops.proofs.dioid_proofs.DateOrder.{later_either}
use Rattle.series_ops.specs.series_laws.Periodic.{Rising, times}
use Rattle.series_ops.specs.series_laws.SeriesForms.{Form, form_with, size_of, repeat_start, value_at, monomial_at, HasValues, IsCanonical}
use Rattle.series_ops.proofs.series_laws_proofs.FormValues.{value_in, value_placed, value_repeats}
use Rattle.series_form.specs.SeriesAnswers.{AnswersOf, IsFirstGreatValue, IsGreatStep, IsGreatIn}
use Rattle.series_form.specs.declared.forms.SeriesRefused.{SeriesRefused}
use Rattle.series_form.specs.declared.forms.SeriesRefused.TheVariants.{TooLong, TooGreat, OutOfMemory}
use Rattle.series_form.specs.SeriesLimits.{greatest_value}
use Rattle.series_ops.specs.Gains.{gain_of}
use Rattle.teg_net.specs.declared.entries.PlaceId.{PlaceId}
use Rattle.teg_net.specs.declared.entries.Place.{Place}
use Rattle.teg_net.specs.Limits.{greatest_hold, most_place_tokens}
use Rattle.teg_net.specs.Nets.{NetLists, IsNet}
use Rattle.teg_net.specs.Circuits.{place_at, no_place}
use Rattle.teg_settle.specs.periodic_laws.Equations.{entry_of_place, entry_at}
use Rattle.net_matrices.specs.PlacesBetween.{IsEntryOf, IsBetween, AreBetween, IsLatestOf, AreTokensUpTo, AreValuesOf, listed}
use Rattle.net_matrices.proofs.Entries.{monomial_before, monomial_from, le_entry, entry_le}

-- ---- the places between two transitions

pub between_none : (net : NetLists) (to from : ℕ) → AreBetween net to from 0 []
between_none net to from = record { each = λ i d l. absurd (omega (arith, l)); all = λ q l b. absurd (omega (arith, l)) }

pub between_more : (net : NetLists) (to from n : ℕ) (ids : List PlaceId) → AreBetween net to from n ids → IsBetween net to from (record { index = n }) → AreBetween net to from (n + 1) (ids ++ record { index = n } ∷ [])
between_more net to from n ids h is =
    let new : PlaceId = record { index = n } in
    record {
      each = All-push (IsBetween net to from) ids new h.each is;
      all = λ q l b.
          ⊎_elim
          (λ (w : q < n).
          let a = h.all q w b in
          (a.0, a.1, omega (arith, a.2, length_push ids new), get_or_append_left ids (new ∷ []) a.1 a.0 a.2 ∙ a.3, a.4))
          (λ (w : n ≤ q).
          let here : n ≡ q = omega (arith, l, w) in
          (length ids, new, omega (arith, length_push ids new), get_or_push ids new new (length ids) refl, here))
          (cases_lt q n);
    }

pub between_same : (net : NetLists) (to from n : ℕ) (ids : List PlaceId) → AreBetween net to from n ids → (IsBetween net to from (record { index = n }) → ⊥) → AreBetween net to from (n + 1) ids
between_same net to from n ids h none = record {
  each = h.each;
  all = λ q l b.
      ⊎_elim
      (λ (w : q < n). h.all q w b)
      (λ (w : n ≤ q). let here : q ≡ n = omega (arith, l, w) in absurd (none (subst (λ (z : ℕ). IsBetween net to from (record { index = z })) here b)))
      (cases_lt q n);
}

-- ---- the latest of them at a shift

pub latest_none : (net : NetLists) (ids : List PlaceId) (k : ℕ) → IsLatestOf net ids k 0 Early
latest_none net ids k = record { asked = λ r l m. absurd (omega (arith, l)); least = λ c h. early_le c }

pub latest_more : (net : NetLists) (ids : List PlaceId) (k n : ℕ) (d : Date) → IsLatestOf net ids k n d → (listed net ids n).tokens ≤ k
    → IsLatestOf net ids k (n + 1) (later_of d (At (pos (listed net ids n).hold)))
latest_more net ids k n d h few = record {
  asked = λ r l m. ⊎_elim
      (λ (w : r < n). le_trans (h.asked r w m) (le_later_left d (At (pos (listed net ids n).hold))))
      (λ (w : n ≤ r).
      let here : n ≡ r = omega (arith, l, w) in
      subst (λ (z : ℕ). Le (At (pos (listed net ids z).hold)) (later_of d (At (pos (listed net ids n).hold)))) here (le_later_right d (At (pos (listed net ids n).hold))))
      (cases_lt r n);
  least = λ c a. later_le (h.least c (λ r l m. a r (omega (arith, l)) m)) (a n (omega arith) few);
}

pub latest_same : (net : NetLists) (ids : List PlaceId) (k n : ℕ) (d : Date) → IsLatestOf net ids k n d → k < (listed net ids n).tokens → IsLatestOf net ids k (n + 1) d
latest_same net ids k n d h many = record {
  asked = λ r l m. ⊎_elim
      (λ (w : r < n). h.asked r w m)
      (λ (w : n ≤ r).
      let here : r ≡ n = omega (arith, l, w) in
      let more : (listed net ids n).tokens ≤ k = subst (λ (z : ℕ). (listed net ids z).tokens ≤ k) here m in
      absurd (omega (arith, more, many)))
      (cases_lt r n);
  least = λ c a. h.least c (λ r l m. a r (omega (arith, l)) m);
}

-- ---- the most tokens

pub tokens_none : (net : NetLists) (ids : List PlaceId) → AreTokensUpTo net ids 0 0
tokens_none net ids = record { each = λ r l. absurd (omega (arith, l)); few = omega arith }

pub tokens_more : (net : NetLists) (ids : List PlaceId) (n most more : ℕ) → AreTokensUpTo net ids n most → most ≤ more → (listed net ids n).tokens ≤ more → more ≤ most_place_tokens
    → AreTokensUpTo net ids (n + 1) more
tokens_more net ids n most more h up here few = record {
  each = below_more (λ r. (listed net ids r).tokens ≤ more) n (λ r l. let low = h.each r l in omega (arith, low, up)) here;
  few = few;
}

-- ---- the entry, by its places

-- the first n values of the entry
pub record AreListed (net : NetLists) (to from n : ℕ) (values : List Date) : Type 0 where
  pub long : length values ≡ n
  pub each : (k : ℕ) → k < n → get_or values k Early ≡ entry_at net.places to from k

pub listed_none : (net : NetLists) (to from : ℕ) → AreListed net to from 0 []
listed_none net to from = record { long = refl; each = λ k l. absurd (omega (arith, l)) }

module _ (net : NetLists) (to from : ℕ) (ids : List PlaceId) (are : AreBetween net to from (length net.places) ids) where
  -- a place of the net between the two is in the list
  place_listed : (q : ℕ) (d : Place) → q < length net.places → (get_or net.places q d).to.index ≡ to → (get_or net.places q d).from.index ≡ from
      → (r : ℕ) × (r < length ids) × (listed net ids r ≡ get_or net.places q d)
  place_listed q d l e f =
      let id : PlaceId = record { index = q } in
      let same : place_at net id ≡ get_or net.places q d = get_or_default net.places q no_place d l in
      let is : IsBetween net to from id = record { in_range = l; enters = ap (λ (p : Place). p.to.index) same ∙ e; leaves = ap (λ (p : Place). p.from.index) same ∙ f } in
      let a = are.all q l is in
      let none : PlaceId = record { index = 0 } in
      let there : get_or ids a.0 none ≡ a.1 = get_or_default ids a.0 none a.1 a.2 ∙ a.3 in
      let num : (get_or ids a.0 none).index ≡ q = ap (λ (p : PlaceId). p.index) there ∙ a.4 in
      (a.0, a.2, ap (λ (z : ℕ). get_or net.places z no_place) num ∙ same)

  -- what the list gives at a shift is the entry there
  pub latest_is : (k : ℕ) (d : Date) → IsLatestOf net ids k (length ids) d → d ≡ entry_at net.places to from k
  latest_is k d h = le_antisym
      (h.least (entry_at net.places to from k)
      (λ r l m.
      let b : IsBetween net to from (get_or ids r (record { index = 0 })) = are.each r (record { index = 0 }) l in
      le_entry net.places to from k (get_or ids r (record { index = 0 })).index no_place b.in_range b.enters b.leaves m))
      (entry_le net.places to from k d (λ q p l e f m.
      let a = place_listed q p l e f in
      let few : (listed net ids a.0).tokens ≤ k = rw a.2 m in
      rw a.2 at (h.asked a.0 a.1 few)))

  -- from the most tokens on it stays
  stays : (most : ℕ) → AreTokensUpTo net ids (length ids) most → (k : ℕ) → most ≤ k → entry_at net.places to from k ≡ entry_at net.places to from most
  stays most up k w =
      let low : (q : ℕ) (p : Place) → q < length net.places → (get_or net.places q p).to.index ≡ to → (get_or net.places q p).from.index ≡ from → (get_or net.places q p).tokens ≤ most =
      λ q p l e f. (let a = place_listed q p l e f in rw a.2 at (up.each a.0 a.1)) in
      le_antisym
      (entry_le net.places to from k (entry_at net.places to from most) (λ q p l e f m. le_entry net.places to from most q p l e f (low q p l e f)))
      (entry_le net.places to from most (entry_at net.places to from k) (λ q p l e f m. le_entry net.places to from k q p l e f (let few = low q p l e f in omega (arith, few, w))))

  -- one value more
  pub listed_more : (n : ℕ) (values : List Date) (d : Date) → AreListed net to from n values → IsLatestOf net ids n (length ids) d → AreListed net to from (n + 1) (values ++ d ∷ [])
  listed_more n values d h is =
      let long = h.long in
      record {
        long = omega (arith, length_push values d, long);
        each = below_more (λ k. get_or (values ++ d ∷ []) k Early ≡ entry_at net.places to from k) n
            (λ k l. get_or_append_left values (d ∷ []) Early k (omega (arith, l, long)) ∙ h.each k l)
            (get_or_push values d Early n long ∙ latest_is n d is);
      }

  values_told : (most : ℕ) → AreTokensUpTo net ids (length ids) most → (values : List Date) → length values ≡ most + 1
      → ((k : ℕ) → k < length values → get_or values k Early ≡ entry_at net.places to from k) → AreValuesOf net to from values
  values_told most up values long each = record {
    some = omega (arith, long);
    few = let few = up.few in omega (arith, few, long);
    are = λ k. ⊎_elim
        (λ (l : k < length values). value_in (form_with values 1 (pos 0)) k l ∙ each k l)
        (λ (l : length values ≤ k). held k l)
        (cases_lt k (length values));
    last = λ k w. stays most up k (omega (arith, w, long)) ∙ ap (entry_at net.places to from) (let e : most ≡ length values - 1 = omega (arith, long) in e);
  } where
    no_step : (m : ℕ) → times m (pos 0) ≡ pos 0
    no_step zero = refl
    no_step (suc m) = let e : times m (pos 0) ≡ pos 0 = no_step m in omega (arith, ints)

    held : (k : ℕ) → length values ≤ k → value_at (form_with values 1 (pos 0)) k ≡ entry_at net.places to from k
    held k l =
        let f : Form = form_with values 1 (pos 0) in
        let m : ℕ = k - (length values - 1) in
        let one : m * 1 ≡ m = omega arith in
        let placed : value_at f k ≡ move (times m (pos 0)) (get_or values ((length values - 1) + 0) Early) =
        value_placed f (omega arith) (omega (arith, long)) m 0 k (omega arith) (omega (arith, one, l, long)) in
        let at : (length values - 1) + 0 ≡ most = omega (arith, long) in
        placed
        ∙ (ap (λ (z : ℤ). move z (get_or values ((length values - 1) + 0) Early)) (no_step m)
        ∙ (move_zero (get_or values ((length values - 1) + 0) Early)
        ∙ (ap (λ (z : ℕ). get_or values z Early) at ∙ (each most (omega (arith, long)) ∙ sym (stays most up k (omega (arith, l, long)))))))

  pub values_are : (most : ℕ) → AreTokensUpTo net ids (length ids) most → (values : List Date) → AreListed net to from (most + 1) values → AreValuesOf net to from values
  values_are most up values h = values_told most up values h.long (λ k l. h.each k (let long = h.long in omega (arith, l, long)))

-- ---- no number of the entry is too great

module _ (net : NetLists) (ok : IsNet net) (to from : ℕ) where
  entry_high : (k : ℕ) → Le (entry_at net.places to from k) (At (pos greatest_hold))
  entry_high k = entry_le net.places to from k (At (pos greatest_hold)) (λ q p l e f m.
      let low = (ok.each_place q p l).hold_in in
      record { holds = omega (arith, ints, low) })

  -- no number below 0
  abbrev IsCounted : Date → Type 0
  IsCounted Early = Unit {0}
  IsCounted (At s) = pos 0 ≤ℤ s
  IsCounted Never = Unit {0}

  later_counted : (a b : Date) → IsCounted a → IsCounted b → IsCounted (later_of a b)
  later_counted a b ca cb = ⊎_elim
      (λ (e : later_of a b ≡ a). subst (λ (d : Date). IsCounted d) (sym e) ca)
      (λ (e : later_of a b ≡ b). subst (λ (d : Date). IsCounted d) (sym e) cb)
      (later_either a b)

  monomial_counted : (p : Place) (k : ℕ) → IsCounted (monomial_at p.tokens (pos p.hold) k)
  monomial_counted p k = ⊎_elim
      (λ (l : k < p.tokens). subst (λ (d : Date). IsCounted d) (sym (monomial_before p.tokens (pos p.hold) k l)) tt)
      (λ (l : p.tokens ≤ k). subst (λ (d : Date). IsCounted d) (sym (monomial_from p.tokens (pos p.hold) k l)) (let z : pos 0 ≤ℤ pos p.hold = omega (arith, ints) in z))
      (cases_lt k p.tokens)

  place_counted : (p : Place) (i j k : ℕ) → IsCounted (entry_of_place p i j k)
  place_counted p i j k = elim (eqb p.to.index i && eqb p.from.index j) as (λ b. IsCounted (cond b (monomial_at p.tokens (pos p.hold) k) Early)) [
    | true ↦ monomial_counted p k
    | false ↦ tt
  ]

  entry_counted : (ps : List Place) (i j k : ℕ) → IsCounted (entry_at ps i j k)
  entry_counted [] i j k = tt
  entry_counted (p ∷ ps) i j k = later_counted (entry_of_place p i j k) (entry_at ps i j k) (place_counted p i j k) (entry_counted ps i j k)

  number_small : (d : Date) (v : ℤ) → d ≡ At v → Le d (At (pos greatest_hold)) → IsCounted d → greatest_value < unsigned_abs v → ⊥
  number_small d (pos n) e high low great =
      let up = (subst (λ (x : Date). Le x (At (pos greatest_hold))) e high).holds in
      let m : greatest_value < n = great in
      omega (arith, ints, up, m)
  number_small d (negsuc n) e high low great =
      let z : pos 0 ≤ℤ negsuc n = subst (λ (x : Date). IsCounted x) e low in
      omega (arith, ints, z)

  entry_rises : (j k : ℕ) → j ≤ k → Le (entry_at net.places to from j) (entry_at net.places to from k)
  entry_rises j k w = entry_le net.places to from j (entry_at net.places to from k) (λ q p l e f m. le_entry net.places to from k q p l e f (omega (arith, m, w)))

  module _ (values : List Date) (are : AreValuesOf net to from values) where
    abbrev list_form : Form
    list_form = form_with values 1 (pos 0)

    pub list_rises : Rising (value_at list_form)
    list_rises =
        let same : value_at list_form ≡ entry_at net.places to from = λ i k. are.are k i in
        subst (λ (z : ℕ → Date). Rising z) (sym same) (record { rises = entry_rises })

    module _ (f : Form) (is : IsCanonical f) (has : HasValues f (value_at list_form)) where
      value_is : (k : ℕ) → value_at f k ≡ entry_at net.places to from k
      value_is k = has k ∙ are.are k

      no_step_by : (d : Date) (k : ℕ) → repeat_start f ≤ k → value_at f k ≡ d → Le d (At (pos greatest_hold)) → d ≡ move f.step d → f.step ≡ pos 0
      no_step_by Early k l e high same =
          let up : Le (value_at f (repeat_start f)) (value_at f k) = is.form.rising.rises (repeat_start f) k l in
          let early : value_at f (repeat_start f) ≡ Early = le_early (subst (λ (x : Date). Le (value_at f (repeat_start f)) x) e up) in
          (is.form.tail (inr early)).1
      no_step_by (At s) k l e high same = let n : s ≡ s +ℤ f.step = cc in omega (arith, ints, n)
      no_step_by Never k l e high same = absurd high.holds

      no_step : f.step ≡ pos 0
      no_step =
          let k : ℕ = repeat_start f + length values in
          let again : value_at f (k + f.period) ≡ move f.step (value_at f k) = (value_repeats f is.form.period_positive is.form.period_fits).at k (omega arith) in
          let here : value_at f k ≡ entry_at net.places to from (length values - 1) = value_is k ∙ are.last k (omega arith) in
          let there : value_at f (k + f.period) ≡ entry_at net.places to from (length values - 1) = value_is (k + f.period) ∙ are.last (k + f.period) (omega arith) in
          no_step_by (entry_at net.places to from (length values - 1)) k (omega arith) here (entry_high (length values - 1))
          (sym there ∙ (again ∙ ap (move f.step) here))

      first_small : (v : ℤ) → IsFirstGreatValue f v → ⊥
      first_small v h = ⊎_elim
          (λ (l : h.place < size_of f).
          let d : entry_at net.places to from h.place ≡ At v = sym (value_is h.place) ∙ (value_in f h.place l ∙ h.value) in
          number_small (entry_at net.places to from h.place) v d (entry_high h.place) (entry_counted net.places to from h.place) h.great)
          (λ (l : size_of f ≤ h.place). let e : Early ≡ At v = sym (get_or_past f.values h.place Early l) ∙ h.value in absurd cc)
          (cases_lt h.place (size_of f))

      step_small : (v : ℤ) → IsGreatStep f v → ⊥
      step_small v h =
          let none : pos 0 ≡ v = sym no_step ∙ h.value in
          let great : greatest_value < unsigned_abs (pos 0) = subst (λ (z : ℤ). greatest_value < unsigned_abs z) (sym none) h.great in
          let zero' : greatest_value < 0 = great in
          omega (arith, zero')

      number_of : (v : ℤ) → IsFirstGreatValue f v ⊎ IsGreatStep f v → ⊥
      number_of v h = ⊎_elim (λ a. first_small v a) (λ a. step_small v a) h

    none_great : (v : ℤ) → IsGreatIn (λ r. HasValues r (value_at list_form)) v → ⊥
    none_great v h = number_of h.form h.canonical h.values v h.number

    -- so a refusal is one for want of memory
    only_memory : (why : SeriesRefused) → AnswersOf (λ r. HasValues r (value_at list_form)) (length values) (length values) (Err why) → why ≡ OutOfMemory
    only_memory (TooLong n) h = absurd (let long = h.0 in let few = are.few in omega (arith, long, few))
    only_memory (TooGreat v) h = absurd (none_great v h.1)
    only_memory OutOfMemory h = refl

    pub refused_for_memory : (xs : List Date) → xs ≡ values → (r : Result Form SeriesRefused) (why : SeriesRefused) → r ≡ Err why
        → AnswersOf (λ s. HasValues s (value_at (form_with xs 1 (pos 0)))) (length xs) (length xs) r → why ≡ OutOfMemory
    refused_for_memory xs same r why is h =
        let here : AnswersOf (λ s. HasValues s (value_at (form_with xs 1 (pos 0)))) (length xs) (length xs) (Err why) =
        subst (λ (q : Result Form SeriesRefused). AnswersOf (λ s. HasValues s (value_at (form_with xs 1 (pos 0)))) (length xs) (length xs) q) is h in
        only_memory why (subst (λ (l : List Date). AnswersOf (λ s. HasValues s (value_at (form_with l 1 (pos 0)))) (length l) (length l) (Err why)) same here)

    pub entry_told : (f : Form) → IsCanonical f → HasValues f (value_at list_form) → IsEntryOf net to from (gain_of f)
    entry_told f is has = record { is = is; values = λ k. has k ∙ are.are k }
