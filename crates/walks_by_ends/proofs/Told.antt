-- The latest times by places are the times of walks from the input, and their form is the shortest.
use Rattle.std.proofs.Common.{ℕ, ℤ, zero, suc, pos, ◌+◌, ◌-◌, ◌*◌, ◌<◌, ◌≤◌, ◌≡◌, ◌≢◌, ◌⊎◌, inl, inr, List, [], ◌∷◌, ◌++◌, All, length, map, true, false, eqb, get_or, refl, sym, subst, ap, ◌∙◌, arith, ⊎_elim}
use Rattle.std.specs.Prelude.{Contains, ◌≤ℤ◌, slice_index_or, slice_get, IsSomeAnd, Option, Some, None}
use Rattle.std.specs.Option.{option_map_or}
use Rattle.std.specs.Int.{◌∣◌}
use Rattle.std.specs.List.{range_with_len}
use Rattle.std.proofs.lemmas.Bool.{cases_Bool, cases_eq, cases_lt}
use Rattle.std.proofs.lemmas.Bool.Decides.{nat_tests}
use Rattle.std.proofs.lemmas.List.{get_or_append_left, get_or_default, length-append}
use Rattle.std.proofs.Math.Seq.{get_or-append_seam}
use Rattle.std.proofs.lemmas.List.Elements.{All-map}
use Rattle.std.proofs.lemmas.List.FromFn.{get_or-map-range_with_len, length-map-range_with_len, map-range_with_len_more}
use Rattle.std.proofs.Math.Nat.{dvd-mul_right}
use Rattle.dioid.specs.declared.dates.Date.{Date}
use Rattle.dioid.specs.declared.dates.Date.TheVariants.{Early, At, Never}
use Rattle.dioid.specs.Dates.{IsAtMostDate, later_of, move}
use Rattle.dioid.proofs.DateOrder.{at_most_trans, later_either, later_left, later_right}
use Rattle.dioid.proofs.Moves.{move_zero}
use Rattle.teg_net.specs.declared.entries.PlaceId.{PlaceId}
use Rattle.teg_net.specs.declared.entries.Role.{Role}
use Rattle.teg_net.specs.declared.entries.Role.TheVariants.{Internal, Input, Output}
use Rattle.teg_net.specs.declared.entries.Transition.{Transition}
use Rattle.teg_net.specs.Circuits.{no_place, place_at}
use Rattle.teg_net.specs.Nets.{NetLists, IsInput}
use Rattle.teg_settle.specs.settled_laws.SettledForms.{HasSizes, IsShortestForm, IsTail, RepeatsAfter, SettledForm, StandsFor, row_date, row_of, settled_date, settled_length, step_of_form}
use Rattle.teg_settle.specs.walk_times.Transfers.{AreWalkTimes, IsTransferOf}
use Rattle.own_period_laws.specs.OwnForms.{IsBegun, IsLeastCommon, IsLeastForm, IsOwnPeriod, OwnPeriodsTellForms}
use Rattle.own_period_laws.specs.OwnPeriods.{GoesOn}
use Rattle.end_laws.specs.Ends.{AreLatestBy, AreTimesFromEnd, AreTimesFromEnds, IsInner, IsLatestBy, Leaves, WalksGoByEnds, date_by}
use Rattle.end_laws.specs.Latest.{DatesByPlacesGoOn, GoOnWithin, LatestGoesOn}
use Rattle.teg_due.specs.RowNames.{is_input, is_input_role}
use Rattle.teg_due.proofs.DueRules.{no_input}
use Rattle.walks_by_ends.specs.EndForms.{IsEndForm, end_form, times_from_end}
use Rattle.walks_by_ends.specs.LatestTimes.{AreMostSteps, AreWays, InputWays, IsEvenPast, IsMostStep, latest_form, latest_row, latest_to, walk_date, way_at, way_date}

-- 1 divides every number
one_divides : (m : ℕ) → 1 ∣ m
one_divides m = let is : 1 * m ≡ m = omega arith in subst (λ (n : ℕ). 1 ∣ n) is (dvd-mul_right 1 m)

-- the latest by so many places is none or by one of them, and none of them is later
latest_reached : (w : InputWays) (t k n : ℕ) → (latest_to w t k n ≡ Early) ⊎ ((i : ℕ) × (i < n) × (latest_to w t k n ≡ way_date w i t k))
latest_reached w t k zero = inl refl
latest_reached w t k (suc n) = ⊎_elim
    (λ (a : later_of (latest_to w t k n) (way_date w n t k) ≡ latest_to w t k n). ⊎_elim
    (λ (e : latest_to w t k n ≡ Early). inl (a ∙ e))
    (λ (h : (i : ℕ) × (i < n) × (latest_to w t k n ≡ way_date w i t k)). inr (h.0, omega (arith, h.1), a ∙ h.2))
    (latest_reached w t k n))
    (λ (b : later_of (latest_to w t k n) (way_date w n t k) ≡ way_date w n t k). inr (n, omega arith, b))
    (later_either (latest_to w t k n) (way_date w n t k))

latest_over : (w : InputWays) (t k n i : ℕ) → i < n → IsAtMostDate (way_date w i t k) (latest_to w t k n)
latest_over w t k zero i l = absurd (omega arith)
latest_over w t k (suc n) i l = ⊎_elim
    (λ (h : i < n). at_most_trans (way_date w i t k) (latest_to w t k n) (latest_to w t k (suc n)) (latest_over w t k n i h) (later_left (latest_to w t k n) (way_date w n t k)))
    (λ (h : n ≤ i). let is : i ≡ n = omega (arith, l, h) in subst (λ (j : ℕ). IsAtMostDate (way_date w j t k) (latest_to w t k (suc n))) (sym is) (later_right (latest_to w t k n) (way_date w n t k)))
    (cases_lt i n)

-- what is told to be an input is one, and what is one is told so
told_input : (net : NetLists) (t : ℕ) → is_input net t ≡ true → IsInput net t
told_input net t e = one (slice_get net.transitions t) e
  where
    role : (r : Role) → is_input_role r ≡ true → r ≡ Input
    role Internal e = cc e
    role Input e = refl
    role Output e = cc e

    one : (o : Option Transition) → option_map_or (λ x. is_input_role x.role) o false ≡ true → IsSomeAnd o (λ x. x.role ≡ Input)
    one None e = cc e
    one (Some x) e = role x.role e

input_or_none : (net : NetLists) (t : ℕ) → IsInput net t ⊎ (IsInput net t → ⊥)
input_or_none net t = ⊎_elim (λ (e : is_input net t ≡ true). inl (told_input net t e)) (λ (e : is_input net t ≡ false). inr (no_input net t e)) (cases_Bool (is_input net t))

input_true : (net : NetLists) (t : ℕ) → IsInput net t → is_input net t ≡ true
input_true net t h = ⊎_elim (λ (e : is_input net t ≡ true). e) (λ (e : is_input net t ≡ false). absurd (no_input net t e h)) (cases_Bool (is_input net t))

input_false : (net : NetLists) (t : ℕ) → (IsInput net t → ⊥) → is_input net t ≡ false
input_false net t outside = ⊎_elim (λ (e : is_input net t ≡ true). absurd (outside (told_input net t e))) (λ (e : is_input net t ≡ false). e) (cases_Bool (is_input net t))

module _ (w : InputWays) (ok : AreWays w) where
  abbrev net : NetLists
  net = w.net

  abbrev u : ℕ
  u = w.input.index

  abbrev none : PlaceId
  none = record { index = 0 }

  -- the place at an index leaves the input, and each that leaves it stands at one
  at_leaves : (i : ℕ) → i < length w.places → Leaves net u (slice_index_or w.places i none)
  at_leaves i l = (ok.leave.known i none l, ok.leave.right i none l)

  -- the place that leaves the input, by its index
  index_of : (p : PlaceId) → Leaves net u p → (i : ℕ) × (i < length w.places) × (slice_index_or w.places i none ≡ p)
  index_of p l = let c = ok.leave.all p l.0 l.1 in (c.0, c.1, get_or_default w.places c.0 none p c.1 ∙ c.2)

  z : ℕ → ℕ → ℕ → Date
  z = times_from_end w.ends

  -- the form of the end of a place
  form_of_way : (i : ℕ) → i < length w.places → IsEndForm net (way_at w i).to.index (end_form w.ends (way_at w i).to.index)
  form_of_way i l = ok.ends.each (way_at w i).to.index ((ok.rules.each_place (slice_index_or w.places i none).index no_place (ok.leave.known i none l)).to_in) (ok.kept i none l)

  ends : AreTimesFromEnds net u z
  unfolding z
  ends p l =
      let i = index_of p l in
      subst (λ (q : PlaceId). AreTimesFromEnd net (place_at net q).to.index (times_from_end w.ends (place_at net q).to.index)) i.2 (form_of_way i.0 i.1).times

  latest_at : (t k : ℕ) → IsLatestBy net u z t k (latest_to w t k (length w.places))
  unfolding z
  latest_at t k = record {
    reached = ⊎_elim
        (λ (e : latest_to w t k (length w.places) ≡ Early). inl e)
        (λ (h : (i : ℕ) × (i < length w.places) × (latest_to w t k (length w.places) ≡ way_date w i t k)). inr (slice_index_or w.places h.0 none, at_leaves h.0 h.1, h.2))
        (latest_reached w t k (length w.places));
    latest = λ p l.
        let i = index_of p l in
        subst (λ (q : PlaceId). IsAtMostDate (date_by (times_from_end w.ends) (place_at net q) t k) (latest_to w t k (length w.places))) i.2 (latest_over w t k (length w.places) i.0 i.1);
  }

  own_true : is_input net u ≡ true
  own_true = input_true net u ok.input

  inner_date : (t k : ℕ) → (IsInput net t → ⊥) → walk_date w t k ≡ latest_to w t k (length w.places)
  inner_date t k outside = let b : is_input net t ≡ false = input_false net t outside in rw b refl

  own_date : (k : ℕ) → walk_date w u k ≡ At (pos 0)
  own_date k = let b = own_true in let e : eqb u u ≡ true = grind (arith, nat_tests) in rw (b, e) refl

  other_date : (t k : ℕ) → IsInput net t → t ≢ u → walk_date w t k ≡ Early
  other_date t k is not = let b = input_true net t is in let e : eqb t u ≡ false = grind (arith, nat_tests) in rw (b, e) refl

  latest_dates : AreLatestBy net u z (walk_date w)
  latest_dates = record {
    own = λ k o. own_date k;
    others = λ t k is not o. other_date t k is not;
    inner = λ t k inner o. rw (inner_date t k inner.1) (latest_at t k);
  }

  module _ (walks : WalksGoByEnds) (latest : LatestGoesOn) (by_places : DatesByPlacesGoOn) (forms : OwnPeriodsTellForms) (steps : List ℤ) (most : AreMostSteps w steps)
      (limit after : ℕ) (even : IsEvenPast w steps limit after) where
    n : ℕ
    n = length net.transitions

    step : ℕ → ℤ
    step t = slice_index_or steps t (pos 0)

    times : AreWalkTimes net u (walk_date w)
    times = walks net ok.rules u ok.input z ends (walk_date w) latest_dates

    within : (t : ℕ) → IsInner net t → GoOnWithin net u z t even.from 1 (step t)
    unfolding z step
    within t inner p l =
        let i = index_of p l in
        let f = form_of_way i.0 i.1 in
        let on : GoesOn (date_by (times_from_end w.ends) (way_at w i.0) t) ((end_form w.ends (way_at w i.0).to.index).after + (way_at w i.0).tokens) 1 (step_of_form (end_form w.ends (way_at w i.0).to.index) t) =
        by_places (times_from_end w.ends) (way_at w i.0) t (end_form w.ends (way_at w i.0).to.index).after 1 (step_of_form (end_form w.ends (way_at w i.0).to.index) t) (f.goes_on t inner.0) in
        let begun = even.begun i.0 i.1 in
        let later : GoesOn (date_by (times_from_end w.ends) (way_at w i.0) t) even.from 1 (step_of_form (end_form w.ends (way_at w i.0).to.index) t) = λ k past. on k (omega (arith, past, begun)) in (
          step_of_form (end_form w.ends (way_at w i.0).to.index) t,
          subst (λ (q : PlaceId). GoesOn (date_by (times_from_end w.ends) (place_at net q) t) even.from 1 (step_of_form (end_form w.ends (way_at w i.0).to.index) t)) i.2 later,
          (most.each t inner.0).most inner.1 i.0 i.1,
        )

    from_there : (t : ℕ) → IsInner net t → GoesOn (walk_date w t) even.from 1 (step t)
    unfolding step
    from_there t inner =
        latest net u t z (walk_date w t) (λ k o. rw (inner_date t k inner.1) (latest_at t k)) even.from 1 (step t) (omega arith) (within t inner) even.from (omega arith)
        (λ k l m. let is : k ≡ even.from + 1 = omega (arith, l, m) in subst (λ (j : ℕ). walk_date w t (j + 1) ≡ move (step t) (walk_date w t j)) (sym is) (even.once t inner.0))

    goes_on : (t : ℕ) → t < n → GoesOn (walk_date w t) after 1 (step t)
    unfolding n step
    goes_on t l k past = ⊎_elim
        (λ (low : k ≤ even.from). even.least.again k past low t l)
        (λ (high : even.from < k). ⊎_elim
        (λ (is : IsInput net t). still_input t l is k)
        (λ (outside : IsInput net t → ⊥). from_there t (l, outside) k high)
        (input_or_none net t))
        (cases_le k even.from)
      where
        cases_le : (a b : ℕ) → (a ≤ b) ⊎ (b < a)
        cases_le a b = ⊎_elim (λ (h : b < a). inr h) (λ (h : a ≤ b). inl h) (cases_lt b a)

        still_input : (t : ℕ) → t < length net.transitions → IsInput net t → (k : ℕ) → walk_date w t (k + 1) ≡ move (slice_index_or steps t (pos 0)) (walk_date w t k)
        still_input t l is k =
            let none' : slice_index_or steps t (pos 0) ≡ pos 0 = (most.each t l).still is in
            let same : walk_date w t (k + 1) ≡ walk_date w t k = ⊎_elim
            (λ (e : t ≡ u). rw e (own_date (k + 1) ∙ sym (own_date k)))
            (λ (e : t ≢ u). other_date t (k + 1) is e ∙ sym (other_date t k is e))
            (cases_eq t u) in
            same ∙ (sym (move_zero (walk_date w t k)) ∙ ap (λ (s : ℤ). move s (walk_date w t k)) (sym none'))

    least : IsLeastForm n (walk_date w) after 1
    unfolding n step
    least = forms (length net.transitions) (walk_date w) after (λ t. 1) step
        (λ t l. record { at_least_one = omega arith; again = goes_on t l; least = λ p s o m h. absurd (omega (arith, o, m)) })
        1 after
        (record { at_least_one = omega arith; common = λ t l. one_divides 1; least = λ m h. one_divides m })
        (record { again = goes_on; first = even.least.first })

    f : SettledForm
    f = latest_form w after steps

    row_is : (t : ℕ) → t < n → row_of f t ≡ latest_row w after t
    unfolding f n
    row_is t l = get_or-map-range_with_len (latest_row w after) 0 (length net.transitions) t t [] l (omega arith)

    date_is : (t k : ℕ) → t < n → 1 ≤ k → k ≤ after + 1 → row_date f t k ≡ walk_date w t k
    unfolding f n
    date_is t k l o m =
        let is : (k - 1) + 1 ≡ k = omega (arith, o) in
        rw (row_is t l)
        (get_or-map-range_with_len (λ j. walk_date w t (j + 1)) 0 (after + 1) (k - 1) (k - 1) Early (omega (arith, o, m)) (omega arith) ∙ ap (walk_date w t) is)

    stands : StandsFor n f (walk_date w)
    unfolding f n step
    stands = record {
      sizes = record {
        at_least_one = omega arith;
        rows_are = length-map-range_with_len (latest_row w after) 0 (length net.transitions);
        steps_are = most.wide;
        full = All-map (λ row. length row ≡ after + 1) (latest_row w after) (range_with_len 0 (length net.transitions))
            (λ i d l. length-map-range_with_len (λ j. walk_date w (get_or (range_with_len 0 (length net.transitions)) i d) (j + 1)) 0 (after + 1));
      };
      dates = date_is;
      repeats = record { at_least_one = omega arith; again = λ t k l past. goes_on t l k past };
      still = λ t l tail. even.still t l (⊎_elim
          (λ (h : IsTail (walk_date w t) after 1 Never). inr (h (after + 1) (omega arith) (omega arith)))
          (λ (h : IsTail (walk_date w t) after 1 Early). inl (h (after + 1) (omega arith) (omega arith)))
          tail);
    }

    pub told_form : IsTransferOf net u (latest_form w after steps)
    unfolding f n
    told_form = (walk_date w, times, record { stands = stands; least_period = least.least_period; least_after = least.least_after })

-- ---- what the form tells, row by row

pub rows_wide : (w : InputWays) (after : ℕ) (steps : List ℤ) → length (latest_form w after steps).rows ≡ length w.net.transitions
rows_wide w after steps = length-map-range_with_len (latest_row w after) 0 (length w.net.transitions)

pub row_told : (w : InputWays) (after : ℕ) (steps : List ℤ) (t : ℕ) → t < length w.net.transitions → row_of (latest_form w after steps) t ≡ latest_row w after t
row_told w after steps t l = get_or-map-range_with_len (latest_row w after) 0 (length w.net.transitions) t t [] l (omega arith)

-- so many dates of a transition
abbrev pub dates_to : InputWays → ℕ → ℕ → List Date
dates_to w t n = map (λ k. walk_date w t (k + 1)) (range_with_len 0 n)

pub date_more : (w : InputWays) (t n : ℕ) → dates_to w t (n + 1) ≡ dates_to w t n ++ walk_date w t (n + 1) ∷ []
date_more w t n = map-range_with_len_more (λ k. walk_date w t (k + 1)) 0 n n (omega arith)

-- one step more
pub steps_more : (w : InputWays) (old : List ℤ) (x : ℤ) (n : ℕ) → length old ≡ n → ((t : ℕ) → t < n → IsMostStep w t (slice_index_or old t (pos 0))) → IsMostStep w n x
    → (length (old ++ x ∷ []) ≡ n + 1) × ((t : ℕ) → t < n + 1 → IsMostStep w t (slice_index_or (old ++ x ∷ []) t (pos 0)))
steps_more w old x n long each is = (
  omega (arith, long, length-append old (x ∷ [])),
  λ t l. ⊎_elim
      (λ (h : t < n). subst (IsMostStep w t) (sym (get_or_append_left old (x ∷ []) (pos 0) t (omega (arith, h, long)))) (each t h))
      (λ (h : n ≤ t).
      let same : t ≡ length old = omega (arith, l, h, long) in
      let here : slice_index_or (old ++ x ∷ []) t (pos 0) ≡ x = ap (λ (j : ℕ). slice_index_or (old ++ x ∷ []) j (pos 0)) same ∙ get_or-append_seam old x [] (pos 0) in
      subst (IsMostStep w t) (sym here) (subst (λ (j : ℕ). IsMostStep w j x) (omega (arith, l, h)) is))
      (cases_lt t n),
)
