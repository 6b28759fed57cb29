-- The first dates from now on do not tell all that follow, and a later one is past the greatest date of a list: so no list tells them.
use Rattle.std.proofs.Common.{ℕ, max, ◌+◌, ◌-◌, ◌*◌, ◌<◌, ◌≤◌, ◌≡◌, List, Option, Some, None, true, false, leb, length, get_or, refl, sym, ap, subst, ◌∙◌, arith, inl, inr, ⊎_elim}
use Rattle.std.specs.Prelude.{IfSome, slice_index, ◌⊎◌}
use Rattle.std.proofs.lemmas.Bool.{cases_Bool, cases_lt, cases_eq}
use Rattle.teg_net.specs.declared.entries.Again.{Again}
use Rattle.teg_net.specs.declared.entries.InputList.{InputList}
use Rattle.teg_net.specs.Inputs.{moved_by, GoOnBy, IsInputDates, date_by_list, input_date, laps_past, list_date}
use Rattle.teg_net.specs.Limits.{greatest_input_date, most_input_dates}
use Rattle.teg_net.specs.Nets.{NetLists, EndsOrGoesOn}
use Rattle.run_laws.specs.declared.fired.Fired.{Fired}
use Rattle.state_laws.specs.NetsLeft.{count_in}
use Rattle.teg_state.specs.LeftLists.{AreWithinLimits, IsClear, IsFarInput, IsJoined, IsListOf, again_by_list, left_date, left_dates}

-- the last dates of the first n from now on, so many, are there and not before now
abbrev pub AreClear : NetLists → List Fired → ℕ → ℕ → ℕ → ℕ → Type 0
AreClear net run now t n many = (k : ℕ) → k ≤ n → n < k + many → IsClear now (input_date net t (count_in run t + k))

-- the first n dates from now on tell all that follow as the list goes on: its own dates are past, and those that repeat are not before now,
-- or do not move
abbrev pub TellAll : NetLists → List Fired → ℕ → InputList → Option Again → ℕ → Type 0
TellAll net run now l None n = length l.dates ≤ count_in run l.transition.index + n
TellAll net run now l (Some a) n =
    (length l.dates ≤ count_in run l.transition.index + n) × (a.every ≤ n) × ((a.gap ≡ 0) ⊎ AreClear net run now l.transition.index n a.every)

-- one of the first n dates from now on is past the greatest of a list
abbrev pub IsOneFar : NetLists → List Fired → ℕ → ℕ → ℕ → Type 0
IsOneFar net run now t n = (k : ℕ) × (1 ≤ k) × (k ≤ n) × IfSome (left_dates net run now t k) (λ d. greatest_input_date < d)

-- wherever the first dates tell all that follow, one of them is past the greatest
abbrev pub IsFarList : NetLists → List Fired → ℕ → InputList → Type 0
IsFarList net run now l = (n : ℕ) → n ≤ most_input_dates → TellAll net run now l l.again n → IsOneFar net run now l.transition.index n

-- ---- the search through the first dates

module _ (net : NetLists) (run : List Fired) (now : ℕ) (l : InputList) where
  abbrev date : ℕ → Option ℕ
  date k = input_date net l.transition.index (count_in run l.transition.index + k)

  -- the dates that are not before now are all, or the one before them is before now
  abbrev pub AreMostClear : ℕ → ℕ → Type 0
  AreMostClear count clear = (clear ≡ count) ⊎ (IsClear now (date (count - clear)) → ⊥)

  -- what the search keeps: no fewer dates tell all, and no more of the last ones are clear
  pub record IsSearched (count clear : ℕ) : Type 0 where
    pub most : AreMostClear count clear
    pub none : (n : ℕ) → n < count → TellAll net run now l l.again n → ⊥

  not_told : (o : Option Again) (count clear : ℕ) → clear ≤ count → AreMostClear count clear
      → (IsJoined o (length l.dates) (count_in run l.transition.index + count) count clear → ⊥) → TellAll net run now l o count → ⊥
  not_told None count clear few most not h = not h
  not_told (Some a) count clear few most not h =
      not (
        h.0,
        h.1,
        ⊎_elim
            (λ (e : a.gap ≡ 0). inl e)
            (λ all.
            ⊎_elim
            (λ (q : clear < a.every).
            ⊎_elim
            (λ (e : clear ≡ count). absurd (omega (arith, e, q, h.1)))
            (λ (no : IsClear now (date (count - clear)) → ⊥). absurd (no (all (count - clear) (omega arith) (omega (arith, q, few, h.1)))))
            most)
            (λ (q : a.every ≤ clear). inr q)
            (cases_lt clear a.every))
            h.2,
      )

  most_more : (count clear more d : ℕ) → AreMostClear count clear → Some d ≡ date (count + 1) → (((more ≡ 0) × (d < now)) ⊎ ((more ≡ clear + 1) × (now ≤ d))) → AreMostClear (count + 1) more
  most_more count clear more d most e either =
      ⊎_elim
      (λ (z : (more ≡ 0) × (d < now)).
      let at' : count + 1 ≡ count + 1 - more = omega (arith, z.0) in
      inr (λ c. let same : Some d ≡ Some c.0 = e ∙ ap date at' ∙ c.1 in let is : d ≡ c.0 = cc in absurd (omega (arith, is, z.1, c.2))))
      (λ (z : (more ≡ clear + 1) × (now ≤ d)).
      ⊎_elim
      (λ (q : clear ≡ count). inl (omega (arith, q, z.0)))
      (λ (no : IsClear now (date (count - clear)) → ⊥).
      let at' : count + 1 - more ≡ count - clear = omega (arith, z.0) in
      inr (λ c. no (subst (λ j. IsClear now (date j)) at' c)))
      most)
      either

  none_more : (count clear : ℕ) → IsSearched count clear → (TellAll net run now l l.again count → ⊥) → (n : ℕ) → n < count + 1 → TellAll net run now l l.again n → ⊥
  none_more count clear s not n l' h =
      ⊎_elim
      (λ (q : n < count). s.none n q h)
      (λ (q : count ≤ n). let is : n ≡ count = omega (arith, q, l') in not (subst (λ j. TellAll net run now l l.again j) is h))
      (cases_lt n count)

  searched_more : (count clear more d : ℕ) → clear ≤ count → IsSearched count clear
      → (IsJoined l.again (length l.dates) (count_in run l.transition.index + count) count clear → ⊥) → Some d ≡ date (count + 1)
      → (((more ≡ 0) × (d < now)) ⊎ ((more ≡ clear + 1) × (now ≤ d))) → IsSearched (count + 1) more
  searched_more count clear more d few s not e either = record {
    most = most_more count clear more d s.most e either;
    none = none_more count clear s (not_told l.again count clear few s.most not);
  }

  far_next : (count clear : ℕ) → clear ≤ count → IsSearched count clear
      → (IsJoined l.again (length l.dates) (count_in run l.transition.index + count) count clear → ⊥) → IfSome (left_date now (date (count + 1))) (λ d. greatest_input_date < d)
      → IsFarList net run now l
  far_next count clear few s not far = λ n small h.
      ⊎_elim
      (λ (q : n < count + 1). absurd (none_more count clear s (not_told l.again count clear few s.most not) n q h))
      (λ (q : count + 1 ≤ n). (count + 1, omega arith, q, far))
      (cases_lt n (count + 1))

-- nothing is searched yet
pub not_searched : (net : NetLists) (run : List Fired) (now : ℕ) (l : InputList) → IsSearched net run now l 0 0
not_searched net run now l = record { most = inl refl; none = λ n q h. absurd (omega (arith, q)) }

-- ---- no list tells them

-- a list that goes on has all dates
there_by : (dates : List ℕ) (a : Again) (k : ℕ) → (d : ℕ) × (list_date dates (Some a) k ≡ Some d)
there_by dates a k =
    ⊎_elim
    (λ (b : leb k (length dates) ≡ true). (get_or dates (k - 1) 0, rw b refl))
    (λ (b : leb k (length dates) ≡ false).
    let rounds : ℕ = laps_past (length dates) a.every k in
    (get_or dates (k - rounds * a.every - 1) 0 + rounds * a.gap, rw b refl))
    (cases_Bool (leb k (length dates)))

there : (net : NetLists) (l : InputList) (a : Again) (k : ℕ) → IsListOf net l → l.again ≡ Some a → (d : ℕ) × (input_date net l.transition.index k ≡ Some d)
there net l a k is e =
    let d = there_by l.dates a k in
    (d.0, ap (λ o. date_by_list o k) is.listed ∙ (ap (λ o. list_date l.dates o k) e ∙ d.1))

-- a date that now moves as it does alone is not before now
clear_by : (now gap : ℕ) (o : Option ℕ) → ((d : ℕ) × (o ≡ Some d)) → (gap ≡ 0 → ⊥) → left_date now (moved_by gap o) ≡ moved_by gap (left_date now o) → IsClear now o
clear_by now gap o d some e =
    let moved : Some (max now (d.0 + gap)) ≡ Some (max now d.0 + gap) = rw d.1 at e in
    let same : max now (d.0 + gap) ≡ max now d.0 + gap = cc in
    (d.0, d.1, omega (arith, same, some))

-- a date that is not before now is past the greatest of none where now is not
later : (now d : ℕ) (o : Option ℕ) → left_date now o ≡ Some d → now ≤ d
later now d None e = absurd (cc)
later now d (Some f) e = let same : max now f ≡ d = cc in omega (arith, same)

module _ (net : NetLists) (run : List Fired) (now : ℕ) (l m : InputList) (is : IsListOf net l) (within : AreWithinLimits m.again m.dates)
    (told : IsInputDates m (left_dates net run now l.transition.index)) where
  abbrev fired : ℕ
  fired = count_in run l.transition.index

  -- so many dates tell all: those of the list m, and at least to the end of l
  abbrev long : ℕ
  long = max (length m.dates) (length l.dates - fired)

  short : long ≤ most_input_dates
  short = omega (arith, within.few, is.rules.few)

  -- the dates of m are near
  own : (k : ℕ) → 1 ≤ k → k ≤ length m.dates → IfSome (left_dates net run now l.transition.index k) (λ d. greatest_input_date < d) → ⊥
  own k o in' far =
      let e = told.listed k o in' in
      let past : greatest_input_date < slice_index m.dates (k - 1) = rw e at far in
      let near = within.early (k - 1) 0 (omega (arith, o, in')) in
      omega (arith, past, near)

  -- a date of l is near where now is
  listed : (k : ℕ) → 1 ≤ k → fired + k ≤ length l.dates → now ≤ greatest_input_date
      → IfSome (left_dates net run now l.transition.index k) (λ d. greatest_input_date < d) → ⊥
  listed k o in' soon far =
      let e = is.dates.listed (fired + k) (omega (arith, o)) in' in
      let past : greatest_input_date < max now (slice_index l.dates (fired + k - 1)) = rw e at far in
      let near = is.rules.dates_in (fired + k - 1) 0 (omega (arith, o, in')) in
      omega (arith, past, near, soon)

  ended : m.again ≡ None → IsFarList net run now l → l.again ≡ None → ⊥
  ended mine far e =
      let all : TellAll net run now l l.again long = subst (λ o. TellAll net run now l o long) (sym e) (omega arith) in
      let one = far long short all in
      ⊎_elim
      (λ (q : length m.dates < one.0).
      let past : GoOnBy (length m.dates) None (left_dates net run now l.transition.index) = subst (λ o. GoOnBy (length m.dates) o (left_dates net run now l.transition.index)) mine told.past in
      let none = past one.0 q in
      let at' = is.dates.listed (fired + one.0) (omega (arith, one.1)) (omega (arith, q, one.2)) in
      let same : left_dates net run now l.transition.index one.0 ≡ Some (max now (slice_index l.dates (fired + one.0 - 1))) = ap (left_date now) at' in
      let both : None ≡ Some (max now (slice_index l.dates (fired + one.0 - 1))) = sym none ∙ same in
      absurd (cc))
      (λ (q : one.0 ≤ length m.dates). own one.0 one.1 q one.3)
      (cases_lt (length m.dates) one.0)

  module _ (a : Again) (mine : m.again ≡ Some a) (e : l.again ≡ Some a) where
    some : 1 ≤ a.every
    some = let r : EndsOrGoesOn l.dates (Some a) = subst (λ o. EndsOrGoesOn l.dates o) e is.rules.again in r.some

    enough : a.every ≤ length m.dates
    enough = subst (λ o. IfSome o (λ b. b.every ≤ length m.dates)) mine within.enough

    clear : (a.gap ≡ 0 → ⊥) → (k : ℕ) → k ≤ long → long < k + a.every → IsClear now (input_date net l.transition.index (fired + k))
    clear moves k in' last =
        let theirs : GoOnBy (length m.dates) (Some a) (left_dates net run now l.transition.index) = subst (λ o. GoOnBy (length m.dates) o (left_dates net run now l.transition.index)) mine told.past in
        let ours : GoOnBy (length l.dates) (Some a) (input_date net l.transition.index) = subst (λ o. GoOnBy (length l.dates) o (input_date net l.transition.index)) e is.dates.past in
        let back : k + a.every - a.every ≡ k = omega arith in
        let back2 : fired + (k + a.every) - a.every ≡ fired + k = omega arith in
        let x = theirs (k + a.every) (omega (arith, last)) in
        let y = ours (fired + (k + a.every)) (omega (arith, last)) in
        let date : ℕ → Option ℕ = input_date net l.transition.index in
        let moved : left_date now (moved_by a.gap (date (fired + k))) ≡ moved_by a.gap (left_date now (date (fired + k))) =
        sym (ap (left_date now) (y ∙ ap (λ j. moved_by a.gap (date j)) back2)) ∙ (x ∙ ap (λ j. moved_by a.gap (left_date now (date (fired + j)))) back) in
        clear_by now a.gap (date (fired + k)) (there net l a (fired + k) is e) moves moved

    goes_on : IsFarList net run now l → ⊥
    goes_on far =
        let still : (a.gap ≡ 0) ⊎ AreClear net run now l.transition.index long a.every =
        ⊎_elim (λ (z : a.gap ≡ 0). inl z) (λ (z : a.gap ≡ 0 → ⊥). inr (clear z)) (cases_eq a.gap 0) in
        let all : TellAll net run now l l.again long = subst (λ o. TellAll net run now l o long) (sym e) (omega arith, omega (arith, enough), still) in
        let one = far long short all in
        let first = told.listed 1 (omega arith) (omega (arith, some, enough)) in
        let soon = later now (slice_index m.dates 0) (input_date net l.transition.index (fired + 1)) first in
        let near = within.early 0 0 (omega (arith, some, enough)) in
        ⊎_elim
        (λ (q : length m.dates < one.0). listed one.0 one.1 (omega (arith, q, one.2)) (omega (arith, soon, near)) one.3)
        (λ (q : one.0 ≤ length m.dates). own one.0 one.1 q one.3)
        (cases_lt (length m.dates) one.0)

  no_list : IsFarList net run now l → (o : Option Again) → l.again ≡ o → m.again ≡ o → ⊥
  no_list far None e mine = ended mine far e
  no_list far (Some a) e mine = goes_on a mine e far

pub is_far : (net : NetLists) (run : List Fired) (now : ℕ) (l : InputList) → IsListOf net l → IsFarList net run now l → IsFarInput net run now l.transition.index
is_far net run now l is far = record {
  is_input = is.rules.is_input;
  no_list = λ m e within told. no_list net run now l m is within told far l.again refl (e ∙ ap again_by_list is.listed);
}

-- ---- as the code comes to them

-- one date more
pub search_more : (net : NetLists) (run : List Fired) (now : ℕ) (l : InputList) (long fired count clear more d : ℕ) → clear ≤ count → IsSearched net run now l count clear
    → long ≡ length l.dates → fired ≡ count_in run l.transition.index → (IsJoined l.again long (fired + count) count clear → ⊥)
    → Some d ≡ input_date net l.transition.index (fired + count + 1) → (((more ≡ 0) × (d < now)) ⊎ ((more ≡ clear + 1) × (now ≤ d))) → IsSearched net run now l (count + 1) more
search_more net run now l long fired count clear more d few s a b not e either =
    let at' : fired + count + 1 ≡ count_in run l.transition.index + (count + 1) = omega (arith, b) in
    searched_more net run now l count clear more d few s (rw (a, b) at not) (e ∙ ap (input_date net l.transition.index) at') either

-- the next date is far
pub far_at : (net : NetLists) (run : List Fired) (now : ℕ) (l : InputList) (long fired count clear : ℕ) → IsListOf net l → clear ≤ count → IsSearched net run now l count clear
    → long ≡ length l.dates → fired ≡ count_in run l.transition.index → (IsJoined l.again long (fired + count) count clear → ⊥)
    → IfSome (left_date now (input_date net l.transition.index (fired + count + 1))) (λ d. greatest_input_date < d) → IsFarInput net run now l.transition.index
far_at net run now l long fired count clear is few s a b not far =
    let at' : fired + count + 1 ≡ count_in run l.transition.index + (count + 1) = omega (arith, b) in
    is_far net run now l is
    (far_next net run now l count clear few s (rw (a, b) at not)
    (subst (λ j. IfSome (left_date now (input_date net l.transition.index j)) (λ d. greatest_input_date < d)) at' far))

-- all dates that a list may have are searched
pub far_end : (net : NetLists) (run : List Fired) (now : ℕ) (l : InputList) (count clear : ℕ) → IsListOf net l → most_input_dates < count → IsSearched net run now l count clear
    → IsFarInput net run now l.transition.index
far_end net run now l count clear is many s = is_far net run now l is (λ n few h. absurd (s.none n (omega (arith, few, many)) h))
