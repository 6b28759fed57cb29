-- What the dates of an input list come to.
use Rattle.std.proofs.Common.{ℕ, zero, suc, ◌+◌, ◌-◌, ◌*◌, ◌/◌, ◌<◌, ◌≤◌, ◌≡◌, ◌≢◌, List, [], ◌∷◌, true, false, eqb, leb, length, get_or, Option}
use Rattle.std.proofs.Common.{Some, None, refl, sym, ap, subst, ◌∙◌, arith, ⊎_elim, ◌⊎◌, inl, inr}
use Rattle.std.specs.Prelude.{All, AllPairs, Any, IfSome, find, ◌==◌}
use Rattle.std.proofs.lemmas.Bool.{cases_Bool, cases_lt, cases_eq}
use Rattle.std.proofs.lemmas.Bool.Decides.{nat_tests}
use Rattle.std.proofs.lemmas.List.{get_or_past}
use Rattle.std.proofs.lemmas.List.Elements.{All-cons}
use Rattle.std.proofs.lemmas.Nat.{div_below}
use Rattle.std.proofs.Math.Nat.{add-div_right, mul-le-mul_left, div-le_self}
use Rattle.teg_net.specs.declared.entries.Again.{Again}
use Rattle.teg_net.specs.declared.entries.InputList.{InputList}
use Rattle.teg_net.specs.Limits.{greatest_input_date}
use Rattle.teg_net.specs.Nets.{NetLists, IsNet, IsInputOf, EndsOrGoesOn, HasListsByRule}
use Rattle.teg_net.proofs.NetRules.{lists_by_rule}
use Rattle.teg_net.specs.Inputs.{moved_by, GoOnBy, IsInputDates, IsListDate, AreInputDates, IsInputDate, laps_past, list_date_past, list_date, date_by_list, input_date}

in_list : (dates : List ℕ) (again : Option Again) (k : ℕ) → k ≤ length dates → list_date dates again k ≡ Some (get_or dates (k - 1) 0)
in_list dates again k l = let e : leb k (length dates) ≡ true = grind (arith, nat_tests) in rw e refl

past_list : (dates : List ℕ) (again : Option Again) (k : ℕ) → length dates < k → list_date dates again k ≡ list_date_past dates again k
past_list dates again k l = let e : leb k (length dates) ≡ false = grind (arith, nat_tests) in rw e refl

-- past the list, with the number of rounds
past_by : (dates : List ℕ) (a : Again) (k r : ℕ) → length dates < k → laps_past (length dates) a.every k ≡ r → list_date dates (Some a) k ≡ Some (get_or dates (k - r * a.every - 1) 0 + r * a.gap)
past_by dates a k r l e =
    past_list dates (Some a) k l ∙ ap (λ n. Some (get_or dates (k - n * a.every - 1) 0 + n * a.gap)) e

pub one_round : (long every k : ℕ) → 1 ≤ every → long < k → k - every ≤ long → laps_past long every k ≡ 1
one_round long every k o l m =
    let few : k - long - 1 < 1 * every = omega arith in
    let none : (k - long - 1) / every < 1 = div_below (k - long - 1) every 1 (omega arith) few in
    omega arith

pub more_rounds : (long every k : ℕ) → 1 ≤ every → long < k - every → laps_past long every k ≡ laps_past long every (k - every) + 1
more_rounds long every k o l =
    let is : k - long - 1 ≡ (k - every - long - 1) + every = omega arith in
    let step : ((k - every - long - 1) + every) / every ≡ (k - every - long - 1) / every + 1 = add-div_right (k - every - long - 1) (omega arith) in
    ap (λ n. n / every + 1) is ∙ ap (λ n. n + 1) step

-- past the list each date is that of `every` firings before, plus the gap
goes_on : (dates : List ℕ) (a : Again) (k : ℕ) → 1 ≤ a.every → a.every ≤ length dates → length dates < k → list_date dates (Some a) k ≡ moved_by a.gap (list_date dates (Some a) (k - a.every))
goes_on dates a k o e l =
    ⊎_elim
    (λ (m : length dates < k - a.every).
    let r : ℕ = laps_past (length dates) a.every (k - a.every) in
    let far = past_by dates a k (r + 1) l (more_rounds (length dates) a.every k o m) in
    let near = past_by dates a (k - a.every) r m refl in
    let wide : (r + 1) * a.every ≡ r * a.every + a.every = grind arith in
    let long : (r + 1) * a.gap ≡ r * a.gap + a.gap = grind arith in
    let place : k - (r + 1) * a.every - 1 ≡ k - a.every - r * a.every - 1 = omega arith in
    let sum : get_or dates (k - a.every - r * a.every - 1) 0 + (r + 1) * a.gap ≡ get_or dates (k - a.every - r * a.every - 1) 0 + r * a.gap + a.gap = omega arith in
    far ∙ (ap (λ j. Some (get_or dates j 0 + (r + 1) * a.gap)) place ∙ (ap (λ n. Some n) sum ∙ ap (moved_by a.gap) (sym near))))
    (λ (m : k - a.every ≤ length dates).
    let far = past_by dates a k 1 l (one_round (length dates) a.every k o l m) in
    let near = in_list dates (Some a) (k - a.every) m in
    let place : k - 1 * a.every - 1 ≡ k - a.every - 1 = omega arith in
    let sum : get_or dates (k - a.every - 1) 0 + 1 * a.gap ≡ get_or dates (k - a.every - 1) 0 + a.gap = omega arith in
    far ∙ (ap (λ j. Some (get_or dates j 0 + 1 * a.gap)) place ∙ (ap (λ n. Some n) sum ∙ ap (moved_by a.gap) (sym near))))
    (cases_lt (length dates) (k - a.every))

past_goes_on : (dates : List ℕ) (o : Option Again) → EndsOrGoesOn dates o → GoOnBy (length dates) o (list_date dates o)
past_goes_on dates None h = λ k l. past_list dates None k l
past_goes_on dates (Some a) h = λ k l. goes_on dates a k h.some h.enough l

-- the dates by a list are those that its rules name
pub IsInputDates-list_date : (l : InputList) → EndsOrGoesOn l.dates l.again → IsInputDates l (list_date l.dates l.again)
IsInputDates-list_date l h = record {
  listed = λ k o m. in_list l.dates l.again k m;
  past = past_goes_on l.dates l.again h;
}

-- the list of a transition is found, since it has no other
found : (xs : List InputList) (t i : ℕ) (d : InputList) → AllPairs (λ l m. l.transition.index ≢ m.transition.index) xs → i < length xs → (get_or xs i d).transition.index ≡ t
    → find (λ l. l.transition.index == t) xs ≡ Some (get_or xs i d)
found [] t i d h l e = absurd (omega arith)
found (x ∷ xs) t zero d h l e = let b : eqb x.transition.index t ≡ true = grind (arith, nat_tests) in rw b refl
found (x ∷ xs) t (suc i) d h l e =
    let apart : x.transition.index ≢ (get_or xs i d).transition.index = h 0 (suc i) d (omega arith) l in
    let b : eqb x.transition.index t ≡ false = grind (arith, nat_tests) in
    rw b (found xs t i d (λ j k c m n. h (suc j) (suc k) c (omega arith) (omega arith)) (omega arith) e)

not_found : (xs : List InputList) (t : ℕ) → All (λ l. l.transition.index ≢ t) xs → find (λ l. l.transition.index == t) xs ≡ None
not_found [] t h = refl
not_found (x ∷ xs) t h =
    let apart : x.transition.index ≢ t = h 0 x (omega arith) in
    let b : eqb x.transition.index t ≡ false = grind (arith, nat_tests) in
    rw b (not_found xs t (λ i d m. h (suc i) d (omega arith)))

-- what is so of each list is so of one that is found
pub found_has : (P : InputList → Type 0) (xs : List InputList) (t : ℕ) (l : InputList) → All P xs → Some l ≡ find (λ x. x.transition.index == t) xs → P l
found_has P [] t l h e = absurd (cc)
found_has P (x ∷ xs) t l h e =
    ⊎_elim
    (λ (b : eqb x.transition.index t ≡ true).
    let is : Some l ≡ Some x = rw b at e in
    let same : l ≡ x = cc in
    rw same (h 0 x (omega arith)))
    (λ (b : eqb x.transition.index t ≡ false). found_has P xs t l (λ i d m. h (suc i) d (omega arith)) (rw b at e))
    (cases_Bool (eqb x.transition.index t))

-- a list that is found is one of the net
pub found_rules : (net : NetLists) (xs : List InputList) (t : ℕ) (l : InputList) → All (IsInputOf net) xs → Some l ≡ find (λ x. x.transition.index == t) xs → IsInputOf net l
found_rules net xs t l h e = found_has (IsInputOf net) xs t l h e

-- the dates of a net are those that its lists name
pub dates_by_lists : (net : NetLists) (t : ℕ) → AllPairs (λ l m. l.transition.index ≢ m.transition.index) net.inputs → HasListsByRule net → AreInputDates net t (input_date net t)
dates_by_lists net t one rules = record {
  by_list = λ i d m e. (
      let l : InputList = get_or net.inputs i d in
      let is : find (λ x. x.transition.index == t) net.inputs ≡ Some l = found net.inputs t i d one m e in
      subst (λ o. IsInputDates l (date_by_list o)) (sym is) (IsInputDates-list_date l (rules i d m)));
  no_list = λ none k. ap (λ o. date_by_list o k) (not_found net.inputs t none);
}

pub AreInputDates-input_date : (net : NetLists) (t : ℕ) → IsNet net → AreInputDates net t (input_date net t)
AreInputDates-input_date net t h = dates_by_lists net t h.one_list (lists_by_rule net h)

-- past the list, dates that agree before agree
past_agree :
    (l : InputList) (u v : ℕ → Option ℕ) (k : ℕ) (o : Option Again) → EndsOrGoesOn l.dates o → GoOnBy (length l.dates) o u → GoOnBy (length l.dates) o v
    → length l.dates < k → ((j : ℕ) → j < k → 1 ≤ j → u j ≡ v j) → u k ≡ v k
past_agree l u v k None rule h g past before = h k past ∙ sym (g k past)
past_agree l u v k (Some a) rule h g past before =
    h k past ∙ (ap (moved_by a.gap) (before (k - a.every) (omega (arith, rule.some)) (omega (arith, rule.enough))) ∙ sym (g k past))

-- two givings of dates by one list agree
one_date :
    (l : InputList) (u v : ℕ → Option ℕ) → EndsOrGoesOn l.dates l.again → IsInputDates l u → IsInputDates l v → (n k : ℕ) → k ≤ n → 1 ≤ k → u k ≡ v k
one_date l u v rule h g zero k m p = absurd (omega arith)
one_date l u v rule h g (suc n) k m p =
    ⊎_elim
    (λ (past : length l.dates < k). past_agree l u v k l.again rule h.past g.past past (λ j b q. one_date l u v rule h g n j (omega arith) q))
    (λ (inside : k ≤ length l.dates). h.listed k p inside ∙ sym (g.listed k p inside))
    (cases_lt (length l.dates) k)

-- the function gives the date that the list gives
pub is_date_of_list : (l : InputList) (k : ℕ) (date : Option ℕ) → EndsOrGoesOn l.dates l.again → 1 ≤ k → date ≡ list_date l.dates l.again k → IsListDate l k date
is_date_of_list l k date rule one is = record {
  some = (list_date l.dates l.again, IsInputDates-list_date l rule);
  each = λ u h. one_date l u (list_date l.dates l.again) rule h (IsInputDates-list_date l rule) k k (omega arith) one ∙ sym is;
}

-- a transition has a list or none
has_list : (xs : List InputList) (t : ℕ) → Any (λ l. l.transition.index ≡ t) xs ⊎ All (λ l. l.transition.index ≢ t) xs
has_list [] t = inr (λ i d m. absurd (omega arith))
has_list (x ∷ xs) t =
    ⊎_elim
    (λ (same : x.transition.index ≡ t). inl (0, x, omega arith, refl, same))
    (λ (apart : x.transition.index ≢ t).
    ⊎_elim
    (λ (found : Any (λ l. l.transition.index ≡ t) xs). let (i, l, m, r, e) = found in inl (suc i, l, omega arith, r, e))
    (λ (none : All (λ l. l.transition.index ≢ t) xs). inr (All-cons (λ l. l.transition.index ≢ t) x xs apart none))
    (has_list xs t))
    (cases_eq x.transition.index t)

-- the function gives the date that the lists give
pub IsInputDate-input_date : (net : NetLists) (t k : ℕ) → IsNet net → 1 ≤ k → IsInputDate net t k (input_date net t k)
IsInputDate-input_date net t k ok one = record {
  some = (input_date net t, AreInputDates-input_date net t ok);
  each = λ u h. ⊎_elim
      (λ (found : Any (λ l. l.transition.index ≡ t) net.inputs).
      let (i, l, m, r, e) = found in
      let same : (get_or net.inputs i l).transition.index ≡ t = rw r e in
      one_date (get_or net.inputs i l) u (input_date net t) (ok.each_input i l m).again
      (h.by_list i l m same) ((AreInputDates-input_date net t ok).by_list i l m same) k k (omega arith) one)
      (λ (none : All (λ l. l.transition.index ≢ t) net.inputs). h.no_list none k ∙ sym ((AreInputDates-input_date net t ok).no_list none k))
      (has_list net.inputs t);
}

pub date_within : (dates : List ℕ) (i most : ℕ) → All (λ d. d ≤ most) dates → get_or dates i 0 ≤ most
date_within dates i most h =
    ⊎_elim
    (λ (l : i < length dates). h i 0 l)
    (λ (l : length dates ≤ i). let is : get_or dates i 0 ≡ 0 = get_or_past dates i 0 l in omega arith)
    (cases_lt i (length dates))

pub date_le : (dates : List ℕ) (i : ℕ) → All (λ d. d ≤ greatest_input_date) dates → get_or dates i 0 ≤ greatest_input_date
date_le dates i h = date_within dates i greatest_input_date h

past-most : (dates : List ℕ) (o : Option Again) (k : ℕ) → All (λ d. d ≤ greatest_input_date) dates → EndsOrGoesOn dates o
    → length dates < k → IfSome (list_date_past dates o k) (λ d. d ≤ greatest_input_date * (k + 1))
past-most dates None k h e l = tt
past-most dates (Some a) k h e l =
    let r : ℕ = laps_past (length dates) a.every k in
    let few : (k - length dates - 1) / a.every ≤ k - length dates - 1 = div-le_self (k - length dates - 1) a.every in
    let gaps : r * a.gap ≤ r * greatest_input_date = mul-le-mul_left r e.gap_in in
    let first = date_le dates (k - r * a.every - 1) h in
    omega arith

-- no date is later than that of a list that goes on by the greatest gap
pub list_date-most : (dates : List ℕ) (o : Option Again) (k : ℕ) → All (λ d. d ≤ greatest_input_date) dates → EndsOrGoesOn dates o
    → IfSome (list_date dates o k) (λ d. d ≤ greatest_input_date * (k + 1))
list_date-most dates o k h e =
    ⊎_elim
    (λ (l : length dates < k). rw (past_list dates o k l) (past-most dates o k h e l))
    (λ (l : k ≤ length dates). rw (in_list dates o k l) (let first = date_le dates (k - 1) h in omega arith))
    (cases_lt (length dates) k)
