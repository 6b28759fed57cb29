-- A list whose first dates tell all that follow has the dates of the firings to come.
use Rattle.std.proofs.Common.{ℕ, zero, suc, max, ◌+◌, ◌-◌, ◌<◌, ◌≤◌, ◌≡◌, List, [], ◌∷◌, ◌++◌, Option, Some, None, length, refl, sym, ap, ◌∙◌, arith, inl, inr, ⊎_elim}
use Rattle.std.specs.Prelude.{All, IfSome, ◌⊎◌}
use Rattle.std.proofs.lemmas.Bool.{cases_lt}
use Rattle.std.proofs.lemmas.List.{length_push, get_or_append_left, get_or_push}
use Rattle.std.proofs.lemmas.List.Elements.{All-push}
use Rattle.teg_net.specs.declared.entries.Again.{Again}
use Rattle.teg_net.specs.declared.entries.InputList.{InputList}
use Rattle.teg_net.specs.Inputs.{moved_by, GoOnBy, IsInputDates, input_date}
use Rattle.teg_net.specs.Limits.{greatest_input_date, most_input_dates}
use Rattle.teg_net.specs.Nets.{NetLists, EndsOrGoesOn}
use Rattle.run_laws.specs.declared.fired.Fired.{Fired}
use Rattle.state_laws.specs.NetsLeft.{count_in}
use Rattle.teg_state.specs.LeftLists.{left_date, left_dates, list_with, AreWithinLimits, IsListOf, IsJoined, IsClear, AreBegun}

-- a gap moves the later of a date and now as it moves the date, where the date is not before now, or there is no gap
moved_left : (now gap : ℕ) (o : Option ℕ) → ((gap ≡ 0) ⊎ IsClear now o) → left_date now (moved_by gap o) ≡ moved_by gap (left_date now o)
moved_left now gap None h = refl
moved_left now gap (Some d) h =
    ⊎_elim
    (λ (e : gap ≡ 0). ap Some (omega (arith, e)))
    (λ (c : IsClear now (Some d)).
    let same : d ≡ c.0 = cc (c.1) in
    ap Some (omega (arith, same, c.2)))
    h

-- of a list that goes on, all later dates are not before now where the last ones that repeat are not
module _ (net : NetLists) (run : List Fired) (now : ℕ) (l : InputList) (is : IsListOf net l) (dates : List ℕ) (clear : ℕ)
    (begun : AreBegun net run now l.transition.index dates clear) where
  abbrev date : ℕ → Option ℕ
  date k = input_date net l.transition.index (count_in run l.transition.index + k)

  ended : IsJoined None (length l.dates) (count_in run l.transition.index + length dates) (length dates) clear → GoOnBy (length l.dates) None (input_date net l.transition.index)
      → GoOnBy (length dates) None (left_dates net run now l.transition.index)
  ended joined past k m = ap (left_date now) (past (count_in run l.transition.index + k) (omega (arith, joined, m)))

  module _ (a : Again) (some : 1 ≤ a.every) (long : length l.dates ≤ count_in run l.transition.index + length dates) (enough : a.every ≤ length dates)
      (past : GoOnBy (length l.dates) (Some a) (input_date net l.transition.index)) where
    step : (k : ℕ) → length dates < k → date k ≡ moved_by a.gap (date (k - a.every))
    step k m =
        let back : count_in run l.transition.index + k - a.every ≡ count_in run l.transition.index + (k - a.every) = omega (arith, m, enough) in
        past (count_in run l.transition.index + k) (omega (arith, m, long)) ∙ ap (λ j. moved_by a.gap (input_date net l.transition.index j)) back

    clear_moved : (o p : Option ℕ) → p ≡ moved_by a.gap o → IsClear now o → IsClear now p
    clear_moved o p e c = (c.0 + a.gap, e ∙ ap (moved_by a.gap) c.1, omega (arith, c.2))

    all_clear : a.every ≤ clear → (n k : ℕ) → k ≤ n → length dates < k + a.every → IsClear now (date k)
    all_clear many zero k l m = absurd (omega (arith, l, m, enough))
    all_clear many (suc n) k l m =
        ⊎_elim
        (λ (q : length dates < k). clear_moved (date (k - a.every)) (date k) (step k q) (all_clear many n (k - a.every) (omega (arith, l, some)) (omega (arith, q, enough))))
        (λ (q : k ≤ length dates). begun.late k (omega (arith, m, enough)) q (omega (arith, m, many)))
        (cases_lt (length dates) k)

    goes_on : ((a.gap ≡ 0) ⊎ (a.every ≤ clear)) → GoOnBy (length dates) (Some a) (left_dates net run now l.transition.index)
    goes_on still k m =
        let may : (a.gap ≡ 0) ⊎ IsClear now (date (k - a.every)) =
        ⊎_elim
        (λ (e : a.gap ≡ 0). inl e)
        (λ (many : a.every ≤ clear). inr (all_clear many k (k - a.every) (omega arith) (omega (arith, m, enough))))
        still in
        ap (left_date now) (step k m) ∙ moved_left now a.gap (date (k - a.every)) may

  past_of : (o : Option Again) → EndsOrGoesOn l.dates o → GoOnBy (length l.dates) o (input_date net l.transition.index)
      → IsJoined o (length l.dates) (count_in run l.transition.index + length dates) (length dates) clear → GoOnBy (length dates) o (left_dates net run now l.transition.index)
  past_of None rule past joined = ended joined past
  past_of (Some a) rule past joined = goes_on a rule.some joined.0 joined.1 past joined.2

pub joined_dates : (net : NetLists) (run : List Fired) (now : ℕ) (l : InputList) (dates : List ℕ) (clear : ℕ) → IsListOf net l → AreBegun net run now l.transition.index dates clear
    → IsJoined l.again (length l.dates) (count_in run l.transition.index + length dates) (length dates) clear
    → IsInputDates (list_with l dates) (left_dates net run now l.transition.index)
joined_dates net run now l dates clear is begun joined = record {
  listed = begun.told;
  past = past_of net run now l is dates clear begun l.again is.rules.again is.dates.past joined;
}

-- ---- no dates, and one more

pub not_begun : (net : NetLists) (run : List Fired) (now t : ℕ) (dates : List ℕ) → dates ≡ [] → AreBegun net run now t dates 0
not_begun net run now t dates e =
    let none : length dates ≡ 0 = ap length e in
    record {
      told = λ k o l. absurd (omega (arith, o, l, none));
      early = λ k d l. absurd (omega (arith, l, none));
      few = omega arith;
      late = λ k o l m. absurd (omega (arith, l, m));
    }

cases_lt' : (k n : ℕ) → (k ≤ n) ⊎ (n < k)
cases_lt' k n = ⊎_elim (λ (l : n < k). inr l) (λ (l : k ≤ n). inl l) (cases_lt n k)

pub begun_more : (net : NetLists) (run : List Fired) (now t : ℕ) (dates : List ℕ) (clear more date : ℕ) → AreBegun net run now t dates clear
    → input_date net t (count_in run t + length dates + 1) ≡ Some date → max now date ≤ greatest_input_date → ((more ≡ 0) ⊎ ((more ≡ clear + 1) × (now ≤ date)))
    → AreBegun net run now t (dates ++ max now date ∷ []) more
begun_more net run now t dates clear more date b e near either =
    let longer = length_push dates (max now date) in
    record {
      told = λ k o l.
          ⊎_elim
          (λ (q : k ≤ length dates).
          let in' : k - 1 < length dates = omega (arith, o, q) in
          rw (get_or_append_left dates (max now date ∷ []) 0 (k - 1) in') (b.told k o q))
          (λ (q : length dates < k).
          let is : length dates ≡ k - 1 = omega (arith, l, q, longer) in
          let at' : count_in run t + k ≡ count_in run t + length dates + 1 = omega (arith, l, q, longer) in
          rw (get_or_push dates (max now date) 0 (k - 1) is, at', e) refl)
          (cases_lt' k (length dates));
      early = All-push (λ d. d ≤ greatest_input_date) dates (max now date) b.early near;
      few = ⊎_elim (λ (z : more ≡ 0). omega (arith, z)) (λ (z : (more ≡ clear + 1) × (now ≤ date)). omega (arith, z.0, b.few, longer)) either;
      late = λ k o l m.
          ⊎_elim
          (λ (z : more ≡ 0). absurd (omega (arith, z, l, m)))
          (λ (z : (more ≡ clear + 1) × (now ≤ date)).
          ⊎_elim
          (λ (q : k ≤ length dates). b.late k o q (omega (arith, m, z.0, longer)))
          (λ (q : length dates < k).
          let at' : count_in run t + k ≡ count_in run t + length dates + 1 = omega (arith, l, q, longer) in
          (date, ap (input_date net t) at' ∙ e, z.1))
          (cases_lt' k (length dates)))
          either;
    }

-- ---- as the code comes to them

pub joined_at : (net : NetLists) (run : List Fired) (now : ℕ) (l : InputList) (dates : List ℕ) (clear long fired count : ℕ) → IsListOf net l
    → AreBegun net run now l.transition.index dates clear → long ≡ length l.dates → fired ≡ count_in run l.transition.index → length dates ≡ count
    → IsJoined l.again long (fired + count) count clear → IsInputDates (list_with l dates) (left_dates net run now l.transition.index)
joined_at net run now l dates clear long fired count is begun a b e joined = joined_dates net run now l dates clear is begun (rw (a, b, ← e) at joined)

pub begun_at : (net : NetLists) (run : List Fired) (now t fired count : ℕ) (dates : List ℕ) (clear more date : ℕ) → AreBegun net run now t dates clear → fired ≡ count_in run t
    → length dates ≡ count → Some date ≡ input_date net t (fired + count + 1) → max now date ≤ greatest_input_date → ((more ≡ 0) ⊎ ((more ≡ clear + 1) × (now ≤ date)))
    → (length (dates ++ max now date ∷ []) ≡ count + 1) × (more ≤ count + 1) × AreBegun net run now t (dates ++ max now date ∷ []) more
begun_at net run now t fired count dates clear more date b a e is near either =
    let at' : fired + count + 1 ≡ count_in run t + length dates + 1 = omega (arith, a, e) in
    let next = begun_more net run now t dates clear more date b (sym (is ∙ ap (input_date net t) at')) near either in
    let longer : length (dates ++ max now date ∷ []) ≡ count + 1 = omega (arith, length_push dates (max now date), e) in
    (longer, omega (arith, next.few, longer), next)

-- dates that tell all keep the limits of a list
enough : (o : Option Again) (long next count clear n : ℕ) → n ≡ count → IsJoined o long next count clear → IfSome o (λ a. a.every ≤ n)
enough None long next count clear n e joined = tt
enough (Some a) long next count clear n e joined = omega (arith, e, joined.1)

pub within_at : (again : Option Again) (dates : List ℕ) (long next count clear : ℕ) → length dates ≡ count → count ≤ most_input_dates
    → All (λ d. d ≤ greatest_input_date) dates → IsJoined again long next count clear → AreWithinLimits again dates
within_at again dates long next count clear e few early joined = record {
  few = omega (arith, e, few);
  early = early;
  enough = enough again long next count clear (length dates) e joined;
}
