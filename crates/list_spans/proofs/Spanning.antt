-- What firings wait for: the dates of lists go on evenly, and the tables of what transitions wait for.
use Rattle.std.proofs.Common.{ℕ, zero, suc, not, ◌+◌, ◌-◌, ◌*◌, ◌<◌, ◌≤◌, ◌≡◌, List, [], ◌∷◌, Bool, true, false, cond, ltb, length, get_or}
use Rattle.std.proofs.Common.{Option, Some, None, refl, sym, ap, subst, ◌∙◌, arith, ⊎_elim}
use Rattle.std.specs.List.{position_or_len}
use Rattle.std.specs.Prelude.{◌/◌, pos, slice_get}
use Rattle.std.proofs.lemmas.Bool.{cases_Bool, cases_lt}
use Rattle.std.proofs.lemmas.Bool.Decides.{nat_tests}
use Rattle.std.proofs.lemmas.Int.{ints}
use Rattle.std.proofs.Math.Nat.{div-le_of_le-mul, mul_comm, mul-le-mul_right}
use Rattle.std.proofs.lemmas.List.Sums.{prefix_len-le-length}
use Rattle.dioid.specs.declared.dates.Date.{Date}
use Rattle.dioid.specs.declared.dates.Date.TheVariants.{At}
use Rattle.dioid.specs.Dates.{delayed}
use Rattle.dioid.proofs.Moves.{delayed_is_move}
use Rattle.teg_net.specs.Limits.{greatest_input_date, most_input_dates}
use Rattle.teg_net.specs.declared.entries.Again.{Again}
use Rattle.teg_net.specs.declared.entries.InputList.{InputList}
use Rattle.teg_net.specs.Nets.{NetLists, EndsOrGoesOn}
use Rattle.teg_net.specs.Inputs.{moved_by, GoOnBy, date_by_list, list_date}
use Rattle.teg_net.proofs.InputDates.{IsInputDates-list_date}
use Rattle.settled_laws.specs.teg_model.Datings.{as_date}
use Rattle.settled_laws.proofs.Driven.{GoOn, goes_on_again}
use Rattle.list_spans.specs.declared.lists.Span.{Span}
use Rattle.list_spans.specs.ListDates.{date_of_list}
use Rattle.list_spans.specs.Spans.{IsSpan}

pub moved_date : (gap : ℕ) (o : Option ℕ) → as_date (moved_by gap o) ≡ delayed gap (as_date o)
moved_date gap None = refl
moved_date gap (Some d) = ap At (omega (arith, ints))

-- the span of a list of so many dates that goes on so, or ends
abbrev pub span_of_again : ℕ → Option Again → Span
span_of_again long None = record { after = long; every = 1; gap = 0 }
span_of_again long (Some a) = record { after = long; every = a.every; gap = a.gap }

span_past : (dates : List ℕ) (o : Option Again) (u : ℕ → Option ℕ) → length dates ≤ most_input_dates → EndsOrGoesOn dates o → GoOnBy (length dates) o u
    → IsSpan (λ k. as_date (u k)) (span_of_again (length dates) o)
span_past dates None u few h g = record {
  some = omega arith;
  again = λ k l. rw (g (k + 1) (omega arith), g k l) refl;
  after_in = few;
  every_in = omega arith;
  gap_in = omega arith;
}
span_past dates (Some a) u few h g = record {
  some = h.some;
  again = λ k l.
      let back : (k + a.every) - a.every ≡ k = omega arith in
      ap as_date (g (k + a.every) (omega arith) ∙ ap (λ j. moved_by a.gap (u j)) back) ∙ moved_date a.gap (u k);
  after_in = few;
  every_in = h.every_in;
  gap_in = h.gap_in;
}

-- past its dates a list goes on evenly
pub span_list : (net : NetLists) (list : ℕ) (l : InputList) (o : Option Again) → slice_get net.inputs list ≡ Some l → length l.dates ≤ most_input_dates
    → EndsOrGoesOn l.dates l.again → l.again ≡ o → IsSpan (date_of_list net list) (span_of_again (length l.dates) o)
span_list net list l o e few h a =
    rw (← a) (subst (λ z. IsSpan (λ k. as_date (date_by_list z k)) (span_of_again (length l.dates) l.again)) (sym e)
    (span_past l.dates l.again (list_date l.dates l.again) few h (IsInputDates-list_date l h).past))

-- dates that go on by a span for as many numbers as another has go on by it for ever
pub span_again : (u : ℕ → Date) (s t : Span) → IsSpan u s → t.after ≡ s.after → 1 ≤ t.every → t.every ≤ s.every → t.gap ≤ greatest_input_date
    → ((k : ℕ) → t.after < k → k ≤ t.after + s.every → u (k + t.every) ≡ delayed t.gap (u k)) → IsSpan u t
span_again u s t h a some few gap tested =
    let after_in = h.after_in in
    let every_in = h.every_in in
    let going : GoOn u s.after s.every s.gap = record { at_least_one = h.some; again = h.again } in
    record {
      some = some;
      again = λ k l. goes_on_again u s.after s.every s.gap t.after t.after t.every (pos t.gap) going (omega arith) (omega arith)
          (λ j m n. tested j m n ∙ delayed_is_move t.gap (u j)) k l ∙ sym (delayed_is_move t.gap (u k));
      after_in = omega arith;
      every_in = omega arith;
      gap_in = gap;
    }

-- a part of a gap
pub shorter_gap : (gap every whole : ℕ) → every ≤ whole → gap * every / whole ≤ gap
shorter_gap gap every whole l = div-le_of_le-mul whole (rw (mul_comm gap every) (mul-le-mul_right gap l))

-- one number earlier
pub span_earlier : (u : ℕ → Date) (s t : Span) → IsSpan u s → s.after ≡ t.after + 1 → t.every ≡ s.every → t.gap ≡ s.gap
    → u (s.after + s.every) ≡ delayed s.gap (u s.after) → IsSpan u t
span_earlier u s t h a e g here =
    let some = h.some in
    let after_in = h.after_in in
    let every_in = h.every_in in
    let gap_in = h.gap_in in
    record {
      some = omega arith;
      again = λ k l. rw (e, g) (⊎_elim
          (λ (q : s.after < k). h.again k q)
          (λ (q : k ≤ s.after). let is : k ≡ s.after = omega arith in rw is here)
          (cases_lt s.after k));
      after_in = omega arith;
      every_in = omega arith;
      gap_in = omega arith;
    }

-- the place of the first that passes, and past the last where none does
pub place_found : {X : Type 0} (p : X → Bool) (xs : List X) (r : ℕ) → Some r ≡ cond (ltb (position_or_len p xs) (length xs)) (Some (position_or_len p xs)) None → r ≡ position_or_len p xs
place_found p xs r e =
    ⊎_elim
    (λ (b : ltb (position_or_len p xs) (length xs) ≡ true). let is : Some r ≡ Some (position_or_len p xs) = rw b at e in cc)
    (λ (b : ltb (position_or_len p xs) (length xs) ≡ false). let is : Some r ≡ None = rw b at e in absurd (cc))
    (cases_Bool (ltb (position_or_len p xs) (length xs)))

pub place_none : {X : Type 0} (p : X → Bool) (xs : List X) → None ≡ cond (ltb (position_or_len p xs) (length xs)) (Some (position_or_len p xs)) None → length xs ≡ position_or_len p xs
place_none p xs e =
    let most : position_or_len p xs ≤ length xs = prefix_len-le-length (λ x. not (p x)) xs in
    ⊎_elim
    (λ (b : ltb (position_or_len p xs) (length xs) ≡ true). let is : None ≡ Some (position_or_len p xs) = rw b at e in absurd (cc))
    (λ (b : ltb (position_or_len p xs) (length xs) ≡ false). let no : length xs ≤ position_or_len p xs = grind (arith, nat_tests) in omega arith)
    (cases_Bool (ltb (position_or_len p xs) (length xs)))
