-- First departures and delays among entries.
use Rattle.std.proofs.Common.{ℕ, zero, suc, ◌<◌, ◌≤◌, ◌+◌, ◌==◌, ◌≡◌, ◌≢◌, ◌∙◌, ◌++◌, ◌∷◌, [], List, Bool, true, false, cond, length, get_or, take}
use Rattle.std.proofs.Common.{Option, Some, None, Result, Ok, Err, All, AllPairs, inl, inr, refl, sym, subst, ap, arith}
use Rattle.std.proofs.lemmas.Bool.{cases_Bool, cases_eq}
use Rattle.std.proofs.lemmas.List.{length-append, take_more}
use Rattle.std.proofs.lemmas.List.Elements.{All-append, All-cons, All-head, All-tail}
use Rattle.std.proofs.lemmas.List.Kept.{AllPairs-cons}
use Rattle.csv_records.specs.RowsOfRecords.{and_then, with_read_row}
use Rattle.delay_laws.specs.declared.table.Delay.{Delay}
use Rattle.delay_laws.specs.PlannedTimetables.{IsDelayOf, greatest_departure}
use Rattle.teg_net.specs.Nets.{NetLists}
use Rattle.timetable_files.specs.declared.entries.TableEntry.{TableEntry}
use Rattle.timetable_files.specs.declared.entries.TableEntry.TheVariants.{Departure, Late}
use Rattle.timetable_files.specs.declared.refusals.TableRefusal.{TableRefusal}
use Rattle.timetable_files.specs.declared.refusals.TableRefusal.TheVariants.{Missing}
use Rattle.timetable_files.specs.Departures.{or_second}
use Rattle.timetable_files.specs.EntryRules.{Differ, IsEntryOf}
use Rattle.timetable_files.specs.TimetableFiles.{delays_of, departure_of, departure_or_missing, firsts_of}

-- the first departure among more entries
pub departure_of-append : (xs ys : List TableEntry) (t : ℕ) → departure_of (xs ++ ys) t ≡ or_second (departure_of xs t) (departure_of ys t)
departure_of-append [] ys t = refl
departure_of-append (Departure transition first ∷ xs) ys t = by (transition.index == t) (departure_of-append xs ys t)
  where
    by : (b : Bool) → departure_of (xs ++ ys) t ≡ or_second (departure_of xs t) (departure_of ys t)
        → cond b (Some first) (departure_of (xs ++ ys) t) ≡ or_second (cond b (Some first) (departure_of xs t)) (departure_of ys t)
    by true h = refl
    by false h = h
departure_of-append (Late delay ∷ xs) ys t = departure_of-append xs ys t

-- the delays among more entries
pub delays_of-append : (xs ys : List TableEntry) → delays_of (xs ++ ys) ≡ delays_of xs ++ delays_of ys
delays_of-append [] ys = refl
delays_of-append (Departure transition first ∷ xs) ys = delays_of-append xs ys
delays_of-append (Late delay ∷ xs) ys = ap (λ (zs : List Delay). delay ∷ zs) (delays_of-append xs ys)

-- a refusal for want of one first departure stays
pub missing_stays : (entries : List TableEntry) (a b : ℕ) (why : TableRefusal) → a ≤ b → firsts_of entries a ≡ Err why → firsts_of entries b ≡ Err why
missing_stays entries a zero why h e = let same : zero ≡ a = omega arith in ap (firsts_of entries) same ∙ e
missing_stays entries a (suc b) why h e = elim (cases_eq a (suc b)) [
  | inl same ↦ ap (firsts_of entries) (sym same) ∙ e
  | inr other ↦ let before : a ≤ b = omega arith in rw (missing_stays entries a b why before e) refl
]

-- a first departure among entries that keep their rules is within its limit
departure_in : (net : NetLists) (entries : List TableEntry) → All (IsEntryOf net) entries → (t first : ℕ) → departure_of entries t ≡ Some first → first ≤ greatest_departure
departure_in net [] rules t first e = cc e
departure_in net (Departure transition own ∷ entries) rules t first e = elim (cases_Bool (transition.index == t)) [
  | inl here ↦ let same : own ≡ first = cc (rw here at e) in let small = (All-head (IsEntryOf net) (Departure transition own) entries rules).1 in omega arith
  | inr there ↦ departure_in net entries (All-tail (IsEntryOf net) (Departure transition own) entries rules) t first (rw there at e)
]
departure_in net (Late delay ∷ entries) rules t first e = departure_in net entries (All-tail (IsEntryOf net) (Late delay) entries rules) t first e

-- first departures, so many and each within its limit
pub record AreFirsts (count : ℕ) (firsts : List ℕ) : Type 0 where
  pub long : length firsts ≡ count
  pub small : All (λ f. f ≤ greatest_departure) firsts

pub firsts_are : (net : NetLists) (entries : List TableEntry) → All (IsEntryOf net) entries → (count : ℕ) (firsts : List ℕ) → firsts_of entries count ≡ Ok firsts → AreFirsts count firsts
firsts_are net entries rules zero firsts e = subst (AreFirsts 0) (the_list e) (record { long = refl; small = λ k d lt. absurd (omega (arith, lt)) })
  where
    the_list : firsts_of entries zero ≡ Ok firsts → [] ≡ firsts
    the_list e = cc e
firsts_are net entries rules (suc t) firsts e = with_before (firsts_of entries t) refl e (firsts_are net entries rules t)
  where
    with_one : (before : List ℕ) → AreFirsts t before → (o : Option ℕ) → departure_of entries t ≡ o → with_read_row before (departure_or_missing o t) ≡ Ok firsts → AreFirsts (suc t) firsts
    with_one before old None is e = cc e
    with_one before old (Some first) is e =
        let same : before ++ first ∷ [] ≡ firsts = cc e in
        let long = old.long in
        subst (AreFirsts (suc t)) same (record {
          long = omega (arith, length-append before (first ∷ []));
          small = All-append (λ f. f ≤ greatest_departure) before (first ∷ []) old.small
              (All-cons (λ f. f ≤ greatest_departure) first [] (departure_in net entries rules t first is) (λ k d lt. absurd (omega (arith, lt))));
        })

    with_before : (r : Result (List ℕ) TableRefusal) → firsts_of entries t ≡ r
        → and_then r (λ before. with_read_row before (departure_or_missing (departure_of entries t) t)) ≡ Ok firsts
        → ((before : List ℕ) → firsts_of entries t ≡ Ok before → AreFirsts t before) → AreFirsts (suc t) firsts
    with_before (Ok before) is e old = with_one before (old before is) (departure_of entries t) refl e
    with_before (Err why) is e old = cc e

-- the delays among entries that keep their rules keep theirs
pub delays_in : (net : NetLists) (entries : List TableEntry) → All (IsEntryOf net) entries → All (IsDelayOf net) (delays_of entries)
delays_in net [] rules = λ k d lt. absurd (omega (arith, lt))
delays_in net (Departure transition first ∷ entries) rules = delays_in net entries (All-tail (IsEntryOf net) (Departure transition first) entries rules)
delays_in net (Late delay ∷ entries) rules =
    All-cons (IsDelayOf net) delay (delays_of entries) (All-head (IsEntryOf net) (Late delay) entries rules) (delays_in net entries (All-tail (IsEntryOf net) (Late delay) entries rules))

-- delays of different departures
abbrev pub AreApart : Delay → Delay → Type 0
AreApart c d = c.transition.index ≡ d.transition.index → c.number ≢ d.number

apart_from : (delay : Delay) (entries : List TableEntry) → All (Differ (Late delay)) entries → All (AreApart delay) (delays_of entries)
apart_from delay [] rules = λ k d lt. absurd (omega (arith, lt))
apart_from delay (Departure transition first ∷ entries) rules = apart_from delay entries (All-tail (Differ (Late delay)) (Departure transition first) entries rules)
apart_from delay (Late other ∷ entries) rules =
    All-cons (AreApart delay) other (delays_of entries) (apart (All-head (Differ (Late delay)) (Late other) entries rules))
    (apart_from delay entries (All-tail (Differ (Late delay)) (Late other) entries rules))
  where
    apart : Differ (Late delay) (Late other) → AreApart delay other
    apart (inl t) same = absurd (t same)
    apart (inr n) same = n

head_apart : (e : TableEntry) (entries : List TableEntry) → AllPairs Differ (e ∷ entries) → All (Differ e) entries
head_apart e entries h = λ k d lt. h 0 (suc k) d (omega arith) (omega (arith, lt))

tail_apart : (e : TableEntry) (entries : List TableEntry) → AllPairs Differ (e ∷ entries) → AllPairs Differ entries
tail_apart e entries h = λ i j d lt within. h (suc i) (suc j) d (omega (arith, lt)) (omega (arith, within))

pub delays_apart : (entries : List TableEntry) → AllPairs Differ entries → AllPairs AreApart (delays_of entries)
delays_apart [] h = λ i j d lt within. absurd (omega (arith, within))
delays_apart (Departure transition first ∷ entries) h = delays_apart entries (tail_apart (Departure transition first) entries h)
delays_apart (Late delay ∷ entries) h =
    AllPairs-cons AreApart delay (delays_of entries) (apart_from delay entries (head_apart (Late delay) entries h)) (delays_apart entries (tail_apart (Late delay) entries h))

-- where first departures come up to a transition that has none, it is missing
pub missing_at : (entries : List TableEntry) (t count : ℕ) (firsts : List ℕ) → firsts_of entries t ≡ Ok firsts → departure_of entries t ≡ None → t < count
    → firsts_of entries count ≡ Err (Missing (record { index = t }))
missing_at entries t count firsts before none lt =
    let here : firsts_of entries (suc t) ≡ Err (Missing (record { index = t })) = rw (before, none) refl in
    missing_stays entries (suc t) count (Missing (record { index = t })) (omega (arith, lt)) here

-- one entry more, and its first departure
pub departure_more : (entries : List TableEntry) (i t : ℕ) (d : TableEntry) (o : Option ℕ) → i < length entries → o ≡ departure_of (take i entries) t
    → or_second o (departure_of (get_or entries i d ∷ []) t) ≡ departure_of (take (i + 1) entries) t
departure_more entries i t d o lt e =
    ap (λ (x : Option ℕ). or_second x (departure_of (get_or entries i d ∷ []) t)) e
    ∙ sym (departure_of-append (take i entries) (get_or entries i d ∷ []) t)
    ∙ sym (ap (λ (es : List TableEntry). departure_of es t) (take_more entries i d lt))

-- one entry more, and its delay
pub delays_more : (entries : List TableEntry) (i : ℕ) (d : TableEntry) (ds : List Delay) → i < length entries → ds ≡ delays_of (take i entries)
    → ds ++ delays_of (get_or entries i d ∷ []) ≡ delays_of (take (i + 1) entries)
delays_more entries i d ds lt e =
    ap (λ (xs : List Delay). xs ++ delays_of (get_or entries i d ∷ [])) e
    ∙ sym (delays_of-append (take i entries) (get_or entries i d ∷ []))
    ∙ sym (ap delays_of (take_more entries i d lt))
