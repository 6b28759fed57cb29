-- The search for late firings of all rows of due dates together.
use Rattle.std.proofs.Common.{ℕ, ◌≡◌, ◌<◌, ◌≤◌, ◌+◌, ◌-◌, ◌++◌, ◌∷◌, [], List, All, Some, None, length, get_or, pos, take, refl, sym, subst, arith, ⊎_elim}
use Rattle.std.specs.Prelude.{slice_get}
use Rattle.std.proofs.lemmas.Bool.{cases_lt}
use Rattle.std.proofs.lemmas.List.{get_or-take, length-append, length-take-le}
use Rattle.std.proofs.lemmas.Option.{slice_get-get_or}
use Rattle.std.proofs.Math.ListN.{get_or-append}
use Rattle.std.proofs.Math.Nat.{eq-or-lt_of_le}
use Rattle.std.proofs.Math.Seq.{get_or-append_seam}
use Rattle.dioid.specs.declared.dates.Date.{Date}
use Rattle.dioid.specs.declared.dates.Date.TheVariants.{At}
use Rattle.teg_net.specs.Limits.{greatest_firing_number}
use Rattle.teg_net.specs.Nets.{NetLists, IsNet, without_inputs}
use Rattle.teg_net.specs.Circuits.{IsLive}
use Rattle.date_rows.specs.Streams.{IsLeastRow}
use Rattle.endless_due.specs.declared.row.EndlessRow.{EndlessRow}
use Rattle.endless_due.specs.EndlessRows.{row_due}
use Rattle.forever_laws.specs.teg_model.Datings.{IsLeastUnder}
use Rattle.forever_laws.specs.due_laws.MeetingDueDates.{inputs_at_zero}
use Rattle.forever_laws.specs.EndlessDues.{ZeroInputsAreNoLists}
use Rattle.forever_laws.specs.Late.{IsLeastLate, NoneLate}
use Rattle.teg_forever.specs.declared.together.LateRow.{LateRow}
use Rattle.teg_forever.specs.declared.together.Search.{Search}
use Rattle.teg_forever.specs.LateFirings.{InLeastAtZero, TellsWhetherLate}
use Rattle.teg_forever.specs.TogetherRows.{AreNeverLate, AreInTimeAt, AreLasts, AreLeastDates, IsInTimeAt, IsLateAmong, IsLateFiringAt, IsSearchedTo, IsSearchedThrough}
use Rattle.teg_forever.proofs.AloneRows.{tells, is_number}
use Rattle.teg_forever.proofs.LateNumbers.{in_time_at, least_then, none_less, none_then}
use Rattle.teg_forever.proofs.Series.{some_is}

-- ---- the dates of one number

-- those of a row of the net without its inputs
pub least_dates : (net plain : NetLists) → IsNet net → IsLive net → plain ≡ without_inputs net → ZeroInputsAreNoLists → (k : ℕ) (dates : List Date) → 1 ≤ k
    → length dates ≡ length net.transitions → IsLeastRow plain k dates → AreLeastDates net k dates
least_dates net plain ok live same law k dates one full is = record {
  full = full;
  numbers = λ t l. is_number net plain ok live same law k dates is t l one;
  least = λ t l x least. tells net plain ok live same law k dates is t l x least;
}

-- by the number of rows that were given before
pub dates_at : (net : NetLists) (dates : List Date) (next k : ℕ) → next ≡ k → AreLeastDates net next dates → AreLeastDates net k dates
dates_at net dates next k e h = subst (λ (n : ℕ). AreLeastDates net n dates) e h

module _ (net : NetLists) (r : EndlessRow) (k due date : ℕ) (is_due : row_due r k ≡ Some due) (comes : InLeastAtZero net (λ x. x r.transition.index k ≡ At (pos date))) where
  pub in_time : date ≤ due → IsInTimeAt net r k
  in_time low x least = in_time_at x r k due date is_due (comes x least) low

  pub late_there : 1 ≤ k → due < date → IsLateFiringAt net r k (record { number = k; due = due; least = date })
  late_there one late = record { number = refl; late = λ x least. record { from_one = one; is_due = is_due; comes = comes x least; late = late } }

-- ---- rows one after another

module _ (net : NetLists) (rows : List EndlessRow) where
  -- one more is not late
  pub in_time_more : (k place : ℕ) (row : EndlessRow) → slice_get rows place ≡ Some row → IsInTimeAt net row k → AreInTimeAt net rows place k → AreInTimeAt net rows (place + 1) k
  in_time_more k place row stands here before i r l at = ⊎_elim
      (λ (same : i ≡ place).
      let there : slice_get rows place ≡ Some r = subst (λ (n : ℕ). slice_get rows n ≡ Some r) same at in
      subst (λ (z : EndlessRow). IsInTimeAt net z k) (some_is (slice_get rows place) row r stands there) here)
      (λ (low : i < place). before i r low at)
      (eq-or-lt_of_le {n = i} {m = place} (omega arith))

  -- one more number up to which a row has a late one
  pub lasts_more : (lasts : List ℕ) (last : ℕ) (row : EndlessRow) → length lasts < length rows → last ≤ greatest_firing_number → slice_get rows (length lasts) ≡ Some row
      → TellsWhetherLate net row last → AreLasts net rows lasts → AreLasts net rows (lasts ++ last ∷ [])
  lasts_more lasts last row room small stands tells h =
      let more : length (lasts ++ last ∷ []) ≡ length lasts + 1 = length-append lasts (last ∷ []) in
      let seam : get_or (lasts ++ last ∷ []) (length lasts) 0 ≡ last = get_or-append_seam lasts last [] 0 in
      record {
        count = omega (arith, more, room);
        few = λ i l. ⊎_elim
            (λ (low : i < length lasts). let old = h.few i low in let same : get_or (lasts ++ last ∷ []) i 0 ≡ get_or lasts i 0 = get_or-append lasts (last ∷ []) 0 i low in omega (arith, old, same))
            (λ (high : length lasts ≤ i).
            let end : length lasts ≡ i = omega (arith, l, more, high) in
            subst (λ (n : ℕ). get_or (lasts ++ last ∷ []) n 0 ≤ greatest_firing_number) end (omega (arith, seam, small)))
            (cases_lt i (length lasts));
        tell = λ i r l at. ⊎_elim
            (λ (low : i < length lasts). subst (TellsWhetherLate net r) (sym (get_or-append lasts (last ∷ []) 0 i low)) (h.tell i r low at))
            (λ (high : length lasts ≤ i).
            let end : length lasts ≡ i = omega (arith, l, more, high) in
            let there : slice_get rows (length lasts) ≡ Some r = subst (λ (n : ℕ). slice_get rows n ≡ Some r) (sym end) at in
            subst (λ (n : ℕ). TellsWhetherLate net r (get_or (lasts ++ last ∷ []) n 0)) end
            (subst (TellsWhetherLate net r) (sym seam) (subst (λ (z : EndlessRow). TellsWhetherLate net z last) (some_is (slice_get rows (length lasts)) row r stands there) tells)))
            (cases_lt i (length lasts));
      }

  module _ (lasts : List ℕ) where
    -- at first
    pub search_begun : (last : ℕ) → ((i : ℕ) → i < length lasts → get_or lasts i 0 ≤ last) → IsSearchedTo net rows lasts 0 (record { left = length lasts; until = last; found = None })
    search_begun last most = record {
      within = omega arith;
      until = most;
      none = λ i r l at x least k due date low late. let one : 1 ≤ k = late.from_one in omega arith;
      found = refl;
    }

    -- where none of the rows that are left is late at the next number
    pub search_kept : (k : ℕ) (s : Search) → AreInTimeAt net rows s.left k → IsSearchedTo net rows lasts (k - 1) s → IsSearchedTo net rows lasts k s
    search_kept k s here h = record {
      within = h.within;
      until = h.until;
      none = λ i r l at x least. none_then x r k (h.none i r l at x least) (here i r l at x least);
      found = h.found;
    }

    -- where one is
    pub search_found : (k until : ℕ) (s : Search) (l : LateRow) → IsLateAmong net rows s.left k l → ((i : ℕ) → i < l.place → get_or lasts i 0 ≤ until)
        → IsSearchedTo net rows lasts (k - 1) s → IsSearchedTo net rows lasts k (record { left = l.place; until = until; found = Some l.late })
    search_found k until s l late most h =
        let place : l.place < s.left = late.within in
        let within : s.left ≤ length lasts = h.within in
        record {
          within = omega (arith, place, within);
          until = most;
          none = λ i r low at x least. none_then x r k (h.none i r (omega (arith, low, place)) at x least) (late.before i r low at x least);
          found = record {
            row = late.row;
            is_row = late.is_row;
            least = λ x least. subst (λ (n : ℕ). IsLeastLate x late.row n l.late.due l.late.least) (sym late.late.number)
                (least_then x late.row k l.late.due l.late.least (h.none l.place late.row place late.is_row x least) (late.late.late x least));
          };
        }

    -- as far as all that are left ask
    pub search_ended : (k : ℕ) (s : Search) → AreLasts net rows lasts → ((i : ℕ) → i < s.left → get_or lasts i 0 ≤ k) → IsSearchedTo net rows lasts k s
        → IsSearchedThrough net rows (length lasts) s
    search_ended k s known far h = record {
      count_in = known.count;
      within = h.within;
      none = λ i r l at x least.
          let within : s.left ≤ length lasts = h.within in
          known.tell i r (omega (arith, l, within)) at x least (none_less x r k (get_or lasts i 0) (far i l) (h.none i r l at x least));
      found = h.found;
    }

  -- none of the first rows is late
  pub all_before : (place : ℕ) → place ≤ length rows → AreNeverLate net rows place → (x : ℕ → ℕ → Date) → IsLeastUnder net inputs_at_zero x → All (NoneLate x) (take place rows)
  all_before place within none x least j d w =
      let short : length (take place rows) ≡ place = length-take-le place rows within in
      let low : j < place = omega (arith, w, short) in
      let same : get_or (take place rows) j d ≡ get_or rows j d = get_or-take place rows j d low in
      subst (NoneLate x) (sym same) (none j (get_or rows j d) low (slice_get-get_or rows j d (omega (arith, low, within))) x least)
