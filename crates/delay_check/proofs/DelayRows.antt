-- Delays by rows of dates.
use Rattle.std.proofs.Common.{ℕ, ℤ, ◌+◌, ◌-◌, ◌*◌, ◌^◌, ◌<◌, ◌≤◌, ◌≡◌, ◌++◌, true, leb, List, [], length, map, get_or, sym, ap, ◌∙◌, arith}
use Rattle.std.specs.List.{range_with_len}
use Rattle.std.proofs.lemmas.Bool.Decides.{nat_tests}
use Rattle.std.proofs.lemmas.List.FromFn.{get_or-map-range_with_len, length-map-range_with_len}
use Rattle.dioid.specs.declared.dates.Date.{Date}
use Rattle.dioid.specs.declared.dates.Date.TheVariants.{Early}
use Rattle.dating_certificates.specs.CheckedRows.{date_in_rows}
use Rattle.settled_certificates.specs.SettledRows.{form_by_rows}
use Rattle.delay_laws.specs.declared.table.Timetable.{Timetable}
use Rattle.delay_laws.specs.Delays.{IsFormOfDelays}
use Rattle.delay_laws.specs.PlannedTimetables.{planned}
use Rattle.delay_laws.specs.SettlingLaws.{natural_of_date}
use Rattle.delay_laws.proofs.Steps.{forms_tell_delays}
use Rattle.release_nets.specs.PlannedNets.{IsPlannedNet}
use Rattle.settled_laws.specs.SettledForms.{row_date, settled_date}
use Rattle.teg_net.specs.Nets.{NetLists}
use Rattle.teg_text.specs.Lines.{line_then, written}
use Rattle.teg_text.specs.WordsOfNames.{settled_words}
use Rattle.delay_check.specs.DelayRows.{delay_by_rows}
use Rattle.delay_check.specs.ShownDelays.{TellsDelays, delays_lines}
use Rattle.delay_check.proofs.Texts.{lines_behind}

-- the date that a form by rows tells at a number that the rows have
date_by_rows : (width : ℕ) (dates : List Date) (after turn : ℕ) (steps : List ℤ) (i k : ℕ) → i < width → 1 ≤ k → k ≤ after + turn
    → settled_date (form_by_rows width dates after turn steps) i k ≡ date_in_rows width dates i k
date_by_rows width dates after turn steps i k l o m =
    let inside : leb k (after + turn) ≡ true = grind (arith, nat_tests) in
    let row : get_or (map (λ u. map (date_in_rows width dates u) (range_with_len 1 (after + turn))) (range_with_len 0 width)) i []
    ≡ map (date_in_rows width dates i) (range_with_len 1 (after + turn)) =
    get_or-map-range_with_len (λ u. map (date_in_rows width dates u) (range_with_len 1 (after + turn))) 0 width i i [] l (omega arith) in
    let own : row_date (form_by_rows width dates after turn steps) i k ≡ date_in_rows width dates i k =
    rw row (get_or-map-range_with_len (date_in_rows width dates i) 1 (after + turn) (k - 1) k Early (omega arith) (omega arith)) in
    rw inside own

-- the delay at a number that the rows have
pub delay_is : (width : ℕ) (dates : List Date) (after turn : ℕ) (steps : List ℤ) (period : ℕ) (table : Timetable) (i before : ℕ) → i < width → before < after + turn
    → delay_by_rows width dates after turn steps period table i (before + 1)
    ≡ natural_of_date (get_or dates (before * width + i) Early) - planned period table i (before + 1)
delay_is width dates after turn steps period table i before l m =
    let back : before + 1 - 1 ≡ before = omega arith in
    let date : settled_date (form_by_rows width dates after turn steps) i (before + 1) ≡ get_or dates (before * width + i) Early =
    date_by_rows width dates after turn steps i (before + 1) l (omega arith) (omega arith) ∙ ap (λ (n : ℕ). get_or dates (n * width + i) Early) back in
    ap (λ (d : Date). natural_of_date d - planned period table i (before + 1)) date

-- a form of delays has two rows for each transition
pub as_wide : (net : NetLists) (period : ℕ) (table : Timetable) (wide : ℕ) (dates : List Date) (after turn : ℕ) (steps : List ℤ)
    → IsFormOfDelays net period table (form_by_rows wide dates after turn steps) → wide ≡ length net.transitions + length net.transitions
as_wide net period table wide dates after turn steps form =
    sym (length-map-range_with_len (λ t. map (date_in_rows wide dates t) (range_with_len 1 (after + turn))) 0 wide) ∙ form.3.stands.sizes.rows_are

-- a text of the delays that such a form tells, with these lines of what becomes of them
pub tells_delays : (net : NetLists) (period : ℕ) (table : Timetable) (text outcome : List ℕ) (lines : List (List (List ℕ))) (width : ℕ) (dates : List Date) (after turn : ℕ) (steps : List ℤ)
    → IsPlannedNet net period table → IsFormOfDelays net period table (form_by_rows width dates after turn steps) → after < 2 ^ 64 → turn < 2 ^ 64 → outcome ≡ written lines
    → text ≡ (line_then (settled_words after turn) [] ++ outcome) ++ written (delays_lines net (delay_by_rows width dates after turn steps period table) (after + turn))
    → TellsDelays net period table text lines
tells_delays net period table text outcome lines width dates after turn steps h form after_in turn_in is told =
    let first = settled_words after turn in
    let delays = delays_lines net (delay_by_rows width dates after turn steps period table) (after + turn) in (
      form_by_rows width dates after turn steps,
      delay_by_rows width dates after turn steps period table,
      form,
      after_in,
      turn_in,
      (forms_tell_delays net h.ends period table h.workable (form_by_rows width dates after turn steps) form).0.left,
      lines_behind (line_then first [] ++ outcome) text first lines delays (ap (λ (l : List ℕ). line_then first [] ++ l) is) told,
    )
