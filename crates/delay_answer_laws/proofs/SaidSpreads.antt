-- What is shown of a timetable is said.
use Rattle.std.proofs.Common.{ℕ, ◌+◌, ◌<◌, ◌≤◌, ◌≡◌, ◌^◌, List, ◌∷◌, ◌++◌, [], get_or, length, map, refl, sym, ap, ◌∙◌, arith, inl, inr, ⊎_elim, codes}
use Rattle.std.specs.Prelude.{Option}
use Rattle.std.specs.Fmt.{decimal}
use Rattle.std.specs.List.{range_with_len}
use Rattle.std.proofs.lemmas.Bool.{cases_lt}
use Rattle.std.proofs.lemmas.List.{ext_get_or}
use Rattle.std.proofs.lemmas.List.FromFn.{get_or-map-range_with_len, length-map-range_with_len}
use Rattle.std.proofs.lemmas.Simd.{map-map}
use Rattle.delay_check.specs.ShownDelays.{KeepsWhatIsLeft, TellsDelays, delays_line, delays_lines}
use Rattle.delay_check.proofs.LastDelays.{ends_left, one_delay}
use Rattle.delay_laws.specs.declared.table.Timetable.{Timetable}
use Rattle.delay_laws.specs.DelayOutcomes.{IsRecovered, KeepsDelays}
use Rattle.delay_laws.specs.Delays.{AreDelaysLeft, IsFormOfDelays}
use Rattle.delay_laws.specs.PlannedTimetables.{greatest_delay}
use Rattle.delay_laws.specs.SettlingLaws.{AreSettledDelays}
use Rattle.delay_laws.proofs.Dated.{delays_left_are_within}
use Rattle.delay_laws.proofs.Steps.{forms_tell_delays}
use Rattle.release_nets.specs.PlannedNets.{IsNetTooLarge, IsPlannedNet, most_timetable_entries, most_timetable_transitions}
use Rattle.settled_laws.specs.SettledForms.{SettledForm, settled_length}
use Rattle.teg_net.specs.declared.entries.PlaceId.{PlaceId}
use Rattle.teg_net.specs.Circuits.{AreInRange, from_of, no_place}
use Rattle.teg_net.specs.Nets.{NetLists}
use Rattle.teg_net.proofs.PathLaws.{IsPathBetween-in_range}
use Rattle.teg_text.specs.Lines.{written}
use Rattle.teg_text.specs.WordsOfNames.{name_of_transition, settled_words}
use Rattle.teg_timetable.specs.DelayAnswers.{IsRightOutcome, IsSpread}
use Rattle.teg_timetable.specs.Spreads.{KeptTold, OutcomeTold, RecoveredTold, Spread, delay_by_spread}
use Rattle.teg_timetable.specs.TimetableTexts.{IsOutcomeToldOf, IsTimetableTold, delays_up_to, delays_line as told_line, delays_lines as told_delays, outcome_lines, spread_told, told_lines}
use Rattle.teg_timetable.proofs.Telling.{lines_from, rows_small}
use Rattle.delay_answer_laws.specs.SaidTimetables.{IsSaidOfTimetable, IsShownTimetable, KeepsLimit, SaidTimetablesAreShown, ShownKeptIsSaid, ShownRecoveredIsSaid}

-- words over numbers that are the same, number by number
same_words : {A : Type 0} (none : A) (f g : ℕ → A) (a n : ℕ) → ((k : ℕ) → a ≤ k → k < a + n → f k ≡ g k) → map f (range_with_len a n) ≡ map g (range_with_len a n)
same_words none f g a n h =
    ext_get_or none (map f (range_with_len a n)) (map g (range_with_len a n)) (length-map-range_with_len f a n ∙ sym (length-map-range_with_len g a n))
    (λ i l.
    let low : i < n = rw (length-map-range_with_len f a n) at l in
    get_or-map-range_with_len f a n i (a + i) none low refl ∙ (h (a + i) (omega arith) (omega arith) ∙ sym (get_or-map-range_with_len g a n i (a + i) none low refl)))

-- numbers past a bound begin at 1
some_number : (bound k : ℕ) → bound < k → 1 ≤ k
some_number bound k past = omega (arith, past)

-- delays up to the greatest have 64 bits
few_bits : (delay : ℕ) → delay ≤ greatest_delay → delay < 2 ^ 64
few_bits delay low = omega (arith, low)

-- the lines of the delays that are left, whichever function tells them
same_lines : (net : NetLists) (period : ℕ) (table : Timetable) → IsPlannedNet net period table → (delay told : ℕ → ℕ → ℕ) → AreDelaysLeft net period table delay
    → AreDelaysLeft net period table told → (firsts : List ℕ) → length firsts ≡ length net.transitions → (count : ℕ)
    → delays_lines net delay count ≡ told_delays net 0 (map (λ i. delays_up_to (told i) count) (range_with_len 0 (length firsts)))
same_lines net period table h delay told left own firsts width count =
    let lists : ℕ → List ℕ = λ i. delays_up_to (told i) count in
    let line : (i : ℕ) → 0 ≤ i → i < 0 + length net.transitions → delays_line net i (delay i) count ≡ told_line net i (lists i) = λ i _ l.
    ap (λ (words : List (List ℕ)). codes "delays" ∷ name_of_transition net (record { index = i }) ∷ words)
    (same_words [] (λ k. decimal (delay i k)) (λ k. decimal (told i k)) 1 count
    (λ k o _. ap decimal (one_delay net h.ends period table delay told left own i k (omega (arith, l)) o))
    ∙ sym (map-map decimal (told i) (range_with_len 1 count))) in
    same_words [] (λ i. delays_line net i (delay i) count) (λ i. told_line net i (lists i)) 0 (length net.transitions) line
    ∙ (sym (lines_from net lists 0 (length net.transitions)) ∙ ap (λ (n : ℕ). told_delays net 0 (map lists (range_with_len 0 n))) (sym width))

-- the whole text is the same
same_text : (net : NetLists) (outcome : OutcomeTold) (after turn : ℕ) (one two : List (List (List ℕ))) → one ≡ two
    → written (settled_words after turn ∷ (outcome_lines net outcome ++ one)) ≡ written (settled_words after turn ∷ (outcome_lines net outcome ++ two))
same_text net outcome after turn one two same =
    ap (λ (lines : List (List (List ℕ))). written (settled_words after turn ∷ (outcome_lines net outcome ++ lines))) same

module _ (net : NetLists) (period : ℕ) (table : Timetable) (h : IsPlannedNet net period table) (form : SettledForm) (is : IsFormOfDelays net period table form)
    (outcome : OutcomeTold) where
  -- the plan, the form and what becomes of the delays
  abbrev own_spread : Spread
  own_spread = record { firsts = table.firsts.items; every = period; form = form; outcome = outcome }

  -- the delays that the form tells
  abbrev told : ℕ → ℕ → ℕ
  told = delay_by_spread own_spread

  settled : AreSettledDelays net period table told form.after form.period
  settled = (forms_tell_delays net h.ends period table h.workable form is).0

  within : (i k : ℕ) → i < length net.transitions → 1 ≤ k → told i k ≤ greatest_delay
  within i k l o = delays_left_are_within net h.ends period table h.workable told settled.left greatest_delay (λ j d m. (h.table.delays_in j d m).by_in) i k l o

  not_too_large : IsNetTooLarge net → ⊥
  not_too_large large = ⊎_elim
      (λ (many : most_timetable_transitions < length net.transitions). omega (arith, many, h.few))
      (λ (many : most_timetable_entries < length net.transitions + length net.places). omega (arith, many, h.fits))
      large

  is_spread : (limit : Option ℕ) → KeepsLimit net period table limit → IsRightOutcome net period told outcome → IsSpread net period table limit own_spread
  is_spread limit low right = record {
    not_over = not_too_large;
    workable = h.workable;
    width = h.table.one_each;
    form = is;
    within = low form is;
    delays = settled.left;
    small = within;
    outcome = right;
  }

  is_told : form.after < 2 ^ 64 → form.period < 2 ^ 64 → IsOutcomeToldOf net outcome → IsTimetableTold net (spread_told own_spread)
  is_told after_in period_in about = record {
    after_in = after_in;
    period_in = period_in;
    outcome_in = about;
    each = length-map-range_with_len (λ i. delays_up_to (told i) (settled_length form)) 0 (length table.firsts.items) ∙ h.table.one_each;
    small = rows_small own_spread (length table.firsts.items) (settled_length form)
        (λ i l k o m. few_bits (told i k) (within i k (omega (arith, l, h.table.one_each)) o));
  }

  -- delays that die out do so before they come again
  last_in : (last : ℕ) → IsRecovered net told last → last ≤ form.after
  last_in last over = ⊎_elim
      (λ (past : form.after < last). ⊎_elim
      (λ (none : last ≡ 0). absurd (omega (arith, past, none)))
      (λ (late : (i : ℕ) × (i < length net.transitions) × (1 ≤ told i last)).
      let again = settled.comes_again late.0 last late.1 past in
      let some = settled.some in
      let none = over.none_after late.0 (last + form.period) late.1 (omega (arith, some)) in
      let above = late.2 in
      absurd (omega (arith, again, none, above)))
      over.last)
      (λ (low : last ≤ form.after). low)
      (cases_lt form.after last)

-- a text that tells the delays that are left, and what becomes of them, is said
said : (net : NetLists) (period : ℕ) (table : Timetable) (text : List ℕ) (outcome : OutcomeTold) → IsPlannedNet net period table
    → (tells : TellsDelays net period table text (outcome_lines net outcome))
    → ((delay : ℕ → ℕ → ℕ) → AreDelaysLeft net period table delay → IsRightOutcome net period delay outcome)
    → ((form : SettledForm) → (is : IsFormOfDelays net period table form) → form.after < 2 ^ 64 → IsOutcomeToldOf net outcome)
    → IsSaidOfTimetable net period table text
said net period table text outcome h tells right about bytes read limit low =
    let form = tells.0 in
    let is = tells.2 in
    inr (
      table,
      read,
      h.table,
      inl (
        refl,
        (
          own_spread net period table h form is outcome,
          is_spread net period table h form is outcome limit low (right (told net period table h form is outcome) (settled net period table h form is outcome).left),
          is_told net period table h form is outcome tells.3 tells.4 (about form is tells.3),
          tells.6
              ∙ same_text net outcome form.after form.period _ _
              (same_lines net period table h tells.1 (told net period table h form is outcome) tells.5 (settled net period table h form is outcome).left table.firsts.items
              h.table.one_each (settled_length form)),
        ),
      ),
    )

pub recovered_said : ShownRecoveredIsSaid
recovered_said net period table text last h =
    said net period table text (RecoveredTold last) h.planned h.told h.ends
    (λ form is after_in.
    let low = last_in net period table h.planned form is (RecoveredTold last) last
    (h.ends (told net period table h.planned form is (RecoveredTold last)) (settled net period table h.planned form is (RecoveredTold last)).left) in
    omega (arith, low, after_in))

pub kept_said : ShownKeptIsSaid
kept_said net period table text circuit h =
    said net period table text (KeptTold circuit) h.planned h.told h.keeps
    (λ form is after_in.
    let keeps = h.keeps (told net period table h.planned form is (KeptTold circuit)) (settled net period table h.planned form is (KeptTold circuit)).left in
    let closed = keeps.is_circuit.closed in
    IsPathBetween-in_range net circuit closed.0 closed.0 closed.1)

-- ---- and what is said is shown

-- a circuit that keeps delays that are left keeps them whichever function tells them
keeps_too : (net : NetLists) (period : ℕ) (table : Timetable) → IsPlannedNet net period table → (told : ℕ → ℕ → ℕ) → AreDelaysLeft net period table told
    → (circuit : List PlaceId) → KeepsDelays net period told circuit → KeepsWhatIsLeft net period table circuit
keeps_too net period table h told own circuit keeps delay left =
    let closed = keeps.is_circuit.closed in
    let inside : AreInRange net circuit = IsPathBetween-in_range net circuit closed.0 closed.0 closed.1 in
    record {
      is_circuit = keeps.is_circuit;
      lowest_first = keeps.lowest_first;
      no_spare = keeps.no_spare;
      late = λ i q l bound.
          let p = get_or circuit i q in
          let late = keeps.late i q l bound in
          let same = one_delay net h.ends period table delay told left own (from_of net p) late.0 (h.ends p.index no_place (inside i q l)).0 (some_number bound late.0 late.1) in
          let above = late.2 in
          (late.0, late.1, omega (arith, same, above));
    }

-- what is said of a timetable tells the delays that are left
tells_left : (net : NetLists) (period : ℕ) (table : Timetable) (text : List ℕ) (limit : Option ℕ) (spread : Spread) → IsPlannedNet net period table
    → IsSpread net period table limit spread → IsTimetableTold net (spread_told spread) → text ≡ written (told_lines net (spread_told spread))
    → TellsDelays net period table text (outcome_lines net spread.outcome)
tells_left net period table text limit spread h is about told = (
  spread.form,
  delay_by_spread spread,
  is.form,
  about.after_in,
  about.period_in,
  is.delays,
  told
      ∙ sym (same_text net spread.outcome spread.form.after spread.form.period _ _
      (same_lines net period table h (delay_by_spread spread) (delay_by_spread spread) is.delays is.delays spread.firsts is.width (settled_length spread.form))),
)

-- by what becomes of them
shown_by : (net : NetLists) (period : ℕ) (table : Timetable) (text : List ℕ) (told : ℕ → ℕ → ℕ) (outcome : OutcomeTold) → IsPlannedNet net period table
    → AreDelaysLeft net period table told → IsRightOutcome net period told outcome → TellsDelays net period table text (outcome_lines net outcome)
    → IsShownTimetable net period table text
shown_by net period table text told (RecoveredTold last) h own over tells =
    inr (last, record { planned = h; told = tells; ends = ends_left net h.ends period table told own last over })
shown_by net period table text told (KeptTold circuit) h own keeps tells =
    inl (circuit, record { planned = h; told = tells; keeps = keeps_too net period table h told own circuit keeps })

pub said_shown : SaidTimetablesAreShown
said_shown net period table text limit h said =
    let spread = said.1.0 in
    let is = said.1.1 in
    shown_by net period table text (delay_by_spread spread) spread.outcome h is.delays is.outcome
    (tells_left net period table text limit spread h is said.1.2 said.1.3)
