-- The answers of the commands are told.
use Rattle.std.proofs.Common.{ℕ, zero, suc, ◌+◌, ◌*◌, ◌≡◌, ◌≢◌, ◌≤◌, ◌<◌, ◌^◌, List, [], ◌∷◌, All, Option, Some, None, Ok, Err, length, map}
use Rattle.std.proofs.Common.{slice_index_or, decimal, refl, ap, ap₂, sym, subst, ◌∙◌, ⊎_elim, pos, negsuc, arith}
use Rattle.std.specs.Prelude.{IfSome, IsSomeAnd, slice_get}
use Rattle.std.specs.List.{range_with_len}
use Rattle.std.proofs.lemmas.Bool.{cases_lt}
use Rattle.std.proofs.lemmas.Int.{ints}
use Rattle.std.proofs.lemmas.List.Elements.{All-cons, All-nil}
use Rattle.std.proofs.lemmas.Option.{slice_get_past}
use Rattle.due_laws.proofs.LatestDates.{walk_ends_in}
use Rattle.teg_settle.proofs.teg_model_proofs.LiveRanks.{live_ranks}
use Rattle.teg_settle.proofs.teg_model_proofs.NetBound.{least_keeps_bound}
use Rattle.teg_settle.proofs.teg_model_proofs.OfNet.{net_ends}
use Rattle.teg_report.specs.dioid.declared.dates.Date.{Date}
use Rattle.teg_report.specs.dioid.declared.dates.Date.TheVariants.{Early, Never, At as on_date}
use Rattle.teg_net.specs.Limits.{greatest_firing_number}
use Rattle.teg_net.specs.Circuits.{IsLive}
use Rattle.teg_net.specs.Nets.{NetLists, IsNet}
use Rattle.teg_report.specs.date_rows.DateTables.{TableDates, HasDatesOf, IsDateTable, date_at, most_numbers}
use Rattle.teg_report.specs.teg_jit.declared.answers.LatestDate.{LatestDate}
use Rattle.teg_report.specs.teg_jit.declared.answers.LatestDate.TheVariants.{Free, At}
use Rattle.teg_report.specs.teg_jit.declared.answers.Onward.TheVariants.{Due, Next, By}
use Rattle.teg_report.specs.teg_due.RowRules.{due_in}
use Rattle.teg_report.specs.teg_jit.Plans.{PlanDates, IsPlanFor, HasOnward, dates_of_latest, latest_at, latest_in}
use Rattle.teg_report.specs.DateLists.{dated_firing, listed_count_line, names_line, number_line}
use Rattle.teg_report.specs.teg_model.DateBounds.{IsDateWithin, greatest_least_date}
use Rattle.teg_report.specs.teg_model.Datings.{IsLeastDating}
use Rattle.teg_report.specs.teg_text.Lines.{written}
use Rattle.teg_report.specs.teg_text.ValueWords.{IsDate, date_word}
use Rattle.teg_report.proofs.teg_text_proofs.LineBlocks.{cells_all}
use Rattle.teg_report.specs.PlanLines.{IsLateKept, IsLatePlanTold, IsLatestIn, IsPlanIn}
use Rattle.teg_files.specs.List.{list_text}
use Rattle.teg_bound.specs.declared.bound.BoundAnswer.{BoundAnswer}
use Rattle.teg_bound.specs.declared.bound.BoundAnswer.TheVariants.{Bound, HasInputs, NoPlace, NotStrong, ReadyDates}
use Rattle.teg_bound.specs.BoundTexts.{ToldBound, BoundTold, AreNumbersIn, IsCause, bound_lines, told_bound}
use Rattle.teg_cycle.proofs.Gathering.{certified}
use Rattle.teg_cycle.proofs.Telling.{answer_certifies}
use Rattle.teg_cycle.proofs.teg_certificates_proofs.Inside.{circuit_in_part}
use Rattle.endless_due.specs.declared.row.EndlessRow.{EndlessRow}
use Rattle.endless_due.specs.EndlessRows.{IsEndlessOf}
use Rattle.endless_due.specs.EndlessFiles.{endless_of}
use Rattle.teg_forever.specs.declared.releases.Release.{Release}
use Rattle.teg_forever.specs.declared.releases.Release.TheVariants.{Free as FreeRelease, Latest}
use Rattle.teg_forever.specs.EndlessTexts.{EndlessAnswer, Answered, Faulty, IsEndlessTold, IsReleaseTold, answer_lines}
use Rattle.teg_forever.specs.LatestReleases.{AreBeside, IsReleaseOf, inputs_of}
use Rattle.teg_howard.specs.policy_rounds.RunAnswers.{KeepsLimits}
use Rattle.teg_report.specs.teg_jit.declared.answers.JitRefusal.{JitRefusal}
use Rattle.teg_report.specs.teg_jit.declared.answers.JitRefusal.TheVariants.{Late, OutOfMemory as NoPlanRoom}
use Rattle.teg_report.specs.teg_jit.LateRefusals.{LateIsRight}
use Rattle.teg_report.specs.teg_due.declared.rows.DueRow.{DueRow}
use Rattle.teg_report.specs.teg_due.declared.rows.LogRow.{LogRow}
use Rattle.teg_net.specs.declared.answers.CycleAnswer.{CycleAnswer}
use Rattle.teg_net.specs.declared.answers.PartAnswer.{PartAnswer}
use Rattle.teg_net.specs.declared.answers.PartAnswer.TheVariants.{NoCircuit, Best}
use Rattle.teg_net.specs.declared.entries.Place.{Place}
use Rattle.teg_net.specs.declared.entries.PlaceId.{PlaceId}
use Rattle.teg_net.specs.declared.rounds.Round.{Round}
use Rattle.teg_net.specs.Certificates.{IsCertificate, IsPartCertificate}
use Rattle.teg_net.specs.Circuits.{from_of}
use Rattle.teg_net.specs.GreatestRatios.{HasNoCircuit}
use Rattle.teg_net.specs.PartAnswers.{IsPartAnswer}
use Rattle.teg_net.specs.Parts.{to_of, IsPlaceOfPart}
use Rattle.teg_net.specs.Ratios.{Fraction, IsRatioOf}
use Rattle.teg_report.specs.teg_outside.declared.monitor.Firing.{Firing}
use Rattle.teg_report.specs.teg_outside.Monitors.{IsOneLine}
use Rattle.teg_parts.specs.Partitions.{PartLists, AreParts}
use Rattle.teg_replay.specs.declared.refusal.FireRefusal.{FireRefusal}
use Rattle.teg_replay.specs.declared.refusal.FireRefusal.TheVariants.{Illegal, BackInTime, BeforeRelease, OutOfMemory as NoRunRoom}
use Rattle.teg_replay.specs.declared.replayed.Refused.{Refused as RefusedRow}
use Rattle.teg_replay.specs.declared.replayed.Replayed.{Replayed as Replay}
use Rattle.teg_replay.specs.Replays.{IsReplayOf}
use Rattle.teg_report.specs.declared.answer.Failure.{Failure}
use Rattle.teg_report.specs.AnswerMeanings.{late_lists}
use Rattle.teg_report.specs.teg_lines.CycleMeanings.{cycle_lists, round_lists}
use Rattle.teg_report.specs.AnswerValues.{Cycle, Refused}
use Rattle.teg_report.specs.FileRows.{IsDueKept, IsFailureIn, IsLogKept}
use Rattle.teg_report.specs.KeptAnswers.{IsAnswerTold}
use Rattle.teg_report.specs.teg_lines.RoundLines.{IsRunKept}
use Rattle.teg_report.specs.Series.{IsParseKept, IsSeriesRefusalKept}
use Rattle.teg_report.specs.teg_lines.Widths.{IsWord32}
use Rattle.teg_report.proofs.teg_lines_proofs.Certified.{certificate_told}
use Rattle.teg_settle.proofs.teg_loops_proofs.Through.{pass_back}
use Rattle.teg_sizing.specs.SizingTexts.{SaidSizing, SizingSaid, NoPlaceSaid, IsSizingSaid, IsSizingTold, said_lines, told_sizing}
use Rattle.teg_sizing.proofs.Reading.{circuit_in_net}
use Rattle.teg_timetable.specs.delay_laws.declared.table.Timetable.{Timetable}
use Rattle.teg_timetable.specs.delay_laws.PlannedTimetables.{IsTableOf}
use Rattle.teg_timetable.specs.timetable_files.TimetableFiles.{lists_of_table, timetable_of}
use Rattle.teg_timetable.specs.TimetableTexts.{ToldTimetable, IsTimetableText, IsTimetableTold, delay_told, spread_told, table_told, told_lines}
use Rattle.teg_outcome.specs.declared.outcome.Verdict.{Verdict}
use Rattle.teg_pace_commands.specs.Bound.{SaysNoNumber, SaysNumber}
use Rattle.teg_pace_commands.specs.Cycle.{AreRuns, IsCycleAnswer}
use Rattle.teg_commands.specs.Forever.{SaysBadEndless, SaysEndless, SaysReleases, SaysUnreleased}
use Rattle.teg_plan_commands.specs.Replay.{CanTellRefusal, IsToldAs}
use Rattle.teg_pace_commands.specs.Size.{HasPlaceName, SaysSizeOf, TellsNoPlace}
use Rattle.teg_date_commands.specs.Timetable.{SaysBadTable, SaysDelays, SaysSpread, SaysUnspread}
use Rattle.teg_commands.specs.ToldAnswers.{AnswersOfCommandsAreTold, IsListTold}
use Rattle.teg_pace_commands.proofs.CycleTold.{told_from}
use Rattle.teg_plan_commands.proofs.Replayed.{end_told}
use Rattle.teg_net_commands.proofs.Formed.{form_within}
use Rattle.teg_transfer.proofs.Transferred.{times_told}

in_64_bits : (number : ℕ) → number ≤ greatest_firing_number → number < 2 ^ 64
in_64_bits number h = omega (arith, h)

-- a first step of a plan is one of the net
onward_within : (net : NetLists) (due : ℕ → ℕ → Option ℕ) (y : ℕ → ℕ → Date) (t k : ℕ) (latest : LatestDate) → HasOnward net due y t k latest → IsLatestIn net latest
onward_within net due y t k Free h = tt
onward_within net due y t k (At d Due) h = tt
onward_within net due y t k (At d Next) h = tt
onward_within net due y t k (At d (By p)) h = h.0

plan_within : (net : NetLists) (due : ℕ → ℕ → Option ℕ) (plan : PlanDates) → IsPlanFor net due plan → IsPlanIn net plan
plan_within net due plan h =
    let onward = subst (λ (w : ℕ). (t k : ℕ) → t < w → 1 ≤ k → HasOnward net due (dates_of_latest w plan.dates) t k (latest_in w plan.dates t k)) (sym h.width) h.onward in
    record {
      width = h.width;
      each = λ t k l o m. onward_within net due (dates_of_latest plan.width plan.dates) t k (latest_at plan t k) (onward t k l o);
    }

-- ---- lists

-- functions that agree on a range have the same values there
same_values : {X : Type 0} (f g : ℕ → X) (a n : ℕ) → ((i : ℕ) → a ≤ i → i < a + n → f i ≡ g i) → map f (range_with_len a n) ≡ map g (range_with_len a n)
same_values f g a zero same = refl
same_values {X} f g a (suc n) same =
    ap₂ (λ (y : X) (l : List X). y ∷ l) (same a (omega arith) (omega arith)) (same_values f g (a + 1) n (λ i o l. same i (omega (arith, o)) (omega (arith, l))))

-- dates that agree up to a number have the same list
same_list : (net : NetLists) (x y : ℕ → ℕ → Date) (count : ℕ) → ((t k : ℕ) → t < length net.transitions → 1 ≤ k → k ≤ count → x t k ≡ y t k) →
    list_text net x count ≡ list_text net y count
same_list net x y count same =
    let width = length net.transitions in
    ap (λ (lines : List (List (List ℕ))). written (listed_count_line count ∷ names_line net ∷ lines))
    (same_values (number_line width x) (number_line width y) 1 count
    (λ k o m. ap (λ (dates : List (List ℕ)). decimal k ∷ dates) (same_values (dated_firing x k) (dated_firing y k) 0 width (λ t _ l. ap date_word (same t k (omega (arith, l)) o (omega (arith, m)))))))

small_date : (d : Date) → IsDateWithin greatest_least_date d → IsDate d
small_date Early h = tt
small_date (on_date (pos n)) h = (let most : n ≤ 2 * 10 ^ 30 = omega (arith, ints, h.1) in omega (arith, most))
small_date (on_date (negsuc n)) h = absurd (omega (arith, ints, h.0))
small_date Never h = tt

least_is_date : (net : NetLists) (x : ℕ → ℕ → Date) → IsNet net → IsLive net → IsLeastDating net x → (t k : ℕ) → t < length net.transitions → 1 ≤ k → k ≤ most_numbers → IsDate (x t k)
least_is_date net x ok live least t k l o m =
    let ranks = live_ranks net (net_ends net ok) live in
    small_date (x t k)
    (least_keeps_bound net x (suc (suc (length net.transitions))) ranks.0 ok (omega (arith, ok.few_transitions)) ranks.1 least t k l o (omega (arith, m)))

list_told : (net : NetLists) (x : ℕ → ℕ → Date) (table : TableDates) → IsNet net → IsLive net → IsLeastDating net x → IsDateTable table → table.width ≡ length net.transitions →
    HasDatesOf net x table → IsListTold net x table
list_told net x table ok live least limits width has =
    let dates : (t k : ℕ) → t < table.width → 1 ≤ k → k ≤ table.count → IsDate (date_at table t k) =
    λ t k l o m. subst IsDate (sym (has t k (omega (arith, l, width)) o m)) (least_is_date net x ok live least t k (omega (arith, l, width)) o (omega (arith, m, limits.count_in))) in
    record {
      told = record { keeps_rules = ok; about = width; kept = (limits, cells_all IsDate table.width table.count table.dates Early limits.full dates) };
      text = same_list net (date_at table) x table.count has;
    }

-- ---- cycle times

-- a strong part in which no circuit lies has no place
none_inside : (net : NetLists) → IsNet net → (parts : PartLists) → AreParts net parts → (k : ℕ) → HasNoCircuit net (IsPlaceOfPart net parts.part_of k) →
    (p : PlaceId) → IsPlaceOfPart net parts.part_of k p → ⊥
none_inside net ok parts strong k none p inside =
    let from = inside.from_member in
    let to = inside.to_member in
    let back = ((strong.strong.strong (to_of net p) (from_of net p) to.in_range from.in_range).0 (to.here ∙ sym from.here)).0 in
    let round = (pass_back net p inside.in_range).1 back in
    let lies = circuit_in_part net (net_ends net ok) parts.part_of strong.strong.count strong.rises round.0 round.1 in
    let here : IsPlaceOfPart net parts.part_of lies.0 p = subst (IsPlaceOfPart net parts.part_of lies.0) round.2.2 (lies.1 round.2.0 p round.2.1) in
    let same : lies.0 ≡ k = sym here.from_member.here ∙ from.here in
    none round.0 round.1 (subst (λ (m : ℕ). All (IsPlaceOfPart net parts.part_of m) round.0) same lies.1)

part_certified : (net : NetLists) → IsNet net → (parts : PartLists) → AreParts net parts → (k : ℕ) (answer : PartAnswer) → IsPartAnswer net parts.part_of k answer → KeepsLimits answer →
    IsPartCertificate net parts.part_of k answer
part_certified net ok parts strong k NoCircuit is keeps = none_inside net ok parts strong k is
part_certified net ok parts strong k (Best ratio circuit potentials) is keeps = answer_certifies net parts.part_of k (Best ratio circuit potentials) is keeps (λ e. cc)

-- cycle times are a certificate
is_certificate : (net : NetLists) (answer : CycleAnswer) → IsNet net → IsCycleAnswer net answer → IsCertificate net answer
is_certificate net answer ok h =
    let parts : PartLists = record { part_of = answer.part_of.items; inner = h.strong.0 } in
    certified net parts answer h.strong.1 refl h.strong.2
    (λ k l. part_certified net ok parts h.strong.1 k (slice_index_or answer.parts.items k NoCircuit) (h.parts k l) (h.limits k NoCircuit l)) h.first

times_are_told : (net : NetLists) (answer : CycleAnswer) (best : ℕ) → IsNet net → IsCycleAnswer net answer → answer.best ≡ Some best → IsAnswerTold (Some net) (Cycle (cycle_lists answer) None)
times_are_told net answer best ok is e =
    record { keeps_rules = ok; about = (certificate_told net answer best (is_certificate net answer ok is) e, tt); kept = tt }

rounds_are_told : (net : NetLists) (answer : CycleAnswer) (runs : List (List Round)) (best : ℕ) → IsNet net → IsCycleAnswer net answer → AreRuns net answer runs →
    All IsRunKept (map (map round_lists) runs) → answer.best ≡ Some best → IsAnswerTold (Some net) (Cycle (cycle_lists answer) (Some (map (map round_lists) runs)))
rounds_are_told net answer runs best ok is run kept e =
    let cert = is_certificate net answer ok is in
    record {
      keeps_rules = ok;
      about = (certificate_told net answer best cert e, told_from net answer.part_of.items 0 answer.parts.items runs cert.count run);
      kept = kept;
    }

-- ---- late rows, and replays

late_within : (net : NetLists) (rows : List DueRow) (refusal : JitRefusal) → IsNet net → LateIsRight net rows refusal → IsLateKept (late_lists refusal) → IsLatePlanTold net (late_lists refusal)
late_within net rows (Late t number due least start walk) ok right kept =
    let is = right.1.is_walk in
    record {
      transition = (walk_ends_in net (net_ends net ok) walk.steps.items walk.start.index walk.number t.index number is.start_in is.number_in right.1.ends).0;
      path = record { inside = is.start_in; walks = is.steps; numbers = is.numbers };
    }
late_within net rows NoPlanRoom ok right kept = absurd kept

failure_within : (net : NetLists) (why : FireRefusal) (failure : Failure) → CanTellRefusal net why → IsToldAs why failure → IsFailureIn (Some net) failure
failure_within net (Illegal place ready) failure can e = subst (IsFailureIn (Some net)) (sym e) can
failure_within net (BackInTime last) failure can e = subst (IsFailureIn (Some net)) (sym e) tt
failure_within net (BeforeRelease release) failure can e = subst (IsFailureIn (Some net)) (sym e) tt
failure_within net NoRunRoom failure can e = absurd can

refused_told : (net : NetLists) (rows : List LogRow) (firings : List Firing) (replay : Replay) (refused : RefusedRow) (failure : Failure) (lines : List (List ℕ)) → IsNet net →
    IsReplayOf net rows firings replay → replay.refused ≡ Some refused → IsToldAs refused.why failure → IsWord32 refused.row → All IsOneLine lines →
    IsAnswerTold (Some net) (Refused refused.row failure lines)
refused_told net rows firings replay refused failure lines ok of e named row one_line =
    let can = subst (λ (o : Option RefusedRow). IfSome o (λ r. CanTellRefusal net r.why)) e (end_told net rows (length firings) replay.refused of.ends) in
    record { keeps_rules = ok; about = (failure_within net refused.why failure can named, one_line); kept = row }

-- ---- sizes

named_within : (places : List Place) (i : ℕ) (P : Place → Type 0) → IsSomeAnd (slice_get places i) P → i < length places
named_within places i P h =
    ⊎_elim (λ (l : i < length places). l) (λ (l : length places ≤ i). absurd (subst (λ (o : Option Place). IsSomeAnd o P) (slice_get_past places i l) h)) (cases_lt i (length places))

abbrev IsSizeSaid : NetLists → List ℕ → Type 0
IsSizeSaid net text = (said : SaidSizing) × IsSizingSaid net said × (text ≡ written (said_lines net said))

no_place_said : (net : NetLists) (word : List ℕ) (verdict : Verdict) (text : List ℕ) → All (λ p. p.name ≢ word) net.places × TellsNoPlace word verdict text → IsSizeSaid net text
no_place_said net word verdict text h = (NoPlaceSaid word, h.1.1, h.1.2)

size_said : (net : NetLists) (word : List ℕ) (time tokens : ℕ) (verdict : Verdict) (text : List ℕ) →
    (p : PlaceId) × (r : Fraction) × HasPlaceName net p word × IsRatioOf time tokens r × SaysSizeOf p r net verdict text → IsSizeSaid net text
size_said net word time tokens verdict text h =
    let s = h.4.1 in
    let told : IsSizingTold net h.0 h.1 (told_sizing s.0) = record {
      place = named_within net.places h.0.index (λ place. place.name ≡ word) h.2;
      time = s.2.0;
      tokens = s.2.1;
      circuit = circuit_in_net net h.1 h.0 s.0 s.1;
      number = s.3;
    } in
    (SizingSaid h.0 h.1 (told_sizing s.0), told, s.4)

-- ---- due dates without end

abbrev IsEndlessSaid : NetLists → List ℕ → Type 0
IsEndlessSaid net text = (said : EndlessAnswer) × IsEndlessTold net said × (text ≡ written (answer_lines net said))

release_told : (net : NetLists) (rows : List EndlessRow) (u : ℕ) (release : Release) → IsReleaseOf net rows u release → IsReleaseTold release
release_told net rows u FreeRelease h = tt
release_told net rows u (Latest series) h = h.0

releases_told : (net : NetLists) (rows : List EndlessRow) (inputs : List ℕ) (releases : List Release) → AreBeside (IsReleaseOf net rows) inputs releases → All IsReleaseTold releases
releases_told net rows [] [] h = All-nil IsReleaseTold
releases_told net rows [] (r ∷ releases) h = absurd h
releases_told net rows (u ∷ inputs) [] h = absurd h
releases_told net rows (u ∷ inputs) (r ∷ releases) h = All-cons IsReleaseTold r releases (release_told net rows u r h.0) (releases_told net rows inputs releases h.1)

faulty_said : (net : NetLists) (bytes : List ℕ) (verdict : Verdict) (text : List ℕ) → SaysBadEndless net bytes verdict text → IsEndlessSaid net text
faulty_said net bytes verdict text h = (Faulty h.0, h.2.2, h.2.3)

releases_said : (net : NetLists) (rows : List EndlessRow) (verdict : Verdict) (text : List ℕ) → SaysReleases net rows verdict text → IsEndlessSaid net text
releases_said net rows verdict text h = let s = h.1 in (Answered (Ok s.0), (s.1.each_input, releases_told net rows (inputs_of net) s.0 s.1.right), s.2)

unreleased_said : (net : NetLists) (rows : List EndlessRow) (verdict : Verdict) (text : List ℕ) → SaysUnreleased net rows verdict text → IsEndlessSaid net text
unreleased_said net rows verdict text h = (Answered (Err h.0), h.3, h.4)

endless_said : (net : NetLists) (bytes : List ℕ) (verdict : Verdict) (text : List ℕ) →
    (rows : List EndlessRow) × (endless_of net bytes ≡ Ok rows) × IsEndlessOf net rows × SaysEndless net rows verdict text → IsEndlessSaid net text
endless_said net bytes verdict text h = ⊎_elim (releases_said net h.0 verdict text) (unreleased_said net h.0 verdict text) h.3

-- ---- timetables

abbrev IsTimetableSaid : NetLists → List ℕ → Type 0
IsTimetableSaid net text = (told : ToldTimetable) × IsTimetableTold net told × (text ≡ written (told_lines net told))

some_said : (net : NetLists) (told : Option ToldTimetable) (text : List ℕ) → IfSome told (IsTimetableTold net) → IsTimetableText net told text → IsTimetableSaid net text
some_said net None text kept h = absurd h
some_said net (Some told) text kept h = (told, kept, h)

bad_table_said : (net : NetLists) (bytes : List ℕ) (verdict : Verdict) (text : List ℕ) → SaysBadTable net bytes verdict text → IsTimetableSaid net text
bad_table_said net bytes verdict text h = some_said net (table_told h.0) text h.2.1 h.2.2

spread_said : (period : ℕ) (limit : Option ℕ) (net : NetLists) (table : Timetable) (verdict : Verdict) (text : List ℕ) → SaysSpread period limit net table verdict text → IsTimetableSaid net text
spread_said period limit net table verdict text h = let s = h.1 in (spread_told s.0, s.2, s.3)

unspread_said : (period : ℕ) (limit : Option ℕ) (net : NetLists) (table : Timetable) (verdict : Verdict) (text : List ℕ) → SaysUnspread period limit net table verdict text → IsTimetableSaid net text
unspread_said period limit net table verdict text h = some_said net (delay_told h.0) text h.2.1 h.2.2

delays_said : (period : ℕ) (limit : Option ℕ) (net : NetLists) (bytes : List ℕ) (verdict : Verdict) (text : List ℕ) →
    (table : Timetable) × (timetable_of net bytes ≡ Ok (lists_of_table table)) × IsTableOf net table × SaysDelays period limit net table verdict text → IsTimetableSaid net text
delays_said period limit net bytes verdict text h = ⊎_elim (spread_said period limit net h.0 verdict text) (unspread_said period limit net h.0 verdict text) h.3

-- ---- bounds

abbrev IsBoundSaid : List ℕ → Type 0
IsBoundSaid text = (told : ToldBound) × AreNumbersIn told × (text ≡ written (bound_lines told))

cause_in : (answer : BoundAnswer) → IsCause answer → AreNumbersIn (told_bound answer 0 0)
cause_in (Bound number) h = absurd h
cause_in HasInputs h = tt
cause_in NoPlace h = tt
cause_in NotStrong h = tt
cause_in ReadyDates h = tt

number_said : (net : NetLists) (text : List ℕ) → SaysNumber net text → IsBoundSaid text
number_said net text h = (BoundTold h.0 h.1.after h.1.period, h.5, h.6)

cause_said : (net : NetLists) (text : List ℕ) → SaysNoNumber net text → IsBoundSaid text
cause_said net text h = (told_bound h.0 0 0, cause_in h.0 h.1, h.3)

pub answers_told : AnswersOfCommandsAreTold
answers_told = record {
  list = list_told;
  form = λ net form ok stands stars entries. record { keeps_rules = ok; about = form_within net ok form stands; kept = (stars, entries) };
  dates = λ net f ok stands kept. record { keeps_rules = ok; about = stands.2.stands.sizes.rows_are; kept = kept };
  date = λ net t number date ok within few kept. record { keeps_rules = ok; about = within; kept = (in_64_bits number few, kept) };
  slack = λ net r slacks ok stands ratio kept. record { keeps_rules = ok; about = stands.each; kept = (ratio, kept) };
  transfer = λ net limit times ok stands kept. record { keeps_rules = ok; about = times_told net limit times stands; kept = kept };
  plan = λ net rows plan ok stands kept. record { keeps_rules = ok; about = plan_within net (due_in rows) plan stands.plan_for; kept = kept };
  cycle = times_are_told;
  rounds = rounds_are_told;
  late = λ net rows refusal ok right kept. record { keeps_rules = ok; about = late_within net rows refusal ok right kept; kept = kept };
  replayed = λ net accepted lines ok number one_line. record { keeps_rules = ok; about = one_line; kept = number };
  refused = refused_told;
  trial = λ machines places r critical last kept. record { keeps_rules = tt; about = tt; kept = kept };
  no_transition = λ word bytes. record { keeps_rules = tt; about = tt; kept = bytes };
  due = λ refusal kept. record { keeps_rules = tt; about = λ e. subst IsDueKept e kept; kept = kept };
  log = λ refusal kept. record { keeps_rules = tt; about = λ e. subst IsLogKept e kept; kept = kept };
  parse = λ refusal kept. record { keeps_rules = tt; about = λ e. subst IsParseKept e kept; kept = kept };
  series = λ refusal kept. record { keeps_rules = tt; about = λ e. subst IsSeriesRefusalKept e kept; kept = kept };
  size = λ net word time tokens verdict text says. ⊎_elim (no_place_said net word verdict text) (size_said net word time tokens verdict text) says;
  forever = λ net bytes verdict text says. ⊎_elim (faulty_said net bytes verdict text) (endless_said net bytes verdict text) says;
  timetable = λ period limit net bytes verdict text says. ⊎_elim (bad_table_said net bytes verdict text) (delays_said period limit net bytes verdict text) says;
  bound = λ net verdict text says. ⊎_elim (number_said net text) (cause_said net text) says.1;
}
