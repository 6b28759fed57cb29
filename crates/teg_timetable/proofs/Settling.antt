-- What the settled form of the net with the releases as inputs tells of the delays.
use Rattle.std.proofs.Common.{ℕ, ◌+◌, ◌<◌, ◌≤◌, length, Option, arith, ⊎_elim}
use Rattle.std.proofs.lemmas.Bool.{cases_lt}
use Rattle.std.proofs.lemmas.List.{get_or_past}
use Rattle.delay_laws.specs.declared.table.Timetable.{Timetable}
use Rattle.delay_laws.specs.PlannedTimetables.{greatest_delay}
use Rattle.delay_laws.specs.Delays.{IsFormOfDelays}
use Rattle.delay_laws.specs.SettlingLaws.{AreSettledDelays, TellsDelays}
use Rattle.delay_laws.proofs.Dated.{delays_left_are_within}
use Rattle.delay_laws.proofs.Steps.{forms_tell_delays}
use Rattle.teg_settle.specs.settled_laws.SettledForms.{SettledForm, settled_length}
use Rattle.teg_net.specs.Nets.{NetLists}
use Rattle.teg_net.specs.Limits.{most_rows}
use Rattle.teg_net.proofs.PathLaws.{IsPathBetween-in_range}
use Rattle.teg_timetable.specs.declared.refusals.DelayRefusal.{DelayRefusal}
use Rattle.teg_timetable.specs.declared.refusals.DelayRefusal.TheVariants.{TooLarge, Unworkable, TooLong, OutOfMemory}
use Rattle.teg_timetable.specs.DelayAnswers.{IsDelayRefusal, IsOutcomeIn, IsSettlingRefusal, IsRightOutcome, IsSpread, IsLengthWithinLimit}
use Rattle.release_nets.specs.PlannedNets.{IsNetTooLarge, IsPlannedNet, most_timetable_entries, most_timetable_transitions}
use Rattle.teg_timetable.specs.Spreads.{AreLeftDelays, LeftDelays, OutcomeTold, RecoveredTold, KeptTold, delay_left}

-- the delays by a plan and a form
abbrev pub left_of : ℕ → Timetable → SettledForm → LeftDelays
left_of period t f = record { firsts = t.firsts.items; every = period; form = f }

module _ (net : NetLists) (period : ℕ) (t : Timetable) (h : IsPlannedNet net period t) where
  not_over : IsNetTooLarge net → ⊥
  not_over =
      let few = h.few in
      let fits = h.fits in
      ⊎_elim (λ (many : most_timetable_transitions < length net.transitions). omega arith)
      (λ (many : most_timetable_entries < length net.transitions + length net.places). omega arith)

  -- a limit that each form of the net with the releases as inputs exceeds is exceeded by the delays
  pub exceeds : (d : NetLists) (limit : Option ℕ) → TellsDelays net period t d → (e : DelayRefusal) → IsSettlingRefusal d limit e → IsDelayRefusal net period t limit e
  exceeds d limit tells (TooLarge transitions places) own = absurd own
  exceeds d limit tells (Unworkable place) own = absurd own
  exceeds d limit tells (TooLong l) own = (not_over, h.workable, own.0, tells.past l own.1)
  exceeds d limit tells OutOfMemory own = own

  -- no delay that is left exceeds the limit of those that are given
  small_left : (f : SettledForm) → IsFormOfDelays net period t f → (i k : ℕ) → i < length net.transitions → 1 ≤ k → delay_left (left_of period t f) i k ≤ greatest_delay
  small_left f form i k l o =
      let tells = forms_tell_delays net h.ends period t h.workable f form in
      delays_left_are_within net h.ends period t h.workable (delay_left (left_of period t f)) tells.0.left greatest_delay
      (λ j d m. (h.table.delays_in j d m).by_in) i k l o

  pub left_delays : (f : SettledForm) → IsFormOfDelays net period t f → settled_length f ≤ most_rows → AreLeftDelays (left_of period t f)
  left_delays f form short =
      let tells = forms_tell_delays net h.ends period t h.workable f form in
      let sizes = form.3.stands.sizes in
      let rows = sizes.rows_are in
      let each = h.table.one_each in
      let few = h.few in
      record {
        few = omega arith;
        rows = omega arith;
        firsts_in = λ i. ⊎_elim
            (λ (l : i < length t.firsts.items). h.table.firsts_in i 0 l)
            (λ (past : length t.firsts.items ≤ i). let none = get_or_past t.firsts.items i 0 past in omega arith)
            (cases_lt i (length t.firsts.items));
        every_in = h.period_in;
        some = sizes.at_least_one;
        short = short;
        dates = λ i k l o _. tells.1 i k (omega (arith, l)) o;
        small = λ i k l o _. small_left f form i k (omega (arith, l)) o;
      }

  -- the delays of this plan by a form
  module _ (f : SettledForm) (form : IsFormOfDelays net period t f) where
    pub settled_left : AreSettledDelays net period t (delay_left (left_of period t f)) f.after f.period
    settled_left = (forms_tell_delays net h.ends period t h.workable f form).0

    pub spread_is : (limit : Option ℕ) → IsLengthWithinLimit limit (settled_length f) → (o : OutcomeTold) → IsRightOutcome net period (delay_left (left_of period t f)) o
        → IsSpread net period t limit (record { firsts = t.firsts.items; every = period; form = f; outcome = o })
    spread_is limit within o right =
        record {
          not_over = not_over;
          workable = h.workable;
          width = h.table.one_each;
          form = form;
          within = within;
          delays = settled_left.left;
          small = small_left f form;
          outcome = right;
        }

-- the circuit that is told is in the net
pub outcome_in : (net : NetLists) (period : ℕ) (delay : ℕ → ℕ → ℕ) (o : OutcomeTold) → IsRightOutcome net period delay o → IsOutcomeIn net o
outcome_in net period delay (RecoveredTold after) h = tt
outcome_in net period delay (KeptTold circuit) h = IsPathBetween-in_range net circuit h.is_circuit.closed.0 h.is_circuit.closed.0 h.is_circuit.closed.1
