-- The late number that the search by turns finds, and the settled form that it goes by.
use Rattle.std.proofs.Common.{ℕ, ℤ, ◌≡◌, ◌<◌, ◌≤◌, ◌+◌, ◌*◌, ◌∙◌, pos, Some, All, length, get_or, take, refl, sym, subst, ap, arith}
use Rattle.std.specs.Prelude.{slice_get}
use Rattle.std.proofs.lemmas.Int.{ints}
use Rattle.std.proofs.lemmas.List.{get_or-take, length-take-le}
use Rattle.std.proofs.lemmas.Option.{slice_get_within, get_or_from_slice_get}
use Rattle.dioid.specs.declared.dates.Date.{Date}
use Rattle.dioid.specs.declared.dates.Date.TheVariants.{At}
use Rattle.dioid.specs.Dates.{move}
use Rattle.dioid.proofs.Moves.{at_inj}
use Rattle.teg_net.specs.Nets.{NetLists, HasEndsInRange, without_inputs}
use Rattle.teg_net.proofs.NetRules.{net_ends}
use Rattle.teg_net.specs.Circuits.{IsLive}
use Rattle.forever_laws.specs.teg_model.DateBounds.{IsDateWithin, greatest_least_date}
use Rattle.forever_laws.specs.settled_laws.SettledForms.{SettledForm, IsSettledFormOf, settled_date, step_of_form}
use Rattle.forever_laws.proofs.settled_laws_proofs.Telling.{form_tells}
use Rattle.teg_settle.specs.settled_forms.KeptForms.{IsFormKept}
use Rattle.endless_due.specs.declared.row.EndlessRow.{EndlessRow}
use Rattle.endless_due.specs.EndlessRows.{IsEndlessRow}
use Rattle.forever_laws.specs.Late.{NoneLateTo, NoneLate, IsLeastLate}
use Rattle.forever_laws.specs.LateSearches.{IsCommonPeriodOf, IsSoonest, turns_to}
use Rattle.forever_laws.specs.EndlessDues.{TurnsTellLate, LateIsSoon, StepsAreFromZero, ZeroInputsAreNoLists, ZeroMeetsWhereNoneLate}
use Rattle.forever_laws.proofs.Zeros.{date_is, least_number}
use Rattle.teg_forever.specs.Asked.{AreMetAtZero, AreRankedRows, RankedRows}
use Rattle.teg_forever.specs.LateFirings.{GoesOnBySteps, IsSettledRow, IsZeroForm, IsClimbing, IsSoonLate}
use Rattle.teg_forever.specs.LatestReleases.{IsLateAnswer}
use Rattle.teg_forever.proofs.LateNumbers.{none_to_as, none_as, least_as, soonest_as}

module _ (net : NetLists) (ends : HasEndsInRange net) (live : IsLive net) (f : SettledForm) (form : IsZeroForm net f) where
  pub tells : (t k : ℕ) → t < length net.transitions → 1 ≤ k → settled_date f t k ≡ form.dating t k
  tells t k lt one = form_tells (length net.transitions) f form.dating form.stands t k lt one

  number : (t k : ℕ) → t < length net.transitions → 1 ≤ k → settled_date f t k ≡ At (pos (least_number net ends live form.dating form.least t k))
  number t k lt one = tells t k lt one ∙ date_is net ends live form.dating form.least t k lt one

  low_number : (t k m : ℕ) → IsDateWithin greatest_least_date (settled_date f t k) → settled_date f t k ≡ At (pos m) → m ≤ greatest_least_date
  low_number t k m h e = let w = subst (IsDateWithin greatest_least_date) e h in omega (arith, ints, w.1)

  -- the dates of each transition are numbers, and its step is one and not great
  climbing : StepsAreFromZero → IsFormKept f → (t : ℕ) → t < length net.transitions → IsClimbing f t
  climbing law kept t lt =
      let s = law net ends live form.dating form.least f form.stands t lt in
      let rows : length f.rows ≡ length net.transitions = form.stands.sizes.rows_are in
      let short = kept.short in
      let one : 1 ≤ f.period = form.stands.sizes.at_least_one in
      let k : ℕ = f.after + 1 in
      let a : ℕ = least_number net ends live form.dating form.least t k in
      let b : ℕ = least_number net ends live form.dating form.least t (k + f.period) in
      let ea : settled_date f t k ≡ At (pos a) = number t k lt (omega arith) in
      let eb : settled_date f t (k + f.period) ≡ At (pos b) = number t (k + f.period) lt (omega arith) in
      let again : form.dating t (k + f.period) ≡ move (step_of_form f t) (form.dating t k) = form.stands.repeats.again t k lt (omega arith) in
      let chain : At (pos b) ≡ move (pos s.0) (At (pos a)) =
      sym (date_is net ends live form.dating form.least t (k + f.period) lt (omega arith)) ∙ again
      ∙ ap (λ (z : ℤ). move z (form.dating t k)) s.1 ∙ ap (move (pos s.0)) (date_is net ends live form.dating form.least t k lt (omega arith)) in
      let sum = at_inj _ _ chain in
      let high : b ≤ greatest_least_date = low_number t (k + f.period) b (kept.within t (k + f.period) (omega arith) (omega arith) (omega arith)) eb in
      record {
        in_range = omega arith;
        numbers = λ j o. (least_number net ends live form.dating form.least t j, number t j lt o);
        step = s.0;
        step_is = s.1;
        step_low = omega (arith, ints, sum, high);
      }

  -- past the settling number they go on by it
  pub goes_on : (t : ℕ) → t < length net.transitions → GoesOnBySteps f t
  goes_on t lt = record {
    again = λ j l. tells t (j + f.period) lt (omega arith) ∙ (form.stands.repeats.again t j lt l ∙ ap (move (step_of_form f t)) (sym (tells t j lt (omega arith))));
  }

-- ---- a row beside the form

module _ (f : SettledForm) (r : EndlessRow) (h : IsSettledRow f r) where
  abbrev dating : ℕ → ℕ → Date
  dating = h.form.dating

  same : (k : ℕ) → 1 ≤ k → settled_date f r.transition.index k ≡ dating r.transition.index k
  same k one = tells h.net (net_ends h.net h.rules) h.is_live f h.form r.transition.index k h.row.in_range one

  back : (k : ℕ) → 1 ≤ k → dating r.transition.index k ≡ settled_date f r.transition.index k
  back k one = sym (same k one)

  -- the same turn of the dating that the form stands for
  turn_as : (past turn rise fall : ℕ) → IsCommonPeriodOf (settled_date f) r past turn rise fall → IsCommonPeriodOf dating r past turn rise fall
  turn_as past turn rise fall is = record {
    some = is.some;
    dates_rise = λ k l. back (k + turn) (omega arith) ∙ (is.dates_rise k l ∙ ap (move (pos rise)) (same k (omega arith)));
    past_list = is.past_list;
    rounds = is.rounds;
    by_list = is.by_list;
    fall_is = is.fall_is;
  }

  -- the least late number is not great
  pub soon : LateIsSoon → (k due least : ℕ) → IsLeastLate (settled_date f) r k due least → IsSoonLate f r k due least
  soon law k due least late =
      let low = law h.net h.rules h.is_live dating h.form.least r h.row k due least (least_as (settled_date f) dating r same k due least late) in
      record { is = late; number_in = omega (arith, low.0); due_in = omega (arith, low.1); least_in = omega (arith, low.2) }

  module _ (law : TurnsTellLate) (past turn rise fall : ℕ) (is : IsCommonPeriodOf (settled_date f) r past turn rise fall) (none : NoneLateTo (settled_date f) r (past + turn)) where
    -- where the due dates rise no less, none is late
    pub none_at_all : rise ≤ fall → NoneLate (settled_date f) r
    none_at_all flat =
        none_as dating (settled_date f) r back
        ((law h.net (net_ends h.net h.rules) h.is_live dating h.form.least r h.row past turn rise fall (turn_as past turn rise fall is) (none_to_as (settled_date f) dating r same (past + turn) none)).0 flat)

    -- and otherwise the least late number is that which is late after the fewest turns
    pub soon_by_turns : LateIsSoon → (gain base due date : ℕ) → 0 < gain → rise ≡ fall + gain → IsSoonest (settled_date f) r past (past + turn) gain base due date
        → IsSoonLate f r (base + turns_to due date gain * turn) (due + turns_to due date gain * fall) (date + turns_to due date gain * rise)
    soon_by_turns low gain base due date some steep soonest =
        soon low (base + turns_to due date gain * turn) (due + turns_to due date gain * fall) (date + turns_to due date gain * rise)
        (least_as dating (settled_date f) r back _ _ _
        ((law h.net (net_ends h.net h.rules) h.is_live dating h.form.least r h.row past turn rise fall (turn_as past turn rise fall is)
        (none_to_as (settled_date f) dating r same (past + turn) none)).1 gain base due date some steep
        (soonest_as (settled_date f) dating r same past (past + turn) gain base due date soonest)))

-- ---- the rows of a net

module _ (a : RankedRows) (h : AreRankedRows a) where
  -- each is one of the net
  pub rule_at : (i : ℕ) (r : EndlessRow) → i < length a.rows → r ≡ get_or a.rows i r → IsEndlessRow a.net r
  rule_at i r lt is = subst (IsEndlessRow a.net) (sym is) (h.ends.each i r lt)

  module _ (f : SettledForm) (law : ZeroInputsAreNoLists) (is : IsSettledFormOf (without_inputs a.net) f) where
    form : IsZeroForm a.net f
    form = record { dating = is.0; least = (law a.net is.0).0 is.1; stands = is.2.stands }

    -- and stands beside the settled form of the net without its input lists
    pub settled_at : StepsAreFromZero → IsFormKept f → (i : ℕ) (r : EndlessRow) → i < length a.rows → r ≡ get_or a.rows i r → IsSettledRow f r
    settled_at steps kept i r lt at =
        let rule = rule_at i r lt at in
        record {
          net = a.net;
          rules = h.rules;
          is_live = h.is_live;
          form = form;
          row = rule;
          climbing = climbing a.net (net_ends a.net h.rules) h.is_live f form steps kept r.transition.index rule.in_range;
          steps = goes_on a.net (net_ends a.net h.rules) h.is_live f form r.transition.index rule.in_range;
        }

    as_dating : (r : EndlessRow) → r.transition.index < length a.net.transitions → (k : ℕ) → 1 ≤ k → settled_date f r.transition.index k ≡ form.dating r.transition.index k
    as_dating r lt k one = tells a.net (net_ends a.net h.rules) h.is_live f form r.transition.index k lt one

    -- the first row that is late, with its least late number
    pub late_answer : (i : ℕ) (r : EndlessRow) → slice_get a.rows i ≡ Some r → All (NoneLate (settled_date f)) (take i a.rows)
        → (k due least : ℕ) → IsSoonLate f r k due least → IsLateAnswer a.net a.rows r.transition.index k due least
    late_answer i r at none k due least late =
        let lt : i < length a.rows = slice_get_within a.rows i r at in
        let here = rule_at i r lt (sym (get_or_from_slice_get a.rows i r r at)) in
        record {
          dating = form.dating;
          is_least = form.least;
          row = r;
          first = record {
            index = i;
            is_row = at;
            none_before = λ j d w.
                let short : length (take i a.rows) ≡ i = length-take-le i a.rows (omega (arith, lt)) in
                let low : j < i = omega (arith, w, short) in
                let before : get_or (take i a.rows) j d ≡ get_or a.rows j d = get_or-take i a.rows j d low in
                let range = subst (IsEndlessRow a.net) (sym before) (h.ends.each j d (omega (arith, low, lt))) in
                none_as (settled_date f) form.dating (get_or (take i a.rows) j d) (as_dating (get_or (take i a.rows) j d) range.in_range) (none j d w);
            least_late = least_as (settled_date f) form.dating r (as_dating r here.in_range) k due least late.is;
          };
          transition = refl;
          number_in = late.number_in;
          due_in = late.due_in;
          least_in = late.least_in;
        }

    -- where no row is late the inputs at 0 meet the due dates
    pub all_meet : ZeroMeetsWhereNoneLate → All (NoneLate (settled_date f)) a.rows → AreMetAtZero a
    all_meet zeros none =
        (zeros a.net (net_ends a.net h.rules) h.is_live a.rows h.ends form.dating form.least).1
        (λ j d w. none_as (settled_date f) form.dating (get_or a.rows j d) (as_dating (get_or a.rows j d) (h.ends.each j d w).in_range) (none j d w))
