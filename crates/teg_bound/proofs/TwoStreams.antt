-- What two streams of rows tell of the net's least dating.
use Rattle.std.proofs.Common.{ℕ, ℤ, ◌+◌, ◌-◌, ◌^◌, ◌<◌, ◌≤◌, ◌≡◌, List, length, sym, ap, subst, ◌∙◌, arith, ⊎_elim}
use Rattle.std.proofs.lemmas.Bool.{cases_lt}
use Rattle.dioid.specs.declared.dates.Date.TheVariants.{At}
use Rattle.dioid.specs.Dates.{move}
use Rattle.teg_net.specs.Nets.{NetLists, IsNet}
use Rattle.teg_net.specs.Circuits.{no_place, IsLive}
use Rattle.teg_net.specs.Limits.{greatest_firing_number}
use Rattle.teg_net.proofs.NetRules.{lists_by_rule, lists_rise, net_ends}
use Rattle.teg_check.specs.Ranks.{IsRanking}
use Rattle.periodic_laws.specs.teg_model.DateBounds.{IsDateWithin}
use Rattle.periodic_laws.specs.teg_model.Datings.{IsLeastDating}
use Rattle.periodic_laws.proofs.teg_model_proofs.DateFunctions.{Dating}
use Rattle.periodic_laws.specs.settled_laws.SettledForms.{SettledForm, RepeatsAfter, step_of_form}
use Rattle.periodic_laws.specs.settled_laws.DateDifferences.{between}
use Rattle.periodic_laws.specs.LinearSystem.{LeastDatingsRepeat, SettlesShortest}
use Rattle.periodic_laws.specs.RepeatNumbers.{repeats_past, repeats_in, repeats_by}
use Rattle.periodic_laws.proofs.settled_laws_proofs.Repeating.{period_least, after_least}
use Rattle.date_rows.specs.Streams.{date_back, rows_given, rows_kept}
use Rattle.teg_bound.specs.declared.made_rows.MadeRows.{MadeRows}
use Rattle.teg_bound.specs.declared.two_streams.Returned.{Returned}
use Rattle.teg_bound.specs.MadeRows.{AreMadeOf}
use Rattle.teg_bound.specs.PeriodicBounds.{NoInput}
use Rattle.teg_bound.specs.ReturningRows.{AreRowsMoved, AreTwoStreams, HasFormWithin, IsMovedFrom, IsOnePart, IsReturn, IsRowMoved}
use Rattle.teg_bound.specs.ReturningRows.{IsShortestRepetition, NoneComeAgain, RowsComeAgain, RowsDoNot, back_step, shown_step}
use Rattle.teg_bound.proofs.MadeDates.{made_dates, made_within, moved_by, step_of}
use Rattle.teg_bound.proofs.Returns.{numbers, goes_on, comes_again}

pub some_in : (net : NetLists) → IsNet net → IsOnePart net → 0 < length net.transitions
some_in net ok part = let p = ok.each_place 0 no_place part.alone.some_place in omega (arith, p.from_in)

module _ (net : NetLists) (early late : MadeRows) (two : AreTwoStreams net early late) where
  same_reach : early.stream.last.reach ≡ late.stream.last.reach
  same_reach =
      let e = two.early_is.stream in
      let l = two.late_is.stream in
      let up = e.few late.stream.last.reach l.one l.reach in
      let down = l.few early.stream.last.reach e.one e.reach in
      omega (arith, up, down)

  pub some_kept : 1 ≤ rows_kept early.stream.last
  some_kept = omega (arith, two.some, two.early_is.stream.one)

  pub kept_late : (b : ℕ) → b ≤ rows_kept early.stream.last → b ≤ rows_kept late.stream.last
  kept_late b l = omega (arith, l, same_reach, two.before)

  pub early_within : (t b : ℕ) → t < length net.transitions → 1 ≤ b → b ≤ rows_kept early.stream.last → IsDateWithin (2 ^ 126) (date_back early.stream.last t b)
  early_within t b l o m = made_within net early two.early_is (omega (arith, two.before, two.few)) t b l o m

  pub late_within : (t b : ℕ) → t < length net.transitions → 1 ≤ b → b ≤ rows_kept early.stream.last → IsDateWithin (2 ^ 126) (date_back late.stream.last t b)
  late_within t b l o m = made_within net late two.late_is two.few t b l o (kept_late b m)

  module _ (no_input : NoInput net) (x : Dating) (least : IsLeastDating net x) (period : ℕ) (apart : late.stream.last.number ≡ early.stream.last.number + period) where
    early_row : (t k b : ℕ) → t < length net.transitions → k + b ≡ early.stream.last.number + 1 → 1 ≤ k → 1 ≤ b → b ≤ rows_kept early.stream.last → date_back early.stream.last t b ≡ x t k
    early_row t k b l e o p m =
        let number : (early.stream.last.number + 1) - b ≡ k = omega (arith, e) in
        made_dates net early two.early_is x least t b l p m ∙ ap (x t) number

    late_row : (t k b : ℕ) → t < length net.transitions → k + b ≡ early.stream.last.number + 1 → 1 ≤ k → 1 ≤ b → b ≤ rows_kept early.stream.last → date_back late.stream.last t b ≡ x t (k + period)
    late_row t k b l e o p m =
        let number : (late.stream.last.number + 1) - b ≡ k + period = omega (arith, e, apart, o) in
        made_dates net late two.late_is x least t b l p (kept_late b m) ∙ ap (x t) number

    number_at : (t k : ℕ) → t < length net.transitions → 1 ≤ k → (a : ℤ) × (x t k ≡ At a)
    number_at t k l o = numbers net two.early_is.stream.rules two.early_is.stream.order.0 two.early_is.stream.order.1 no_input x least t k l o

    -- the row of number k, moved or not
    pub row_moved : (k b : ℕ) (step : ℤ) → k + b ≡ early.stream.last.number + 1 → 1 ≤ k → 1 ≤ b → b ≤ rows_kept early.stream.last
        → IsRowMoved net early late step b → (t : ℕ) → t < length net.transitions → x t (k + period) ≡ move step (x t k)
    row_moved k b step e o p m moved t l =
        let here = number_at t k l o in
        let there = number_at t (k + period) l (omega (arith, o)) in
        moved_by (x t k) (x t (k + period)) here.0 there.0 step here.1 there.1
        (rw (early_row t k b l e o p m, late_row t k b l e o p m) at (moved t l))

    pub moved_row : (k b : ℕ) (step : ℤ) → k + b ≡ early.stream.last.number + 1 → 1 ≤ k → 1 ≤ b → b ≤ rows_kept early.stream.last
        → ((t : ℕ) → t < length net.transitions → x t (k + period) ≡ move step (x t k)) → IsRowMoved net early late step b
    moved_row k b step e o p m moved t l =
        let here = number_at t k l o in
        rw (early_row t k b l e o p m, late_row t k b l e o p m) (step_of (x t k) (x t (k + period)) here.0 step here.1 (moved t l))

    pub step_is : 0 < length net.transitions → back_step early late ≡ shown_step x early.stream.last.number period
    step_is some =
        let last : ℕ = early.stream.last.number in
        let here : date_back early.stream.last 0 1 ≡ x 0 last = early_row 0 last 1 some (omega arith) two.some (omega arith) some_kept in
        let there : date_back late.stream.last 0 1 ≡ x 0 (last + period) = late_row 0 last 1 some (omega arith) two.some (omega arith) some_kept in
        ap (λ d. between d (date_back late.stream.last 0 1)) here ∙ ap (between (x 0 last)) there

  module _ (part : IsOnePart net) (period : ℕ) (apart : late.stream.last.number ≡ early.stream.last.number + period) (long : early.stream.last.reach ≤ early.stream.last.number) where
    some : 0 < length net.transitions
    some = some_in net two.early_is.stream.rules part

    pub come : AreRowsMoved net early late (back_step early late) → RowsComeAgain net early.stream.last.reach early.stream.last.number period
    come rows x least t k l near m =
        let b : ℕ = early.stream.last.number + 1 - k in
        let o : 1 ≤ k = omega (arith, near, long) in
        let p : 1 ≤ b = omega (arith, m) in
        let in' : b ≤ rows_kept early.stream.last = omega (arith, near, long) in
        row_moved part.alone.no_input x least period apart k b (shown_step x early.stream.last.number period) (omega (arith, m)) o p in'
        (subst (λ s. IsRowMoved net early late s b) (step_is part.alone.no_input x least period apart some) (rows b p in')) t l

    pub do_not : (AreRowsMoved net early late (back_step early late) → ⊥) → RowsDoNot net early.stream.last.reach early.stream.last.number period
    do_not bad x least again =
        bad (λ b o m.
        let k : ℕ = early.stream.last.number + 1 - b in
        subst (λ s. IsRowMoved net early late s b) (sym (step_is part.alone.no_input x least period apart some))
        (moved_row part.alone.no_input x least period apart k b (shown_step x early.stream.last.number period) (omega (arith, m)) (omega (arith, m)) o m
        (λ t l. again t k l (omega (arith, m, o)) (omega (arith, o)))))

    -- so a first return is found
    pub found_return : (last : ℕ) (s : ℤ) → last ≡ early.stream.last.number → s ≡ back_step early late → AreRowsMoved net early late s → 1 ≤ period
        → late.stream.last.number ≤ greatest_firing_number → ((p : ℕ) → 1 ≤ p → p < period → RowsDoNot net early.stream.last.reach early.stream.last.number p)
        → IsReturn net early.stream.last.reach (record { last = last; period = period; step = s })
    found_return last s is e rows one few none = rw is (record {
      some = two.early_is.stream.one;
      tokens = two.early_is.stream.reach;
      long = long;
      one = one;
      few = omega (arith, few, apart);
      again = come (subst (AreRowsMoved net early late) e rows);
      step = λ x least. e ∙ step_is part.alone.no_input x least period apart some;
      first = none;
    })

-- ---- the search

-- a form within so many numbers comes again in as many
pub none_refuted : (net : NetLists) (ranks : List ℕ) → IsRanking net ranks → IsOnePart net → (rows : MadeRows) → AreMadeOf net rows → (enough : ℕ) → HasFormWithin net enough
    → enough ≤ rows_given rows.stream → NoneComeAgain net rows → ⊥
none_refuted net ranks ranking part rows made enough h more none =
    let ok = made.stream.rules in
    let few = made.stream.few 1000 (omega arith) (λ i d l. (ok.each_place i d l).tokens_in) in
    let rep = h.repeats in
    let fits = h.fits in
    none h.period rep.at_least_one (omega (arith, fits, more)) h.dating h.least
    (λ t k l near m. comes_again net ok ranks ranking part.alone.no_input h.dating h.least h.after h.period h.step rep part.strong 0 (rows_given rows.stream) (some_in net ok part)
    (omega (arith, fits, more)) t k l (omega (arith, near, few, fits, more)))

-- ---- the shortest form

pub shortest : (net : NetLists) (ranks : List ℕ) → IsNet net → IsRanking net ranks → IsOnePart net → SettlesShortest net → (found : Returned) (most : ℕ) → IsReturn net most found
    → (after : ℕ) → IsMovedFrom net found after → IsShortestRepetition net (record { after = after; period = found.period })
shortest net ranks ok ranking part settles found most h after moved =
    let n : ℕ = length net.transitions in
    let form : SettledForm = settles.0 in
    let x : Dating = settles.1.0 in
    let least : IsLeastDating net x = settles.1.1 in
    let short = settles.1.2 in
    let same : found.step ≡ shown_step x found.last found.period = h.step x least in
    let past : RepeatsAfter n x (found.last - most) found.period (λ t. shown_step x found.last found.period) =
    goes_on net ok ranks ranking part.alone.no_input x least most found.last found.period (shown_step x found.last found.period) h.some h.long h.tokens
    (h.again x least) h.one in
    let whole : RepeatsAfter n x after found.period (λ t. found.step) = record {
      at_least_one = h.one;
      again = λ t k l m. ⊎_elim
          (λ (q : found.last < k). past.again t k l (omega arith) ∙ ap (λ s. move s (x t k)) (sym same))
          (λ (q : k ≤ found.last). moved.moved x least t k l m q)
          (cases_lt found.last k);
    } in
    let low : (k p : ℕ) (s : ℕ → ℤ) → RepeatsAfter n x k p s → found.period ≤ p =
    period_least n x (found.last - most) found.period (λ t. shown_step x found.last found.period) past
    (λ p s l f. h.first p f.at_least_one l x least
    (λ t k lt near m. comes_again net ok ranks ranking part.alone.no_input x least (found.last - most) p s f part.strong 0 found.last (some_in net ok part)
    (omega (arith, h.some, h.long)) t k lt (omega (arith, near, h.long)))) in
    let from : (k p : ℕ) (s : ℕ → ℤ) → RepeatsAfter n x k p s → after ≤ k =
    after_least n x after found.period (λ t. found.step) whole (λ o all. moved.first x least o all) in
    let own : RepeatsAfter n x form.after form.period (step_of_form form) = short.stands.repeats in
    let period_up = low form.after form.period (step_of_form form) own in
    let period_down = short.least_period after found.period (λ t. found.step) whole in
    let after_up = from form.after form.period (step_of_form form) own in
    let after_down = short.least_after after found.period (λ t. found.step) whole in
    record { form = form; is = settles.1; after = omega (arith, after_up, after_down); period = omega (arith, period_up, period_down) }

-- the lists of the net tell a number within which there is a form
abbrev pub enough_numbers : NetLists → ℕ
enough_numbers net = repeats_past net + 1000 + repeats_in net

pub form_within : LeastDatingsRepeat → (net : NetLists) → IsNet net → IsLive net → SettlesShortest net → HasFormWithin net (enough_numbers net)
form_within law net ok live settles = record {
  dating = settles.1.0;
  least = settles.1.1;
  after = repeats_past net;
  period = repeats_in net;
  step = repeats_by net;
  repeats = law net (net_ends net ok) (lists_rise net ok) (lists_by_rule net ok) live settles.1.0 settles.1.1;
  fits = omega arith;
}
