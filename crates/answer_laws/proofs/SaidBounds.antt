-- What is shown of a bound is said, and what is said of one is shown.
use Rattle.std.proofs.Common.{ℕ, ◌<◌, ◌≤◌, ◌≡◌, ◌^◌, List, length, get_or, refl, ap, inl, inr, arith}
use Rattle.std.specs.Prelude.{◌⊎◌}
use Rattle.std.proofs.lemmas.List.{nil_from_length}
use Rattle.std.proofs.lemmas.Option.{slice_get-get_or}
use Rattle.settled_laws.specs.SettledForms.{SettledForm}
use Rattle.bound_laws.specs.Critical.{AllReadyAtZero}
use Rattle.teg_net.specs.Circuits.{IsLive}
use Rattle.teg_net.specs.Nets.{NetLists, IsInput, IsNet}
use Rattle.teg_bound.specs.declared.bound.BoundAnswer.{BoundAnswer}
use Rattle.teg_bound.specs.declared.bound.BoundAnswer.TheVariants.{Bound, HasInputs as InputsAnswer, NoPlace as PlaceAnswer, NotStrong as StrongAnswer, ReadyDates as DatesAnswer}
use Rattle.teg_bound.specs.PeriodicBounds.{HasPlacesAlone, IsBoundOf, IsNumberOf, IsRightBound}
use Rattle.teg_bound.specs.BoundTexts.{IsCause, bound_lines, told_bound}
use Rattle.teg_text.specs.Lines.{written}
use Rattle.teg_bound.proofs.Causes.{ready_at_zero}
use Rattle.teg_bound.proofs.Inputs.{input_is_some}
use Rattle.teg_bound.proofs.Keeping.{keeps}
use Rattle.teg_pace_commands.specs.Bound.{SaysNoNumber, SaysNumber}
use Rattle.bound_check.specs.declared.bound.ShownBound.{ShownBound}
use Rattle.bound_check.specs.declared.bound.ShownBound.TheVariants.{Number, Without}
use Rattle.bound_check.specs.declared.cause.WhyNone.{WhyNone}
use Rattle.bound_check.specs.declared.cause.WhyNone.TheVariants.{HasInputs, NoPlace, NotStrong, ReadyDates}
use Rattle.bound_check.specs.Formulas.{HasLateToken, HasSomeInput, IsBoundNumber, StandsAlone}
use Rattle.bound_check.specs.ShownBounds.{IsShownBound, LacksPath}
use Rattle.answer_laws.specs.SaidBounds.{ShownBoundsAreSaid}

-- ---- what is read off a net

is_input : (net : NetLists) → HasSomeInput net → (t : ℕ) × IsInput net t
is_input net h =
    let role = h.4 in
    (h.0, (rw (slice_get-get_or net.transitions h.0 h.1 h.2, h.3) role))

alone_said : (net : NetLists) → StandsAlone net → HasPlacesAlone net
alone_said net h = record { no_input = λ t i. h.no_input (input_is_some net t i); some_place = h.some_place }

alone_shown : (net : NetLists) → HasPlacesAlone net → StandsAlone net
alone_shown net h = record { no_input = λ i. (let some = is_input net i in h.no_input some.0 some.1); some_place = h.some_place }

none_late : (net : NetLists) → AllReadyAtZero net → HasLateToken net → ⊥
none_late net all h =
    let p = h.1 in
    let late = h.4 in
    let d : ℕ = late.1 in
    let zeros = all h.0 p h.2 in
    let same : get_or net.places h.0 p ≡ p = h.3 in
    let zero : get_or p.ready late.0 d ≡ 0 = (rw same at zeros) late.0 d late.2 in
    let is : get_or p.ready late.0 d ≡ d = late.3 in
    let more : 1 ≤ d = late.4 in
    absurd (omega arith)

-- ---- the number

module _ (net : NetLists) (rules : IsNet net) (live : IsLive net) where
  bound_said : (number : ℕ) → IsBoundNumber net number → number < 10 ^ 24 → IsBoundOf net number
  bound_said number h small =
      let at = h.is in
      let is : IsNumberOf net h.ratio number = record {
        hold = at.hold;
        hold_is = record { attained = at.hold_is.attained; greatest = at.hold_is.longest };
        tokens = at.tokens;
        tokens_is = record { some = at.tokens_are.some; attained = at.tokens_are.attained; greatest = at.tokens_are.most };
        is = at.is;
      } in
      let alone = alone_said net h.bounded.alone in
      let ready = ready_at_zero net h.bounded.ready in
      record {
        alone = alone;
        strong = h.bounded.strong;
        ready = ready;
        ratio = h.ratio;
        greatest = h.greatest;
        terms = h.terms;
        number_is = is;
        small = small;
        keeps = keeps net h.ratio (record { rules = rules; live = live; no_input = alone.no_input; each = h.bounded.strong; ready = ready; ratio = h.greatest }) number is;
      }

  number_said : (text : List ℕ) (number after period : ℕ) → IsShownBound net text (Number number after period) → SaysNumber net text
  number_said text number after period h =
      let form = h.right.1 in
      let f : SettledForm = form.0 in
      let bound = bound_said number h.right.0 h.width.0 in
      let within : f.after ≤ number = (bound.keeps form.1.0 form.1.1 f form.1.2).after in
      (number, f, bound, form.1, within, (rw (form.2, form.3) ((let few = h.width.0 in omega arith), h.width.1, h.width.2)), (rw (form.2, form.3) h.told))

  -- ---- the cause

  cause_said : (text : List ℕ) (cause : WhyNone) → IsShownBound net text (Without cause) → SaysNoNumber net text
  cause_said text HasInputs h = (InputsAnswer, record {}, is_input net h.right, h.told)
  cause_said text NoPlace h = (PlaceAnswer, record {}, ((λ t i. h.right.0 (input_is_some net t i)), nil_from_length net.places h.right.1), h.told)
  cause_said text NotStrong h =
      let way = h.right.1 in
      (StrongAnswer, record {}, (alone_said net h.right.0, record { from = way.from; to = way.to; from_in = way.from_in; to_in = way.to_in; none = way.none }), h.told)
  cause_said text ReadyDates h = (DatesAnswer, record {}, (alone_said net h.right.0, h.right.1, h.right.2), h.told)

  said : (text : List ℕ) (shown : ShownBound) → IsShownBound net text shown → SaysNumber net text ⊎ SaysNoNumber net text
  said text (Number number after period) h = inl (number_said text number after period h)
  said text (Without cause) h = inr (cause_said text cause h)

  -- ---- and back

  bound_shown : (number : ℕ) → IsBoundOf net number → IsBoundNumber net number
  bound_shown number h =
      let is = h.number_is in
      record {
        bounded = record { alone = alone_shown net h.alone; strong = h.strong; ready = none_late net h.ready };
        ratio = h.ratio;
        greatest = h.greatest;
        terms = h.terms;
        is = record {
          hold = is.hold;
          hold_is = record { attained = is.hold_is.attained; longest = is.hold_is.greatest };
          tokens = is.tokens;
          tokens_are = record { some = is.tokens_is.some; attained = is.tokens_is.attained; most = is.tokens_is.greatest };
          is = is.is;
        };
      }

  number_shown : (text : List ℕ) → SaysNumber net text → (shown : ShownBound) × IsShownBound net text shown
  number_shown text s =
      let f = s.1 in (
        Number s.0 f.after f.period,
        record { live = live; right = (bound_shown s.0 s.2, (f, s.3, refl, refl)); width = (s.2.small, s.5.1, s.5.2); told = s.6 },
      )

  by_cause : (text : List ℕ) (a : BoundAnswer) → IsCause a → IsRightBound net a → text ≡ written (bound_lines (told_bound a 0 0)) → (shown : ShownBound) × IsShownBound net text shown
  by_cause text (Bound number) cause right told = absurd cause
  by_cause text InputsAnswer cause right told = (Without HasInputs, record { live = live; right = input_is_some net right.0 right.1; width = record {}; told = told })
  by_cause text PlaceAnswer cause right told =
      (Without NoPlace, record { live = live; right = ((λ i. (let some = is_input net i in right.0 some.0 some.1)), ap length right.1); width = record {}; told = told })
  by_cause text StrongAnswer cause right told =
      let way = right.1 in
      let lacks : LacksPath net = record { from = way.from; to = way.to; from_in = way.from_in; to_in = way.to_in; none = way.none } in
      (Without NotStrong, record { live = live; right = (alone_shown net right.0, lacks); width = record {}; told = told })
  by_cause text DatesAnswer cause right told =
      (Without ReadyDates, record { live = live; right = (alone_shown net right.0, right.1, right.2); width = record {}; told = told })

  shown : (text : List ℕ) → SaysNumber net text ⊎ SaysNoNumber net text → (shown : ShownBound) × IsShownBound net text shown
  shown text (inl s) = number_shown text s
  shown text (inr s) = by_cause text s.0 s.1 s.2 s.3

pub bounds_said : ShownBoundsAreSaid
bounds_said net text rules = (λ s. (s.1.live, (refl, said net rules s.1.live text s.0 s.1)), λ s. shown net rules s.0 text s.1.1)
