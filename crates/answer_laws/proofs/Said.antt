-- What is shown is said.
use Rattle.std.proofs.Common.{ℕ, ◌+◌, ◌<◌, ◌≡◌, List, ◌∷◌, [], length, map, slice_index_or, refl, sym, ap, subst, ◌∙◌, arith, inr, codes}
use Rattle.std.specs.List.{range_with_len}
use Rattle.std.proofs.lemmas.List.FromFn.{get_or-map-range_with_len, length-map-range_with_len}
use Rattle.answer_check.specs.declared.slack.ShownSlack.{ShownSlack}
use Rattle.answer_check.specs.declared.slack.ShownSlack.TheVariants.{NoCircuit as ShownNone, Critical as ShownCritical, Rise as ShownRise}
use Rattle.answer_check.specs.ShownSlacks.{IsShownSlack, TellsOfPlace, line_of_slack, lines_of_slacks, words_of_slack}
use Rattle.answer_check.proofs.ListedRows.{maps_same}
use Rattle.teg_net.specs.declared.entries.PlaceId.{PlaceId}
use Rattle.teg_net.specs.GreatestRatios.{IsAnyPlace, IsGreatestRatio}
use Rattle.teg_net.specs.Nets.{NetLists}
use Rattle.teg_net.specs.Ratios.{Fraction}
use Rattle.teg_net.proofs.Reading.{same_id}
use Rattle.teg_critical.specs.declared.slacks.Slack.{Slack}
use Rattle.teg_critical.specs.declared.slacks.Slack.TheVariants.{NoCircuit, Critical, Rise}
use Rattle.teg_critical.specs.Slacks.{AreSlacks, IsSlackOf}
use Rattle.teg_critical.proofs.Rises.{stays, no_more}
use Rattle.teg_text.specs.Lines.{written}
use Rattle.teg_text.specs.WordsOfNames.{name_of_place, name_of_transition}
use Rattle.teg_report.specs.ShortAnswers.{date_line}
use Rattle.teg_report.specs.SlackLines.{cycle_time_line, slack_line, slack_lines, slack_words}
use Rattle.answer_laws.specs.SaidAnswers.{ShownDatesAreSaid, ShownListsAreSaid, ShownNoCircuitIsSaid, ShownSlacksAreSaid}

pub lists_said : ShownListsAreSaid
lists_said net text count = (λ h. (h.live, (refl, h.told)), λ s. record { live = s.0; told = s.1.1 })

pub dates_said : ShownDatesAreSaid
dates_said net text shown h x least =
    h.told ∙ ap (λ d. written (date_line (name_of_transition net shown.transition) shown.number d ∷ [])) (h.least x least)

pub no_circuit_said : ShownNoCircuitIsSaid
no_circuit_said net text h = (λ ps circuit free. h.none ps circuit (λ i d l. record {}), (refl, inr (h.none, h.told)))

-- what is told of a place, as slack
abbrev slack_of : ShownSlack → Slack
slack_of ShownNone = NoCircuit
slack_of ShownCritical = Critical
slack_of (ShownRise by) = Rise by

same_words : (s : ShownSlack) → words_of_slack s ≡ slack_words (slack_of s)
same_words ShownNone = refl
same_words ShownCritical = refl
same_words (ShownRise by) = refl

module _ (net : NetLists) (r : Fraction) (ratio : IsGreatestRatio net IsAnyPlace r) where
  is_slack : (p : PlaceId) (s : ShownSlack) → p.index < length net.places → TellsOfPlace net r p s → IsSlackOf net r p (slack_of s)
  is_slack p ShownNone l h = λ on. h on.0 on.1 on.2
  is_slack p ShownCritical l h = (h.0, h.1.circuit, h.1.passes, h.1.attains)
  is_slack p (ShownRise by) l h =
      let ps = h.no_more.0 in
      let beyond = h.no_more.1 in (
        (ps, beyond.circuit, beyond.passes),
        λ c. let low = h.may.below c.0 c.1 c.2 in absurd (omega (arith, c.3)),
        record { same = stays net r p by l ratio h.may; most = no_more net r p by l ps beyond },
      )

module _ (net : NetLists) (r : Fraction) (shown : List ShownSlack) where
  abbrev slack_at : ℕ → Slack
  slack_at i = slack_of (slice_index_or shown i ShownNone)

  abbrev slacks : List Slack
  slacks = map slack_at (range_with_len 0 (length net.places))

  count : length slacks ≡ length net.places
  count = length-map-range_with_len slack_at 0 (length net.places)

  at : (i : ℕ) → i < length net.places → slice_index_or slacks i NoCircuit ≡ slack_at i
  at i l = let e : 0 + i ≡ i = omega arith in get_or-map-range_with_len slack_at 0 (length net.places) i i NoCircuit l e

  are_slacks : ((i : ℕ) → i < length net.places → IsSlackOf net r (record { index = i }) (slack_at i)) → AreSlacks net r slacks
  are_slacks h = record { each = count; told = λ p l. subst (IsSlackOf net r p) (sym (at p.index l)) (h p.index l) }

  same_line : (i : ℕ) → i < length net.places → line_of_slack net i (slice_index_or shown i ShownNone) ≡ slack_line net i (slice_index_or slacks i NoCircuit)
  same_line i l = ap (λ (words : List (List ℕ)). codes "place" ∷ name_of_place net (record { index = i }) ∷ words) (same_words (slice_index_or shown i ShownNone))
      ∙ ap (slack_line net i) (sym (at i l))

  same_lines : lines_of_slacks net r shown ≡ slack_lines net r slacks
  same_lines = rw count
      (ap (λ (lines : List (List (List ℕ))). cycle_time_line r ∷ lines)
      (maps_same [] (λ i. line_of_slack net i (slice_index_or shown i ShownNone)) (λ i. slack_line net i (slice_index_or slacks i NoCircuit)) 0 (length net.places)
      (λ i _ l. same_line i (omega (arith, l)))))

pub slacks_said : ShownSlacksAreSaid
slacks_said net text r h =
    let shown = h.told.0 in
    let told = are_slacks net r shown (λ i l. is_slack net r h.greatest (record { index = i }) (slice_index_or shown i ShownNone) l (h.told.1 i l)) in
    (record { greatest = h.greatest; terms = h.terms }, (slacks net r shown, told, h.told.2 ∙ ap written (same_lines net r shown)))
