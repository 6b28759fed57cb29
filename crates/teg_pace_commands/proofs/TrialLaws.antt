-- The line of machines is live, and has a circuit.
use Rattle.std.proofs.Common.{◌≡◌, ℕ, zero, suc, ◌+◌, ◌-◌, ◌<◌, ◌≤◌, List, [], ◌∷◌, None, length, slice_index, refl, ap, subst, ◌∙◌, arith}
use Rattle.std.specs.List.{range_with_len}
use Rattle.std.proofs.lemmas.List.FromFn.{length-range_with_len, get_or-range_with_len}
use Rattle.teg_report.specs.dioid.declared.dates.Date.{Date}
use Rattle.teg_check.specs.Ranks.{IsRanking}
use Rattle.teg_check.proofs.Liveness.{ranking_is_live}
use Rattle.teg_critical.specs.declared.slacks.Slack.{Slack}
use Rattle.teg_critical.specs.Slacks.{AreSlacks}
use Rattle.date_rows.specs.DateTables.{TableDates, HasLeastDates, date_at}
use Rattle.teg_net.specs.declared.entries.Place.{Place}
use Rattle.teg_net.specs.declared.entries.PlaceId.{PlaceId}
use Rattle.teg_net.specs.Circuits.{IsCircuit, IsLive}
use Rattle.teg_net.specs.GreatestRatios.{HasNoCircuit, IsAnyPlace}
use Rattle.teg_net.specs.Nets.{NetLists}
use Rattle.teg_net.specs.Ratios.{Fraction}
use Rattle.teg_report.specs.AnswerValues.{Trial}
use Rattle.teg_report.specs.Reports.{text_of}
use Rattle.teg_report.specs.SlackLines.{IsTrialKept}
use Rattle.trial_net.specs.Trials.{trial}
use Rattle.trial_net.proofs.TrialNets.{each_place, width}
use Rattle.teg_outcome.specs.declared.outcome.Verdict.TheVariants.{Done as VerdictDone}
use Rattle.teg_pace_commands.specs.Slack.{IsBestRatio}
use Rattle.teg_pace_commands.specs.Trial.{SaysTrial, critical_count, trial_number}

abbrev numbers : ℕ → List ℕ
numbers machines = range_with_len 0 machines

trial_is_ranked : (machines : ℕ) → IsRanking (trial machines) (numbers machines)
trial_is_ranked machines = record {
  count = omega (arith, length-range_with_len 0 machines, width machines);
  small = λ i d l. omega (arith, l, get_or-range_with_len 0 machines i d, length-range_with_len 0 machines, width machines);
  rises = each_place (λ (p : Place). p.tokens ≡ 0 → slice_index (numbers machines) p.from.index < slice_index (numbers machines) p.to.index) machines
      (λ i l m e. absurd (omega (arith, e)))
      (λ i l m e. omega (arith, get_or-range_with_len 0 machines (i - 1) 0, get_or-range_with_len 0 machines (i + 1 - 1) 0))
      (λ i l m e. absurd (omega (arith, e)));
}

pub trial_is_live : (machines : ℕ) → IsLive (trial machines)
trial_is_live machines = ranking_is_live (trial machines) (numbers machines) (trial_is_ranked machines)

-- ---- the circuit of the first machine's own place

abbrev first_place : List PlaceId
first_place = record { index = 0 } ∷ []

own_circuit : (machines : ℕ) → 1 ≤ machines → IsCircuit (trial machines) first_place
own_circuit zero some = absurd (omega (arith, some))
own_circuit (suc machines) some = record {
  not_empty = omega arith;
  closed = (0, (omega arith, refl, refl));
  leaves_once = λ i j d before within. absurd (omega (arith, before, within));
}

pub trial_has_circuit : (machines : ℕ) → 1 ≤ machines → HasNoCircuit (trial machines) IsAnyPlace → ⊥
trial_has_circuit machines some none = none first_place (own_circuit machines some) (λ i d l. tt)

-- ---- what is told of the line

pub trial_said : (machines : ℕ) (net : NetLists) (r : Fraction) (slacks : List Slack) (table : TableDates) (places critical : ℕ) (last : Date) (text : List ℕ) → 1 ≤ machines → net ≡ trial machines →
    IsBestRatio net r → AreSlacks net r slacks → HasLeastDates net table → table.count ≡ trial_number →
    places ≡ length net.places → critical ≡ critical_count slacks → last ≡ date_at table (machines - 1) trial_number →
    IsTrialKept machines places r critical last → text ≡ text_of None (Trial machines places r critical last) → SaysTrial machines VerdictDone text
trial_said machines net r slacks table places critical last text some e best each least count p q d kept t =
    let least_here = subst (λ (n : NetLists). HasLeastDates n table) e least in
    let dated : date_at table (machines - 1) trial_number ≡ least_here.0 (machines - 1) trial_number =
    least_here.2 (machines - 1) trial_number (omega (arith, some, width machines)) (omega arith) (omega (arith, count)) in
    let all_places = p ∙ ap (λ (n : NetLists). length n.places) e in
    let told = t
    ∙ (ap (λ (n : ℕ). text_of None (Trial machines n r critical last)) all_places
    ∙ (ap (λ (n : ℕ). text_of None (Trial machines (length (trial machines).places) r n last)) q
    ∙ ap (λ (x : Date). text_of None (Trial machines (length (trial machines).places) r (critical_count slacks) x)) (d ∙ dated))) in (
      refl,
      (
        r,
        slacks,
        least_here.0,
        subst (λ (n : NetLists). IsBestRatio n r) e best,
        subst (λ (n : NetLists). AreSlacks n r slacks) e each,
        least_here.1,
        subst (λ (x : Date). IsTrialKept machines (length (trial machines).places) r (critical_count slacks) x) (d ∙ dated)
            (subst (λ (n : ℕ). IsTrialKept machines (length (trial machines).places) r n last) q (subst (λ (n : ℕ). IsTrialKept machines n r critical last) all_places kept)),
        told,
      ),
    )
