-- What is shown of rounds is said, and what is said of them is shown.
use Rattle.std.proofs.Common.{ℕ, ◌≡◌, ◌≢◌, List, Option, Some, None, All, length, map, slice_index_or, refl, sym, ap, subst, ◌∙◌, inl, inr, ⊎_elim}
use Rattle.std.specs.Prelude.{◌⊎◌}
use Rattle.teg_net.specs.declared.answers.CycleAnswer.{CycleAnswer}
use Rattle.teg_net.specs.declared.answers.PartAnswer.{PartAnswer}
use Rattle.teg_net.specs.declared.answers.PartAnswer.TheVariants.{NoCircuit, Best}
use Rattle.teg_net.specs.declared.entries.PlaceId.{PlaceId}
use Rattle.teg_net.specs.declared.rounds.Round.{Round}
use Rattle.teg_net.specs.Certificates.{IsCertificate, IsPartCertificate}
use Rattle.teg_net.specs.Circuits.{IsLive, from_of}
use Rattle.teg_net.specs.GreatestRatios.{HasNoCircuit, IsAnyPlace, IsCycleTime, ratio_at}
use Rattle.teg_net.specs.Nets.{NetLists, IsNet}
use Rattle.teg_net.specs.PartAnswers.{IsPartAnswer}
use Rattle.teg_net.specs.Parts.{IsPlaceOfPart, to_of}
use Rattle.teg_net.specs.Ratios.{Fraction}
use Rattle.teg_net.proofs.NetRules.{net_ends}
use Rattle.teg_parts.specs.Partitions.{AreParts, PartLists}
use Rattle.teg_loops.proofs.Through.{pass_back}
use Rattle.teg_certificates.proofs.Inside.{circuit_in_part}
use Rattle.teg_certificates.specs.BestRatios.{named_ratio}
use Rattle.teg_howard.specs.policy_rounds.RunAnswers.{KeepsLimits}
use Rattle.teg_cycle.proofs.Gathering.{certified}
use Rattle.teg_cycle.proofs.Telling.{answer_certifies}
use Rattle.teg_report.specs.teg_text.Lines.{written}
use Rattle.teg_report.specs.teg_lines.CycleMeanings.{cycle_lists, round_lists}
use Rattle.teg_pace_commands.specs.Cycle.{IsCycleAnswer, SaysRounds}
use Rattle.teg_pace_commands.specs.CycleTexts.{times_lines}
use Rattle.teg_outcome.specs.declared.outcome.Verdict.TheVariants.{Done as VerdictDone}
use Rattle.pace_check.proofs.Paces.{part_is_named}
use Rattle.round_check.specs.ShownRounds.{IsShownRounds}
use Rattle.answer_laws.specs.SaidRounds.{ShownRoundsAreSaid}

-- ---- what is said of cycle times is a certificate

-- a strong part in which no circuit lies has no place
none_inside : (net : NetLists) → IsNet net → (parts : PartLists) → AreParts net parts → (k : ℕ) → HasNoCircuit net (IsPlaceOfPart net parts.part_of k) →
    (p : PlaceId) → IsPlaceOfPart net parts.part_of k p → ⊥
none_inside net ok parts strong k none p inside =
    let from = inside.from_member in
    let to = inside.to_member in
    let back = ((strong.strong.strong (to_of net p) (from_of net p) to.in_range from.in_range).0 (to.here ∙ sym from.here)).0 in
    let round = (pass_back net p inside.in_range).1 back in
    let lies = circuit_in_part net (net_ends net ok) parts.part_of strong.strong.count strong.rises round.0 round.1 in
    let here : IsPlaceOfPart net parts.part_of lies.0 p = subst (IsPlaceOfPart net parts.part_of lies.0) round.2.2 (lies.1 round.2.0 p round.2.1) in
    let same : lies.0 ≡ k = sym here.from_member.here ∙ from.here in
    none round.0 round.1 (subst (λ (m : ℕ). All (IsPlaceOfPart net parts.part_of m) round.0) same lies.1)

part_certified : (net : NetLists) → IsNet net → (parts : PartLists) → AreParts net parts → (k : ℕ) (answer : PartAnswer) → IsPartAnswer net parts.part_of k answer → KeepsLimits answer →
    IsPartCertificate net parts.part_of k answer
part_certified net ok parts strong k NoCircuit is keeps = none_inside net ok parts strong k is
part_certified net ok parts strong k (Best ratio circuit potentials) is keeps = answer_certifies net parts.part_of k (Best ratio circuit potentials) is keeps (λ e. cc)

is_certificate : (net : NetLists) (answer : CycleAnswer) → IsNet net → IsCycleAnswer net answer → IsCertificate net answer
is_certificate net answer ok h =
    let parts : PartLists = record { part_of = answer.part_of.items; inner = h.strong.0 } in
    certified net parts answer h.strong.1 refl h.strong.2
    (λ k l. part_certified net ok parts h.strong.1 k (slice_index_or answer.parts.items k NoCircuit) (h.parts k l) (h.limits k NoCircuit l)) h.first

-- ---- both ways

cases_best : (best : Option ℕ) → (best ≡ None) ⊎ ((k : ℕ) × (best ≡ Some k))
cases_best None = inl refl
cases_best (Some k) = inr (k, refl)

module _ (net : NetLists) (text : List ℕ) (ok : IsNet net) where
  rounds_said : (ratio : Fraction) → IsShownRounds net text ratio → IsLive net × (HasNoCircuit net IsAnyPlace → ⊥) × SaysRounds net VerdictDone text
  rounds_said ratio h =
      let answer : CycleAnswer = h.rounds.0 in
      let runs : List (List Round) = h.rounds.1 in
      let best = h.rounds.2 in
      let t = h.rounds.3 in
      let k = part_is_named answer.parts.items answer.best ratio best in
      let at : ratio_at answer.parts.items k.0 ≡ Some ratio = subst (λ b. named_ratio answer.parts.items b ≡ Some ratio) k.1 best in
      let is : IsCycleAnswer net answer = record {
        strong = t.strong;
        parts = t.parts;
        limits = t.limits;
        first = t.certificate.best;
        of_net = subst (IsCycleTime net answer.parts.items) (sym k.1) (ratio, at, h.greatest);
      } in
      let told = t.told ∙ ap (λ b. written (times_lines net b (cycle_lists answer) (Some (map (map round_lists) runs)))) (sym k.1) in
      (h.live, λ none. none h.greatest.attained.0 h.greatest.attained.1 h.greatest.attained.2, (refl, (answer, runs, is, t.runs_told, t.kept, told)))

  rounds_shown : IsLive net → (HasNoCircuit net IsAnyPlace → ⊥) → SaysRounds net VerdictDone text → (ratio : Fraction) × IsShownRounds net text ratio
  rounds_shown live some h =
      let answer : CycleAnswer = h.1.0 in
      let runs : List (List Round) = h.1.1 in
      let is : IsCycleAnswer net answer = h.1.2 in
      ⊎_elim
      (λ (none : answer.best ≡ None). absurd (some (subst (IsCycleTime net answer.parts.items) none is.of_net)))
      (λ (k : (k : ℕ) × (answer.best ≡ Some k)).
      let of_net = subst (IsCycleTime net answer.parts.items) k.1 is.of_net in
      let best = subst (λ b. named_ratio answer.parts.items b ≡ Some of_net.0) (sym k.1) of_net.1 in
      let told = h.1.5 ∙ ap (λ b. written (times_lines net b (cycle_lists answer) (Some (map (map round_lists) runs)))) k.1 in (
        of_net.0,
        record {
          live = live;
          greatest = of_net.2;
          rounds = (
            answer,
            runs,
            best,
            record {
              certificate = is_certificate net answer ok is;
              strong = is.strong;
              parts = is.parts;
              limits = is.limits;
              runs_told = h.1.3;
              kept = h.1.4;
              told = told;
            },
          );
        },
      ))
      (cases_best answer.best)

pub rounds_are_said : ShownRoundsAreSaid
rounds_are_said net text ok = (λ h. rounds_said net text ok h.0 h.1, λ h. rounds_shown net text ok h.0 h.1 h.2)
