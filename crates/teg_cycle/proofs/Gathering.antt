-- The answers of parts put together, and the rounds of each part with a circuit.
use Rattle.std.proofs.Common.{◌≡◌, ℕ, suc, ◌+◌, ◌<◌, List, [], ◌∷◌, ◌++◌, Option, Some, None, Bool, true, false, length, get_or, refl, sym, subst, ap, ◌∙◌, arith}
use Rattle.std.specs.Prelude.{All}
use Rattle.teg_net.specs.declared.answers.CycleAnswer.{CycleAnswer}
use Rattle.teg_net.specs.declared.answers.PartAnswer.{PartAnswer}
use Rattle.teg_net.specs.declared.answers.PartAnswer.TheVariants.{NoCircuit, Best}
use Rattle.teg_net.specs.declared.rounds.Round.{Round}
use Rattle.teg_net.specs.GreatestRatios.{IsFirstGreatest, HasNoCircuit}
use Rattle.teg_net.specs.Parts.{IsPlaceOfPart}
use Rattle.teg_net.specs.Nets.{NetLists}
use Rattle.teg_net.specs.Certificates.{IsCertificate}
use Rattle.teg_parts.specs.Partitions.{PartLists, AreParts}
use Rattle.policy_rounds.specs.PolicyRounds.{IsPolicyRun}
use Rattle.policy_rounds.specs.RunAnswers.{IsAnswerOfLast}
use Rattle.teg_howard.specs.PolicyRuns.{HasInnerPlace}
use Rattle.teg_certificates.specs.Checks.{ArePartCertificates}
use Rattle.policy_rounds.specs.LastRounds.{IsLastOfRun, IsRunOf, AreRunsFrom, some_run}
use Rattle.teg_certificates.proofs.Certified.{no_place_no_circuit}

-- the mark of a part tells whether a place lies in it
module _ (net : NetLists) (parts : PartLists) (ok : AreParts net parts) (part : ℕ) (l : part < length parts.inner) (mark : Bool) (is : mark ≡ get_or parts.inner part false) where
  pub marked : mark ≡ true → HasInnerPlace net parts.part_of part
  marked e = (ok.inner part l).0 (sym is ∙ e)

  pub unmarked : mark ≡ false → HasNoCircuit net (IsPlaceOfPart net parts.part_of part)
  unmarked e = no_place_no_circuit net parts.part_of part (λ p inside. let other = (ok.inner part l).1 (p, inside) in let f : ⊥ = cc in f)

-- certified parts make a certificate
pub certified : (net : NetLists) (parts : PartLists) (answer : CycleAnswer) → AreParts net parts → answer.part_of.items ≡ parts.part_of → length answer.parts.items ≡ length parts.inner →
    ArePartCertificates net parts.part_of answer.parts.items → IsFirstGreatest answer.parts.items answer.best → IsCertificate net answer
certified net parts answer strong same count parts_are best =
    let below : All (λ k. k < length answer.parts.items) parts.part_of = λ i d l. let b = strong.below i d l in omega arith in
    record {
      count = ap length same ∙ strong.strong.count;
      below = rw same below;
      rises = rw same strong.rises;
      parts = rw same parts_are;
      best = best;
    }

-- the answer that a run ends in is that of its last round
pub run_ends : (net : NetLists) (part_of : List ℕ) (part : ℕ) (answer : PartAnswer) → (rounds : List Round)
    × IsPolicyRun net part_of part rounds × IsAnswerOfLast rounds answer → IsLastOfRun net part_of part answer
run_ends net part_of part NoCircuit w = tt
run_ends net part_of part (Best ratio circuit potentials) w = w

-- some answer is told where a run ends
pub run_told : (net : NetLists) (part_of : List ℕ) (part : ℕ) (answer : PartAnswer) (rounds : List Round)
    → IsPolicyRun net part_of part rounds → IsAnswerOfLast rounds answer → IsRunOf net part_of part answer (Some rounds)
run_told net part_of part NoCircuit [] run is = absurd (omega (arith, run.run.some))
run_told net part_of part NoCircuit (r ∷ rs) run is = absurd (is r)
run_told net part_of part (Best ratio circuit potentials) rounds run is = (run, is)

-- ---- rounds part by part
runs_append : (net : NetLists) (part_of : List ℕ) (k : ℕ) (ps qs : List PartAnswer) (runs more : List (List Round))
    → AreRunsFrom net part_of k ps runs → AreRunsFrom net part_of (k + length ps) qs more →
    AreRunsFrom net part_of k (ps ++ qs) (runs ++ more)
runs_append net part_of k [] qs runs more h m =
    let here : k + 0 ≡ k = omega arith in
    subst (λ (l : List (List Round)). AreRunsFrom net part_of k qs (l ++ more)) (sym h) (subst (λ (j : ℕ). AreRunsFrom net part_of j qs more) here m)
runs_append net part_of k (NoCircuit ∷ ps) qs runs more h m =
    let here : k + suc (length ps) ≡ k + 1 + length ps = omega arith in
    runs_append net part_of (k + 1) ps qs runs more h (subst (λ (j : ℕ). AreRunsFrom net part_of j qs more) here m)
runs_append net part_of k (Best ratio circuit potentials ∷ ps) qs [] more h m = absurd h
runs_append net part_of k (Best ratio circuit potentials ∷ ps) qs (rounds ∷ runs) more h m =
    let here : k + suc (length ps) ≡ k + 1 + length ps = omega arith in
    (h.0, h.1, runs_append net part_of (k + 1) ps qs runs more h.2 (subst (λ (j : ℕ). AreRunsFrom net part_of j qs more) here m))

one_part : (net : NetLists) (part_of : List ℕ) (k : ℕ) (answer : PartAnswer) (rounds : Option (List Round))
    → IsRunOf net part_of k answer rounds → AreRunsFrom net part_of k (answer ∷ []) (some_run rounds)
one_part net part_of k NoCircuit rounds h = ap some_run h
one_part net part_of k (Best ratio circuit potentials) None h = absurd h
one_part net part_of k (Best ratio circuit potentials) (Some rounds) h = (h.0, h.1, refl)

-- the rounds of one part more
pub one_more : (net : NetLists) (part_of : List ℕ) (answers : List PartAnswer) (answer : PartAnswer) (runs : List (List Round)) (rounds : Option (List Round)) →
    AreRunsFrom net part_of 0 answers runs → IsRunOf net part_of (length answers) answer rounds → AreRunsFrom net part_of 0 (answers ++ answer ∷ []) (runs ++ some_run rounds)
one_more net part_of answers answer runs rounds h found =
    let here : length answers ≡ 0 + length answers = omega arith in
    runs_append net part_of 0 answers (answer ∷ []) runs (some_run rounds) h
    (subst (λ (j : ℕ). AreRunsFrom net part_of j (answer ∷ []) (some_run rounds)) here (one_part net part_of (length answers) answer rounds found))
