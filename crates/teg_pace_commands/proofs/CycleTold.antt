-- What is told of the circuits of a net, from what is known of them.
use Rattle.std.specs.Prelude.{All, IfOk, IfSome, Result, Ok, Err}
use Rattle.std.proofs.Common.{◌≡◌, ℕ, suc, ◌+◌, ◌<◌, List, [], ◌∷◌, Option, Some, None, map, length, get_or, refl, sym, subst, ap, arith}
use Rattle.std.proofs.lemmas.List.{get_or-map, length-map}
use Rattle.std.proofs.lemmas.List.Elements.{All-cons, All-map}
use Rattle.std.proofs.lemmas.Simd.{map-map}
use Rattle.std.specs.Global.{Vec}
use Rattle.teg_net.specs.declared.answers.CycleAnswer.{CycleAnswer}
use Rattle.teg_net.specs.declared.answers.PartAnswer.{PartAnswer}
use Rattle.teg_net.specs.declared.answers.PartAnswer.TheVariants.{NoCircuit, Best}
use Rattle.teg_net.specs.declared.entries.PlaceId.{PlaceId}
use Rattle.teg_net.specs.declared.rounds.Choice.{Choice}
use Rattle.teg_net.specs.declared.rounds.Round.{Round}
use Rattle.policy_rounds.specs.RunAnswers.{KeepsLimits}
use Rattle.teg_net.specs.GreatestRatios.{IsAnyPlace, IsCycleTime, IsFirstGreatest, HasNoCircuit, ratio_at}
use Rattle.teg_net.specs.Nets.{NetLists}
use Rattle.teg_net.specs.Parts.{IsMember}
use Rattle.teg_net.specs.PartAnswers.{ArePartAnswers}
use Rattle.teg_parts.specs.Partitions.{AreParts, PartLists}
use Rattle.policy_rounds.specs.LastRounds.{AreRunsFrom, rounds_of_runs}
use Rattle.policy_rounds.specs.PolicyRounds.{IsRound, IsPolicyRun, choice_of_member, chosen_place}
use Rattle.teg_report.specs.teg_lines.CycleMeanings.{cycle_lists, part_lists, round_lists, runs_lists}
use Rattle.teg_report.specs.teg_lines.RoundLines.{RoundLists, IsRoundIn, IsRunIn, IsRunKept, AreRoundsTold, AreRunsTold, circuits_in}
use Rattle.teg_report.specs.teg_text.Lines.{written}
use Rattle.teg_pace_commands.specs.Cycle.{IsCycleAnswer}
use Rattle.teg_pace_commands.specs.CycleTexts.{cycle_text, no_circuit_text, times_lines}
use Rattle.teg_net.proofs.PathLaws.{IsPathBetween-in_range}
use Rattle.policy_rounds.proofs.OneRun.{each_round}
use Rattle.teg_pace_commands.proofs.Rounds.{choice_at}

-- a net without a circuit

no_best : (net : NetLists) (answers : List PartAnswer) (best : Option ℕ) → IsCycleTime net answers best → HasNoCircuit net IsAnyPlace → best ≡ None
no_best net answers None h none = refl
no_best net answers (Some k) h none = absurd (none h.2.attained.0 h.2.attained.1 h.2.attained.2)

pub no_circuit_said : (net : NetLists) (answer : CycleAnswer) (runs : Option (List (List RoundLists))) → IsCycleAnswer net answer
    → HasNoCircuit net IsAnyPlace → cycle_text net answer runs ≡ no_circuit_text
no_circuit_said net answer runs h none =
    ap (λ (best : Option ℕ). written (times_lines net best (cycle_lists answer) runs)) (no_best net answer.parts.items answer.best h.of_net none)

-- the cycle times of a net, from what is proved of them for its parts
pub cycle_answer : (net : NetLists) (parts : PartLists) (answer : CycleAnswer) → AreParts net parts → answer.part_of.items ≡ parts.part_of → length answer.parts.items ≡ length parts.inner →
    ArePartAnswers net parts.part_of answer.parts.items → All KeepsLimits answer.parts.items
    → IsFirstGreatest answer.parts.items answer.best → IsCycleTime net answer.parts.items answer.best → IsCycleAnswer net answer
cycle_answer net parts answer strong same count answers limits first of_net = record {
  strong = (parts.inner, subst (λ (ps : List ℕ). AreParts net (record { part_of = ps; inner = parts.inner })) (sym same) strong, count);
  parts = subst (λ (ps : List ℕ). ArePartAnswers net ps answer.parts.items) (sym same) answers;
  limits = limits;
  first = first;
  of_net = of_net;
}

-- rounds of a policy run can be told

round_told : (net : NetLists) (part_of : List ℕ) (part : ℕ) (r : Round) → length part_of ≡ length net.transitions → IsRound net part_of part r → IsRoundIn net (round_lists r)
round_told net part_of part r full h =
    let cs = r.choices.items in
    record {
      circuit = IsPathBetween-in_range net r.circuit.places.items h.circuit.circuit.closed.0 h.circuit.circuit.closed.0 h.circuit.circuit.closed.1;
      choices = λ i d l.
          let t = (get_or cs i d).transition.index in
          let member = subst (IsMember part_of part) (get_or-map (λ (e : Choice). e.transition.index) cs i d 0 l)
          (h.members.only i 0 (omega (arith, l, length-map cs (λ (e : Choice). e.transition.index)))) in
          let entered = (h.policy t member).inside.in_range in
          let chosen_is : chosen_place (choice_of_member cs t) ≡ (get_or cs i d).place = ap chosen_place (choice_at cs h.members.ordered i d l) in
          record {
            transition = omega (arith, member.in_range, full);
            place = subst (λ (p : PlaceId). p.index < length net.places) chosen_is entered;
          };
    }

run_told : (net : NetLists) (part_of : List ℕ) (part : ℕ) (rounds : List Round) → length part_of ≡ length net.transitions → IsPolicyRun net part_of part rounds → IsRunIn net (map round_lists rounds)
run_told net part_of part rounds full h = record {
  some = omega (arith, h.run.some, length-map rounds round_lists);
  each = All-map (IsRoundIn net) round_lists rounds (λ k d l. round_told net part_of part (get_or rounds k d) full (each_round net part_of part rounds h.run k d l));
}

pub told_from : (net : NetLists) (part_of : List ℕ) (k : ℕ) (answers : List PartAnswer) (runs : List (List Round)) → length part_of ≡ length net.transitions → AreRunsFrom net part_of k answers runs →
    AreRunsTold net (map part_lists answers) (map (map round_lists) runs)
told_from net part_of k [] runs full h = subst (λ (l : List (List Round)). AreRunsTold net [] (map (map round_lists) l)) (sym h) (record { full = refl; each = λ i d l. absurd (omega (arith, l)) })
told_from net part_of k (NoCircuit ∷ answers) runs full h = let rest = told_from net part_of (k + 1) answers runs full h in record { full = rest.full; each = rest.each }
told_from net part_of k (Best ratio circuit potentials ∷ answers) [] full h = absurd h
told_from net part_of k (Best ratio circuit potentials ∷ answers) (rounds ∷ runs) full h =
    let rest = told_from net part_of (k + 1) answers runs full h.2 in
    record {
      full = ap suc rest.full;
      each = All-cons (IsRunIn net) (map round_lists rounds) (map (map round_lists) runs) (run_told net part_of k rounds full h.0) rest.each;
    }

-- as the code holds them
pub lists_of : (runs : List (Vec Round)) → map (map round_lists) (rounds_of_runs runs) ≡ runs_lists runs
lists_of runs = map-map (map round_lists) (λ run. run.items) runs

pub runs_told : (net : NetLists) (part_of : List ℕ) (answers : List PartAnswer) (runs : List (Vec Round))
    → length part_of ≡ length net.transitions → AreRunsFrom net part_of 0 answers (rounds_of_runs runs) →
    AreRunsTold net (map part_lists answers) (runs_lists runs)
runs_told net part_of answers runs full h = subst (AreRunsTold net (map part_lists answers)) (lists_of runs) (told_from net part_of 0 answers (rounds_of_runs runs) full h)

-- no rounds are told where no part is the best

no_circuits : (parts : List PartAnswer) → ((j : ℕ) → ratio_at parts j ≡ None) → circuits_in (map part_lists parts) ≡ 0
no_circuits [] none = refl
no_circuits (NoCircuit ∷ parts) none = no_circuits parts (λ j. none (suc j))
no_circuits (Best ratio circuit potentials ∷ parts) none = let no : Some ratio ≡ None = none 0 in let f : ⊥ = cc in absurd f

pub no_rounds_kept : (net : NetLists) (parts : List PartAnswer) (rounds : Option (List (List RoundLists))) → IsFirstGreatest parts None → AreRoundsTold net (map part_lists parts) rounds →
    IfSome rounds (λ runs. All IsRunKept runs)
no_rounds_kept net parts None none told = tt
no_rounds_kept net parts (Some runs) none told = λ i d l. absurd (omega (arith, l, told.full, no_circuits parts none))

-- what holds holds of each result
pub of_each_result : {T E : Type 0} (P : Type 0) (result : Result T E) → P → IfOk result (λ _. P)
of_each_result P (Ok x) h = h
of_each_result P (Err e) h = tt
