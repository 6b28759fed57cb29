-- Answers of parts as last rounds of policy runs, and the runs that end in them.
use Rattle.std.specs.Prelude.{ℕ, ◌+◌, ◌<◌, ◌≡◌, ⊤, List, [], ◌∷◌, Option, Some, None, length, map, slice_index_or}
use Rattle.std.specs.Global.{Vec}
use Rattle.teg_net.specs.declared.rounds.Round.{Round}
use Rattle.teg_net.specs.declared.answers.PartAnswer.{PartAnswer}
use Rattle.teg_net.specs.declared.answers.PartAnswer.TheVariants.{NoCircuit, Best}
use Rattle.teg_net.specs.Nets.{NetLists}
use Rattle.policy_rounds.specs.PolicyRounds.{IsPolicyRun}
use Rattle.policy_rounds.specs.RunAnswers.{IsAnswerOfLast}

-- the answer is that of the last round of the part's policy run; a part without a circuit has no run
abbrev pub IsLastOfRun : NetLists → List ℕ → ℕ → PartAnswer → Type 0
IsLastOfRun net part_of part NoCircuit = ⊤
IsLastOfRun net part_of part (Best ratio circuit potentials) =
    (rounds : List Round) × IsPolicyRun net part_of part rounds × IsAnswerOfLast rounds (Best ratio circuit potentials)

-- each answer is so, in order
abbrev pub AreLastOfRuns : NetLists → List ℕ → List PartAnswer → Type 0
AreLastOfRuns net part_of answers = (k : ℕ) → k < length answers → IsLastOfRun net part_of k (slice_index_or answers k NoCircuit)

-- a policy run of the part that ends in this answer, and none where no circuit lies in it
abbrev pub IsRunOf : NetLists → List ℕ → ℕ → PartAnswer → Option (List Round) → Type 0
IsRunOf net part_of k NoCircuit rounds = rounds ≡ None
IsRunOf net part_of k (Best ratio circuit potentials) None = ⊥
IsRunOf net part_of k (Best ratio circuit potentials) (Some rounds) = IsPolicyRun net part_of k rounds × IsAnswerOfLast rounds (Best ratio circuit potentials)

-- of each part with a circuit a policy run that ends in its answer, in order, where the parts from number k on have these answers
abbrev pub AreRunsFrom : NetLists → List ℕ → ℕ → List PartAnswer → List (List Round) → Type 0
AreRunsFrom net part_of k [] runs = runs ≡ []
AreRunsFrom net part_of k (NoCircuit ∷ answers) runs = AreRunsFrom net part_of (k + 1) answers runs
AreRunsFrom net part_of k (Best ratio circuit potentials ∷ answers) [] = ⊥
AreRunsFrom net part_of k (Best ratio circuit potentials ∷ answers) (rounds ∷ runs) =
    IsPolicyRun net part_of k rounds × IsAnswerOfLast rounds (Best ratio circuit potentials) × AreRunsFrom net part_of (k + 1) answers runs

-- the lists of the rounds that the code holds, one for each part with a circuit
abbrev pub rounds_of_runs : List (Vec Round) → List (List Round)
rounds_of_runs runs = map (λ run. run.items) runs

-- the rounds of one part, as a list of at most one run
abbrev pub some_run : Option (List Round) → List (List Round)
some_run None = []
some_run (Some rounds) = rounds ∷ []
