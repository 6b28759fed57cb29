-- Runs of the parts of an answer, part by part: that they can be told, and where one is another.
use Rattle.std.proofs.Common.{ℕ, suc, ◌+◌, ◌<◌, ◌≡◌, ◌≢◌, ◌++◌, List, [], ◌∷◌, map, length, get_or, take, drop, refl, sym, ap, subst, ◌∙◌, arith, ⊎_elim}
use Rattle.std.proofs.Math.Seq.{drop-length, take-length}
use Rattle.std.proofs.lemmas.List.{drop_more, get_or-map, length-map, length-take-le, take-append-drop, take_more}
use Rattle.std.proofs.lemmas.List.Elements.{All-cons, All-map}
use Rattle.std.proofs.lemmas.Simd.{map-map}
use Rattle.std.specs.Global.{Vec}
use Rattle.std.specs.Prelude.{IfNone, Option, Some, None}
use Rattle.teg_net.specs.declared.answers.PartAnswer.{PartAnswer}
use Rattle.teg_net.specs.declared.answers.Potential.{Potential}
use Rattle.teg_net.specs.declared.answers.PartAnswer.TheVariants.{NoCircuit, Best}
use Rattle.teg_net.specs.declared.rounds.Round.{Round}
use Rattle.teg_net.specs.declared.circuits.Circuit.{Circuit}
use Rattle.teg_net.specs.Ratios.{Fraction}
use Rattle.teg_net.specs.Nets.{NetLists}
use Rattle.teg_net.proofs.PathLaws.{IsPathBetween-in_range}
use Rattle.policy_rounds.specs.PolicyRounds.{IsPolicyRun, IsRound}
use Rattle.policy_rounds.proofs.ListedChoices.{only_members}
use Rattle.policy_rounds.proofs.OneRun.{each_round}
use Rattle.teg_lines.specs.CycleLines.{ToldPart, NoCircuitIn, BestOf}
use Rattle.teg_lines.specs.CycleMeanings.{part_lists, round_lists, runs_lists}
use Rattle.teg_lines.specs.RoundLines.{AreRunsTold, IsRoundIn, IsRunIn, RoundLists, circuits_in}
use Rattle.policy_rounds.specs.LastRounds.{AreRunsFrom, rounds_of_runs}
use Rattle.round_check.specs.OtherRounds.{IsOtherAt, IsOtherRound}
use Rattle.round_check.specs.Rounds.{AreBegun}
use Rattle.round_check.specs.ShownRounds.{EndsIn}
use Rattle.round_check.specs.ToldRounds.{GoOn, HasRounds, runs_of_part}
use Rattle.round_check.proofs.RoundsFit.{policy_from}
use Rattle.round_check.proofs.Stepping.{begun_run}

round_told : (net : NetLists) (part_of : List ℕ) (part : ℕ) (r : Round) → length part_of ≡ length net.transitions → IsRound net part_of part r → IsRoundIn net (round_lists r)
round_told net part_of part r full h = record {
  circuit = IsPathBetween-in_range net r.circuit.places.items h.circuit.circuit.closed.0 h.circuit.circuit.closed.0 h.circuit.circuit.closed.1;
  choices = λ i d l.
      let member = only_members part_of part r.choices.items h.members i d l in
      let entered = policy_from net part_of part r h.members h.policy i d l in
      record { transition = omega (arith, member.in_range, full); place = entered.inside.in_range };
}

run_told : (net : NetLists) (part_of : List ℕ) (part : ℕ) (rounds : List Round) → length part_of ≡ length net.transitions → IsPolicyRun net part_of part rounds → IsRunIn net (map round_lists rounds)
run_told net part_of part rounds full h = record {
  some = omega (arith, h.run.some, length-map rounds round_lists);
  each = All-map (IsRoundIn net) round_lists rounds (λ k d l. round_told net part_of part (get_or rounds k d) full (each_round net part_of part rounds h.run k d l));
}

pub told_from : (net : NetLists) (part_of : List ℕ) (k : ℕ) (answers : List PartAnswer) (runs : List (List Round)) → length part_of ≡ length net.transitions → AreRunsFrom net part_of k answers runs →
    AreRunsTold net (map part_lists answers) (map (map round_lists) runs)
told_from net part_of k [] runs full h = subst (λ (l : List (List Round)). AreRunsTold net [] (map (map round_lists) l)) (sym h) (record { full = refl; each = λ i d l. absurd (omega (arith, l)) })
told_from net part_of k (NoCircuit ∷ answers) runs full h = let rest = told_from net part_of (k + 1) answers runs full h in record { full = rest.full; each = rest.each }
told_from net part_of k (Best ratio circuit potentials ∷ answers) [] full h = absurd h
told_from net part_of k (Best ratio circuit potentials ∷ answers) (rounds ∷ runs) full h =
    let rest = told_from net part_of (k + 1) answers runs full h.2 in
    record {
      full = ap suc rest.full;
      each = All-cons (IsRunIn net) (map round_lists rounds) (map (map round_lists) runs) (run_told net part_of k rounds full h.0) rest.each;
    }

-- as the code holds them
pub lists_of : (runs : List (Vec Round)) → map (map round_lists) (rounds_of_runs runs) ≡ runs_lists runs
lists_of runs = map-map (map round_lists) (λ run. run.items) runs

module _ (net : NetLists) (part_of : List ℕ) where
  -- a part without a circuit behind the last
  none_behind : (k : ℕ) (answers : List PartAnswer) (runs : List (List Round)) → AreRunsFrom net part_of k answers runs → AreRunsFrom net part_of k (answers ++ NoCircuit ∷ []) runs
  none_behind k [] runs h = h
  none_behind k (NoCircuit ∷ answers) runs h = none_behind (k + 1) answers runs h
  none_behind k (Best ratio circuit potentials ∷ answers) [] h = absurd h
  none_behind k (Best ratio circuit potentials ∷ answers) (rounds ∷ runs) h = (h.0, h.1, none_behind (k + 1) answers runs h.2)

  one_run : (k : ℕ) (own : PartAnswer) (rounds : List Round) → EndsIn net part_of k own rounds → AreRunsFrom net part_of k (own ∷ []) (rounds ∷ [])
  one_run k NoCircuit [] h = let l = h.0.run.some in absurd (omega arith)
  one_run k NoCircuit (r ∷ rounds) h = absurd (h.1 r)
  one_run k (Best ratio circuit potentials) rounds h = (h.0, h.1, refl)

  -- a part with its run behind the last
  run_behind : (k : ℕ) (answers : List PartAnswer) (own : PartAnswer) (runs : List (List Round)) (rounds : List Round) → EndsIn net part_of (k + length answers) own rounds
      → AreRunsFrom net part_of k answers runs → AreRunsFrom net part_of k (answers ++ own ∷ []) (runs ++ rounds ∷ [])
  run_behind k [] own runs rounds e h =
      let here : k + 0 ≡ k = omega arith in
      subst (λ (rs : List (List Round)). AreRunsFrom net part_of k (own ∷ []) (rs ++ rounds ∷ [])) (sym h)
      (one_run k own rounds (subst (λ (n : ℕ). EndsIn net part_of n own rounds) here e))
  run_behind k (NoCircuit ∷ answers) own runs rounds e h =
      let next : k + suc (length answers) ≡ (k + 1) + length answers = omega arith in
      run_behind (k + 1) answers own runs rounds (subst (λ (n : ℕ). EndsIn net part_of n own rounds) next e) h
  run_behind k (Best ratio circuit potentials ∷ answers) own [] rounds e h = absurd h
  run_behind k (Best ratio circuit potentials ∷ answers) own (first ∷ runs) rounds e h =
      let next : k + suc (length answers) ≡ (k + 1) + length answers = omega arith in
      (h.0, h.1, run_behind (k + 1) answers own runs rounds (subst (λ (n : ℕ). EndsIn net part_of n own rounds) next e) h.2)

  -- no circuit is told of the part
  pub go_on_none : (answers : List PartAnswer) (runs : List (List Round)) (number told : ℕ) → number < length answers → get_or answers number NoCircuit ≡ NoCircuit
      → GoOn net part_of answers runs number told
  go_on_none answers runs number told l e h =
      let cut : take (number + 1) answers ≡ take number answers ++ NoCircuit ∷ [] = take_more answers number NoCircuit l ∙ ap (λ (a : PartAnswer). take number answers ++ a ∷ []) e in
      let many : told + runs_of_part answers number ≡ told = ap (λ (a : PartAnswer). told + circuits_in (part_lists a ∷ [])) e ∙ omega arith in
      rw (cut, many) (none_behind 0 (take number answers) (take told runs) h)

  one_told : (k : ℕ) (own : PartAnswer) (rounds : List Round) → EndsIn net part_of k own rounds → circuits_in (part_lists own ∷ []) ≡ 1
  one_told k NoCircuit [] h = let l = h.0.run.some in absurd (omega arith)
  one_told k NoCircuit (r ∷ rounds) h = absurd (h.1 r)
  one_told k (Best ratio circuit potentials) rounds h = refl

  -- its run is the next one
  pub go_on_some : (answers : List PartAnswer) (runs : List (List Round)) (number told : ℕ) → number < length answers → told < length runs
      → EndsIn net part_of number (get_or answers number NoCircuit) (get_or runs told []) → GoOn net part_of answers runs number told
  go_on_some answers runs number told l m is h =
      let own : PartAnswer = get_or answers number NoCircuit in
      let cut = take_more answers number NoCircuit l in
      let next : take (told + runs_of_part answers number) runs ≡ take told runs ++ get_or runs told [] ∷ [] =
      ap (λ (n : ℕ). take (told + n) runs) (one_told number own (get_or runs told []) is) ∙ take_more runs told [] m in
      let here : number ≡ 0 + length (take number answers) = omega (arith, length-take-le number answers (omega (arith, l))) in
      rw (cut, next) (run_behind 0 (take number answers) own (take told runs) (get_or runs told []) (subst (λ (n : ℕ). EndsIn net part_of n own (get_or runs told [])) here is) h)

  -- a part with a circuit has the next run
  own_first : (k : ℕ) (own : PartAnswer) (after : List PartAnswer) (runs : List (List Round)) → own ≢ NoCircuit → AreRunsFrom net part_of k (own ∷ after) runs
      → (rounds : List Round) × (more : List (List Round)) × (runs ≡ rounds ∷ more) × EndsIn net part_of k own rounds
  own_first k NoCircuit after runs some h = absurd (some refl)
  own_first k (Best ratio circuit potentials) after [] some h = absurd h
  own_first k (Best ratio circuit potentials) after (rounds ∷ more) some h = (rounds, more, refl, (h.0, h.1))

  own_behind : (k : ℕ) (before : List PartAnswer) (own : PartAnswer) (after : List PartAnswer) (first rest : List (List Round)) → own ≢ NoCircuit → AreRunsFrom net part_of k before first
      → AreRunsFrom net part_of k (before ++ own ∷ after) (first ++ rest)
      → (rounds : List Round) × (more : List (List Round)) × (rest ≡ rounds ∷ more) × EndsIn net part_of (k + length before) own rounds
  own_behind k [] own after first rest some f h =
      let here : k ≡ k + 0 = omega arith in
      let all = subst (λ (rs : List (List Round)). AreRunsFrom net part_of k (own ∷ after) (rs ++ rest)) f h in
      let w = own_first k own after rest some all in
      (w.0, w.1, w.2, subst (λ (n : ℕ). EndsIn net part_of n own w.0) here w.3)
  own_behind k (NoCircuit ∷ before) own after first rest some f h =
      let next : (k + 1) + length before ≡ k + suc (length before) = omega arith in
      let w = own_behind (k + 1) before own after first rest some f h in
      (w.0, w.1, w.2, subst (λ (n : ℕ). EndsIn net part_of n own w.0) next w.3)
  own_behind k (Best ratio circuit potentials ∷ before) own after [] rest some f h = absurd f
  own_behind k (Best ratio circuit potentials ∷ before) own after (rounds ∷ first) rest some f h =
      let next : (k + 1) + length before ≡ k + suc (length before) = omega arith in
      let w = own_behind (k + 1) before own after first rest some f.2 h.2 in
      (w.0, w.1, w.2, subst (λ (n : ℕ). EndsIn net part_of n own w.0) next w.3)

  -- where a round is another, the rounds are no run that ends in what is told
  other_ends : (part : ℕ) (answer : PartAnswer) (rounds : List Round) (k : ℕ) → IsOtherRound net part_of part answer rounds k → EndsIn net part_of part answer rounds → ⊥
  other_ends part answer rounds k o h =
      ⊎_elim
      (λ (no : AreBegun net part_of part rounds (k + 1) → ⊥). no (begun_run net part_of part rounds (k + 1) (omega (arith, o.within)) h.0.run))
      (λ (no : (k + 1 ≡ length rounds) × (EndsIn net part_of part answer rounds → ⊥)). no.1 h)
      o.other

  -- and the runs are not those of the parts
  pub other_runs : (answers : List PartAnswer) (runs : List (List Round)) (part k : ℕ) → IsOtherAt net part_of answers runs part k → AreRunsFrom net part_of 0 answers runs → ⊥
  other_runs answers runs part k o h =
      let own : PartAnswer = get_or answers part NoCircuit in
      let after : List PartAnswer = drop (part + 1) answers in
      let cut : answers ≡ take part answers ++ own ∷ after = sym (take-append-drop part answers) ∙ ap (λ (l : List PartAnswer). take part answers ++ l) (drop_more answers part NoCircuit o.part_in) in
      let all = subst (λ (ps : List PartAnswer). AreRunsFrom net part_of 0 ps runs) cut h in
      let all_runs = subst (λ (rs : List (List Round)). AreRunsFrom net part_of 0 (take part answers ++ own ∷ after) rs) (sym (take-append-drop o.told runs)) all in
      let w = own_behind 0 (take part answers) own after (take o.told runs) (drop o.told runs) o.other.circuit o.before all_runs in
      let many = length-take-le part answers (omega (arith, o.part_in)) in
      let here : 0 + length (take part answers) ≡ part = omega (arith, many) in
      let same : w.0 ≡ get_or runs o.told [] = ap (λ (rs : List (List Round)). get_or rs 0 []) (sym w.2 ∙ drop_more runs o.told [] o.other.run) in
      let ends = subst (λ (n : ℕ). EndsIn net part_of n own w.0) here w.3 in
      other_ends part own (get_or runs o.told []) k o.other.round (subst (EndsIn net part_of part own) same ends)

-- how many runs are told of parts, one more at a time
pub circuits_more : (parts : List ToldPart) (next : ToldPart) → circuits_in (parts ++ next ∷ []) ≡ circuits_in parts + circuits_in (next ∷ [])
circuits_more [] next = let none : circuits_in (next ∷ []) ≡ 0 + circuits_in (next ∷ []) = omega arith in none
circuits_more (NoCircuitIn ∷ parts) next = circuits_more parts next
circuits_more (BestOf ratio circuit potentials ∷ parts) next =
    let rest = circuits_more parts next in
    let one : suc (circuits_in (parts ++ next ∷ [])) ≡ suc (circuits_in parts) + circuits_in (next ∷ []) = omega (arith, rest) in one

pub count_more : (parts : List PartAnswer) (i : ℕ) → i < length parts
    → circuits_in (take (i + 1) (map part_lists parts)) ≡ circuits_in (take i (map part_lists parts)) + runs_of_part parts i
count_more parts i l =
    let lists : List ToldPart = map part_lists parts in
    ap circuits_in (take_more lists i NoCircuitIn (omega (arith, l, length-map parts part_lists)))
    ∙ (circuits_more (take i lists) (get_or lists i NoCircuitIn)
    ∙ ap (λ (p : ToldPart). circuits_in (take i lists) + circuits_in (p ∷ [])) (get_or-map part_lists parts i NoCircuit NoCircuitIn l))

pub circuits_first : (first : ToldPart) (parts : List ToldPart) → circuits_in (first ∷ parts) ≡ circuits_in (first ∷ []) + circuits_in parts
circuits_first NoCircuitIn parts = let none : circuits_in parts ≡ 0 + circuits_in parts = omega arith in none
circuits_first (BestOf ratio circuit potentials) parts = let one : suc (circuits_in parts) ≡ 1 + circuits_in parts = omega arith in one

pub one_where_some : (own : PartAnswer) → own ≢ NoCircuit → circuits_in (part_lists own ∷ []) ≡ 1
one_where_some NoCircuit some = absurd (some refl)
one_where_some (Best ratio circuit potentials) some = refl

-- the answer of a part with a circuit is one
pub best_is_some : (own : PartAnswer) (ratio : Fraction) (circuit : Circuit) (potentials : Vec Potential) → own ≡ Best ratio circuit potentials → own ≢ NoCircuit
best_is_some own ratio circuit potentials e n = let clash : NoCircuit ≡ Best ratio circuit potentials = sym n ∙ e in cc

-- how many runs are left
left_of : (answers : List PartAnswer) (number : ℕ) → number < length answers
    → circuits_in (map part_lists (drop number answers)) ≡ runs_of_part answers number + circuits_in (map part_lists (drop (number + 1) answers))
left_of answers number l =
    ap (λ (ps : List PartAnswer). circuits_in (map part_lists ps)) (drop_more answers number NoCircuit l)
    ∙ circuits_first (part_lists (get_or answers number NoCircuit)) (map part_lists (drop (number + 1) answers))

-- a part with a circuit has rounds
pub has_rounds : (net : NetLists) (answers : List PartAnswer) (runs : List (Vec Round)) (number told : ℕ) → number < length answers
    → AreRunsTold net (map part_lists answers) (runs_lists runs) → told + circuits_in (map part_lists (drop number answers)) ≡ length runs
    → get_or answers number NoCircuit ≢ NoCircuit → HasRounds (rounds_of_runs runs) told
has_rounds net answers runs number told l are h some =
    let left = left_of answers number l in
    let one : runs_of_part answers number ≡ 1 = one_where_some (get_or answers number NoCircuit) some in
    let lists : List (List Round) = rounds_of_runs runs in
    let many : length lists ≡ length runs = length-map runs (λ run. run.items) in
    let within : told < length lists = omega (arith, left, one, h, many) in
    let told_lists : map (map round_lists) lists ≡ runs_lists runs = lists_of runs in
    let as_many : length (runs_lists runs) ≡ length runs = ap length (sym told_lists) ∙ (length-map lists (map round_lists) ∙ many) in
    let each : 0 < length (get_or (runs_lists runs) told []) = (are.each told [] (omega (arith, within, many, as_many))).some in
    let read : get_or (runs_lists runs) told [] ≡ map round_lists (get_or lists told []) =
    ap (λ (ls : List (List RoundLists)). get_or ls told []) (sym told_lists) ∙ get_or-map (map round_lists) lists told [] [] within in
    let long : length (get_or (runs_lists runs) told []) ≡ length (get_or lists told []) = ap length read ∙ length-map (get_or lists told []) round_lists in
    (within, omega (arith, each, long))

-- at the end all runs are told
pub all_runs : (net : NetLists) (part_of : List ℕ) (answers : List PartAnswer) (runs : List (Vec Round)) (number told : ℕ) → number ≡ length answers
    → AreRunsFrom net part_of 0 (take number answers) (take told (rounds_of_runs runs)) → told + circuits_in (map part_lists (drop number answers)) ≡ length runs
    → AreRunsFrom net part_of 0 answers (rounds_of_runs runs)
all_runs net part_of answers runs number told e h left =
    let lists : List (List Round) = rounds_of_runs runs in
    let none : drop number answers ≡ [] = ap (λ (n : ℕ). drop n answers) e ∙ drop-length answers in
    let no_more : circuits_in (map part_lists (drop number answers)) ≡ 0 = ap (λ (ps : List PartAnswer). circuits_in (map part_lists ps)) none in
    let many : told ≡ length lists = omega (arith, left, no_more, length-map runs (λ run. run.items)) in
    let whole : take number answers ≡ answers = ap (λ (n : ℕ). take n answers) e ∙ take-length answers in
    let whole_runs : take told lists ≡ lists = ap (λ (n : ℕ). take n lists) many ∙ take-length lists in
    subst (AreRunsFrom net part_of 0 answers) whole_runs (subst (λ (ps : List PartAnswer). AreRunsFrom net part_of 0 ps (take told lists)) whole h)

-- how many are told at first
pub none_told_yet : (net : NetLists) (answers : List PartAnswer) (runs : List (Vec Round)) → AreRunsTold net (map part_lists answers) (runs_lists runs)
    → 0 + circuits_in (map part_lists (drop 0 answers)) ≡ length runs
none_told_yet net answers runs are =
    let many : length (runs_lists runs) ≡ length runs = length-map runs (λ run. map round_lists run.items) in
    omega (arith, are.full, many)

-- of a run that the code holds
pub run_of : (runs : List (Vec Round)) (told : ℕ) (run : Vec Round) → told < length runs → run ≡ get_or runs told run → get_or (rounds_of_runs runs) told [] ≡ run.items
run_of runs told run within is = get_or-map (λ r. r.items) runs told run [] within ∙ ap (λ r. r.items) (sym is)

-- what follows of none
pub none_then : {A B : Type 0} (o : Option ℕ) → (A → B) → IfNone o A → IfNone o B
none_then None f h = f h
none_then (Some k) f h = tt
