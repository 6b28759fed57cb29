-- Rounds are read back from their lines.
use Rattle.std.proofs.Common.{◌≡◌, ℕ, zero, suc, ◌+◌, ◌<◌, ◌≤◌, ◌^◌, Bool, true, false, not, ⊎_elim, Option, Some, None, IfSome, List, [], ◌∷◌, ◌++◌}
use Rattle.std.proofs.Common.{All, map, refl, ap, ap₂, ◌∙◌, length, slice_index_or, arith, decimal, ◌==◌, eq-eqb, ne_eqb}
use Rattle.std.proofs.lemmas.Bool.{and_from, and_parts, cases_Bool, not-true}
use Rattle.std.proofs.lemmas.Simd.{map-map}
use Rattle.std.proofs.lemmas.List.Elements.{All-cons, All-head, All-tail}
use Rattle.std.proofs.lemmas.List.Folds.{flat_map-map}
use Rattle.std.proofs.lemmas.List.Concat.{flat_map-append}
use Rattle.std.proofs.lemmas.List.FromFn.{get_or-range_with_len, length-range_with_len}
use Rattle.std.specs.List.{flat_map, list_all, range_with_len}
use Rattle.teg_net.specs.declared.rounds.Choice.{Choice}
use Rattle.teg_net.specs.Nets.{NetLists, IsNet}
use Rattle.teg_lines.specs.RoundLines.{choice_in_line, is_first_round, round_in, some_runs, IsChoiceKept, IsRoundKept, IsRunKept, RoundLists, Run}
use Rattle.teg_lines.specs.RoundLines.{no_round, choice_line, round_lines, run_lines, runs_lines, circuits_in, runs_from, told_runs, IsChoiceIn}
use Rattle.teg_lines.specs.RoundLines.{IsRoundIn, IsRunIn, AreRoundsTold}
use Rattle.teg_lines.specs.CycleLines.{is_part, is_part_line, ToldPart, NoCircuitIn, BestOf}
use Rattle.teg_text.proofs.NamesRead.{circuits, place_back, place_is_word, ratio_back, transition_back, transition_is_word}
use Rattle.teg_text.specs.Lines.{is_line, are_lines}
use Rattle.teg_text.specs.WordReading.{number_in}
use Rattle.teg_text.specs.LineBlocks.{LineBlocks, blocks_in, those}
use Rattle.teg_text.proofs.Back.{number_back, signed_back, ratio_is_word}
use Rattle.teg_text.proofs.LineBlocks.{IsReadBack, rows, map_passes, blocks_back, flat_passes, range_all, row_back}
use Rattle.teg_text.proofs.Words.{decimal_is_word, signed_is_word}
use Rattle.teg_text.proofs.HeadedBlocks.{is_block}

-- lists of which each element passes a test

pub all_pass : {X : Type 0} (test : X → Bool) (xs : List X) → list_all test xs ≡ true → All (λ x. test x ≡ true) xs
all_pass test [] h = λ i d l. absurd (omega (arith, l))
all_pass test (x ∷ xs) h =
    let parts = and_parts (test x) (list_all test xs) h in All-cons (λ y. test y ≡ true) x xs parts.0 (all_pass test xs parts.1)

pub those_all : {X : Type 0} (test : X → Bool) (xs : List X) → list_all test xs ≡ true → those test xs ≡ xs
those_all test [] h = refl
those_all test (x ∷ xs) h =
    let parts = and_parts (test x) (list_all test xs) h in rw parts.0 (ap (λ (l : List _). x ∷ l) (those_all test xs parts.1))

pub those_none : {X : Type 0} (test : X → Bool) (xs : List X) → list_all (λ x. not (test x)) xs ≡ true → those test xs ≡ []
those_none test [] h = refl
those_none test (x ∷ xs) h =
    let parts = and_parts (not (test x)) (list_all (λ y. not (test y)) xs) h in rw (not-true _ parts.0) (those_none test xs parts.1)

pub those_append : {X : Type 0} (test : X → Bool) (xs ys : List X) → those test (xs ++ ys) ≡ those test xs ++ those test ys
those_append test [] ys = refl
those_append test (x ∷ xs) ys =
    let rest = those_append test xs ys in
    ⊎_elim (λ (e : test x ≡ true). rw e (ap (λ (l : List _). x ∷ l) rest)) (λ (e : test x ≡ false). rw e rest) (cases_Bool (test x))

map_same : {A B : Type 0} (P : A → Type 0) (f g : A → B) → ((a : A) → P a → f a ≡ g a) → (xs : List A) → All P xs → map f xs ≡ map g xs
map_same P f g same [] h = refl
map_same P f g same (x ∷ xs) h = ap₂ (λ (y : _) (ys : List _). y ∷ ys) (same x (All-head P x xs h)) (map_same P f g same xs (All-tail P x xs h))

-- a round

record IsChoiceTold (net : NetLists) (c : Choice) : Type 0 where
  inside : IsChoiceIn net c
  kept : IsChoiceKept c

choice_read : (net : NetLists) → IsNet net → IsReadBack (IsChoiceTold net) is_line (choice_line net) (choice_in_line net)
choice_read net rules = record {
  passes = λ c h. rw (transition_is_word net c.transition rules h.inside.transition, place_is_word net c.place rules h.inside.place, signed_is_word c.value) refl;
  back = λ c h. rw (transition_back net c.transition rules h.inside.transition, place_back net c.place rules h.inside.place, signed_back c.value h.kept) refl;
}

record IsRoundRead (net : NetLists) (part k : ℕ) (r : RoundLists) : Type 0 where
  words : are_lines (round_lines net part k r) ≡ true
  block : is_block is_part_line (round_lines net part k r) ≡ true
  back : round_in net (round_lines net part k r) ≡ r

round_read : (net : NetLists) (part k : ℕ) (r : RoundLists) → IsNet net → IsRoundIn net r → IsRoundKept r → IsRoundRead net part k r
round_read net part k r rules h kept =
    let places = circuits net rules in
    let choices = rows _ _ _ _ (choice_read net rules) in
    let all : All (IsChoiceTold net) r.choices = λ i d l. record { inside = h.choices i d l; kept = kept.choices i d l } in
    record {
      words = rw (decimal_is_word (part + 1), decimal_is_word (k + 1), ratio_is_word r.ratio.time r.ratio.tokens, places.passes r.circuit h.circuit) (choices.passes r.choices all);
      block = map_passes (IsChoiceTold net) (λ l. not (is_part_line l)) (choice_line net) (λ c t. refl) r.choices all;
      back = λ i. record { ratio = ratio_back r.ratio kept.time kept.tokens i; circuit = places.back r.circuit h.circuit i; choices = choices.back r.choices all i };
    }

-- the rounds of a part, a block each, of which the first alone has the number 1

later_round : (k : ℕ) → 1 ≤ k → k < 2 ^ 64 → (number_in (decimal (k + 1)) == 1) ≡ false
later_round k o l =
    let told : number_in (decimal (k + 1)) ≡ k + 1 = number_back (k + 1) (omega (arith, l)) in
    ne_eqb (number_in (decimal (k + 1))) 1 (λ (e : number_in (decimal (k + 1)) ≡ 1). omega (arith, told, e, o))

first_round : (number_in (decimal (0 + 1)) == 1) ≡ true
first_round =
    let told : number_in (decimal (0 + 1)) ≡ 0 + 1 = number_back (0 + 1) (omega arith) in eq-eqb (number_in (decimal (0 + 1))) 1 (omega (arith, told))

abbrev pub round_blocks : NetLists → Run → List (List (List (List ℕ)))
round_blocks net run = map (λ k. round_lines net run.part k (slice_index_or run.rounds k no_round)) (range_with_len 0 (length run.rounds))

pub record IsRunTold (net : NetLists) (run : Run) : Type 0 where
  pub inside : IsRunIn net run.rounds
  pub kept : IsRunKept run.rounds

first_alone : (f : ℕ → List (List (List ℕ))) (count : ℕ) → 0 < count → is_first_round (f 0) ≡ true → ((k : ℕ) → 1 ≤ k → k < count → is_first_round (f k) ≡ false) →
    is_block is_first_round (map f (range_with_len 0 count)) ≡ true
first_alone f zero some first later = absurd (omega (arith, some))
first_alone f (suc n) some first later =
    and_from _ _ first
    (map_passes (λ k. (1 ≤ k) × (k < suc n)) (λ b. not (is_first_round b)) f (λ k h. rw (later k h.0 h.1) refl) (range_with_len 1 n)
    (λ i d l. let below : i < n = omega (arith, l, length-range_with_len 1 n) in
    let here = get_or-range_with_len 1 n i d below in (omega (arith, here), omega (arith, here, below))))

each_round : (net : NetLists) (run : Run) (k : ℕ) → IsNet net → IsRunTold net run → k < length run.rounds → IsRoundRead net run.part k (slice_index_or run.rounds k no_round)
each_round net run k rules h l = round_read net run.part k (slice_index_or run.rounds k no_round) rules (h.inside.each k no_round l) (h.kept.each k no_round l)

run_block : (net : NetLists) (run : Run) → IsRunTold net run → is_block is_first_round (round_blocks net run) ≡ true
run_block net run h =
    first_alone (λ k. round_lines net run.part k (slice_index_or run.rounds k no_round)) (length run.rounds) h.inside.some first_round (λ k o l. later_round k o (omega (arith, l, h.kept.count)))

run_back : (net : NetLists) (run : Run) → IsNet net → IsRunTold net run → map (round_in net) (round_blocks net run) ≡ run.rounds
run_back net run rules h =
    row_back (round_in net) (λ k. round_lines net run.part k (slice_index_or run.rounds k no_round)) (length run.rounds) run.rounds no_round refl (λ k l. (each_round net run k rules h l).back)

run_passes : (net : NetLists) (run : Run) (test : List (List (List ℕ)) → Bool) → ((k : ℕ) → k < length run.rounds → test (round_lines net run.part k (slice_index_or run.rounds k no_round)) ≡ true) →
    list_all test (round_blocks net run) ≡ true
run_passes net run test h =
    map_passes (λ k. k < length run.rounds) test (λ k. round_lines net run.part k (slice_index_or run.rounds k no_round)) h (range_with_len 0 (length run.rounds))
    (range_all (λ k. k < length run.rounds) (length run.rounds) (λ k l. l))

-- the rounds of all parts

pub record AreRunsRead (net : NetLists) (runs : List Run) : Type 0 where
  pub words : are_lines (runs_lines net runs) ≡ true
  pub flat : flat_map (λ b. b) (flat_map (round_blocks net) runs) ≡ runs_lines net runs
  pub blocks : list_all (is_block is_part_line) (flat_map (round_blocks net) runs) ≡ true
  pub rounds : list_all (λ b. not (is_part b)) (flat_map (round_blocks net) runs) ≡ true
  pub back : map (map (round_in net)) (blocks_in is_first_round (flat_map (round_blocks net) runs)).blocks ≡ map (λ run. run.rounds) runs

flat_blocks : (net : NetLists) (runs : List Run) → flat_map (λ b. b) (flat_map (round_blocks net) runs) ≡ runs_lines net runs
flat_blocks net [] = refl
flat_blocks net (run ∷ runs) =
    flat_map-append (λ (b : List (List (List ℕ))). b) (round_blocks net run) (flat_map (round_blocks net) runs)
    ∙ ap₂ (λ (a b : List (List (List ℕ))). a ++ b)
    (flat_map-map (λ (b : List (List (List ℕ))). b) (λ k. round_lines net run.part k (slice_index_or run.rounds k no_round)) (range_with_len 0 (length run.rounds)))
    (flat_blocks net runs)

pub runs_read : (net : NetLists) (runs : List Run) → IsNet net → All (IsRunTold net) runs → AreRunsRead net runs
runs_read net runs rules h =
    let within : (run : Run) → All (λ k. k < length run.rounds) (range_with_len 0 (length run.rounds)) = λ run. range_all (λ k. k < length run.rounds) (length run.rounds) (λ k l. l) in
    record {
      words = flat_passes (IsRunTold net) is_line (run_lines net)
          (λ run t. flat_passes (λ k. k < length run.rounds) is_line (λ k. round_lines net run.part k (slice_index_or run.rounds k no_round)) (λ k l. (each_round net run k rules t l).words)
          (range_with_len 0 (length run.rounds)) (within run)) runs h;
      flat = flat_blocks net runs;
      blocks = flat_passes (IsRunTold net) (is_block is_part_line) (round_blocks net) (λ run t. run_passes net run (is_block is_part_line) (λ k l. (each_round net run k rules t l).block)) runs h;
      rounds = flat_passes (IsRunTold net) (λ b. not (is_part b)) (round_blocks net) (λ run t. run_passes net run (λ b. not (is_part b)) (λ k l. refl)) runs h;
      back =
          ap (λ (b : LineBlocks (List (List (List ℕ)))). map (map (round_in net)) b.blocks) (blocks_back is_first_round (IsRunTold net) (round_blocks net) (λ run t. run_block net run t) runs h)
          ∙ (map-map (map (round_in net)) (round_blocks net) runs
          ∙ map_same (IsRunTold net) (λ run. map (round_in net) (round_blocks net run)) (λ run. run.rounds) (λ run t. run_back net run rules t) runs h);
    }

-- the parts with a circuit and their rounds

all_runs : (net : NetLists) (n : ℕ) (parts : List ToldPart) (runs : List (List RoundLists)) → All (IsRunIn net) runs → All IsRunKept runs → All (IsRunTold net) (runs_from n parts runs)
all_runs net n [] runs h kept = λ i d l. absurd (omega (arith, l))
all_runs net n (NoCircuitIn ∷ parts) runs h kept = all_runs net (n + 1) parts runs h kept
all_runs net n (BestOf ratio circuit potentials ∷ parts) [] h kept = λ i d l. absurd (omega (arith, l))
all_runs net n (BestOf ratio circuit potentials ∷ parts) (rounds ∷ runs) h kept =
    All-cons (IsRunTold net) (record { part = n; rounds = rounds }) (runs_from (n + 1) parts runs)
    (record { inside = All-head (IsRunIn net) rounds runs h; kept = All-head IsRunKept rounds runs kept })
    (all_runs net (n + 1) parts runs (All-tail (IsRunIn net) rounds runs h) (All-tail IsRunKept rounds runs kept))

rounds_of : (n : ℕ) (parts : List ToldPart) (runs : List (List RoundLists)) → length runs ≡ circuits_in parts → map (λ run. run.rounds) (runs_from n parts runs) ≡ runs
rounds_of n [] [] full = refl
rounds_of n [] (rounds ∷ runs) full = absurd (omega (arith, full))
rounds_of n (NoCircuitIn ∷ parts) runs full = rounds_of (n + 1) parts runs full
rounds_of n (BestOf ratio circuit potentials ∷ parts) [] full = absurd (omega (arith, full))
rounds_of n (BestOf ratio circuit potentials ∷ parts) (rounds ∷ runs) full =
    ap (λ (l : List (List RoundLists)). rounds ∷ l) (rounds_of (n + 1) parts runs (omega (arith, full)))

some_back : (runs : List (List RoundLists)) → 1 ≤ length runs → some_runs runs ≡ Some runs
some_back [] h = absurd (omega (arith, h))
some_back (rounds ∷ runs) h = refl

-- what is told of rounds that are given or not, where some part has a circuit
pub rounds_told : (net : NetLists) (parts : List ToldPart) (rounds : Option (List (List RoundLists))) → AreRoundsTold net parts rounds → IfSome rounds (λ runs. All IsRunKept runs) →
    All (IsRunTold net) (told_runs parts rounds)
rounds_told net parts None h kept = λ i d l. absurd (omega (arith, l))
rounds_told net parts (Some runs) h kept = all_runs net 0 parts runs h.each kept

pub rounds_back : (net : NetLists) (parts : List ToldPart) (rounds : Option (List (List RoundLists))) → 1 ≤ circuits_in parts → AreRoundsTold net parts rounds →
    some_runs (map (λ run. run.rounds) (told_runs parts rounds)) ≡ rounds
rounds_back net parts None some h = refl
rounds_back net parts (Some runs) some h = ap some_runs (rounds_of 0 parts runs h.full) ∙ some_back runs (omega (arith, some, h.full))
