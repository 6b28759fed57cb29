-- Cycle times are read back from their lines.
use Rattle.std.proofs.Common.{◌≡◌, ◌≢◌, ℕ, suc, zero, ◌+◌, ◌<◌, ◌≤◌, true, false, not, ◌==◌, ⊎_elim, Option, Some, None, IfSome, List, [], ◌∷◌, ◌++◌}
use Rattle.std.proofs.Common.{All, map, refl, ap, ap₂, sym, subst, ◌∙◌, append_assoc, append-nil, length, get_or, drop, arith, eq-eqb, ne_eqb}
use Rattle.std.proofs.lemmas.Bool.{cases_Bool}
use Rattle.std.proofs.lemmas.Simd.{map-map}
use Rattle.std.proofs.lemmas.List.Elements.{All-cons}
use Rattle.std.proofs.lemmas.List.FromFn.{get_or-map-range_with_len, length-map-range_with_len}
use Rattle.std.proofs.lemmas.List.{map-id}
use Rattle.std.proofs.lemmas.List.Concat.{flat_map-append}
use Rattle.std.proofs.lemmas.List.Folds.{flat_map-map}
use Rattle.std.specs.List.{flat_map, list_all, range_with_len}
use Rattle.teg_net.specs.declared.answers.Potential.{Potential}
use Rattle.teg_net.specs.declared.entries.TransitionId.{TransitionId}
use Rattle.teg_net.specs.Nets.{NetLists, IsNet}
use Rattle.teg_net.specs.Ratios.{Fraction}
use Rattle.teg_lines.specs.CycleLines.{potential_in, part_in, members_in, is_member, is_part, is_part_line, told_in, parts_in, cycle_in, CycleLists}
use Rattle.teg_lines.specs.CycleLines.{ToldPart, NoCircuitIn, BestOf, members_from, member_line, potential_line, part_lines, told_part_at, best_lines}
use Rattle.teg_lines.specs.CycleLines.{cycle_lines, IsPotentialIn, IsPartTold, has_ratio, IsFirstOfRatio, IsCycleTold}
use Rattle.teg_lines.specs.RoundLines.{is_first_round, round_in, rounds_in_lines, some_runs, IsRunKept, RoundLists, AreRoundsTold, circuits_in, runs_lines, told_runs}
use Rattle.teg_lines.proofs.RoundsRead.{all_pass, those_all, those_none, those_append, round_blocks, runs_read, rounds_told, rounds_back}
use Rattle.teg_text.proofs.NamesRead.{circuits, ratio_back, transition_back, transition_is_word}
use Rattle.teg_text.specs.Lines.{is_line, are_lines}
use Rattle.teg_text.specs.WordsOfNames.{ratio_of_word, transition_in}
use Rattle.teg_text.specs.WordReading.{line_at, word}
use Rattle.teg_text.specs.LineBlocks.{LineBlocks, blocks_in, first_where, those}
use Rattle.teg_text.proofs.Back.{signed_back, ratio_is_word}
use Rattle.teg_text.proofs.LineBlocks.{IsReadBack, rows, map_passes, map_back, blocks_back, flat_passes, range_all, row_back, numbered_back, first_at}
use Rattle.teg_text.proofs.Words.{all_append, decimal_is_word, signed_is_word}
use Rattle.teg_text.proofs.HeadedBlocks.{is_block}

-- members of parts

below_no_member : (k : ℕ) (ps : List ℕ) (part t : ℕ) → t < k → is_member t (members_from k ps part) ≡ false
below_no_member k [] part t h = refl
below_no_member k (p ∷ ps) part t h =
    let rest = below_no_member (k + 1) ps part t (omega (arith, h)) in
    let other : (k == t) ≡ false = ne_eqb k t (λ (e : k ≡ t). omega (arith, e, h)) in
    ⊎_elim (λ (e : (p == part) ≡ true). rw (e, other) rest) (λ (e : (p == part) ≡ false). rw e rest) (cases_Bool (p == part))

member_by_part : (k : ℕ) (ps : List ℕ) (part i t : ℕ) → i < length ps → t ≡ k + i → is_member t (members_from k ps part) ≡ (get_or ps i 0 == part)
member_by_part k [] part i t l e = absurd (omega (arith, l))
member_by_part k (p ∷ ps) part zero t l e =
    let here : (k == t) ≡ true = eq-eqb k t (omega (arith, e)) in
    ⊎_elim (λ (q : (p == part) ≡ true). rw (q, here) refl) (λ (q : (p == part) ≡ false). rw q (below_no_member (k + 1) ps part t (omega (arith, e)))) (cases_Bool (p == part))
member_by_part k (p ∷ ps) part (suc i) t l e =
    let other : (k == t) ≡ false = ne_eqb k t (λ (q : k ≡ t). omega (arith, q, e)) in
    let rest = member_by_part (k + 1) ps part i t (omega (arith, l)) (omega (arith, e)) in
    ⊎_elim (λ (q : (p == part) ≡ true). rw (q, other) rest) (λ (q : (p == part) ≡ false). rw q rest) (cases_Bool (p == part))

members_within : (k : ℕ) (ps : List ℕ) (part n : ℕ) → k + length ps ≤ n → All (λ t. t.index < n) (members_from k ps part)
members_within k [] part n h = λ i d l. absurd (omega (arith, l))
members_within k (p ∷ ps) part n h =
    let rest = members_within (k + 1) ps part n (omega (arith, h)) in
    ⊎_elim (λ (q : (p == part) ≡ true). rw q (All-cons (λ t. t.index < n) (record { index = k }) (members_from (k + 1) ps part)
    (omega (arith, h)) rest)) (λ (q : (p == part) ≡ false). rw q rest) (cases_Bool (p == part))

-- lines and parts

potential_read : (net : NetLists) → IsNet net → IsReadBack (IsPotentialIn net) is_line (potential_line net) (potential_in net)
potential_read net rules = record {
  passes = λ p h. rw (transition_is_word net p.transition rules h.transition, signed_is_word p.value) refl;
  back = λ p h. rw (transition_back net p.transition rules h.transition, signed_back p.value h.value) refl;
}

record IsPartRead (net : NetLists) (part_of : List ℕ) (n : ℕ) (part : ToldPart) : Type 0 where
  words : are_lines (part_lines net part_of n part) ≡ true
  block : is_block is_part_line (part_lines net part_of n part) ≡ true
  back : part_in net (part_lines net part_of n part) ≡ part
  members : members_in net (part_lines net part_of n part) ≡ members_from 0 part_of n

part_read : (net : NetLists) (part_of : List ℕ) (n : ℕ) (part : ToldPart) → IsNet net → length part_of ≡ length net.transitions
    → IsPartTold net (members_from 0 part_of n) part → IsPartRead net part_of n part
part_read net part_of n NoCircuitIn rules full h =
    let within = members_within 0 part_of n (length net.transitions) (omega (arith, full)) in
    record {
      words = rw (decimal_is_word (n + 1)) (map_passes (λ t. t.index < length net.transitions) is_line (member_line net)
          (λ t l. rw (transition_is_word net t rules l) refl) (members_from 0 part_of n) within);
      block = map_passes (λ t. t.index < length net.transitions) (λ l. not (is_part_line l)) (member_line net) (λ t l. refl) (members_from 0 part_of n) within;
      back = refl;
      members = map_back (λ t. t.index < length net.transitions) (member_line net) (λ line. transition_in net (word 1 line)) (λ t l. transition_back net t rules l) (members_from 0 part_of n) within;
    }
part_read net part_of n (BestOf ratio circuit potentials) rules full h =
    let places = circuits net rules in
    let values = rows _ _ _ _ (potential_read net rules) in
    record {
      words = rw (decimal_is_word (n + 1), ratio_is_word ratio.time ratio.tokens, places.passes circuit h.circuit_in) (values.passes potentials h.potentials_in);
      block = map_passes (IsPotentialIn net) (λ l. not (is_part_line l)) (potential_line net) (λ p l. refl) potentials h.potentials_in;
      back = λ i. BestOf (ratio_back ratio h.time h.tokens i) (places.back circuit h.circuit_in i) (values.back potentials h.potentials_in i);
      members = sym (map-map (λ (p : Potential). p.transition) (potential_in net) (map (potential_line net) potentials))
          ∙ (ap (map (λ (p : Potential). p.transition)) (values.back potentials h.potentials_in) ∙ h.members_are);
    }

best_read : (net : NetLists) (parts : List ToldPart) (best : ℕ) (part : ToldPart) (members : List TransitionId)
    (rest : List (List (List ℕ))) → IsNet net → best < length parts → told_part_at parts best ≡ part →
    IsFirstOfRatio parts best part → IsPartTold net members part →
    (are_lines (best_lines net part) ≡ true) × (drop 2 (best_lines net part ++ rest) ≡ rest) × (first_where (has_ratio (ratio_of_word (word 2 (line_at 0 (best_lines net part ++ rest))))) parts ≡ best)
best_read net parts best NoCircuitIn members rest rules l e first h = absurd first
best_read net parts best (BestOf ratio circuit potentials) members rest rules l e first h =
    let places = circuits net rules in
    let same_time : (ratio.time == ratio.time) ≡ true = eq-eqb ratio.time ratio.time refl in
    let same_tokens : (ratio.tokens == ratio.tokens) ≡ true = eq-eqb ratio.tokens ratio.tokens refl in
    let here : has_ratio ratio (told_part_at parts best) ≡ true = ap (has_ratio ratio) e ∙ rw (same_time, same_tokens) refl in (
      rw (ratio_is_word ratio.time ratio.tokens, places.passes circuit h.circuit_in) refl,
      refl,
      ap (λ (r : Fraction). first_where (has_ratio r) parts) (ratio_back ratio h.time h.tokens) ∙ first_at (has_ratio ratio) parts best NoCircuitIn l first here,
    )

part_of_back : (ps : List ℕ) (count t : ℕ) → t < length ps → All (λ p. p < count) ps → first_where (is_member t) (map (members_from 0 ps) (range_with_len 0 count)) ≡ get_or ps t 0
part_of_back ps count t l h =
    let inside : get_or ps t 0 < count = h t 0 l in
    let member : (j : ℕ) → j < count → is_member t (get_or (map (members_from 0 ps) (range_with_len 0 count)) j []) ≡ (get_or ps t 0 == j) =
    λ j m. ap (is_member t) (get_or-map-range_with_len (members_from 0 ps) 0 count j j [] m (omega arith)) ∙ member_by_part 0 ps j t t l (omega arith) in
    first_at (is_member t) (map (members_from 0 ps) (range_with_len 0 count)) (get_or ps t 0) [] (omega (arith, inside, length-map-range_with_len (members_from 0 ps) 0 count))
    (λ j m. member j (omega (arith, m, inside)) ∙ ne_eqb (get_or ps t 0) j (λ (e : get_or ps t 0 ≡ j). omega (arith, e, m)))
    (member (get_or ps t 0) inside ∙ eq-eqb (get_or ps t 0) (get_or ps t 0) refl)

-- the blocks of parts, and behind them those of rounds

part_is_part : (net : NetLists) (part_of : List ℕ) (n : ℕ) (part : ToldPart) → is_part (part_lines net part_of n part) ≡ true
part_is_part net part_of n NoCircuitIn = refl
part_is_part net part_of n (BestOf ratio circuit potentials) = refl

has_circuit : (parts : List ToldPart) (n : ℕ) (part : ToldPart) → IsFirstOfRatio parts n part → part ≢ NoCircuitIn
has_circuit parts n NoCircuitIn first = absurd first
has_circuit parts n (BestOf ratio circuit potentials) first = λ e. cc

some_circuit : (parts : List ToldPart) (n : ℕ) → told_part_at parts n ≢ NoCircuitIn → 1 ≤ circuits_in parts
some_circuit [] n other = absurd (other refl)
some_circuit (NoCircuitIn ∷ parts) zero other = absurd (other refl)
some_circuit (NoCircuitIn ∷ parts) (suc n) other = some_circuit parts n other
some_circuit (BestOf ratio circuit potentials ∷ parts) n other = omega arith

record IsCycleRead (net : NetLists) (answer : CycleLists) (number : ℕ) (runs : Option (List (List RoundLists))) (lines : List (List (List ℕ))) : Type 0 where
  words : are_lines lines ≡ true
  part_of : map (λ t. first_where (is_member t) (map (members_in net) (parts_in lines))) (range_with_len 0 (length net.transitions)) ≡ answer.part_of
  parts : map (part_in net) (parts_in lines) ≡ answer.parts
  best : first_where (has_ratio (ratio_of_word (word 2 (line_at 0 lines)))) (map (part_in net) (parts_in lines)) ≡ number
  rounds : rounds_in_lines net lines ≡ runs

lines_read : (net : NetLists) (answer : CycleLists) (best : ℕ) (rounds : Option (List (List RoundLists))) → IsNet net → IsCycleTold net answer → best < length answer.parts →
    IsFirstOfRatio answer.parts best (told_part_at answer.parts best) → AreRoundsTold net answer.parts rounds → IfSome rounds (λ runs. All IsRunKept runs) →
    IsCycleRead net answer best rounds (best_lines net (told_part_at answer.parts best)
    ++ (flat_map (λ n. part_lines net answer.part_of n (told_part_at answer.parts n)) (range_with_len 0 (length answer.parts)) ++ runs_lines net (told_runs answer.parts rounds)))
lines_read net answer best rounds rules h best_in first told kept =
    let count = length answer.parts in
    let f : ℕ → List (List (List ℕ)) = λ n. part_lines net answer.part_of n (told_part_at answer.parts n) in
    let runs = told_runs answer.parts rounds in
    let parts_told = map f (range_with_len 0 count) in
    let rounds_told_ = flat_map (round_blocks net) runs in
    let rest = flat_map f (range_with_len 0 count) ++ runs_lines net runs in
    let lines = best_lines net (told_part_at answer.parts best) ++ rest in
    let each : (n : ℕ) → n < count → IsPartRead net answer.part_of n (told_part_at answer.parts n) = λ n l. part_read net answer.part_of n (told_part_at answer.parts n) rules h.full (h.parts n l) in
    let within = range_all (λ n. n < count) count (λ n l. l) in
    let head = best_read net answer.parts best (told_part_at answer.parts best) (members_from 0 answer.part_of best) rest rules best_in refl first (h.parts best best_in) in
    let read = runs_read net runs rules (rounds_told net answer.parts rounds told kept) in
    let all : list_all (is_block is_part_line) (parts_told ++ rounds_told_) ≡ true =
    all_append (is_block is_part_line) parts_told rounds_told_ (map_passes (λ n. n < count) (is_block is_part_line) f (λ n l. (each n l).block) (range_with_len 0 count) within) read.blocks in
    let flat : rest ≡ flat_map (λ b. b) (parts_told ++ rounds_told_) =
    sym (flat_map-append (λ (b : List (List (List ℕ))). b) parts_told rounds_told_
    ∙ ap₂ (λ (a b : List (List (List ℕ))). a ++ b) (flat_map-map (λ (b : List (List (List ℕ))). b) f (range_with_len 0 count)) read.flat) in
    let blocks : told_in lines ≡ parts_told ++ rounds_told_ =
    ap (λ (ls : List (List (List ℕ))). (blocks_in is_part_line ls).blocks) (head.1 ∙ flat)
    ∙ (ap (λ (b : LineBlocks (List (List ℕ))). b.blocks)
    (blocks_back is_part_line (λ b. is_block is_part_line b ≡ true) (λ b. b) (λ b t. t) (parts_told ++ rounds_told_)
    (all_pass (is_block is_part_line) (parts_told ++ rounds_told_) all))
    ∙ map-id (parts_told ++ rounds_told_)) in
    let only_parts : parts_in lines ≡ parts_told =
    ap (those is_part) blocks ∙ (those_append is_part parts_told rounds_told_
    ∙ (ap₂ (λ (a b : List (List (List (List ℕ)))). a ++ b)
    (those_all is_part parts_told (map_passes (λ n. n < count) is_part f (λ n l. part_is_part net answer.part_of n (told_part_at answer.parts n)) (range_with_len 0 count) within))
    (those_none is_part rounds_told_ read.rounds) ∙ append-nil parts_told)) in
    let only_rounds : those (λ b. not (is_part b)) (told_in lines) ≡ rounds_told_ =
    ap (those (λ b. not (is_part b))) blocks ∙ (those_append (λ b. not (is_part b)) parts_told rounds_told_
    ∙ ap₂ (λ (a b : List (List (List (List ℕ)))). a ++ b)
    (those_none (λ b. not (is_part b)) parts_told
    (map_passes (λ n. n < count) (λ b. not (not (is_part b))) f (λ n l. rw (part_is_part net answer.part_of n (told_part_at answer.parts n)) refl) (range_with_len 0 count) within))
    (those_all (λ b. not (is_part b)) rounds_told_ read.rounds)) in
    let parts : map (part_in net) (parts_in lines) ≡ answer.parts = ap (map (part_in net)) only_parts ∙ row_back (part_in net) f count answer.parts NoCircuitIn refl (λ n l. (each n l).back) in
    let members : map (members_in net) (parts_in lines) ≡ map (members_from 0 answer.part_of) (range_with_len 0 count) =
    ap (map (members_in net)) only_parts ∙ row_back (members_in net) f count
    (map (members_from 0 answer.part_of) (range_with_len 0 count)) [] (length-map-range_with_len (members_from 0 answer.part_of) 0 count)
    (λ n l. (each n l).members ∙ sym (get_or-map-range_with_len (members_from 0 answer.part_of) 0 count n n [] l (omega arith))) in
    let part_of : map (λ t. first_where (is_member t) (map (members_in net) (parts_in lines))) (range_with_len 0 (length net.transitions)) ≡ answer.part_of =
    ap (λ (ms : List (List TransitionId)). map (λ t. first_where (is_member t) ms) (range_with_len 0 (length net.transitions))) members
    ∙ numbered_back (λ t. first_where (is_member t) (map (members_from 0 answer.part_of) (range_with_len 0 count))) (length net.transitions) answer.part_of 0 h.full
    (λ t l. part_of_back answer.part_of count t (omega (arith, l, h.full)) h.part_of_in) in
    record {
      words = all_append is_line (best_lines net (told_part_at answer.parts best)) rest head.0
          (all_append is_line (flat_map f (range_with_len 0 count)) (runs_lines net runs)
          (flat_passes (λ n. n < count) is_line f (λ n l. (each n l).words) (range_with_len 0 count) within) read.words);
      part_of = part_of;
      parts = parts;
      best = ap (first_where (has_ratio (ratio_of_word (word 2 (line_at 0 lines))))) parts ∙ head.2;
      rounds =
          ap (λ (bs : List (List (List (List ℕ)))). some_runs (map (map (round_in net)) (blocks_in is_first_round bs).blocks)) only_rounds
          ∙ (ap some_runs read.back ∙ rounds_back net answer.parts rounds (some_circuit answer.parts best (has_circuit answer.parts best (told_part_at answer.parts best) first)) told);
    }

-- cycle times, and rounds where they are given, are read back from these lines
pub record AreTimesRead (net : NetLists) (answer : CycleLists) (rounds : Option (List (List RoundLists))) (lines : List (List (List ℕ))) : Type 0 where
  pub words : are_lines lines ≡ true
  pub cycle : cycle_in net lines ≡ answer
  pub runs : rounds_in_lines net lines ≡ rounds

by_best : (net : NetLists) (part_of : List ℕ) (parts : List ToldPart) (best : Option ℕ) (rounds : Option (List (List RoundLists))) → IsNet net →
    IsCycleTold net (record { part_of = part_of; parts = parts; best = best }) → AreRoundsTold net parts rounds → IfSome rounds (λ runs. All IsRunKept runs) →
    AreTimesRead net (record { part_of = part_of; parts = parts; best = best }) rounds
    (cycle_lines net (record { part_of = part_of; parts = parts; best = best }) ++ runs_lines net (told_runs parts rounds))
by_best net part_of parts None rounds rules h told kept = absurd h.best
by_best net part_of parts (Some best) rounds rules h told kept =
    let answer : CycleLists = (record { part_of = part_of; parts = parts; best = Some best }) in
    let head = best_lines net (told_part_at parts best) in
    let blocks = flat_map (λ n. part_lines net part_of n (told_part_at parts n)) (range_with_len 0 (length parts)) in
    let read = lines_read net answer best rounds rules h h.best.0 h.best.1 told kept in
    subst (λ (ls : List (List (List ℕ))). AreTimesRead net answer rounds ls) (sym (append_assoc head blocks (runs_lines net (told_runs parts rounds))))
    (record {
      words = read.words;
      cycle = λ i. record { part_of = read.part_of i; parts = read.parts i; best = Some (read.best i) };
      runs = read.rounds;
    })

pub times_read : (net : NetLists) (answer : CycleLists) (rounds : Option (List (List RoundLists))) → IsNet net → IsCycleTold net answer →
    AreRoundsTold net answer.parts rounds → IfSome rounds (λ runs. All IsRunKept runs) →
    AreTimesRead net answer rounds (cycle_lines net answer ++ runs_lines net (told_runs answer.parts rounds))
times_read net answer rounds rules h told kept = by_best net answer.part_of answer.parts answer.best rounds rules h told kept
