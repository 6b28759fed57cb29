-- Rounds one after another: they keep their limits, never fall, and are complete for paths.
use Rattle.std.proofs.Common.{ℕ, ℤ, zero, suc, ◌+◌, ◌-◌, ◌*◌, ◌<◌, ◌≤◌, ◌≡◌, ◌≢◌, ◌+ℤ◌, List, [], ◌∷◌, ◌++◌, length, get_or, Some, None, refl, sym, ap, subst, ◌∙◌, arith, ⊎_elim}
use Rattle.std.specs.Prelude.{◌≤ℤ◌}
use Rattle.std.proofs.lemmas.Int.{ints}
use Rattle.std.proofs.lemmas.Bool.{cases_lt}
use Rattle.std.proofs.lemmas.List.{length-append, get_or_append_left, get_or-append-add}
use Rattle.std.proofs.lemmas.List.Elements.{All-tail}
use Rattle.teg_net.specs.declared.entries.PlaceId.{PlaceId}
use Rattle.teg_net.specs.Nets.{NetLists, IsNet, IsPlaceOf}
use Rattle.teg_net.specs.Ratios.{Fraction}
use Rattle.teg_net.specs.Circuits.{no_place, place_at, from_of, IsPathBetween}
use Rattle.teg_net.specs.Parts.{to_of}
use Rattle.teg_net.specs.ReducedTimes.{reduced_time_of_place}
use Rattle.teg_net.proofs.PathLaws.{no_id}
use Rattle.teg_sizing.specs.declared.rounds.ValueCell.{ValueCell}
use Rattle.teg_sizing.specs.ValueRounds.{IsTarget, reduced_time_of_path, Avoids, greatest_reduced_time, value_told, by_at, IsAtLeast, AreValuesWithin, IsTakenBy, IsRoundAfter, round_at, AreRounds}
use Rattle.teg_sizing.specs.TracedPaths.{last_round}
use Rattle.teg_sizing.proofs.Values.{same_some, at_least_some, at_least_less, at_least_is, weight_within, value_cons, value_none, told_or_not}

pub within_more : (m n : ℕ) (cells : List ValueCell) → m ≤ n → AreValuesWithin m cells → AreValuesWithin n cells
within_more m n cells l h t v told = let w = h t v told in let low = w.0 in let high = w.1 in (omega (arith, ints), omega (arith, ints))

-- a round keeps one weight more
pub after_within : (net : NetLists) (r : Fraction) (e : PlaceId) (before after : List ValueCell) (m : ℕ) → IsNet net → IsTarget r
    → IsRoundAfter net r e before after → AreValuesWithin m before → AreValuesWithin (m + greatest_reduced_time) after
after_within net r e before after m ok target h within t v told =
    ⊎_elim
    (λ (none : by_at after t ≡ None). let w = within t v (sym (h.same t none) ∙ told) in let low = w.0 in let high = w.1 in (omega (arith, ints), omega (arith, ints)))
    (λ (some : (p : PlaceId) × (by_at after t ≡ Some p)).
    let taken : IsTakenBy net r e before after t some.0 = h.by_place t some.0 some.1 in
    let rules : IsPlaceOf net (place_at net some.0) = ok.each_place some.0.index no_place taken.in_range in
    let own = weight_within r (place_at net some.0) target rules.hold_in rules.tokens_in in
    let low = own.0 in
    let high = own.1 in
    let w = within (from_of net some.0) taken.offered.start taken.offered.told in
    let low2 = w.0 in
    let high2 = w.1 in
    let is = taken.offered.is in
    let same : taken.value ≡ v = same_some (value_told after t) taken.value v taken.told told in
    (omega (arith, ints), omega (arith, ints)))
    (told_or_not (by_at after t))

-- one round alone
pub rounds_begun : (net : NetLists) (r : Fraction) (e : PlaceId) (first : List ValueCell) → length first ≡ length net.transitions → AreValuesWithin 0 first → AreRounds net r e first (first ∷ [])
rounds_begun net r e first long within = record {
  some = omega arith;
  first_is = refl;
  counts = λ k l. (let z : k ≡ 0 = omega arith in rw z long);
  each = λ k l. absurd (omega arith);
  within = λ k l. (let z : k ≡ 0 = omega arith in rw z within);
}

pub round_last : (rounds : List (List ValueCell)) (after : List ValueCell) → round_at (rounds ++ (after ∷ [])) (length rounds) ≡ after
round_last rounds after = let e : length rounds ≡ length rounds + 0 = omega arith in ap (λ (z : ℕ). get_or (rounds ++ (after ∷ [])) z []) e ∙ get_or-append-add rounds (after ∷ []) 0 []

-- one more
pub rounds_more : (net : NetLists) (r : Fraction) (e : PlaceId) (first : List ValueCell) (rounds : List (List ValueCell))
    (after : List ValueCell) → IsNet net → IsTarget r → AreRounds net r e first rounds
    → IsRoundAfter net r e (last_round rounds) after → AreRounds net r e first (rounds ++ (after ∷ []))
rounds_more net r e first rounds after ok target h here =
    let some = h.some in
    let k : ℕ = length rounds - 1 in
    let long : length rounds ≡ k + 1 = omega arith in
    let more : List (List ValueCell) = rounds ++ (after ∷ []) in
    let wide : length more ≡ length rounds + 1 = length-append rounds (after ∷ []) in
    let old : (j : ℕ) → j < length rounds → round_at more j ≡ round_at rounds j = λ j l. get_or_append_left rounds (after ∷ []) [] j l in
    let last : round_at more (length rounds) ≡ after = round_last rounds after in
    let end : round_at more (k + 1) ≡ after = ap (round_at more) (sym long) ∙ last in
    let same_count : length after ≡ length net.transitions = here.count ∙ h.counts k (omega arith) in
    let own : AreValuesWithin (k * greatest_reduced_time + greatest_reduced_time) after =
    after_within net r e (round_at rounds k) after (k * greatest_reduced_time) ok target here (h.within k (omega arith)) in
    let up : k * greatest_reduced_time + greatest_reduced_time ≡ (k + 1) * greatest_reduced_time = grind arith in
    record {
      some = omega arith;
      first_is = old 0 (let s = h.some in omega arith) ∙ h.first_is;
      counts = λ j l. ⊎_elim
          (λ (m : j < length rounds). ap (λ (z : List ValueCell). length z) (old j m) ∙ h.counts j m)
          (λ (m : length rounds ≤ j). let is : j ≡ k + 1 = omega arith in ap (λ (z : ℕ). length (round_at more z)) is ∙ ap (λ (z : List ValueCell). length z) end ∙ same_count)
          (cases_lt j (length rounds));
      each = λ j l. ⊎_elim
          (λ (m : j + 1 < length rounds). subst (λ (z : List ValueCell). IsRoundAfter net r e z (round_at more (j + 1)))
          (sym (old j (omega arith))) (subst (IsRoundAfter net r e (round_at rounds j)) (sym (old (j + 1) m)) (h.each j m)))
          (λ (m : length rounds ≤ j + 1).
          let is : j ≡ k = omega arith in
          rw is (subst (λ (z : List ValueCell). IsRoundAfter net r e z (round_at more (k + 1))) (sym (old k (omega arith))) (subst (IsRoundAfter net r e (round_at rounds k)) (sym end) here)))
          (cases_lt (j + 1) (length rounds));
      within = λ j l. ⊎_elim
          (λ (m : j < length rounds). subst (AreValuesWithin (j * greatest_reduced_time)) (sym (old j m)) (h.within j m))
          (λ (m : length rounds ≤ j).
          let is : j ≡ k + 1 = omega arith in
          rw is (subst (AreValuesWithin ((k + 1) * greatest_reduced_time)) (sym end) (subst (λ (z : ℕ). AreValuesWithin z after) up own)))
          (cases_lt j (length rounds));
    }

-- a step by a place
pub stepped : (net : NetLists) (r : Fraction) (e : PlaceId) (before after : List ValueCell) (p : PlaceId) (u : ℤ) → IsRoundAfter net r e before after → p.index < length net.places → p.index ≢ e.index
    → IsAtLeast (value_told before (from_of net p)) u → IsAtLeast (value_told after (to_of net p)) (u +ℤ reduced_time_of_place r (place_at net p))
stepped net r e before after p u h l other told =
    let t = at_least_some (value_told before (from_of net p)) u told in
    let low : u ≤ℤ t.0 = t.2 in
    at_least_less (value_told after (to_of net p)) (u +ℤ reduced_time_of_place r (place_at net p)) (t.0 +ℤ reduced_time_of_place r (place_at net p)) (omega (arith, ints))
    (h.each p (t.0 +ℤ reduced_time_of_place r (place_at net p)) l l (record { other = other; start = t.0; told = t.1; is = refl }))

pub held : (net : NetLists) (r : Fraction) (e : PlaceId) (before after : List ValueCell) (t : ℕ) (u : ℤ)
    → IsRoundAfter net r e before after → IsAtLeast (value_told before t) u → IsAtLeast (value_told after t) u
held net r e before after t u h told =
    let s = at_least_some (value_told before t) u told in
    at_least_less (value_told after t) u s.0 s.2 (h.kept t s.0 s.1)

module _ (net : NetLists) (r : Fraction) (e : PlaceId) (first : List ValueCell) (rounds : List (List ValueCell)) (h : AreRounds net r e first rounds) where
  pub next_round : (k : ℕ) → suc k < length rounds → IsRoundAfter net r e (round_at rounds k) (round_at rounds (suc k))
  next_round k l = let z : k + 1 ≡ suc k = omega arith in subst (λ (j : ℕ). IsRoundAfter net r e (round_at rounds k) (round_at rounds j)) z (h.each k (omega arith))

  pub held_on : (j i t : ℕ) (u : ℤ) → j + i < length rounds → IsAtLeast (value_told (round_at rounds j) t) u → IsAtLeast (value_told (round_at rounds (j + i)) t) u
  held_on j zero t u l told = let z : j + 0 ≡ j = omega arith in rw z told
  held_on j (suc i) t u l told =
      let z : j + suc i ≡ (j + i) + 1 = omega arith in
      rw z (held net r e (round_at rounds (j + i)) (round_at rounds ((j + i) + 1)) t u (h.each (j + i) (omega arith)) (held_on j i t u (omega arith) told))

  -- along a path of at most so many places
  pub along : (ps : List PlaceId) (j s t : ℕ) (u : ℤ) → j + length ps < length rounds → IsPathBetween net s ps t → Avoids e ps → IsAtLeast (value_told (round_at rounds j) s) u
      → IsAtLeast (value_told (round_at rounds (j + length ps)) t) (u +ℤ reduced_time_of_path net r ps)
  along [] j s t u l path avoids told =
      let z : j + 0 ≡ j = omega arith in
      let none = value_none net r in
      let same : u +ℤ reduced_time_of_path net r [] ≡ u = omega (arith, ints) in
      rw (z, same) (subst (λ (x : ℕ). IsAtLeast (value_told (round_at rounds j) x) u) path told)
  along (p ∷ ps) j s t u l path avoids told =
      let here : IsAtLeast (value_told (round_at rounds j) (from_of net p)) u = subst (λ (x : ℕ). IsAtLeast (value_told (round_at rounds j) x) u) (sym path.1) told in
      let next = stepped net r e (round_at rounds j) (round_at rounds (j + 1)) p u (h.each j (omega arith)) path.0 (avoids 0 no_id (omega arith)) here in
      let rest = along ps (j + 1) (to_of net p) t (u +ℤ reduced_time_of_place r (place_at net p)) (omega arith) path.2 (All-tail (λ q. q.index ≢ e.index) p ps avoids) next in
      let z : (j + 1) + length ps ≡ j + suc (length ps) = omega arith in
      let cons = value_cons net r p ps in
      let same : (u +ℤ reduced_time_of_place r (place_at net p)) +ℤ reduced_time_of_path net r ps ≡ u +ℤ reduced_time_of_path net r (p ∷ ps) = omega (arith, ints) in
      subst (λ (x : ℤ). IsAtLeast (value_told (round_at rounds (j + suc (length ps))) t) x) same
      (subst (λ (x : ℕ). IsAtLeast (value_told (round_at rounds x) t)
      ((u +ℤ reduced_time_of_place r (place_at net p)) +ℤ reduced_time_of_path net r ps)) z rest)

  -- so each path of at most k places is told in round k
  pub complete : (ps : List PlaceId) (k s t : ℕ) (u : ℤ) → k < length rounds → length ps ≤ k → IsPathBetween net s ps t → Avoids e ps → value_told first s ≡ Some u
      → IsAtLeast (value_told (round_at rounds k) t) (u +ℤ reduced_time_of_path net r ps)
  complete ps k s t u l few path avoids told =
      let begun : IsAtLeast (value_told (round_at rounds 0) s) u = subst (λ (z : List ValueCell). IsAtLeast (value_told z s) u) (sym h.first_is) (at_least_is (value_told first s) u told) in
      let there = along ps 0 s t u (omega arith) path avoids begun in
      let same : 0 + length ps ≡ length ps = omega arith in
      let told : IsAtLeast (value_told (round_at rounds (length ps)) t) (u +ℤ reduced_time_of_path net r ps) =
      subst (λ (x : ℕ). IsAtLeast (value_told (round_at rounds x) t) (u +ℤ reduced_time_of_path net r ps)) same there in
      let z : length ps + (k - length ps) ≡ k = omega arith in
      subst (λ (x : ℕ). IsAtLeast (value_told (round_at rounds x) t) (u +ℤ reduced_time_of_path net r ps)) z
      (held_on (length ps) (k - length ps) t (u +ℤ reduced_time_of_path net r ps) (omega arith) told)
