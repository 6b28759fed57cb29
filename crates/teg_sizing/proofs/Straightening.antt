-- The best circuit that passes a place.
use Rattle.std.proofs.Common.{ℕ, ℤ, pos, zero, suc, ◌+◌, ◌*◌, ◌<◌, ◌≤◌, ◌≡◌, ◌≢◌, ◌+ℤ◌, List, [], ◌∷◌, ◌++◌, length, get_or, Option, Some, None, refl, sym, ap, subst, ◌∙◌, arith, ⊎_elim}
use Rattle.std.specs.Prelude.{◌≤ℤ◌, Contains, sum_by}
use Rattle.std.proofs.lemmas.List.Sums.{sum_by-cons}
use Rattle.std.proofs.lemmas.Bool.{cases_eq}
use Rattle.std.proofs.lemmas.Int.{ints}
use Rattle.std.proofs.lemmas.List.{length-append, get_or-append-add}
use Rattle.std.proofs.lemmas.List.Elements.{All-append}
use Rattle.teg_net.specs.declared.entries.PlaceId.{PlaceId}
use Rattle.teg_net.specs.Nets.{NetLists, IsNet, IsPlaceOf}
use Rattle.teg_net.specs.Ratios.{Fraction}
use Rattle.teg_net.specs.Circuits.{no_place, place_at, from_of, IsPathBetween, IsCircuit, time_of, tokens_of}
use Rattle.teg_net.specs.Parts.{to_of}
use Rattle.teg_net.specs.ReducedTimes.{reduced_time_of_place}
use Rattle.teg_net.proofs.NetRules.{net_ends}
use Rattle.teg_net.proofs.Turning.{turned_circuit}
use Rattle.teg_loops.specs.Loops.{HasLoop, IsStraight}
use Rattle.teg_loops.proofs.Ends.{ends_below}
use Rattle.teg_loops.proofs.Straight.{loop_or_apart, apart_straight, loop_short}
use Rattle.teg_loops.proofs.Taking.{rest_leads, rest_shorter}
use Rattle.teg_loops.proofs.Through.{IsThrough, through, closes}
use Rattle.teg_sizing.specs.declared.rounds.ValueCell.{ValueCell}
use Rattle.teg_sizing.specs.ValueRounds.{IsTarget, reduced_time_of_path, Avoids, greatest_reduced_time, value_told, by_at, IsAtLeast, IsTakenBy, round_at, AreRounds}
use Rattle.teg_sizing.specs.TracedPaths.{trace_of}
use Rattle.teg_sizing.specs.Surpluses.{NoneIsAbove, StartsFrom, NonePasses, IsBestThrough}
use Rattle.teg_sizing.proofs.Values.{same_some, none_some, at_least_some, weight_within, value_append, value_cons, value_one, told_or_not, all_first, all_second}
use Rattle.teg_sizing.proofs.Going.{complete, next_round}
use Rattle.teg_sizing.proofs.Traces.{IsTraced, traced, trace_same}

module _ (net : NetLists) (r : Fraction) (p : PlaceId) (first : List ValueCell) (rounds : List (List ValueCell)) (ok : IsNet net) (in' : p.index < length net.places)
    (starts : StartsFrom (length net.transitions) (to_of net p) first) (h : AreRounds net r p first rounds) (long : length rounds ≡ length net.transitions + 1) (none_above : NoneIsAbove net r p) where
  abbrev n : ℕ
  n = length net.transitions

  -- the one start is the end of the place
  start_is : (s : ℕ) (u : ℤ) → value_told first s ≡ Some u → (s ≡ to_of net p) × (u ≡ pos 0)
  start_is s u told = ⊎_elim
      (λ (e : s ≡ to_of net p). (e, same_some (value_told first s) u (pos 0) told (ap (value_told first) e ∙ starts.here)))
      (λ (e : s ≢ to_of net p). absurd (none_some (value_told first s) u (starts.others s e) told))
      (cases_eq s (to_of net p))

  -- a path by which more is told has no loop: without it as much would have been told before
  no_loop_by : (k t : ℕ) (v : ℤ) → suc k < length rounds → value_told (round_at rounds (suc k)) t ≡ Some v
      → HasLoop net (to_of net p) t (trace_of net rounds (suc (suc k)) t) → (q : PlaceId) → by_at (round_at rounds (suc k)) t ≡ Some q → ⊥
  no_loop_by k t v l told loop q by =
      let taken : IsTakenBy net r p (round_at rounds k) (round_at rounds (suc k)) t q = (next_round net r p first rounds h k l).by_place t q by in
      let same : taken.value ≡ v = same_some (value_told (round_at rounds (suc k)) t) taken.value v taken.told told in
      let ps : List PlaceId = trace_of net rounds (suc (suc k)) t in
      let w : IsTraced net r p first ps (suc k) t v = traced net r p first rounds h starts.by_none (suc k) t v l told in
      let from = start_is w.from w.start w.told in
      let avoids : Avoids p (loop.before ++ (loop.loop ++ loop.after)) = subst (Avoids p) loop.is w.avoids in
      let one : Avoids p loop.before = all_first (λ x. x.index ≢ p.index) loop.before (loop.loop ++ loop.after) avoids in
      let others : Avoids p (loop.loop ++ loop.after) = all_second (λ x. x.index ≢ p.index) loop.before (loop.loop ++ loop.after) avoids in
      let two : Avoids p loop.loop = all_first (λ x. x.index ≢ p.index) loop.loop loop.after others in
      let three : Avoids p loop.after = all_second (λ x. x.index ≢ p.index) loop.loop loop.after others in
      let rest : List PlaceId = loop.before ++ loop.after in
      let low = none_above loop.loop loop.circuit two in
      let whole : reduced_time_of_path net r ps ≡ reduced_time_of_path net r (loop.before ++ (loop.loop ++ loop.after)) = ap (reduced_time_of_path net r) loop.is in
      let a = value_append net r loop.before (loop.loop ++ loop.after) in
      let b = value_append net r loop.loop loop.after in
      let c = value_append net r loop.before loop.after in
      let less = rest_shorter net (to_of net p) t ps loop in
      let some = loop.circuit.not_empty in
      let few = w.few in
      let done = complete net r p first rounds h rest k (to_of net p) t (pos 0) (omega arith) (omega arith)
      (rest_leads net (to_of net p) t ps loop) (All-append (λ x. x.index ≢ p.index) loop.before loop.after one three) starts.here in
      let up = at_least_some (value_told (round_at rounds k) t) (pos 0 +ℤ reduced_time_of_path net r rest) done in
      let high = up.2 in
      let value = w.is in
      let zero_start : w.start ≡ pos 0 = from.1 in
      let reached : taken.value ≤ℤ up.0 = omega (arith, ints) in
      taken.more (subst (λ (o : Option ℤ). IsAtLeast o taken.value) (sym up.1) reached)

  no_loop_first : (t : ℕ) → HasLoop net (to_of net p) t (trace_of net rounds (suc zero) t) → ⊥
  no_loop_first t loop =
      let none : by_at (round_at rounds zero) t ≡ None = ap (λ (z : List ValueCell). by_at z t) h.first_is ∙ starts.by_none t in
      let empty : trace_of net rounds (suc zero) t ≡ [] = trace_same net rounds zero t none in
      let size : length (loop.before ++ (loop.loop ++ loop.after)) ≡ 0 = ap (λ (z : List PlaceId). length z) (sym loop.is ∙ empty) in
      let a = length-append loop.before (loop.loop ++ loop.after) in
      let b = length-append loop.loop loop.after in
      let some = loop.circuit.not_empty in
      absurd (omega arith)

  -- a path that is told has no loop
  no_loop : (k t : ℕ) (v : ℤ) → k < length rounds → value_told (round_at rounds k) t ≡ Some v → HasLoop net (to_of net p) t (trace_of net rounds (suc k) t) → ⊥
  no_loop zero t v l told loop = no_loop_first t loop
  no_loop (suc k) t v l told loop = ⊎_elim
      (λ (none : by_at (round_at rounds (suc k)) t ≡ None).
      no_loop k t v (omega arith) (sym ((next_round net r p first rounds h k l).same t none) ∙ told) (subst (HasLoop net (to_of net p) t) (trace_same net rounds (suc k) t none) loop))
      (λ (some : (q : PlaceId) × (by_at (round_at rounds (suc k)) t ≡ Some q)). no_loop_by k t v l told loop some.0 some.1)
      (told_or_not (by_at (round_at rounds (suc k)) t))

  abbrev end : List ValueCell
  end = round_at rounds n

  -- a circuit through the place is, turned, the place and a path back that is told
  back_of : (qs : List PlaceId) → IsCircuit net qs → Contains qs p → (v : ℤ) × (value_told end (from_of net p) ≡ Some v)
      × (reduced_time_of_path net r qs ≤ℤ (v +ℤ reduced_time_of_place r (place_at net p)))
  back_of qs c passes =
      let t : IsThrough net p qs = through net p qs c passes in
      let few = loop_short net n (p ∷ t.others) (ends_below net (net_ends net ok)) t.circuit in
      let avoids : Avoids p t.others = λ i d m. λ same. t.once i d m (ap (from_of net) (sym (one_id (get_or t.others i d) same))) in
      let done = complete net r p first rounds h t.others n (to_of net p) (from_of net p) (pos 0) (omega arith) (omega arith) t.path avoids starts.here in
      let up = at_least_some (value_told end (from_of net p)) (pos 0 +ℤ reduced_time_of_path net r t.others) done in
      let high = up.2 in
      let time = t.same (λ q. (place_at net q).hold) in
      let same : reduced_time_of_path net r qs ≡ reduced_time_of_path net r (p ∷ t.others) = same_value t.others (t.same (λ q. (place_at net q).hold)) (t.same (λ q. (place_at net q).tokens)) in
      let cons = value_cons net r p t.others in
      (up.0, up.1, omega (arith, ints)) where
        one_id : (q : PlaceId) → q.index ≡ p.index → q ≡ p
        one_id q e = ap (λ (z : ℕ). record { index = z }) e

        same_value : (others : List PlaceId) → sum_by (λ q. (place_at net q).hold) qs ≡ (place_at net p).hold + sum_by
            (λ q. (place_at net q).hold) others → sum_by (λ q. (place_at net q).tokens) qs ≡ (place_at net p).tokens + sum_by
            (λ q. (place_at net q).tokens) others → reduced_time_of_path net r qs ≡ reduced_time_of_path net r (p ∷ others)
        same_value others e f =
            let time : time_of net (p ∷ others) ≡ (place_at net p).hold + time_of net others = sum_by-cons (λ q. (place_at net q).hold) p others in
            let tokens : tokens_of net (p ∷ others) ≡ (place_at net p).tokens + tokens_of net others = sum_by-cons (λ q. (place_at net q).tokens) p others in
            rw (time, tokens, e, f) refl

  pub none_passes : value_told end (from_of net p) ≡ None → NonePasses net p
  none_passes none qs c passes = let b = back_of qs c passes in none_some (value_told end (from_of net p)) b.0 none b.1

  -- the path that is told, and the place
  pub best_is : (v : ℤ) → IsTarget r → value_told end (from_of net p) ≡ Some v
      → IsBestThrough net r p (v +ℤ reduced_time_of_place r (place_at net p)) (trace_of net rounds (length rounds) (from_of net p) ++ (p ∷ []))
  best_is v target told =
      let ps : List PlaceId = trace_of net rounds (suc n) (from_of net p) in
      let all : length rounds ≡ suc n = omega arith in
      let w : IsTraced net r p first ps n (from_of net p) v = traced net r p first rounds h starts.by_none n (from_of net p) v (omega arith) told in
      let from = start_is w.from w.start w.told in
      let path : IsPathBetween net (to_of net p) ps (from_of net p) = subst (λ (z : ℕ). IsPathBetween net z ps (from_of net p)) from.0 w.path in
      let straight : IsStraight net (to_of net p) ps (from_of net p) = ⊎_elim
      (λ (loop : HasLoop net (to_of net p) (from_of net p) ps). absurd (no_loop n (from_of net p) v (omega arith) told loop))
      (λ apart. apart_straight net ps (to_of net p) (from_of net p) path apart)
      (loop_or_apart net ps (to_of net p) (from_of net p) path) in
      let whole : IsCircuit net (p ∷ ps) = closes net p ps in' straight in
      let turned : IsCircuit net (ps ++ (p ∷ [])) = turned_circuit net (p ∷ ps) 1 (omega arith) whole in
      let long_is = length-append ps (p ∷ []) in
      let z : length ps ≡ length ps + 0 = omega arith in
      let sum = value_append net r ps (p ∷ []) in
      let one = value_one net r p in
      let value = w.is in
      let zero_start : w.start ≡ pos 0 = from.1 in
      let rules : IsPlaceOf net (place_at net p) = ok.each_place p.index no_place in' in
      let own = weight_within r (place_at net p) target rules.hold_in rules.tokens_in in
      let high = own.1 in
      let few = ok.few_transitions in
      let within = (h.within n (omega arith) (from_of net p) v told).1 in
      let bound : n * greatest_reduced_time ≤ 400 * greatest_reduced_time = omega arith in
      let best : IsBestThrough net r p (v +ℤ reduced_time_of_place r (place_at net p)) (ps ++ (p ∷ [])) = record {
        circuit = turned;
        passes = (length ps, omega arith, ap (λ (i : ℕ). get_or (ps ++ (p ∷ [])) i p) z ∙ get_or-append-add ps (p ∷ []) 0 p);
        is = omega (arith, ints);
        greatest = λ qs c passes.
            (let b = back_of qs c passes in
            let same : b.0 ≡ v = same_some (value_told end (from_of net p)) b.0 v b.1 told in
            let low = b.2 in
            subst (λ (x : ℤ). reduced_time_of_path net r qs ≤ℤ (x +ℤ reduced_time_of_place r (place_at net p))) same low);
        small = omega (arith, ints);
      } in
      subst (λ (k : ℕ). IsBestThrough net r p (v +ℤ reduced_time_of_place r (place_at net p)) (trace_of net rounds k (from_of net p) ++ (p ∷ []))) (sym all) best
