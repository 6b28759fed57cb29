-- A circuit taken out of a path, and circuits above a target that avoid a place.
use Rattle.std.proofs.Common.{ℕ, ℤ, pos, suc, ◌+◌, ◌-◌, ◌<◌, ◌≤◌, ◌≡◌, ◌≢◌, ◌+ℤ◌, List, [], ◌∷◌, ◌++◌, length, get_or, map, take, drop, true, eqb, Option, Some, refl, sym, ap, subst, ◌∙◌, arith}
use Rattle.std.specs.Prelude.{◌≤ℤ◌, AllPairs}
use Rattle.std.specs.List.{Any}
use Rattle.std.proofs.lemmas.Bool.Decides.{nat_tests, Decides-eqb}
use Rattle.std.proofs.lemmas.Int.{ints, by_lt_z}
use Rattle.std.proofs.lemmas.List.{get_or-map, length-append, length-map, get_or_default, length-take-le, length-drop, get_or-take, get_or-drop, take-append-drop}
use Rattle.std.proofs.lemmas.List.Folds.{Any-from_list_any}
use Rattle.std.proofs.lemmas.List.Elements.{All-append, All-tail}
use Rattle.std.proofs.lemmas.Map.Made.{IsDistinct-from_AllPairs}
use Rattle.std.proofs.lemmas.Map.Steps.{length-le_from_distinct_below}
use Rattle.teg_net.specs.declared.entries.PlaceId.{PlaceId}
use Rattle.teg_net.specs.Nets.{NetLists, IsNet}
use Rattle.teg_net.specs.Ratios.{Fraction}
use Rattle.teg_net.specs.Circuits.{no_place, place_at, from_of, IsPathBetween, IsCircuit}
use Rattle.teg_net.specs.Parts.{to_of}
use Rattle.teg_net.specs.ReducedTimes.{reduced_time_of_place}
use Rattle.teg_net.proofs.PathLaws.{IsPathBetween-append, IsPathBetween-in_range}
use Rattle.teg_loops.proofs.Stops.{met, to_met, from_met, met_at}
use Rattle.teg_sizing.specs.declared.rounds.ValueCell.{ValueCell}
use Rattle.teg_sizing.specs.ValueRounds.{reduced_time_of_path, Avoids, value_told, by_at, IsAtLeast, IsRoundAfter, IsTakenBy, round_at, AreRounds}
use Rattle.teg_sizing.specs.TracedPaths.{no_id, transition_left_at, NoneLeaves, IsFirstLoop, trace_of}
use Rattle.teg_sizing.specs.Surpluses.{NoneIsAbove, IsAboveApart, StartsEverywhere, NoneIsBetter, IsToldMore}
use Rattle.teg_sizing.proofs.Values.{same_some, at_least_is, at_least_some, value_append, value_cons, value_none, all_first, all_second}
use Rattle.teg_sizing.proofs.Going.{stepped, held_on, complete}
use Rattle.teg_sizing.proofs.Traces.{traced, traced_long}

-- ---- the first circuit of a path

from_below : (net : NetLists) (ps : List PlaceId) (a b q : ℕ) → IsNet net → IsPathBetween net a ps b → Any (λ x. eqb q x ≡ true) (map (from_of net) ps) → q < length net.transitions
from_below net ps a b q ok h any =
    let i : ℕ = any.0 in
    let long = length-map ps (from_of net) in
    let within : i < length ps = omega (arith, any.2) in
    let range = IsPathBetween-in_range net ps a b h i no_id within in
    let is : q ≡ any.1 = grind (arith, nat_tests, any.4) in
    let there : any.1 ≡ from_of net (get_or ps i no_id) = sym any.3 ∙ get_or-map (from_of net) ps i no_id any.1 within in
    let own = ok.each_place (get_or ps i no_id).index no_place range in
    rw (is ∙ there) own.from_in

-- a path that leaves no transition twice has at most as many places as there are transitions
pub once_short : (net : NetLists) (ps : List PlaceId) (a b : ℕ) → IsNet net → IsPathBetween net a ps b → ((k : ℕ) → k < length ps → NoneLeaves net ps k) → length ps ≤ length net.transitions
once_short net ps a b ok h once =
    let froms : List ℕ = map (from_of net) ps in
    let long = length-map ps (from_of net) in
    let apart : AllPairs (λ x y. x ≢ y) froms =
    λ j k d m n. rw (get_or-map (from_of net) ps j no_id d (omega arith), get_or-map (from_of net) ps k no_id d (omega arith)) (once k (omega arith) j m) in
    let few = length-le_from_distinct_below froms (length net.transitions) (IsDistinct-from_AllPairs Decides-eqb froms apart)
    (λ q e. from_below net ps a b q ok h (Any-from_list_any (eqb q) froms e)) in
    omega (arith, few)

-- the parts of a path round a piece of it
pub record IsCutAt (net : NetLists) (ps own : List PlaceId) (a b : ℕ) : Type 0 where
  pub before : List PlaceId
  pub after : List PlaceId
  pub is : ps ≡ before ++ (own ++ after)
  pub rest : IsPathBetween net a (before ++ after) b
  pub at : ℕ
  pub closed : IsPathBetween net at own at
  pub some : 0 < length own

pub cut_at : (net : NetLists) (ps : List PlaceId) (a b begin end : ℕ) → IsPathBetween net a ps b → begin < end → end < length ps
    → transition_left_at net ps begin ≡ transition_left_at net ps end → IsCutAt net ps (take (end - begin) (drop begin ps)) a b
cut_at net ps a b begin end path l m same =
    let rest : List PlaceId = drop begin ps in
    let long : length rest ≡ length ps - begin = length-drop begin ps in
    let size : ℕ = end - begin in
    let c : ℕ = get_or (met net b ps) begin 0 in
    let d : ℕ = get_or (met net b rest) size 0 in
    let one : IsPathBetween net a (take begin ps) c = to_met net ps a b begin path (omega arith) in
    let two : IsPathBetween net c rest b = from_met net ps a b begin path (omega arith) in
    let three : IsPathBetween net c (take size rest) d = to_met net rest c b size two (omega arith) in
    let four : IsPathBetween net d (drop size rest) b = from_met net rest c b size two (omega arith) in
    let c_is : c ≡ transition_left_at net ps begin = met_at net b ps begin no_id (omega arith) in
    let place : begin + size ≡ end = omega arith in
    let d_is : d ≡ transition_left_at net ps end = met_at net b rest size no_id (omega arith) ∙ ap (from_of net) (get_or-drop begin ps size no_id ∙ ap (λ (z : ℕ). get_or ps z no_id) place) in
    let meet : c ≡ d = c_is ∙ same ∙ sym d_is in
    let own_long : length (take size rest) ≡ size = length-take-le size rest (omega arith) in
    record {
      before = take begin ps;
      after = drop size rest;
      is = sym (take-append-drop begin ps) ∙ ap (λ (z : List PlaceId). take begin ps ++ z) (sym (take-append-drop size rest));
      rest = IsPathBetween-append net (take begin ps) (drop size rest) a c b one (subst (λ (z : ℕ). IsPathBetween net z (drop size rest) b) (sym meet) four);
      at = c;
      closed = subst (λ (z : ℕ). IsPathBetween net c (take size rest) z) (sym meet) three;
      some = omega arith;
    }

-- the piece between two places that leave one transition, none of which leaves one that was left before
pub loop_found : (net : NetLists) (ps : List PlaceId) (a b begin end : ℕ) → IsPathBetween net a ps b → begin < end → end < length ps
    → transition_left_at net ps begin ≡ transition_left_at net ps end → ((k : ℕ) → k < end → NoneLeaves net ps k)
    → IsFirstLoop net ps (take (end - begin) (drop begin ps))
loop_found net ps a b begin end path l m same once =
    let cut = cut_at net ps a b begin end path l m same in
    let rest : List PlaceId = drop begin ps in
    let long : length rest ≡ length ps - begin = length-drop begin ps in
    let size : ℕ = end - begin in
    let own : List PlaceId = take size rest in
    let own_long : length own ≡ size = length-take-le size rest (omega arith) in
    let at : (i : ℕ) (d : PlaceId) → i < size → from_of net (get_or own i d) ≡ transition_left_at net ps (begin + i) = λ i d n.
    ap (from_of net) (get_or-take size rest i d n ∙ (get_or-drop begin ps i d ∙ get_or_default ps (begin + i) d no_id (omega arith))) in
    record {
      begin = begin;
      end = end;
      before_it = l;
      within = m;
      is = refl;
      same = same;
      circuit = record {
        not_empty = cut.some;
        closed = (cut.at, cut.closed);
        leaves_once = λ j k d n o. λ both. once (begin + k) (omega arith) (begin + j) (omega arith) (sym (at j d (omega arith)) ∙ (both ∙ at k d (omega arith)));
      };
    }

-- ---- rounds from everywhere

module _ (net : NetLists) (r : Fraction) (p : PlaceId) (first : List ValueCell) (rounds : List (List ValueCell)) (ok : IsNet net)
    (starts : StartsEverywhere (length net.transitions) first) (h : AreRounds net r p first rounds)
    (long : length rounds ≡ (length net.transitions + 1) + 1) where
  abbrev n : ℕ
  n = length net.transitions

  abbrev last : List ValueCell
  last = round_at rounds n

  abbrev more : List ValueCell
  more = round_at rounds (n + 1)

  after_last : IsRoundAfter net r p last more
  after_last = h.each n (omega arith)

  -- where nothing more is told in the last round, values only rise along paths
  still : NoneIsBetter more → (ps : List PlaceId) (s t : ℕ) (u : ℤ) → IsPathBetween net s ps t → Avoids p ps
      → IsAtLeast (value_told last s) u → IsAtLeast (value_told last t) (u +ℤ reduced_time_of_path net r ps)
  still none [] s t u path avoids told =
      let zero_value = value_none net r in
      let same : u +ℤ reduced_time_of_path net r [] ≡ u = omega (arith, ints) in
      rw same (subst (λ (x : ℕ). IsAtLeast (value_told last x) u) path told)
  still none (q ∷ ps) s t u path avoids told =
      let here : IsAtLeast (value_told last (from_of net q)) u = subst (λ (x : ℕ). IsAtLeast (value_told last x) u) (sym path.1) told in
      let next = stepped net r p last more q u after_last path.0 (avoids 0 no_id (omega arith)) here in
      let wide : length more ≡ n = h.counts (n + 1) (omega arith) in
      let to_in : to_of net q < length more = rw wide (ok.each_place q.index no_place path.0).to_in in
      let same : value_told more (to_of net q) ≡ value_told last (to_of net q) = after_last.same (to_of net q) (none (to_of net q) to_in) in
      let there : IsAtLeast (value_told last (to_of net q)) (u +ℤ reduced_time_of_place r (place_at net q)) =
      subst (λ (o : Option ℤ). IsAtLeast o (u +ℤ reduced_time_of_place r (place_at net q))) same next in
      let rest = still none ps (to_of net q) t (u +ℤ reduced_time_of_place r (place_at net q)) path.2 (All-tail (λ x. x.index ≢ p.index) q ps avoids) there in
      let cons = value_cons net r q ps in
      let sum : (u +ℤ reduced_time_of_place r (place_at net q)) +ℤ reduced_time_of_path net r ps ≡ u +ℤ reduced_time_of_path net r (q ∷ ps) = omega (arith, ints) in
      subst (λ (x : ℤ). IsAtLeast (value_told last t) x) sum rest

  start_in : (ps : List PlaceId) (a : ℕ) → 0 < length ps → IsPathBetween net a ps a → a < n
  start_in [] a l path = absurd (omega arith)
  start_in (q ∷ ps) a l path = rw path.1 at (ok.each_place q.index no_place path.0).from_in

  pub none_above : NoneIsBetter more → NoneIsAbove net r p
  none_above none ps c avoids =
      let a : ℕ = c.closed.0 in
      let low = start_in ps a c.not_empty c.closed.1 in
      let zero_told : value_told first a ≡ Some (pos 0) = starts.each a low in
      let begun : IsAtLeast (value_told (round_at rounds 0) a) (pos 0) =
      subst (λ (z : List ValueCell). IsAtLeast (value_told z a) (pos 0)) (sym h.first_is) (at_least_is (value_told first a) (pos 0) zero_told) in
      let up = held_on net r p first rounds h 0 n a (pos 0) (omega arith) begun in
      let z : 0 + n ≡ n = omega arith in
      let told = at_least_some (value_told last a) (pos 0) (subst (λ (x : ℕ). IsAtLeast (value_told (round_at rounds x) a) (pos 0)) z up) in
      let round = at_least_some (value_told last a) (told.0 +ℤ reduced_time_of_path net r ps) (still none ps a a told.0 c.closed.1 avoids (at_least_is (value_told last a) told.0 told.1)) in
      let same : told.0 ≡ round.0 = same_some (value_told last a) told.0 round.0 told.1 round.1 in
      let low2 = round.2 in
      omega (arith, ints)

  -- a path by which more is told
  pub record IsLongPath (ps : List PlaceId) (t : ℕ) : Type 0 where
    pub from : ℕ
    pub path : IsPathBetween net from ps t
    pub avoids : Avoids p ps
    pub size : length ps ≡ n + 1
    pub beats : (qs : List PlaceId) → IsPathBetween net from qs t → Avoids p qs → length qs ≤ n → reduced_time_of_path net r ps ≤ℤ reduced_time_of_path net r qs → ⊥

  pub long_path : (t : ℕ) → IsToldMore more t → IsLongPath (trace_of net rounds (length rounds) t) t
  long_path t b =
      let next : n + 1 ≡ suc n = omega arith in
      let all : length rounds ≡ suc (suc n) = omega arith in
      let by : by_at (round_at rounds (suc n)) t ≡ Some b.place = ap (λ (z : ℕ). by_at (round_at rounds z) t) (sym next) ∙ b.by in
      let taken : IsTakenBy net r p last more t b.place = after_last.by_place t b.place b.by in
      let told : value_told (round_at rounds (suc n)) t ≡ Some taken.value = ap (λ (z : ℕ). value_told (round_at rounds z) t) (sym next) ∙ taken.told in
      let w = traced net r p first rounds h starts.by_none (suc n) t taken.value (omega arith) told in
      let size = traced_long net r p first rounds h starts.by_none n t b.place (omega arith) by in
      let value = w.is in
      let own : IsLongPath (trace_of net rounds (suc (suc n)) t) t = record {
        from = w.from;
        path = w.path;
        avoids = w.avoids;
        size = size ∙ sym next;
        beats = λ qs path avoids few low.
            (let done = complete net r p first rounds h qs n w.from t w.start (omega arith) few path avoids w.told in
            let up = at_least_some (value_told last t) (w.start +ℤ reduced_time_of_path net r qs) done in
            let high = up.2 in
            let reached : taken.value ≤ℤ up.0 = omega (arith, ints) in
            taken.more (subst (λ (o : Option ℤ). IsAtLeast o taken.value) (sym up.1) reached));
      } in
      subst (λ (z : ℕ). IsLongPath (trace_of net rounds z t) t) (sym all) own

  -- each circuit in it is above the target
  pub above_found : (ps own : List PlaceId) (t : ℕ) → IsLongPath ps t → IsFirstLoop net ps own → IsAboveApart net r p own
  above_found ps own t w f =
      let piece : List PlaceId = take (f.end - f.begin) (drop f.begin ps) in
      let cut : IsCutAt net ps piece w.from t = cut_at net ps w.from t f.begin f.end w.path f.before_it f.within f.same in
      let avoids : Avoids p (cut.before ++ (piece ++ cut.after)) = subst (Avoids p) cut.is w.avoids in
      let one : Avoids p cut.before = all_first (λ q. q.index ≢ p.index) cut.before (piece ++ cut.after) avoids in
      let others : Avoids p (piece ++ cut.after) = all_second (λ q. q.index ≢ p.index) cut.before (piece ++ cut.after) avoids in
      let two : Avoids p piece = all_first (λ q. q.index ≢ p.index) piece cut.after others in
      let three : Avoids p cut.after = all_second (λ q. q.index ≢ p.index) piece cut.after others in
      let whole : reduced_time_of_path net r ps ≡ reduced_time_of_path net r (cut.before ++ (piece ++ cut.after)) = ap (reduced_time_of_path net r) cut.is in
      let a = value_append net r cut.before (piece ++ cut.after) in
      let b = value_append net r piece cut.after in
      let c = value_append net r cut.before cut.after in
      let long : length ps ≡ length (cut.before ++ (piece ++ cut.after)) = ap (λ (z : List PlaceId). length z) cut.is in
      let la = length-append cut.before (piece ++ cut.after) in
      let lb = length-append piece cut.after in
      let lc = length-append cut.before cut.after in
      let some = cut.some in
      let size = w.size in
      let above : pos 1 ≤ℤ reduced_time_of_path net r piece = by_lt_z (pos 0) (reduced_time_of_path net r piece)
      (λ l. let up : pos 1 ≤ℤ reduced_time_of_path net r piece = omega (arith, ints) in up)
      (λ l. absurd (w.beats (cut.before ++ cut.after) cut.rest (All-append (λ q. q.index ≢ p.index) cut.before cut.after one three) (omega arith) (omega (arith, ints)))) in
      subst (IsAboveApart net r p) (sym f.is) (record { circuit = subst (IsCircuit net) f.is f.circuit; avoids = two; above = above })
