-- The path that rounds tell: where it leads, what it is worth, and how long it is.
use Rattle.std.proofs.Common.{ℕ, ℤ, zero, suc, ◌+◌, ◌-◌, ◌<◌, ◌≤◌, ◌≡◌, ◌≢◌, ◌+ℤ◌, List, [], ◌∷◌, ◌++◌, length, get_or, reverse, Option, Some, None, refl, sym, ap, subst, ◌∙◌, arith, ⊎_elim}
use Rattle.std.proofs.lemmas.Int.{ints}
use Rattle.std.proofs.lemmas.List.{length-append, append_assoc, reverse-append, get_or_read}
use Rattle.std.proofs.lemmas.List.Elements.{All-append}
use Rattle.teg_net.specs.declared.entries.PlaceId.{PlaceId}
use Rattle.teg_net.specs.Nets.{NetLists}
use Rattle.teg_net.specs.Ratios.{Fraction}
use Rattle.teg_net.specs.Circuits.{place_at, from_of, IsPathBetween}
use Rattle.teg_net.specs.Parts.{to_of}
use Rattle.teg_net.specs.ReducedTimes.{reduced_time_of_place}
use Rattle.teg_net.proofs.PathLaws.{IsPathBetween-append}
use Rattle.teg_sizing.specs.declared.rounds.ValueCell.{ValueCell}
use Rattle.teg_sizing.specs.ValueRounds.{reduced_time_of_path, Avoids, value_told, by_at, IsAtLeast, IsTakenBy, round_at, AreRounds}
use Rattle.teg_sizing.specs.TracedPaths.{AreOfNet, by_place, trace_of}
use Rattle.teg_sizing.proofs.Values.{same_some, none_some, value_append, value_one, value_none, told_or_not}
use Rattle.teg_sizing.proofs.Going.{next_round, stepped}
use Rattle.teg_sizing.proofs.Values.{at_least_is}

-- where no place is told
pub trace_same : (net : NetLists) (rounds : List (List ValueCell)) (k t : ℕ) → by_at (round_at rounds k) t ≡ None → trace_of net rounds (suc k) t ≡ trace_of net rounds k t
trace_same net rounds k t e = ap (λ (o : Option PlaceId). by_place o (trace_of net rounds k t) (λ p. trace_of net rounds k (from_of net p) ++ (p ∷ []))) e

-- where one is
pub trace_more : (net : NetLists) (rounds : List (List ValueCell)) (k t : ℕ) (p : PlaceId) → by_at (round_at rounds k) t ≡ Some p
    → trace_of net rounds (suc k) t ≡ trace_of net rounds k (from_of net p) ++ (p ∷ [])
trace_more net rounds k t p e = ap (λ (o : Option PlaceId). by_place o (trace_of net rounds k t) (λ q. trace_of net rounds k (from_of net q) ++ (q ∷ []))) e

-- the round as it is read
pub read_round : (rounds : List (List ValueCell)) (k : ℕ) (read cells : List ValueCell) → k < length rounds → read ≡ get_or rounds k read → cells ≡ read → cells ≡ round_at rounds k
read_round rounds k read cells l is same = same ∙ get_or_read rounds k read l is []

-- the places found so far, last first, and one more
pub trace_by : (net : NetLists) (rounds : List (List ValueCell)) (k t : ℕ) (p : PlaceId) (places whole : List PlaceId) → 0 < k
    → by_at (round_at rounds (k - 1)) t ≡ Some p → whole ≡ trace_of net rounds k t ++ reverse places
    → whole ≡ trace_of net rounds (k - 1) (from_of net p) ++ reverse (places ++ (p ∷ []))
trace_by net rounds k t p places whole some by is =
    let up : k ≡ suc (k - 1) = omega arith in
    let more : trace_of net rounds k t ≡ trace_of net rounds (k - 1) (from_of net p) ++ (p ∷ []) = ap (λ (z : ℕ). trace_of net rounds z t) up ∙ trace_more net rounds (k - 1) t p by in
    let back : reverse (places ++ (p ∷ [])) ≡ (p ∷ []) ++ reverse places = reverse-append places (p ∷ []) in
    is ∙ ap (λ (z : List PlaceId). z ++ reverse places) more
    ∙ append_assoc (trace_of net rounds (k - 1) (from_of net p)) (p ∷ []) (reverse places)
    ∙ ap (λ (z : List PlaceId). trace_of net rounds (k - 1) (from_of net p) ++ z) (sym back)

pub trace_on : (net : NetLists) (rounds : List (List ValueCell)) (k t : ℕ) (places whole : List PlaceId) → 0 < k
    → by_at (round_at rounds (k - 1)) t ≡ None → whole ≡ trace_of net rounds k t ++ reverse places
    → whole ≡ trace_of net rounds (k - 1) t ++ reverse places
trace_on net rounds k t places whole some by is =
    let up : k ≡ suc (k - 1) = omega arith in
    let same : trace_of net rounds k t ≡ trace_of net rounds (k - 1) t = ap (λ (z : ℕ). trace_of net rounds z t) up ∙ trace_same net rounds (k - 1) t by in
    is ∙ ap (λ (z : List PlaceId). z ++ reverse places) same

-- the path to t leads from a start of the first round, avoids the place, and is worth what is told
pub record IsTraced (net : NetLists) (r : Fraction) (e : PlaceId) (first : List ValueCell) (ps : List PlaceId) (k t : ℕ) (v : ℤ) : Type 0 where
  pub from : ℕ
  pub start : ℤ
  pub told : value_told first from ≡ Some start
  pub path : IsPathBetween net from ps t
  pub avoids : Avoids e ps
  pub is : v ≡ start +ℤ reduced_time_of_path net r ps
  pub few : length ps ≤ k

module _ (net : NetLists) (r : Fraction) (e : PlaceId) (first : List ValueCell) (rounds : List (List ValueCell)) (h : AreRounds net r e first rounds) (bare : (t : ℕ) → by_at first t ≡ None) where
  abbrev trace : ℕ → ℕ → List PlaceId
  trace k t = trace_of net rounds (suc k) t

  bare_first : (t : ℕ) → by_at (round_at rounds 0) t ≡ None
  bare_first t = ap (λ (z : List ValueCell). by_at z t) h.first_is ∙ bare t

  trace_first : (t : ℕ) → trace 0 t ≡ []
  trace_first t = trace_same net rounds 0 t (bare_first t)

  pub of_net : AreOfNet net rounds
  of_net = record {
    counts = h.counts;
    places = λ k t p l by. from k t p l by;
  } where
    from : (k t : ℕ) (p : PlaceId) → k < length rounds → by_at (round_at rounds k) t ≡ Some p → p.index < length net.places
    from zero t p l by = absurd (none_some (by_at (round_at rounds 0) t) p (bare_first t) by)
    from (suc k) t p l by =
        let taken : IsTakenBy net r e (round_at rounds k) (round_at rounds (suc k)) t p = (next_round net r e first rounds h k l).by_place t p by in
        taken.in_range

  extended : (ps : List PlaceId) (k t : ℕ) (p : PlaceId) (u v : ℤ) → IsTraced net r e first ps k (from_of net p) u
      → p.index < length net.places → to_of net p ≡ t → p.index ≢ e.index → v ≡ u +ℤ reduced_time_of_place r (place_at net p)
      → IsTraced net r e first (ps ++ (p ∷ [])) (suc k) t v
  extended ps k t p u v old l to other is =
      let sum = value_append net r ps (p ∷ []) in
      let one = value_one net r p in
      let before = old.is in
      let long = length-append ps (p ∷ []) in
      let few = old.few in
      record {
        from = old.from;
        start = old.start;
        told = old.told;
        path = IsPathBetween-append net ps (p ∷ []) old.from (from_of net p) t old.path (l, refl, to);
        avoids = All-append (λ q. q.index ≢ e.index) ps (p ∷ []) old.avoids (λ i d m. (let z : i ≡ 0 = omega arith in rw z other));
        is = omega (arith, ints);
        few = omega arith;
      }

  -- each value that is told is that of the path
  pub traced : (k t : ℕ) (v : ℤ) → k < length rounds → value_told (round_at rounds k) t ≡ Some v → IsTraced net r e first (trace k t) k t v
  traced zero t v l told =
      let none = value_none net r in
      let empty : IsTraced net r e first [] 0 t v = record {
        from = t;
        start = v;
        told = ap (λ (z : List ValueCell). value_told z t) (sym h.first_is) ∙ told;
        path = refl;
        avoids = λ i d m. absurd (omega arith);
        is = omega (arith, ints);
        few = omega arith;
      } in
      subst (λ (ps : List PlaceId). IsTraced net r e first ps 0 t v) (sym (trace_first t)) empty
  traced (suc k) t v l told =
      let own = next_round net r e first rounds h k l in
      ⊎_elim
      (λ (none : by_at (round_at rounds (suc k)) t ≡ None).
      let old = traced k t v (omega arith) (sym (own.same t none) ∙ told) in
      let few = old.few in
      let wider : IsTraced net r e first (trace k t) (suc k) t v =
      record { from = old.from; start = old.start; told = old.told; path = old.path; avoids = old.avoids; is = old.is; few = omega arith } in
      subst (λ (ps : List PlaceId). IsTraced net r e first ps (suc k) t v) (sym (trace_same net rounds (suc k) t none)) wider)
      (λ (some : (p : PlaceId) × (by_at (round_at rounds (suc k)) t ≡ Some p)).
      let p : PlaceId = some.0 in
      let taken : IsTakenBy net r e (round_at rounds k) (round_at rounds (suc k)) t p = own.by_place t p some.1 in
      let old = traced k (from_of net p) taken.offered.start (omega arith) taken.offered.told in
      let same : taken.value ≡ v = same_some (value_told (round_at rounds (suc k)) t) taken.value v taken.told told in
      subst (λ (ps : List PlaceId). IsTraced net r e first ps (suc k) t v) (sym (trace_more net rounds (suc k) t p some.1))
      (extended (trace k (from_of net p)) k t p taken.offered.start v old taken.in_range taken.to taken.offered.other (sym same ∙ taken.offered.is)))
      (told_or_not (by_at (round_at rounds (suc k)) t))

  -- a path by which more is told in this round has just so many places
  joined_long : (k t : ℕ) (p : PlaceId) → by_at (round_at rounds (suc k)) t ≡ Some p → length (trace k (from_of net p)) ≡ k → length (trace (suc k) t) ≡ suc k
  joined_long k t p by rest =
      let is : trace (suc k) t ≡ trace k (from_of net p) ++ (p ∷ []) = trace_more net rounds (suc k) t p by in
      let long : length (trace (suc k) t) ≡ length (trace k (from_of net p)) + 1 = ap (λ (ps : List PlaceId). length ps) is ∙ length-append (trace k (from_of net p)) (p ∷ []) in
      omega arith

  -- since otherwise the round before had told as much
  told_before : (j t : ℕ) (p : PlaceId) → suc (suc j) < length rounds → by_at (round_at rounds (suc (suc j))) t ≡ Some p → by_at (round_at rounds (suc j)) (from_of net p) ≡ None → ⊥
  told_before j t p l by none =
      let taken : IsTakenBy net r e (round_at rounds (suc j)) (round_at rounds (suc (suc j))) t p = (next_round net r e first rounds h (suc j) l).by_place t p by in
      let last = next_round net r e first rounds h j (omega arith) in
      let told : value_told (round_at rounds j) (from_of net p) ≡ Some taken.offered.start = sym (last.same (from_of net p) none) ∙ taken.offered.told in
      let up = stepped net r e (round_at rounds j)
      (round_at rounds (suc j)) p taken.offered.start last taken.in_range taken.offered.other
      (at_least_is (value_told (round_at rounds j) (from_of net p)) taken.offered.start told) in
      taken.more (subst (λ (z : ℕ). IsAtLeast (value_told (round_at rounds (suc j)) z) taken.value) taken.to
      (subst (IsAtLeast (value_told (round_at rounds (suc j)) (to_of net p))) (sym taken.offered.is) up))

  pub traced_long : (k t : ℕ) (p : PlaceId) → suc k < length rounds → by_at (round_at rounds (suc k)) t ≡ Some p → length (trace (suc k) t) ≡ suc k
  traced_long zero t p l by = joined_long zero t p by (ap (λ (ps : List PlaceId). length ps) (trace_first (from_of net p)))
  traced_long (suc j) t p l by = joined_long (suc j) t p by (⊎_elim
      (λ (none : by_at (round_at rounds (suc j)) (from_of net p) ≡ None). absurd (told_before j t p l by none))
      (λ (some : (q : PlaceId) × (by_at (round_at rounds (suc j)) (from_of net p) ≡ Some q)). traced_long j (from_of net p) some.0 (omega arith) some.1)
      (told_or_not (by_at (round_at rounds (suc j)) (from_of net p))))
