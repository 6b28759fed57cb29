-- Rounds that stop at one that tells no more: those after it would be as it is.
use Rattle.std.proofs.Common.{ℕ, zero, suc, ◌+◌, ◌-◌, ◌<◌, ◌≤◌, ◌≡◌, List, [], ◌∷◌, ◌++◌, length, Some, None, refl, sym, ap, subst, ◌∙◌, arith, ⊎_elim}
use Rattle.std.proofs.lemmas.Bool.{cases_lt}
use Rattle.std.proofs.lemmas.List.{length-append, get_or_append_left, get_or_past}
use Rattle.teg_net.specs.declared.entries.PlaceId.{PlaceId}
use Rattle.teg_net.specs.Nets.{NetLists, IsNet}
use Rattle.teg_net.specs.Ratios.{Fraction}
use Rattle.teg_net.specs.Circuits.{from_of}
use Rattle.teg_sizing.specs.declared.rounds.ValueCell.{ValueCell}
use Rattle.teg_sizing.specs.ValueRounds.{IsTarget, no_cell, value_told, by_at, IsRoundAfter, round_at, AreRounds}
use Rattle.teg_sizing.specs.TracedPaths.{trace_of, last_round, HaveToldAll}
use Rattle.teg_sizing.specs.Surpluses.{NoneIsBetter}
use Rattle.teg_sizing.proofs.Values.{none_some, at_least_is, told_or_not}
use Rattle.teg_sizing.proofs.Going.{round_last, rounds_more}
use Rattle.teg_sizing.proofs.Traces.{trace_same, trace_more}

-- a round that tells no more is the round after itself
pub is_after_itself : (net : NetLists) (r : Fraction) (e : PlaceId) (before last : List ValueCell) → IsRoundAfter net r e before last → ((t : ℕ) → by_at last t ≡ None) → IsRoundAfter net r e last last
is_after_itself net r e before last h none = record {
  count = refl;
  kept = λ t v is. at_least_is (value_told last t) v is;
  each = λ p v l in' o. h.each p v l in' (record { other = o.other; start = o.start; told = sym (h.same (from_of net p) (none (from_of net p))) ∙ o.told; is = o.is });
  same = λ t n. refl;
  by_place = λ t p by. absurd (none_some (by_at last t) p (none t) by);
}

pub none_at_all : (cells : List ValueCell) → NoneIsBetter cells → (t : ℕ) → by_at cells t ≡ None
none_at_all cells none t = ⊎_elim
    (λ (l : t < length cells). none t l)
    (λ (l : length cells ≤ t). ap (λ (c : ValueCell). c.by) (get_or_past cells t no_cell l))
    (cases_lt t (length cells))

-- the first rounds tell the same paths, whatever comes after them
trace_before : (net : NetLists) (rounds : List (List ValueCell)) (after : List ValueCell) (k t : ℕ) → k ≤ length rounds → trace_of net (rounds ++ (after ∷ [])) k t ≡ trace_of net rounds k t
trace_before net rounds after zero t l = refl
trace_before net rounds after (suc k) t l =
    let more : List (List ValueCell) = rounds ++ (after ∷ []) in
    let same : round_at more k ≡ round_at rounds k = get_or_append_left rounds (after ∷ []) [] k (omega arith) in
    let by : by_at (round_at more k) t ≡ by_at (round_at rounds k) t = ap (λ (z : List ValueCell). by_at z t) same in
    ⊎_elim
    (λ (none : by_at (round_at rounds k) t ≡ None).
    trace_same net more k t (by ∙ none) ∙ (trace_before net rounds after k t (omega arith) ∙ sym (trace_same net rounds k t none)))
    (λ (some : (p : PlaceId) × (by_at (round_at rounds k) t ≡ Some p)).
    trace_more net more k t some.0 (by ∙ some.1)
    ∙ (ap (λ (z : List PlaceId). z ++ (some.0 ∷ [])) (trace_before net rounds after k (from_of net some.0) (omega arith)) ∙ sym (trace_more net rounds k t some.0 some.1)))
    (told_or_not (by_at (round_at rounds k) t))

-- with one round more that tells no place
trace_longer : (net : NetLists) (rounds : List (List ValueCell)) (after : List ValueCell) (t : ℕ) → by_at after t ≡ None
    → trace_of net (rounds ++ (after ∷ [])) (length (rounds ++ (after ∷ []))) t ≡ trace_of net rounds (length rounds) t
trace_longer net rounds after t none =
    let more : List (List ValueCell) = rounds ++ (after ∷ []) in
    let long : length more ≡ suc (length rounds) = omega (arith, length-append rounds (after ∷ [])) in
    let by : by_at (round_at more (length rounds)) t ≡ None = ap (λ (z : List ValueCell). by_at z t) (round_last rounds after) ∙ none in
    ap (λ (z : ℕ). trace_of net more z t) long ∙ (trace_same net more (length rounds) t by ∙ trace_before net rounds after (length rounds) t (omega arith))

-- so many rounds more like the last
pub record IsLengthened (net : NetLists) (r : Fraction) (e : PlaceId) (first : List ValueCell) (rounds : List (List ValueCell)) (last : List ValueCell) (count : ℕ) : Type 0 where
  pub all : List (List ValueCell)
  pub are : AreRounds net r e first all
  pub long : length all ≡ count + 1
  pub last_is : round_at all count ≡ last
  pub paths : (t : ℕ) → trace_of net rounds (length rounds) t ≡ trace_of net all (length all) t

lengthen :
    (net : NetLists) (r : Fraction) (e : PlaceId) (first last : List ValueCell) → IsNet net → IsTarget r → IsRoundAfter net r e last last → ((t : ℕ) → by_at last t ≡ None)
    → (m k : ℕ) (rounds : List (List ValueCell)) → AreRounds net r e first rounds → length rounds ≡ k + 1 → round_at rounds k ≡ last → IsLengthened net r e first rounds last (k + m)
lengthen net r e first last ok target again none zero k rounds h long is =
    let same : k + 0 ≡ k = omega arith in
    rw same (record { all = rounds; are = h; long = long; last_is = is; paths = λ t. refl })
lengthen net r e first last ok target again none (suc m) k rounds h long is =
    let more : List (List ValueCell) = rounds ++ (last ∷ []) in
    let wide : length more ≡ (k + 1) + 1 = omega (arith, length-append rounds (last ∷ []), long) in
    let end : round_at more (k + 1) ≡ last = ap (round_at more) (sym long) ∙ round_last rounds last in
    let at : length rounds - 1 ≡ k = omega (arith, long) in
    let here = subst (λ (z : List ValueCell). IsRoundAfter net r e z last) (sym (ap (round_at rounds) at ∙ is)) again in
    let rest : IsLengthened net r e first more last ((k + 1) + m) =
    lengthen net r e first last ok target again none m (k + 1) more (rounds_more net r e first rounds last ok target h here) wide end in
    let same : k + suc m ≡ (k + 1) + m = omega arith in
    rw same (record {
      all = rest.all;
      are = rest.are;
      long = rest.long;
      last_is = rest.last_is;
      paths = λ t. sym (trace_longer net rounds last t (none t)) ∙ rest.paths t;
    })

-- rounds that stop at one that tells no more have told all
pub stopped : (net : NetLists) (r : Fraction) (e : PlaceId) (first : List ValueCell) (rounds : List (List ValueCell))
    (last : List ValueCell) (count : ℕ) → IsNet net → IsTarget r → AreRounds net r e first rounds → length rounds ≤ count
    → IsRoundAfter net r e (last_round rounds) last → NoneIsBetter last → HaveToldAll net r e first count (rounds ++ (last ∷ []))
stopped net r e first rounds last count ok target h few after better =
    let none = none_at_all last better in
    let more : List (List ValueCell) = rounds ++ (last ∷ []) in
    let k : ℕ = length rounds in
    let long : length more ≡ k + 1 = length-append rounds (last ∷ []) in
    let all : IsLengthened net r e first more last (k + (count - k)) =
    lengthen net r e first last ok target (is_after_itself net r e (last_round rounds) last after none) none (count - k) k more
    (rounds_more net r e first rounds last ok target h after) long (round_last rounds last) in
    let same : k + (count - k) ≡ count = omega arith in
    let own : IsLengthened net r e first more last count = rw same at all in
    let end : length more - 1 ≡ k = omega (arith, long) in
    record {
      some = omega (arith, long);
      all = own.all;
      are = own.are;
      long = own.long;
      last = ap (round_at more) end ∙ (round_last rounds last ∙ sym own.last_is);
      paths = own.paths;
    }

-- and so have all of them
pub whole : (net : NetLists) (r : Fraction) (e : PlaceId) (first : List ValueCell) (rounds : List (List ValueCell)) (count : ℕ)
    → AreRounds net r e first rounds → length rounds ≡ count + 1 → HaveToldAll net r e first count rounds
whole net r e first rounds count h long =
    let end : length rounds - 1 ≡ count = omega (arith, long) in
    record { some = omega (arith, long); all = rounds; are = h; long = long; last = ap (round_at rounds) end; paths = λ t. refl }
