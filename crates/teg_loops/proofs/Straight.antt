-- A path has a loop, or comes to no transition twice and is short.
use Rattle.std.proofs.Common.{ℕ, zero, suc, ◌-◌, ◌<◌, ◌≤◌, ◌≡◌, ◌≢◌, List, [], ◌∷◌, length, get_or, take, drop, refl, sym, ap, subst, ◌∙◌, arith, ⊎_elim, ◌⊎◌, inl, inr, eqb, true, take-append-drop}
use Rattle.std.specs.Prelude.{AllPairs}
use Rattle.std.specs.List.{Any}
use Rattle.std.proofs.lemmas.Bool.{cases_lt, cases_eq}
use Rattle.std.proofs.lemmas.Bool.Decides.{nat_tests, Decides-eqb}
use Rattle.std.proofs.lemmas.List.{get_or-take, get_or_default, length-take-le}
use Rattle.std.proofs.lemmas.List.Folds.{Any-from_list_any}
use Rattle.std.proofs.lemmas.Map.Made.{IsDistinct-from_AllPairs}
use Rattle.std.proofs.lemmas.Map.Steps.{length-le_from_distinct_below}
use Rattle.teg_net.specs.declared.entries.PlaceId.{PlaceId}
use Rattle.teg_net.specs.Nets.{NetLists}
use Rattle.teg_net.specs.Circuits.{place_at, from_of, IsPathBetween, IsCircuit}
use Rattle.teg_net.proofs.PathLaws.{no_id}
use Rattle.teg_loops.specs.Loops.{EndsBelow, IsStraight, HasLoop}
use Rattle.teg_loops.specs.PathSplitting.{LongPathsHaveLoops}
use Rattle.teg_loops.proofs.Stops.{met, met_length, to_met, from_met, met_at, met_below, first_met, last_met}

-- no two of the numbers are equal
abbrev pub AreApart : List ℕ → Type 0
AreApart xs = AllPairs (λ x y. x ≢ y) xs

-- a number stands in a list, or it does not
find_number : (xs : List ℕ) (a : ℕ) → ((i : ℕ) × (i < length xs) × (get_or xs i 0 ≡ a)) ⊎ ((i : ℕ) → i < length xs → get_or xs i 0 ≢ a)
find_number [] a = inr (λ i l. absurd (omega arith))
find_number (x ∷ xs) a = ⊎_elim
    (λ e. inl (zero, omega arith, e))
    (λ ne. ⊎_elim
    (λ old. inl (suc old.0, omega (arith, old.1), old.2))
    (λ none. inr (not_there none ne))
    (find_number xs a))
    (cases_eq x a) where
      not_there : ((i : ℕ) → i < length xs → get_or xs i 0 ≢ a) → x ≢ a → (i : ℕ) → i < length (x ∷ xs) → get_or (x ∷ xs) i 0 ≢ a
      not_there none ne zero l = ne
      not_there none ne (suc i) l = none i (omega arith)

-- one more number, which is not among them
apart_more : (x : ℕ) (xs : List ℕ) → AreApart xs → ((i : ℕ) → i < length xs → get_or xs i 0 ≢ x) → AreApart (x ∷ xs)
apart_more x xs apart none zero zero d m n = absurd (omega arith)
apart_more x xs apart none zero (suc k) d m n =
    let low : k < length xs = omega arith in
    λ e. none k low (get_or_default xs k 0 d low ∙ sym e)
apart_more x xs apart none (suc j) zero d m n = absurd (omega arith)
apart_more x xs apart none (suc j) (suc k) d m n = apart j k d (omega arith) (omega arith)

-- the places up to the first return leave no transition twice
loop_once : (net : NetLists) (b : ℕ) (p : PlaceId) (ps : List PlaceId) (i : ℕ) → i ≤ length ps → AreApart (met net b ps) → get_or (met net b ps) i 0 ≡ from_of net p
    → AllPairs (λ q r. from_of net q ≢ from_of net r) (p ∷ take i ps)
loop_once net b p ps i l apart back zero zero d m n = absurd (omega arith)
loop_once net b p ps i l apart back zero (suc k) d m n =
    let long = length-take-le i ps l in
    let wide = met_length net b ps in
    let low : k < i = omega arith in
    let there : get_or (met net b ps) k 0 ≡ from_of net (get_or ps k d) = met_at net b ps k d (omega arith) in
    rw (get_or-take i ps k d low) (λ e. apart k i 0 low (omega arith) (there ∙ sym e ∙ sym back))
loop_once net b p ps i l apart back (suc j) zero d m n = absurd (omega arith)
loop_once net b p ps i l apart back (suc j) (suc k) d m n =
    let long = length-take-le i ps l in
    let wide = met_length net b ps in
    let low : k < i = omega arith in
    let lower : j < i = omega arith in
    let here : get_or (met net b ps) j 0 ≡ from_of net (get_or ps j d) = met_at net b ps j d (omega arith) in
    let there : get_or (met net b ps) k 0 ≡ from_of net (get_or ps k d) = met_at net b ps k d (omega arith) in
    rw (get_or-take i ps j d lower, get_or-take i ps k d low) (λ e. apart j k 0 (omega arith) (omega arith) (here ∙ e ∙ sym there))

-- a path has a loop, or meets no transition twice
pub loop_or_apart : (net : NetLists) (ps : List PlaceId) (a b : ℕ) → IsPathBetween net a ps b → HasLoop net a b ps ⊎ AreApart (met net b ps)
loop_or_apart net [] a b h = inr (λ j k d m n. absurd (omega arith))
loop_or_apart net (p ∷ ps) a b h = ⊎_elim
    (λ old. inl (record {
      before = p ∷ old.before;
      loop = old.loop;
      after = old.after;
      at = old.at;
      is = ap (λ (z : List PlaceId). p ∷ z) old.is;
      first = (h.0, h.1, old.first);
      closed = old.closed;
      last = old.last;
      circuit = old.circuit;
    }))
    (λ apart. ⊎_elim
    (λ back.
    let i : ℕ = back.0 in
    let wide = met_length net b ps in
    let low : i ≤ length ps = omega (arith, back.1) in
    let there : get_or (met net b ps) i 0 ≡ from_of net p = back.2 in
    let closed : IsPathBetween net (from_of net p) (p ∷ take i ps) (from_of net p) =
    (h.0, refl, subst (λ (z : ℕ). IsPathBetween net (place_at net p).to.index (take i ps) z) there (to_met net ps (place_at net p).to.index b i h.2 low)) in
    inl (record {
      before = [];
      loop = p ∷ take i ps;
      after = drop i ps;
      at = from_of net p;
      is = ap (λ (z : List PlaceId). p ∷ z) (sym (take-append-drop i ps));
      first = sym h.1;
      closed = closed;
      last = subst (λ (z : ℕ). IsPathBetween net z (drop i ps) b) there (from_met net ps (place_at net p).to.index b i h.2 low);
      circuit = record { not_empty = omega arith; closed = (from_of net p, closed); leaves_once = loop_once net b p ps i low apart there };
    }))
    (λ none. inr (apart_more (from_of net p) (met net b ps) apart none))
    (find_number (met net b ps) (from_of net p)))
    (loop_or_apart net ps (place_at net p).to.index b h.2)

-- what the path comes to is below n
apart_below : (net : NetLists) (n : ℕ) (ps : List PlaceId) (a b q : ℕ) → EndsBelow net n → b < n → IsPathBetween net a ps b → Any (λ x. eqb q x ≡ true) (met net b ps) → q < n
apart_below net n ps a b q e lb h any =
    let i : ℕ = any.0 in
    let wide = met_length net b ps in
    let within : i < length (met net b ps) = any.2 in
    let is : q ≡ any.1 = grind (arith, nat_tests, any.4) in
    let there : any.1 ≡ get_or (met net b ps) i 0 = sym any.3 ∙ get_or_default (met net b ps) i any.1 0 within in
    rw (is ∙ there) (met_below net n ps a b i e lb h (omega arith))

-- a path that meets no transition twice is short
pub apart_short : (net : NetLists) (n : ℕ) (ps : List PlaceId) (a b : ℕ) → EndsBelow net n → b < n → IsPathBetween net a ps b → AreApart (met net b ps) → length ps < n
apart_short net n ps a b e lb h apart =
    let wide = met_length net b ps in
    let few = length-le_from_distinct_below (met net b ps) n (IsDistinct-from_AllPairs Decides-eqb (met net b ps) apart)
    (λ q t. apart_below net n ps a b q e lb h (Any-from_list_any (eqb q) (met net b ps) t)) in
    omega (arith, few)

-- a path of at least n places, over n transitions, has a loop
pub looped : LongPathsHaveLoops
looped net n ps a b e lb h l = ⊎_elim (λ loop. loop) (λ apart. let s = apart_short net n ps a b e lb h apart in absurd (omega arith)) (loop_or_apart net ps a b h)

-- what comes to no transition twice is straight
pub apart_straight : (net : NetLists) (ps : List PlaceId) (a b : ℕ) → IsPathBetween net a ps b → AreApart (met net b ps) → IsStraight net a ps b
apart_straight net ps a b h apart =
    let wide = met_length net b ps in
    record {
      path = h;
      leaves_once = λ j k d m n. λ e. apart j k 0 m (omega arith) (met_at net b ps j d (omega arith) ∙ e ∙ sym (met_at net b ps k d n));
      leaves_not_end = λ j d m. λ e. apart j (length ps) 0 m (omega arith) (met_at net b ps j d m ∙ e ∙ sym (last_met net ps b));
    }

-- a straight path comes to no transition twice
pub straight_apart : (net : NetLists) (ps : List PlaceId) (a b : ℕ) → IsStraight net a ps b → AreApart (met net b ps)
straight_apart net ps a b s j k d m n =
    let wide = met_length net b ps in
    let here : get_or (met net b ps) j d ≡ from_of net (get_or ps j no_id) = get_or_default (met net b ps) j d 0 (omega arith) ∙ met_at net b ps j no_id (omega arith) in
    let read : get_or (met net b ps) k d ≡ get_or (met net b ps) k 0 = get_or_default (met net b ps) k d 0 n in
    λ e. ⊎_elim
    (λ (low : k < length ps). s.leaves_once j k no_id m low (sym here ∙ e ∙ read ∙ met_at net b ps k no_id low))
    (λ (high : length ps ≤ k).
    let is : k ≡ length ps = omega arith in
    let last : get_or (met net b ps) k 0 ≡ b = ap (λ (z : ℕ). get_or (met net b ps) z 0) is ∙ last_met net ps b in
    s.leaves_not_end j no_id (omega arith) (sym here ∙ e ∙ read ∙ last))
    (cases_lt k (length ps))

-- a straight path has fewer places than there are transitions
pub straight_short : (net : NetLists) (n : ℕ) (ps : List PlaceId) (a b : ℕ) → EndsBelow net n → b < n → IsStraight net a ps b → length ps < n
straight_short net n ps a b e lb s = apart_short net n ps a b e lb s.path (straight_apart net ps a b s)

-- a closed path that is not empty has a loop
pub closed_looped : (net : NetLists) (ps : List PlaceId) (a : ℕ) → IsPathBetween net a ps a → 0 < length ps → HasLoop net a a ps
closed_looped net ps a h l = ⊎_elim
    (λ loop. loop)
    (λ apart. let wide = met_length net a ps in absurd (apart 0 (length ps) 0 l (omega arith) (first_met net ps a a h ∙ sym (last_met net ps a))))
    (loop_or_apart net ps a a h)

-- a circuit has at most as many places as there are transitions
circuit_apart : (net : NetLists) (p : PlaceId) (qs : List PlaceId) (a : ℕ) → from_of net p ≡ a → AllPairs (λ q r. from_of net q ≢ from_of net r) (p ∷ qs) → AllPairs (λ x y. x ≢ y) (met net a qs)
circuit_apart net p qs a from once j k d m n =
    let wide = met_length net a qs in
    let here : get_or (met net a qs) j d ≡ from_of net (get_or qs j no_id) = get_or_default (met net a qs) j d 0 (omega arith) ∙ met_at net a qs j no_id (omega arith) in
    let read : get_or (met net a qs) k d ≡ get_or (met net a qs) k 0 = get_or_default (met net a qs) k d 0 n in
    λ e. ⊎_elim
    (λ (low : k < length qs). once (suc j) (suc k) no_id (omega arith) (omega arith) (sym here ∙ e ∙ read ∙ met_at net a qs k no_id low))
    (λ (high : length qs ≤ k).
    let is : k ≡ length qs = omega arith in
    let last : get_or (met net a qs) k 0 ≡ a = ap (λ (z : ℕ). get_or (met net a qs) z 0) is ∙ last_met net qs a in
    once 0 (suc j) no_id (omega arith) (omega arith) (from ∙ sym last ∙ sym read ∙ sym e ∙ here))
    (cases_lt k (length qs))

pub loop_short : (net : NetLists) (n : ℕ) (ps : List PlaceId) → EndsBelow net n → IsCircuit net ps → length ps ≤ n
loop_short net n ps e c = by_path ps c.closed.0 c.closed.1 c.leaves_once where
  by_path : (qs : List PlaceId) (a : ℕ) → IsPathBetween net a qs a → AllPairs (λ q r. from_of net q ≢ from_of net r) qs → length qs ≤ n
  by_path [] a h once = omega arith
  by_path (p ∷ qs) a h once =
      let low : a < n = subst (λ (z : ℕ). z < n) h.1 (e.from_in p h.0) in
      let few = apart_short net n qs (place_at net p).to.index a e low h.2 (circuit_apart net p qs a h.1 once) in
      omega arith
