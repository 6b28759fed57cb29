-- Circuits of places without spare time, and circuits of good places among transitions that good places lead to.
use Rattle.std.proofs.Common.{ℕ, zero, suc, ◌+◌, ◌-◌, ◌*◌, ◌<◌, ◌≤◌, ◌≡◌, List, [], ◌∷◌, ◌++◌, length, get_or, refl, sym, ap, subst, ◌∙◌, arith, ⊎_elim}
use Rattle.std.specs.Prelude.{All}
use Rattle.std.proofs.lemmas.Bool.{cases_lt}
use Rattle.std.proofs.Math.Nat.{mul-le-mul_left}
use Rattle.std.proofs.lemmas.List.{length-append, get_or_append_left, get_or-append_right}
use Rattle.std.proofs.lemmas.List.Elements.{All-cons, All-tail}
use Rattle.std.proofs.lemmas.List.Sums.{sum_by-cons}
use Rattle.teg_net.specs.declared.entries.PlaceId.{PlaceId}
use Rattle.teg_net.specs.Nets.{NetLists}
use Rattle.teg_net.specs.Circuits.{place_at, from_of, IsPathBetween, IsCircuit, time_of, tokens_of}
use Rattle.teg_net.specs.Parts.{to_of}
use Rattle.teg_net.proofs.PathLaws.{no_id}
use Rattle.teg_loops.specs.Loops.{EndsBelow, HasLoop}
use Rattle.teg_loops.proofs.Straight.{looped}
use Rattle.delay_laws.specs.declared.table.Timetable.{Timetable}
use Rattle.delay_laws.specs.PlannedTimetables.{first_planned}
use Rattle.delay_laws.specs.DelayOutcomes.{HasNoSpare}

-- along places without spare time the time is that of the plan
pub no_spare_along : (net : NetLists) (period : ℕ) (t : Timetable) (ps : List PlaceId) (i j : ℕ) → IsPathBetween net i ps j → All (λ p. HasNoSpare net period t p) ps
    → first_planned t i + time_of net ps ≡ first_planned t j + period * tokens_of net ps
no_spare_along net period t [] i j h all = let e : first_planned t i ≡ first_planned t j = ap (first_planned t) h in omega arith
no_spare_along net period t (p ∷ ps) i j h all =
    let here : HasNoSpare net period t p = all 0 no_id (omega arith) in
    let same = here.same in
    let rest = no_spare_along net period t ps (place_at net p).to.index j h.2 (All-tail (λ q. HasNoSpare net period t q) p ps all) in
    let from : first_planned t (from_of net p) ≡ first_planned t i = ap (first_planned t) h.1 in
    let time = sum_by-cons (λ q. (place_at net q).hold) p ps in
    let tokens : tokens_of net (p ∷ ps) ≡ (place_at net p).tokens + tokens_of net ps = sum_by-cons (λ q. (place_at net q).tokens) p ps in
    let product : period * tokens_of net (p ∷ ps) ≡ period * (place_at net p).tokens + period * tokens_of net ps = rw tokens (grind arith) in
    omega arith

-- a set of transitions into each of which a good place leads from one of the set
pub record IsFed (net : NetLists) (Good : PlaceId → Type 0) (Member : ℕ → Type 0) : Type 0 where
  pub feeds : (i : ℕ) → Member i → (p : PlaceId) × (p.index < length net.places) × (to_of net p ≡ i) × Good p × Member (from_of net p)

record GrownBack (net : NetLists) (Good : PlaceId → Type 0) (Member : ℕ → Type 0) (n i : ℕ) : Type 0 where
  from : ℕ
  places : List PlaceId
  member : Member from
  path : IsPathBetween net from places i
  long : length places ≡ n
  good : All (λ p. Good p × Member (from_of net p)) places

grown_back : (net : NetLists) (Good : PlaceId → Type 0) (Member : ℕ → Type 0) → IsFed net Good Member → (n i : ℕ) → Member i → GrownBack net Good Member n i
grown_back net Good Member fed zero i m = record { from = i; places = []; member = m; path = refl; long = refl; good = λ k d l. absurd (omega arith) }
grown_back net Good Member fed (suc n) i m =
    let old : GrownBack net Good Member n i = grown_back net Good Member fed n i m in
    let one = fed.feeds old.from old.member in
    let far = old.long in
    record {
      from = from_of net one.0;
      places = one.0 ∷ old.places;
      member = one.4;
      path = (one.1, refl, subst (λ (z : ℕ). IsPathBetween net z old.places i) (sym one.2) old.path);
      long = omega arith;
      good = All-cons (λ p. Good p × Member (from_of net p)) one.0 old.places (one.3, one.4) old.good;
    }

pub all_first : (P : PlaceId → Type 0) (xs ys : List PlaceId) → All P (xs ++ ys) → All P xs
all_first P xs ys all i d l = subst P (get_or_append_left xs ys d i l) (all i d (omega (arith, length-append xs ys)))

pub all_second : (P : PlaceId → Type 0) (xs ys : List PlaceId) → All P (xs ++ ys) → All P ys
all_second P xs ys all i d l =
    let e : (length xs + i) - length xs ≡ i = omega arith in
    subst P (get_or-append_right xs ys (length xs) (length xs + i) d refl (omega arith) ∙ ap (λ (z : ℕ). get_or ys z d) e) (all (length xs + i) d (omega (arith, length-append xs ys)))

pub record IsGoodCircuit (net : NetLists) (Good : PlaceId → Type 0) (Member : ℕ → Type 0) (places : List PlaceId) : Type 0 where
  pub circuit : IsCircuit net places
  pub good : All (λ p. Good p × Member (from_of net p)) places

-- such a set has a circuit of good places
pub fed_circuit : (net : NetLists) (n : ℕ) (Good : PlaceId → Type 0) (Member : ℕ → Type 0) → EndsBelow net n → IsFed net Good Member → (i : ℕ) → i < n → Member i
    → (ps : List PlaceId) × IsGoodCircuit net Good Member ps
fed_circuit net n Good Member e fed i l m =
    let g : GrownBack net Good Member n i = grown_back net Good Member fed n i m in
    let long = g.long in
    let h : HasLoop net g.from i g.places = looped net n g.places g.from i e l g.path (omega arith) in
    let all : All (λ p. Good p × Member (from_of net p)) (h.before ++ (h.loop ++ h.after)) = subst (All (λ p. Good p × Member (from_of net p))) h.is g.good in (
      h.loop,
      record {
        circuit = h.circuit;
        good = all_first (λ p. Good p × Member (from_of net p)) h.loop h.after (all_second (λ p. Good p × Member (from_of net p)) h.before (h.loop ++ h.after) all);
      },
    )

-- dates that stay between a plan and the plan and D go on by the plan's own step
pub same_step : (x d s t D : ℕ) → ((r : ℕ) → d + r * t ≤ x + r * s) → ((r : ℕ) → x + r * s ≤ d + r * t + D) → s ≡ t
same_step x d s t D low high =
    let one = low 0 in
    let two = high 0 in
    ⊎_elim
    (λ (less : s < t).
    let three = low (D + 1) in
    let four : (D + 1) * (s + 1) ≤ (D + 1) * t = mul-le-mul_left {m = s + 1} {n = t} (D + 1) (omega arith) in
    let five : (D + 1) * (s + 1) ≡ (D + 1) * s + (D + 1) = grind arith in
    absurd (omega arith))
    (λ (more : t ≤ s). ⊎_elim
    (λ (less : t < s).
    let three = high (D + 1) in
    let four : (D + 1) * (t + 1) ≤ (D + 1) * s = mul-le-mul_left {m = t + 1} {n = s} (D + 1) (omega arith) in
    let five : (D + 1) * (t + 1) ≡ (D + 1) * t + (D + 1) = grind arith in
    absurd (omega arith))
    (λ (same : s ≤ t). omega arith)
    (cases_lt t s))
    (cases_lt s t)
