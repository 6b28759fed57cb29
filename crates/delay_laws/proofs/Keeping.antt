-- Delays die out, or a circuit without spare time keeps them.
use Rattle.std.proofs.Common.{ℕ, zero, suc, ◌+◌, ◌-◌, ◌*◌, ◌<◌, ◌≤◌, ◌≡◌, List, ◌++◌, length, get_or, take, drop, refl, sym, ap, subst, arith, ⊎_elim, inl, inr}
use Rattle.std.specs.Prelude.{All, ◌⊎◌}
use Rattle.std.proofs.lemmas.Bool.{cases_lt}
use Rattle.std.proofs.Math.Nat.{mul-le-mul_left}
use Rattle.std.proofs.lemmas.List.{take-append-drop, get_or_default}
use Rattle.std.proofs.lemmas.List.Elements.{All-append}
use Rattle.teg_net.specs.declared.entries.PlaceId.{PlaceId}
use Rattle.teg_net.specs.Nets.{NetLists}
use Rattle.teg_net.specs.Circuits.{from_of, IsCircuit}
use Rattle.teg_net.specs.Paths.{IsLowestAt}
use Rattle.teg_net.proofs.PathLaws.{IsPathBetween-in_range, no_id}
use Rattle.teg_net.proofs.Turning.{turned, turned_circuit, turned_lowest}
use Rattle.periodic_laws.specs.teg_model.LiveRanks.{HasEndsInRange}
use Rattle.teg_loops.proofs.Ends.{ends_below}
use Rattle.delay_laws.specs.DelayOutcomes.{HasNoSpare, HasDelayPast, IsGreatestPast}
use Rattle.delay_laws.specs.OutcomeLaws.{DelaysDieOut, CircuitsKeepDelays, DelaysDieOutOrAreKept, NoDelaysDieOutAndAreKept, IsPassedOn}
use Rattle.delay_laws.proofs.Passing.{comes_on, most_past}
use Rattle.delay_laws.proofs.PassedOn.{greatest_delays_are_passed_on}
use Rattle.delay_laws.proofs.Spare.{no_spare_along, IsFed, IsGoodCircuit, fed_circuit, all_first, all_second}

-- ---- they die out

pub delays_die_out : DelaysDieOut
delays_die_out net period t delay after again settled none last before late = record {
  none_after = λ i k l m.
      ⊎_elim
      (λ (far : after < k). let low = most_past net period t delay after again settled 0 none i k l far in omega arith)
      (λ (near : k ≤ after). before i k l m near)
      (cases_lt after k);
  last = late;
}

-- ---- they are kept

-- a place of a circuit leaves a transition of the net
pub circuit_within : (net : NetLists) (ps : List PlaceId) → HasEndsInRange net → IsCircuit net ps → All (λ p. from_of net p < length net.transitions) ps
circuit_within net ps ends c i d l =
    let id : PlaceId = get_or ps i d in
    (ends id.index _ (IsPathBetween-in_range net ps c.closed.0 c.closed.0 c.closed.1 i d l)).0

pub circuits_keep_delays : CircuitsKeepDelays
circuits_keep_delays net period t ends delay after again settled most one ps c lowest spare has =
    let along = no_spare_along net period t ps c.closed.0 c.closed.0 c.closed.1 spare in
    record {
      is_circuit = c;
      lowest_first = lowest;
      no_spare = omega arith;
      late = λ i d l bound.
          let id : PlaceId = get_or ps i d in
          let own = has i d l in
          let some = settled.some in
          let is = own.is in
          let rounds : (bound + 1) * 1 ≤ (bound + 1) * again = mul-le-mul_left {m = 1} {n = again} (bound + 1) some in
          let same = comes_on net period t delay after again settled (from_of net id) own.number (bound + 1) (circuit_within net ps ends c i d l) own.past in
          (own.number + (bound + 1) * again, omega arith, omega arith);
    }

pub no_delays_die_out_and_are_kept : NoDelaysDieOutAndAreKept
no_delays_die_out_and_are_kept net ends period delay last ps r k =
    let some = k.is_circuit.not_empty in
    let late = k.late 0 no_id some last in
    let none = r.none_after (from_of net (get_or ps 0 no_id)) late.0 (circuit_within net ps ends k.is_circuit 0 no_id some) late.1 in
    let is = late.2 in
    omega arith

-- ---- one of the two

-- the greatest of the first numbers
record HasGreatest (f : ℕ → ℕ) (count : ℕ) : Type 0 where
  at : ℕ
  within : at < count
  greatest : (j : ℕ) → j < count → f j ≤ f at

greatest_of : (f : ℕ → ℕ) (n : ℕ) → HasGreatest f (suc n)
greatest_of f zero = record { at = 0; within = omega arith; greatest = λ j l. let e : j ≡ 0 = omega arith in rw e (omega arith) }
greatest_of f (suc n) =
    let g = greatest_of f n in
    let within = g.within in
    ⊎_elim
    (λ (l : f g.at < f (suc n)). record {
      at = suc n;
      within = omega arith;
      greatest = λ j m. ⊎_elim
          (λ (q : j < suc n). let low = g.greatest j q in omega arith)
          (λ (q : suc n ≤ j). let e : j ≡ suc n = omega arith in rw e (omega arith))
          (cases_lt j (suc n));
    })
    (λ (l : f (suc n) ≤ f g.at). record {
      at = g.at;
      within = omega arith;
      greatest = λ j m. ⊎_elim
          (λ (q : j < suc n). g.greatest j q)
          (λ (q : suc n ≤ j). let e : j ≡ suc n = omega arith in rw e l)
          (cases_lt j (suc n));
    })
    (cases_lt (f g.at) (f (suc n)))

-- the greatest of a table of rows
record HasGreatestIn (f : ℕ → ℕ → ℕ) (rows columns : ℕ) : Type 0 where
  row : ℕ
  column : ℕ
  row_in : row < rows
  column_in : column < columns
  greatest : (i j : ℕ) → i < rows → j < columns → f i j ≤ f row column

greatest_in : (f : ℕ → ℕ → ℕ) (m n : ℕ) → HasGreatestIn f (suc m) (suc n)
greatest_in f m n =
    let each : (i : ℕ) → HasGreatest (f i) (suc n) = λ i. greatest_of (f i) n in
    let best = greatest_of (λ i. f i (each i).at) m in
    record {
      row = best.at;
      column = (each best.at).at;
      row_in = best.within;
      column_in = (each best.at).within;
      greatest = λ i j l o. let one = (each i).greatest j o in let two = best.greatest i l in omega arith;
    }

-- the last number up to one at which a transition is late
last_late : (net : NetLists) (delay : ℕ → ℕ → ℕ) → 1 ≤ length net.transitions → (after : ℕ)
    → (last : ℕ) × ((i k : ℕ) → i < length net.transitions → last < k → k ≤ after → delay i k ≡ 0) × ((last ≡ 0) ⊎ ((i : ℕ) × (i < length net.transitions) × (1 ≤ delay i last)))
last_late net delay some zero = (0, λ i k l m n. absurd (omega arith), inl refl)
last_late net delay some (suc after) =
    let n : ℕ = length net.transitions in
    let e : suc (n - 1) ≡ n = omega arith in
    let g = greatest_of (λ i. delay i (suc after)) (n - 1) in
    let within = g.within in
    ⊎_elim
    (λ (late : 0 < delay g.at (suc after)). (suc after, λ i k l m o. absurd (omega arith), inr (g.at, omega arith, late)))
    (λ (none : delay g.at (suc after) ≤ 0).
    let rest = last_late net delay some after in (
      rest.0,
      λ i k l m o. ⊎_elim
          (λ (q : k < suc after). rest.1 i k l m (omega arith))
          (λ (q : suc after ≤ k). let e' : k ≡ suc after = omega arith in let low = g.greatest i (omega arith) in rw e' (omega arith))
          (cases_lt k (suc after)),
      rest.2,
    ))
    (cases_lt 0 (delay g.at (suc after)))

-- a circuit can be told from its lowest transition on, with what holds of its places
lowest_of : (net : NetLists) (n : ℕ) (ps : List PlaceId) → 0 < length ps → All (λ p. from_of net p < n) ps → (k : ℕ) × IsLowestAt net ps k
lowest_of net n ps some within =
    let e : suc (length ps - 1) ≡ length ps = omega arith in
    let g = greatest_of (λ i. n - from_of net (get_or ps i no_id)) (length ps - 1) in
    let in' = g.within in (
      g.at,
      (
        omega arith,
        λ i d l.
            let p : PlaceId = get_or ps i d in
            let low = g.greatest i (omega arith) in
            let one : from_of net (get_or ps g.at no_id) ≡ from_of net (get_or ps g.at p) = ap (from_of net) (get_or_default ps g.at no_id p (omega arith)) in
            let two : from_of net (get_or ps i no_id) ≡ from_of net p = ap (from_of net) (get_or_default ps i no_id d l) in
            let below = within i d l in
            let below' = within g.at no_id (omega arith) in
            omega arith,
      ),
    )

turned_all : (P : PlaceId → Type 0) (ps : List PlaceId) (k : ℕ) → All P ps → All P (turned ps k)
turned_all P ps k all =
    let whole : All P (take k ps ++ drop k ps) = subst (All P) (sym (take-append-drop k ps)) all in
    All-append P (drop k ps) (take k ps) (all_second P (take k ps) (drop k ps) whole) (all_first P (take k ps) (drop k ps) whole)

pub delays_die_out_or_are_kept : DelaysDieOutOrAreKept
delays_die_out_or_are_kept net ends live period some t work delay after again settled =
    let n : ℕ = length net.transitions in
    let turns = settled.some in
    ⊎_elim
    (λ (l : 0 < n).
    let rows : suc (n - 1) ≡ n = omega arith in
    let columns : suc (again - 1) ≡ again = omega arith in
    let g = greatest_in (λ i j. delay i (after + 1 + j)) (n - 1) (again - 1) in
    let row_in = g.row_in in
    let column_in = g.column_in in
    let most : ℕ = delay g.row (after + 1 + g.column) in
    let greatest : IsGreatestPast net delay after again most = λ i k m a b.
    let e : after + 1 + (k - after - 1) ≡ k = omega arith in
    let low = g.greatest i (k - after - 1) (omega arith) (omega arith) in
    let same : delay i (after + 1 + (k - after - 1)) ≡ delay i k = ap (delay i) e in
    omega arith in
    ⊎_elim
    (λ (late : 0 < most).
    let Good : PlaceId → Type 0 = λ p. HasNoSpare net period t p in
    let Member : ℕ → Type 0 = λ j. (j < n) × HasDelayPast delay after again most j in
    let fed : IsFed net Good Member = record {
      feeds = λ i m.
          let p = greatest_delays_are_passed_on net ends live period some t work delay after again settled most late greatest i m.0 m.1 in
          let id : PlaceId = p.0 in
          let own : IsPassedOn net period t delay after again most i id = p.1 in
          (id, own.place, own.to, own.no_spare, ((ends id.index _ own.place).0, own.from));
    } in
    let first : Member g.row = (omega arith, record { number = after + 1 + g.column; past = omega arith; within = omega arith; is = refl }) in
    let c = fed_circuit net n Good Member (ends_below net ends) fed g.row (omega arith) first in
    let own : IsGoodCircuit net Good Member c.0 = c.1 in
    let low = lowest_of net n c.0 own.circuit.not_empty (circuit_within net c.0 ends own.circuit) in
    let all : All (λ p. Good p × Member (from_of net p)) (turned c.0 low.0) = turned_all (λ p. Good p × Member (from_of net p)) c.0 low.0 own.good in
    inr (
      turned c.0 low.0,
      circuits_keep_delays net period t ends delay after again settled most late (turned c.0 low.0)
          (turned_circuit net c.0 low.0 (omega (arith, low.1.0)) own.circuit) (turned_lowest net c.0 low.0 low.1) (λ i d m. (all i d m).0) (λ i d m. (all i d m).1.1),
    ))
    (λ (none : most ≤ 0).
    let last = last_late net delay l after in
    inl (last.0, delays_die_out net period t delay after again settled (λ i k m a b. let low = greatest i k m a b in omega arith) last.0 last.1 last.2))
    (cases_lt 0 most))
    (λ (l : n ≤ 0). inl (0, record { none_after = λ i k m o. absurd (omega arith); last = inl refl }))
    (cases_lt 0 n)
