-- The pass over the places that makes the row of a number, and what the row is after it.
use Rattle.std.proofs.Common.{ℕ, ◌+◌, ◌-◌, ◌<◌, ◌≤◌, ◌≡◌, ◌≢◌, List, [], false, length, get_or, set, refl, ap, ◌∙◌, arith, ⊎_elim}
use Rattle.std.specs.Prelude.{Contains, nat_eq}
use Rattle.std.proofs.lemmas.Bool.Decides.{nat_tests}
use Rattle.std.proofs.lemmas.Bool.{cases_eq, cases_lt}
use Rattle.std.proofs.lemmas.List.{length-set, get_or-set_same, get_or-set_other, get_or_default}
use Rattle.dioid.specs.declared.dates.Date.{Date}
use Rattle.dioid.specs.declared.dates.Date.TheVariants.{Early}
use Rattle.dioid.specs.Dates.{IsAtMostDate, later_of}
use Rattle.dioid.proofs.DateOrder.{at_most_refl, at_most_trans, same_by_at_most, later_left, later_right, later_least}
use Rattle.teg_net.specs.declared.entries.Place.{Place}
use Rattle.teg_net.specs.Nets.{NetLists, IsNet}
use Rattle.teg_net.specs.Circuits.{no_place, place_at}
use Rattle.teg_model.specs.Systems.{available_in, IsLeastIn}
use Rattle.teg_model.specs.Datings.{implicit_place, system_with}
use Rattle.teg_model.proofs.LeastOver.{tight_in}
use Rattle.teg_model.proofs.OfNet.{all_extended, extended_has, implicit_is, ranks_extended}
use Rattle.teg_model.proofs.Tokens.{available_same}
use Rattle.teg_check.specs.Ranks.{IsRanking}
use Rattle.teg_model.proofs.DateFunctions.{Dating, InitialDates}
use Rattle.date_rows.specs.declared.order.OrderedPlace.{OrderedPlace}
use Rattle.date_rows.specs.PlaceOrder.{IsRankedPlace, IsPlaceOrder, order_key, turn_at}
use Rattle.date_rows.specs.Passes.{seen_at, KeptRows, AreRowsBack, ReachesBack, HasBegun, IsRowOf}
use Rattle.date_rows.proofs.Ranking.{rank_of, ranks_of}
use Rattle.date_rows.proofs.Seeing.{seen_before, seen_here}

-- the row when the pass has come to place i: its dates are not too late, and not before what the places so far need
pub record FilledTo (net : NetLists) (init : InitialDates) (rel : Dating) (x : Dating) (k : ℕ) (order : List OrderedPlace) (row : List Date) (i : ℕ) : Type 0 where
  pub full : length row ≡ length net.transitions
  pub below : (t : ℕ) → t < length net.transitions → IsAtMostDate (get_or row t Early) (x t k)
  pub released : (t : ℕ) → t < length net.transitions → IsAtMostDate (rel t k) (get_or row t Early)
  pub own : (t : ℕ) → t < length net.transitions → IsAtMostDate (available_in init x (implicit_place t) k) (get_or row t Early)
  pub done : (j : ℕ) (d : OrderedPlace) → j < length order → j < i
      → IsAtMostDate (available_in init x (place_at net (get_or order j d).place) k) (get_or row (place_at net (get_or order j d).place).to.index Early)

-- where each place that leads to t is done, the date at t is the least
final :
    (net : NetLists) (init : InitialDates) (rel : Dating) (ranks : List ℕ) (x : Dating) (k : ℕ) (order : List OrderedPlace) (row : List Date) (i : ℕ)
    → IsNet net → IsRanking net ranks → IsLeastIn (system_with net init rel) x → 1 ≤ k → FilledTo net init rel x k order row i
    → (t : ℕ) → t < length net.transitions
    → ((q : ℕ) → q < length net.places → (get_or net.places q no_place).to.index ≡ t → IsAtMostDate (available_in init x (get_or net.places q no_place) k) (get_or row t Early))
    → get_or row t Early ≡ x t k
final net init rel ranks x k order row i ok r h o s t l all =
    let z : Date = get_or row t Early in
    same_by_at_most z (x t k) (s.below t l)
    (tight_in (system_with net init rel) 400 (rank_of ranks) x (ranks_extended net 400 (rank_of ranks) (ranks_of net ranks ok r)) h t k z o
    (all_extended net (λ p. p.to.index ≡ t → IsAtMostDate (available_in init x p k) z)
    (λ q d m e. let read = get_or_default net.places q d no_place m in rw read (all q m (rw read at e)))
    (λ u e. rw e (s.own t l)))
    (s.released t l))

-- a turn is at most the rank of the downstream transition, and just that where there is no token
turn_most : (ranks : List ℕ) (p : Place) → order_key ranks p ≤ get_or ranks p.to.index 0
turn_most ranks p =
    ⊎_elim
    (λ (z : p.tokens ≡ 0). rw z (omega arith))
    (λ (z : p.tokens ≢ 0). let test : nat_eq p.tokens 0 ≡ false = grind (arith, nat_tests) in rw test (omega arith))
    (cases_eq p.tokens 0)

turn_free : (ranks : List ℕ) (p : Place) → p.tokens ≡ 0 → order_key ranks p ≡ get_or ranks p.to.index 0
turn_free ranks p z = rw z refl

-- the places that lead to where a token-free place begins are done before it
done_before :
    (net : NetLists) (init : InitialDates) (rel : Dating) (ranks : List ℕ) (x : Dating) (k : ℕ) (order : List OrderedPlace) (row : List Date) (i : ℕ)
    → IsPlaceOrder net ranks order → FilledTo net init rel x k order row i → (t : ℕ)
    → (i < length order → (d : OrderedPlace) → get_or ranks t 0 < (get_or order i d).turn)
    → (q : ℕ) → q < length net.places → (get_or net.places q no_place).to.index ≡ t
    → IsAtMostDate (available_in init x (get_or net.places q no_place) k) (get_or row t Early)
done_before net init rel ranks x k order row i ord s t low q m e =
    let o : OrderedPlace = turn_at net ranks q in
    let c : Contains order o = ord.all q m in
    let early : c.0 < i =
    ⊎_elim (λ (l : c.0 < i). l)
    (λ (l : i ≤ c.0).
    let up = ord.sorted i c.0 o l c.1 in
    let turn_is : (get_or order c.0 o).turn ≡ order_key ranks (get_or net.places q no_place) = ap (λ z. z.turn) c.2 in
    let most = turn_most ranks (get_or net.places q no_place) in
    let rank_is : get_or ranks (get_or net.places q no_place).to.index 0 ≡ get_or ranks t 0 = ap (λ z. get_or ranks z 0) e in
    let under = low (omega (arith, c.1)) o in
    absurd (omega arith))
    (cases_lt c.0 i) in
    rw (c.2, e) at (s.done c.0 o c.1 early)

-- the date that a place takes is there when the pass comes to it
pub source_is :
    (net : NetLists) (init : InitialDates) (rel : Dating) (ranks : List ℕ) (x : Dating) (k : ℕ) (rows : KeptRows) (order : List OrderedPlace) (row : List Date) (i : ℕ) (p : Place)
    → IsNet net → IsRanking net ranks → IsLeastIn (system_with net init rel) x → IsPlaceOrder net ranks order → 1 ≤ k → AreRowsBack net x k rows → FilledTo net init rel x k order row i
    → p.from.index < length net.transitions → (p.tokens ≡ 0 → i < length order → (d : OrderedPlace) → get_or ranks p.from.index 0 < (get_or order i d).turn)
    → p.tokens < k → p.tokens ≤ rows.kept → seen_at rows.back row k p.from.index (k - p.tokens) ≡ x p.from.index (k - p.tokens)
source_is net init rel ranks x k rows order row i p ok r h ord o past s from low l near =
    ⊎_elim
    (λ (z : p.tokens ≡ 0).
    let at : k - p.tokens ≡ k = omega arith in
    rw at (seen_here rows.back row k p.from.index ∙ final net init rel ranks x k order row i ok r h o s p.from.index from (done_before net init rel ranks x k order row i ord s p.from.index (low z))))
    (λ (z : p.tokens ≢ 0). seen_before rows.back row k p.from.index p.tokens (omega arith) l ∙ past.same p.from.index p.tokens from (omega arith) near)
    (cases_eq p.tokens 0)

-- the rank of where a token-free place begins is lower than that of the place
pub lower_before :
    (net : NetLists) (ranks : List ℕ) (order : List OrderedPlace) (i : ℕ) (e : OrderedPlace) → IsRanking net ranks → IsPlaceOrder net ranks order → i < length order
    → (place_at net (get_or order i e).place).tokens ≡ 0 → i < length order → (d : OrderedPlace) → get_or ranks (place_at net (get_or order i e).place).from.index 0 < (get_or order i d).turn
lower_before net ranks order i e r ord l z m d =
    let known : IsRankedPlace net ranks (get_or order i e) = ord.known i e l in
    let up = r.rises (get_or order i e).place.index no_place known.place.in_range z in
    let same = ap (λ o. o.turn) (get_or_default order i d e l) in
    let free = turn_free ranks (place_at net (get_or order i e).place) z in
    omega (arith, known.turn, free, up, same)

-- one more place is done
pub filled_more :
    (net : NetLists) (init : InitialDates) (rel : Dating) (x : Dating) (k : ℕ) (order : List OrderedPlace) (row : List Date) (i : ℕ) (o : OrderedPlace) (to : ℕ) (date before : Date)
    → IsLeastIn (system_with net init rel) x → 1 ≤ k → FilledTo net init rel x k order row i → i < length order → ((d : OrderedPlace) → get_or order i d ≡ o)
    → (place_at net o.place).to.index ≡ to → to < length net.transitions → o.place.index < length net.places
    → date ≡ available_in init x (place_at net o.place) k → before ≡ get_or row to Early
    → FilledTo net init rel x k order (set row to (later_of before date)) (i + 1)
filled_more net init rel x k order row i o to date before h one s in' at to_is to_in known is was =
    let new : Date = later_of before date in
    let fresh : List Date = set row to new in
    let room : to < length row = omega (arith, s.full) in
    let here : get_or fresh to Early ≡ new = get_or-set_same row to new Early room in
    let grows : (t : ℕ) → IsAtMostDate (get_or row t Early) (get_or fresh t Early) =
    λ t. ⊎_elim
    (λ (q : t ≡ to). rw (q, here, ← was) (later_left before date))
    (λ (q : t ≢ to). rw (get_or-set_other row to t new Early q) (at_most_refl (get_or row t Early)))
    (cases_eq t to) in
    let needed : IsAtMostDate (available_in init x (place_at net o.place) k) (x (place_at net o.place).to.index k) =
    extended_has net (λ p. IsAtMostDate (available_in init x p k) (x p.to.index k)) (λ j m. h.feasible.places k one j no_place m) o.place.index known in
    record {
      full = length-set row to new ∙ s.full;
      below = λ t l. ⊎_elim
          (λ (q : t ≡ to). rw (q, here) (later_least before date (x to k) (rw (← was) at (s.below to to_in)) (rw (is, ← to_is) needed)))
          (λ (q : t ≢ to). rw (get_or-set_other row to t new Early q) (s.below t l))
          (cases_eq t to);
      released = λ t l. at_most_trans (rel t k) (get_or row t Early) (get_or fresh t Early) (s.released t l) (grows t);
      own = λ t l. at_most_trans (available_in init x (implicit_place t) k) (get_or row t Early) (get_or fresh t Early) (s.own t l) (grows t);
      done = λ j d m n. ⊎_elim
          (λ (q : j < i).
          at_most_trans (available_in init x (place_at net (get_or order j d).place) k)
          (get_or row (place_at net (get_or order j d).place).to.index Early) (get_or fresh (place_at net (get_or order j d).place).to.index Early)
          (s.done j d m q) (grows (place_at net (get_or order j d).place).to.index))
          (λ (q : i ≤ j). let j_is : j ≡ i = omega arith in rw (j_is, at d, to_is, here, ← is) (later_right before date))
          (cases_lt j i);
    }

-- how the pass begins
pub filled_begins :
    (net : NetLists) (init : InitialDates) (rel : Dating) (x : Dating) (k : ℕ) (rows : KeptRows) (order : List OrderedPlace) (row : List Date)
    → IsLeastIn (system_with net init rel) x → 1 ≤ k → ReachesBack net k rows → AreRowsBack net x k rows → HasBegun net (system_with net init rel) rows.back k row
    → FilledTo net init rel x k order row 0
filled_begins net init rel x k rows order row h o reach past s =
    let w : ℕ = length net.transitions in
    let same : (t : ℕ) → t < w → available_in init (seen_at rows.back [] k) (implicit_place t) k ≡ available_in init x (implicit_place t) k =
    λ t l. available_same init (seen_at rows.back [] k) x (implicit_place t) k (λ m. seen_before rows.back [] k t 1 (omega arith) m ∙ past.same t 1 l (omega arith) (reach.last m)) in
    let begun : (t : ℕ) → t < w → get_or row t Early ≡ later_of (available_in init x (implicit_place t) k) (rel t k) =
    λ t l. s.begun t l ∙ ap (λ z. later_of z (rel t k)) (same t l) in
    let own : (t : ℕ) → t < w → IsAtMostDate (available_in init x (implicit_place t) k) (x t k) =
    λ t l. let i = implicit_is net t l in rw i.2 at (h.feasible.places k o i.0 no_place i.1) in
    record {
      full = s.full;
      below = λ t l. rw (begun t l) (later_least (available_in init x (implicit_place t) k) (rel t k) (x t k) (own t l) (h.feasible.releases t k o));
      released = λ t l. rw (begun t l) (later_right (available_in init x (implicit_place t) k) (rel t k));
      own = λ t l. rw (begun t l) (later_left (available_in init x (implicit_place t) k) (rel t k));
      done = λ j d m n. absurd (omega arith);
    }

-- after the pass the row is that of number k
pub filled_is :
    (net : NetLists) (init : InitialDates) (rel : Dating) (ranks : List ℕ) (x : Dating) (k : ℕ) (order : List OrderedPlace) (row : List Date)
    → IsNet net → IsRanking net ranks → IsLeastIn (system_with net init rel) x → IsPlaceOrder net ranks order → 1 ≤ k → FilledTo net init rel x k order row (length order)
    → IsRowOf net x k row
filled_is net init rel ranks x k order row ok r h ord o s = record {
  full = s.full;
  same = λ t l. final net init rel ranks x k order row (length order) ok r h o s t l (done_before net init rel ranks x k order row (length order) ord s t (λ n. absurd (omega arith)));
}
