-- The loop of `stars_of`, and what a cell of the times says.
use Rattle.std.proofs.Common.{ℕ, ℤ, pos, ◌+◌, ◌*◌, ◌/◌, ◌%◌, ◌<◌, ◌≤◌, ◌≡◌, ◌≢◌, ◌⊎◌, ◌^◌, FitsSigned, unsigned_abs, nat_abs, to_z, of_z, to_z-of_z}
use Rattle.std.proofs.Common.{List, [], ◌∷◌, ◌++◌, length, get_or, refl, sym, ap, subst, ◌∙◌, arith, ⊎_elim, inl, inr, mod-lt}
use Rattle.std.specs.Prelude.{All, Any, AllPairs}
use Rattle.std.specs.Int.{w128}
use Rattle.std.proofs.lemmas.Bool.{cases_lt}
use Rattle.std.proofs.lemmas.Grind.{common_steps}
use Rattle.std.proofs.lemmas.Int.{ints, fits_signed_from_abs}
use Rattle.std.proofs.lemmas.Nat.{div-add-mod'}
use Rattle.std.proofs.lemmas.List.Elements.{All-push}
use Rattle.std.proofs.lemmas.List.Quantifiers.{Any-push, all_pairs_push}
use Rattle.dioid.specs.declared.dates.Date.{Date}
use Rattle.dioid.specs.declared.dates.Date.TheVariants.{Early, At}
use Rattle.dioid.specs.Dates.{IsAtMostDate}
use Rattle.dioid_matrix.specs.Tables.{Table}
use Rattle.teg_net.specs.declared.entries.Place.{Place}
use Rattle.teg_net.specs.declared.entries.PlaceId.{PlaceId}
use Rattle.std.proofs.lemmas.List.{get_or_read}
use Rattle.teg_net.specs.Nets.{NetLists, IsNet}
use Rattle.teg_net.specs.Circuits.{no_place, place_at, IsPathBetween}
use Rattle.teg_net.specs.Limits.{greatest_circuit_time}
use Rattle.teg_form.specs.declared.stars.StarEntry.{StarEntry}
use Rattle.teg_form.specs.StandardForms.{IsTimeOfFreePath, IsGreatestTime, IsStarEntry, IsStarBefore, AreStars}
use Rattle.teg_form.specs.Times.{cell, IsTimeBetween, AreFreeTimes, IsTimeFrom}
use Rattle.teg_form.proofs.Cells.{cell_in, earlier_cell, one_cell}

-- the number that a cell holds is the greatest time
pub record IsTimeHeld (net : NetLists) (a b : ℕ) (x : ℤ) : Type 0 where
  pub time : ℕ
  pub is : x ≡ pos time
  pub few : time ≤ greatest_circuit_time
  pub greatest : IsGreatestTime (IsTimeOfFreePath net a b) time

pub time_held : (net : NetLists) (times : Table Date) (a b : ℕ) (x : ℤ) → AreFreeTimes net times → a < length net.transitions → b < length net.transitions
    → cell times.entries times.columns a b ≡ At x → IsTimeHeld net a b x
time_held net times a b x h ha hb e =
    let s : IsTimeBetween net a b (At x) = subst (IsTimeBetween net a b) e (h.sound a b ha hb) in
    record {
      time = s.0;
      is = s.2;
      few = s.3;
      greatest = record {
        reached = s.1;
        greatest = λ other p.
            let most : IsAtMostDate (At (pos other)) (At x) = subst (IsAtMostDate (At (pos other))) e (h.complete a b other ha p) in
            let q : x ≡ pos s.0 = s.2 in
            omega (arith, ints, most, q);
      };
    }

-- a cell holds a number where there is a path
pub some_held : (net : NetLists) (times : Table Date) (a b time : ℕ) → AreFreeTimes net times → a < length net.transitions → IsTimeOfFreePath net a b time
    → cell times.entries times.columns a b ≢ Early
some_held net times a b time h ha p e = subst (IsAtMostDate (At (pos time))) e (h.complete a b time ha p)

-- the ends of a path without tokens are transitions of the net, where its start is
pub end_in : (net : NetLists) (ps : List PlaceId) (a b : ℕ) → IsNet net → a < length net.transitions → IsPathBetween net a ps b → b < length net.transitions
end_in net [] a b ok h p = omega (arith, h, p)
end_in net (p ∷ ps) a b ok h w = end_in net ps (place_at net p).to.index b ok (ok.each_place p.index no_place w.0).to_in w.2

pub start_in : (net : NetLists) (ps : List PlaceId) (a b : ℕ) → IsNet net → b ≢ a → IsPathBetween net a ps b → a < length net.transitions
start_in net [] a b ok n p = absurd (n (sym p))
start_in net (p ∷ ps) a b ok n w = omega (arith, w.1, (ok.each_place p.index no_place w.0).from_in)

pub any_more : {X : Type 0} (P : X → Type 0) (xs : List X) (y : X) → Any P xs → Any P (xs ++ y ∷ [])
any_more P xs y (i, d, l, e, p) = (i, d, grind (arith, common_steps), grind (arith, common_steps), p)

-- the number that a cell holds, as the program reads it
pub read_time : (net : NetLists) (a b : ℕ) (x : ℤ) (h : IsTimeHeld net a b x) → nat_abs (to_z w128 (of_z w128 x)) ≡ h.time
read_time net a b x h =
    let fits : FitsSigned w128 (pos h.time) = fits_signed_from_abs w128 (pos h.time) (let g : unsigned_abs (pos h.time) < 2 ^ 127 = omega (arith, h.few) in g) in
    rw (h.is, to_z-of_z fits) refl

pub star_entry_is : (net : NetLists) (times : Table Date) (to from : ℕ) (x : ℤ) → AreFreeTimes net times → to < length net.transitions → from < length net.transitions → to ≢ from
    → cell times.entries times.columns from to ≡ At x
    → IsStarEntry net (record { to = record { index = to }; from = record { index = from }; time = nat_abs (to_z w128 (of_z w128 x)) })
star_entry_is net times to from x h ht hf n e =
    let held = time_held net times from to x h hf ht e in
    record { different = n; time = subst (IsGreatestTime (IsTimeOfFreePath net from to)) (sym (read_time net from to x held)) held.greatest }

abbrev pub joins : ℕ → ℕ → StarEntry → Type 0
joins a b e = (e.to.index ≡ b) × (e.from.index ≡ a)

-- the cell of an entry, by rows of the transitions to which the paths lead
abbrev pub StandsBefore : ℕ → ℕ → StarEntry → Type 0
StandsBefore n pair e = (e.from.index < n) × (e.to.index * n + e.from.index < pair)

pub record StarsUpTo (net : NetLists) (stars : List StarEntry) (pair : ℕ) : Type 0 where
  pub known : All (IsStarEntry net) stars
  pub all : (a b time : ℕ) → a < length net.transitions → b * length net.transitions + a < pair → b ≢ a → IsTimeOfFreePath net a b time → Any (joins a b) stars
  pub before : All (StandsBefore (length net.transitions) pair) stars
  pub sorted : AllPairs IsStarBefore stars

-- what stands at the pair of these numbers
at_pair : (n a b pair : ℕ) → a < n → 0 < n → b * n + a < pair + 1 → (b * n + a < pair) ⊎ ((b ≡ pair / n) × (a ≡ pair % n))
at_pair n a b pair ha hn l = ⊎_elim
    (λ q. inl q)
    (λ (q : pair ≤ b * n + a).
    let whole : pair / n * n + pair % n ≡ pair = div-add-mod' pair n in
    let same : b * n + a ≡ pair / n * n + pair % n = omega (arith, whole) in
    inr (one_cell n b a (pair / n) (pair % n) ha (mod-lt pair hn) same))
    (cases_lt (b * n + a) pair)

-- a pair that gives no entry
pub stars_same : (net : NetLists) (stars : List StarEntry) (pair : ℕ) → 0 < length net.transitions → StarsUpTo net stars pair
    → ((time : ℕ) → pair / length net.transitions ≢ pair % length net.transitions → IsTimeOfFreePath net (pair % length net.transitions) (pair / length net.transitions) time → ⊥)
    → StarsUpTo net stars (pair + 1)
stars_same net stars pair hn h none = record {
  known = h.known;
  all = λ a b time ha l n p. ⊎_elim
      (λ q. h.all a b time ha q n p)
      (λ q.
      let m : ℕ = length net.transitions in
      let other : pair / m ≢ pair % m = λ e. n (q.0 ∙ e ∙ sym q.1) in
      absurd (none time other (subst (λ x. IsTimeOfFreePath net x (pair / m) time) q.1 (subst (λ y. IsTimeOfFreePath net a y time) q.0 p))))
      (at_pair (length net.transitions) a b pair ha hn l);
  before = λ i d l. let w = h.before i d l in (w.0, omega (arith, w.1));
  sorted = h.sorted;
}

pub stars_more : (net : NetLists) (stars : List StarEntry) (pair : ℕ) (e : StarEntry) → 0 < length net.transitions → StarsUpTo net stars pair
    → IsStarEntry net e → e.to.index ≡ pair / length net.transitions → e.from.index ≡ pair % length net.transitions
    → StarsUpTo net (stars ++ e ∷ []) (pair + 1)
stars_more net stars pair e hn h is to from =
    let m : ℕ = length net.transitions in
    let whole : pair / m * m + pair % m ≡ pair = div-add-mod' pair m in
    let column : pair % m < m = mod-lt pair hn in
    let row : e.to.index * m ≡ pair / m * m = ap (λ x. x * m) to in
    record {
      known = All-push (IsStarEntry net) stars e h.known is;
      all = λ a b time ha l n p. ⊎_elim
          (λ q. any_more (joins a b) stars e (h.all a b time ha q n p))
          (λ q. Any-push (joins a b) stars e (to ∙ sym q.0, from ∙ sym q.1))
          (at_pair m a b pair ha hn l);
      before = All-push (StandsBefore m (pair + 1)) stars e (λ i d l. let w = h.before i d l in (w.0, omega (arith, w.1))) (omega (arith, from, column), omega (arith, row, from, whole));
      sorted = all_pairs_push IsStarBefore stars e h.sorted (λ k d l.
          let w = h.before k d l in
          earlier_cell m (get_or stars k d).to.index (get_or stars k d).from.index e.to.index e.from.index w.0 (omega (arith, from, column)) (omega (arith, w.1, row, from, whole)));
    }

pub stars_are : (net : NetLists) (stars : List StarEntry) → IsNet net → StarsUpTo net stars (length net.transitions * length net.transitions) → AreStars net stars
stars_are net stars ok h = record {
  known = h.known;
  all = λ a b time n p.
      let ha = start_in net p.places a b ok n p.path in
      let hb = end_in net p.places a b ok ha p.path in
      h.all a b time ha (cell_in (length net.transitions) b a hb ha) n p;
  sorted = h.sorted;
}

-- the greatest time of the paths that begin with a place, from that of those without tokens that go on
pub time_from : (net : NetLists) (times : Table Date) (id : PlaceId) (to : ℕ) (x : ℤ) (p : Place) → IsNet net → AreFreeTimes net times
    → id.index < length net.places → to < length net.transitions → p ≡ place_at net id
    → cell times.entries times.columns p.to.index to ≡ At x → IsGreatestTime (IsTimeFrom net id to) (p.hold + nat_abs (to_z w128 (of_z w128 x)))
time_from net times id to x p ok h l ht is e =
    let start : (place_at net id).to.index < length net.transitions = (ok.each_place id.index no_place l).to_in in
    let read : cell times.entries times.columns (place_at net id).to.index to ≡ At x = subst (λ q. cell times.entries times.columns q.to.index to ≡ At x) is e in
    let held = time_held net times (place_at net id).to.index to x h start ht read in
    let sum : (place_at net id).hold + held.time ≡ p.hold + nat_abs (to_z w128 (of_z w128 x)) = omega (arith, ap (λ q. q.hold) is, read_time net (place_at net id).to.index to x held) in
    subst (IsGreatestTime (IsTimeFrom net id to)) sum (record {
      reached = record { others = held.time; path = held.greatest.reached; is = refl };
      greatest = λ other w. omega (arith, w.is, held.greatest.greatest w.others w.path);
    })

pub none_from : (net : NetLists) (times : Table Date) (id : PlaceId) (to time : ℕ) (p : Place) → IsNet net → AreFreeTimes net times → id.index < length net.places → p ≡ place_at net id
    → cell times.entries times.columns p.to.index to ≡ Early → IsTimeFrom net id to time → ⊥
none_from net times id to time p ok h l is e w =
    let read : cell times.entries times.columns (place_at net id).to.index to ≡ Early = subst (λ q. cell times.entries times.columns q.to.index to ≡ Early) is e in
    some_held net times (place_at net id).to.index to w.others h (ok.each_place id.index no_place l).to_in w.path read

-- what is read from the places is that place
pub read_place : (net : NetLists) (places : List Place) (q : ℕ) (p : Place) → places ≡ net.places → q < length net.places → p ≡ get_or places q p → p ≡ get_or net.places q no_place
read_place net places q p e l read = rw e at (get_or_read places q p (rw e l) read no_place)
