-- The net of a matrix: its places are the numbers, and its tight potentials are the eigenvectors.
use Rattle.std.proofs.Common.{ℕ, ℤ, zero, suc, pos, ◌+◌, ◌*◌, ◌/◌, ◌%◌, ◌<◌, ◌≤◌, ◌≡◌, List, [], ◌∷◌, ◌++◌, Option, Some, None, length, get_or, refl, sym, subst, ap, ◌∙◌, arith, ⊎_elim, below_more, ◌+ℤ◌, ◌-ℤ◌, ◌*ℤ◌}
use Rattle.std.specs.Prelude.{◌≤ℤ◌, ◌<ℤ◌, ◌≢◌}
use Rattle.std.specs.Int.{int_min}
use Rattle.std.proofs.lemmas.Bool.{cases_lt}
use Rattle.std.proofs.lemmas.Int.{ints, clamps, by_lt_z}
use Rattle.std.proofs.lemmas.Nat.{div-mul-add, mod-mul-add, mul-add-lt, div-add-mod'}
use Rattle.std.proofs.lemmas.List.{length_push, get_or_append_left, get_or_push, get_or_default}
use Rattle.std.proofs.lemmas.List.Elements.{All-push}
use Rattle.std.proofs.lemmas.List.Sums.{sum_by-cons}
use Rattle.dioid.specs.declared.dates.Date.{Date}
use Rattle.dioid.specs.declared.dates.Date.TheVariants.{Early, At}
use Rattle.dioid_matrix.specs.Tables.{Table}
use Rattle.dioid_matrix.proofs.Cells.{row_below}
use Rattle.teg_net.specs.declared.entries.Place.{Place}
use Rattle.teg_net.specs.declared.entries.PlaceId.{PlaceId}
use Rattle.teg_net.specs.Nets.{NetLists, IsNet, IsPlaceOf}
use Rattle.teg_net.specs.Ratios.{Fraction}
use Rattle.teg_net.specs.Circuits.{IsLive, IsPathBetween, from_of, no_place, place_at}
use Rattle.teg_net.specs.Parts.{IsMember, IsPlaceOfPart, Reaches, to_of}
use Rattle.teg_net.specs.declared.answers.PartAnswer.TheVariants.{NoCircuit}
use Rattle.teg_parts.specs.Partitions.{AreParts, PartLists}
use Rattle.teg_howard.specs.policy_rounds.RunAnswers.{EndsRun}
use Rattle.pace_laws.specs.TightPotentials.{AreTightPotentials}
use Rattle.dioid_spectra.specs.declared.eigenvectors.EigenValue.{EigenValue}
use Rattle.dioid_spectra.specs.Eigenvectors.{IsEigenOf, IsIrreducible, IsJust, IsNumber, IsWay, IsWithin, entry_at, number_at}
use Rattle.dioid_spectra.specs.MatrixNets.{ArePlacesOf, IsEntryAt, IsLeastNumber, IsNetOf, IsNotBelow, IsPlaceFor, IsPlaceOfEntry, IsPlain, least_with, value_of}

-- ---- places in the list by rows

-- the entry in the row and column of a place of the list
pub entry_of_place : (a : Table Date) (k : ℕ) → entry_at a (k / a.columns) (k % a.columns) ≡ get_or a.entries k Early
entry_of_place a k = ap (λ n. get_or a.entries n Early) (div-add-mod' k a.columns)

-- where that is
pub is_entry_at : (a : Table Date) (k : ℕ) (d : Date) → 1 ≤ a.columns → k < a.rows * a.columns → entry_at a (k / a.columns) (k % a.columns) ≡ d
    → IsEntryAt a (k / a.columns) (k % a.columns) d
is_entry_at a k d some l e = record {
  in_rows = let b = row_below k a.rows a.columns some l in omega (arith, b);
  in_columns = omega arith;
  is = e;
}

-- ---- the least number

not_below_less : (low x : ℤ) (d : Date) → x ≤ℤ low → IsNotBelow low d → IsNotBelow x d
not_below_less low x Early l h = tt
not_below_less low x (At y) l h = omega (arith, ints, l, h)
not_below_less low x Date.Never l h = tt

pub least_more : (entries : List Date) (n : ℕ) (low : Option ℤ) (d : Date) → IsLeastNumber entries n low → get_or entries n Early ≡ d → IsPlain d
    → IsLeastNumber entries (n + 1) (least_with low d)
least_more entries n None Early h e p = below_more (λ k. get_or entries k Early ≡ Early) n h e
least_more entries n None (At x) h e p =
    let here : IsNotBelow x (get_or entries n Early) = rw e (omega (arith, ints)) in
    ((n, omega arith, e), below_more (λ k. IsNotBelow x (get_or entries k Early)) n (λ k l. rw (h k l) tt) here)
least_more entries n (Some low) Early h e p =
    let here : IsNotBelow low (get_or entries n Early) = rw e tt in
    let l = h.0.1 in
    ((h.0.0, omega (arith, l), h.0.2), below_more (λ k. IsNotBelow low (get_or entries k Early)) n h.1 here)
least_more entries n (Some low) (At x) h e p =
    by_lt_z x low
    (λ (q : x <ℤ low).
    let is : int_min x low ≡ x = omega (arith, ints, clamps, q) in
    let here : IsNotBelow x (get_or entries n Early) = rw e (omega (arith, ints)) in
    rw is ((n, omega arith, e), below_more (λ k. IsNotBelow x (get_or entries k Early)) n (λ k l. not_below_less low x (get_or entries k Early) (omega (arith, ints, q)) (h.1 k l)) here))
    (λ (q : low ≤ℤ x).
    let is : int_min x low ≡ low = omega (arith, ints, clamps, q) in
    let here : IsNotBelow low (get_or entries n Early) = rw e q in
    let l = h.0.1 in
    rw is ((h.0.0, omega (arith, l), h.0.2), below_more (λ k. IsNotBelow low (get_or entries k Early)) n h.1 here))
least_more entries n low Date.Never h e p = absurd p

-- ---- places for numbers

pub places_more : (a : Table Date) (low : ℤ) (n : ℕ) (ps : List Place) (p : Place) → ArePlacesOf a low n ps → IsPlaceFor a low n (Some p)
    → ArePlacesOf a low (n + 1) (ps ++ p ∷ [])
places_more a low n ps p h is = record {
  each = All-push (IsPlaceOfEntry a low) ps p h.each is.0;
  all = λ k l number.
      ⊎_elim
      (λ (q : k < n).
      let w = h.all k q number in
      (w.0, w.1, omega (arith, w.2, length_push ps p), get_or_append_left ps (p ∷ []) w.1 w.0 w.2 ∙ w.3, w.4))
      (λ (q : n ≤ k).
      let here : n ≡ k = omega (arith, l, q) in
      (length ps, p, omega (arith, length_push ps p), get_or_push ps p p (length ps) refl, is.1 ∙ here))
      (cases_lt k n);
}

pub places_same : (a : Table Date) (low : ℤ) (n : ℕ) (ps : List Place) → ArePlacesOf a low n ps → IsPlaceFor a low n None → ArePlacesOf a low (n + 1) ps
places_same a low n ps h none = record {
  each = h.each;
  all = λ k l number.
      ⊎_elim
      (λ (q : k < n). h.all k q number)
      (λ (q : n ≤ k).
      let here : k ≡ n = omega (arith, l, q) in
      absurd (none (rw here at number)))
      (cases_lt k n);
}

-- the place of a number
pub place_for_number : (a : Table Date) (low x : ℤ) (k : ℕ) (p : Place) → 1 ≤ a.columns → k < a.rows * a.columns → get_or a.entries k Early ≡ At x
    → p.to.index ≡ k / a.columns → p.from.index ≡ k % a.columns → x ≡ low +ℤ pos p.hold → p.tokens ≡ 1 → IsPlaceFor a low k (Some p)
place_for_number a low x k p some l e to from hold token =
    let at = is_entry_at a k (At x) some l (entry_of_place a k ∙ e) in (
      record {
        from_in = rw from at.in_columns;
        to_in = rw to at.in_rows;
        entry = rw (to, from) (at.is ∙ ap At hold);
        token = token;
      },
      rw (to, from) (div-add-mod' k a.columns),
    )

pub place_for_entry : (a : Table Date) (low x : ℤ) (k columns : ℕ) (d : Date) (p : Place) → columns ≡ a.columns → 1 ≤ a.columns → k < a.rows * a.columns
    → d ≡ entry_at a (k / columns) (k % columns) → d ≡ At x → p.to.index ≡ k / columns → p.from.index ≡ k % columns → x ≡ low +ℤ pos p.hold → p.tokens ≡ 1
    → IsPlaceFor a low k (Some p)
place_for_entry a low x k columns d p same some l is date to from hold token =
    let there : d ≡ entry_at a (k / a.columns) (k % a.columns) = rw same at is in
    place_for_number a low x k p some l (sym (entry_of_place a k) ∙ (sym there ∙ date)) (rw same at to) (rw same at from) hold token

-- ---- ways and paths

-- a place of the list is that of one row and column
same_row : (r s c i j : ℕ) → i < c → j < c → r * c + i ≡ s * c + j → r ≡ s
same_row r s c i j hi hj e = sym (div-mul-add r c i hi) ∙ (ap (λ n. n / c) e ∙ div-mul-add s c j hj)

same_column : (r s c i j : ℕ) → i < c → j < c → r * c + i ≡ s * c + j → i ≡ j
same_column r s c i j hi hj e = sym (mod-mul-add r c i hi) ∙ (ap (λ n. n % c) e ∙ mod-mul-add s c j hj)

-- a place of the net for a number in this row and column
pub record HasPlace (net : NetLists) (j k : ℕ) : Type 0 where
  pub id : PlaceId
  pub in_range : id.index < length net.places
  pub from : from_of net id ≡ j
  pub to : to_of net id ≡ k

module _ (a : Table Date) (low : ℤ) (net : NetLists) (h : IsNetOf a low net) where
  pub is_at : (id : PlaceId) → id.index < length net.places → IsPlaceOfEntry a low (place_at net id)
  is_at id l = h.places.each id.index no_place l

  place_for : (j k : ℕ) → j < a.columns → k < a.rows → IsNumber (entry_at a k j) → HasPlace net j k
  place_for j k lj lk number =
      let within : k * a.columns + j < a.columns * a.rows = mul-add-lt k a.columns j a.rows lk lj in
      let turned : a.columns * a.rows ≡ a.rows * a.columns = grind arith in
      let w = h.places.all (k * a.columns + j) (omega (arith, within, turned)) number in
      let id : PlaceId = record { index = w.0 } in
      let same : place_at net id ≡ w.1 = get_or_default net.places w.0 no_place w.1 w.2 ∙ w.3 in
      let is : IsPlaceOfEntry a low (place_at net id) = is_at id w.2 in
      let e : to_of net id * a.columns + from_of net id ≡ k * a.columns + j = ap (λ p. p.to.index * a.columns + p.from.index) same ∙ w.4 in
      record {
        id = id;
        in_range = w.2;
        from = same_column (to_of net id) k a.columns (from_of net id) j is.from_in lj e;
        to = same_row (to_of net id) k a.columns (from_of net id) j is.from_in lj e;
      }

  way_of_path : (ps : List PlaceId) (s t : ℕ) → IsPathBetween net s ps t → (ks : List ℕ) × IsWay a s ks t
  way_of_path [] s t e = ([], e)
  way_of_path (p ∷ ps) s t path =
      let is : IsPlaceOfEntry a low (place_at net p) = is_at p path.0 in
      let rest = way_of_path ps (to_of net p) t path.2 in
      let number : IsNumber (entry_at a (to_of net p) (from_of net p)) = rw is.entry tt in
      (to_of net p ∷ rest.0, (is.to_in, subst (λ (n : ℕ). IsNumber (entry_at a (to_of net p) n)) path.1 number, rest.1))

  path_of_way : a.rows ≡ a.columns → (ks : List ℕ) (j i : ℕ) → j < a.rows → IsWay a j ks i → Reaches net j i
  path_of_way square [] j i l e = ([], e)
  path_of_way square (k ∷ ks) j i l way =
      let p = place_for j k (omega (arith, l, square)) way.0 way.1 in
      let rest = path_of_way square ks k i way.0 way.2 in
      (p.id ∷ rest.0, (p.in_range, p.from, subst (λ (n : ℕ). IsPathBetween net n rest.0 i) (sym p.to) rest.1))

  pub member_of : (parts : PartLists) → AreParts net parts → length parts.inner ≡ 1 → (t : ℕ) → t < a.rows → IsMember parts.part_of 0 t
  member_of parts are one t l =
      let long = are.strong.count in
      let in' : t < length parts.part_of = omega (arith, long, h.width, l) in
      record {
        in_range = in';
        here = let below : get_or parts.part_of t 0 < length parts.inner = are.below t 0 in' in omega (arith, below, one);
      }

  -- rows of one part reach each other
  pub irreducible : (parts : PartLists) → AreParts net parts → length parts.inner ≡ 1 → IsIrreducible a
  irreducible parts are one j i lj li =
      let mj = member_of parts are one j lj in
      let mi = member_of parts are one i li in
      let both = (are.strong.strong j i mj.in_range mi.in_range).0 (mj.here ∙ sym mi.here) in
      way_of_path both.0.0 j i both.0.1

  -- and rows that reach each other are of one part
  pub reducible : a.rows ≡ a.columns → 1 ≤ a.rows → (parts : PartLists) → AreParts net parts → length parts.inner ≢ 1 → IsIrreducible a → ⊥
  reducible square some parts are not_one all =
      let long = are.strong.count in
      let first : 0 < length parts.part_of = omega (arith, long, h.width, some) in
      let below : get_or parts.part_of 0 0 < length parts.inner = are.below 0 0 first in
      let more : 1 < length parts.inner = omega (arith, below, not_one) in
      let m = are.some_member 0 (omega (arith, more)) in
      let n = are.some_member 1 more in
      let lm : m.0 < a.rows = let l = m.1.in_range in omega (arith, l, long, h.width) in
      let ln : n.0 < a.rows = let l = n.1.in_range in omega (arith, l, long, h.width) in
      let there = all m.0 n.0 lm ln in
      let back = all n.0 m.0 ln lm in
      let same = (are.strong.strong m.0 n.0 m.1.in_range n.1.in_range).1 (path_of_way square there.0 m.0 n.0 lm there.1, path_of_way square back.0 n.0 m.0 ln back.1) in
      let e = m.1.here in
      let f = n.1.here in
      absurd (omega (arith, same, e, f))

  -- each place has one token, and there is a place
  pub live : IsLive net
  live [] c none = absurd (let l = c.not_empty in omega (arith, l))
  live (p ∷ ps) c none =
      let path = c.closed.1 in
      let token = (is_at p path.0).token in
      let sum = sum_by-cons (λ (q : PlaceId). (place_at net q).tokens) p ps in
      omega (arith, token, sum, none)

  pub some_place : 0 < length net.places
  some_place =
      let at = h.lowest.least.0 in
      let w = h.places.all at.0 at.1 (rw at.2 tt) in
      let l = w.2 in
      omega (arith, l)

-- the first place of a net of one part lies in it
pub inner_place : (net : NetLists) (parts : PartLists) → IsNet net → AreParts net parts → length parts.inner ≡ 1 → 0 < length net.places
    → (p : PlaceId) × IsPlaceOfPart net parts.part_of 0 p
inner_place net parts ok are one some =
    let id : PlaceId = record { index = 0 } in
    let rules : IsPlaceOf net (place_at net id) = ok.each_place 0 no_place some in
    let long = are.strong.count in
    let from_in = rules.from_in in
    let to_in = rules.to_in in
    let member : (t : ℕ) → t < length parts.part_of → IsMember parts.part_of 0 t = λ t l. record {
      in_range = l;
      here = let below : get_or parts.part_of t 0 < length parts.inner = are.below t 0 l in omega (arith, below, one);
    } in (
      id,
      record {
        in_range = some;
        from_member = member (from_of net id) (omega (arith, from_in, long));
        to_member = member (to_of net id) (omega (arith, to_in, long));
      },
    )

-- ---- tight potentials are eigenvectors

pub product_later : (b : ℕ) (s : ℤ) (w : ℕ) → (pos b *ℤ (s +ℤ pos w)) ≡ (pos b *ℤ s +ℤ pos (b * w))
product_later zero s w = let e : 0 * w ≡ 0 = omega arith in rw e (omega (arith, ints))
product_later (suc b) s w =
    let rest = product_later b s w in
    let e : suc b * w ≡ b * w + w = grind arith in
    rw e (omega (arith, ints, rest))

one_token : (c m : ℕ) → m ≡ 1 → c * m ≡ c
one_token c m e = rw e (omega arith)

within_number : (r : Fraction) (h m : ℕ) (low x y z : ℤ) → m ≡ 1 → x ≡ low +ℤ pos h → (pos (r.tokens * h) -ℤ pos (r.time * m) +ℤ y) ≤ℤ z
    → ((pos r.tokens *ℤ x) +ℤ y) ≤ℤ (value_of low r +ℤ z)
within_number r h m low x y z one is l =
    let e = product_later r.tokens low h in
    let f = one_token r.time m one in
    rw is (omega (arith, ints, e, f, l))

just_number : (r : Fraction) (h m : ℕ) (low x y z : ℤ) → m ≡ 1 → x ≡ low +ℤ pos h → z ≡ (pos (r.tokens * h) -ℤ pos (r.time * m) +ℤ y)
    → ((pos r.tokens *ℤ x) +ℤ y) ≡ (value_of low r +ℤ z)
just_number r h m low x y z one is l =
    let e = product_later r.tokens low h in
    let f = one_token r.time m one in
    rw is (omega (arith, ints, e, f, l))

within_date : (steps : ℕ) (d : Date) (y z : ℤ) → IsPlain d → ((x : ℤ) → d ≡ At x → ((pos steps *ℤ x) +ℤ y) ≤ℤ z) → IsWithin steps d y z
within_date steps Early y z p f = tt
within_date steps (At x) y z p f = f x refl
within_date steps Date.Never y z p f = absurd p

at_is : (x y : ℤ) → At x ≡ At y → x ≡ y
at_is x y e = cc

module _ (a : Table Date) (low : ℤ) (net : NetLists) (h : IsNetOf a low net) (square : a.rows ≡ a.columns) (part_of : List ℕ)
    (members : (t : ℕ) → t < a.rows → IsMember part_of 0 t) (r : Fraction) (u : ℕ → ℤ) (tight : AreTightPotentials net part_of 0 r.time r.tokens u)
    (vs : List ℤ) (are : (i : ℕ) → i < a.rows → number_at vs i ≡ u i) where
  in_part : (p : PlaceId) → p.index < length net.places → IsPlaceOfPart net part_of 0 p
  in_part p l =
      let is : IsPlaceOfEntry a low (place_at net p) = is_at a low net h p l in
      let from = is.from_in in
      record { in_range = l; from_member = members (from_of net p) (omega (arith, from, square)); to_member = members (to_of net p) is.to_in }

  number_within : (i j : ℕ) → i < a.rows → j < a.columns → (x : ℤ) → entry_at a i j ≡ At x
      → ((pos r.tokens *ℤ x) +ℤ number_at vs j) ≤ℤ (value_of low r +ℤ number_at vs i)
  number_within i j li lj x e =
      let p = place_for a low net h j i lj li (rw e tt) in
      let is : IsPlaceOfEntry a low (place_at net p.id) = is_at a low net h p.id p.in_range in
      let own : entry_at a i j ≡ At (low +ℤ pos (place_at net p.id).hold) =
      subst (λ (m : ℕ). entry_at a i m ≡ At (low +ℤ pos (place_at net p.id).hold)) p.from
      (subst (λ (m : ℕ). entry_at a m (from_of net p.id) ≡ At (low +ℤ pos (place_at net p.id).hold)) p.to is.entry) in
      let up = tight.none_above p.id (in_part p.id p.in_range) in
      let from : u (from_of net p.id) ≡ number_at vs j = ap u p.from ∙ sym (are j (omega (arith, lj, square))) in
      let to : u (to_of net p.id) ≡ number_at vs i = ap u p.to ∙ sym (are i li) in
      within_number r (place_at net p.id).hold (place_at net p.id).tokens low x (number_at vs j) (number_at vs i) is.token
      (at_is x (low +ℤ pos (place_at net p.id).hold) (sym e ∙ own)) (rw (from, to) at up)

  row_just : (i : ℕ) → i < a.rows → (j : ℕ) × (j < a.columns) × IsJust r.tokens (entry_at a i j) (number_at vs j) (value_of low r +ℤ number_at vs i)
  row_just i li =
      let met = tight.met i (members i li) in
      let p : PlaceId = met.0 in
      let is : IsPlaceOfEntry a low (place_at net p) = is_at a low net h p met.1.inside.in_range in
      let from_in = is.from_in in
      let own : entry_at a i (from_of net p) ≡ At (low +ℤ pos (place_at net p).hold) =
      subst (λ (m : ℕ). entry_at a m (from_of net p) ≡ At (low +ℤ pos (place_at net p).hold)) met.1.into is.entry in
      let from : u (from_of net p) ≡ number_at vs (from_of net p) = sym (are (from_of net p) (omega (arith, from_in, square))) in
      let to : u i ≡ number_at vs i = sym (are i li) in
      let here = met.1.tight in (
        from_of net p,
        is.from_in,
        rw own (just_number r (place_at net p).hold (place_at net p).tokens low (low +ℤ pos (place_at net p).hold)
            (number_at vs (from_of net p)) (number_at vs i) is.token refl (rw (from, to) at here)),
      )

  pub eigen_of : (value : EigenValue) → value.time ≡ value_of low r → value.steps ≡ r.tokens → 1 ≤ r.tokens → length vs ≡ a.rows → IsEigenOf a value vs
  eigen_of value time steps some count = record {
    square = square;
    count = count;
    some = rw steps some;
    each = λ i li. record {
      within = λ j lj. rw (time, steps) (within_date r.tokens (entry_at a i j) (number_at vs j) (value_of low r +ℤ number_at vs i)
          (let within : i * a.columns + j < a.columns * a.rows = mul-add-lt i a.columns j a.rows li lj in
          let turned : a.columns * a.rows ≡ a.rows * a.columns = grind arith in
          h.lowest.plain (i * a.columns + j) (omega (arith, within, turned)))
          (number_within i j li lj));
      just = let is = row_just i li in (is.0, is.1, rw (time, steps) is.2);
    };
  }

-- a run does not end without a circuit
pub run_has_circuit : (net : NetLists) (parts : List ℕ) (part : ℕ) → EndsRun net parts part NoCircuit → ⊥
run_has_circuit net parts part ([], run, last) = let l = run.run.some in omega (arith, l)
run_has_circuit net parts part (r ∷ rounds, run, last) = last r
