-- The mean of a circuit of the matrix is the ratio of that of the net, moved by the least number.
use Rattle.std.proofs.Common.{ℕ, ℤ, zero, suc, pos, ◌+◌, ◌*◌, ◌<◌, ◌≤◌, ◌≡◌, List, [], ◌∷◌, length, map, refl, sym, subst, ap, ◌∙◌, arith, mul_comm, ◌+ℤ◌, ◌*ℤ◌}
use Rattle.std.proofs.lemmas.Int.{ints}
use Rattle.std.proofs.lemmas.List.{length-map}
use Rattle.std.proofs.lemmas.List.Sums.{sum_by-cons}
use Rattle.dioid.specs.declared.dates.Date.{Date}
use Rattle.dioid.specs.declared.dates.Date.TheVariants.{At}
use Rattle.dioid_matrix.specs.Tables.{Table}
use Rattle.teg_net.specs.declared.entries.PlaceId.{PlaceId}
use Rattle.teg_net.specs.Nets.{NetLists}
use Rattle.teg_net.specs.Ratios.{Fraction}
use Rattle.teg_net.specs.Circuits.{IsPathBetween, from_of, place_at, time_of, tokens_of}
use Rattle.teg_net.specs.Parts.{to_of}
use Rattle.dioid_spectra.specs.declared.eigenvectors.EigenValue.{EigenValue}
use Rattle.dioid_spectra.specs.Eigenvectors.{IsCriticalCircuit, IsNumber, IsWay, entry_at, number_of, way_sum}
use Rattle.dioid_spectra.specs.MatrixNets.{AttainsRatio, IsNetOf, IsPlaceOfEntry, value_of}
use Rattle.dioid_spectra.proofs.MatrixNetLaws.{is_at, product_later}

module _ (a : Table Date) (low : ℤ) (net : NetLists) (h : IsNetOf a low net) where
  entry_along : (p : PlaceId) (s : ℕ) → p.index < length net.places → from_of net p ≡ s → entry_at a (to_of net p) s ≡ At (low +ℤ pos (place_at net p).hold)
  entry_along p s l e =
      subst (λ (n : ℕ). entry_at a (to_of net p) n ≡ At (low +ℤ pos (place_at net p).hold)) e (is_at a low net h p l).entry

  way_by : (ps : List PlaceId) (s t : ℕ) → IsPathBetween net s ps t → IsWay a s (map (to_of net) ps) t
  way_by [] s t path = path
  way_by (p ∷ ps) s t path =
      let is : IsPlaceOfEntry a low (place_at net p) = is_at a low net h p path.0 in
      let number : IsNumber (entry_at a (to_of net p) s) = rw (entry_along p s path.0 path.1) tt in
      (is.to_in, number, way_by ps (to_of net p) t path.2)

  sum_by : (ps : List PlaceId) (s t : ℕ) → IsPathBetween net s ps t → way_sum a s (map (to_of net) ps) ≡ (pos (length ps) *ℤ low) +ℤ pos (time_of net ps)
  sum_by [] s t path = omega (arith, ints)
  sum_by (p ∷ ps) s t path =
      let here : number_of (entry_at a (to_of net p) s) ≡ low +ℤ pos (place_at net p).hold = ap number_of (entry_along p s path.0 path.1) in
      let rest : way_sum a (to_of net p) (map (to_of net) ps) ≡ (pos (length ps) *ℤ low) +ℤ pos (time_of net ps) = sum_by ps (to_of net p) t path.2 in
      let time : time_of net (p ∷ ps) ≡ (place_at net p).hold + time_of net ps = sum_by-cons (λ (q : PlaceId). (place_at net q).hold) p ps in
      rw time (omega (arith, ints, here, rest))

  tokens_by : (ps : List PlaceId) (s t : ℕ) → IsPathBetween net s ps t → tokens_of net ps ≡ length ps
  tokens_by [] s t path = refl
  tokens_by (p ∷ ps) s t path =
      let one : (place_at net p).tokens ≡ 1 = (is_at a low net h p path.0).token in
      let sum : tokens_of net (p ∷ ps) ≡ (place_at net p).tokens + tokens_of net ps = sum_by-cons (λ (q : PlaceId). (place_at net q).tokens) p ps in
      let rest : tokens_of net ps ≡ length ps = tokens_by ps (to_of net p) t path.2 in
      omega (arith, one, sum, rest)

add_times : (m n : ℕ) (x : ℤ) → (pos (m + n) *ℤ x) ≡ ((pos m *ℤ x) +ℤ (pos n *ℤ x))
add_times zero n x = omega (arith, ints)
add_times (suc m) n x =
    let rest = add_times m n x in
    let e : suc m + n ≡ suc (m + n) = omega arith in
    rw e (omega (arith, ints, rest))

times_times : (b l : ℕ) (x : ℤ) → (pos b *ℤ (pos l *ℤ x)) ≡ (pos (b * l) *ℤ x)
times_times zero l x = let e : 0 * l ≡ 0 = omega arith in rw e (omega (arith, ints))
times_times (suc b) l x =
    let rest = times_times b l x in
    let e : suc b * l ≡ b * l + l = grind arith in
    let more = add_times (b * l) l x in
    rw e (omega (arith, ints, rest, more))

swapped : (b l : ℕ) (x : ℤ) → (pos b *ℤ (pos l *ℤ x)) ≡ (pos l *ℤ (pos b *ℤ x))
swapped b l x = times_times b l x ∙ (ap (λ n. pos n *ℤ x) (mul_comm b l) ∙ sym (times_times l b x))

mean_is : (b l : ℕ) (time w : ℕ) (low : ℤ) → w * b ≡ time * l → (pos b *ℤ ((pos l *ℤ low) +ℤ pos w)) ≡ (pos l *ℤ (pos time +ℤ (pos b *ℤ low)))
mean_is b l time w low e =
    let left : (pos b *ℤ ((pos l *ℤ low) +ℤ pos w)) ≡ ((pos b *ℤ (pos l *ℤ low)) +ℤ pos (b * w)) = product_later b (pos l *ℤ low) w in
    let turned : pos time +ℤ (pos b *ℤ low) ≡ (pos b *ℤ low) +ℤ pos time = omega (arith, ints) in
    let right : (pos l *ℤ ((pos b *ℤ low) +ℤ pos time)) ≡ ((pos l *ℤ (pos b *ℤ low)) +ℤ pos (l * time)) = product_later l (pos b *ℤ low) time in
    let same : b * w ≡ l * time = (let f : b * w ≡ w * b = grind arith in let g : time * l ≡ l * time = grind arith in f ∙ (e ∙ g)) in
    left ∙ (ap (λ z. z +ℤ pos (b * w)) (swapped b l low) ∙ (ap (λ n. (pos l *ℤ (pos b *ℤ low)) +ℤ pos n) same ∙ (sym right ∙ ap (λ z. pos l *ℤ z) (sym turned))))

-- a path that has a place begins at a column
begins_in : (a : Table Date) (low : ℤ) (net : NetLists) → IsNetOf a low net → (ps : List PlaceId) (s t : ℕ) → 1 ≤ length ps → IsPathBetween net s ps t → s < a.columns
begins_in a low net h [] s t some path = absurd (omega (arith, some))
begins_in a low net h (p ∷ ps) s t some path = subst (λ (n : ℕ). n < a.columns) path.1 (is_at a low net h p path.0).from_in

-- the numbers in the columns of a circuit's places come to its time, and the least number for each place
pub critical_circuit : (a : Table Date) (low : ℤ) (net : NetLists) → IsNetOf a low net → a.rows ≡ a.columns → (r : Fraction) (c : List PlaceId) → AttainsRatio net r c
    → (value : EigenValue) → value.time ≡ value_of low r → value.steps ≡ r.tokens → IsCriticalCircuit a value (map (to_of net) c)
critical_circuit a low net h square r c is value time steps =
    let from : ℕ = is.circuit.closed.0 in
    let path = is.circuit.closed.1 in
    let some = is.circuit.not_empty in
    let first : from < a.columns = begins_in a low net h c from from (omega (arith, some)) path in
    let long : length (map (to_of net) c) ≡ length c = length-map c (to_of net) in
    let sum = sum_by a low net h c from from path in
    let tokens = tokens_by a low net h c from from path in
    let attains : time_of net c * r.tokens ≡ r.time * length c = rw tokens at is.attains in
    record {
      from = from;
      from_in = omega (arith, first, square);
      some = omega (arith, long, some);
      closed = way_by a low net h c from from path;
      mean = rw (sum, time, steps, long) (mean_is r.tokens (length c) r.time (time_of net c) low attains);
    }
