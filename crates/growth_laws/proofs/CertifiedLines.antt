-- Potentials of parts at their own ratios keep at a greater one, rounded down, and a lift from part to part joins them.
use Rattle.std.proofs.Common.{ℕ, ℤ, zero, suc, ◌+◌, ◌*◌, ◌/◌, ◌%◌, ◌<◌, ◌≤◌, ◌≡◌, List, length, refl, sym, ap, subst, arith, ⊎_elim, ◌+ℤ◌, ◌-ℤ◌, ◌*ℤ◌}
use Rattle.std.specs.Prelude.{pos, negsuc, IsTrue, ◌≤ℤ◌, ◌<ℤ◌, Some, slice_index_or}
use Rattle.std.proofs.lemmas.Bool.{cases_lt}
use Rattle.std.proofs.lemmas.Int.{ints, by_lt_z}
use Rattle.std.proofs.lemmas.Nat.{mod_below, div-add-mod'}
use Rattle.std.proofs.Math.Nat.{mul-le-mul_left, mul-le-mul_right}
use Rattle.periodic_laws.specs.teg_net.declared.entries.PlaceId.{PlaceId}
use Rattle.periodic_laws.specs.teg_net.declared.entries.Place.{Place}
use Rattle.periodic_laws.specs.teg_net.declared.answers.PartAnswer.{PartAnswer}
use Rattle.periodic_laws.specs.teg_net.declared.answers.PartAnswer.TheVariants.{NoCircuit, Best}
use Rattle.periodic_laws.specs.teg_net.Nets.{NetLists}
use Rattle.periodic_laws.specs.teg_net.Ratios.{Fraction}
use Rattle.periodic_laws.specs.teg_net.Circuits.{no_place, place_at, from_of}
use Rattle.periodic_laws.specs.teg_net.Parts.{to_of, IsPlaceOfPart}
use Rattle.periodic_laws.specs.teg_net.ReducedTimes.{reduced_time}
use Rattle.periodic_laws.specs.teg_net.GreatestRatios.{ratio_in}
use Rattle.periodic_laws.specs.teg_net.Certificates.{potential_at, IsPartCertificate}
use Rattle.growth_laws.proofs.Growth.{times_pos}
use Rattle.growth_laws.specs.CertifiedLines.{floor_over, potential_by, part_at, own_potential, CertificatesDrawLines}

-- ---- products

times_add : (n : ℕ) (x y : ℤ) → (pos n *ℤ (x +ℤ y)) ≡ ((pos n *ℤ x) +ℤ (pos n *ℤ y))
times_add zero x y = omega (arith, ints)
times_add (suc n) x y = let rest = times_add n x y in omega (arith, ints, rest)

times_le : (n : ℕ) (x y : ℤ) → x ≤ℤ y → (pos n *ℤ x) ≤ℤ (pos n *ℤ y)
times_le zero x y l = omega (arith, ints)
times_le (suc n) x y l = let rest = times_le n x y l in omega (arith, ints, rest, l)

times_numbers : (n x y : ℕ) → (pos n *ℤ (pos x -ℤ pos y)) ≡ (pos (n * x) -ℤ pos (n * y))
times_numbers zero x y =
    let e : 0 * x ≡ 0 = omega arith in
    let f : 0 * y ≡ 0 = omega arith in
    rw (e, f) (omega (arith, ints))
times_numbers (suc n) x y =
    let rest = times_numbers n x y in
    let e : suc n * x ≡ n * x + x = grind arith in
    let f : suc n * y ≡ n * y + y = grind arith in
    rw (e, f) (omega (arith, ints, rest))

times_below : (n x : ℕ) → (pos n *ℤ negsuc x) ≡ (pos 0 -ℤ pos (n * x + n))
times_below zero x = let e : 0 * x ≡ 0 = omega arith in rw e (omega (arith, ints))
times_below (suc n) x = let rest = times_below n x in let e : suc n * x ≡ n * x + x = grind arith in rw e (omega (arith, ints, rest))

-- ---- quotients

parts_of : (m n : ℕ) → 1 ≤ n → (r : ℕ) × (n * (m / n) + r ≡ m) × (r < n)
parts_of m n some =
    let e = div-add-mod' m n in
    let turned : n * (m / n) ≡ m / n * n = grind arith in
    (m % n, omega (arith, e, turned), mod_below m n some)

floor_low : (n : ℕ) (z : ℤ) → 1 ≤ n → (pos n *ℤ floor_over n z) ≤ℤ z
floor_low n (pos m) some = let e = times_pos n (m / n) in let p = parts_of m n some in omega (arith, ints, e, p.1)
floor_low n (negsuc m) some = let e = times_below n (m / n) in let p = parts_of m n some in omega (arith, ints, e, p.1, p.2)

floor_high : (n : ℕ) (z : ℤ) → 1 ≤ n → z <ℤ ((pos n *ℤ floor_over n z) +ℤ pos n)
floor_high n (pos m) some = let e = times_pos n (m / n) in let p = parts_of m n some in omega (arith, ints, e, p.1, p.2)
floor_high n (negsuc m) some = let e = times_below n (m / n) in let p = parts_of m n some in omega (arith, ints, e, p.1)

-- a whole step that keeps a number keeps the quotient
step_between : (n : ℕ) (w f g x y : ℤ) → (pos n *ℤ f) ≤ℤ x → y <ℤ ((pos n *ℤ g) +ℤ pos n) → ((pos n *ℤ w) +ℤ x) ≤ℤ y → (w +ℤ f) ≤ℤ g
step_between n w f g x y low high l =
    by_lt_z g (w +ℤ f)
    (λ less.
    let more : (g +ℤ pos 1) ≤ℤ (w +ℤ f) = omega (arith, ints, less) in
    let up = times_le n (g +ℤ pos 1) (w +ℤ f) more in
    let left = times_add n g (pos 1) in
    let right = times_add n w f in
    let one : (pos n *ℤ pos 1) ≡ pos (n * 1) = times_pos n 1 in
    let same : n * 1 ≡ n = omega arith in
    absurd (omega (arith, ints, up, left, right, one, same, low, high, l)))
    (λ not. not)

floor_step : (n : ℕ) (w x y : ℤ) → 1 ≤ n → ((pos n *ℤ w) +ℤ x) ≤ℤ y → (w +ℤ floor_over n x) ≤ℤ floor_over n y
floor_step n w x y some l = step_between n w (floor_over n x) (floor_over n y) x y (floor_low n x some) (floor_high n y some) l

-- ---- a place at a greater ratio

-- what a place of hold h and m tokens keeps at the ratio s / n, taken b times, it keeps at a / b, taken n times
at_greater : (a b s n h m : ℕ) (x y : ℤ) → s * b ≤ a * n → (pos (n * h) -ℤ pos (s * m) +ℤ x) ≤ℤ y → ((pos n *ℤ (pos (b * h) -ℤ pos (a * m))) +ℤ (pos b *ℤ x)) ≤ℤ (pos b *ℤ y)
at_greater a b s n h m x y low l =
    let up = times_le b (pos (n * h) -ℤ pos (s * m) +ℤ x) y l in
    let left = times_add b (pos (n * h) -ℤ pos (s * m)) x in
    let own = times_numbers b (n * h) (s * m) in
    let new = times_numbers n (b * h) (a * m) in
    let time : b * (n * h) ≡ n * (b * h) = grind arith in
    let tokens : b * (s * m) ≡ s * b * m = grind arith in
    let count : n * (a * m) ≡ a * n * m = grind arith in
    let less : s * b * m ≤ a * n * m = mul-le-mul_right {m = s * b} {n = a * n} m low in
    omega (arith, ints, up, left, own, new, time, tokens, count, less)

in_part : (net : NetLists) (part_of : List ℕ) (part a b : ℕ) (answer : PartAnswer) → IsPartCertificate net part_of part answer → ((q : Fraction) → ratio_in answer ≡ Some q → q.time * b ≤ a * q.tokens)
    → (p : PlaceId) → IsPlaceOfPart net part_of part p → (reduced_time net a b p +ℤ potential_by b answer (from_of net p)) ≤ℤ potential_by b answer (to_of net p)
in_part net part_of part a b NoCircuit h low p i = absurd (h p i)
in_part net part_of part a b (Best ratio circuit potentials) h low p i =
    let place : Place = place_at net p in
    let x : ℤ = potential_at potentials.items (from_of net p) in
    let y : ℤ = potential_at potentials.items (to_of net p) in
    floor_step ratio.tokens (reduced_time net a b p) (pos b *ℤ x) (pos b *ℤ y) h.terms.some
    (at_greater a b ratio.time ratio.tokens place.hold place.tokens x y (low ratio refl) (h.potentials p i))

-- ---- the lift

joined : (lift i j : ℕ) (w x y : ℤ) → i < j → (w +ℤ x) ≤ℤ (y +ℤ pos lift) → (w +ℤ (x +ℤ pos (lift * i))) ≤ℤ (y +ℤ pos (lift * j))
joined lift i j w x y l h =
    let more : lift * (i + 1) ≤ lift * j = mul-le-mul_left {m = i + 1} {n = j} lift (omega arith) in
    let e : lift * (i + 1) ≡ lift * i + lift = grind arith in
    omega (arith, ints, h, more, e)

level : (lift i j : ℕ) (w x y : ℤ) → i ≡ j → (w +ℤ x) ≤ℤ y → (w +ℤ (x +ℤ pos (lift * i))) ≤ℤ (y +ℤ pos (lift * j))
level lift i j w x y e h = let same : lift * i ≡ lift * j = ap (λ n. lift * n) e in omega (arith, ints, h, same)

pub draw_lines : CertificatesDrawLines
draw_lines net answer ends h inside a b lift into = record {
  closed = into.closed;
  potentials = keeps;
} where
  keeps : (p : PlaceId) → p.index < length net.places → IsTrue (inside (to_of net p))
      → (reduced_time net a b p +ℤ (own_potential b answer (from_of net p) +ℤ pos (lift * part_at answer (from_of net p)))) ≤ℤ
      (own_potential b answer (to_of net p) +ℤ pos (lift * part_at answer (to_of net p)))
  keeps p l i =
      let s : ℕ = from_of net p in
      let t : ℕ = to_of net p in
      let rises : part_at answer s ≤ part_at answer t = h.rises p.index no_place l in
      ⊎_elim
      (λ (less : part_at answer s < part_at answer t).
      joined lift (part_at answer s) (part_at answer t) (reduced_time net a b p) (own_potential b answer s) (own_potential b answer t) less (into.lifts p l i less))
      (λ (not : part_at answer t ≤ part_at answer s).
      let k : ℕ = part_at answer t in
      let same : part_at answer s ≡ k = omega (arith, rises, not) in
      let own_ends = ends p.index no_place l in
      let count = h.count in
      let from_in : s < length answer.part_of.items = omega (arith, own_ends.0, count) in
      let to_in : t < length answer.part_of.items = omega (arith, own_ends.1, count) in
      let member : IsPlaceOfPart net answer.part_of.items k p =
      record { in_range = l; from_member = record { in_range = from_in; here = same }; to_member = record { in_range = to_in; here = refl } } in
      let here = in_part net answer.part_of.items k a b (slice_index_or answer.parts.items k NoCircuit) (h.parts k (h.below t 0 to_in)) (λ q e. into.ratios t q i e) p member in
      let own : potential_by b (slice_index_or answer.parts.items k NoCircuit) s ≡ own_potential b answer s = ap (λ n. potential_by b (slice_index_or answer.parts.items n NoCircuit) s) (sym same) in
      level lift (part_at answer s) k (reduced_time net a b p) (own_potential b answer s) (own_potential b answer t) same
      (subst (λ z. (reduced_time net a b p +ℤ z) ≤ℤ own_potential b answer t) own here))
      (cases_lt (part_at answer s) (part_at answer t))
