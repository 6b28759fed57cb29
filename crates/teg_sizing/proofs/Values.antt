-- Values of places and paths, and values that are told.
use Rattle.std.proofs.Common.{ℕ, ℤ, pos, zero, suc, ◌+◌, ◌-◌, ◌*◌, ◌≤◌, ◌≡◌, ◌≢◌, ◌+ℤ◌, ◌-ℤ◌, negsuc, FitsSigned, to_z, of_z, List, [], ◌∷◌, ◌++◌}
use Rattle.std.proofs.Common.{length, get_or, Option, Some, None, refl, sym, ap, subst, ◌∙◌, arith, ⊎_elim, ◌⊎◌, inl, inr}
use Rattle.std.specs.Prelude.{◌≤ℤ◌, All, Contains}
use Rattle.std.specs.Int.{w128}
use Rattle.std.proofs.lemmas.Int.{ints, by_lt_z, to_z-of_z, fits_signed_from_abs}
use Rattle.std.proofs.lemmas.Bool.{cases_eq}
use Rattle.std.proofs.lemmas.List.{length-append, get_or_append_left, get_or-append_right}
use Rattle.std.proofs.lemmas.List.Sums.{sum_by-append, sum_by-cons}
use Rattle.std.proofs.Math.Nat.{mul-le-mul_right}
use Rattle.teg_net.specs.declared.entries.PlaceId.{PlaceId}
use Rattle.teg_net.specs.declared.entries.Place.{Place}
use Rattle.teg_net.specs.Limits.{greatest_hold, most_place_tokens, greatest_target_time, most_target_tokens}
use Rattle.teg_net.specs.Nets.{NetLists}
use Rattle.teg_net.specs.Ratios.{Fraction}
use Rattle.teg_net.specs.Circuits.{place_at, time_of, tokens_of}
use Rattle.teg_net.specs.ReducedTimes.{reduced_time_of_place}
use Rattle.teg_sizing.specs.ValueRounds.{IsTarget, reduced_time_of_path, Avoids, greatest_reduced_time, most_value, IsAtLeast}
use Rattle.teg_net.proofs.Reading.{same_id}

-- ---- reading

-- ---- what is told

pub same_some : (o : Option ℤ) (u v : ℤ) → o ≡ Some u → o ≡ Some v → u ≡ v
same_some o u v e f = let g : Some u ≡ Some v = sym e ∙ f in cc

pub none_some : {X : Type 0} (o : Option X) (v : X) → o ≡ None → o ≡ Some v → ⊥
none_some o v e f = cc

pub at_least_is : (o : Option ℤ) (v : ℤ) → o ≡ Some v → IsAtLeast o v
at_least_is o v e = subst (λ (z : Option ℤ). IsAtLeast z v) (sym e) (omega (arith, ints))

pub at_least_some : (o : Option ℤ) (u : ℤ) → IsAtLeast o u → (v : ℤ) × (o ≡ Some v) × (u ≤ℤ v)
at_least_some None u h = absurd h
at_least_some (Some v) u h = (v, refl, h)

pub at_least_less : (o : Option ℤ) (u v : ℤ) → u ≤ℤ v → IsAtLeast o v → IsAtLeast o u
at_least_less None u v l h = h
at_least_less (Some x) u v l h = omega (arith, ints)

-- what is reached lies below what is not
pub between_them : (o : Option ℤ) (u v : ℤ) → IsAtLeast o u → (IsAtLeast o v → ⊥) → u ≤ℤ v
between_them None u v h n = absurd h
between_them (Some x) u v h n =
    by_lt_z x v
    (λ l. let low : u ≤ℤ v = omega (arith, ints) in low)
    (λ l. absurd (n l))

pub told_or_not : {X : Type 0} (o : Option X) → (o ≡ None) ⊎ ((v : X) × (o ≡ Some v))
told_or_not None = inl refl
told_or_not (Some v) = inr (v, refl)

-- ---- limits

pub weight_within : (r : Fraction) (p : Place) → IsTarget r → p.hold ≤ greatest_hold → p.tokens ≤ most_place_tokens
    → ((pos 0 -ℤ pos greatest_reduced_time) ≤ℤ reduced_time_of_place r p) × (reduced_time_of_place r p ≤ℤ pos greatest_reduced_time)
weight_within r p t h k =
    let time = t.time in
    let tokens = t.tokens in
    let one : r.tokens * p.hold ≤ most_target_tokens * p.hold = mul-le-mul_right {m = r.tokens} {n = most_target_tokens} p.hold tokens in
    let two : r.time * p.tokens ≤ greatest_target_time * p.tokens = mul-le-mul_right {m = r.time} {n = greatest_target_time} p.tokens time in
    (omega (arith, ints), omega (arith, ints))

pub small_fits : (x : ℤ) → (pos 0 -ℤ pos (2 * most_value)) ≤ℤ x → x ≤ℤ pos (2 * most_value) → FitsSigned w128 x
small_fits (pos m) low high = fits_signed_from_abs w128 (pos m) (omega (arith, ints))
small_fits (negsuc m) low high = fits_signed_from_abs w128 (negsuc m) (omega (arith, ints))

-- a value and a weight, as the code computes it
pub sum_fits : (u w : ℤ) → (pos 0 -ℤ pos most_value) ≤ℤ u → u ≤ℤ pos most_value → (pos 0 -ℤ pos greatest_reduced_time) ≤ℤ w → w ≤ℤ pos greatest_reduced_time
    → FitsSigned w128 (to_z w128 (of_z w128 u) +ℤ to_z w128 (of_z w128 w))
sum_fits u w a b c d =
    rw (to_z-of_z w128 u (small_fits u (omega (arith, ints)) (omega (arith, ints))), to_z-of_z w128 w (small_fits w (omega (arith, ints)) (omega (arith, ints))))
    (small_fits (u +ℤ w) (omega (arith, ints)) (omega (arith, ints)))

pub sum_is : (u w : ℤ) → (pos 0 -ℤ pos most_value) ≤ℤ u → u ≤ℤ pos most_value → (pos 0 -ℤ pos greatest_reduced_time) ≤ℤ w → w ≤ℤ pos greatest_reduced_time
    → to_z w128 (of_z w128 (to_z w128 (of_z w128 u) +ℤ to_z w128 (of_z w128 w))) ≡ u +ℤ w
sum_is u w a b c d =
    rw (to_z-of_z w128 u (small_fits u (omega (arith, ints)) (omega (arith, ints))), to_z-of_z w128 w (small_fits w (omega (arith, ints)) (omega (arith, ints))))
    (to_z-of_z w128 (u +ℤ w) (small_fits (u +ℤ w) (omega (arith, ints)) (omega (arith, ints))))

-- ---- paths

sums_to : (b a h t m k : ℕ) → (pos (b * (h + t)) -ℤ pos (a * (m + k))) ≡ ((pos (b * h) -ℤ pos (a * m)) +ℤ (pos (b * t) -ℤ pos (a * k)))
sums_to b a h t m k =
    let one : b * (h + t) ≡ b * h + b * t = grind arith in
    let two : a * (m + k) ≡ a * m + a * k = grind arith in
    omega (arith, ints)

pub value_append : (net : NetLists) (r : Fraction) (ps qs : List PlaceId) → reduced_time_of_path net r (ps ++ qs) ≡ (reduced_time_of_path net r ps +ℤ reduced_time_of_path net r qs)
value_append net r ps qs =
    let time : time_of net (ps ++ qs) ≡ time_of net ps + time_of net qs = sum_by-append (λ q. (place_at net q).hold) ps qs in
    let tokens : tokens_of net (ps ++ qs) ≡ tokens_of net ps + tokens_of net qs = sum_by-append (λ q. (place_at net q).tokens) ps qs in
    rw (time, tokens) (sums_to r.tokens r.time (time_of net ps) (time_of net qs) (tokens_of net ps) (tokens_of net qs))

pub value_cons : (net : NetLists) (r : Fraction) (p : PlaceId) (ps : List PlaceId) → reduced_time_of_path net r (p ∷ ps) ≡ (reduced_time_of_place r (place_at net p) +ℤ reduced_time_of_path net r ps)
value_cons net r p ps =
    let time : time_of net (p ∷ ps) ≡ (place_at net p).hold + time_of net ps = sum_by-cons (λ q. (place_at net q).hold) p ps in
    let tokens : tokens_of net (p ∷ ps) ≡ (place_at net p).tokens + tokens_of net ps = sum_by-cons (λ q. (place_at net q).tokens) p ps in
    rw (time, tokens) (sums_to r.tokens r.time (place_at net p).hold (time_of net ps) (place_at net p).tokens (tokens_of net ps))

pub value_none : (net : NetLists) (r : Fraction) → reduced_time_of_path net r [] ≡ pos 0
value_none net r =
    let one : r.tokens * 0 ≡ 0 = grind arith in
    let two : r.time * 0 ≡ 0 = grind arith in
    rw (one, two) refl

pub value_one : (net : NetLists) (r : Fraction) (p : PlaceId) → reduced_time_of_path net r (p ∷ []) ≡ reduced_time_of_place r (place_at net p)
value_one net r p = let e = value_cons net r p [] in let z = value_none net r in omega (arith, ints)

-- ---- avoiding a place

pub all_first : {X : Type 0} (P : X → Type 0) (xs ys : List X) → All P (xs ++ ys) → All P xs
all_first P xs ys all i d l = subst P (get_or_append_left xs ys d i l) (all i d (omega (arith, length-append xs ys)))

pub all_second : {X : Type 0} (P : X → Type 0) (xs ys : List X) → All P (xs ++ ys) → All P ys
all_second P xs ys all i d l =
    let e : (length xs + i) - length xs ≡ i = omega arith in
    subst P (get_or-append_right xs ys (length xs) (length xs + i) d refl (omega arith) ∙ ap (λ (z : ℕ). get_or ys z d) e) (all (length xs + i) d (omega (arith, length-append xs ys)))

-- a place is in the list, or the list avoids it
pub contains_or_avoids : (p : PlaceId) (ps : List PlaceId) → Contains ps p ⊎ Avoids p ps
contains_or_avoids p [] = inr (λ i d l. absurd (omega arith))
contains_or_avoids p (q ∷ ps) =
    ⊎_elim
    (λ (e : q.index ≡ p.index). inl (0, omega arith, same_id q p e))
    (λ (e : q.index ≢ p.index). ⊎_elim
    (λ (h : Contains ps p). inl (suc h.0, omega (arith, h.1), h.2))
    (λ (h : Avoids p ps). inr (more q ps e h))
    (contains_or_avoids p ps))
    (cases_eq q.index p.index) where
      more : (q : PlaceId) (ps : List PlaceId) → q.index ≢ p.index → Avoids p ps → Avoids p (q ∷ ps)
      more q ps e h zero d l = e
      more q ps e h (suc i) d l = h i d (omega arith)

pub not_both : (p : PlaceId) (ps : List PlaceId) → Contains ps p → Avoids p ps → ⊥
not_both p ps c a = a c.0 p c.1 (ap (λ (q : PlaceId). q.index) c.2)
