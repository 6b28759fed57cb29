-- Potentials of paths with ever more places: where a number of further tokens is enough, those of paths with as many places as there are
-- transitions show it.
use Rattle.std.proofs.Common.{ℕ, zero, suc, ◌+◌, ◌-◌, ◌*◌, ◌<◌, ◌≤◌, ◌≡◌, ◌≢◌, ◌⊎◌, inl, inr, List, [], ◌∷◌, true, eqb, length, get_or, set, replicate, refl, sym, ap, subst, ◌∙◌, ◌^◌, arith, ⊎_elim}
use Rattle.std.specs.Prelude.{ℤ, pos, ◌+ℤ◌, ◌-ℤ◌, ◌≤ℤ◌, All, Contains, sum_by}
use Rattle.std.proofs.Math.Nat.{mul-le-mul_left, mul-le-mul_right}
use Rattle.std.proofs.lemmas.Int.{ints}
use Rattle.std.proofs.lemmas.Bool.{cases_eq, eq-eqb}
use Rattle.std.proofs.lemmas.List.{length-set, get_or-set_same, get_or-set_other, get_or_default, get_or-replicate, length-replicate}
use Rattle.std.proofs.lemmas.List.Sums.{sum_by-cons}
use Rattle.teg_net.specs.declared.entries.PlaceId.{PlaceId}
use Rattle.teg_net.specs.Circuits.{from_of, no_place, place_at, time_of, tokens_of}
use Rattle.teg_net.specs.Limits.{greatest_checked_potential, greatest_circuit_time, greatest_hold}
use Rattle.teg_net.specs.Nets.{IsNet, IsPlaceOf, NetLists}
use Rattle.teg_net.specs.Parts.{to_of}
use Rattle.teg_net.specs.Ratios.{Fraction}
use Rattle.teg_net.specs.ReducedTimes.{IsMagnitudeWithin}
use Rattle.teg_net.proofs.Reading.{same_id}
use Rattle.teg_certificates.specs.Sizes.{AreTargetPotentials, IsEnough, IsStillAbove, LiftsNone, extra_at}
use Rattle.teg_certificates.proofs.Short.{circuit_sums}
use Rattle.teg_loops.specs.Loops.{EndsBelow, IsStraight}
use Rattle.teg_loops.specs.Shortening.{NoCircuitGains}
use Rattle.teg_loops.proofs.Splitting.{shorten}
use Rattle.teg_loops.proofs.Straight.{straight_short}
use Rattle.teg_loops.proofs.Taking.{sum_most}
use Rattle.pace_check.specs.PathPotentials.{ArePathPotentials, IsLeastOfShort, IsLowEnough, IsLowered, IsPastLimit, IsPathPotential, IsTarget, cost, gain, left_over}

pub ends_below : (net : NetLists) → IsNet net → EndsBelow net (length net.transitions)
ends_below net ok = record {
  from_in = λ id l. (let rules : IsPlaceOf net (place_at net id) = ok.each_place id.index no_place l in rules.from_in);
  to_in = λ id l. (let rules : IsPlaceOf net (place_at net id) = ok.each_place id.index no_place l in rules.to_in);
}

-- ---- what circuits gain and pay

module _ (net : NetLists) (r : Fraction) (p : PlaceId) (extra : ℕ) where
  abbrev extras : List PlaceId → ℕ
  extras ps = sum_by (extra_at p extra) ps

  gains_are : (ps : List PlaceId) → sum_by (gain net r) ps ≡ time_of net ps * r.tokens
  gains_are [] = let none : 0 ≡ 0 * r.tokens = grind arith in none
  gains_are (q ∷ ps) =
      let rest = gains_are ps in
      let one = sum_by-cons (gain net r) q ps in
      let time : time_of net (q ∷ ps) ≡ (place_at net q).hold + time_of net ps = sum_by-cons (λ x. (place_at net x).hold) q ps in
      one ∙ rw (rest, time) (grind arith)

  costs_are : (ps : List PlaceId) → sum_by (cost net r p extra) ps ≡ r.time * (tokens_of net ps + extras ps)
  costs_are [] = let none : 0 ≡ r.time * (0 + 0) = grind arith in none
  costs_are (q ∷ ps) =
      let rest = costs_are ps in
      let one = sum_by-cons (cost net r p extra) q ps in
      let tokens : tokens_of net (q ∷ ps) ≡ (place_at net q).tokens + tokens_of net ps = sum_by-cons (λ x. (place_at net x).tokens) q ps in
      let more : extras (q ∷ ps) ≡ extra_at p extra q + extras ps = sum_by-cons (extra_at p extra) q ps in
      one ∙ rw (rest, tokens, more) (grind arith)

  own_extra : (q : PlaceId) → q ≡ p → extra_at p extra q ≡ extra
  own_extra q e = let b : eqb q.index p.index ≡ true = eq-eqb q.index p.index (ap (λ (x : PlaceId). x.index) e) in rw b refl

  -- the further tokens count where the path passes the place
  extras_count : (ps : List PlaceId) (i : ℕ) → i < length ps → get_or ps i p ≡ p → extra ≤ extras ps
  extras_count [] i l e = absurd (omega (arith, l))
  extras_count (q ∷ ps) zero l e = let here = own_extra q e in let sum = sum_by-cons (extra_at p extra) q ps in omega (arith, here, sum)
  extras_count (q ∷ ps) (suc i) l e = let rest = extras_count ps i (omega (arith, l)) e in let sum = sum_by-cons (extra_at p extra) q ps in omega (arith, rest, sum)

  not_there : (q : PlaceId) (ps : List PlaceId) → q.index ≢ p.index → (Contains ps p → ⊥) → (i : ℕ) → i < length (q ∷ ps) → get_or (q ∷ ps) i p ≡ p → ⊥
  not_there q ps ne none zero l e = ne (ap (λ (x : PlaceId). x.index) e)
  not_there q ps ne none (suc i) l e = none (i, omega (arith, l), e)

  passes_or_not : (ps : List PlaceId) → Contains ps p ⊎ (Contains ps p → ⊥)
  passes_or_not [] = inr (λ h. absurd (omega (arith, h.1)))
  passes_or_not (q ∷ ps) =
      ⊎_elim
      (λ (e : q.index ≡ p.index). inl (zero, omega arith, same_id q p e))
      (λ (ne : q.index ≢ p.index).
      ⊎_elim
      (λ (h : Contains ps p). inl (suc h.0, omega (arith, h.1), h.2))
      (λ (none : Contains ps p → ⊥). inr (λ h. not_there q ps ne none h.0 h.1 h.2))
      (passes_or_not ps))
      (cases_eq q.index p.index)

  -- where the number is enough, no circuit gains more than it pays
  pub none_gains : IsEnough net r p extra → NoCircuitGains net (gain net r) (cost net r p extra)
  none_gains h ps circuit =
      let gains = gains_are ps in
      let costs = costs_are ps in
      ⊎_elim
      (λ (has : Contains ps p).
      let low = h.passing ps circuit has in
      let count = extras_count ps has.0 has.1 has.2 in
      let more : r.time * (tokens_of net ps + extra) ≤ r.time * (tokens_of net ps + extras ps) = mul-le-mul_left r.time (omega (arith, count)) in
      omega (arith, gains, costs, low, more))
      (λ (off : Contains ps p → ⊥).
      let low = h.others ps circuit off in
      let more : r.time * tokens_of net ps ≤ r.time * (tokens_of net ps + extras ps) = mul-le-mul_left r.time (omega arith) in
      omega (arith, gains, costs, low, more))
      (passes_or_not ps)

  gain_most : IsNet net → IsTarget r → (q : PlaceId) → q.index < length net.places → gain net r q ≤ 1000000000000000
  gain_most ok target q l =
      let rules : IsPlaceOf net (place_at net q) = ok.each_place q.index no_place l in
      let hold = rules.hold_in in
      let tokens = target.tokens in
      let one : r.tokens * (place_at net q).hold ≤ r.tokens * greatest_hold = mul-le-mul_left r.tokens hold in
      omega (arith, one, tokens)

  -- no potential of a path is past the limit, where the number is enough
  pub not_past : (t : ℕ) (u : ℤ) → IsNet net → IsTarget r → IsEnough net r p extra → IsPathPotential net r p extra t u → (u +ℤ pos (greatest_checked_potential + 1)) ≤ℤ pos 0 → ⊥
  not_past t u ok target enough h past =
      let short = shorten net (gain net r) (cost net r p extra) (none_gains enough) h.places t h.end h.path in
      let qs : List PlaceId = short.0 in
      let straight : IsStraight net t qs h.end = short.1 in
      let weighs : sum_by (gain net r) h.places + sum_by (cost net r p extra) qs ≤ sum_by (gain net r) qs + sum_by (cost net r p extra) h.places = short.2 in
      let few = straight_short net (length net.transitions) qs t h.end (ends_below net ok) h.end_in straight in
      let most = sum_most (gain net r) 1000000000000000 net (gain_most ok target) qs t h.end straight.path in
      let transitions = ok.few_transitions in
      let is = h.is in
      absurd (omega (arith, ints, weighs, few, most, transitions, is, past))

  -- ---- potentials that are lowered

  abbrev at : List ℤ → ℕ → ℤ
  at us t = get_or us t (pos 0)

  no_places : (u : ℤ) (t : ℕ) → u ≡ pos 0 → IsLeastOfShort net r p extra 0 t u
  no_places u t e [] b path l = omega (arith, ints, e)
  no_places u t e (q ∷ ps) b path l = absurd (omega (arith, l))

  -- at first the potentials are those of the empty paths
  pub potentials_begin : (us : List ℤ) → us ≡ replicate (length net.transitions) (pos 0) → ArePathPotentials net r p extra 0 us
  potentials_begin us is =
      let none : (t : ℕ) → t < length net.transitions → at us t ≡ pos 0 = λ t l. ap (λ (z : List ℤ). get_or z t (pos 0)) is ∙ get_or-replicate (length net.transitions) t (pos 0) (pos 0) l in
      record {
        count = ap length is ∙ length-replicate {A = ℤ} (length net.transitions) (pos 0);
        within = λ t l. (let e = none t l in record { low = omega (arith, ints, e); high = omega (arith, ints, e) });
        paths = λ t l. record { end = t; places = []; end_in = l; path = refl; is = (let e = none t l in omega (arith, ints, e)) };
        least = λ t l. no_places (at us t) t (none t l);
      }

  pub all_within : (most : ℕ) (us : List ℤ) → ArePathPotentials net r p extra most us → All (IsMagnitudeWithin greatest_checked_potential) us
  all_within most us h i d l =
      subst (IsMagnitudeWithin greatest_checked_potential) (get_or_default us i (pos 0) d l) (h.within i (let count = h.count in omega (arith, l, count)))

  -- a path with a place before it
  path_before : (q : PlaceId) (u z : ℤ) → q.index < length net.places → IsPathPotential net r p extra (to_of net q) u
      → z ≡ ((u +ℤ pos (cost net r p extra q)) -ℤ pos (gain net r q)) → IsPathPotential net r p extra (from_of net q) z
  path_before q u z l h e =
      let gains = sum_by-cons (gain net r) q h.places in
      let costs = sum_by-cons (cost net r p extra) q h.places in
      let is = h.is in
      record {
        end = h.end;
        places = q ∷ h.places;
        end_in = h.end_in;
        path = (l, refl, h.path);
        is = omega (arith, ints, gains, costs, is, e);
      }

  -- a round so far: potentials of paths, at most those before it, and of each place so far the start is at most what a path by it left before
  pub record IsLowering (most : ℕ) (old : List ℤ) (n : ℕ) (new : List ℤ) : Type 0 where
    pub are : ArePathPotentials net r p extra most new
    pub below : (t : ℕ) → t < length net.transitions → at new t ≤ℤ at old t
    pub led : (q : PlaceId) → q.index < n → q.index < length net.places → at new (from_of net q) ≤ℤ ((at old (to_of net q) +ℤ pos (cost net r p extra q)) -ℤ pos (gain net r q))

  pub lowering_begins : (most : ℕ) (us : List ℤ) → ArePathPotentials net r p extra most us → IsLowering most us 0 us
  lowering_begins most us h = record { are = h; below = λ t l. omega (arith, ints); led = λ q l m. absurd (omega (arith, l)) }

  -- the potential of one transition is less
  set_below : (us : List ℤ) (i t : ℕ) (z : ℤ) → i < length us → z ≤ℤ at us i → at (set us i z) t ≤ℤ at us t
  set_below us i t z l low =
      ⊎_elim
      (λ (e : t ≡ i). rw (e, get_or-set_same us i z (pos 0) l) low)
      (λ (ne : t ≢ i). rw (get_or-set_other us i t z (pos 0) ne) (omega (arith, ints)))
      (cases_eq t i)

  lowered_are : (most : ℕ) (us : List ℤ) (q : PlaceId) (z : ℤ) → IsNet net → q.index < length net.places → ArePathPotentials net r p extra most us
      → z ≡ ((at us (to_of net q) +ℤ pos (cost net r p extra q)) -ℤ pos (gain net r q)) → pos 0 ≤ℤ (z +ℤ pos greatest_checked_potential) → z ≤ℤ at us (from_of net q)
      → ArePathPotentials net r p extra most (set us (from_of net q) z)
  lowered_are most us q z ok l h e within low =
      let ends = ends_below net ok in
      let from : ℕ = from_of net q in
      let count = h.count in
      let from_in : from < length us = omega (arith, count, ends.from_in q l) in
      let here : get_or (set us from z) from (pos 0) ≡ z = get_or-set_same us from z (pos 0) from_in in
      let high = (h.within from (ends.from_in q l)).high in
      record {
        count = length-set us from z ∙ h.count;
        within = λ t m. ⊎_elim
            (λ (s : t ≡ from). rw (s, here) (record { low = within; high = omega (arith, ints, low, high) }))
            (λ (s : t ≢ from). rw (get_or-set_other us from t z (pos 0) s) (h.within t m))
            (cases_eq t from);
        paths = λ t m. ⊎_elim
            (λ (s : t ≡ from). rw (s, here) (path_before q (at us (to_of net q)) z l (h.paths (to_of net q) (ends.to_in q l)) e))
            (λ (s : t ≢ from). rw (get_or-set_other us from t z (pos 0) s) (h.paths t m))
            (cases_eq t from);
        least = λ t m ps b path short.
            (let least = h.least t m ps b path short in
            let below = set_below us from t z from_in low in
            omega (arith, ints, least, below));
      }

  led_more : (most : ℕ) (old mid new : List ℤ) (q : PlaceId) → IsNet net → q.index < length net.places → IsLowering most old q.index mid
      → ((t : ℕ) → at new t ≤ℤ at mid t) → at new (from_of net q) ≤ℤ ((at mid (to_of net q) +ℤ pos (cost net r p extra q)) -ℤ pos (gain net r q))
      → (o : PlaceId) → o.index < q.index + 1 → o.index < length net.places → at new (from_of net o) ≤ℤ ((at old (to_of net o) +ℤ pos (cost net r p extra o)) -ℤ pos (gain net r o))
  led_more most old mid new q ok l h less here o m within =
      ⊎_elim
      (λ (e : o.index ≡ q.index).
      let is : o ≡ q = same_id o q e in
      let below = h.below (to_of net q) ((ends_below net ok).to_in q l) in
      subst (λ (x : PlaceId). at new (from_of net x) ≤ℤ ((at old (to_of net x) +ℤ pos (cost net r p extra x)) -ℤ pos (gain net r x))) (sym is) (omega (arith, ints, here, below)))
      (λ (ne : o.index ≢ q.index).
      let before = h.led o (omega (arith, m, ne)) within in
      let down = less (from_of net o) in
      omega (arith, ints, before, down))
      (cases_eq o.index q.index)

  pub lowering_on : (most : ℕ) (old mid new : List ℤ) (q : PlaceId) → IsNet net → q.index < length net.places → IsLowering most old q.index mid
      → IsLowered r (place_at net q) (extra_at p extra q) mid new ⊎ IsLowEnough r (place_at net q) (extra_at p extra q) mid new → IsLowering most old (q.index + 1) new
  lowering_on most old mid new q ok l h step =
      let ends = ends_below net ok in
      let count = h.are.count in
      let from_in : from_of net q < length mid = omega (arith, count, ends.from_in q l) in
      ⊎_elim
      (λ (down : IsLowered r (place_at net q) (extra_at p extra q) mid new).
      let z : ℤ = left_over r (place_at net q) (extra_at p extra q) mid in
      let less : (t : ℕ) → at (set mid (from_of net q) z) t ≤ℤ at mid t = λ t. set_below mid (from_of net q) t z from_in down.less in
      let same : get_or (set mid (from_of net q) z) (from_of net q) (pos 0) ≡ z = get_or-set_same mid (from_of net q) z (pos 0) from_in in
      let lower : IsLowering most old (q.index + 1) (set mid (from_of net q) z) = record {
        are = lowered_are most mid q z ok l h.are refl down.within down.less;
        below = λ t m. (let before = h.below t m in let now = less t in omega (arith, ints, before, now));
        led = led_more most old mid (set mid (from_of net q) z) q ok l h less (omega (arith, ints, same));
      } in
      subst (IsLowering most old (q.index + 1)) (sym down.lowered) lower)
      (λ (kept : IsLowEnough r (place_at net q) (extra_at p extra q) mid new).
      let low = kept.low in
      let lower : IsLowering most old (q.index + 1) mid = record {
        are = h.are;
        below = h.below;
        led = led_more most old mid mid q ok l h (λ t. omega (arith, ints)) low;
      } in
      subst (IsLowering most old (q.index + 1)) (sym kept.same) lower)
      step

  -- what a path by a place leaves is past the limit
  pub past_never : (most : ℕ) (us : List ℤ) (q : PlaceId) → IsNet net → IsTarget r → q.index < length net.places → ArePathPotentials net r p extra most us
      → IsPastLimit r (place_at net q) (extra_at p extra q) us → IsEnough net r p extra → ⊥
  past_never most us q ok target l h past enough =
      let ends = ends_below net ok in
      not_past (from_of net q) (left_over r (place_at net q) (extra_at p extra q) us) ok target enough
      (path_before q (at us (to_of net q)) (left_over r (place_at net q) (extra_at p extra q) us) l (h.paths (to_of net q) (ends.to_in q l)) refl) past

  longer_least : (most : ℕ) (old new : List ℤ) (n : ℕ) → IsNet net → ArePathPotentials net r p extra most old → IsLowering most old n new → length net.places ≤ n
      → (t : ℕ) → t < length net.transitions → IsLeastOfShort net r p extra (most + 1) t (at new t)
  longer_least most old new n ok before h all t m [] b path short = h.are.least t m [] b path (omega arith)
  longer_least most old new n ok before h all t m (q ∷ ps) b path short =
      let ends = ends_below net ok in
      let rest = before.least (to_of net q) (ends.to_in q path.0) ps b path.2 (omega (arith, short)) in
      let led = h.led q (let l = path.0 in omega (arith, l, all)) path.0 in
      let gains = sum_by-cons (gain net r) q ps in
      let costs = sum_by-cons (cost net r p extra) q ps in
      let same : at new t ≡ at new (from_of net q) = ap (at new) (sym path.1) in
      omega (arith, ints, rest, led, gains, costs, same)

  pub lowering_over : (most : ℕ) (old new : List ℤ) (n : ℕ) → IsNet net → ArePathPotentials net r p extra most old → IsLowering most old n new → length net.places ≤ n
      → ArePathPotentials net r p extra (most + 1) new
  lowering_over most old new n ok before h all = record {
    count = h.are.count;
    within = h.are.within;
    paths = h.are.paths;
    least = longer_least most old new n ok before h all;
  }

  -- ---- what they show

  keeps : (us : List ℤ) → IsNet net → IsEnough net r p extra → ArePathPotentials net r p extra (length net.transitions) us → (q : PlaceId) → q.index < length net.places
      → LiftsNone r us (extra_at p extra q) (place_at net q)
  keeps us ok enough h q l =
      let ends = ends_below net ok in
      let on = h.paths (to_of net q) (ends.to_in q l) in
      let short = shorten net (gain net r) (cost net r p extra) (none_gains enough) (q ∷ on.places) (from_of net q) on.end (l, refl, on.path) in
      let qs : List PlaceId = short.0 in
      let straight : IsStraight net (from_of net q) qs on.end = short.1 in
      let weighs : sum_by (gain net r) (q ∷ on.places) + sum_by (cost net r p extra) qs ≤ sum_by (gain net r) qs + sum_by (cost net r p extra) (q ∷ on.places) = short.2 in
      let few = straight_short net (length net.transitions) qs (from_of net q) on.end ends on.end_in straight in
      let least = h.least (from_of net q) (ends.from_in q l) qs on.end straight.path (omega (arith, few)) in
      let gains = sum_by-cons (gain net r) q on.places in
      let costs = sum_by-cons (cost net r p extra) q on.places in
      let is = on.is in
      omega (arith, ints, weighs, least, gains, costs, is)

  pub enough_is_shown : (us : List ℤ) → IsNet net → IsTarget r → IsEnough net r p extra → ArePathPotentials net r p extra (length net.transitions) us → AreTargetPotentials net r p extra us
  enough_is_shown us ok target enough h =
      let time = target.time in
      let tokens = target.tokens in
      record {
        limits = record { time_in = omega (arith, time); tokens_in = omega (arith, tokens) };
        count = h.count;
        within = all_within (length net.transitions) us h;
        kept = keeps us ok enough h;
      }

  -- ---- how many further tokens are needed

  pub extra_small : (ps : List PlaceId) → IsNet net → IsTarget r → IsEnough net r p extra → 1 ≤ extra → IsStillAbove net r p (extra - 1) ps → extra < 2 ^ 64
  extra_small ps ok target enough some above =
      let sums = circuit_sums net ok ps above.circuit in
      let short = sums.0 in
      let over = above.above in
      let passing = enough.passing ps above.circuit above.passes in
      let tokens = target.tokens in
      let long : time_of net ps * r.tokens ≤ greatest_circuit_time * r.tokens = mul-le-mul_right r.tokens short in
      ⊎_elim
      (λ (e : r.time ≡ 0). (let none : r.time * (tokens_of net ps + extra) ≡ 0 = rw e (omega arith) in absurd (omega (arith, none, passing, over))))
      (λ (ne : r.time ≢ 0).
      let more : 1 * (tokens_of net ps + (extra - 1)) ≤ r.time * (tokens_of net ps + (extra - 1)) = mul-le-mul_right (tokens_of net ps + (extra - 1)) (omega (arith, ne)) in
      omega (arith, more, over, long, tokens, some))
      (cases_eq r.time 0)
