-- Slack by the gap that the best path back leaves.
use Rattle.std.proofs.Common.{ℕ, ◌+◌, ◌*◌, ◌/◌, ◌%◌, ◌<◌, ◌≤◌, ◌≡◌, List, [], ◌∷◌, length, refl, sym, ap, ◌∙◌, arith}
use Rattle.std.specs.Prelude.{Contains, sum_by}
use Rattle.std.proofs.lemmas.List.Sums.{sum_by-cons}
use Rattle.std.proofs.lemmas.Nat.{mod_below, div-add-mod'}
use Rattle.teg_net.specs.declared.entries.PlaceId.{PlaceId}
use Rattle.teg_net.specs.Nets.{NetLists}
use Rattle.teg_net.specs.Ratios.{Fraction}
use Rattle.teg_net.specs.Circuits.{place_at, from_of, IsCircuit, time_of, tokens_of}
use Rattle.teg_net.specs.Parts.{to_of}
use Rattle.teg_net.specs.GreatestRatios.{IsGreatestRatio, IsAnyPlace}
use Rattle.teg_loops.specs.Loops.{IsStraight}
use Rattle.teg_loops.specs.Shortening.{NoCircuitGains}
use Rattle.teg_loops.proofs.Splitting.{shorten}
use Rattle.teg_loops.proofs.Through.{IsThrough, through, closes}
use Rattle.teg_certificates.specs.SlackWitnesses.{IsAboveWhenRaised, MayRise}
use Rattle.teg_critical.specs.Slacks.{IsCritical}
use Rattle.teg_critical.specs.Gaps.{IsGap}
use Rattle.teg_critical.specs.SlackAndPaths.{GapTells, GapsTellSlacks}
use Rattle.teg_critical.proofs.Rises.{any_places, stays, no_more}

scaled_left : (b : ℕ) (f : PlaceId → ℕ) (ps : List PlaceId) → sum_by (λ q. b * f q) ps ≡ b * sum_by f ps
scaled_left b f [] = grind arith
scaled_left b f (p ∷ ps) =
    let one = sum_by-cons (λ q. b * f q) p ps in
    let two = sum_by-cons f p ps in
    let rest = scaled_left b f ps in
    let spread : b * (f p + sum_by f ps) ≡ b * f p + b * sum_by f ps = grind arith in
    one ∙ (ap (λ n. b * f p + n) rest ∙ (sym spread ∙ ap (λ n. b * n) (sym two)))

scaled_right : (b : ℕ) (f : PlaceId → ℕ) (ps : List PlaceId) → sum_by (λ q. f q * b) ps ≡ sum_by f ps * b
scaled_right b f [] = grind arith
scaled_right b f (p ∷ ps) =
    let one = sum_by-cons (λ q. f q * b) p ps in
    let two = sum_by-cons f p ps in
    let rest = scaled_right b f ps in
    let spread : (f p + sum_by f ps) * b ≡ f p * b + sum_by f ps * b = grind arith in
    one ∙ (ap (λ n. f p * b + n) rest ∙ (sym spread ∙ ap (λ n. n * b) (sym two)))

-- what one more place adds to the products
pub time_cons : (net : NetLists) (b : ℕ) (p : PlaceId) (ps : List PlaceId) → time_of net (p ∷ ps) * b ≡ (place_at net p).hold * b + time_of net ps * b
time_cons net b p ps =
    let spread : ((place_at net p).hold + time_of net ps) * b ≡ (place_at net p).hold * b + time_of net ps * b = grind arith in
    ap (λ n. n * b) (sum_by-cons (λ q. (place_at net q).hold) p ps) ∙ spread

pub tokens_cons : (net : NetLists) (a : ℕ) (p : PlaceId) (ps : List PlaceId) → a * tokens_of net (p ∷ ps) ≡ a * (place_at net p).tokens + a * tokens_of net ps
tokens_cons net a p ps =
    let spread : a * ((place_at net p).tokens + tokens_of net ps) ≡ a * (place_at net p).tokens + a * tokens_of net ps = grind arith in
    ap (λ n. a * n) (sum_by-cons (λ q. (place_at net q).tokens) p ps) ∙ spread

module _ (net : NetLists) (r : Fraction) (p : PlaceId) (gap : ℕ) (ratio : IsGreatestRatio net IsAnyPlace r) (l : p.index < length net.places) (h : IsGap net r p gap) where
  no_gain : NoCircuitGains net (λ q. (place_at net q).hold * r.tokens) (λ q. r.time * (place_at net q).tokens)
  no_gain c circuit = rw (scaled_right r.tokens (λ q. (place_at net q).hold) c, scaled_left r.time (λ q. (place_at net q).tokens) c) (ratio.greatest c circuit (any_places c))

  -- the best path back, cut down, makes with the place a circuit that lacks just the gap
  pub best_circuit : (ps : List PlaceId) × IsCircuit net ps × Contains ps p × (time_of net ps * r.tokens + gap ≡ r.time * tokens_of net ps)
  best_circuit =
      let ps = h.attained.0 in
      let s = shorten net (λ q. (place_at net q).hold * r.tokens) (λ q. r.time * (place_at net q).tokens) no_gain ps (to_of net p) (from_of net p) h.attained.1 in
      let qs = s.0 in
      let straight : IsStraight net (to_of net p) qs (from_of net p) = s.1 in
      let low = h.least qs straight.path in
      let weighs : time_of net ps * r.tokens + r.time * tokens_of net qs ≤ time_of net qs * r.tokens + r.time * tokens_of net ps =
      rw (
        scaled_right r.tokens (λ q. (place_at net q).hold) ps,
        scaled_left r.time (λ q. (place_at net q).tokens) qs,
        scaled_right r.tokens (λ q. (place_at net q).hold) qs,
        scaled_left r.time (λ q. (place_at net q).tokens) ps,
      ) at s.2 in
      let time_p = time_cons net r.tokens p ps in
      let time_q = time_cons net r.tokens p qs in
      let tokens_p = tokens_cons net r.time p ps in
      let tokens_q = tokens_cons net r.time p qs in
      let there = h.attained.2 in
      (p ∷ qs, closes net p qs l straight, (0, omega arith, refl), omega arith)

  -- each circuit through the place lacks at least the gap
  pub through_lacks : (ps : List PlaceId) → IsCircuit net ps → Contains ps p → time_of net ps * r.tokens + gap ≤ r.time * tokens_of net ps
  through_lacks ps c passes =
      let t : IsThrough net p ps = through net p ps c passes in
      let low = h.least t.others t.path in
      let time : time_of net ps ≡ time_of net (p ∷ t.others) = t.same (λ q. (place_at net q).hold) ∙ sym (sum_by-cons (λ q. (place_at net q).hold) p t.others) in
      let tokens : tokens_of net ps ≡ tokens_of net (p ∷ t.others) = t.same (λ q. (place_at net q).tokens) ∙ sym (sum_by-cons (λ q. (place_at net q).tokens) p t.others) in
      rw (time, tokens) low

  no_gap : IsCritical net r p → gap ≡ 0
  no_gap c = omega (arith, through_lacks c.0 c.1 c.2, c.3)

  wider : (t b d : ℕ) → (t + d) * b ≡ t * b + d * b
  wider t b d = grind arith

  -- so the hold may rise by what fits in the gap
  may_rise : (d : ℕ) → 0 < gap → d * r.tokens ≤ gap → MayRise net r p d
  may_rise d some low = record {
    kept = λ ps c passes. let lacks = through_lacks ps c passes in let wide = wider (time_of net ps) r.tokens d in omega arith;
    below = λ ps c passes. let lacks = through_lacks ps c passes in omega arith;
  }

  -- and what does not fit is too much for the best circuit
  too_much : (d : ℕ) → gap < d * r.tokens + r.tokens → IsAboveWhenRaised net r p (d + 1) best_circuit.0
  too_much d high =
      let c = best_circuit in
      let wide = wider (time_of net c.0) r.tokens (d + 1) in
      let more : (d + 1) * r.tokens ≡ d * r.tokens + r.tokens = grind arith in
      record { circuit = c.1; passes = c.2; above = omega (arith, c.3, wide, more, high) }

  tells : GapTells net r p gap
  tells = record {
    critical = (λ none. let c = best_circuit in (c.0, c.1, c.2, omega (arith, c.3, none)), no_gap);
    slack = λ some.
        let parts : gap / r.tokens * r.tokens + gap % r.tokens ≡ gap = div-add-mod' gap r.tokens in
        let low : gap % r.tokens < r.tokens = mod_below gap r.tokens ratio.some in
        record {
          same = stays net r p (gap / r.tokens) l ratio (may_rise (gap / r.tokens) some (omega arith));
          most = no_more net r p (gap / r.tokens)
              l best_circuit.0 (too_much (gap / r.tokens) (omega arith));
        };
  }

pub gaps_tell : GapsTellSlacks
gaps_tell net r p gap ratio l h = tells net r p gap ratio l h
