-- A circuit leaves a transition once, so it has one place of the job at most.
use Rattle.std.proofs.Common.{ℕ, zero, suc, ◌+◌, ◌*◌, ◌<◌, ◌≤◌, ◌≡◌, List, [], ◌∷◌, length, get_or, refl, sym, ap, subst, ◌∙◌, arith, ◌⊎◌, inl, inr, ⊎_elim}
use Rattle.std.specs.Prelude.{All, Contains, sum_by}
use Rattle.std.proofs.lemmas.Bool.{cases_lt}
use Rattle.std.proofs.lemmas.List.Sums.{sum_by-cons}
use Rattle.std.proofs.Math.Nat.{mul-le-mul_right}
use Rattle.teg_model.specs.teg_net.declared.entries.PlaceId.{PlaceId}
use Rattle.teg_model.specs.teg_net.Nets.{NetLists}
use Rattle.teg_model.specs.teg_net.Ratios.{Fraction}
use Rattle.teg_model.specs.teg_net.Circuits.{place_at, from_of, IsPathBetween, IsCircuit, time_of, tokens_of}
use Rattle.teg_model.specs.teg_net.Parts.{to_of}
use Rattle.teg_model.specs.teg_net.GreatestRatios.{IsGreatestRatio, IsAnyPlace}
use Rattle.teg_model.proofs.teg_net_proofs.PathLaws.{IsPathBetween-in_range}
use Rattle.growth_laws.proofs.teg_loops_proofs.Through.{IsThrough, through}
use Rattle.teg_critical.proofs.Rises.{stays as rises}
use Rattle.teg_critical.proofs.Raised.{circuit_up, tokens_same, time_with}
use Rattle.planning_laws.specs.LongerJobs.{IsLongerJob, IsWithinSlack, JobsMayTakeLonger}

sum_same : (f g : PlaceId → ℕ) (ps : List PlaceId) → All (λ q. f q ≡ g q) ps → sum_by f ps ≡ sum_by g ps
sum_same f g [] h = refl
sum_same f g (p ∷ ps) h =
    let one = sum_by-cons f p ps in
    let two = sum_by-cons g p ps in
    let here : f p ≡ g p = h 0 p (omega arith) in
    let rest = sum_same f g ps (λ i d l. h (suc i) d (omega arith)) in
    omega (arith, one, two, here, rest)

-- some place of the list is longer, or none
longer_or_not : (more : ℕ → ℕ) (ps : List PlaceId) → ((p : PlaceId) × Contains ps p × (1 ≤ more p.index)) ⊎ All (λ q. more q.index ≡ 0) ps
longer_or_not more [] = inr (λ i d l. absurd (omega arith))
longer_or_not more (q ∷ ps) = ⊎_elim
    (λ (l : 0 < more q.index). inl (q, (0, omega arith, refl), l))
    (λ (l : more q.index ≤ 0). ⊎_elim
    (λ (w : (p : PlaceId) × Contains ps p × (1 ≤ more p.index)). inl (w.0, (suc w.1.0, (let m = w.1.1 in omega (arith, m)), w.1.2), w.2))
    (λ (h : All (λ x. more x.index ≡ 0) ps). inr (none_more (omega (arith, l)) h))
    (longer_or_not more ps))
    (cases_lt 0 (more q.index)) where
      none_more : more q.index ≡ 0 → All (λ x. more x.index ≡ 0) ps → All (λ x. more x.index ≡ 0) (q ∷ ps)
      none_more e h zero d l = e
      none_more e h (suc i) d l = h i d (omega arith)

module _ (net longer : NetLists) (job : ℕ) (more : ℕ → ℕ) (h : IsLongerJob net longer job more) where
  path_up : (ps : List PlaceId) (a b : ℕ) → IsPathBetween net a ps b → IsPathBetween longer a ps b
  path_up [] a b w = w
  path_up (q ∷ ps) a b w =
      let count = h.count in
      let e = h.each q w.0 in
      let in' = w.0 in
      (omega (arith, in', count), e.from ∙ w.1, subst (λ z. IsPathBetween longer z ps b) (sym e.to) (path_up ps (to_of net q) b w.2))

  path_down : (ps : List PlaceId) (a b : ℕ) → IsPathBetween longer a ps b → IsPathBetween net a ps b
  path_down [] a b w = w
  path_down (q ∷ ps) a b w =
      let count = h.count in
      let out = w.0 in
      let in' : q.index < length net.places = omega (arith, out, count) in
      let e = h.each q in' in
      (in', sym e.from ∙ w.1, path_down ps (to_of net q) b (subst (λ z. IsPathBetween longer z ps b) e.to w.2))

  froms : (ps : List PlaceId) (a b : ℕ) → IsPathBetween net a ps b → All (λ q. from_of longer q ≡ from_of net q) ps
  froms ps a b w i d l = (h.each (get_or ps i d) (IsPathBetween-in_range net ps a b w i d l)).from

  circuit_longer : (ps : List PlaceId) → IsCircuit net ps → IsCircuit longer ps
  circuit_longer ps c =
      let same = froms ps c.closed.0 c.closed.0 c.closed.1 in
      record {
        not_empty = c.not_empty;
        closed = (c.closed.0, path_up ps c.closed.0 c.closed.0 c.closed.1);
        leaves_once = λ i j e m n is. c.leaves_once i j e m n (sym (same i e (omega (arith, m, n))) ∙ (is ∙ same j e n));
      }

  circuit_net : (ps : List PlaceId) → IsCircuit longer ps → IsCircuit net ps
  circuit_net ps c =
      let path = path_down ps c.closed.0 c.closed.0 c.closed.1 in
      let same = froms ps c.closed.0 c.closed.0 path in
      record {
        not_empty = c.not_empty;
        closed = (c.closed.0, path);
        leaves_once = λ i j e m n is. c.leaves_once i j e m n (same i e (omega (arith, m, n)) ∙ (is ∙ sym (same j e n)));
      }

  in_net : (ps : List PlaceId) → IsCircuit net ps → All (λ q. q.index < length net.places) ps
  in_net ps c = IsPathBetween-in_range net ps c.closed.0 c.closed.0 c.closed.1

  tokens_kept : (ps : List PlaceId) → IsCircuit net ps → tokens_of longer ps ≡ tokens_of net ps
  tokens_kept ps c = sum_same (λ q. (place_at longer q).tokens) (λ q. (place_at net q).tokens) ps (λ i d l. (h.each (get_or ps i d) (in_net ps c i d l)).tokens)

  same_time : (ps : List PlaceId) → All (λ q. q.index < length net.places) ps → All (λ q. more q.index ≡ 0) ps → time_of longer ps ≡ time_of net ps
  same_time ps in' none = sum_same (λ q. (place_at longer q).hold) (λ q. (place_at net q).hold) ps (λ i d l.
      let e = (h.each (get_or ps i d) (in' i d l)).hold in
      let n = none i d l in
      omega (arith, e, n))

  -- a circuit through one longer place passes no other
  time_one : (ps : List PlaceId) → IsCircuit net ps → (p : PlaceId) → Contains ps p → p.index < length net.places → 1 ≤ more p.index → time_of longer ps ≡ time_of net ps + more p.index
  time_one ps c p passes in' some =
      let t : IsThrough net p ps = through net p ps c passes in
      let old = t.same (λ q. (place_at net q).hold) in
      let new = t.same (λ q. (place_at longer q).hold) in
      let here = (h.each p in').hold in
      let inside = IsPathBetween-in_range net t.others (to_of net p) (from_of net p) t.path in
      let rest = same_time t.others inside (λ i d l. ⊎_elim
      (λ (m : 0 < more (get_or t.others i d).index). absurd (t.once i d l (h.of_job p in' some ∙ sym (h.of_job (get_or t.others i d) (inside i d l) m))))
      (λ (m : more (get_or t.others i d).index ≤ 0). omega (arith, m))
      (cases_lt 0 (more (get_or t.others i d).index))) in
      omega (arith, old, new, here, rest)

  module _ (r : Fraction) (ratio : IsGreatestRatio net IsAnyPlace r) (within : (p : PlaceId) → p.index < length net.places → 1 ≤ more p.index → IsWithinSlack net r p (more p.index)) where
    kept : (ps : List PlaceId) → IsCircuit net ps → time_of longer ps * r.tokens ≤ r.time * tokens_of longer ps
    kept ps c =
        let tokens = tokens_kept ps c in
        ⊎_elim
        (λ (w : (p : PlaceId) × Contains ps p × (1 ≤ more p.index)).
        let p : PlaceId = w.0 in
        let in' : p.index < length net.places = subst (λ (z : PlaceId). z.index < length net.places) w.1.2 (in_net ps c w.1.0 p w.1.1) in
        let slack = within p in' w.2 in
        let d : ℕ = slack.0 in
        let low : (time_of net ps + d) * r.tokens ≤ r.time * tokens_of net ps =
        rw (time_with net p d in' ps c w.1, tokens_same net p d in' ps) at (slack.2.greatest ps (circuit_up net p d in' ps c) (λ i e l. tt)) in
        let more_time : (time_of net ps + more p.index) * r.tokens ≤ (time_of net ps + d) * r.tokens =
        mul-le-mul_right r.tokens (let s = slack.1 in let l : time_of net ps + more p.index ≤ time_of net ps + d = omega (arith, s) in l) in
        rw (time_one ps c p w.1 in' w.2, tokens) (omega (arith, low, more_time)))
        (λ (none : All (λ q. more q.index ≡ 0) ps). rw (same_time ps (in_net ps c) none, tokens) (ratio.greatest ps c (λ i e l. tt)))
        (longer_or_not more ps)

    no_less : (ps : List PlaceId) → IsCircuit net ps → time_of net ps ≤ time_of longer ps
    no_less ps c = ⊎_elim
        (λ (w : (p : PlaceId) × Contains ps p × (1 ≤ more p.index)).
        let in' : w.0.index < length net.places = subst (λ (z : PlaceId). z.index < length net.places) w.1.2 (in_net ps c w.1.0 w.0 w.1.1) in
        let e = time_one ps c w.0 w.1 in' w.2 in
        omega (arith, e))
        (λ (none : All (λ q. more q.index ≡ 0) ps). let e = same_time ps (in_net ps c) none in omega (arith, e))
        (longer_or_not more ps)

    pub stays : IsGreatestRatio longer IsAnyPlace r
    stays =
        let best = ratio.attained in
        let most = kept best.0 best.1 in
        let tokens = tokens_kept best.0 best.1 in
        let less : time_of net best.0 * r.tokens ≤ time_of longer best.0 * r.tokens = mul-le-mul_right r.tokens (no_less best.0 best.1) in
        let is = best.3 in
        let token = ratio.token in
        let same : r.time * tokens_of longer best.0 ≡ r.time * tokens_of net best.0 = ap (λ n. r.time * n) tokens in
        record {
          some = ratio.some;
          attained = (best.0, circuit_longer best.0 best.1, λ i e l. tt, omega (arith, most, less, is, same));
          token = omega (arith, tokens, token);
          greatest = λ ps c all. kept ps (circuit_net ps c);
        }

  -- the other way, each longer place alone leaves the ratio as it is
  pub each_within : (r : Fraction) → IsGreatestRatio net IsAnyPlace r → IsGreatestRatio longer IsAnyPlace r → (p : PlaceId) → p.index < length net.places → 1 ≤ more p.index
      → IsWithinSlack net r p (more p.index)
  each_within r ratio same p in' some = (more p.index, omega arith, rises net r p (more p.index) in' ratio (record { below = below; kept = through_it })) where
    through_it : (ps : List PlaceId) → IsCircuit net ps → Contains ps p → (time_of net ps + more p.index) * r.tokens ≤ r.time * tokens_of net ps
    through_it ps c passes = rw (time_one ps c p passes in' some, tokens_kept ps c) at (same.greatest ps (circuit_longer ps c) (λ i e l. tt))

    below : (ps : List PlaceId) → IsCircuit net ps → Contains ps p → time_of net ps * r.tokens < r.time * tokens_of net ps
    below ps c passes =
        let low = through_it ps c passes in
        let longer : time_of net ps + 1 ≤ time_of net ps + more p.index = omega (arith, some) in
        let one : (time_of net ps + 1) * r.tokens ≤ (time_of net ps + more p.index) * r.tokens = mul-le-mul_right r.tokens longer in
        let is : (time_of net ps + 1) * r.tokens ≡ time_of net ps * r.tokens + r.tokens = grind arith in
        let unit = ratio.some in
        omega (arith, low, one, is, unit)

pub jobs_stay : JobsMayTakeLonger
jobs_stay net longer r job more h ratio = (λ within. stays net longer job more h r ratio within, λ same. each_within net longer job more h r ratio same)
