-- What holds of heights: each is that of a path and keeps its limit, and where no place lifts its end, the best circuits are tight.
use Rattle.std.proofs.Common.{ℕ, zero, suc, ◌+◌, ◌*◌, ◌<◌, ◌≤◌, ◌≡◌, ◌≢◌, ◌⊎◌, List, [], ◌∷◌, ◌++◌, Bool}
use Rattle.std.proofs.Common.{true, false, eqb, length, get_or, set, replicate, refl, sym, ap, subst, ◌∙◌, arith, inl, inr, ⊎_elim}
use Rattle.std.specs.Prelude.{All, AllPairs, Contains, sum_by, if◌then◌else◌, ◌==◌}
use Rattle.std.proofs.lemmas.Bool.{cases_eq, eq-eqb, ne_eqb}
use Rattle.std.proofs.lemmas.List.{length-set, get_or-set_same, get_or-set_other, get_or_default, get_or-replicate, length-replicate}
use Rattle.std.proofs.lemmas.List.Sums.{sum_by-cons, sum_by-append, sum_by-set, sum_by-le}
use Rattle.std.proofs.Math.Nat.{mul-le-mul_right}
use Rattle.teg_net.specs.declared.entries.PlaceId.{PlaceId}
use Rattle.teg_net.specs.Limits.{greatest_hold}
use Rattle.teg_net.specs.Nets.{NetLists, IsPlaceOf}
use Rattle.teg_net.specs.Circuits.{no_place, place_at, from_of, IsPathBetween, IsCircuit, time_of, tokens_of}
use Rattle.teg_net.specs.Parts.{to_of}
use Rattle.teg_net.proofs.Reading.{same_id}
use Rattle.teg_net.proofs.PathLaws.{IsPathBetween-append}
use Rattle.teg_loops.specs.Loops.{IsStraight}
use Rattle.teg_loops.specs.Shortening.{NoCircuitGains}
use Rattle.teg_net.proofs.NetRules.{net_ends}
use Rattle.teg_loops.proofs.Ends.{ends_below}
use Rattle.teg_loops.proofs.Straight.{straight_short}
use Rattle.teg_loops.proofs.Taking.{sum_most}
use Rattle.teg_loops.proofs.Splitting.{shorten}
use Rattle.teg_loops.proofs.Through.{IsThrough, through}
use Rattle.teg_critical.specs.declared.heights.Raised.{Raised}
use Rattle.teg_critical.specs.Heights.{most_height, gain_by, cost_by, height_at, CanRaise, CanPass, IsHeight, AreHeights, IsKeptBy, IsLifted, AreFinal, IsTightBy}
use Rattle.teg_critical.proofs.Rises.{any_places}
use Rattle.teg_critical.proofs.GapLaws.{time_cons, tokens_cons, best_circuit, through_lacks}

module _ (net : NetLists) (raised : Raised) where
  abbrev p : PlaceId
  p = raised.place

  abbrev gain : PlaceId → ℕ
  gain q = gain_by net raised q

  abbrev cost : PlaceId → ℕ
  cost q = cost_by net raised q

  -- ---- sums

  -- what the rise adds at each place
  abbrev extra : PlaceId → ℕ
  extra q = if q.index == raised.place.index then raised.gap else 0

  extra_here : (q : PlaceId) → q.index ≡ p.index → extra q ≡ raised.gap
  extra_here q e = let b : eqb q.index p.index ≡ true = eq-eqb q.index p.index e in rw b refl

  extra_apart : (q : PlaceId) → q.index ≢ p.index → extra q ≡ 0
  extra_apart q ne = let b : eqb q.index p.index ≡ false = ne_eqb q.index p.index ne in rw b refl

  pub gains_are : (ps : List PlaceId) → sum_by gain ps ≡ time_of net ps * raised.ratio.tokens + sum_by extra ps
  gains_are [] = grind arith
  gains_are (q ∷ ps) =
      let one = sum_by-cons gain q ps in
      let two = time_cons net raised.ratio.tokens q ps in
      let three = sum_by-cons extra q ps in
      let rest = gains_are ps in
      let here : gain q ≡ (place_at net q).hold * raised.ratio.tokens + extra q = refl in
      omega (arith, one, two, three, rest, here)

  pub costs_are : (ps : List PlaceId) → sum_by cost ps ≡ raised.ratio.time * tokens_of net ps
  costs_are [] = grind arith
  costs_are (q ∷ ps) =
      let one = sum_by-cons cost q ps in
      let two = tokens_cons net raised.ratio.time q ps in
      let rest = costs_are ps in
      omega (arith, one, two, rest)

  extras_none : (ps : List PlaceId) → All (λ q. q.index ≢ p.index) ps → sum_by extra ps ≡ 0
  extras_none [] h = refl
  extras_none (q ∷ ps) h =
      let s = sum_by-cons extra q ps in
      let here = extra_apart q (h 0 q (omega arith)) in
      let rest = extras_none ps (λ i d l. h (suc i) d (omega arith)) in
      omega (arith, s, here, rest)

  -- places that leave no transition twice pass the place once, or not
  extras_cases : (ps : List PlaceId) → AllPairs (λ x y. from_of net x ≢ from_of net y) ps → (sum_by extra ps ≡ 0) ⊎ (Contains ps p × (sum_by extra ps ≡ raised.gap))
  extras_cases [] h = inl refl
  extras_cases (q ∷ ps) h =
      let s = sum_by-cons extra q ps in
      ⊎_elim
      (λ (e : q.index ≡ p.index).
      let here = extra_here q e in
      let rest = extras_none ps (λ i d l f. h 0 (suc i) d (omega arith) (omega arith) (ap (from_of net) (same_id q (get_or ps i d) (e ∙ sym f)))) in
      inr ((0, omega arith, same_id q p e), omega (arith, s, here, rest)))
      (λ (ne : q.index ≢ p.index).
      let here = extra_apart q ne in
      ⊎_elim
      (λ (none : sum_by extra ps ≡ 0). inl (omega (arith, s, here, none)))
      (λ (some : Contains ps p × (sum_by extra ps ≡ raised.gap)). inr ((suc some.0.0, (let l = some.0.1 in omega arith), some.0.2), omega (arith, s, here, some.1)))
      (extras_cases ps (λ i j d l m. h (suc i) (suc j) d (omega arith) (omega arith))))
      (cases_eq q.index p.index)

  extras_low : (ps : List PlaceId) → AllPairs (λ x y. from_of net x ≢ from_of net y) ps → sum_by extra ps ≤ raised.gap
  extras_low ps h = ⊎_elim
      (λ (none : sum_by extra ps ≡ 0). omega (arith, none))
      (λ (some : Contains ps p × (sum_by extra ps ≡ raised.gap)). omega (arith, some.1))
      (extras_cases ps h)

  pub extras_through : (others : List PlaceId) → AllPairs (λ x y. from_of net x ≢ from_of net y) (p ∷ others) → sum_by extra (p ∷ others) ≡ raised.gap
  extras_through others h =
      let s = sum_by-cons extra p others in
      let here = extra_here p refl in
      let low = extras_low (p ∷ others) h in
      omega (arith, s, here, low)

  -- ---- limits

  module _ (can : CanRaise net raised) where
    rules_of : (q : PlaceId) → q.index < length net.places → IsPlaceOf net (place_at net q)
    rules_of q l = can.rules.each_place q.index no_place l

    none_gains : NoCircuitGains net gain cost
    none_gains c circuit =
        let g = gains_are c in
        let k = costs_are c in
        ⊎_elim
        (λ (none : sum_by extra c ≡ 0). let top = can.greatest.greatest c circuit (any_places c) in omega (arith, g, k, none, top))
        (λ (some : Contains c p × (sum_by extra c ≡ raised.gap)).
        let low = through_lacks net raised.ratio p raised.gap can.greatest can.in_range can.gap c circuit some.0 in
        omega (arith, g, k, some.1, low))
        (extras_cases c circuit.leaves_once)

    pub height_low : (t h : ℕ) → t < length net.transitions → IsHeight net raised t h → h ≤ most_height
    height_low t h l is =
        let s = shorten net gain cost none_gains is.places is.start t is.path in
        let qs : List PlaceId = s.0 in
        let straight : IsStraight net is.start qs t = s.1 in
        let extras = extras_low qs straight.leaves_once in
        let g = gains_are qs in
        let short : length qs < length net.transitions = straight_short net (length net.transitions) qs is.start t (ends_below net (net_ends net can.rules)) l straight in
        let few = can.rules.few_transitions in
        let each : time_of net qs ≤ length qs * greatest_hold = sum_most (λ q. (place_at net q).hold) greatest_hold net (λ id m. (rules_of id m).hold_in) qs is.start t straight.path in
        let long : time_of net qs ≤ 400000000000 = omega (arith, each, short, few) in
        let wide : time_of net qs * raised.ratio.tokens ≤ 400000000000 * raised.ratio.tokens = mul-le-mul_right {m = time_of net qs} {n = 400000000000} raised.ratio.tokens long in
        omega (arith, s.2, is.is, g, extras, wide, can.tokens, can.low)

    module _ (hs : List ℕ) (are : AreHeights net raised hs) where
      pub at_low : (t : ℕ) → t < length net.transitions → height_at hs t ≤ most_height
      at_low t l = height_low t (height_at hs t) l (are.each t l)

      pub all_low : All (λ h. h ≤ most_height) hs
      all_low i d l = subst (λ h. h ≤ most_height) (get_or_default hs i 0 d l) (at_low i (let c = are.count in omega arith))

      -- each place may be passed
      pub can_pass : (q : PlaceId) → q.index < length net.places → CanPass raised (place_at net q) hs
      can_pass q l =
          let rules = rules_of q l in
          let from = rules.from_in in
          let to = rules.to_in in
          let count = are.count in
          record {
            from = omega (arith, from, count);
            to = omega (arith, to, count);
            time = can.time;
            tokens = can.tokens;
            gap = can.low;
            hold = rules.hold_in;
            few = rules.tokens_in;
            small = all_low;
          }

      pub sum_low : sum_by (λ h. h) hs ≤ length net.transitions * most_height
      sum_low = subst (λ n. sum_by (λ h. h) hs ≤ n * most_height) are.count (sum_by-le (λ h. h) most_height hs all_low)

      -- ---- lifting

      module _ (q : PlaceId) (l : q.index < length net.places) (new : List ℕ) (lifts : IsLifted raised q.index (place_at net q) hs new) where
        lifted_one : IsHeight net raised (to_of net q) lifts.height
        lifted_one =
            let old = are.each (from_of net q) (rules_of q l).from_in in
            let one = sum_by-append gain old.places (q ∷ []) in
            let two = sum_by-append cost old.places (q ∷ []) in
            let three = sum_by-cons gain q [] in
            let four = sum_by-cons cost q [] in
            let sum : height_at hs (from_of net q) + gain q ≡ lifts.height + cost q = lifts.offered in
            record {
              start = old.start;
              places = old.places ++ (q ∷ []);
              path = IsPathBetween-append net old.places (q ∷ []) old.start (from_of net q) (to_of net q) old.path (l, refl, refl);
              is = omega (arith, old.is, one, two, three, four, sum);
            }

        pub lifted_heights : AreHeights net raised new
        lifted_heights = record {
          count = (ap length lifts.is ∙ length-set hs (to_of net q) lifts.height) ∙ are.count;
          each = λ t m. ⊎_elim
              (λ (same : t ≡ to_of net q).
              let read : height_at new t ≡ lifts.height = (ap (λ (z : List ℕ). get_or z t 0) lifts.is ∙ ap (λ (z : ℕ). get_or (set hs (to_of net q) lifts.height) z 0) same)
              ∙ get_or-set_same hs (to_of net q) lifts.height 0 (let c = are.count in let in' = (rules_of q l).to_in in omega arith) in
              subst (IsHeight net raised t) (sym read) (subst (λ (z : ℕ). IsHeight net raised z lifts.height) (sym same) lifted_one))
              (λ (ne : t ≢ to_of net q).
              let read : height_at new t ≡ height_at hs t = ap (λ (z : List ℕ). get_or z t 0) lifts.is ∙ get_or-set_other hs (to_of net q) t lifts.height 0 ne in
              subst (IsHeight net raised t) (sym read) (are.each t m))
              (cases_eq t (to_of net q));
        }

        pub lifted_more : sum_by (λ h. h) hs < sum_by (λ h. h) new
        lifted_more =
            let in' : to_of net q < length hs = (let c = are.count in let low = (rules_of q l).to_in in omega arith) in
            let s = sum_by-set (λ (h : ℕ). h) hs (to_of net q) lifts.height 0 in' in
            let more : height_at hs (to_of net q) < lifts.height = lifts.more in
            subst (λ (z : List ℕ). sum_by (λ h. h) hs < sum_by (λ h. h) z) (sym lifts.is) (omega (arith, s, more))

      -- ---- where no place lifts its end

      module _ (still : AreFinal net raised hs) where
        rises : (ps : List PlaceId) (a b : ℕ) → IsPathBetween net a ps b → height_at hs a + sum_by gain ps ≤ height_at hs b + sum_by cost ps
        rises [] a b e = let same : height_at hs a ≡ height_at hs b = ap (height_at hs) e in omega (arith, same)
        rises (q ∷ ps) a b h =
            let here : height_at hs (from_of net q) + gain q ≤ height_at hs (to_of net q) + cost q = still q h.0 in
            let rest = rises ps (to_of net q) b h.2 in
            let from : height_at hs (from_of net q) ≡ height_at hs a = ap (height_at hs) h.1 in
            let one = sum_by-cons gain q ps in
            let two = sum_by-cons cost q ps in
            omega (arith, here, rest, from, one, two)

        -- a path that loses nothing is tight
        tight_along : (ps : List PlaceId) (a b : ℕ) → IsPathBetween net a ps b → height_at hs b + sum_by cost ps ≤ height_at hs a + sum_by gain ps
            → All (λ q. IsTightBy raised q.index (place_at net q) hs) ps
        tight_along [] a b h low i d l = absurd (omega arith)
        tight_along (q ∷ ps) a b h low i d l =
            let here : height_at hs (from_of net q) + gain q ≤ height_at hs (to_of net q) + cost q = still q h.0 in
            let rest = rises ps (to_of net q) b h.2 in
            let from : height_at hs (from_of net q) ≡ height_at hs a = ap (height_at hs) h.1 in
            let one = sum_by-cons gain q ps in
            let two = sum_by-cons cost q ps in
            both i d l (omega (arith, here, rest, from, one, two, low)) (λ j x m. tight_along ps (to_of net q) b h.2 (omega (arith, here, rest, from, one, two, low)) j x m) where
              both : (i : ℕ) (d : PlaceId) → i < length (q ∷ ps) → IsTightBy raised q.index (place_at net q) hs → All (λ x. IsTightBy raised x.index (place_at net x) hs) ps
                  → IsTightBy raised (get_or (q ∷ ps) i d).index (place_at net (get_or (q ∷ ps) i d)) hs
              both zero d l e f = e
              both (suc i) d l e f = f i d (omega arith)

        -- the best circuit that passes the place, from it on
        pub record IsTightBack : Type 0 where
          pub others : List PlaceId
          pub path : IsPathBetween net (to_of net p) others (from_of net p)
          pub own : IsTightBy raised p.index (place_at net p) hs
          pub tight : All (λ q. IsTightBy raised q.index (place_at net q) hs) others

        pub tight_back : IsTightBack
        tight_back =
            let best = best_circuit net raised.ratio p raised.gap can.greatest can.in_range can.gap in
            let t : IsThrough net p best.0 = through net p best.0 best.1 best.2 in
            let g = gains_are (p ∷ t.others) in
            let k = costs_are (p ∷ t.others) in
            let e = extras_through t.others t.circuit.leaves_once in
            let time : time_of net best.0 ≡ time_of net (p ∷ t.others) = t.same (λ q. (place_at net q).hold) ∙ sym (sum_by-cons (λ q. (place_at net q).hold) p t.others) in
            let tokens : tokens_of net best.0 ≡ tokens_of net (p ∷ t.others) = t.same (λ q. (place_at net q).tokens) ∙ sym (sum_by-cons (λ q. (place_at net q).tokens) p t.others) in
            let lacks : time_of net (p ∷ t.others) * raised.ratio.tokens + raised.gap ≡ raised.ratio.time * tokens_of net (p ∷ t.others) = rw (time, tokens) at best.3 in
            let all = tight_along (p ∷ t.others) (from_of net p) (from_of net p) (can.in_range, refl, t.path) (omega (arith, g, k, e, lacks)) in
            record { others = t.others; path = t.path; own = all 0 p (omega arith); tight = λ i d l. all (suc i) d (omega arith) }

        tight_sum : (ps : List PlaceId) (a b : ℕ) → IsPathBetween net a ps b → All (λ q. IsTightBy raised q.index (place_at net q) hs) ps
            → height_at hs a + sum_by gain ps ≡ height_at hs b + sum_by cost ps
        tight_sum [] a b e h = let same : height_at hs a ≡ height_at hs b = ap (height_at hs) e in omega (arith, same)
        tight_sum (q ∷ ps) a b path h =
            let here : height_at hs (from_of net q) + gain q ≡ height_at hs (to_of net q) + cost q = h 0 q (omega arith) in
            let rest = tight_sum ps (to_of net q) b path.2 (λ i d l. h (suc i) d (omega arith)) in
            let from : height_at hs (from_of net q) ≡ height_at hs a = ap (height_at hs) path.1 in
            let one = sum_by-cons gain q ps in
            let two = sum_by-cons cost q ps in
            omega (arith, here, rest, from, one, two)

        -- a circuit of the place and of tight places lacks just the gap
        pub lacks_gap : (others : List PlaceId) → IsCircuit net (p ∷ others) → All (λ q. IsTightBy raised q.index (place_at net q) hs) others
            → time_of net (p ∷ others) * raised.ratio.tokens + raised.gap ≡ raised.ratio.time * tokens_of net (p ∷ others)
        lacks_gap others c h =
            let g = gains_are (p ∷ others) in
            let k = costs_are (p ∷ others) in
            let e = extras_through others c.leaves_once in
            let sum = tight_sum (p ∷ others) c.closed.0 c.closed.0 c.closed.1 both in
            omega (arith, g, k, e, sum) where
              both : All (λ q. IsTightBy raised q.index (place_at net q) hs) (p ∷ others)
              both zero d l = tight_back.own
              both (suc i) d l = h i d (omega arith)

-- ---- rounds

-- each transition has the height of the empty path
pub heights_begin : (net : NetLists) (raised : Raised) (hs : List ℕ) → hs ≡ replicate (length net.transitions) 0 → AreHeights net raised hs
heights_begin net raised hs is = record {
  count = ap length is ∙ length-replicate {A = ℕ} (length net.transitions) 0;
  each = λ t l. record {
    start = t;
    places = [];
    path = refl;
    is = let e : height_at hs t ≡ 0 = ap (λ (z : List ℕ). get_or z t 0) is ∙ get_or-replicate (length net.transitions) t 0 0 l in omega (arith, e);
  };
}

-- a round so far: where an end was lifted, the heights have grown, and else they are the same and the places so far lift none
pub record IsRound (net : NetLists) (raised : Raised) (old : List ℕ) (n : ℕ) (lifted : Bool) (new : List ℕ) : Type 0 where
  pub are : AreHeights net raised new
  pub more : lifted ≡ true → sum_by (λ h. h) old < sum_by (λ h. h) new
  pub same : lifted ≡ false → new ≡ old
  pub kept : lifted ≡ false → (q : PlaceId) → q.index < n → q.index < length net.places → IsKeptBy raised q.index (place_at net q) new

pub round_begins : (net : NetLists) (raised : Raised) (hs : List ℕ) → AreHeights net raised hs → IsRound net raised hs 0 false hs
round_begins net raised hs are = record { are = are; more = λ e. (let f : ⊥ = cc in absurd f); same = λ _. refl; kept = λ e q l m. absurd (omega (arith, l)) }

module _ (net : NetLists) (raised : Raised) (can : CanRaise net raised) (old mid : List ℕ) (q : PlaceId) (l : q.index < length net.places) where
  not_less : (lifted : Bool) → IsRound net raised old q.index lifted mid → sum_by (λ h. h) old ≤ sum_by (λ h. h) mid
  not_less true h = let more = h.more refl in omega (arith, more)
  not_less false h = let same : sum_by (λ h. h) mid ≡ sum_by (λ h. h) old = ap (λ (z : List ℕ). sum_by (λ h. h) z) (h.same refl) in omega (arith, same)

  pub round_lifted : (lifted : Bool) → IsRound net raised old q.index lifted mid → (new : List ℕ) → IsLifted raised q.index (place_at net q) mid new → IsRound net raised old (q.index + 1) true new
  round_lifted lifted h new lifts =
      let more = lifted_more net raised can mid h.are q l new lifts in
      let low = not_less lifted h in
      record { are = lifted_heights net raised can mid h.are q l new lifts; more = λ _. omega (arith, more, low); same = λ e. (let f : ⊥ = cc in absurd f); kept = λ e. (let f : ⊥ = cc in absurd f) }

  pub round_kept : (lifted : Bool) → IsRound net raised old q.index lifted mid → IsKeptBy raised q.index (place_at net q) mid → IsRound net raised old (q.index + 1) lifted mid
  round_kept lifted h here = record {
    are = h.are;
    more = h.more;
    same = h.same;
    kept = λ e x m n. ⊎_elim
        (λ (is : x.index ≡ q.index). subst (λ (z : PlaceId). IsKeptBy raised z.index (place_at net z) mid) (same_id q x (sym is)) here)
        (λ (ne : x.index ≢ q.index). h.kept e x (omega (arith, m, ne)) n)
        (cases_eq x.index q.index);
  }

pub round_over : (net : NetLists) (raised : Raised) (old : List ℕ) (n : ℕ) (lifted : Bool) (new : List ℕ) → IsRound net raised old n lifted new → length net.places ≤ n →
    lifted ≡ false → AreFinal net raised new
round_over net raised old n lifted new h all e q m = h.kept e q (omega (arith, all, m)) m
