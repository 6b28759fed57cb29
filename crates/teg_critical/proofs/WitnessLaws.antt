-- What shows the slack of a place: numbers of transitions that are reached from its end or not, and a tight circuit with heights.
use Rattle.std.proofs.Common.{ℕ, ℤ, pos, zero, suc, ◌+◌, ◌*◌, ◌/◌, ◌%◌, ◌<◌, ◌≤◌, ◌≡◌, ◌≢◌, Bool, true, false, eqb}
use Rattle.std.proofs.Common.{List, [], ◌∷◌, ◌++◌, length, get_or, replicate, Option, Some, None, refl, sym, ap, subst, ◌∙◌, arith, ⊎_elim, below_more}
use Rattle.std.specs.Prelude.{IsSome, IsSomeAnd, slice_index, max, if◌then◌else◌, ◌==◌, ◌+ℤ◌, ◌-ℤ◌, ◌≤ℤ◌}
use Rattle.std.specs.Int.{IsGcd}
use Rattle.std.proofs.lemmas.Int.{ints}
use Rattle.std.proofs.lemmas.Bool.{cases_eq, false≢true, eq-eqb, ne_eqb}
use Rattle.std.proofs.lemmas.Nat.{mod_below, div-add-mod'}
use Rattle.std.proofs.Math.Nat.{div-le_self}
use Rattle.std.proofs.lemmas.Nat.Gcd.{IsGcd-from_zero, IsGcd-from_mod}
use Rattle.std.proofs.lemmas.List.{get_or_append_left, get_or_push, get_or-replicate, length-append, get_or_default}
use Rattle.teg_net.specs.declared.entries.PlaceId.{PlaceId}
use Rattle.teg_net.specs.declared.answers.CycleAnswer.{CycleAnswer}
use Rattle.teg_net.specs.Limits.{most_circuit_tokens, most_place_tokens}
use Rattle.teg_net.specs.Nets.{NetLists, IsNet, IsPlaceOf}
use Rattle.teg_net.specs.Ratios.{Fraction, IsLowestTerms}
use Rattle.teg_net.specs.Circuits.{no_place, place_at, from_of, IsCircuit, time_of, tokens_of, IsLive}
use Rattle.teg_net.specs.Parts.{to_of, Reaches}
use Rattle.teg_net.specs.ReducedTimes.{IsMagnitudeWithin}
use Rattle.teg_net.specs.Limits.{greatest_checked_potential}
use Rattle.teg_net.proofs.PathLaws.{IsPathBetween-append, IsPathBetween-in_range}
use Rattle.teg_net.specs.Certificates.{IsCertificate}
use Rattle.teg_net.proofs.LowestTerms.{IsRatioOf-divided}
use Rattle.teg_net.proofs.NetRules.{net_ends}
use Rattle.teg_loops.proofs.Ends.{ends_below}
use Rattle.teg_loops.proofs.Straight.{loop_short}
use Rattle.teg_loops.proofs.Taking.{sum_most}
use Rattle.teg_loops.proofs.Through.{pass_back}
use Rattle.teg_certificates.proofs.number_laws_proofs.Numbers.{some_of}
use Rattle.teg_certificates.proofs.OneRatio.{one_ratio}
use Rattle.teg_certificates.proofs.SlackShown.{best_greatest}
use Rattle.teg_certificates.specs.BestRatios.{best_ratio_of}
use Rattle.teg_certificates.specs.SlackWitnesses.{IsCriticalCircuit, IsAboveWhenRaised, gain_at, LiftsNoneWith, AreRisePotentials, IsRiseShown, RiseAtPlace}
use Rattle.teg_critical.specs.declared.hops.Hop.{Hop}
use Rattle.teg_critical.specs.declared.heights.Raised.{Raised}
use Rattle.teg_critical.specs.declared.witnesses.SlackWitness.{SlackWitness}
use Rattle.teg_critical.specs.declared.witnesses.SlackWitness.TheVariants.{NoCircuit, Critical, Rise}
use Rattle.teg_critical.specs.SlackWitnessed.{IsSlackWitness, IsWitnessAt}
use Rattle.teg_critical.specs.Slacks.{IsOnCircuit}
use Rattle.teg_critical.specs.Hops.{hop_at, IsUsable, AreHops, AreClosed, IsTrace, reached_number}
use Rattle.teg_critical.specs.Heights.{height_at, CanRaise, AreHeights, AreFinal, ArePotentialsBy, AreTight, LacksGap}
use Rattle.teg_critical.specs.Told.{IsGapWithin}
use Rattle.teg_critical.proofs.LossFacts.{IsToldBy, best_told}
use Rattle.teg_critical.proofs.HopLaws.{some_hop, reached_along}
use Rattle.teg_critical.proofs.HeightLaws.{at_low, tight_back, lacks_gap}
use Rattle.teg_critical.proofs.Rises.{any_places}
use Rattle.teg_critical.proofs.EachPlace.{unnamed}

-- ---- lists made one by one

pub pushed : {X : Type 0} (Q : ℕ → X → Type 0) (d : X) (old new : List X) (x : X) (n : ℕ) → length old ≡ n → new ≡ old ++ (x ∷ []) → ((k : ℕ) → k < n → Q k (get_or old k d)) → Q n x
    → (length new ≡ n + 1) × ((k : ℕ) → k < n + 1 → Q k (get_or new k d))
pushed {X} Q d old new x n long is before here = (
  ap length is ∙ length-append old (x ∷ []) ∙ ap (λ (z : ℕ). z + 1) long,
  below_more (λ k. Q k (get_or new k d)) n
      (λ k l. subst (Q k) (sym (ap (λ (z : List X). get_or z k d) is ∙ get_or_append_left old (x ∷ []) d k (omega (arith, long, l)))) (before k l))
      (subst (Q n) (sym (ap (λ (z : List X). get_or z n d) is ∙ get_or_push old x d n long)) here),
)

-- ---- numbers

module _ (net : NetLists) (ok : IsNet net) (p : PlaceId) (l : p.index < length net.places) (usable : List Bool) (all : usable ≡ replicate (length net.places) true) (hops : List (Option Hop))
    (are : AreHops net usable p hops) (closed : AreClosed net usable hops) where
  rules_of : (q : PlaceId) → q.index < length net.places → IsPlaceOf net (place_at net q)
  rules_of q m = ok.each_place q.index no_place m

  may : (q : PlaceId) → q.index < length net.places → IsUsable usable q
  may q m = ap (λ (z : List Bool). get_or z q.index true) all ∙ get_or-replicate (length net.places) q.index true true m

  -- a path leads to each transition that is reached
  hop_path : (n t : ℕ) (h : Hop) → hop_at hops t ≡ Some h → h.count ≡ n → Reaches net (to_of net p) t
  hop_path zero t h e c = ([], sym ((are.each t h e).begins c))
  hop_path (suc n) t h e c =
      let on = (are.each t h e).on (omega (arith, c)) in
      let before = hop_path n (from_of net h.last) on.before on.told (let k = on.count in omega (arith, c, k)) in
      (before.0 ++ (h.last ∷ []), IsPathBetween-append net before.0 (h.last ∷ []) (to_of net p) (from_of net h.last) t before.1 (on.in_range, refl, on.to))

  module _ (none : IsOnCircuit net p → ⊥) (numbers : List ℕ) (count : length numbers ≡ length hops) (each : (t : ℕ) → t < length hops → get_or numbers t 0 ≡ reached_number (hop_at hops t)) where
    number_is : (t : ℕ) → t < length net.transitions → slice_index numbers t ≡ reached_number (hop_at hops t)
    number_is t m = each t (let c = are.count in omega (arith, c, m))

    one_of : (o : Option Hop) → IsSome o → reached_number o ≡ 1
    one_of None s = absurd (false≢true s)
    one_of (Some h) s = refl

    most_one : (o : Option Hop) → reached_number o ≤ 1
    most_one None = omega arith
    most_one (Some h) = omega arith

    falls_none : (q : PlaceId) → q.index < length net.places → slice_index numbers (from_of net q) ≤ slice_index numbers (to_of net q)
    falls_none q m =
        let from = number_is (from_of net q) (rules_of q m).from_in in
        let to = number_is (to_of net q) (rules_of q m).to_in in
        omega (arith, from, to, low (hop_at hops (from_of net q)) refl) where
          low : (o : Option Hop) → hop_at hops (from_of net q) ≡ o → reached_number (hop_at hops (from_of net q)) ≤ reached_number (hop_at hops (to_of net q))
          low None e = let z = ap reached_number e in omega (arith, z)
          low (Some h) e =
              let there = one_of (hop_at hops (to_of net q)) (closed q m (may q m) (some_hop (hop_at hops (from_of net q)) h e)) in
              let most = most_one (hop_at hops (from_of net q)) in
              omega (arith, there, most)

    start_open : (o : Option Hop) → hop_at hops (from_of net p) ≡ o → reached_number o ≡ 0
    start_open None e = refl
    start_open (Some h) e = absurd (none ((pass_back net p l).1 (hop_path h.count (from_of net p) h e refl)))

    pub numbers_rise : RiseAtPlace net numbers p
    numbers_rise = record {
      count = count ∙ are.count;
      never_falls = λ i d m. (
          let q : PlaceId = record { index = i } in
          let same = get_or_default net.places i no_place d m in
          subst (λ z. slice_index numbers z.from.index ≤ slice_index numbers z.to.index) same (falls_none q m));
      in_range = l;
      here =
          let from = number_is (from_of net p) (rules_of p l).from_in in
          let to = number_is (to_of net p) (rules_of p l).to_in in
          let zero_there = start_open (hop_at hops (from_of net p)) refl in
          let one_there = one_of (hop_at hops (to_of net p)) are.start in
          omega (arith, from, to, zero_there, one_there);
    }

-- ---- a circuit, and potentials

module _ (net : NetLists) (raised : Raised) (can : CanRaise net raised) (ps : List PlaceId) (lacks : LacksGap net raised ps) where
  pub critical_by : raised.gap ≡ 0 → IsCriticalCircuit net raised.ratio raised.place ps
  critical_by none = record { circuit = lacks.circuit; passes = lacks.passes; attains = let e = lacks.lacks in omega (arith, e, none) }

  module _ (some : raised.gap ≢ 0) (hs : List ℕ) (are : AreHeights net raised hs) (still : AreFinal net raised hs) (vs : List ℤ) (told : ArePotentialsBy hs vs) where
    abbrev by : ℕ
    by = raised.gap / raised.ratio.tokens

    some_tokens : 1 ≤ raised.ratio.tokens
    some_tokens = can.greatest.some

    parts : by * raised.ratio.tokens + raised.gap % raised.ratio.tokens ≡ raised.gap
    parts = div-add-mod' raised.gap raised.ratio.tokens

    rest_low : raised.gap % raised.ratio.tokens < raised.ratio.tokens
    rest_low = mod_below raised.gap raised.ratio.tokens some_tokens

    turned : raised.ratio.tokens * by ≡ by * raised.ratio.tokens
    turned = grind arith

    max_low : (x y m : ℕ) → x ≤ m → y ≤ m → max x y ≤ m
    max_low x y m h k = omega (arith, h, k)

    gain_low : (q : PlaceId) → gain_at raised.ratio raised.place by q ≤ (if q.index == raised.place.index then raised.gap else 0)
    gain_low q = ⊎_elim
        (λ (e : q.index ≡ raised.place.index).
        let b : eqb q.index raised.place.index ≡ true = eq-eqb q.index raised.place.index e in
        let low : max 1 (raised.ratio.tokens * by) ≤ raised.gap = max_low 1 (raised.ratio.tokens * by) raised.gap (omega (arith, some)) (omega (arith, parts, turned)) in
        rw b low)
        (λ (ne : q.index ≢ raised.place.index). let b : eqb q.index raised.place.index ≡ false = ne_eqb q.index raised.place.index ne in rw b (omega arith))
        (cases_eq q.index raised.place.index)

    read : (t : ℕ) → t < length net.transitions → get_or vs t (pos 0) ≡ pos (height_at hs t)
    read t m = told.each t (let c = are.count in omega (arith, c, m))

    lifts_none : (hold tokens from to gain extra : ℕ) (u v : ℤ) → u ≡ pos from → v ≡ pos to → from + (hold + extra) ≤ to + tokens → gain ≤ extra
        → ((pos hold -ℤ pos tokens) +ℤ u) ≤ℤ (v -ℤ pos gain)
    lifts_none hold tokens from to gain extra u v e f h g = omega (arith, ints, e, f, h, g)

    kept : (q : PlaceId) → q.index < length net.places → LiftsNoneWith raised.ratio vs (gain_at raised.ratio raised.place by q) (place_at net q)
    kept q m =
        let rules : IsPlaceOf net (place_at net q) = can.rules.each_place q.index no_place m in
        let hold : raised.ratio.tokens * (place_at net q).hold ≡ (place_at net q).hold * raised.ratio.tokens = grind arith in
        let low = still q m in
        lifts_none (raised.ratio.tokens * (place_at net q).hold) (raised.ratio.time * (place_at net q).tokens) (height_at hs (from_of net q)) (height_at hs (to_of net q))
        (gain_at raised.ratio raised.place by q) (if q.index == raised.place.index then raised.gap else 0) (get_or vs (from_of net q) (pos 0)) (get_or vs (to_of net q) (pos 0))
        (read (from_of net q) rules.from_in) (read (to_of net q) rules.to_in) (omega (arith, hold, low)) (gain_low q)

    within_at : (t : ℕ) → t < length net.transitions → IsMagnitudeWithin greatest_checked_potential (get_or vs t (pos 0))
    within_at t m =
        let low = at_low net raised can hs are t m in
        let is = read t m in
        record { low = omega (arith, ints, is); high = omega (arith, ints, is, low) }

    potentials : AreRisePotentials net raised.ratio raised.place by vs
    potentials = record {
      limits = record { time_in = can.time; tokens_in = (let t = can.tokens in omega (arith, t)) };
      count = told.count ∙ are.count;
      within = λ i d m. subst (IsMagnitudeWithin greatest_checked_potential) (get_or_default vs i (pos 0) d m) (within_at i (let c = told.count in let k = are.count in omega (arith, c, k, m)));
      kept = kept;
    }

    beyond : IsAboveWhenRaised net raised.ratio raised.place (by + 1) ps
    beyond =
        let wide : (time_of net ps + (by + 1)) * raised.ratio.tokens ≡ time_of net ps * raised.ratio.tokens + (by * raised.ratio.tokens + raised.ratio.tokens) = grind arith in
        let e = lacks.lacks in
        record { circuit = lacks.circuit; passes = lacks.passes; above = omega (arith, wide, e, parts, rest_low) }

    pub rise_by : IsRiseShown net raised.ratio raised.place by ps vs
    rise_by = record { potentials = potentials; beyond = beyond }

-- ---- the greatest ratio in lowest terms

gcd_of : (n a b : ℕ) → b ≤ n → (g : ℕ) × IsGcd a b g
gcd_of zero a b l = (a, IsGcd-from_zero a b (omega (arith, l)))
gcd_of (suc n) a b l = ⊎_elim
    (λ (e : b ≡ 0). (a, IsGcd-from_zero a b e))
    (λ (ne : b ≢ 0).
    let low : a % b < b = mod_below a b (omega (arith, ne)) in
    let r = gcd_of n b (a % b) (omega (arith, l, low)) in
    (r.0, IsGcd-from_mod a b r.0 r.1))
    (cases_eq b 0)

-- the tokens of a ratio in lowest terms are no more than those of a circuit that has it
lowest_low : (time tokens : ℕ) (r : Fraction) → 1 ≤ tokens → IsLowestTerms r → time * r.tokens ≡ r.time * tokens → r.tokens ≤ tokens
lowest_low time tokens r some terms same =
    let g = gcd_of tokens time tokens (omega arith) in
    let divided = IsRatioOf-divided time tokens g.0 some g.1 in
    let one = one_ratio time tokens r (record { time = time / g.0; tokens = tokens / g.0 }) some (record { same = same; terms = terms }) divided in
    let low = div-le_self tokens g.0 in
    omega (arith, one.1, low)

circuit_tokens : (net : NetLists) → IsNet net → (c : List PlaceId) → IsCircuit net c → tokens_of net c ≤ most_circuit_tokens
circuit_tokens net ok c h =
    let short = loop_short net (length net.transitions) c (ends_below net (net_ends net ok)) h in
    let each = sum_most (λ q. (place_at net q).tokens) most_place_tokens net (λ id m. (let rules : IsPlaceOf net (place_at net id)
    = ok.each_place id.index no_place m in rules.tokens_in)) c h.closed.0 h.closed.0 h.closed.1 in
    let few = ok.few_transitions in
    omega (arith, short, each, few)

-- what a certified answer tells lets the place be raised by its gap
pub can_raise : (net : NetLists) → IsNet net → (answer : CycleAnswer) → IsCertificate net answer → IsLive net → (best : Fraction) → best_ratio_of answer ≡ Some best
    → (p : PlaceId) → p.index < length net.places → (gap : ℕ) → IsGapWithin net best p gap → CanRaise net (record { ratio = best; place = p; gap = gap })
can_raise net ok answer h live best b p l gap within =
    let told : IsToldBy net best = best_told net answer h best b in
    let some : 1 ≤ tokens_of net told.places = some_of (tokens_of net told.places) (live told.places told.circuit) in
    let low = lowest_low (time_of net told.places) (tokens_of net told.places) best some told.terms told.attains in
    let most = circuit_tokens net ok told.places told.circuit in
    record {
      in_range = l;
      rules = ok;
      greatest = best_greatest net answer (net_ends net ok) h best b;
      time = told.small.time_in;
      tokens = omega (arith, low, most);
      gap = within.is;
      low = within.low;
    }

-- ---- the circuit that is found

module _ (net : NetLists) (raised : Raised) (can : CanRaise net raised) (hs : List ℕ) (are : AreHeights net raised hs) (still : AreFinal net raised hs) (tight : List Bool)
    (marks : AreTight net raised hs tight) where
  -- along tight places the start of the place is reached from its end
  pub tight_reached : (hops : List (Option Hop)) → AreHops net tight raised.place hops → AreClosed net tight hops → IsSome (hop_at hops (from_of net raised.place))
  tight_reached hops found closed =
      let back = tight_back net raised can hs are still in
      let there = IsPathBetween-in_range net back.others (to_of net raised.place) (from_of net raised.place) back.path in
      reached_along net tight raised.place hops found closed back.others (to_of net raised.place) (from_of net raised.place) back.path
      (λ i d l. (marks.each (get_or back.others i d) (there i d l)).1 (back.tight i d l)) found.start

  pub lacks_by : (ps : List PlaceId) → IsCircuit net ps → IsTrace net tight raised.place ps → LacksGap net raised ps
  lacks_by ps c trace =
      let others : List PlaceId = trace.0 in
      let whole : IsCircuit net (raised.place ∷ others) = subst (IsCircuit net) trace.1 c in
      let there = IsPathBetween-in_range net (raised.place ∷ others) whole.closed.0 whole.closed.0 whole.closed.1 in
      subst (LacksGap net raised) (sym trace.1)
      (record {
        circuit = whole;
        passes = (0, omega arith, refl);
        lacks = lacks_gap net raised can hs are still others whole (λ i d l. (marks.each (get_or others i d) (there (suc i) d (omega (arith, l)))).0 (trace.2 i d l));
      })

-- ---- what is handed out

pub witness_named : (net : NetLists) (answer : CycleAnswer) (p : PlaceId) (r : Fraction) → best_ratio_of answer ≡ Some r → (w : SlackWitness) → IsWitnessAt net r p w → IsSlackWitness net answer p w
witness_named net answer p r e (NoCircuit numbers) h = h
witness_named net answer p r e (Critical circuit) h = subst (λ o. IsSomeAnd o (λ q. IsCriticalCircuit net q p circuit.places.items)) (sym e) h
witness_named net answer p r e (Rise rise) h = subst (λ o. IsSomeAnd o (λ q. IsRiseShown net q p rise.by rise.circuit.places.items rise.potentials.items)) (sym e) h

-- an answer that names no ratio is of a net without circuits
pub passes_none : (net : NetLists) → IsNet net → (answer : CycleAnswer) → IsCertificate net answer → best_ratio_of answer ≡ None → (p : PlaceId) → IsOnCircuit net p → ⊥
passes_none net ok answer h e p c = unnamed net ok answer h e c.0 c.1 (any_places c.0)
