-- Tight potentials: those of a best answer are, and they tell the ratio.
use Rattle.std.proofs.Common.{ℕ, zero, suc, ◌+◌, ◌*◌, ◌<◌, ◌≤◌, ◌≡◌, List, [], ◌∷◌, ◌++◌, length, get_or, refl, sym, ap, subst, ◌∙◌, arith, ⊎_elim}
use Rattle.std.specs.Prelude.{ℤ, pos, ◌+ℤ◌, ◌≤ℤ◌, ◌<ℤ◌, All}
use Rattle.std.proofs.lemmas.Bool.{cases_lt}
use Rattle.std.proofs.lemmas.Int.{ints, by_lt_z}
use Rattle.std.proofs.lemmas.List.Elements.{All-nil, All-cons, All-tail, All-same}
use Rattle.teg_net.specs.declared.entries.PlaceId.{PlaceId}
use Rattle.teg_net.specs.Nets.{NetLists}
use Rattle.teg_net.specs.Ratios.{Fraction}
use Rattle.teg_net.specs.Circuits.{place_at, from_of, IsPathBetween, IsCircuit, time_of, tokens_of}
use Rattle.teg_net.specs.Parts.{to_of, IsMember, IsPlaceOfPart}
use Rattle.teg_net.specs.ReducedTimes.{reduced_time, reduced_time_of, IsGreatestPathTime}
use Rattle.teg_net.specs.GreatestRatios.{IsGreatestRatio}
use Rattle.teg_net.specs.PartAnswers.{first_transition_of}
use Rattle.teg_net.specs.Certificates.{potential_at}
use Rattle.teg_net.proofs.PathLaws.{IsPathBetween-split}
use Rattle.teg_loops.specs.Loops.{HasLoop}
use Rattle.teg_loops.proofs.Straight.{looped}
use Rattle.pace_laws.specs.TightPotentials.{offered, IsTightInto, AreTightPotentials, BestPotentialsAreTight, TightPotentialsTellTheRatio}
use Rattle.pace_laws.specs.TightPotentials.{TightRatiosAreOne, IsCriticalIn, CriticalPlacesAreTight, CriticalTransitionsTell, TightPotentialsArePaced}
use Rattle.pace_laws.specs.Eigenspaces.{IsCriticalRound}
use Rattle.pace_laws.proofs.Slower.{bounded}
use Rattle.pace_laws.proofs.Sums.{weight_is, weight-append, above_along, bound_ratios, told_at, greatest_are_potentials, all_left, all_right}
use Rattle.pace_laws.proofs.SomeEnds.{ends_below_some}

-- the last of a list that is not empty
pub record HasLast (ps : List PlaceId) : Type 0 where
  pub before : List PlaceId
  pub last : PlaceId
  pub is : ps ≡ before ++ last ∷ []

last_of : (p : PlaceId) (ps : List PlaceId) → HasLast (p ∷ ps)
last_of p [] = record { before = []; last = p; is = refl }
last_of p (q ∷ ps) = let h = last_of q ps in record { before = p ∷ h.before; last = h.last; is = ap (λ (z : List PlaceId). p ∷ z) h.is }

some_last : (ps : List PlaceId) → 0 < length ps → HasLast ps
some_last [] l = absurd (omega arith)
some_last (p ∷ ps) l = last_of p ps

starts : (net : NetLists) (ps : List PlaceId) (s t : ℕ) → 0 < length ps → IsPathBetween net s ps t → s ≡ first_transition_of net ps
starts net [] s t some l = absurd (omega arith)
starts net (p ∷ ps) s t some l = sym l.1

-- greatest sums of paths from a transition of a circuit of the ratio
module _ (net : NetLists) (part_of : List ℕ) (part a b s : ℕ) (v : ℕ → ℤ) (c : List PlaceId) (is_greatest : (t : ℕ) → IsMember part_of part t → IsGreatestPathTime net part_of part a b s t (v t))
    (some : 0 < length c) (round : IsPathBetween net s c s) (within : All (IsPlaceOfPart net part_of part) c) (attains : time_of net c * b ≡ a * tokens_of net c) where
  -- the last place of a greatest path is tight
  by_last : (t : ℕ) (ps : List PlaceId) → HasLast ps → IsPathBetween net s ps t → All (IsPlaceOfPart net part_of part) ps → v t ≡ reduced_time_of net a b ps
      → (p : PlaceId) × IsTightInto net part_of part a b v t p
  by_last t ps l path inside is =
      let qs : List PlaceId = l.before in
      let q : PlaceId = l.last in
      let two = IsPathBetween-split net qs (q ∷ []) s t (subst (λ (z : List PlaceId). IsPathBetween net s z t) l.is path) in
      let all : All (IsPlaceOfPart net part_of part) (qs ++ q ∷ []) = subst (λ (z : List PlaceId). All (IsPlaceOfPart net part_of part) z) l.is inside in
      let own : IsPlaceOfPart net part_of part q = all_right (IsPlaceOfPart net part_of part) qs (q ∷ []) all 0 q (omega arith) in
      let into : to_of net q ≡ t = two.2.2 in
      let first : IsPathBetween net s qs (from_of net q) = subst (λ (z : ℕ). IsPathBetween net s qs z) (sym two.2.1) two.1 in
      let up = (is_greatest (from_of net q) own.from_member).greatest qs first (all_left (IsPlaceOfPart net part_of part) qs (q ∷ []) all) in
      let down = greatest_are_potentials net part_of part a b s v is_greatest q own in
      let here : v (to_of net q) ≡ v t = ap v into in
      let sum = weight-append net a b qs (q ∷ []) in
      let whole : v t ≡ reduced_time_of net a b (qs ++ q ∷ []) = is ∙ ap (reduced_time_of net a b) l.is in
      (q, record { inside = own; into = into; tight = omega (arith, ints, up, down, here, sum, whole) })

  round_nought : reduced_time_of net a b c ≡ pos 0
  round_nought =
      let w = weight_is net a b c in
      let e : b * time_of net c ≡ a * tokens_of net c = grind (arith, attains) in
      omega (arith, ints, w, e)

  by_path : (t : ℕ) (ps : List PlaceId) → IsPathBetween net s ps t → All (IsPlaceOfPart net part_of part) ps → v t ≡ reduced_time_of net a b ps
      → (p : PlaceId) × IsTightInto net part_of part a b v t p
  by_path t (p ∷ ps) path inside is = by_last t (p ∷ ps) (last_of p ps) path inside is
  by_path t [] path inside is = by_last t c (some_last c some) (subst (λ (z : ℕ). IsPathBetween net s c z) path round) within (is ∙ sym round_nought)

  pub greatest_are_tight : AreTightPotentials net part_of part a b v
  greatest_are_tight = record {
    none_above = greatest_are_potentials net part_of part a b s v is_greatest;
    met = λ t m. let g = is_greatest t m in by_path t g.attained.0 g.attained.1 g.attained.2 g.attained.3;
  }

pub best_are_tight : BestPotentialsAreTight
best_are_tight net part_of part r c vs h =
    let s : ℕ = first_transition_of net c in
    let e = starts net c h.circuit.closed.0 h.circuit.closed.0 h.circuit.not_empty h.circuit.closed.1 in
    let round : IsPathBetween net s c s = subst (λ (z : ℕ). IsPathBetween net z c z) e h.circuit.closed.1 in
    greatest_are_tight net part_of part r.time r.tokens s (potential_at vs) c
    (λ t m. told_at (λ u z. IsGreatestPathTime net part_of part r.time r.tokens s u z) vs t h.sums (h.members.all t m))
    h.circuit.not_empty round h.inside h.attains

-- the way back by tight places
module _ (net : NetLists) (part_of : List ℕ) (part a b : ℕ) (v : ℕ → ℤ) (h : AreTightPotentials net part_of part a b v) where
  abbrev IsTight : PlaceId → Type 0
  IsTight p = IsTightInto net part_of part a b v (to_of net p) p

  pub record IsWayBack (t n : ℕ) : Type 0 where
    pub places : List PlaceId
    pub start : ℕ
    pub path : IsPathBetween net start places t
    pub long : length places ≡ n
    pub each : All IsTight places
    pub member : IsMember part_of part start

  way_back : (n t : ℕ) → IsMember part_of part t → IsWayBack t n
  way_back zero t m = record { places = []; start = t; path = refl; long = refl; each = All-nil IsTight; member = m }
  way_back (suc n) t m =
      let w = way_back n t m in
      let e = h.met w.start w.member in
      let p : PlaceId = e.0 in
      let into : to_of net p ≡ w.start = e.1.into in
      let long = w.long in
      record {
        places = p ∷ w.places;
        start = from_of net p;
        path = (e.1.inside.in_range, refl, subst (λ (z : ℕ). IsPathBetween net z w.places t) (sym into) w.path);
        long = omega arith;
        each = All-cons IsTight p w.places (subst (λ (z : ℕ). IsTightInto net part_of part a b v z p) (sym into) e.1) w.each;
        member = e.1.inside.from_member;
      }

  pub tight_sum : (ps : List PlaceId) (s t : ℕ) → IsPathBetween net s ps t → All IsTight ps → (reduced_time_of net a b ps +ℤ v s) ≡ v t
  tight_sum [] s t l each = let e : v s ≡ v t = ap v l in omega (arith, ints, e)
  tight_sum (p ∷ ps) s t l each =
      let here : v (to_of net p) ≡ (reduced_time net a b p +ℤ v (from_of net p)) = (each 0 p (omega arith)).tight in
      let rest = tight_sum ps (to_of net p) t l.2 (All-tail IsTight p ps each) in
      let from : v (from_of net p) ≡ v s = ap v l.1 in
      omega (arith, ints, here, rest, from)

  -- a critical circuit, from which a tight path leads to the transition
  pub record IsFromCritical (t : ℕ) : Type 0 where
    pub circuit : List PlaceId
    pub critical : IsCriticalIn net part_of part a b circuit
    pub at : ℕ
    pub round : IsPathBetween net at circuit at
    pub after : List PlaceId
    pub path : IsPathBetween net at after t
    pub each : All IsTight after

  pub from_critical : (t : ℕ) → IsMember part_of part t → IsFromCritical t
  from_critical t m =
      let ends = ends_below_some net t in
      let n : ℕ = ends.0 in
      let w = way_back n t m in
      let long = w.long in
      let loop : HasLoop net w.start t w.places = looped net n w.places w.start t ends.1 ends.2 w.path (omega arith) in
      let all : All IsTight (loop.before ++ (loop.loop ++ loop.after)) = All-same IsTight (loop.before ++ (loop.loop ++ loop.after)) w.places (sym loop.is) w.each in
      let late : All IsTight (loop.loop ++ loop.after) = all_right IsTight loop.before (loop.loop ++ loop.after) all in
      let each : All IsTight loop.loop = all_left IsTight loop.loop loop.after late in
      let sum = tight_sum loop.loop loop.at loop.at loop.closed each in
      let weight = weight_is net a b loop.loop in
      let is : b * time_of net loop.loop ≡ a * tokens_of net loop.loop = omega (arith, ints, sum, weight) in
      record {
        circuit = loop.loop;
        critical = record { circuit = loop.circuit; inside = λ i d l. (each i d l).inside; attains = grind (arith, is) };
        at = loop.at;
        round = loop.closed;
        after = loop.after;
        path = loop.last;
        each = all_right IsTight loop.loop loop.after late;
      }

  tight_circuit : (t : ℕ) → IsMember part_of part t → (ps : List PlaceId) × IsCircuit net ps × All (IsPlaceOfPart net part_of part) ps × (time_of net ps * b ≡ a * tokens_of net ps)
  tight_circuit t m = let f = from_critical t m in let c = f.critical in (f.circuit, c.circuit, c.inside, c.attains)

  -- potentials that no place exceeds, and that are equal at critical transitions, are nowhere below
  pub nowhere_below : (w : ℕ → ℤ) → ((p : PlaceId) → IsPlaceOfPart net part_of part p → offered net a b w p ≤ℤ w (to_of net p))
      → ((s : ℕ) (c : List PlaceId) → IsCriticalIn net part_of part a b c → IsCriticalRound net part_of part a b s c → v s ≡ w s) → (t : ℕ) → IsMember part_of part t → v t ≤ℤ w t
  nowhere_below w none_above agree t m =
      let f = from_critical t m in
      let here = agree f.at f.circuit f.critical (record { not_empty = f.critical.circuit.not_empty; closed = f.round; inside = f.critical.inside; attains = f.critical.attains }) in
      let sum = tight_sum f.after f.at t f.path f.each in
      let up = above_along net a b w f.after f.at t (λ i e l. none_above (get_or f.after i e) (f.each i e l).inside) f.path in
      omega (arith, ints, here, sum, up)

-- potentials that are equal where each place of critical circuits begins are equal where the circuits begin
at_begin : (net : NetLists) (part_of : List ℕ) (part a b : ℕ) (v w : ℕ → ℤ) → ((c : List PlaceId) → IsCriticalIn net part_of part a b c → All (λ p. v (from_of net p) ≡ w (from_of net p)) c)
    → (s : ℕ) (c : List PlaceId) → IsCriticalIn net part_of part a b c → IsCriticalRound net part_of part a b s c → v s ≡ w s
at_begin net part_of part a b v w agree s c k r =
    let d : PlaceId = record { index = 0 } in
    let first : s ≡ from_of net (get_or c 0 d) = starts net c s s r.not_empty r.closed in
    ap v first ∙ agree c k 0 d r.not_empty ∙ sym (ap w first)

pub critical_tell : CriticalTransitionsTell
critical_tell net part_of part a b v w h k agree t m =
    let one = nowhere_below net part_of part a b v h w k.none_above (at_begin net part_of part a b v w agree) t m in
    let two = nowhere_below net part_of part a b w k v h.none_above (λ s c i r. sym (at_begin net part_of part a b v w agree s c i r)) t m in
    omega (arith, ints, one, two)

-- where a place offers its end less than the potential, so does the path
less_by_one :
    (net : NetLists) (a b : ℕ) (v : ℕ → ℤ) (ps : List PlaceId) (s t k : ℕ) (d : PlaceId) → All (λ p. offered net a b v p ≤ℤ v (to_of net p)) ps → IsPathBetween net s ps t
    → k < length ps → offered net a b v (get_or ps k d) <ℤ v (to_of net (get_or ps k d)) → (reduced_time_of net a b ps +ℤ v s) <ℤ v t
less_by_one net a b v [] s t k d h l n m = absurd (omega arith)
less_by_one net a b v (p ∷ ps) s t zero d h l n m =
    let rest = above_along net a b v ps (to_of net p) t (All-tail (λ q. offered net a b v q ≤ℤ v (to_of net q)) p ps h) l.2 in
    let from : v (from_of net p) ≡ v s = ap v l.1 in
    omega (arith, ints, m, rest, from)
less_by_one net a b v (p ∷ ps) s t (suc k) d h l n m =
    let here = h 0 p (omega arith) in
    let rest = less_by_one net a b v ps (to_of net p) t k d (All-tail (λ q. offered net a b v q ≤ℤ v (to_of net q)) p ps h) l.2 (omega arith) m in
    let from : v (from_of net p) ≡ v s = ap v l.1 in
    omega (arith, ints, here, rest, from)

pub critical_are_tight : CriticalPlacesAreTight
critical_are_tight net part_of part a b v none_above c k i d l =
    let p : PlaceId = get_or c i d in
    let own = k.inside i d l in
    let up = none_above p own in
    let s : ℕ = k.circuit.closed.0 in
    let x : ℤ = offered net a b v p in
    let y : ℤ = v (to_of net p) in
    let w = weight_is net a b c in
    let e : b * time_of net c ≡ a * tokens_of net c = let e = k.attains in grind (arith, e) in
    by_lt_z x y
    (λ (less : x <ℤ y).
    let m = less_by_one net a b v c s s i d (λ j q n. none_above (get_or c j q) (k.inside j q n)) k.circuit.closed.1 l less in
    absurd (omega (arith, ints, m, w, e)))
    (λ (least : y ≤ℤ x). record { inside = own; into = refl; tight = omega (arith, ints, up, least) })

pub tell_the_ratio : TightPotentialsTellTheRatio
tell_the_ratio net part_of part t a b v live m some h =
    let tight = tight_circuit net part_of part a b v h t m in
    record {
      some = some;
      attained = tight;
      token = ⊎_elim (λ (l : 0 < tokens_of net tight.0). l) (λ (l : tokens_of net tight.0 ≤ 0). absurd (live tight.0 tight.1 (omega arith))) (cases_lt 0 (tokens_of net tight.0));
      greatest = bound_ratios net part_of part a b v h.none_above;
    }

no_more : (net : NetLists) (part_of : List ℕ) (part : ℕ) (r q : Fraction)
    → IsGreatestRatio net (IsPlaceOfPart net part_of part) r → IsGreatestRatio net (IsPlaceOfPart net part_of part) q → r.time * q.tokens ≤ q.time * r.tokens
no_more net part_of part r q g k =
    let ps : List PlaceId = g.attained.0 in
    let c : IsCircuit net ps = g.attained.1 in
    bounded (time_of net ps) (tokens_of net ps) (time_of net ps) (tokens_of net ps) r.time r.tokens q.time q.tokens g.token (omega arith) (omega arith) g.attained.3 (k.greatest ps c g.attained.2)

pub are_one : TightRatiosAreOne
are_one net part_of part t a b c d v w live m some more h k =
    let g = tell_the_ratio net part_of part t a b v live m some h in
    let j = tell_the_ratio net part_of part t c d w live m more k in
    let one = no_more net part_of part (record { time = a; tokens = b }) (record { time = c; tokens = d }) g j in
    let two = no_more net part_of part (record { time = c; tokens = d }) (record { time = a; tokens = b }) j g in
    omega arith

pub are_paced : TightPotentialsArePaced
are_paced net part_of part a b v h = record {
  kept = λ p k i.
      let up = h.none_above p i in
      let e : a * (k + (place_at net p).tokens) ≡ a * k + a * (place_at net p).tokens = grind arith in
      omega (arith, ints, up, e);
  met = λ t m.
      let w = h.met t m in
      let p : PlaceId = w.0 in
      let is = w.1.tight in
      (p, w.1.inside, w.1.into, (λ k. let e : a * (k + (place_at net p).tokens) ≡ a * k + a * (place_at net p).tokens = grind arith in omega (arith, ints, is, e)));
}
