-- Each circuit of a net has one of slower places in a slower net.
use Rattle.std.proofs.Common.{ℕ, zero, suc, ◌+◌, ◌*◌, ◌<◌, ◌≤◌, ◌≡◌, List, [], ◌∷◌, length, get_or, refl, sym, ap, subst, ◌∙◌, arith, ⊎_elim}
use Rattle.std.specs.Prelude.{All, ⊤}
use Rattle.std.proofs.lemmas.Bool.{cases_lt}
use Rattle.std.proofs.lemmas.List.Sums.{sum_by-cons}
use Rattle.std.proofs.Math.Nat.{mul-le-mul_right}
use Rattle.teg_net.specs.declared.entries.PlaceId.{PlaceId}
use Rattle.teg_net.specs.Nets.{NetLists}
use Rattle.teg_net.specs.Parts.{IsPlaceOfPart, IsMember}
use Rattle.teg_net.specs.Ratios.{Fraction}
use Rattle.teg_net.specs.Circuits.{place_at, from_of, IsPathBetween, IsCircuit, time_of, tokens_of}
use Rattle.change_laws.specs.SlowerNets.{IsSlowerPlace, HasSlowerPlaces}
use Rattle.pace_laws.specs.SlowerNets.{SlowerNetsHaveMore, SlowerPartsHaveMore, LiveBySlower}

-- a factor above 0 of both sides
pub cancel : (a b k : ℕ) → 0 < k → a * k ≤ b * k → a ≤ b
cancel a b k p h = ⊎_elim (λ (l : b < a). let m : (b + 1) * k ≤ a * k =
    mul-le-mul_right k (let l : b + 1 ≤ a = omega arith in l) in let e : (b + 1) * k ≡ b * k + k = grind arith in absurd (omega arith))
    (λ (l : a ≤ b). l) (cases_lt b a)

module _ (net slower : NetLists) where
  -- place by place the second list has a slower one
  abbrev pub AreSlower : List PlaceId → List PlaceId → Type 0
  AreSlower [] [] = ⊤
  AreSlower (p ∷ ps) (q ∷ qs) = (q.index < length slower.places) × IsSlowerPlace (place_at net p) (place_at slower q) × AreSlower ps qs
  AreSlower other more = ⊥

  -- the slower places of a path
  found : HasSlowerPlaces net slower → (ps : List PlaceId) (a b : ℕ) → IsPathBetween net a ps b → (qs : List PlaceId) × AreSlower ps qs
  found h [] a b l = ([], tt)
  found h (p ∷ ps) a b l =
      let one = h p l.0 in
      let rest = found h ps (place_at net p).to.index b l.2 in
      (one.0 ∷ rest.0, (one.1, one.2, rest.1))

  as_long : (ps qs : List PlaceId) → AreSlower ps qs → length ps ≡ length qs
  as_long [] [] m = refl
  as_long (p ∷ ps) (q ∷ qs) m = ap suc (as_long ps qs m.2)
  as_long [] (q ∷ qs) m = absurd m
  as_long (p ∷ ps) [] m = absurd m

  -- it is a path between the same transitions
  same_path : (ps qs : List PlaceId) → AreSlower ps qs → (a b : ℕ) → IsPathBetween net a ps b → IsPathBetween slower a qs b
  same_path [] [] m a b l = l
  same_path (p ∷ ps) (q ∷ qs) m a b l =
      (m.0, sym m.1.same_from ∙ l.1, subst (λ x. IsPathBetween slower x qs b) m.1.same_to (same_path ps qs m.2 (place_at net p).to.index b l.2))
  same_path [] (q ∷ qs) m a b l = absurd m
  same_path (p ∷ ps) [] m a b l = absurd m

  -- whose places leave the same transitions
  same_from : (ps qs : List PlaceId) → AreSlower ps qs → (i : ℕ) (d e : PlaceId) → i < length ps → from_of net (get_or ps i d) ≡ from_of slower (get_or qs i e)
  same_from [] [] m i d e l = absurd (omega (arith, l))
  same_from (p ∷ ps) (q ∷ qs) m zero d e l = m.1.same_from
  same_from (p ∷ ps) (q ∷ qs) m (suc i) d e l = same_from ps qs m.2 i d e (omega (arith, l))
  same_from [] (q ∷ qs) m i d e l = absurd m
  same_from (p ∷ ps) [] m i d e l = absurd m

  same_circuit : (ps qs : List PlaceId) → AreSlower ps qs → IsCircuit net ps → IsCircuit slower qs
  same_circuit ps qs m c =
      let long = as_long ps qs m in
      let some = c.not_empty in
      record {
        not_empty = omega (arith, long, some);
        closed = (c.closed.0, same_path ps qs m c.closed.0 c.closed.0 c.closed.1);
        leaves_once = λ i j d l k e.
            let k : j < length ps = omega (arith, long, k) in
            c.leaves_once i j d l k (same_from ps qs m i d d (omega (arith, l, k)) ∙ e ∙ sym (same_from ps qs m j d d k));
      }

  -- its time is no more, and its tokens no less
  more_time : (ps qs : List PlaceId) → AreSlower ps qs → time_of net ps ≤ time_of slower qs
  more_time [] [] m = omega arith
  more_time (p ∷ ps) (q ∷ qs) m =
      let here = m.1.holds in
      let rest = more_time ps qs m.2 in
      let one = sum_by-cons (λ z. (place_at net z).hold) p ps in
      let two = sum_by-cons (λ z. (place_at slower z).hold) q qs in
      omega (arith, here, rest, one, two)
  more_time [] (q ∷ qs) m = absurd m
  more_time (p ∷ ps) [] m = absurd m

  fewer_tokens : (ps qs : List PlaceId) → AreSlower ps qs → tokens_of slower qs ≤ tokens_of net ps
  fewer_tokens [] [] m = omega arith
  fewer_tokens (p ∷ ps) (q ∷ qs) m =
      let here = m.1.tokens in
      let rest = fewer_tokens ps qs m.2 in
      let one = sum_by-cons (λ z. (place_at net z).tokens) p ps in
      let two = sum_by-cons (λ z. (place_at slower z).tokens) q qs in
      omega (arith, here, rest, one, two)
  fewer_tokens [] (q ∷ qs) m = absurd m
  fewer_tokens (p ∷ ps) [] m = absurd m

  -- and in the same part
  same_part : (part_of : List ℕ) (part : ℕ) (ps qs : List PlaceId) → AreSlower ps qs → All (IsPlaceOfPart net part_of part) ps → All (IsPlaceOfPart slower part_of part) qs
  same_part part_of part [] [] m inside i d l = absurd (omega (arith, l))
  same_part part_of part (p ∷ ps) (q ∷ qs) m inside zero d l =
      let k = inside 0 d (omega arith) in
      record {
        in_range = m.0;
        from_member = subst (IsMember part_of part) m.1.same_from k.from_member;
        to_member = subst (IsMember part_of part) m.1.same_to k.to_member;
      }
  same_part part_of part (p ∷ ps) (q ∷ qs) m inside (suc i) d l = same_part part_of part ps qs m.2 (λ j e n. inside (suc j) e (omega (arith, n))) i d (omega (arith, l))
  same_part part_of part [] (q ∷ qs) m inside i d l = absurd m
  same_part part_of part (p ∷ ps) [] m inside i d l = absurd m

  -- a circuit of the slower net of such places
  pub slowed : HasSlowerPlaces net slower → (ps : List PlaceId) → IsCircuit net ps → (qs : List PlaceId) × AreSlower ps qs × IsCircuit slower qs
  slowed h ps c = let w = found h ps c.closed.0 c.closed.0 c.closed.1 in (w.0, w.1, same_circuit ps w.0 w.1 c)

-- a ratio of time and tokens that a slower one bounds
pub bounded : (time tokens time2 tokens2 a b c d : ℕ) → 0 < tokens → time ≤ time2 → tokens2 ≤ tokens → time * b ≡ a * tokens → time2 * d ≤ c * tokens2 → a * d ≤ c * b
bounded time tokens time2 tokens2 a b c d some less more is most =
    let one : time * d ≤ time2 * d = mul-le-mul_right d less in
    let two : tokens2 * c ≤ tokens * c = mul-le-mul_right c more in
    let three : time * d ≤ c * tokens = grind (arith, one, two, most) in
    let four : time * d * b ≤ c * tokens * b = mul-le-mul_right b three in
    let five : time * d * b ≡ a * d * tokens = swapped time b a tokens d is in
    let six : c * tokens * b ≡ c * b * tokens = grind arith in
    cancel (a * d) (c * b) tokens some (omega arith) where
      swapped : (time b a tokens d : ℕ) → time * b ≡ a * tokens → time * d * b ≡ a * d * tokens
      swapped time b a tokens d is =
          let one : time * d * b ≡ d * (time * b) = grind arith in
          let two : a * d * tokens ≡ d * (a * tokens) = grind arith in
          one ∙ ap (λ x. d * x) is ∙ sym two

pub live_by_slower : LiveBySlower
live_by_slower net slower h live ps c none =
    let w = slowed net slower h ps c in
    let less = fewer_tokens net slower ps w.0 w.1 in
    live w.0 w.2 (omega (arith, less, none))

-- a circuit with the first net's ratio is bounded by the second's
by_circuit : (net slower : NetLists) (r s : Fraction) (ps qs : List PlaceId) → 1 ≤ tokens_of net ps → AreSlower net slower ps qs
    → time_of net ps * r.tokens ≡ r.time * tokens_of net ps → time_of slower qs * s.tokens ≤ s.time * tokens_of slower qs → r.time * s.tokens ≤ s.time * r.tokens
by_circuit net slower r s ps qs some m is most =
    let less = more_time net slower ps qs m in
    let more = fewer_tokens net slower ps qs m in
    bounded (time_of net ps) (tokens_of net ps) (time_of slower qs) (tokens_of slower qs) r.time r.tokens s.time s.tokens some less more is most

pub slower_nets : SlowerNetsHaveMore
slower_nets net slower r s h g k =
    let w = slowed net slower h g.attained.0 g.attained.1 in
    by_circuit net slower r s g.attained.0 w.0 g.token w.1 g.attained.3 (k.greatest w.0 w.2 (λ i d l. tt))

pub slower_parts : SlowerPartsHaveMore
slower_parts net slower part_of part r s h g k =
    let w = slowed net slower h g.attained.0 g.attained.1 in
    by_circuit net slower r s g.attained.0 w.0 g.token w.1 g.attained.3
    (k.greatest w.0 w.2 (same_part net slower part_of part g.attained.0 w.0 w.1 g.attained.2))
