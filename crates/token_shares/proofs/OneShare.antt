-- Over one place the numbers that are enough are those of that place, and so what is told is the same.
use Rattle.std.proofs.Common.{ℕ, zero, suc, ◌+◌, ◌*◌, ◌<◌, ◌≤◌, ◌≡◌, ◌≢◌, List, [], ◌∷◌, Option, Some, None, length, get_or, sum, refl, sym, ap, subst, ◌∙◌, arith, inl, inr, ⊎_elim}
use Rattle.std.specs.Prelude.{AllPairs, Contains, ◌⊎◌}
use Rattle.std.proofs.lemmas.Bool.{cases_lt, cases_eq}
use Rattle.std.proofs.lemmas.List.Elements.{All-cons, All-nil, All-set, All-tail}
use Rattle.std.proofs.lemmas.List.Sums.{sum_by-cons}
use Rattle.teg_net.specs.declared.circuits.Circuit.{Circuit}
use Rattle.teg_net.specs.declared.entries.Place.{Place}
use Rattle.teg_net.specs.declared.entries.PlaceId.{PlaceId}
use Rattle.teg_net.specs.Changes.{place_with_tokens, with_tokens}
use Rattle.teg_net.specs.Circuits.{no_place, place_at, from_of, IsCircuit, time_of, tokens_of}
use Rattle.teg_net.specs.Limits.{most_place_tokens}
use Rattle.teg_net.specs.Nets.{NetLists, IsNet}
use Rattle.teg_net.specs.Ratios.{Fraction}
use Rattle.teg_net.proofs.Reading.{same_id}
use Rattle.teg_certificates.specs.Sizes.{IsEnough}
use Rattle.teg_sizing.specs.declared.sizing.Sizing.{Sizing}
use Rattle.teg_sizing.specs.declared.sizing.Sizing.TheVariants as sizing
use Rattle.teg_sizing.specs.Sizings.{IsSizing}
use Rattle.teg_sizing.specs.ValueRounds.{Avoids}
use Rattle.teg_sizing.proofs.Values.{contains_or_avoids, not_both}
use Rattle.token_shares.specs.declared.fewest.Shares.{Shares}
use Rattle.token_shares.specs.declared.fewest.Shares.TheVariants as shares
use Rattle.token_shares.specs.KeptCuts.{one_at, times_passed}
use Rattle.token_shares.specs.OnePlace.{AreOneAnswer, SharesOfOneAreEnoughAlone, SharesOfOneAreItsSize}
use Rattle.token_shares.specs.TokenShares.{AreEnough, HasRoom, IsShares, KeepsTarget, with_further}
use Rattle.token_shares.proofs.Further.{circuit_back, circuit_forth, count_further, one_apart, one_here, time_further, tokens_further}
use Rattle.token_shares.proofs.Places.{new_at}

-- ---- how often a circuit passes a place

never : (p : PlaceId) (ps : List PlaceId) → Avoids p ps → times_passed p ps ≡ 0
never p [] a = refl
never p (q ∷ ps) a =
    let here : one_at p q ≡ 0 = one_apart p q (a 0 q (omega arith)) in
    let rest = never p ps (All-tail (λ (x : PlaceId). x.index ≢ p.index) q ps a) in
    let both = sum_by-cons (one_at p) q ps in
    omega (arith, here, rest, both)

-- a path that leaves no transition twice passes none of its places twice
others_avoid : (net : NetLists) (p q : PlaceId) (ps : List PlaceId) → AllPairs (λ a b. from_of net a ≢ from_of net b) (q ∷ ps) → q.index ≡ p.index → Avoids p ps
others_avoid net p q ps once e = λ i d l same.
    let r : PlaceId = get_or ps i d in
    let is : q ≡ r = same_id q r (e ∙ sym same) in
    once 0 (suc i) d (omega arith) (omega arith) (ap (from_of net) is)

avoids_more : (p q : PlaceId) (ps : List PlaceId) → q.index ≢ p.index → Avoids p ps → Avoids p (q ∷ ps)
avoids_more p q ps ne a zero d l = ne
avoids_more p q ps ne a (suc i) d l = a i d (omega arith)

has_rest : (p q : PlaceId) (ps : List PlaceId) → q.index ≢ p.index → Contains (q ∷ ps) p → Contains ps p
has_rest p q ps ne h =
    ⊎_elim (λ (has : Contains ps p). has) (λ (a : Avoids p ps). absurd (not_both p (q ∷ ps) h (avoids_more p q ps ne a))) (contains_or_avoids p ps)

once : (net : NetLists) (p : PlaceId) (ps : List PlaceId) → AllPairs (λ a b. from_of net a ≢ from_of net b) ps → Contains ps p → times_passed p ps ≡ 1
once net p [] apart h = absurd (omega (arith, h.1))
once net p (q ∷ ps) apart h =
    let both = sum_by-cons (one_at p) q ps in
    ⊎_elim
    (λ (e : q.index ≡ p.index).
    let here : one_at p q ≡ 1 = one_here p q e in
    let rest = never p ps (others_avoid net p q ps apart e) in
    omega (arith, here, rest, both))
    (λ (ne : q.index ≢ p.index).
    let here : one_at p q ≡ 0 = one_apart p q ne in
    let rest = once net p ps (λ i j d b w. apart (suc i) (suc j) d (omega arith) (omega arith)) (has_rest p q ps ne h) in
    omega (arith, here, rest, both))
    (cases_eq q.index p.index)

-- ---- what is enough

module _ (net : NetLists) (r : Fraction) (p : PlaceId) (d : ℕ) (l : p.index < length net.places) where
  abbrev more : NetLists
  more = with_further net (p ∷ []) (d ∷ [])

  tokens_by : (ps : List PlaceId) (n : ℕ) → times_passed p ps ≡ n → tokens_of more ps ≡ tokens_of net ps + n * d
  tokens_by ps n e =
      let all : tokens_of more ps ≡ tokens_of net ps + (times_passed p ps * d + 0) = tokens_further net (p ∷ []) (d ∷ []) ps (All-cons (λ q. q.index < length net.places) p [] l (All-nil (λ q. q.index < length net.places))) in
      rw (← e) (omega (arith, all))

  with_one : (ps : List PlaceId) → IsCircuit net ps → Contains ps p → tokens_of more ps ≡ tokens_of net ps + d
  with_one ps c has = let e = tokens_by ps 1 (once net p ps c.leaves_once has) in omega (arith, e)

  with_none : (ps : List PlaceId) → (Contains ps p → ⊥) → tokens_of more ps ≡ tokens_of net ps
  with_none ps apart =
      let e = tokens_by ps 0 (never p ps (⊎_elim (λ (has : Contains ps p). absurd (apart has)) (λ (a : Avoids p ps). a) (contains_or_avoids p ps))) in
      omega (arith, e)

  same_time : (ps : List PlaceId) → time_of more ps ≡ time_of net ps
  same_time ps = time_further net (p ∷ []) (d ∷ []) ps

  low_of : (ps : List PlaceId) (n : ℕ) → tokens_of more ps ≡ n → time_of more ps * r.tokens ≤ r.time * tokens_of more ps → time_of net ps * r.tokens ≤ r.time * n
  low_of ps n e low = subst (λ k. time_of net ps * r.tokens ≤ r.time * k) e (subst (λ k. k * r.tokens ≤ r.time * tokens_of more ps) (same_time ps) low)

  low_to : (ps : List PlaceId) (n : ℕ) → tokens_of more ps ≡ n → time_of net ps * r.tokens ≤ r.time * n → time_of more ps * r.tokens ≤ r.time * tokens_of more ps
  low_to ps n e low = subst (λ k. time_of more ps * r.tokens ≤ r.time * k) (sym e) (subst (λ k. k * r.tokens ≤ r.time * n) (sym (same_time ps)) low)

  enough_alone : AreEnough net r (p ∷ []) (d ∷ []) → IsEnough net r p d
  enough_alone h = record {
    passing = λ ps c has. low_of ps (tokens_of net ps + d) (with_one ps c has) (h.kept ps (circuit_back net (p ∷ []) (d ∷ []) ps c));
    others = λ ps c no. low_of ps (tokens_of net ps) (with_none ps no) (h.kept ps (circuit_back net (p ∷ []) (d ∷ []) ps c));
  }

  kept_shared : IsEnough net r p d → KeepsTarget more r
  kept_shared h ps c =
      let own : IsCircuit net ps = circuit_forth net (p ∷ []) (d ∷ []) ps c in
      ⊎_elim
      (λ (has : Contains ps p). low_to ps (tokens_of net ps + d) (with_one ps own has) (h.passing ps own has))
      (λ (a : Avoids p ps).
      let no : Contains ps p → ⊥ = λ has. not_both p ps has a in
      low_to ps (tokens_of net ps) (with_none ps no) (h.others ps own no))
      (contains_or_avoids p ps)

  enough_shared : IsEnough net r p d → AreEnough net r (p ∷ []) (d ∷ [])
  enough_shared h = record { count = refl; kept = kept_shared h }

  -- ---- and finds room

  room_of : HasRoom net (p ∷ []) (d ∷ []) → (place_at net p).tokens + d ≤ most_place_tokens
  room_of h =
      let new : Place = place_with_tokens ((place_at net p).tokens + d) (place_at net p) in
      let is : place_at (with_tokens net p ((place_at net p).tokens + d)) p ≡ new = new_at net p p new l refl in
      let there : p.index < length more.places = rw (count_further net (p ∷ []) (d ∷ [])) l in
      let few : (place_at more p).tokens ≤ most_place_tokens = h p.index no_place there in
      subst (λ (q : Place). q.tokens ≤ most_place_tokens) is few

  room_to : IsNet net → (place_at net p).tokens + d ≤ most_place_tokens → HasRoom net (p ∷ []) (d ∷ [])
  room_to ok few =
      All-set (λ (q : Place). q.tokens ≤ most_place_tokens) net.places p.index (place_with_tokens ((place_at net p).tokens + d) (place_at net p)) few
      (λ i e in'. let own = ok.each_place i e in' in own.tokens_in)

pub enough_both : SharesOfOneAreEnoughAlone
enough_both net r p d l = record { alone = enough_alone net r p d l; shared = enough_shared net r p d l }

-- ---- what is told

one_of : (xs : List ℕ) → length xs ≡ 1 → xs ≡ get_or xs 0 0 ∷ []
one_of [] e = absurd (omega (arith, e))
one_of (x ∷ []) e = refl
one_of (x ∷ (y ∷ xs)) e = absurd (omega (arith, e))

module _ (net : NetLists) (r : Fraction) (p : PlaceId) (most : ℕ) (ok : IsNet net) (l : p.index < length net.places) where
  -- the least number that is enough of the place
  record IsLeast (n : ℕ) : Type 0 where
    enough : IsEnough net r p n
    least : (d : ℕ) → IsEnough net r p d → n ≤ d

  same_number : (ds : List ℕ) (n : ℕ) → IsLeast n → AreEnough net r (p ∷ []) ds → HasRoom net (p ∷ []) ds
      → ((es : List ℕ) → AreEnough net r (p ∷ []) es → HasRoom net (p ∷ []) es → sum ds ≤ sum es) → ds ≡ n ∷ []
  same_number ds n h enough room least =
      let d : ℕ = get_or ds 0 0 in
      let one : ds ≡ d ∷ [] = one_of ds enough.count in
      let below : n ≤ d = h.least d (enough_alone net r p d l (subst (AreEnough net r (p ∷ [])) one enough)) in
      let found : (place_at net p).tokens + d ≤ most_place_tokens = room_of net r p d l (subst (HasRoom net (p ∷ [])) one room) in
      let above : sum ds ≤ sum (n ∷ []) = least (n ∷ []) (enough_shared net r p n l h.enough) (room_to net r p n l ok (omega (arith, below, found))) in
      let same : sum ds ≡ sum (d ∷ []) = ap sum one in
      let is : d ≡ n = omega (arith, below, above, same) in
      one ∙ ap (λ k. k ∷ []) is

  -- what is more than the budget, or finds no room
  beyond : (n : ℕ) → IsLeast n → ((es : List ℕ) → AreEnough net r (p ∷ []) es → HasRoom net (p ∷ []) es → most + 1 ≤ sum es)
      → (most < n) ⊎ (most_place_tokens < (place_at net p).tokens + n)
  beyond n h none =
      ⊎_elim
      (λ (crowded : most_place_tokens < (place_at net p).tokens + n). inr crowded)
      (λ (room : (place_at net p).tokens + n ≤ most_place_tokens).
      let long : most + 1 ≤ sum (n ∷ []) = none (n ∷ []) (enough_shared net r p n l h.enough) (room_to net r p n l ok room) in
      inl (omega (arith, long)))
      (cases_lt most_place_tokens ((place_at net p).tokens + n))

  some_alone : (ds : List ℕ) → AreEnough net r (p ∷ []) ds → IsEnough net r p (get_or ds 0 0)
  some_alone ds enough = enough_alone net r p (get_or ds 0 0) l (subst (AreEnough net r (p ∷ [])) (one_of ds enough.count) enough)

  least_of : (extra : ℕ) (circuit : Option Circuit) → IsSizing net r p (sizing.Enough extra circuit) → IsLeast extra
  least_of extra None h = record { enough = subst (IsEnough net r p) (sym h.0) h.1; least = λ d e. let none = h.0 in omega (arith, none) }
  least_of extra (Some circuit) h = record { enough = h.enough; least = h.least }

  agree : (told : Shares) (size : Sizing) → IsShares net r (p ∷ []) most told → IsSizing net r p size → AreOneAnswer net p most told size
  agree (shares.Enough extra) (sizing.Enough alone circuit) h s = same_number extra.items alone (least_of alone circuit s) h.enough h.room h.least
  agree (shares.Enough extra) (sizing.Impossible circuit) h s = s.none (get_or extra.items 0 0) (some_alone extra.items h.enough)
  agree (shares.Impossible circuit) (sizing.Enough alone other) h s = let n = least_of alone other s in h.none (alone ∷ []) (enough_shared net r p alone l n.enough)
  agree (shares.Impossible circuit) (sizing.Impossible other) h s = tt
  agree shares.More (sizing.Enough alone circuit) h s = beyond alone (least_of alone circuit s) h.1
  agree shares.More (sizing.Impossible circuit) h s = s.none (get_or h.0.0 0 0) (some_alone h.0.0 h.0.1)

pub one_answer : SharesOfOneAreItsSize
one_answer net r p most told size ok l h s = agree net r p most ok l told size h s
