-- The net with one hold raised: its circuits are those of the net.
use Rattle.std.proofs.Common.{ℕ, zero, suc, ◌+◌, ◌<◌, ◌≡◌, ◌≢◌, List, [], ◌∷◌, length, get_or, refl, sym, ap, subst, ◌∙◌, arith, ◌⊎◌, inl, inr, ⊎_elim}
use Rattle.std.specs.Prelude.{All, Contains, sum_by}
use Rattle.std.proofs.lemmas.Bool.{cases_eq}
use Rattle.std.proofs.lemmas.List.{length-set, get_or-set_same, get_or-set_other}
use Rattle.std.proofs.lemmas.List.Sums.{sum_by-cons}
use Rattle.teg_net.specs.declared.entries.PlaceId.{PlaceId}
use Rattle.teg_net.specs.declared.entries.Place.{Place}
use Rattle.teg_net.specs.Nets.{NetLists}
use Rattle.teg_net.specs.Circuits.{no_place, place_at, from_of, IsPathBetween, IsCircuit, time_of, tokens_of}
use Rattle.teg_net.specs.Parts.{to_of}
use Rattle.teg_loops.proofs.Through.{IsThrough, through}
use Rattle.teg_critical.specs.Slacks.{raised_place, raised}

sum_same : (f g : PlaceId → ℕ) (ps : List PlaceId) → All (λ q. f q ≡ g q) ps → sum_by f ps ≡ sum_by g ps
sum_same f g [] h = refl
sum_same f g (p ∷ ps) h =
    let one = sum_by-cons f p ps in
    let two = sum_by-cons g p ps in
    let here : f p ≡ g p = h 0 p (omega arith) in
    let rest = sum_same f g ps (λ i d l. h (suc i) d (omega arith)) in
    omega arith

-- a place of the net, and the place of that number with the hold raised at p
record IsRaised (p : PlaceId) (d : ℕ) (q : PlaceId) (old new : Place) : Type 0 where
  from : new.from ≡ old.from
  to : new.to ≡ old.to
  tokens : new.tokens ≡ old.tokens
  here : q.index ≡ p.index → new.hold ≡ old.hold + d
  other : q.index ≢ p.index → new.hold ≡ old.hold

module _ (net : NetLists) (p : PlaceId) (d : ℕ) (l : p.index < length net.places) where
  abbrev up : NetLists
  up = raised net p d

  raised_is : (q : PlaceId) → IsRaised p d q (place_at net q) (place_at up q)
  raised_is q =
      ⊎_elim
      (λ (e : q.index ≡ p.index).
      let is : place_at up q ≡ raised_place d (place_at net q) =
      ap (λ i. get_or up.places i no_place) e ∙ (get_or-set_same net.places p.index (raised_place d (place_at net p)) no_place l ∙ ap (λ i. raised_place d (get_or net.places i no_place)) (sym e)) in
      record { from = ap (λ z. z.from) is; to = ap (λ z. z.to) is; tokens = ap (λ z. z.tokens) is; here = λ f. ap (λ z. z.hold) is; other = λ f. absurd (f e) })
      (λ (e : q.index ≢ p.index).
      let is : place_at up q ≡ place_at net q = get_or-set_other net.places p.index q.index (raised_place d (place_at net p)) no_place e in
      record { from = ap (λ z. z.from) is; to = ap (λ z. z.to) is; tokens = ap (λ z. z.tokens) is; here = λ f. absurd (e f); other = λ f. ap (λ z. z.hold) is })
      (cases_eq q.index p.index)

  from_is : (q : PlaceId) → from_of up q ≡ from_of net q
  from_is q = ap (λ t. t.index) (raised_is q).from

  to_is : (q : PlaceId) → to_of up q ≡ to_of net q
  to_is q = ap (λ t. t.index) (raised_is q).to

  long : length up.places ≡ length net.places
  long = length-set net.places p.index (raised_place d (place_at net p))

  path_up : (ps : List PlaceId) (a b : ℕ) → IsPathBetween net a ps b → IsPathBetween up a ps b
  path_up [] a b h = h
  path_up (q ∷ ps) a b h = (omega (arith, h.0, long), from_is q ∙ h.1, subst (λ z. IsPathBetween up z ps b) (sym (to_is q)) (path_up ps (to_of net q) b h.2))

  path_down : (ps : List PlaceId) (a b : ℕ) → IsPathBetween up a ps b → IsPathBetween net a ps b
  path_down [] a b h = h
  path_down (q ∷ ps) a b h = (omega (arith, h.0, long), sym (from_is q) ∙ h.1, path_down ps (to_of net q) b (subst (λ z. IsPathBetween up z ps b) (to_is q) h.2))

  -- a circuit of the net is one of the raised net
  pub circuit_up : (ps : List PlaceId) → IsCircuit net ps → IsCircuit up ps
  circuit_up ps c = record {
    not_empty = c.not_empty;
    closed = (c.closed.0, path_up ps c.closed.0 c.closed.0 c.closed.1);
    leaves_once = λ i j e m n same. c.leaves_once i j e m n (sym (from_is (get_or ps i e)) ∙ (same ∙ from_is (get_or ps j e)));
  }

  -- a circuit of the raised net is one of the net
  pub circuit_down : (ps : List PlaceId) → IsCircuit up ps → IsCircuit net ps
  circuit_down ps c = record {
    not_empty = c.not_empty;
    closed = (c.closed.0, path_down ps c.closed.0 c.closed.0 c.closed.1);
    leaves_once = λ i j e m n same. c.leaves_once i j e m n (from_is (get_or ps i e) ∙ (same ∙ sym (from_is (get_or ps j e))));
  }

  -- with as many tokens
  pub tokens_same : (ps : List PlaceId) → tokens_of up ps ≡ tokens_of net ps
  tokens_same ps = sum_same (λ q. (place_at up q).tokens) (λ q. (place_at net q).tokens) ps (λ i e m. (raised_is (get_or ps i e)).tokens)

  -- and the same time where it does not pass p
  pub time_without : (ps : List PlaceId) → All (λ q. q.index ≢ p.index) ps → time_of up ps ≡ time_of net ps
  time_without ps h = sum_same (λ q. (place_at up q).hold) (λ q. (place_at net q).hold) ps (λ i e m. (raised_is (get_or ps i e)).other (h i e m))

  -- and d more where it passes p
  pub time_with : (ps : List PlaceId) → IsCircuit net ps → Contains ps p → time_of up ps ≡ time_of net ps + d
  time_with ps c passes =
      let t : IsThrough net p ps = through net p ps c passes in
      let old = t.same (λ q. (place_at net q).hold) in
      let new = t.same (λ q. (place_at up q).hold) in
      let here = (raised_is p).here refl in
      let rest = time_without t.others (λ i e m same. t.once i e m (ap (λ z. from_of net (record { index = z })) (sym same))) in
      omega arith

-- a list passes the place, or none of its places has that number
pub passes_or_not : (p : PlaceId) (ps : List PlaceId) → Contains ps p ⊎ All (λ q. q.index ≢ p.index) ps
passes_or_not p [] = inr (λ i d l. absurd (omega arith))
passes_or_not p (q ∷ ps) =
    ⊎_elim
    (λ (e : q.index ≡ p.index). inl (0, omega arith, ap (λ i. record { index = i }) e))
    (λ (e : q.index ≢ p.index).
    ⊎_elim
    (λ (h : Contains ps p). inl (suc h.0, omega (arith, h.1), h.2))
    (λ (h : All (λ x. x.index ≢ p.index) ps). inr (none_more e h))
    (passes_or_not p ps))
    (cases_eq q.index p.index) where
      none_more : q.index ≢ p.index → All (λ x. x.index ≢ p.index) ps → All (λ x. x.index ≢ p.index) (q ∷ ps)
      none_more e h zero d l = e
      none_more e h (suc i) d l = h i d (omega arith)
