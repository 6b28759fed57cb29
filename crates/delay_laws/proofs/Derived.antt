-- A net of releases is live where its net is, and its places are those of the net and one for each release.
use Rattle.std.proofs.Common.{ℕ, ◌+◌, ◌-◌, ◌<◌, ◌≤◌, ◌≡◌, List, [], ◌∷◌, length, refl, sym, subst, ◌∙◌, arith, ⊎_elim, inl, inr}
use Rattle.std.specs.Prelude.{All, ◌⊎◌}
use Rattle.std.proofs.lemmas.Bool.{cases_lt}
use Rattle.std.proofs.lemmas.List.Elements.{All-cons, All-tail}
use Rattle.std.proofs.lemmas.List.Sums.{sum_by-cons}
use Rattle.teg_net.specs.declared.entries.PlaceId.{PlaceId}
use Rattle.teg_net.specs.Nets.{NetLists}
use Rattle.teg_net.specs.Circuits.{place_at, from_of, IsPathBetween, IsCircuit, tokens_of, IsLive}
use Rattle.teg_net.specs.Parts.{to_of}
use Rattle.periodic_laws.specs.teg_model.LiveRanks.{HasEndsInRange}
use Rattle.delay_laws.specs.declared.table.Timetable.{Timetable}
use Rattle.delay_laws.specs.ReleaseNets.{IsSamePlace, release_place, IsReleaseNet}
use Rattle.delay_laws.specs.SettlingLaws.{ReleaseNetsAreLive}

module _ (net : NetLists) (ends : HasEndsInRange net) (period : ℕ) (t : Timetable) (derived : NetLists) (r : IsReleaseNet net period t derived) where
  abbrev n : ℕ
  n = length net.transitions

  abbrev m : ℕ
  m = length net.places

  -- a place of the net of releases is one of the net's, or one of a release
  pub which : (p : PlaceId) → p.index < length derived.places
      → ((p.index < m) × IsSamePlace (place_at derived p) (place_at net p)) ⊎ ((i : ℕ) × (i < n) × (p.index ≡ m + i) × IsSamePlace (place_at derived p) (release_place n i))
  which p l =
      let count = r.place_count in
      ⊎_elim
      (λ (q : p.index < m). inl (q, r.own p.index q))
      (λ (q : m ≤ p.index).
      let e : m + (p.index - m) ≡ p.index = omega arith in
      inr (p.index - m, omega arith, sym e, subst (λ (z : ℕ). IsSamePlace (place_at derived (record { index = z })) (release_place n (p.index - m))) e (r.added (p.index - m) (omega arith))))
      (cases_lt p.index m)

  -- each place leads to a transition of the net
  pub leads_below : (p : PlaceId) → p.index < length derived.places → to_of derived p < n
  leads_below p l =
      ⊎_elim
      (λ (a : (p.index < m) × IsSamePlace (place_at derived p) (place_at net p)). rw (a.1.to) (ends p.index _ a.0).1)
      (λ (a : (i : ℕ) × (i < n) × (p.index ≡ m + i) × IsSamePlace (place_at derived p) (release_place n i)). rw (a.3.to) a.1)
      (which p l)

  end_below : (ps : List PlaceId) (a b : ℕ) → 0 < length ps → IsPathBetween derived a ps b → b < n
  end_below [] a b l h = absurd (omega arith)
  end_below (p ∷ []) a b l h = let e : (place_at derived p).to.index ≡ b = h.2 in subst (λ (z : ℕ). z < n) e (leads_below p h.0)
  end_below (p ∷ q ∷ ps) a b l h = end_below (q ∷ ps) (place_at derived p).to.index b (omega arith) h.2

  -- what leaves a transition of the net is a place of the net
  own_place : (p : PlaceId) → p.index < length derived.places → from_of derived p < n → (p.index < m) × IsSamePlace (place_at derived p) (place_at net p)
  own_place p l b =
      ⊎_elim
      (λ (a : (p.index < m) × IsSamePlace (place_at derived p) (place_at net p)). a)
      (λ (a : (i : ℕ) × (i < n) × (p.index ≡ m + i) × IsSamePlace (place_at derived p) (release_place n i)). let from = a.3.from in absurd (omega arith))
      (which p l)

  own_path : (ps : List PlaceId) (a b : ℕ) → a < n → IsPathBetween derived a ps b → IsPathBetween net a ps b × All (λ p. IsSamePlace (place_at derived p) (place_at net p)) ps
  own_path [] a b l h = (h, λ i d k. absurd (omega arith))
  own_path (p ∷ ps) a b l h =
      let from : from_of derived p ≡ a = h.1 in
      let own = own_place p h.0 (omega arith) in
      let rest = own_path ps (place_at derived p).to.index b (leads_below p h.0) h.2 in (
        (own.0, sym own.1.from ∙ from, subst (λ (z : ℕ). IsPathBetween net z ps b) own.1.to rest.0),
        All-cons (λ q. IsSamePlace (place_at derived q) (place_at net q)) p ps own.1 rest.1,
      )

  same_tokens : (ps : List PlaceId) → All (λ p. IsSamePlace (place_at derived p) (place_at net p)) ps → tokens_of net ps ≡ tokens_of derived ps
  same_tokens [] all = refl
  same_tokens (p ∷ ps) all =
      let here = (all 0 p (omega arith)).tokens in
      let rest = same_tokens ps (All-tail (λ q. IsSamePlace (place_at derived q) (place_at net q)) p ps all) in
      let one : tokens_of net (p ∷ ps) ≡ (place_at net p).tokens + tokens_of net ps = sum_by-cons (λ q. (place_at net q).tokens) p ps in
      let two : tokens_of derived (p ∷ ps) ≡ (place_at derived p).tokens + tokens_of derived ps = sum_by-cons (λ q. (place_at derived q).tokens) p ps in
      omega arith

  own_circuit : (ps : List PlaceId) → IsCircuit derived ps → IsCircuit net ps × (tokens_of net ps ≡ tokens_of derived ps)
  own_circuit ps c =
      let a : ℕ = c.closed.0 in
      let own = own_path ps a a (end_below ps a a c.not_empty c.closed.1) c.closed.1 in (
        record {
          not_empty = c.not_empty;
          closed = (a, own.0);
          leaves_once = λ i j d k l e. c.leaves_once i j d k l ((own.1 i d (omega arith)).from ∙ e ∙ sym (own.1 j d l).from);
        },
        same_tokens ps own.1,
      )

  pub stays_live : IsLive net → IsLive derived
  stays_live live ps c none = let own = own_circuit ps c in live ps own.0 (own.1 ∙ none)

pub release_nets_are_live : ReleaseNetsAreLive
release_nets_are_live net ends live period t derived r = stays_live net ends period t derived r live
