-- What another place between the same transitions leaves of the parts of a net.
use Rattle.std.proofs.Common.{ℕ, ◌<◌, ◌≤◌, ◌≡◌, List, length, get_or, refl, sym, ap, subst, ◌∙◌, ⊎_elim}
use Rattle.std.specs.Prelude.{slice_index, All}
use Rattle.std.proofs.lemmas.Bool.{cases_lt, cases_eq}
use Rattle.std.proofs.lemmas.List.{get_or-set_other, get_or_default, length-set, set_past}
use Rattle.std.proofs.lemmas.Grind.{get_or-set_at}
use Rattle.teg_net.specs.declared.entries.Place.{Place}
use Rattle.teg_net.specs.declared.entries.PlaceId.{PlaceId}
use Rattle.teg_net.specs.Changes.{with_place, place_with_hold, place_with_tokens}
use Rattle.teg_net.specs.Circuits.{no_place, place_at}
use Rattle.teg_net.specs.Nets.{NetLists}
use Rattle.teg_net.specs.Parts.{Reaches, IsMember, IsPlaceOfPart}
use Rattle.teg_net.proofs.Changing.{HaveSameEnds, path_along}
use Rattle.teg_parts.specs.Partitions.{PartLists, AreParts}
use Rattle.part_changes.specs.KeptParts.{HasSameEnds, SameEndsKeepParts, HoldsKeepParts, TokensKeepParts}

-- what the other place leaves of the place at its number, it leaves of each place
kept :
    {X : Type 0} (part : Place → X) (net : NetLists) (id : PlaceId) (place : Place) → part place ≡ part (place_at net id)
    → (p : PlaceId) → part (place_at (with_place net id place) p) ≡ part (place_at net p)
kept part net id place same p =
    ⊎_elim
    (λ (e : p.index ≡ id.index).
    ⊎_elim
    (λ (l : id.index < length net.places).
    ap part (get_or-set_at net.places id.index p.index place no_place e l) ∙ (same ∙ ap (λ k. part (get_or net.places k no_place)) (sym e)))
    (λ (l : length net.places ≤ id.index). ap (λ places. part (get_or places p.index no_place)) (set_past net.places id.index place l))
    (cases_lt id.index (length net.places)))
    (λ other. ap part (get_or-set_other net.places id.index p.index place no_place other))
    (cases_eq p.index id.index)

back : (net : NetLists) (id : PlaceId) (place : Place) → HasSameEnds place (place_at net id) → HaveSameEnds (with_place net id place) net
back net id place h = record {
  count = length-set net.places id.index place;
  from = kept (λ p. p.from) net id place h.from;
  to = kept (λ p. p.to) net id place h.to;
}

module _ (m n : NetLists) (there : HaveSameEnds m n) (back : HaveSameEnds n m) where
  reach : (a b : ℕ) → Reaches m a b → Reaches n a b
  reach a b r = (r.0, path_along m n there r.0 a b r.1)

  reach_back : (a b : ℕ) → Reaches n a b → Reaches m a b
  reach_back a b r = (r.0, path_along n m back r.0 a b r.1)

  inside : (part_of : List ℕ) (k : ℕ) (q : PlaceId) → IsPlaceOfPart m part_of k q → IsPlaceOfPart n part_of k q
  inside part_of k q h = record {
    in_range = subst (λ (c : ℕ). q.index < c) there.count h.in_range;
    from_member = subst (IsMember part_of k) (ap (λ t. t.index) (there.from q)) h.from_member;
    to_member = subst (IsMember part_of k) (ap (λ t. t.index) (there.to q)) h.to_member;
  }

  inside_back : (part_of : List ℕ) (k : ℕ) (q : PlaceId) → IsPlaceOfPart n part_of k q → IsPlaceOfPart m part_of k q
  inside_back part_of k q h = record {
    in_range = subst (λ (c : ℕ). q.index < c) back.count h.in_range;
    from_member = subst (IsMember part_of k) (ap (λ t. t.index) (back.from q)) h.from_member;
    to_member = subst (IsMember part_of k) (ap (λ t. t.index) (back.to q)) h.to_member;
  }

  -- no number falls along a place
  rises : (part_of : List ℕ) → All (λ q. slice_index part_of q.from.index ≤ slice_index part_of q.to.index) m.places
      → All (λ q. slice_index part_of q.from.index ≤ slice_index part_of q.to.index) n.places
  rises part_of h k d l =
      let id : PlaceId = record { index = k } in
      let old = h k no_place (subst (λ (c : ℕ). k < c) back.count l) in
      let from = subst (λ (t : ℕ). slice_index part_of t ≤ slice_index part_of (place_at m id).to.index) (ap (λ t. t.index) (there.from id)) old in
      let both = subst (λ (t : ℕ). slice_index part_of (place_at n id).from.index ≤ slice_index part_of t) (ap (λ t. t.index) (there.to id)) from in
      subst (λ (q : Place). slice_index part_of q.from.index ≤ slice_index part_of q.to.index) (get_or_default n.places k no_place d l) both

  -- nets with the same ends of places have the same parts
  pub parts_along : (parts : PartLists) → length m.transitions ≡ length n.transitions → AreParts m parts → AreParts n parts
  parts_along parts same h = record {
    strong = record {
      count = h.strong.count ∙ same;
      strong = λ t u lt lu.
          let old = h.strong.strong t u lt lu in
          ((λ e. let r = old.0 e in (reach t u r.0, reach u t r.1)), (λ r. old.1 (reach_back t u r.0, reach_back u t r.1)));
    };
    below = h.below;
    some_member = h.some_member;
    rises = rises parts.part_of h.rises;
    order = record {
      may = λ k lk t u member lu r other. h.order.may k lk t u member lu (reach_back u t r) other;
      lowest = λ k j lt lj may. h.order.lowest k j lt lj (λ t u member lu r other. may t u member lu (reach u t r) other);
    };
    inner = λ k lk.
        let old = h.inner k lk in
        ((λ e. let q = old.0 e in (q.0, inside parts.part_of k q.0 q.1)), (λ q. old.1 (q.0, inside_back parts.part_of k q.0 q.1)));
  }

pub same_ends : SameEndsKeepParts
same_ends net id place parts ends h =
    let there = back net id place ends in
    let here : HaveSameEnds net (with_place net id place) = record { count = sym there.count; from = λ p. sym (there.from p); to = λ p. sym (there.to p) } in
    parts_along net (with_place net id place) here there parts refl h

pub kept_by_holds : HoldsKeepParts
kept_by_holds net id hold parts h = same_ends net id (place_with_hold hold (place_at net id)) parts (record { from = refl; to = refl }) h

pub kept_by_tokens : TokensKeepParts
kept_by_tokens net id tokens parts h = same_ends net id (place_with_tokens tokens (place_at net id)) parts (record { from = refl; to = refl }) h
