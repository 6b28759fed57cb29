-- The offers of the places that enter a transition, place by place.
use Rattle.std.proofs.Common.{ℕ, ◌+◌, ◌<◌, ◌≤◌, ◌≡◌, List, [], ◌∷◌, Option, Some, None, length, refl, ap, subst, arith, inl, inr, ⊎_elim}
use Rattle.std.specs.Prelude.{ℤ, pos, ◌<ℤ◌, ◌≤ℤ◌, ◌⊎◌, All}
use Rattle.std.proofs.lemmas.Int.{ints}
use Rattle.std.proofs.lemmas.Bool.{cases_lt, ne_eqb}
use Rattle.std.proofs.lemmas.List.{get_or_past}
use Rattle.std.proofs.lemmas.List.Elements.{All-tail}
use Rattle.teg_net.specs.declared.entries.PlaceId.{PlaceId}
use Rattle.teg_net.specs.declared.rounds.Choice.{Choice}
use Rattle.teg_net.specs.Nets.{NetLists}
use Rattle.teg_net.specs.Parts.{IsMember}
use Rattle.policy_rounds.specs.Policies.{Enters, first_id, offer_of}
use Rattle.policy_rounds.specs.PolicyRounds.{choice_of_member, chosen_place, value_in}
use Rattle.policy_rounds.specs.PolicyLists.{policy_of}
use Rattle.policy_rounds.proofs.Turns.{cases_less}
use Rattle.teg_net.proofs.Reading.{same_id}
use Rattle.round_check.specs.declared.policies.Offer.{Offer}
use Rattle.round_check.specs.Offers.{IsBetterAt, IsGreaterOf, IsMostBelow, MostBelow, values_at}

-- a number below the next one is below this one, or is that of the place
pub below_next : (p q : PlaceId) (i : ℕ) → p.index ≡ i → q.index < i + 1 → (q.index < i) ⊎ (q ≡ p)
below_next p q i e l = ⊎_elim (λ (k : q.index < i). inl k) (λ (k : i ≤ q.index). inr (same_id q p (omega arith))) (cases_lt q.index i)

module _ (net : NetLists) (parts : List ℕ) (part a b : ℕ) (v : ℕ → ℤ) (t : ℕ) where
  pub most_none : IsMostBelow net parts part a b v t 0 None
  most_none q e l = absurd (omega arith)

  -- the place does not enter the transition
  pub most_skip : (i : ℕ) (p : PlaceId) (most : Option Offer) → p.index ≡ i → (Enters net parts part t p → ⊥)
      → IsMostBelow net parts part a b v t i most → IsMostBelow net parts part a b v t (i + 1) most
  most_skip i p None e out h = λ q n l. ⊎_elim (λ (k : q.index < i). h q n k) (λ (k : q ≡ p). out (subst (Enters net parts part t) k n)) (below_next p q i e l)
  most_skip i p (Some o) e out h =
      let far = λ (q : PlaceId) (n : Enters net parts part t q) (l : q.index < i + 1).
      let r : q.index < i = ⊎_elim (λ (k : q.index < i). k) (λ (k : q ≡ p). absurd (out (subst (Enters net parts part t) k n))) (below_next p q i e l) in r in
      let before = h.before in
      record {
        enters = h.enters;
        value = h.value;
        before = omega arith;
        most = λ q n l. h.most q n (far q n l);
        lowest = λ q n l. h.lowest q n (far q n l);
      }

  take_first : (i : ℕ) (o : Offer) → o.place.index ≡ i → Enters net parts part t o.place → o.value ≡ offer_of net a b v o.place
      → ((q : PlaceId) → Enters net parts part t q → q.index < i → offer_of net a b v q <ℤ offer_of net a b v o.place) → MostBelow net parts part a b v t (i + 1) o
  take_first i o e enters value less = record {
    enters = enters;
    value = value;
    before = omega arith;
    most = λ q n l.
        ⊎_elim
        (λ (k : q.index < i). let low = less q n k in omega (arith, ints))
        (λ (k : q ≡ o.place). let same : offer_of net a b v q ≡ offer_of net a b v o.place = ap (offer_of net a b v) k in omega (arith, ints))
        (below_next o.place q i e l);
    lowest = λ q n l s.
        ⊎_elim
        (λ (k : q.index < i). let low = less q n k in absurd (omega (arith, ints)))
        (λ (k : q ≡ o.place). let same : q.index ≡ o.place.index = ap (λ (x : PlaceId). let y : ℕ = x.index in y) k in omega arith)
        (below_next o.place q i e l);
  }

  keep_first : (i : ℕ) (first o : Offer) → o.place.index ≡ i → o.value ≡ offer_of net a b v o.place → o.value ≤ℤ first.value
      → MostBelow net parts part a b v t i first → MostBelow net parts part a b v t (i + 1) first
  keep_first i first o e value le h =
      let before = h.before in
      let own = h.value in
      record {
        enters = h.enters;
        value = h.value;
        before = omega arith;
        most = λ q n l.
            ⊎_elim
            (λ (k : q.index < i). h.most q n k)
            (λ (k : q ≡ o.place). let same : offer_of net a b v q ≡ offer_of net a b v o.place = ap (offer_of net a b v) k in omega (arith, ints))
            (below_next o.place q i e l);
        lowest = λ q n l s.
            ⊎_elim
            (λ (k : q.index < i). h.lowest q n k s)
            (λ (k : q ≡ o.place). let same : q.index ≡ o.place.index = ap (λ (x : PlaceId). let y : ℕ = x.index in y) k in omega arith)
            (below_next o.place q i e l);
      }

  -- the place enters the transition, and the greater offer stays
  pub most_take : (i : ℕ) (most : Option Offer) (o : Offer) (result : Option Offer) → o.place.index ≡ i → Enters net parts part t o.place
      → o.value ≡ offer_of net a b v o.place → IsGreaterOf most o result → IsMostBelow net parts part a b v t i most → IsMostBelow net parts part a b v t (i + 1) result
  most_take i None o result e enters value is h = rw is (take_first i o e enters value (λ q n l. absurd (h q n l)))
  most_take i (Some first) o result e enters value is h =
      ⊎_elim
      (λ (w : (o.value ≤ℤ first.value) × (result ≡ Some first)). rw w.1 (keep_first i first o e value w.0 h))
      (λ (w : (first.value <ℤ o.value) × (result ≡ Some o)).
      let own = h.value in
      let up = w.0 in
      rw w.1 (take_first i o e enters value (λ q n l. let low = h.most q n l in omega (arith, ints))))
      is

  -- ---- the better place
  pub better_none : (own : PlaceId) (n : ℕ) → length net.places ≤ n → IsMostBelow net parts part a b v t n None → IsBetterAt net parts part a b v t own own
  better_none own n long h = record {
    taken = λ q i. absurd (h q i.enters (let l = i.enters.inside.in_range in omega arith));
    kept = λ none. refl;
  }

  pub better_kept : (own : PlaceId) (n : ℕ) (o : Offer) → length net.places ≤ n → MostBelow net parts part a b v t n o → (v t <ℤ o.value → ⊥) → IsBetterAt net parts part a b v t own own
  better_kept own n o long h no_more = record {
    taken = λ q i.
        let most = h.most q i.enters (let l = i.enters.inside.in_range in omega arith) in
        let more = i.more in
        let value = h.value in
        absurd (no_more (omega (arith, ints)));
    kept = λ none. refl;
  }

  pub better_taken : (own : PlaceId) (n : ℕ) (o : Offer) → length net.places ≤ n → MostBelow net parts part a b v t n o → v t <ℤ o.value → IsBetterAt net parts part a b v t own o.place
  better_taken own n o long h up =
      let value = h.value in
      let more : v t <ℤ offer_of net a b v o.place = omega (arith, ints) in
      record {
        taken = λ q i. record {
          improves = record { enters = h.enters; more = more };
          greatest = λ p e. h.most p e (let l = e.inside.in_range in omega arith);
          lowest = λ p e. h.lowest p e (let l = e.inside.in_range in omega arith);
        };
        kept = λ none. absurd (none o.place (record { enters = h.enters; more = more }));
      }

  -- the place of the offer where that is more than the value, and else the own one
  pub better_is : (own : PlaceId) (n : ℕ) (o : Offer) (p : PlaceId) → length net.places ≤ n → MostBelow net parts part a b v t n o → (v t <ℤ o.value → p ≡ o.place)
      → ((v t <ℤ o.value → ⊥) → p ≡ own) → IsBetterAt net parts part a b v t own p
  better_is own n o p long h more rest =
      ⊎_elim
      (λ (up : v t <ℤ o.value). rw (more up) (better_taken own n o long h up))
      (λ (down : v t <ℤ o.value → ⊥). rw (rest down) (better_kept own n o long h down))
      (cases_less (v t) o.value)

  -- past the last place
  pub most_past : (i : ℕ) (most : Option Offer) → length net.places ≤ i → IsMostBelow net parts part a b v t i most → IsMostBelow net parts part a b v t (length net.places) most
  most_past i None past h = λ q e l. h q e (omega arith)
  most_past i (Some o) past h = record {
    enters = h.enters;
    value = h.value;
    before = h.enters.inside.in_range;
    most = λ q e l. h.most q e (omega arith);
    lowest = λ q e l s. h.lowest q e (omega arith) s;
  }

-- who is entered in the part is a member
pub entered_member : (net : NetLists) (parts : List ℕ) (part t : ℕ) (p : PlaceId) → Enters net parts part t p → IsMember parts part t
entered_member net parts part t p e = subst (IsMember parts part) e.ends e.inside.to_member

-- choices for lower numbered transitions have none for this one
none_for : (cs : List Choice) (count t : ℕ) → All (λ c. c.transition.index < count) cs → count ≤ t → choice_of_member cs t ≡ None
none_for [] count t h l = refl
none_for (c ∷ cs) count t h l =
    let low : c.transition.index < count = h 0 c (omega arith) in
    rw (ne_eqb c.transition.index t (λ e. let f : ⊥ = omega arith in f)) (none_for cs count t (All-tail (λ (x : Choice). x.transition.index < count) c cs h) l)

pub spread_places : (cs : List Choice) (count i : ℕ) (ps : List PlaceId) → All (λ c. c.transition.index < count) cs → count ≤ i → length ps ≡ i
    → ((t : ℕ) → t < i → policy_of ps t ≡ chosen_place (choice_of_member cs t)) → (t : ℕ) → policy_of ps t ≡ chosen_place (choice_of_member cs t)
spread_places cs count i ps all past long h t =
    ⊎_elim
    (λ (k : t < i). h t k)
    (λ (k : i ≤ t). rw (none_for cs count t all (omega arith)) (get_or_past ps t first_id (omega arith)))
    (cases_lt t i)

pub spread_values : (cs : List Choice) (count i : ℕ) (vs : List ℤ) → All (λ c. c.transition.index < count) cs → count ≤ i → length vs ≡ i
    → ((t : ℕ) → t < i → values_at vs t ≡ value_in (choice_of_member cs t)) → (t : ℕ) → values_at vs t ≡ value_in (choice_of_member cs t)
spread_values cs count i vs all past long h t =
    ⊎_elim
    (λ (k : t < i). h t k)
    (λ (k : i ≤ t). rw (none_for cs count t all (omega arith)) (get_or_past vs t (pos 0) (omega arith)))
    (cases_lt t i)
