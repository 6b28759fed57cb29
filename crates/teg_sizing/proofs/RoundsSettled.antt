-- Potentials of rounds that have settled show that a number of further tokens is enough.
use Rattle.std.proofs.Common.{ℕ, ℤ, pos, ◌+◌, ◌*◌, ◌<◌, ◌≤◌, ◌≡◌, ◌≢◌, ◌+ℤ◌, ◌-ℤ◌, List, [], ◌∷◌, ◌++◌, length, get_or, Option, Some, None, refl, sym, ap, subst, ◌∙◌, arith, eqb, true, false, ⊎_elim}
use Rattle.std.specs.Prelude.{◌≤ℤ◌, All, IfSome, IsSomeAnd}
use Rattle.std.proofs.lemmas.Int.{ints}
use Rattle.std.proofs.lemmas.Bool.{cases_eq, eq-eqb, ne_eqb}
use Rattle.std.proofs.lemmas.List.{get_or_default}
use Rattle.teg_net.specs.declared.entries.PlaceId.{PlaceId}
use Rattle.std.proofs.Math.Nat.{mul-le-mul}
use Rattle.teg_net.specs.Limits.{greatest_checked_potential, greatest_hold, greatest_target_time, most_target_tokens}
use Rattle.teg_net.specs.Nets.{NetLists, IsNet}
use Rattle.teg_net.specs.Ratios.{Fraction}
use Rattle.teg_net.specs.Circuits.{no_place, place_at, from_of, time_of}
use Rattle.teg_net.specs.Parts.{to_of}
use Rattle.teg_net.specs.ReducedTimes.{reduced_time_of_place, IsMagnitudeWithin}
use Rattle.teg_net.proofs.Reading.{same_id}
use Rattle.teg_certificates.specs.Sizes.{IsEnough, extra_at, LiftsNone, AreTargetPotentials}
use Rattle.teg_sizing.specs.declared.rounds.ValueCell.{ValueCell}
use Rattle.teg_sizing.specs.ValueRounds.{IsTarget, no_cell, reduced_time_of_path, value_told, IsAtLeast, AreValuesWithin, greatest_reduced_time, round_at}
use Rattle.teg_sizing.specs.TracedPaths.{trace_of, last_round}
use Rattle.teg_sizing.specs.Surpluses.{NoneIsAbove, IsBestThrough, AreRoundsApart, AreRoundsBack}
use Rattle.teg_sizing.specs.EnoughPotentials.{greatest_told, greatest_over, AreValuesSettled, AreBothSettled, IsPotentialOf, ArePotentialsOf}
use Rattle.teg_sizing.proofs.Values.{same_some, at_least_some, weight_within, value_none, not_both}
use Rattle.teg_sizing.proofs.Going.{complete, within_more}
use Rattle.teg_sizing.proofs.Straightening.{best_is}
use Rattle.teg_sizing.proofs.Enough.{value_from}
use Rattle.teg_sizing.proofs.Settled.{settled}

module _ (net : NetLists) (r : Fraction) (p : PlaceId) (extra : ℕ) (ok : IsNet net) (in' : p.index < length net.places) (target : IsTarget r) where
  -- ---- what the rounds give

  none_above : IsEnough net r p extra → NoneIsAbove net r p
  none_above enough ps c avoids =
      let low = enough.others ps c (λ has. not_both p ps has avoids) in
      let one : time_of net ps * r.tokens ≡ r.tokens * time_of net ps = grind arith in
      omega (arith, ints)

  pub both_settled : (a b : List (List ValueCell)) → IsEnough net r p extra → AreRoundsApart net r p a → AreRoundsBack net r p b → AreBothSettled net r p extra (last_round a) (last_round b)
  both_settled a b enough h k =
      let n : ℕ = length net.transitions in
      let few = ok.few_transitions in
      let none = none_above enough in
      let empty = value_none net r in
      let more : (n + 1) * greatest_reduced_time ≤ greatest_told = omega arith in
      let less : n * greatest_reduced_time ≤ greatest_told = omega arith in
      let h_long = h.told.long in
      let k_long = k.told.long in
      let from_all : AreValuesSettled net r p (round_at h.told.all (n + 1)) = record {
        count = h.told.are.counts (n + 1) (omega arith);
        steps = settled net r p ok none h.first h.told.all h.told.are h.starts.by_none (n + 1) h.told.long (omega arith);
        within = within_more ((n + 1) * greatest_reduced_time) greatest_told (round_at h.told.all (n + 1)) more (h.told.are.within (n + 1) (omega arith));
      } in
      let from_end : AreValuesSettled net r p (round_at k.told.all n) = record {
        count = k.told.are.counts n (omega arith);
        steps = settled net r p ok none k.first k.told.all k.told.are k.starts.by_none n k.told.long (omega arith);
        within = within_more (n * greatest_reduced_time) greatest_told (round_at k.told.all n) less (k.told.are.within n (omega arith));
      } in
      let zero_value : pos 0 +ℤ reduced_time_of_path net r [] ≡ pos 0 = omega (arith, ints) in
      let at_all : (t : ℕ) → t < n → IsAtLeast (value_told (round_at h.told.all (n + 1)) t) (pos 0) = λ t l.
      subst (IsAtLeast (value_told (round_at h.told.all (n + 1)) t)) zero_value
      (complete net r p h.first h.told.all h.told.are [] (n + 1) t t (pos 0) (omega arith) (omega arith) refl (λ i d m. absurd (omega arith)) (h.starts.each t l)) in
      let at_end : IsAtLeast (value_told (round_at k.told.all n) (to_of net p)) (pos 0) =
      subst (IsAtLeast (value_told (round_at k.told.all n) (to_of net p))) zero_value
      (complete net r p k.first k.told.all k.told.are [] n (to_of net p) (to_of net p) (pos 0) (omega arith) (omega arith) refl (λ i d m. absurd (omega arith)) k.starts.here) in
      let no_gain : (v : ℤ) → value_told (round_at k.told.all n) (from_of net p) ≡ Some v → (v +ℤ reduced_time_of_place r (place_at net p)) ≤ℤ pos (r.time * extra) = λ v told.
      (let qs : List PlaceId = trace_of net k.told.all (length k.told.all) (from_of net p) ++ (p ∷ []) in
      let best : IsBestThrough net r p (v +ℤ reduced_time_of_place r (place_at net p)) qs = best_is net r p k.first k.told.all ok in' k.starts k.told.are k.told.long none v target told in
      let low : reduced_time_of_path net r qs ≤ℤ pos (r.time * extra) = value_from net r qs extra (enough.passing qs best.circuit best.passes) in
      subst (λ (z : ℤ). z ≤ℤ pos (r.time * extra)) (sym best.is) low) in
      record {
        apart_settled = subst (AreValuesSettled net r p) (sym h.told.last) from_all;
        back_settled = subst (AreValuesSettled net r p) (sym k.told.last) from_end;
        each = λ t l. subst (λ (z : List ValueCell). IsAtLeast (value_told z t) (pos 0)) (sym h.told.last) (at_all t l);
        start = subst (λ (z : List ValueCell). IsAtLeast (value_told z (to_of net p)) (pos 0)) (sym k.told.last) at_end;
        round = subst (λ (z : List ValueCell). (v : ℤ) → value_told z (from_of net p) ≡ Some v → (v +ℤ reduced_time_of_place r (place_at net p)) ≤ℤ pos (r.time * extra)) (sym k.told.last) no_gain;
      }

  -- ---- what potentials of them are

  module _ (apart back : List ValueCell) (over : ℤ) (vs : List ℤ) (h : AreBothSettled net r p extra apart back)
      (a : ℤ) (a_told : value_told apart (from_of net p) ≡ Some a)
      (sum_is : over ≡ ((pos (r.tokens * (place_at net p).hold) -ℤ pos (r.time * ((place_at net p).tokens + extra))) +ℤ a)) (given : ArePotentialsOf apart back over vs) where
    abbrev v : ℕ → ℤ
    v t = get_or vs t (pos 0)

    over_is : (x : ℤ) → value_told apart (from_of net p) ≡ Some x → over ≡ ((x +ℤ reduced_time_of_place r (place_at net p)) -ℤ pos (r.time * extra))
    over_is x told =
        let same : x ≡ a = same_some (value_told apart (from_of net p)) x a told a_told in
        let more : r.time * ((place_at net p).tokens + extra) ≡ r.time * (place_at net p).tokens + r.time * extra = grind arith in
        omega (arith, ints)

    pot : (t : ℕ) → t < length net.transitions → IsPotentialOf (value_told apart t) (value_told back t) over (v t)
    pot t l = let count = h.apart_settled.count in given.each t (omega arith)

    from_in : (q : PlaceId) → q.index < length net.places → from_of net q < length net.transitions
    from_in q l = (ok.each_place q.index no_place l).from_in

    to_in : (q : PlaceId) → q.index < length net.places → to_of net q < length net.transitions
    to_in q l = (ok.each_place q.index no_place l).to_in

    -- another place lifts no potential
    other_up : (q : PlaceId) → q.index < length net.places → q.index ≢ p.index → (reduced_time_of_place r (place_at net q) +ℤ v (from_of net q)) ≤ℤ v (to_of net q)
    other_up q l ne =
        let f = pot (from_of net q) (from_in q l) in
        let t = pot (to_of net q) (to_in q l) in
        ⊎_elim
        (λ (e : v (from_of net q) ≡ f.own).
        let s = at_least_some (value_told apart (to_of net q)) (f.own +ℤ reduced_time_of_place r (place_at net q)) (h.apart_settled.steps q l ne f.own f.told) in
        let same : s.0 ≡ t.own = same_some (value_told apart (to_of net q)) s.0 t.own s.1 t.told in
        let low = t.potential.low in
        let up = s.2 in
        omega (arith, ints))
        (λ (w : (b : ℤ) × (value_told back (from_of net q) ≡ Some b) × (v (from_of net q) ≡ b +ℤ over)).
        let s = at_least_some (value_told back (to_of net q)) (w.0 +ℤ reduced_time_of_place r (place_at net q)) (h.back_settled.steps q l ne w.0 w.1) in
        let low = t.potential.through s.0 s.1 in
        let up = s.2 in
        let is = w.2 in
        omega (arith, ints))
        f.potential.is

    -- nor does the place with its further tokens
    own_up : ((reduced_time_of_place r (place_at net p) -ℤ pos (r.time * extra)) +ℤ v (from_of net p)) ≤ℤ v (to_of net p)
    own_up =
        let f = pot (from_of net p) (from_in p in') in
        let t = pot (to_of net p) (to_in p in') in
        let s = at_least_some (value_told back (to_of net p)) (pos 0) h.start in
        let low = t.potential.through s.0 s.1 in
        let some = s.2 in
        let over_value = over_is f.own f.told in
        ⊎_elim
        (λ (e : v (from_of net p) ≡ f.own). omega (arith, ints))
        (λ (w : (b : ℤ) × (value_told back (from_of net p) ≡ Some b) × (v (from_of net p) ≡ b +ℤ over)).
        let gain = h.round w.0 w.1 in
        let is = w.2 in
        omega (arith, ints))
        f.potential.is

    kept : (q : PlaceId) → q.index < length net.places → LiftsNone r vs (extra_at p extra q) (place_at net q)
    kept q l = ⊎_elim
        (λ (e : q.index ≡ p.index).
        let b : eqb q.index p.index ≡ true = eq-eqb q.index p.index e in
        let is : p ≡ q = sym (same_id q p e) in
        rw b (subst (λ x. LiftsNone r vs extra (place_at net x)) is own_kept))
        (λ (ne : q.index ≢ p.index).
        let b : eqb q.index p.index ≡ false = ne_eqb q.index p.index ne in
        let plain : (place_at net q).tokens + 0 ≡ (place_at net q).tokens = omega arith in
        rw b (rw plain (other_up q l ne)))
        (cases_eq q.index p.index) where
          own_kept : LiftsNone r vs extra (place_at net p)
          own_kept =
              let more : r.time * ((place_at net p).tokens + extra) ≡ r.time * (place_at net p).tokens + r.time * extra = grind arith in
              let up = own_up in
              rw more (omega (arith, ints))

    small : (t : ℕ) → t < length net.transitions → IsMagnitudeWithin greatest_checked_potential (v t)
    small t l =
        let f = pot t l in
        let s = at_least_some (value_told apart t) (pos 0) (h.each t l) in
        let same : s.0 ≡ f.own = same_some (value_told apart t) s.0 f.own s.1 f.told in
        let some = s.2 in
        let low = f.potential.low in
        let own_high = (h.apart_settled.within t f.own f.told).1 in
        let start = pot (from_of net p) (from_in p in') in
        let over_value = over_is start.own start.told in
        let start_high = (h.apart_settled.within (from_of net p) start.own start.told).1 in
        let rules = ok.each_place p.index no_place in' in
        let weight_high = (weight_within r (place_at net p) target rules.hold_in rules.tokens_in).1 in
        ⊎_elim
        (λ (e : v t ≡ f.own). record { low = omega (arith, ints); high = omega (arith, ints) })
        (λ (w : (b : ℤ) × (value_told back t ≡ Some b) × (v t ≡ b +ℤ over)).
        let back_high = (h.back_settled.within t w.0 w.1).1 in
        let is = w.2 in
        record { low = omega (arith, ints); high = omega (arith, ints) })
        f.potential.is

    pub are_potentials : AreTargetPotentials net r p extra vs
    are_potentials =
        let time = target.time in
        let tokens = target.tokens in
        let count = given.count in
        let long = h.apart_settled.count in
        record {
          limits = record { time_in = omega arith; tokens_in = omega arith };
          count = count ∙ long;
          within = λ i d l. subst (IsMagnitudeWithin greatest_checked_potential) (get_or_default vs i (pos 0) d l) (small i (omega arith));
          kept = kept;
        }

-- ---- what the code asks of the values

if_some : (o : Option ℤ) (P : ℤ → Type 0) → ((u : ℤ) → o ≡ Some u → P u) → IfSome o P
if_some None P h = tt
if_some (Some u) P h = h u refl

some_and : (o : Option ℤ) (P : ℤ → Type 0) (u : ℤ) → o ≡ Some u → P u → IsSomeAnd o P
some_and o P u e h = subst (λ (z : Option ℤ). IsSomeAnd z P) (sym e) h

pub told_within : (cells : List ValueCell) (t : ℕ) (u : ℤ) → AreValuesWithin greatest_told cells → value_told cells t ≡ Some u → IsMagnitudeWithin greatest_told u
told_within cells t u within told =
    let w = within t u told in
    let low = w.0 in
    let high = w.1 in
    record { low = omega (arith, ints); high = omega (arith, ints) }

-- what leads over a place keeps its limit
pub over_within : (r : Fraction) (hold tokens : ℕ) (start over : ℤ) → IsTarget r → hold ≤ greatest_hold → tokens < 36893488147419103232 → IsMagnitudeWithin greatest_told start
    → over ≡ ((pos (r.tokens * hold) -ℤ pos (r.time * tokens)) +ℤ start)
    → IsMagnitudeWithin greatest_over over
over_within r hold tokens start over target low few within is =
    let gain : r.tokens * hold ≤ most_target_tokens * greatest_hold = mul-le-mul target.tokens low in
    let cost : r.time * tokens ≤ greatest_target_time * 36893488147419103232 = mul-le-mul target.time (let most : tokens ≤ 36893488147419103232 = omega arith in most) in
    let down = within.low in
    let up = within.high in
    record { low = omega (arith, ints); high = omega (arith, ints) }

module _ (net : NetLists) (r : Fraction) (p : PlaceId) (extra : ℕ) (apart back : List ValueCell) (h : AreBothSettled net r p extra apart back) where
  pub some_told : (t : ℕ) → t < length net.transitions → (u : ℤ) × (value_told apart t ≡ Some u) × IsMagnitudeWithin greatest_told u
  some_told t l =
      let s = at_least_some (value_told apart t) (pos 0) (h.each t l) in
      (s.0, s.1, told_within apart t s.0 h.apart_settled.within s.1)

  pub all_told : All (λ c. IsSomeAnd c.value (IsMagnitudeWithin greatest_told)) apart
  all_told i d l =
      let count = h.apart_settled.count in
      let s = some_told i (omega arith) in
      some_and (get_or apart i d).value (IsMagnitudeWithin greatest_told) s.0 (ap (λ (c : ValueCell). c.value) (get_or_default apart i d no_cell l) ∙ s.1) s.2

  pub all_back : All (λ c. IfSome c.value (IsMagnitudeWithin greatest_told)) back
  all_back i d l = if_some (get_or back i d).value (IsMagnitudeWithin greatest_told)
      (λ u e. told_within back i u h.back_settled.within (ap (λ (c : ValueCell). c.value) (get_or_default back i no_cell d l) ∙ e))
