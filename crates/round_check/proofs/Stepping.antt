-- From round to round: what is checked is what a run says.
use Rattle.std.proofs.Common.{ℕ, ◌+◌, ◌-◌, ◌*◌, ◌<◌, ◌≤◌, ◌≡◌, ◌≢◌, List, [], ◌∷◌, Bool, Some, None, length, get_or, sym, ap, subst, ◌∙◌, arith, inl, inr, ⊎_elim}
use Rattle.std.specs.Prelude.{ℤ, ◌↔◌, All}
use Rattle.std.proofs.lemmas.Int.{ints}
use Rattle.std.proofs.lemmas.Bool.{cases_eq, cases_lt, eq-eqb, ne_eqb}
use Rattle.std.proofs.lemmas.List.Elements.{All-tail}
use Rattle.teg_net.specs.declared.entries.PlaceId.{PlaceId}
use Rattle.teg_net.specs.declared.rounds.Choice.{Choice}
use Rattle.teg_net.specs.declared.rounds.Round.{Round}
use Rattle.teg_net.specs.Nets.{NetLists}
use Rattle.teg_net.specs.Circuits.{time_of, tokens_of}
use Rattle.teg_net.specs.Limits.{greatest_scaled_potential}
use Rattle.teg_net.specs.Parts.{IsMember, to_of}
use Rattle.teg_net.specs.PartAnswers.{first_transition_of}
use Rattle.teg_net.specs.ReducedTimes.{IsMagnitudeWithin}
use Rattle.policy_rounds.specs.Policies.{Policy, IsPolicy, IsPolicyCircuit, IsBestCircuit, IsRouting, Improves, IsImprovement, IsChanged, offer_of}
use Rattle.policy_rounds.specs.PolicyRounds.{IsRound, IsRoundOf, IsFirstRound, FollowsRound, IsPolicyRun, IsRunTo, chosen, potential, choice_of_member, value_in, IsLastRound}
use Rattle.policy_rounds.specs.PolicyLists.{AreLowest, policy_of}
use Rattle.teg_parts.specs.Components.{IsMarked}
use Rattle.policy_rounds.proofs.Turns.{cases_id, cases_improves, better_is_policy, everywhere}
use Rattle.policy_rounds.proofs.BestCircuits.{best_kind, same_functions}
use Rattle.round_check.specs.declared.circuits.Bound.{Bound}
use Rattle.round_check.specs.declared.policies.Spread.{Spread}
use Rattle.round_check.specs.declared.runs.Step.{Step}
use Rattle.round_check.specs.Offers.{AreSmall, IsBetterAt, IsSpread, values_at}
use Rattle.round_check.specs.PolicyCircuits.{IsAtMost, IsBoundOf}
use Rattle.round_check.specs.Rounds.{AreBegun, AreFollowing, HasBegun, IsStep, Keeps, KeepsLimits, Stands}
use Rattle.round_check.proofs.Walking.{Passes}

-- small values of choices are small at each transition
value_small : (cs : List Choice) (t : ℕ) → All (λ c. IsMagnitudeWithin greatest_scaled_potential c.value) cs → IsMagnitudeWithin greatest_scaled_potential (value_in (choice_of_member cs t))
value_small [] t h = record { low = omega (arith, ints); high = omega (arith, ints) }
value_small (c ∷ cs) t h =
    ⊎_elim
    (λ (e : c.transition.index ≡ t). rw (eq-eqb c.transition.index t e) (h 0 c (omega arith)))
    (λ (n : c.transition.index ≢ t). rw (ne_eqb c.transition.index t n) (value_small cs t (All-tail (λ x. IsMagnitudeWithin greatest_scaled_potential x.value) c cs h)))
    (cases_eq c.transition.index t)

pub spread_small : (count : ℕ) (r : Round) (s : Spread) → KeepsLimits r → IsSpread count r.choices.items s → AreSmall s.values.items
spread_small count r s h is t = subst (IsMagnitudeWithin greatest_scaled_potential) (sym (is.values t)) (value_small r.choices.items t h.values)

pub places_are : (count : ℕ) (r : Round) (s : Spread) → IsSpread count r.choices.items s → policy_of s.policy.items ≡ chosen r
places_are count r s is = same_functions (policy_of s.policy.items) (chosen r) is.places

pub values_are : (count : ℕ) (r : Round) (s : Spread) → IsSpread count r.choices.items s → values_at s.values.items ≡ potential r
values_are count r s is = same_functions (values_at s.values.items) (potential r) is.values

pub step_marks : (parts : List ℕ) (part : ℕ) (r : Round) (s : Spread) (better : List PlaceId) (marks : List Bool) → IsSpread (length parts) r.choices.items s
    → ((t : ℕ) → IsMarked marks t ↔ IsChanged parts part (policy_of s.policy.items) (policy_of better) t) → (t : ℕ) → IsMarked marks t ↔ IsChanged parts part (chosen r) (policy_of better) t
step_marks parts part r s better marks is h = subst (λ f. (t : ℕ) → IsMarked marks t ↔ IsChanged parts part f (policy_of better) t) (places_are (length parts) r s is) h

module _ (net : NetLists) (parts : List ℕ) (part : ℕ) where
  -- better places of each transition are an improvement
  pub improvement : (a b : ℕ) (v : ℕ → ℤ) (π better : Policy) → ((t : ℕ) → t < length parts → IsBetterAt net parts part a b v t (π t) (better t)) → IsImprovement net parts part a b π v better
  improvement a b v π better each = record {
    taken = λ t m w. (each t m.in_range).taken w.0 w.1;
    kept = λ t m none. (each t m.in_range).kept none;
  }

  pub step_improves : (r : Round) (s : Spread) (better : List PlaceId) → IsSpread (length parts) r.choices.items s
      → IsImprovement net parts part r.ratio.time r.ratio.tokens (policy_of s.policy.items) (values_at s.values.items) (policy_of better)
      → IsImprovement net parts part r.ratio.time r.ratio.tokens (chosen r) (potential r) (policy_of better)
  step_improves r s better is imp =
      subst (λ f. IsImprovement net parts part r.ratio.time r.ratio.tokens f (potential r) (policy_of better)) (places_are (length parts) r s is)
      (subst (λ w. IsImprovement net parts part r.ratio.time r.ratio.tokens (policy_of s.policy.items) w (policy_of better)) (values_are (length parts) r s is) imp)

  -- ---- a round that is made of a policy
  pub made_best : (π : Policy) (marked : List Bool) (r : Round) (b : Bound) → IsRound net parts part r → All (λ p. π (to_of net p) ≡ p) r.circuit.places.items
      → Passes net marked r.circuit.places.items → IsBoundOf net r.circuit.places.items b
      → ((d : List PlaceId) → IsPolicyCircuit net parts part π d → Passes net marked d → IsAtMost net (Some b) d)
      → IsBestCircuit net parts part π (IsMarked marked) r.circuit.places.items
  made_best π marked r b h own through is all = record {
    is = record { circuit = h.circuit.circuit; inside = h.circuit.inside; own = own };
    through = through;
    greatest = λ d hd p.
        let c : List PlaceId = r.circuit.places.items in
        rw (sym is.time, sym is.tokens)
        (⊎_elim
        (λ (q : time_of net d * b.tokens < b.time * tokens_of net d). omega arith)
        (λ (q : (time_of net d * b.tokens ≡ b.time * tokens_of net d) × (b.first ≤ first_transition_of net d)). let e = q.0 in omega arith)
        (all d hd p));
    lowest = λ d hd p e.
        let same : time_of net d * b.tokens ≡ b.time * tokens_of net d = rw (is.time, is.tokens) e in
        let first = is.first in
        ⊎_elim
        (λ (q : time_of net d * b.tokens < b.time * tokens_of net d). absurd (omega arith))
        (λ (q : (time_of net d * b.tokens ≡ b.time * tokens_of net d) × (b.first ≤ first_transition_of net d)). let low = q.1 in omega arith)
        (all d hd p);
  }

  pub made_of : (π : Policy) (Kind : ℕ → Type 0) (r : Round) (b : Bound) (s : Spread) → IsBestCircuit net parts part π Kind r.circuit.places.items
      → IsBoundOf net r.circuit.places.items b → IsSpread (length parts) r.choices.items s
      → (joins : List PlaceId) × IsRouting net parts part π b.first joins (policy_of s.policy.items) → IsRoundOf net parts part π Kind r
  made_of π Kind r b s best is own routing = record {
    best = best;
    routing = (
      routing.0,
      subst (λ x. IsRouting net parts part π x routing.0 (chosen r)) is.first
          (subst (λ f. IsRouting net parts part π b.first routing.0 f) (places_are (length parts) r s own) routing.1),
    );
  }

  pub of_kind : (π : Policy) (K L : ℕ → Type 0) (r : Round) → ((t : ℕ) → IsMember parts part t → K t → L t) → ((t : ℕ) → IsMember parts part t → L t → K t)
      → IsRoundOf net parts part π K r → IsRoundOf net parts part π L r
  of_kind π K L r k l h = record { best = best_kind net parts part π K L r.circuit.places.items k l h.best; routing = h.routing }

  -- ---- the first round
  pub lowest_policy : (r : Round) (first : List PlaceId) → IsRound net parts part r → AreLowest net parts part first → IsPolicy net parts part (policy_of first)
  lowest_policy r first h low t m = (low.lowest t (chosen r t) (h.policy t m)).enters

  pub first_is : (r : Round) (first : List PlaceId) (marks : List Bool) → IsRound net parts part r → AreLowest net parts part first
      → ((t : ℕ) → IsMarked marks t ↔ IsMember parts part t) → IsRoundOf net parts part (policy_of first) (IsMarked marks) r → IsFirstRound net parts part r
  first_is r first marks h low is made = record {
    round = h;
    begins = (
      policy_of first,
      (λ t m. low.lowest t (chosen r t) (h.policy t m)),
      of_kind (policy_of first) (IsMarked marks) (IsMember parts part) r (λ t m k. m) (λ t m k. (is t).1 m) made,
    );
  }

  -- ---- the next round
  module _ (r : Round) (st : Step) (h : IsRound net parts part r) (is : IsStep net parts part r st) where
    pub step_policy : IsPolicy net parts part (policy_of st.policy.items)
    step_policy = better_is_policy net parts part (chosen r) h.policy r.ratio.time r.ratio.tokens r.circuit.places.items h.circuit h.ratio.same (potential r) h.sums
        (policy_of st.policy.items) is.improves

    pub changed_improves : (t : ℕ) → IsMarked st.marks.items t → (u : ℕ) × (p : PlaceId) × Improves net parts part r.ratio.time r.ratio.tokens (potential r) u p
    changed_improves t k =
        let c = (is.marks t).0 k in
        ⊎_elim
        (λ (w : (p : PlaceId) × Improves net parts part r.ratio.time r.ratio.tokens (potential r) t p). (t, w.0, w.1))
        (λ (none : (p : PlaceId) → Improves net parts part r.ratio.time r.ratio.tokens (potential r) t p → ⊥). absurd (c.1 (is.improves.kept t c.0 none)))
        (cases_improves net parts part r.ratio.time r.ratio.tokens (potential r) t)

    pub follows_made : (t : ℕ) → IsMarked st.marks.items t → (s : Round) → IsRound net parts part s
        → IsRoundOf net parts part (policy_of st.policy.items) (IsMarked st.marks.items) s → FollowsRound net parts part r s
    follows_made t k s hs made = record {
      round = hs;
      improvable = changed_improves t k;
      better = policy_of st.policy.items;
      improves = is.improves;
      next = inl (of_kind (policy_of st.policy.items) (IsMarked st.marks.items) (IsChanged parts part (chosen r) (policy_of st.policy.items)) s
          (λ u m y. (is.marks u).0 y) (λ u m y. (is.marks u).1 y) made);
    }

    pub follows_kept : (t : ℕ) → IsMarked st.marks.items t → (s : Round) → IsRound net parts part s
        → ((d : List PlaceId) → IsPolicyCircuit net parts part (policy_of st.policy.items) d → Passes net st.marks.items d → IsAtMost net None d)
        → Keeps parts part r st.policy.items s → FollowsRound net parts part r s
    follows_kept t k s hs none keeps = record {
      round = hs;
      improvable = changed_improves t k;
      better = policy_of st.policy.items;
      improves = is.improves;
      next = inr (record {
        none_new = λ d hd w. none d hd (w.0, w.1, w.2, w.3, (is.marks (to_of net w.1)).1 w.4);
        same_circuit = keeps.circuit;
        same_ratio = keeps.ratio;
        same_places = keeps.places;
      });
    }

    -- where no member is changed, no place improves one
    pub last_is : ((t : ℕ) → IsMarked st.marks.items t → ⊥) → IsLastRound net parts part r
    last_is none t p i =
        let m : IsMember parts part t = subst (IsMember parts part) i.enters.ends i.enters.inside.to_member in
        let more = (is.improves.taken t m (p, i)).improves.more in
        let here = everywhere net parts part (chosen r) h.policy r.ratio.time r.ratio.tokens r.circuit.places.items h.circuit h.ratio.same (potential r) h.sums t m in
        ⊎_elim
        (λ (e : policy_of st.policy.items t ≡ chosen r t).
        let same : offer_of net r.ratio.time r.ratio.tokens (potential r) (policy_of st.policy.items t) ≡ offer_of net r.ratio.time r.ratio.tokens (potential r) (chosen r t) =
        ap (offer_of net r.ratio.time r.ratio.tokens (potential r)) e in
        omega (arith, ints, more, same, here))
        (λ (ne : policy_of st.policy.items t ≢ chosen r t). none t ((is.marks t).1 (m, ne)))
        (cases_id (policy_of st.policy.items t) (chosen r t))

  -- ---- the run
  pub following_at : (rounds : List Round) (i : ℕ) (x y : Round) → 1 ≤ i → AreFollowing net parts part rounds i → ((d : Round) → x ≡ get_or rounds (i - 1) d)
      → ((d : Round) → y ≡ get_or rounds i d) → FollowsRound net parts part x y → AreFollowing net parts part rounds (i + 1)
  following_at rounds i x y some h x_is y_is next k e l =
      ⊎_elim
      (λ (q : k + 1 < i). h k e q)
      (λ (q : i ≤ k + 1).
      let is : i ≡ k + 1 = omega arith in
      let back : i - 1 ≡ k = omega arith in
      let low : x ≡ get_or rounds k e = x_is e ∙ ap (λ (n : ℕ). get_or rounds n e) back in
      let high : y ≡ get_or rounds (k + 1) e = y_is e ∙ ap (λ (n : ℕ). get_or rounds n e) is in
      rw (sym low, sym high) next)
      (cases_lt (k + 1) i)

  pub none_begun : (rounds : List Round) → HasBegun net parts part rounds 0
  none_begun rounds = record {
    begun = record { first = λ d l. absurd (omega (arith, l)); next = λ k d l. absurd (omega (arith, l)) };
    stand = λ k d l. absurd (omega (arith, l));
  }

  pub one_begun : (rounds : List Round) (x : Round) → ((d : Round) → x ≡ get_or rounds 0 d) → Stands net parts part x → IsFirstRound net parts part x → HasBegun net parts part rounds 1
  one_begun rounds x is stands first = record {
    begun = record { first = λ d l. subst (IsFirstRound net parts part) (is d) first; next = λ k d l. absurd (omega (arith, l)) };
    stand = λ k d l.
        let lowest : 0 ≡ k = omega (arith, l) in
        subst (Stands net parts part) (is d ∙ ap (λ (n : ℕ). get_or rounds n d) lowest) stands;
  }

  pub more_begun : (rounds : List Round) (i : ℕ) (x y : Round) → 1 ≤ i → HasBegun net parts part rounds i → ((d : Round) → x ≡ get_or rounds (i - 1) d)
      → ((d : Round) → y ≡ get_or rounds i d) → Stands net parts part y → FollowsRound net parts part x y → HasBegun net parts part rounds (i + 1)
  more_begun rounds i x y some h x_is y_is stands next = record {
    begun = record { first = λ d l. h.begun.first d (omega (arith, some)); next = following_at rounds i x y some h.begun.next x_is y_is next };
    stand = λ k d l.
        ⊎_elim
        (λ (q : k < i). h.stand k d q)
        (λ (q : i ≤ k). let is : i ≡ k = omega arith in subst (Stands net parts part) (y_is d ∙ ap (λ (n : ℕ). get_or rounds n d) is) stands)
        (cases_lt k i);
  }

  pub fewer_begun : (rounds : List Round) (n m : ℕ) → m ≤ n → HasBegun net parts part rounds n → HasBegun net parts part rounds m
  fewer_begun rounds n m le h = record {
    begun = record { first = λ d l. h.begun.first d (omega (arith, l, le)); next = λ k d l. h.begun.next k d (omega (arith, l, le)) };
    stand = λ k d l. h.stand k d (omega (arith, l, le));
  }

  -- of rounds that are begun a later one follows from the one before
  pub next_begun : (rounds : List Round) (i : ℕ) (x y : Round) → 1 ≤ i → AreBegun net parts part rounds (i + 1) → ((d : Round) → x ≡ get_or rounds (i - 1) d)
      → ((d : Round) → y ≡ get_or rounds i d) → FollowsRound net parts part x y
  next_begun rounds i x y some h x_is y_is =
      let up : (i - 1) + 1 ≡ i = omega (arith, some) in
      let f = subst (λ (n : ℕ). FollowsRound net parts part (get_or rounds (i - 1) x) (get_or rounds n x)) up (h.next (i - 1) x (omega (arith, up))) in
      let g = subst (λ (r : Round). FollowsRound net parts part r (get_or rounds i x)) (sym (x_is x)) f in
      subst (λ (r : Round). FollowsRound net parts part x r) (sym (y_is x)) g

  -- a run begins with its first rounds
  pub begun_run : (rounds : List Round) (n : ℕ) → n ≤ length rounds → IsRunTo net parts part rounds → AreBegun net parts part rounds n
  begun_run rounds n le h = record { first = λ d l. h.first d; next = λ k d l. h.next k d (omega (arith, l, le)) }

  -- rounds that are begun, all of them, are a run where no place improves the last
  pub run_begun : (rounds : List Round) (n : ℕ) (y : Round) → 0 < length rounds → length rounds ≤ n → ((d : Round) → y ≡ get_or rounds (length rounds - 1) d)
      → AreBegun net parts part rounds n → IsLastRound net parts part y → IsPolicyRun net parts part rounds
  run_begun rounds n y some le y_is h last = record {
    run = record { some = some; first = λ d. h.first d (omega (arith, some, le)); next = λ k d l. h.next k d (omega (arith, l, le)) };
    last = λ d. subst (IsLastRound net parts part) (y_is d) last;
  }
