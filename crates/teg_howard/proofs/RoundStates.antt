-- Rounds that stand, and the step from one to the next.
use Rattle.std.proofs.Common.{ℕ, ◌+◌, ◌*◌, ◌<◌, ◌≤◌, ◌≡◌, ◌≢◌, List, Bool, length, refl, sym, ap, subst, ◌∙◌, arith, inl, inr, ⊎_elim}
use Rattle.std.specs.Prelude.{pos, All, Any}
use Rattle.std.proofs.lemmas.Int.{ints}
use Rattle.std.proofs.lemmas.Bool.{cases_lt}
use Rattle.teg_net.specs.declared.entries.PlaceId.{PlaceId}
use Rattle.teg_net.specs.Nets.{NetLists, IsNet}
use Rattle.teg_net.specs.Circuits.{IsLive, time_of, tokens_of, from_of}
use Rattle.teg_net.specs.Ratios.{Fraction, IsRatioOf}
use Rattle.teg_howard.specs.declared.settling.RoundState.{RoundState}
use Rattle.teg_howard.specs.declared.policy_circuits.FoundCircuit.{FoundCircuit}
use Rattle.teg_net.specs.Parts.{IsMember, to_of}
use Rattle.policy_rounds.specs.Policies.{IsPolicy, IsPolicyCircuit, IsBestCircuit, LeadsBack, IsRouting, AreSums, Improves, IsImprovement, IsChanged, first_id, offer_of}
use Rattle.teg_net.specs.PartAnswers.{first_transition_of}
use Rattle.policy_rounds.specs.PolicyRounds.{chosen, potential, chosen_place, value_in, IsRound, IsRoundOf, BeginsBy, IsLastRound}
use Rattle.teg_howard.specs.FoundCircuits.{potentials, value_or_zero, CanSettle, IsSettled, IsBestFound, IsBetterPolicy}
use Rattle.policy_rounds.specs.PolicyLists.{IsCircuitRatio, policy_of}
use Rattle.teg_howard.specs.RoundStates.{IsRoundState, HasCircuit, IsNextRoundState}
use Rattle.policy_rounds.proofs.Turns.{cases_member, everywhere, better_is_policy, greater_ratio, still_back_to_root, still_circuit, rises, rises_more}
use Rattle.policy_rounds.proofs.Routing.{all_home, routed_is_policy, circuit_kept}
use Rattle.teg_howard.proofs.Improving.{cases_marked}
use Rattle.policy_rounds.proofs.ListedChoices.{lists_members, begins_lowest}
use Rattle.policy_rounds.proofs.First.{best_lowest}
use Rattle.policy_rounds.proofs.Optimum.{some_token}
use Rattle.std.proofs.Math.Nat.{mul-le-mul_right}
use Rattle.teg_parts.specs.Components.{IsMarked}
use Rattle.policy_rounds.proofs.BestCircuits.{same_functions, any_kind, best_kind}

-- the ratio of a circuit that gains at a / b, in lowest terms, is greater
pub ratio_less : (a b c d time tokens : ℕ) → 0 < d → 0 < tokens → a * tokens < b * time → time * d ≡ c * tokens → a * d < c * b
ratio_less a b c d time tokens pd pt up same =
    let m : (a * tokens + 1) * d ≤ (b * time) * d = mul-le-mul_right d (let l : a * tokens + 1 ≤ b * time = omega arith in l) in
    let e : b * (time * d) ≡ b * (c * tokens) = ap (λ x. b * x) same in
    ⊎_elim
    (λ (l : a * d < c * b). l)
    (λ (l : c * b ≤ a * d). let n : c * b * tokens ≤ a * d * tokens = mul-le-mul_right tokens l in absurd (grind (arith, m, e, n)))
    (cases_lt (a * d) (c * b))

module _ (net : NetLists) (parts : List ℕ) (part : ℕ) where
  -- what `settle` leaves stands
  pub settled_stands :
      (policy routed : List PlaceId) (r : Fraction) (c : List PlaceId) (st : RoundState) → CanSettle net parts part policy r c
      → ((t : ℕ) → (IsMember parts part t → ⊥) → policy_of policy t ≡ first_id) → length routed ≡ length parts
      → IsSettled net parts part policy routed r c st → IsRoundState net parts part routed st
  settled_stands policy routed r c st can out count h =
      let s : ℕ = first_transition_of net c in
      let joins = h.members.routing.0 in
      let routing = h.members.routing.1 in
      let kept = circuit_kept net parts part (policy_of policy) can.is_policy s joins (policy_of routed) routing c can.circuit refl in
      let ok = routed_is_policy net parts part (policy_of policy) can.is_policy s joins (policy_of routed) routing in
      let root : s ≡ first_transition_of net st.round.circuit.places.items = ap (first_transition_of net) (sym h.circuit) in
      let outside = λ (t : ℕ) (o : IsMember parts part t → ⊥). h.members.outside t o ∙ out t o in
      record {
        members = h.made.lists;
        chosen_is = λ t.
            ⊎_elim
            (λ (m : IsMember parts part t). ap chosen_place (h.made.inside t m))
            (λ (o : IsMember parts part t → ⊥). ap chosen_place (h.made.outside t o) ∙ sym (outside t o))
            (cases_member parts part t);
        potential_is = λ t.
            ⊎_elim
            (λ (m : IsMember parts part t). ap value_in (h.made.inside t m))
            (λ (o : IsMember parts part t → ⊥). ap value_in (h.made.outside t o) ∙ sym (ap value_or_zero (h.members.only t o)))
            (cases_member parts part t);
        is_policy = ok;
        circuit = subst (IsPolicyCircuit net parts part (policy_of routed)) (sym h.circuit) kept;
        lowest_first = subst (λ x. All (λ p. first_transition_of net x ≤ from_of net p) x) (sym h.circuit) can.lowest_first;
        ratio = subst (λ x. IsRatioOf (time_of net st.round.circuit.places.items) (tokens_of net st.round.circuit.places.items) x)
            (sym h.ratio) (subst (λ x. IsRatioOf (time_of net x) (tokens_of net x) r) (sym h.circuit) can.ratio);
        sums = subst (λ x. AreSums net parts part x.time x.tokens (policy_of routed) (first_transition_of net st.round.circuit.places.items) (potentials st.values.items)) (sym h.ratio)
            (subst (λ x. AreSums net parts part r.time r.tokens (policy_of routed) x (potentials st.values.items)) root h.members.sums);
        home = λ t m. subst (λ x. LeadsBack net (policy_of routed) t x) root (all_home net parts part (policy_of policy) can.is_policy s joins (policy_of routed) routing t m);
        small = subst IsCircuitRatio (sym h.ratio) can.small;
        count = count;
        count_values = h.members.count;
        in_range = h.members.in_range;
        has = h.members.has;
        within = h.members.within;
        outside = outside;
        no_value = h.members.only;
      }

  pub standing_round : (policy : List PlaceId) (st : RoundState) → IsRoundState net parts part policy st → IsRound net parts part st.round
  standing_round policy st h =
      let f : policy_of policy ≡ chosen st.round = sym (same_functions (chosen st.round) (policy_of policy) h.chosen_is) in
      let v : potentials st.values.items ≡ potential st.round = sym (same_functions (potential st.round) (potentials st.values.items) h.potential_is) in
      let c : List PlaceId = st.round.circuit.places.items in
      record {
        members = lists_members parts part st.round.choices.items h.members;
        policy = subst (IsPolicy net parts part) f h.is_policy;
        circuit = subst (λ x. IsPolicyCircuit net parts part x c) f h.circuit;
        lowest_first = begins_lowest net c h.lowest_first;
        ratio = h.ratio;
        sums = subst (λ x. AreSums net parts part st.round.ratio.time st.round.ratio.tokens (chosen st.round) (first_transition_of net c) x) v
            (subst (λ x. AreSums net parts part st.round.ratio.time st.round.ratio.tokens x (first_transition_of net c) (potentials st.values.items)) f h.sums);
      }

  -- a round made from a policy's best circuit
  pub round_from :
      (policy routed : List PlaceId) (r : Fraction) (c : List PlaceId) (st : RoundState) (Kind : ℕ → Type 0)
      → IsRoundState net parts part routed st → IsSettled net parts part policy routed r c st → IsBestCircuit net parts part (policy_of policy) Kind c
      → IsRoundOf net parts part (policy_of policy) Kind st.round
  round_from policy routed r c st Kind state h best =
      let f : policy_of routed ≡ chosen st.round = sym (same_functions (chosen st.round) (policy_of routed) state.chosen_is) in
      record {
        best = subst (IsBestCircuit net parts part (policy_of policy) Kind) (sym h.circuit) best;
        routing = (
          h.members.routing.0,
          subst (λ x. IsRouting net parts part (policy_of policy) (first_transition_of net st.round.circuit.places.items) h.members.routing.0 x) f
              (subst (λ x. IsRouting net parts part (policy_of policy) (first_transition_of net x) h.members.routing.0 (policy_of routed)) (sym h.circuit) h.members.routing.1),
        );
      }

  -- ---- the step
  module _ (policy better : List PlaceId) (st : RoundState) (marked : List Bool) (state : IsRoundState net parts part policy st)
      (up : IsBetterPolicy net parts part st.round.ratio st.values.items policy better marked) where
    pub step_policy : IsPolicy net parts part (policy_of better)
    step_policy = better_is_policy net parts part (policy_of policy) state.is_policy st.round.ratio.time st.round.ratio.tokens
        st.round.circuit.places.items state.circuit state.ratio.same (potentials st.values.items) state.sums (policy_of better) up.improves

    -- the marked members are the changed ones
    changed_marked : (t : ℕ) → IsMember parts part t → policy_of better t ≢ policy_of policy t → IsMarked marked t
    changed_marked t m ne = ⊎_elim (λ (y : IsMarked marked t). y) (λ (z : IsMarked marked t → ⊥). absurd (ne (up.rest t z))) (cases_marked marked t)

    marked_changed : (t : ℕ) → IsMember parts part t → IsMarked marked t → policy_of better t ≢ policy_of policy t
    marked_changed t m y e =
        let more = (up.marks t y).more in
        let same : offer_of net st.round.ratio.time st.round.ratio.tokens (potentials st.values.items)
        (policy_of better t) ≡ offer_of net st.round.ratio.time st.round.ratio.tokens (potentials st.values.items)
        (policy_of policy t) = ap (offer_of net st.round.ratio.time st.round.ratio.tokens (potentials st.values.items)) e in
        let here = everywhere net parts part (policy_of policy) state.is_policy st.round.ratio.time st.round.ratio.tokens
        st.round.circuit.places.items state.circuit state.ratio.same (potentials st.values.items) state.sums t m in
        omega (arith, ints, more, same, here)

    chosen_to : chosen st.round ≡ policy_of policy
    chosen_to = same_functions (chosen st.round) (policy_of policy) state.chosen_is

    potential_to : potential st.round ≡ potentials st.values.items
    potential_to = same_functions (potential st.round) (potentials st.values.items) state.potential_is

    kind_to : (t : ℕ) → IsMember parts part t → IsMarked marked t → IsChanged parts part (chosen st.round) (policy_of better) t
    kind_to t m y = (m, subst (λ x. policy_of better t ≢ x t) (sym chosen_to) (marked_changed t m y))

    kind_from : (t : ℕ) → IsMember parts part t → IsChanged parts part (chosen st.round) (policy_of better) t → IsMarked marked t
    kind_from t m y = changed_marked t m (subst (λ x. policy_of better t ≢ x t) chosen_to y.1)

    improvement : IsImprovement net parts part st.round.ratio.time st.round.ratio.tokens (chosen st.round) (potential st.round) (policy_of better)
    improvement = subst (λ x. IsImprovement net parts part st.round.ratio.time st.round.ratio.tokens x (potential st.round) (policy_of better)) (sym chosen_to)
        (subst (λ x. IsImprovement net parts part st.round.ratio.time st.round.ratio.tokens (policy_of policy) x (policy_of better)) (sym potential_to) up.improves)

    improvable : (t : ℕ) → IsMarked marked t → (u : ℕ) × (p : PlaceId) × Improves net parts part st.round.ratio.time st.round.ratio.tokens (potential st.round) u p
    improvable t y = (t, policy_of better t, subst (λ x. Improves net parts part st.round.ratio.time st.round.ratio.tokens x t (policy_of better t)) (sym potential_to) (up.marks t y))

    -- no member is marked: the round is the last
    pub none_marked : ((t : ℕ) → IsMarked marked t → ⊥) → IsLastRound net parts part st.round
    none_marked none t p i = up.none t (none t) p (subst (λ x. Improves net parts part st.round.ratio.time st.round.ratio.tokens x t p) potential_to i)

    -- the better policy has a circuit through a marked member
    pub step_new : (routed : List PlaceId) (r : Fraction) (f : FoundCircuit) (next : RoundState) (live : IsLive net)
        → IsBestFound net parts part (policy_of better) marked f → IsRatioOf (time_of net f.places.items) (tokens_of net f.places.items) r
        → IsRoundState net parts part routed next → IsSettled net parts part better routed r f.places.items next → IsNextRoundState net parts part routed st next
    step_new routed r f next live best ratio standing h =
        let c : List PlaceId = f.places.items in
        let through : Any (λ p. IsMarked marked (to_of net p)) c = best.best.through in
        let new = any_kind net parts part (IsMarked marked) (λ t. IsChanged parts part (policy_of policy) (policy_of better) t) (λ t m y. (m, marked_changed t m y)) c best.best.is.inside through in
        let up_ratio = greater_ratio net parts part
        (policy_of policy) state.is_policy st.round.ratio.time st.round.ratio.tokens st.round.circuit.places.items state.circuit
        state.ratio.same (potentials st.values.items) state.sums (policy_of better) up.improves c best.best.is new in
        let tokens = some_token net live c best.best.is.circuit in
        let less = ratio_less st.round.ratio.time st.round.ratio.tokens r.time r.tokens (time_of net c) (tokens_of net c) ratio.terms.some tokens up_ratio ratio.same in
        record {
          standing = standing;
          follows = record {
            round = standing_round routed next standing;
            improvable = improvable (to_of net through.1) through.4;
            better = policy_of better;
            improves = improvement;
            next = inl (round_from better routed r c next (IsChanged parts part (chosen st.round) (policy_of better)) standing h
                (best_kind net parts part (policy_of better) (IsMarked marked) (IsChanged parts part (chosen st.round) (policy_of better)) c kind_to kind_from best.best));
          };
          rises = inl (subst (λ x. st.round.ratio.time * x.tokens < x.time * st.round.ratio.tokens) (sym h.ratio) less);
        }

    -- it has none: ratio and circuit stay
    module _ (none : (d : List PlaceId) → IsPolicyCircuit net parts part (policy_of better) d → Any (λ p. IsMarked marked (to_of net p)) d → ⊥) where
      none_new : (d : List PlaceId) → IsPolicyCircuit net parts part (policy_of better) d → Any (λ p. IsChanged parts part (policy_of policy) (policy_of better) (to_of net p)) d → ⊥
      none_new d h w = none d h (any_kind net parts part (λ t. IsChanged parts part (policy_of policy) (policy_of better) t) (IsMarked marked) (λ t m y. changed_marked t m y.1) d h.inside w)

      pub same_circuit_stands : IsPolicyCircuit net parts part (policy_of better) st.round.circuit.places.items
      same_circuit_stands = still_circuit net parts part
          (policy_of policy) state.is_policy st.round.ratio.time st.round.ratio.tokens st.round.circuit.places.items state.circuit
          state.ratio.same (potentials st.values.items) state.sums (policy_of better) up.improves state.home none_new

      leads_back : (t : ℕ) → IsMember parts part t → LeadsBack net (policy_of better) t (first_transition_of net st.round.circuit.places.items)
      leads_back = still_back_to_root net parts part
          (policy_of policy) state.is_policy st.round.ratio.time st.round.ratio.tokens st.round.circuit.places.items state.circuit
          state.ratio.same (potentials st.values.items) state.sums (policy_of better) up.improves state.home none_new

      pub step_same : (routed : List PlaceId) (next : RoundState) (kept : IsNet net) (count : length parts ≡ length net.transitions) (t : ℕ) → IsMarked marked t
          → IsRoundState net parts part routed next → IsSettled net parts part better routed st.round.ratio st.round.circuit.places.items next → IsNextRoundState net parts part routed st next
      step_same routed next kept count t y standing h =
          let a : ℕ = st.round.ratio.time in
          let b : ℕ = st.round.ratio.tokens in
          let c : List PlaceId = st.round.circuit.places.items in
          let v = potentials st.values.items in
          let w = potentials next.values.items in
          let same = λ (u : ℕ) (m : IsMember parts part u). h.members.routing.1.kept u m (leads_back u m) in
          let sums : AreSums net parts part a b (policy_of better) (first_transition_of net c) w = record {
            start = h.members.sums.start;
            others = λ u m ne. subst (λ x. w u ≡ offer_of net a b w x) (same u m) (h.members.sums.others u m ne);
          } in
          let low = rises net parts part (policy_of policy) state.is_policy a b c state.circuit state.ratio.same v state.sums (policy_of better) up.improves state.home none_new w sums in
          let high = rises_more net parts part (policy_of policy) state.is_policy a b c state.circuit state.ratio.same v state.sums (policy_of better) up.improves state.home none_new w sums in
          let member : IsMember parts part t = subst (IsMember parts part) (up.marks t y).enters.ends (up.marks t y).enters.inside.to_member in
          let in' = member.in_range in
          let few = kept.few_transitions in
          record {
            standing = standing;
            follows = record {
              round = standing_round routed next standing;
              improvable = improvable t y;
              better = policy_of better;
              improves = improvement;
              next = inr (record {
                none_new = λ d hd n. none d hd (any_kind net parts part (IsChanged parts part (chosen st.round) (policy_of better)) (IsMarked marked) kind_from d hd.inside n);
                same_circuit = h.circuit;
                same_ratio = h.ratio;
                same_places = λ u m. standing.chosen_is u ∙ same u m;
              });
            };
            rises = inr (record {
              same = h.ratio;
              no_lower = λ u.
                  let x = state.potential_is u in
                  let z = standing.potential_is u in
                  ⊎_elim
                  (λ (m : IsMember parts part u). rw (x, z) (low u m))
                  (λ (o : IsMember parts part u → ⊥). let e : v u ≡ pos 0 =
                  ap value_or_zero (state.no_value u o) in let f : w u ≡ pos 0 =
                  ap value_or_zero (standing.no_value u o) in rw (x, z, e, f) (omega (arith, ints)))
                  (cases_member parts part u);
              higher = (t, omega arith, rw (state.potential_is t, standing.potential_is t) (high t member (marked_changed t member y)));
            });
          }

  -- ---- the first round
  pub first_stands :
      (policy routed : List PlaceId) (everywhere_marked : List Bool) (r : Fraction) (f : FoundCircuit) (st : RoundState)
      → ((t : ℕ) → IsMember parts part t → IsMarked everywhere_marked t)
      → IsBestFound net parts part (policy_of policy) everywhere_marked f → IsRoundState net parts part routed st
      → IsSettled net parts part policy routed r f.places.items st → BeginsBy net parts part (policy_of policy) st.round
  first_stands policy routed all r f st marks best standing h = record {
    round = standing_round routed st standing;
    made =
        round_from policy routed r f.places.items st (IsMember parts part) standing h
        (best_kind net parts part (policy_of policy) (IsMarked all) (IsMember parts part) f.places.items (λ t m y. m) (λ t m y. marks t m) best.best);
  }

pub ratio_to : (net : NetLists) (f : FoundCircuit) (r : Fraction) → f.time ≡ time_of net f.places.items
    → f.tokens ≡ tokens_of net f.places.items → IsRatioOf f.time f.tokens r → IsRatioOf (time_of net f.places.items) (tokens_of net f.places.items) r
ratio_to net f r t k h = subst (λ x. IsRatioOf (time_of net f.places.items) x r) k (subst (λ x. IsRatioOf x f.tokens r) t h)

pub can_settle :
    (net : NetLists) (parts : List ℕ) (part : ℕ) (ps : List PlaceId) (r : Fraction) (f : FoundCircuit) (marked : List Bool)
    → HasCircuit net parts part → length ps ≡ length parts → IsPolicy net parts part (policy_of ps) → All (λ p. p.index < length net.places) ps
    → IsBestFound net parts part (policy_of ps) marked f → IsRatioOf f.time f.tokens r → r.time ≤ f.time → r.tokens ≤ f.tokens → CanSettle net parts part ps r f.places.items
can_settle net parts part ps r f marked h count ok in_range best ratio time tokens =
    let t = best.time_in in
    let k = best.tokens_in in
    record {
      kept = h.kept;
      parts_ = h.parts_;
      count = count;
      is_policy = ok;
      in_range = in_range;
      circuit = best.best.is;
      lowest_first = best_lowest net parts part (policy_of ps) (IsMarked marked) f.places.items best.best;
      ratio = ratio_to net f r best.time best.tokens ratio;
      small = record { time_in = omega arith; tokens_in = omega arith };
    }

better_outside : (net : NetLists) (parts : List ℕ) (part : ℕ) (policy better : List PlaceId) (st : RoundState) (marked : List Bool)
    → IsRoundState net parts part policy st → IsBetterPolicy net parts part st.round.ratio st.values.items policy better marked → (t : ℕ)
    → (IsMember parts part t → ⊥) → policy_of better t ≡ first_id
better_outside net parts part policy better st marked state up t o =
    up.rest t (λ y. let e = (up.marks t y).enters in o (subst (IsMember parts part) e.ends e.inside.to_member)) ∙ state.outside t o

pub ready_new :
    (net : NetLists) (parts : List ℕ) (part : ℕ) (policy better : List PlaceId) (st : RoundState) (marked : List Bool) (r : Fraction)
    (f : FoundCircuit) → HasCircuit net parts part → IsRoundState net parts part policy st
    → IsBetterPolicy net parts part st.round.ratio st.values.items policy better marked → length better ≡ length parts
    → IsBestFound net parts part (policy_of better) marked f → IsRatioOf f.time f.tokens r → r.time ≤ f.time → r.tokens ≤ f.tokens
    → CanSettle net parts part better r f.places.items
ready_new net parts part policy better st marked r f h state up count best ratio time tokens =
    can_settle net parts part better r f marked h count (step_policy net parts part policy better st marked state up) up.in_range best ratio time tokens

pub goes_new :
    (net : NetLists) (parts : List ℕ) (part : ℕ) (policy better routed : List PlaceId) (st next : RoundState) (marked : List Bool)
    (r : Fraction) (f : FoundCircuit) → HasCircuit net parts part → IsRoundState net parts part policy st
    → IsBetterPolicy net parts part st.round.ratio st.values.items policy better marked → IsBestFound net parts part (policy_of better) marked f → IsRatioOf f.time f.tokens r
    → CanSettle net parts part better r f.places.items → length routed ≡ length parts → IsSettled net parts part better routed r f.places.items next → IsNextRoundState net parts part routed st next
goes_new net parts part policy better routed st next marked r f h state up best ratio can count done =
    step_new net parts part policy better st marked state up routed r f next h.live best (ratio_to net f r best.time best.tokens ratio)
    (settled_stands net parts part better routed r f.places.items next can (better_outside net parts part policy better st marked state up) count done) done

pub ready_same :
    (net : NetLists) (parts : List ℕ) (part : ℕ) (policy better : List PlaceId) (st : RoundState) (marked : List Bool) → HasCircuit net parts part → IsRoundState net parts part policy st
    → IsBetterPolicy net parts part st.round.ratio st.values.items policy better marked → length better ≡ length parts
    → ((d : List PlaceId) → IsPolicyCircuit net parts part (policy_of better) d → Any (λ p. IsMarked marked (to_of net p)) d → ⊥)
    → CanSettle net parts part better st.round.ratio st.round.circuit.places.items
ready_same net parts part policy better st marked h state up count none = record {
  kept = h.kept;
  parts_ = h.parts_;
  count = count;
  is_policy = step_policy net parts part policy better st marked state up;
  in_range = up.in_range;
  circuit = same_circuit_stands net parts part policy better st marked state up none;
  lowest_first = state.lowest_first;
  ratio = state.ratio;
  small = state.small;
}

pub goes_same :
    (net : NetLists) (parts : List ℕ) (part : ℕ) (policy better routed : List PlaceId) (st next : RoundState) (marked : List Bool) → HasCircuit net parts part → IsRoundState net parts part policy st
    → IsBetterPolicy net parts part st.round.ratio st.values.items policy better marked
    → ((d : List PlaceId) → IsPolicyCircuit net parts part (policy_of better) d → Any (λ p. IsMarked marked (to_of net p)) d → ⊥)
    → (t : ℕ) → IsMarked marked t
    → CanSettle net parts part better st.round.ratio st.round.circuit.places.items → length routed ≡ length parts
    → IsSettled net parts part better routed st.round.ratio st.round.circuit.places.items next → IsNextRoundState net parts part routed st next
goes_same net parts part policy better routed st next marked h state up none t y can count done =
    step_same net parts part policy better st marked state up none routed next h.kept h.parts_.count t y
    (settled_stands net parts part better routed st.round.ratio st.round.circuit.places.items next can (better_outside net parts part policy better st marked state up) count done) done
