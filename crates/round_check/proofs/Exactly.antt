-- The other way: each round of a run passes what is checked.
use Rattle.std.proofs.Common.{ℕ, zero, suc, ◌+◌, ◌*◌, ◌/◌, ◌%◌, ◌<◌, ◌≤◌, ◌≡◌, ◌≢◌, List, Bool, None, length, get_or, take, sym, ap, subst, ◌∙◌, arith, inl, inr, ⊎_elim}
use Rattle.std.specs.Int.{IsGcd}
use Rattle.std.specs.Prelude.{ℤ, pos, ◌⊎◌, ◌↔◌}
use Rattle.std.proofs.lemmas.Int.{ints}
use Rattle.std.proofs.lemmas.Bool.{cases_eq, cases_lt}
use Rattle.std.proofs.lemmas.List.{get_or-take, length-take-le}
use Rattle.std.proofs.lemmas.Nat.Gcd.{IsGcd-from_zero, IsGcd-from_mod}
use Rattle.std.proofs.Math.Nat.{div-le_self}
use Rattle.teg_net.specs.declared.entries.PlaceId.{PlaceId}
use Rattle.teg_net.specs.declared.rounds.Choice.{Choice}
use Rattle.teg_net.specs.declared.rounds.Round.{Round}
use Rattle.teg_net.specs.Nets.{NetLists, IsNet}
use Rattle.teg_net.specs.Circuits.{IsLive, from_of, time_of, tokens_of}
use Rattle.teg_net.specs.Limits.{greatest_scaled_potential}
use Rattle.teg_net.specs.Parts.{IsMember}
use Rattle.teg_net.specs.PartAnswers.{first_transition_of}
use Rattle.teg_net.specs.Ratios.{Fraction, IsRatioOf}
use Rattle.teg_net.specs.ReducedTimes.{IsMagnitudeWithin, reduced_time}
use Rattle.policy_rounds.specs.Policies.{Policy, IsPolicy, IsChanged, IsRouting, LeadsBack, step_back}
use Rattle.policy_rounds.specs.PolicyRounds.{FollowsRound, IsFirstRound, IsRound, IsRoundOf, IsRunTo, KeepsCircuit, chosen, potential, value_in}
use Rattle.policy_rounds.specs.PolicyLists.{AreLowest, IsCircuitRatio, policy_of, step_bound}
use Rattle.teg_parts.specs.Components.{IsMarked}
use Rattle.teg_net.proofs.LowestTerms.{IsRatioOf-divided}
use Rattle.teg_net.proofs.Reading.{same_id}
use Rattle.teg_certificates.proofs.OneRatio.{one_ratio}
use Rattle.teg_certificates.proofs.Short.{circuit_sums}
use Rattle.policy_rounds.proofs.Back.{back_add}
use Rattle.policy_rounds.proofs.ListedChoices.{only_members}
use Rattle.policy_rounds.proofs.Optimum.{some_token}
use Rattle.policy_rounds.proofs.OneRun.{round_agrees, runs_agree}
use Rattle.policy_rounds.proofs.BestCircuits.{any_kind}
use Rattle.policy_rounds.proofs.Turns.{better_is_policy}
use Rattle.policy_rounds.proofs.Unique.{circuit_agrees, one_improvement}
use Rattle.policy_rounds.proofs.StepBounds.{count_small, within_sum}
use Rattle.round_check.specs.declared.circuits.Bound.{Bound}
use Rattle.round_check.specs.declared.policies.Spread.{Spread}
use Rattle.round_check.specs.declared.runs.Step.{Step}
use Rattle.round_check.specs.Offers.{IsSpread}
use Rattle.round_check.specs.Routes.{IsRoutedBy}
use Rattle.round_check.specs.PolicyCircuits.{AllAtMost, FitsPolicy, IsBoundOf}
use Rattle.round_check.specs.Rounds.{AreBegun, IsStep, Keeps, Stands}
use Rattle.round_check.proofs.Choosing.{own_at}
use Rattle.round_check.proofs.Joining.{home_soon}
use Rattle.round_check.proofs.Stepping.{lowest_policy, of_kind, places_are, step_policy}

module _ (net : NetLists) (parts : List ℕ) (part : ℕ) where
  -- ---- a round that is made of a policy
  pub fits_made : (π : Policy) (marked : List Bool) (r : Round) (b : Bound) → IsBoundOf net r.circuit.places.items b → IsRoundOf net parts part π (IsMarked marked) r
      → FitsPolicy net parts part π marked r.circuit.places.items b
  fits_made π marked r b is h = record {
    own = h.best.is.own;
    through = h.best.through;
    most = λ d hd w.
        let c : List PlaceId = r.circuit.places.items in
        let up = h.best.greatest d hd w in
        let fits : (time_of net d * tokens_of net c < time_of net c * tokens_of net d)
        ⊎ ((time_of net d * tokens_of net c ≡ time_of net c * tokens_of net d) × (first_transition_of net c ≤ first_transition_of net d)) =
        ⊎_elim
        (λ (l : time_of net d * tokens_of net c < time_of net c * tokens_of net d). inl l)
        (λ (l : time_of net c * tokens_of net d ≤ time_of net d * tokens_of net c).
        let e : time_of net d * tokens_of net c ≡ time_of net c * tokens_of net d = omega arith in
        inr (e, h.best.lowest d hd w e))
        (cases_lt (time_of net d * tokens_of net c) (time_of net c * tokens_of net d)) in
        rw (is.time, is.tokens, is.first) fits;
  }

  pub routed_made : (π : Policy) (Kind : ℕ → Type 0) (r : Round) (b : Bound) (s : Spread) → IsBoundOf net r.circuit.places.items b → IsSpread (length parts) r.choices.items s
      → IsRoundOf net parts part π Kind r → IsRoutedBy net parts part π b.first (policy_of s.policy.items)
  routed_made π Kind r b s is own h = (
    h.routing.0,
    subst (λ x. IsRouting net parts part π x h.routing.0 (policy_of s.policy.items)) (sym is.first)
        (subst (λ f. IsRouting net parts part π (first_transition_of net r.circuit.places.items) h.routing.0 f) (sym (places_are (length parts) r s own)) h.routing.1),
  )

  -- ---- the first round
  pub first_made : (r : Round) (first : List PlaceId) (marks : List Bool) → AreLowest net parts part first → ((t : ℕ) → IsMarked marks t ↔ IsMember parts part t)
      → IsFirstRound net parts part r → IsRoundOf net parts part (policy_of first) (IsMarked marks) r
  first_made r first marks low is h =
      let f : Policy = h.begins.0 in
      let same = λ (t : ℕ) (i : IsMember parts part t).
      let x = h.begins.1 t i in
      let y = low.lowest t (f t) x.enters in
      let a = x.lowest (policy_of first t) y.enters in
      let b = y.lowest (f t) x.enters in
      let e : f t ≡ policy_of first t = same_id (f t) (policy_of first t) (omega arith) in e in
      of_kind net parts part (policy_of first) (IsMember parts part) (IsMarked marks) r (λ t m k. (is t).1 m) (λ t m k. m)
      (round_agrees net parts part f (policy_of first) (λ t i. (h.begins.1 t i).enters) (lowest_policy net parts part r first h.round low) same (IsMember parts part) r h.begins.2)

  -- ---- the next round
  module _ (r : Round) (st : Step) (h : IsRound net parts part r) (is : IsStep net parts part r st) (s : Round) (f : FollowsRound net parts part r s) where
    better_agrees : (t : ℕ) → IsMember parts part t → f.better t ≡ policy_of st.policy.items t
    better_agrees = one_improvement net parts part r.ratio.time r.ratio.tokens (chosen r) (potential r) f.better (policy_of st.policy.items) f.improves is.improves

    better_ok : IsPolicy net parts part f.better
    better_ok = better_is_policy net parts part (chosen r) h.policy r.ratio.time r.ratio.tokens r.circuit.places.items h.circuit h.ratio.same (potential r) h.sums f.better f.improves

    to_marked : (t : ℕ) → IsMember parts part t → IsChanged parts part (chosen r) f.better t → IsMarked st.marks.items t
    to_marked t i y = (is.marks t).1 (i, λ z. y.1 (better_agrees t i ∙ z))

    from_marked : (t : ℕ) → IsMember parts part t → IsMarked st.marks.items t → IsChanged parts part (chosen r) f.better t
    from_marked t i k = let y = (is.marks t).0 k in (i, λ z. y.1 (sym (better_agrees t i) ∙ z))

    made_again : IsRoundOf net parts part f.better (IsChanged parts part (chosen r) f.better) s → IsRoundOf net parts part (policy_of st.policy.items) (IsMarked st.marks.items) s
    made_again x =
        of_kind net parts part (policy_of st.policy.items) (IsChanged parts part (chosen r) f.better) (IsMarked st.marks.items) s to_marked from_marked
        (round_agrees net parts part f.better (policy_of st.policy.items) better_ok (step_policy net parts part r st h is) better_agrees
        (IsChanged parts part (chosen r) f.better) s x)

    -- where a circuit of the better policy passes a changed member
    pub made_where_some : (AllAtMost net parts part (policy_of st.policy.items) st.marks.items None → ⊥) → IsRoundOf net parts part (policy_of st.policy.items) (IsMarked st.marks.items) s
    made_where_some some =
        ⊎_elim
        (λ (x : IsRoundOf net parts part f.better (IsChanged parts part (chosen r) f.better) s). made_again x)
        (λ (y : KeepsCircuit net parts part r s f.better).
        absurd (some (λ d hd w. y.none_new d (circuit_agrees net parts part (policy_of st.policy.items) f.better (λ t i. sym (better_agrees t i)) d hd)
        (any_kind net parts part (IsMarked st.marks.items) (IsChanged parts part (chosen r) f.better) from_marked d hd.inside w))))
        f.next

    -- where none does
    pub kept_where_none : AllAtMost net parts part (policy_of st.policy.items) st.marks.items None → Keeps parts part r st.policy.items s
    kept_where_none none =
        ⊎_elim
        (λ (x : IsRoundOf net parts part f.better (IsChanged parts part (chosen r) f.better) s).
        let y = made_again x in absurd (none s.circuit.places.items y.best.is y.best.through))
        (λ (y : KeepsCircuit net parts part r s f.better).
        record { circuit = y.same_circuit; ratio = y.same_ratio; places = λ t i. y.same_places t i ∙ better_agrees t i })
        f.next

  -- ---- the limits
  nothing_small : (n : ℕ) → IsMagnitudeWithin n (pos 0)
  nothing_small n = record { low = omega (arith, ints); high = omega (arith, ints) }

  -- a potential is a sum of no more places than lead back
  sum_small : (r : Round) → IsNet net → IsRound net parts part r → IsCircuitRatio r.ratio → (m t : ℕ) → IsMember parts part t
      → step_back net (chosen r) m t ≡ first_transition_of net r.circuit.places.items → IsMagnitudeWithin (m * step_bound) (potential r t)
  sum_small r kept h small zero t i e = subst (IsMagnitudeWithin (zero * step_bound)) (sym (ap (potential r) e ∙ h.sums.start)) (nothing_small (zero * step_bound))
  sum_small r kept h small (suc m) t i e =
      let root : ℕ = first_transition_of net r.circuit.places.items in
      let p : PlaceId = chosen r t in
      ⊎_elim
      (λ (q : t ≡ root). subst (IsMagnitudeWithin (suc m * step_bound)) (sym (ap (potential r) q ∙ h.sums.start)) (nothing_small (suc m * step_bound)))
      (λ (ne : t ≢ root).
      let is : m + 1 ≡ suc m = omega arith in
      let u : ℕ = from_of net p in
      let inside = (h.policy t i).inside in
      let shift : step_back net (chosen r) m u ≡ root = back_add net (chosen r) m 1 t ∙ (ap (λ n. step_back net (chosen r) n t) is ∙ e) in
      let rest = sum_small r kept h small m u inside.from_member shift in
      let own = count_small net r.ratio p kept small inside.in_range in
      let sum = within_sum m (reduced_time net r.ratio.time r.ratio.tokens p) (potential r u) own rest in
      subst (λ n. IsMagnitudeWithin (n * step_bound) (potential r t)) is (subst (IsMagnitudeWithin ((m + 1) * step_bound)) (sym (h.sums.others t i ne)) sum))
      (cases_eq t root)

  widened : (n : ℕ) (z : ℤ) → n ≤ 400 → IsMagnitudeWithin (n * step_bound) z → IsMagnitudeWithin greatest_scaled_potential z
  widened n z l h = let a = h.low in let b = h.high in record { low = omega (arith, ints); high = omega (arith, ints) }

gcd_upto : (fuel a b : ℕ) → b < fuel → (g : ℕ) × IsGcd a b g
gcd_upto zero a b l = absurd (omega arith)
gcd_upto (suc fuel) a b l =
    ⊎_elim
    (λ (e : b ≡ 0). (a, IsGcd-from_zero a b e))
    (λ (ne : b ≢ 0).
    let down = gcd_upto fuel b (a % b) (omega arith) in
    (down.0, IsGcd-from_mod a b down.0 down.1))
    (cases_eq b 0)

-- a ratio in lowest terms has no more time and tokens than those of which it is the ratio
terms_small : (time tokens : ℕ) (r : Fraction) → 0 < tokens → IsRatioOf time tokens r → (r.time ≤ time) × (r.tokens ≤ tokens)
terms_small time tokens r some h =
    let g = gcd_upto (tokens + 1) time tokens (omega arith) in
    let d : ℕ = g.0 in
    let same = one_ratio time tokens r (record { time = time / d; tokens = tokens / d }) some h (IsRatioOf-divided time tokens d some g.1) in
    (omega (arith, same.0, div-le_self time d), omega (arith, same.1, div-le_self tokens d))

module _ (net : NetLists) (parts : List ℕ) (part : ℕ) (kept : IsNet net) (live : IsLive net) (count : length parts ≡ length net.transitions) where
  ratio_small : (r : Round) → IsRound net parts part r → IsCircuitRatio r.ratio
  ratio_small r h =
      let c : List PlaceId = r.circuit.places.items in
      let sums = circuit_sums net kept c h.circuit.circuit in
      let small = terms_small (time_of net c) (tokens_of net c) r.ratio (some_token net live c h.circuit.circuit) h.ratio in
      record { time_in = omega (arith, sums.0, small.0); tokens_in = omega (arith, sums.1, small.1) }

  stands_at_home : (r : Round) → IsRound net parts part r → ((t : ℕ) → IsMember parts part t → LeadsBack net (chosen r) t (first_transition_of net r.circuit.places.items)) → Stands net parts part r
  stands_at_home r h home =
      let cs : List Choice = r.choices.items in
      let ratio = ratio_small r h in
      record {
        round = h;
        limits = record {
          ratio = ratio;
          values = λ i d l.
              let t : ℕ = (get_or cs i d).transition.index in
              let m = only_members parts part cs h.members i d l in
              let soon = home_soon net parts part (chosen r) h.policy t (first_transition_of net r.circuit.places.items) m (home t m) in
              let few = kept.few_transitions in
              let small = widened net parts part soon.0 (potential r t) (omega (arith, soon.1, count, few)) (sum_small net parts part r kept h ratio soon.0 t m soon.2) in
              subst (IsMagnitudeWithin greatest_scaled_potential) (ap value_in (own_at parts part cs h.members i d l)) small;
        };
      }

  -- the rounds with which a run of a live net begins stand
  pub begun_stand : (rounds : List Round) (n : ℕ) → n ≤ length rounds → AreBegun net parts part rounds n → (k : ℕ) (d : Round) → k < n → Stands net parts part (get_or rounds k d)
  begun_stand rounds n le h k d l =
      let firsts : List Round = take n rounds in
      let many : length firsts ≡ n = length-take-le n rounds le in
      let same : (i : ℕ) (e : Round) → i < n → get_or firsts i e ≡ get_or rounds i e = λ i e m. get_or-take n rounds i e m in
      let run : IsRunTo net parts part firsts = record {
        some = omega (arith, l, many);
        first = λ e. subst (IsFirstRound net parts part) (sym (same 0 e (omega (arith, l)))) (h.first e (omega (arith, l)));
        next = λ i e m.
            let low : i + 1 < n = omega (arith, m, many) in
            subst (λ (r : Round). FollowsRound net parts part r (get_or firsts (i + 1) e)) (sym (same i e (omega (arith, low))))
            (subst (λ (r : Round). FollowsRound net parts part (get_or rounds i e) r) (sym (same (i + 1) e low)) (h.next i e low));
      } in
      let within : k < length firsts = omega (arith, l, many) in
      let own = runs_agree net parts part live firsts firsts d run run k within within in
      subst (Stands net parts part) (same k d l) (stands_at_home (get_or firsts k d) own.2 own.1)
