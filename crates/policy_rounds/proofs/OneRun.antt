-- A part has one policy run: two rounds that stand at one place of two runs are equal.
use Rattle.std.proofs.Common.{ℕ, zero, suc, ◌+◌, ◌-◌, ◌<◌, ◌≤◌, ◌≡◌, List, [], ◌∷◌, None, true, false, eqb, length, get_or, take, refl, sym, ap, subst, ◌∙◌, arith, inl, inr, ⊎_elim}
use Rattle.std.specs.Prelude.{All, Any}
use Rattle.std.proofs.lemmas.Bool.{cases_Bool, cases_lt, eqb-true}
use Rattle.std.proofs.lemmas.List.Elements.{All-tail}
use Rattle.teg_net.specs.declared.entries.PlaceId.{PlaceId}
use Rattle.teg_net.specs.Nets.{NetLists}
use Rattle.teg_net.specs.Circuits.{IsLive, time_of, tokens_of, from_of}
use Rattle.teg_net.specs.declared.rounds.Choice.{Choice}
use Rattle.teg_net.specs.declared.rounds.Round.{Round}
use Rattle.teg_net.specs.Parts.{IsMember, to_of}
use Rattle.policy_rounds.specs.Policies.{Policy, IsPolicy, IsBestCircuit, LeadsBack, IsRouted, Joins, IsRouting, AreSums, IsImprovement, IsChanged, Improves}
use Rattle.teg_net.specs.PartAnswers.{first_transition_of}
use Rattle.policy_rounds.specs.PolicyRounds.{chosen, potential, chosen_place, value_in, choice_of_member, IsRound, IsRoundOf, IsFirstRound, KeepsCircuit, FollowsRound, IsRunTo, IsPolicyRun}
use Rattle.teg_net.specs.Ratios.{IsRatioOf}
use Rattle.policy_rounds.proofs.Turns.{cases_member, better_is_policy, still_back_to_root}
use Rattle.teg_net.proofs.Reading.{same_id}
use Rattle.policy_rounds.proofs.Routing.{all_home}
use Rattle.policy_rounds.proofs.Optimum.{some_token}
use Rattle.policy_rounds.proofs.ListedChoices.{only_members}
use Rattle.policy_rounds.proofs.BestCircuits.{same_functions, any_kind, best_kind}
use Rattle.policy_rounds.proofs.Unique.{one_improvement, leads_agrees, circuit_agrees, one_best, one_routing, one_sums}
use Rattle.teg_certificates.proofs.OneRatio.{one_ratio}

pub record Equal (r q : Round) : Type 0 where
  pub choices : chosen r ≡ chosen q
  pub values : potential r ≡ potential q
  pub circuit : r.circuit.places.items ≡ q.circuit.places.items
  pub time : r.ratio.time ≡ q.ratio.time
  pub tokens : r.ratio.tokens ≡ q.ratio.tokens

module _ (net : NetLists) (parts : List ℕ) (part : ℕ) where
  -- each round of a run is one
  pub each_round : (rounds : List Round) → IsRunTo net parts part rounds → (k : ℕ) (d : Round) → k < length rounds → IsRound net parts part (get_or rounds k d)
  each_round rounds run zero d l = (run.first d).round
  each_round rounds run (suc k) d l =
      let here : k + 1 ≡ suc k = omega arith in
      subst (λ (j : ℕ). IsRound net parts part (get_or rounds j d)) here (run.next k d (omega (arith, l))).round

  no_choice : (cs : List Choice) (t : ℕ) → All (λ c. IsMember parts part c.transition.index) cs → (IsMember parts part t → ⊥) → choice_of_member cs t ≡ None
  no_choice [] t h o = refl
  no_choice (c ∷ cs) t h o =
      ⊎_elim
      (λ (b : eqb c.transition.index t ≡ true). absurd (o (subst (IsMember parts part) (eqb-true c.transition.index t b) (h 0 c (omega arith)))))
      (λ (b : eqb c.transition.index t ≡ false). rw b (no_choice cs t (All-tail (λ d. IsMember parts part d.transition.index) c cs h) o))
      (cases_Bool (eqb c.transition.index t))

  best_agrees : (π σ : Policy) → ((t : ℕ) → IsMember parts part t → π t ≡ σ t) → (Kind : ℕ → Type 0) (c : List PlaceId) → IsBestCircuit net parts part π Kind c → IsBestCircuit net parts part σ Kind c
  best_agrees π σ e Kind c h =
      let turned = λ (t : ℕ) (i : IsMember parts part t). sym (e t i) in
      record {
        is = circuit_agrees net parts part π σ e c h.is;
        through = h.through;
        greatest = λ d k w. h.greatest d (circuit_agrees net parts part σ π turned d k) w;
        lowest = λ d k w s. h.lowest d (circuit_agrees net parts part σ π turned d k) w s;
      }

  routed_agrees : (π σ : Policy) → IsPolicy net parts part π → ((t : ℕ) → IsMember parts part t → π t ≡ σ t)
      → (s : ℕ) (js : List PlaceId) (t : ℕ) → IsMember parts part t → IsRouted net π s js t → IsRouted net σ s js t
  routed_agrees π σ ok e s js t i r = ⊎_elim (λ (w : LeadsBack net π t s). inl (leads_agrees net parts part π σ ok e t s i w)) (λ (w : Any (λ p. to_of net p ≡ t) js). inr w) r

  routing_agrees : (π σ : Policy) → IsPolicy net parts part π → IsPolicy net parts part σ
      → ((t : ℕ) → IsMember parts part t → π t ≡ σ t) → (s : ℕ) (js : List PlaceId) (ρ : Policy) → IsRouting net parts part π s js ρ
      → IsRouting net parts part σ s js ρ
  routing_agrees π σ ok oks e s js ρ h =
      let turned = λ (t : ℕ) (i : IsMember parts part t). sym (e t i) in
      let join_to = λ (ks : List PlaceId) (p : PlaceId) (j : Joins net parts part π s ks p).
      let r : Joins net parts part σ s ks p = record {
        inside = j.inside;
        from_routed = routed_agrees π σ ok e s ks (from_of net p) j.inside.from_member j.from_routed;
        to_unrouted = λ w. j.to_unrouted (routed_agrees σ π oks turned s ks (to_of net p) j.inside.to_member w);
      } in r in
      let join_from = λ (ks : List PlaceId) (p : PlaceId) (j : Joins net parts part σ s ks p).
      let r : Joins net parts part π s ks p = record {
        inside = j.inside;
        from_routed = routed_agrees σ π oks turned s ks (from_of net p) j.inside.from_member j.from_routed;
        to_unrouted = λ w. j.to_unrouted (routed_agrees π σ ok e s ks (to_of net p) j.inside.to_member w);
      } in r in
      record {
        each = λ k l. let n = h.each k l in record { joins_ = join_to (take k js) _ n.joins_; lowest = λ q w. n.lowest q (join_from (take k js) q w) };
        all = λ t i. routed_agrees π σ ok e s js t i (h.all t i);
        kept = λ t i w. h.kept t i (leads_agrees net parts part σ π oks turned t s i w) ∙ e t i;
        joined = h.joined;
      }

  pub round_agrees : (π σ : Policy) → IsPolicy net parts part π → IsPolicy net parts part σ → ((t : ℕ) → IsMember parts part t → π t ≡ σ t)
      → (Kind : ℕ → Type 0) (r : Round) → IsRoundOf net parts part π Kind r → IsRoundOf net parts part σ Kind r
  round_agrees π σ ok oks e Kind r h = record {
    best = best_agrees π σ e Kind r.circuit.places.items h.best;
    routing = (h.routing.0, routing_agrees π σ ok oks e (first_transition_of net r.circuit.places.items) h.routing.0 (chosen r) h.routing.1);
  }

  -- rounds with one circuit and one policy at the members are equal
  finish : (live : IsLive net) (r q : Round) → IsRound net parts part r → IsRound net parts part q
      → r.circuit.places.items ≡ q.circuit.places.items → ((t : ℕ) → IsMember parts part t → chosen r t ≡ chosen q t)
      → ((t : ℕ) → IsMember parts part t → LeadsBack net (chosen r) t (first_transition_of net r.circuit.places.items)) → Equal r q
  finish live r q h k circuit same home =
      let c : List PlaceId = r.circuit.places.items in
      let other = subst (λ x. IsRatioOf (time_of net x) (tokens_of net x) q.ratio) (sym circuit) k.ratio in
      let ratio = one_ratio (time_of net c) (tokens_of net c) r.ratio q.ratio (some_token net live c h.circuit.circuit) h.ratio other in
      let sums : AreSums net parts part r.ratio.time r.ratio.tokens (chosen q) (first_transition_of net c) (potential q) =
      subst (λ x. AreSums net parts part x r.ratio.tokens (chosen q) (first_transition_of net c) (potential q)) (sym ratio.0)
      (subst (λ x. AreSums net parts part q.ratio.time x (chosen q) (first_transition_of net c) (potential q)) (sym ratio.1)
      (subst (λ x. AreSums net parts part q.ratio.time q.ratio.tokens (chosen q) (first_transition_of net x) (potential q)) (sym circuit) k.sums)) in
      record {
        choices = same_functions (chosen r) (chosen q) (λ t.
            ⊎_elim
            (λ (i : IsMember parts part t). same t i)
            (λ (o : IsMember parts part t → ⊥). ap chosen_place
            (no_choice r.choices.items t (only_members parts part r.choices.items h.members) o)
            ∙ sym (ap chosen_place (no_choice q.choices.items t (only_members parts part q.choices.items k.members) o)))
            (cases_member parts part t));
        values = same_functions (potential r) (potential q) (λ t.
            ⊎_elim
            (λ (i : IsMember parts part t). one_sums net parts part r.ratio.time r.ratio.tokens (first_transition_of net c) (chosen r)
            (chosen q) h.policy same (potential r) (potential q) h.sums sums (home t i).0 t i (home t i).1)
            (λ (o : IsMember parts part t → ⊥). ap value_in (no_choice r.choices.items t
            (only_members parts part r.choices.items h.members) o)
            ∙ sym (ap value_in (no_choice q.choices.items t (only_members parts part q.choices.items k.members) o)))
            (cases_member parts part t));
        circuit = circuit;
        time = ratio.0;
        tokens = ratio.1;
      }

  -- two rounds from one policy's best circuit
  pub one_round_of : (live : IsLive net) (π σ : Policy) (ok : IsPolicy net parts part π)
      (oks : IsPolicy net parts part σ) → ((t : ℕ) → IsMember parts part t → π t ≡ σ t) → (K L : ℕ → Type 0)
      → ((t : ℕ) → IsMember parts part t → K t → L t) → ((t : ℕ) → IsMember parts part t → L t → K t)
      → (r q : Round) → IsRound net parts part r → IsRound net parts part q → IsRoundOf net parts part π K r → IsRoundOf net parts part σ L q
      → Equal r q × ((t : ℕ) → IsMember parts part t → LeadsBack net (chosen r) t (first_transition_of net r.circuit.places.items))
  one_round_of live π σ ok oks e K L to back_ r q hr hq h k =
      let turned = λ (t : ℕ) (i : IsMember parts part t). sym (e t i) in
      let best = best_kind net parts part π L K q.circuit.places.items back_ to (best_agrees σ π turned L q.circuit.places.items k.best) in
      let circuit = one_best net parts part π ok K r.circuit.places.items q.circuit.places.items h.best best in
      let root : first_transition_of net r.circuit.places.items ≡ first_transition_of net q.circuit.places.items = ap (first_transition_of net) circuit in
      let routing = subst (λ x. IsRouting net parts part π x k.routing.0 (chosen q)) (sym root)
      (routing_agrees σ π oks ok turned (first_transition_of net q.circuit.places.items) k.routing.0 (chosen q) k.routing.1) in
      let same = one_routing net parts part π (chosen r) (chosen q) (first_transition_of net r.circuit.places.items) h.routing.0 k.routing.0 h.routing.1 routing in
      let home = all_home net parts part π ok (first_transition_of net r.circuit.places.items) h.routing.0 (chosen r) h.routing.1 in
      (finish live r q hr hq circuit same home, home)

  pub one_first : (live : IsLive net) (r q : Round) → IsFirstRound net parts part r → IsFirstRound net parts part q
      → Equal r q × ((t : ℕ) → IsMember parts part t → LeadsBack net (chosen r) t (first_transition_of net r.circuit.places.items))
  one_first live r q h k =
      let f : Policy = h.begins.0 in
      let g : Policy = k.begins.0 in
      let same = λ (t : ℕ) (i : IsMember parts part t).
      let x = h.begins.1 t i in
      let y = k.begins.1 t i in
      let a = x.lowest (g t) y.enters in
      let b = y.lowest (f t) x.enters in
      same_id (f t) (g t) (omega arith) in
      one_round_of live f g (λ t i. (h.begins.1 t i).enters) (λ t i. (k.begins.1 t i).enters) same (IsMember parts part)
      (IsMember parts part) (λ t i y. y) (λ t i y. y) r q h.round k.round h.begins.2 k.begins.2

  pub one_next : (live : IsLive net) (r r' s q : Round) → Equal r r' → IsRound net parts part r
      → ((t : ℕ) → IsMember parts part t → LeadsBack net (chosen r) t (first_transition_of net r.circuit.places.items))
      → FollowsRound net parts part r s → FollowsRound net parts part r' q
      → Equal s q × ((t : ℕ) → IsMember parts part t → LeadsBack net (chosen s) t (first_transition_of net s.circuit.places.items))
  one_next live r r' s q e hr home h k =
      let a : ℕ = r.ratio.time in
      let b : ℕ = r.ratio.tokens in
      let f : Policy = h.better in
      let g : Policy = k.better in
      let other : IsImprovement net parts part a b (chosen r) (potential r) g =
      subst (λ x. IsImprovement net parts part x b (chosen r) (potential r) g) (sym e.time)
      (subst (λ x. IsImprovement net parts part r'.ratio.time x (chosen r) (potential r) g) (sym e.tokens)
      (subst (λ x. IsImprovement net parts part r'.ratio.time r'.ratio.tokens x (potential r) g) (sym e.choices)
      (subst (λ x. IsImprovement net parts part r'.ratio.time r'.ratio.tokens (chosen r') x g) (sym e.values) k.improves))) in
      let agree = one_improvement net parts part a b (chosen r) (potential r) f g h.improves other in
      let ok = better_is_policy net parts part (chosen r) hr.policy a b r.circuit.places.items hr.circuit hr.ratio.same (potential r) hr.sums f h.improves in
      let ok' = better_is_policy net parts part (chosen r) hr.policy a b r.circuit.places.items hr.circuit hr.ratio.same (potential r) hr.sums g other in
      let was = λ (t : ℕ). let x : chosen r t ≡ chosen r' t = ap (λ (y : Policy). y t) e.choices in x in
      let to = λ (t : ℕ) (i : IsMember parts part t) (y : IsChanged parts part (chosen r) f t). let x : IsChanged parts part (chosen r') g t = (i, λ z. y.1 (agree t i ∙ (z ∙ sym (was t)))) in x in
      let from = λ (t : ℕ) (i : IsMember parts part t) (y : IsChanged parts part (chosen r') g t). let x : IsChanged parts part (chosen r) f t = (i, λ z. y.1 (sym (agree t i) ∙ (z ∙ was t))) in x in
      ⊎_elim
      (λ (x : IsRoundOf net parts part f (IsChanged parts part (chosen r) f) s).
      ⊎_elim
      (λ (y : IsRoundOf net parts part g (IsChanged parts part (chosen r') g) q). one_round_of live f g ok ok' agree
      (IsChanged parts part (chosen r) f) (IsChanged parts part (chosen r') g) to from s q h.round k.round x y)
      (λ (y : KeepsCircuit net parts part r' q g).
      absurd (y.none_new s.circuit.places.items (circuit_agrees net parts part f g agree s.circuit.places.items x.best.is)
      (any_kind net parts part (IsChanged parts part (chosen r) f)
      (IsChanged parts part (chosen r') g) to s.circuit.places.items x.best.is.inside x.best.through)))
      k.next)
      (λ (x : KeepsCircuit net parts part r s f).
      ⊎_elim
      (λ (y : IsRoundOf net parts part g (IsChanged parts part (chosen r') g) q).
      absurd (x.none_new q.circuit.places.items (circuit_agrees net parts part g f
      (λ t i. sym (agree t i)) q.circuit.places.items y.best.is)
      (any_kind net parts part (IsChanged parts part (chosen r') g)
      (IsChanged parts part (chosen r) f) from q.circuit.places.items y.best.is.inside y.best.through)))
      (λ (y : KeepsCircuit net parts part r' q g).
      let circuit : s.circuit.places.items ≡ q.circuit.places.items = x.same_circuit ∙ (e.circuit ∙ sym y.same_circuit) in
      let still = still_back_to_root net parts part (chosen r) hr.policy a b r.circuit.places.items hr.circuit hr.ratio.same (potential r) hr.sums f h.improves home x.none_new in
      let same = λ (t : ℕ) (i : IsMember parts part t). x.same_places t i ∙ (agree t i ∙ sym (y.same_places t i)) in
      let home' = λ (t : ℕ) (i : IsMember parts part t). leads_agrees net parts part f (chosen s) ok (λ u j. sym (x.same_places u j)) t
      (first_transition_of net s.circuit.places.items) i (subst (λ z. LeadsBack net f t (first_transition_of net z)) (sym x.same_circuit) (still t i)) in
      (finish live s q h.round k.round circuit same home', home'))
      k.next)
      h.next

  -- two runs agree as far as both go
  pub runs_agree : (live : IsLive net) (rs qs : List Round) (d : Round) → IsRunTo net parts part rs → IsRunTo net parts part qs → (k : ℕ) → k < length rs → k < length qs
      → Equal (get_or rs k d) (get_or qs k d) × ((t : ℕ) → IsMember parts part t
      → LeadsBack net (chosen (get_or rs k d)) t (first_transition_of net (get_or rs k d).circuit.places.items)) × IsRound net parts part (get_or rs k d)
  runs_agree live rs qs d h j zero l m =
      let x = one_first live (get_or rs 0 d) (get_or qs 0 d) (h.first d) (j.first d) in
      (x.0, x.1, (h.first d).round)
  runs_agree live rs qs d h j (suc k) l m =
      let before = runs_agree live rs qs d h j k (omega arith) (omega arith) in
      let e : k + 1 ≡ suc k = omega arith in
      let f : FollowsRound net parts part (get_or rs k d) (get_or rs (suc k) d) = subst (λ n. FollowsRound net parts part (get_or rs k d) (get_or rs n d)) e (h.next k d (omega arith)) in
      let g : FollowsRound net parts part (get_or qs k d) (get_or qs (suc k) d) = subst (λ n. FollowsRound net parts part (get_or qs k d) (get_or qs n d)) e (j.next k d (omega arith)) in
      let x = one_next live (get_or rs k d) (get_or qs k d) (get_or rs (suc k) d) (get_or qs (suc k) d) before.0 before.2 before.1 f g in
      (x.0, x.1, f.round)

  -- a run cannot go on where another ends
  not_longer : (live : IsLive net) (rs qs : List Round) (d : Round) → IsPolicyRun net parts part rs → IsPolicyRun net parts part qs → length qs ≤ length rs
  not_longer live rs qs d h j =
      ⊎_elim
      (λ (l : length rs < length qs).
      let some = h.run.some in
      let k : ℕ = length rs - 1 in
      let x = (runs_agree live rs qs d h.run j.run k (omega arith) (omega arith)).0 in
      let up = (j.run.next k d (omega arith)).improvable in
      let i = up.2 in
      let r : Round = get_or rs k d in
      let q : Round = get_or qs k d in
      let back_ : Improves net parts part r.ratio.time r.ratio.tokens (potential r) up.0 up.1 =
      subst (λ z. Improves net parts part z r.ratio.tokens (potential r) up.0 up.1) (sym x.time)
      (subst (λ z. Improves net parts part q.ratio.time z (potential r) up.0 up.1) (sym x.tokens)
      (subst (λ z. Improves net parts part q.ratio.time q.ratio.tokens z up.0 up.1) (sym x.values) i)) in
      absurd (h.last d up.0 up.1 back_))
      (λ (l : length qs ≤ length rs). l)
      (cases_lt (length rs) (length qs))

  -- a part has one policy run
  pub one_run : (live : IsLive net) (rs qs : List Round) (d : Round) → IsPolicyRun net parts part rs
      → IsPolicyRun net parts part qs → (length rs ≡ length qs) × ((k : ℕ) → k < length rs → Equal (get_or rs k d) (get_or qs k d))
  one_run live rs qs d h j =
      let a = not_longer live rs qs d h j in
      let b = not_longer live qs rs d j h in
      (omega arith, λ k l. (runs_agree live rs qs d h.run j.run k l (omega arith)).0)
