-- Runs of rounds, and places into each member.
use Rattle.std.proofs.Common.{ℕ, ◌+◌, ◌-◌, ◌<◌, ◌≤◌, ◌≡◌, ◌≢◌, List, [], ◌∷◌, ◌++◌, length, get_or, set, sym, ap, subst, ◌∙◌, arith, ⊎_elim}
use Rattle.std.specs.Prelude.{All}
use Rattle.std.proofs.lemmas.Bool.{cases_lt, cases_eq}
use Rattle.std.proofs.lemmas.List.{length_push, length-set, get_or_push, get_or_append_left, get_or_default, get_or-set_same, get_or-set_other}
use Rattle.std.proofs.lemmas.List.Elements.{All-tail, All-set}
use Rattle.teg_net.specs.declared.entries.PlaceId.{PlaceId}
use Rattle.teg_net.specs.Nets.{NetLists}
use Rattle.teg_net.specs.Circuits.{IsLive, IsPathBetween, tokens_of}
use Rattle.teg_net.specs.declared.rounds.Round.{Round}
use Rattle.teg_net.specs.Parts.{IsMember, IsPlaceOfPart, Reaches, to_of}
use Rattle.policy_rounds.specs.Policies.{Enters, IsPolicy, Improves, first_id}
use Rattle.teg_net.specs.PartAnswers.{first_transition_of}
use Rattle.policy_rounds.specs.PolicyRounds.{BeginsBy, IsFirstRound, FollowsRound, IsRunTo, IsPolicyRun, last_policy_round, potential, IsLastRound}
use Rattle.teg_howard.specs.FoundCircuits.{potentials, IsBeginning}
use Rattle.policy_rounds.specs.PolicyLists.{AreLowest, policy_of}
use Rattle.teg_howard.specs.RoundStates.{IsRoundState, HasCircuit, Rises}
use Rattle.policy_rounds.specs.RunAnswers.{IsAnswerOf, KeepsLimits, potential_of}
use Rattle.teg_howard.specs.PolicyRuns.{AllRise}
use Rattle.std.specs.Prelude.{map}
use Rattle.teg_net.specs.Ratios.{Fraction}
use Rattle.teg_net.specs.declared.answers.Potential.{Potential}
use Rattle.teg_net.specs.declared.answers.PartAnswer.{PartAnswer}
use Rattle.teg_net.specs.declared.answers.PartAnswer.TheVariants.{NoCircuit, Best}
use Rattle.teg_net.specs.Parts.{ListsMembers}
use Rattle.teg_net.specs.ReducedTimes.{IsGreatestPathTime, IsMagnitudeWithin}
use Rattle.teg_net.specs.PartAnswers.{IsBestOfPart, IsPartAnswer}
use Rattle.teg_net.specs.Limits.{greatest_scaled_potential}
use Rattle.teg_howard.proofs.Listing.{same_transitions, told_potentials, pair_rises}
use Rattle.policy_rounds.proofs.ListedChoices.{lists_members, begins_lowest}
use Rattle.teg_howard.proofs.Values.{path_inside}
use Rattle.policy_rounds.proofs.Turns.{cases_member}
use Rattle.policy_rounds.proofs.Optimum.{greatest_in_part, no_greater_sum, sum_attained}
use Rattle.policy_rounds.proofs.BestCircuits.{same_functions}
use Rattle.teg_howard.specs.declared.settling.RoundState.{RoundState}

module _ (net : NetLists) (parts : List ℕ) (part : ℕ) where
  pub run_one : (r : Round) → IsFirstRound net parts part r → IsRunTo net parts part ([] ++ r ∷ [])
  run_one r h = record { some = omega arith; first = λ d. h; next = λ k d l. absurd (omega arith) }

  pub run_more : (rs : List Round) (r s : Round) → IsRunTo net parts part (rs ++ r ∷ []) → FollowsRound net parts part r s → IsRunTo net parts part ((rs ++ r ∷ []) ++ s ∷ [])
  run_more rs r s h f =
      let old : List Round = rs ++ r ∷ [] in
      let long : length (old ++ s ∷ []) ≡ length old + 1 = length_push old s in
      let short : length old ≡ length rs + 1 = length_push rs r in
      record {
        some = omega arith;
        first = λ d. rw (get_or_append_left old (s ∷ []) d 0 h.some) (h.first d);
        next = λ k d l.
            ⊎_elim
            (λ (q : k + 1 < length old). rw (get_or_append_left old (s ∷ []) d k (omega arith), get_or_append_left old (s ∷ []) d (k + 1) q) (h.next k d q))
            (λ (q : length old ≤ k + 1).
            let at : length rs ≡ k = omega arith in
            let end : length old ≡ k + 1 = omega arith in
            rw (get_or_append_left old (s ∷ []) d k (omega arith), get_or_push rs r d k at, get_or_push old s d (k + 1) end) f)
            (cases_lt (k + 1) (length old));
      }

  pub run_all : (rs : List Round) (r : Round) → IsRunTo net parts part (rs ++ r ∷ []) → IsLastRound net parts part r → IsPolicyRun net parts part (rs ++ r ∷ [])
  run_all rs r h l = record {
    run = h;
    last = λ d.
        let at : length rs ≡ length (rs ++ r ∷ []) - 1 = omega (arith, length_push rs r) in
        rw (get_or_push rs r d (length (rs ++ r ∷ []) - 1) at) l;
  }

  pub rise_more : (rs : List Round) (r s : Round) → AllRise (rs ++ r ∷ []) → Rises r s → AllRise ((rs ++ r ∷ []) ++ s ∷ [])
  rise_more rs r s h f k d l =
      let old : List Round = rs ++ r ∷ [] in
      let long : length (old ++ s ∷ []) ≡ length old + 1 = length_push old s in
      let short : length old ≡ length rs + 1 = length_push rs r in
      ⊎_elim
      (λ (q : k + 1 < length old). rw (get_or_append_left old (s ∷ []) d k (omega arith), get_or_append_left old (s ∷ []) d (k + 1) q) (h k d q))
      (λ (q : length old ≤ k + 1).
      let at : length rs ≡ k = omega arith in
      let end : length old ≡ k + 1 = omega arith in
      rw (get_or_append_left old (s ∷ []) d k (omega arith), get_or_push rs r d k at, get_or_push old s d (k + 1) end) (pair_rises r s f))
      (cases_lt (k + 1) (length old))

  -- the last place of a path enters its end
  last_enters : (ps : List PlaceId) (s t : ℕ) → IsPathBetween net s ps t → All (IsPlaceOfPart net parts part) ps → 0 < length ps → (q : PlaceId) × Enters net parts part t q
  last_enters [] s t l h n = absurd (omega arith)
  last_enters (p ∷ []) s t l h n = (p, record { inside = h 0 p (omega arith); ends = l.2 })
  last_enters (p ∷ q ∷ ps) s t l h n = last_enters (q ∷ ps) (to_of net p) t l.2 (All-tail (IsPlaceOfPart net parts part) p (q ∷ ps) h) (omega arith)

  no_way : (ps : List PlaceId) (s t : ℕ) → length ps ≡ 0 → IsPathBetween net s ps t → s ≡ t
  no_way [] s t e l = l
  no_way (p ∷ ps) s t e l = absurd (omega arith)

  -- each member of a part with a place in it is entered by one
  pub entered : HasCircuit net parts part → (t : ℕ) → IsMember parts part t → (p : PlaceId) × Enters net parts part t p
  entered h t m =
      let p : PlaceId = h.inner.0 in
      let u : ℕ = to_of net p in
      let mu = h.inner.1.to_member in
      let path : Reaches net u t = ((h.parts_.strong u t mu.in_range m.in_range).0 (mu.here ∙ sym m.here)).0 in
      ⊎_elim
      (λ (e : length path.0 ≡ 0). (p, record { inside = h.inner.1; ends = no_way path.0 u t e path.1 }))
      (λ (ne : length path.0 ≢ 0). last_enters path.0 u t path.1 (path_inside net parts part h.kept h.parts_ path.0 u t mu m path.1) (omega arith))
      (cases_eq (length path.0) 0)

  lowest_policy : (ps : List PlaceId) → HasCircuit net parts part → AreLowest net parts part ps → IsPolicy net parts part (policy_of ps)
  lowest_policy ps h low t m = let e = entered h t m in (low.lowest t e.0 e.1).enters

  lowest_in_range : (ps : List PlaceId) → HasCircuit net parts part → AreLowest net parts part ps → All (λ p. p.index < length net.places) ps
  lowest_in_range ps h low k d l =
      let read : get_or ps k d ≡ policy_of ps k = get_or_default ps k d first_id l in
      rw read
      (⊎_elim
      (λ (m : IsMember parts part k). (lowest_policy ps h low k m).inside.in_range)
      (λ (o : IsMember parts part k → ⊥). let some = h.inner.1.in_range in rw (low.others k (λ p e. o (subst (IsMember parts part) e.ends e.inside.to_member))) (omega arith))
      (cases_member parts part k))

  -- the lowest numbered places are a policy to begin with
  pub lowest_begins : (ps : List PlaceId) → HasCircuit net parts part → AreLowest net parts part ps → IsBeginning net parts part ps
  lowest_begins ps h low = record {
    count = low.count;
    is_policy = lowest_policy ps h low;
    in_range = lowest_in_range ps h low;
    outside = λ t o. low.others t (λ p e. o (subst (IsMember parts part) e.ends e.inside.to_member));
  }

  -- and the round that begins by them is the first of the policy run
  pub first_of_lowest : (ps : List PlaceId) (r : Round) → HasCircuit net parts part → AreLowest net parts part ps → BeginsBy net parts part (policy_of ps) r → IsFirstRound net parts part r
  first_of_lowest ps r h low begins =
      record { round = begins.round; begins = (policy_of ps, (λ t m. let e = entered h t m in low.lowest t e.0 e.1), begins.made) }

  -- a member may take any place that enters it
  pub begins_so : (ps : List PlaceId) (p : PlaceId) → IsBeginning net parts part ps → IsPlaceOfPart net parts part p → IsBeginning net parts part (set ps (to_of net p) p)
  begins_so ps p h inside =
      let u : ℕ = to_of net p in
      let u_in : u < length ps = let m = inside.to_member.in_range in let k = h.count in omega arith in
      let mine : policy_of (set ps u p) u ≡ p = get_or-set_same ps u p first_id u_in in
      record {
        count = length-set ps u p ∙ h.count;
        is_policy = λ t m.
            ⊎_elim
            (λ (s : t ≡ u). let is : policy_of (set ps u p) t ≡ p = ap (policy_of (set ps u p)) s ∙ mine in rw is (record { inside = inside; ends = sym s }))
            (λ (s : t ≢ u). let same : policy_of (set ps u p) t ≡ policy_of ps t = get_or-set_other ps u t p first_id s in rw same (h.is_policy t m))
            (cases_eq t u);
        in_range = All-set (λ (q : PlaceId). q.index < length net.places) ps u p inside.in_range h.in_range;
        outside = λ t o. get_or-set_other ps u t p first_id (λ (s : t ≡ u). o (subst (IsMember parts part) (sym s) inside.to_member)) ∙ h.outside t o;
      }

-- a number that is not 0
positive : (n : ℕ) → n ≢ 0 → 1 ≤ n
positive n some = omega (arith, some)

-- the last round's answer tells the greatest ratio of the part, a circuit that has it, and the greatest sums
pub last_answers :
    (net : NetLists) (parts : List ℕ) (part : ℕ) (policy : List PlaceId) (st : RoundState) (answer : PartAnswer)
    → IsLive net → IsRoundState net parts part policy st → IsLastRound net parts part st.round → IsAnswerOf st.round answer
    → IsPartAnswer net parts part answer
last_answers net parts part policy st NoCircuit live h last is = absurd is
last_answers net parts part policy st (Best ratio circuit told) live h last is =
    let r : Fraction = st.round.ratio in
    let a : ℕ = r.time in
    let b : ℕ = r.tokens in
    let c : List PlaceId = st.round.circuit.places.items in
    let v = potentials st.values.items in
    let to : potential st.round ≡ v = same_functions (potential st.round) v h.potential_is in
    let token : 1 ≤ tokens_of net c = positive (tokens_of net c) (live c h.circuit.circuit) in
    let none = λ (t : ℕ) (p : PlaceId) (i : Improves net parts part a b v t p). last t p (subst (λ x. Improves net parts part a b x t p) (sym to) i) in
    let best : IsBestOfPart net parts part r c (map potential_of st.round.choices.items) = record {
      greatest = record {
        some = h.ratio.terms.some;
        attained = (c, h.circuit.circuit, h.circuit.inside, h.ratio.same);
        token = token;
        greatest = λ ps k i. let g = greatest_in_part net parts part a b v none ps k i in grind (arith, g);
      };
      terms = h.ratio.terms;
      circuit = h.circuit.circuit;
      inside = h.circuit.inside;
      attains = h.ratio.same;
      token = token;
      lowest_first = begins_lowest net c h.lowest_first;
      members = subst (ListsMembers parts part) (sym (same_transitions st.round.choices.items)) (lists_members parts part st.round.choices.items h.members);
      sums = told_potentials (IsGreatestPathTime net parts part a b (first_transition_of net c)) st.round parts part h.members
          (λ t m. rw (h.potential_is t) (record {
            attained = sum_attained net parts part (policy_of policy) h.is_policy a b (first_transition_of net c) v h.sums t m (h.home t m);
            greatest = λ ps l i. no_greater_sum net parts part a b v none ps (first_transition_of net c) t h.sums.start l i;
          }));
    } in
    subst (λ x. IsBestOfPart net parts part x circuit.places.items told.items) (sym is.0)
    (subst (λ x. IsBestOfPart net parts part r x told.items) (sym is.1)
    (subst (λ x. IsBestOfPart net parts part r c x) (sym is.2) best))

-- some ratio is told
pub last_tells : (r : Round) (answer : PartAnswer) → IsAnswerOf r answer → answer ≢ NoCircuit
last_tells r NoCircuit is = absurd is
last_tells r (Best ratio circuit told) is = λ e. cc

-- and keeps the limits
pub last_keeps : (net : NetLists) (parts : List ℕ) (part : ℕ) (policy : List PlaceId) (st : RoundState) (answer : PartAnswer)
    → IsRoundState net parts part policy st → IsAnswerOf st.round answer → KeepsLimits answer
last_keeps net parts part policy st NoCircuit h is = absurd is
last_keeps net parts part policy st (Best ratio circuit told) h is =
    let t = h.small.time_in in
    let k = h.small.tokens_in in
    let time : ratio.time ≡ st.round.ratio.time = ap (λ x. x.time) is.0 in
    let tokens : ratio.tokens ≡ st.round.ratio.tokens = ap (λ x. x.tokens) is.0 in (
      omega arith,
      omega arith,
      subst (All (λ (v : Potential). IsMagnitudeWithin greatest_scaled_potential v.value)) (sym is.2)
          (told_potentials (λ t z. IsMagnitudeWithin greatest_scaled_potential z) st.round parts part h.members
          (λ t m. rw (h.potential_is t) (h.within t))),
    )

pub last_pushed : (net : NetLists) (parts : List ℕ) (part : ℕ) (P : Round → Type 0) (rs : List Round) (r d : Round) → P r → P (last_policy_round (rs ++ r ∷ []) d)
last_pushed net parts part P rs r d h =
    let at : length rs ≡ length (rs ++ r ∷ []) - 1 = omega (arith, length_push rs r) in
    subst P (sym (get_or_push rs r d (length (rs ++ r ∷ []) - 1) at)) h
