-- A walk from an input begins with one of its places, and goes on from the end of that place.
use Rattle.std.proofs.Common.{ℕ, zero, suc, pos, ◌+◌, ◌-◌, ◌<◌, ◌≤◌, ◌≡◌, ◌≢◌, ◌⊎◌, inl, inr, List, [], ◌∷◌, length, true, false, refl, sym, subst, ap, ◌∙◌, arith, ⊎_elim}
use Rattle.std.specs.Prelude.{nat_le, ◌+ℤ◌}
use Rattle.std.proofs.lemmas.Bool.{cases_lt, cases_eq}
use Rattle.std.proofs.lemmas.Bool.Decides.{nat_tests}
use Rattle.std.proofs.lemmas.Int.{ints}
use Rattle.std.proofs.lemmas.List.Sums.{sum_by-cons}
use Rattle.dioid.specs.declared.dates.Date.{Date}
use Rattle.dioid.specs.declared.dates.Date.TheVariants.{Early, At}
use Rattle.dioid.specs.Dates.{IsAtMostDate, delayed}
use Rattle.dioid.proofs.DateOrder.{at_most_refl, at_most_trans, delayed_rises}
use Rattle.teg_net.specs.declared.entries.PlaceId.{PlaceId}
use Rattle.teg_net.specs.declared.walks.Step.{Step}
use Rattle.teg_net.specs.declared.walks.Step.TheVariants.{By, Next}
use Rattle.teg_net.specs.Circuits.{no_place, place_at, from_of}
use Rattle.teg_net.specs.Nets.{NetLists, IsNet, IsInput}
use Rattle.teg_net.specs.Walks.{Walks, step_time, walk_time}
use Rattle.walk_times.proofs.teg_model_proofs.OfNet.{at_input_is, input_or_not}
use Rattle.walk_times.specs.teg_model.Datings.{at_input}
use Rattle.walk_times.specs.Transfers.{AreWalkTimes, IsGreatestWalkTime}
use Rattle.walk_times.proofs.Walking.{input_within}
use Rattle.end_laws.specs.Ends.{AreLatestBy, AreTimesFromEnds, IsInner, IsLatestBy, Leaves, WalksGoByEnds, date_by}

-- ---- walks by other numbers

-- the same steps, so many numbers on
pub shifted : (net : NetLists) (steps : List Step) (a s b k d : ℕ) → Walks net a s steps b k → Walks net a (s + d) steps b (k + d)
shifted net [] a s b k d w = (w.0, ap (λ (n : ℕ). n + d) w.1)
shifted net (By p ∷ steps) a s b k d w =
    let to : (s + (place_at net p).tokens) + d ≡ (s + d) + (place_at net p).tokens = omega arith in
    (w.0, w.1, subst (λ (n : ℕ). Walks net (place_at net p).to.index n steps b (k + d)) to (shifted net steps (place_at net p).to.index (s + (place_at net p).tokens) b k d w.2))
shifted net (Next ∷ steps) a s b k d w =
    let to : (s + 1) + d ≡ (s + d) + 1 = omega arith in
    subst (λ (n : ℕ). Walks net a n steps b (k + d)) to (shifted net steps a (s + 1) b k d w)

-- and so many back
pub shifted_back : (net : NetLists) (steps : List Step) (a s b k d : ℕ) → Walks net a (s + d) steps b k → Walks net a s steps b (k - d)
shifted_back net [] a s b k d w = (w.0, omega (arith, w.1))
shifted_back net (By p ∷ steps) a s b k d w =
    let to : (s + d) + (place_at net p).tokens ≡ (s + (place_at net p).tokens) + d = omega arith in (
      w.0,
      w.1,
      shifted_back net steps (place_at net p).to.index (s + (place_at net p).tokens) b k d (subst (λ (n : ℕ). Walks net (place_at net p).to.index n steps b k) to w.2),
    )
shifted_back net (Next ∷ steps) a s b k d w =
    let to : (s + d) + 1 ≡ (s + 1) + d = omega arith in
    shifted_back net steps a (s + 1) b k d (subst (λ (n : ℕ). Walks net a n steps b k) to w)

-- no walk leads back in numbers
pub no_earlier : (net : NetLists) (steps : List Step) (a s b k : ℕ) → Walks net a s steps b k → s ≤ k
no_earlier net [] a s b k w = omega (arith, w.1)
no_earlier net (By p ∷ steps) a s b k w = let on = no_earlier net steps (place_at net p).to.index (s + (place_at net p).tokens) b k w.2 in omega (arith, on)
no_earlier net (Next ∷ steps) a s b k w = let on = no_earlier net steps a (s + 1) b k w in omega (arith, on)

-- steps from a firing that lead there in this time
pub record LeadsIn (net : NetLists) (a s t k time : ℕ) : Type 0 where
  pub steps : List Step
  pub walk : Walks net a s steps t k
  pub takes : walk_time net steps ≡ time

no_time : (net : NetLists) (steps : List Step) (time : ℕ) → walk_time net steps ≡ time → walk_time net (Next ∷ steps) ≡ time
no_time net steps time h = let s : walk_time net (Next ∷ steps) ≡ 0 + walk_time net steps = sum_by-cons (step_time net) Next steps in omega (arith, s, h)

-- a walk goes on from an earlier firing too
pub sooner : (net : NetLists) (m a s t k : ℕ) (steps : List Step) → Walks net a (s + m) steps t k → LeadsIn net a s t k (walk_time net steps)
sooner net zero a s t k steps w = let is : s + 0 ≡ s = omega arith in record { steps = steps; walk = subst (λ (n : ℕ). Walks net a n steps t k) is w; takes = refl }
sooner net (suc m) a s t k steps w =
    let is : s + suc m ≡ (s + 1) + m = omega arith in
    let on : LeadsIn net a (s + 1) t k (walk_time net steps) = sooner net m a (s + 1) t k steps (subst (λ (n : ℕ). Walks net a n steps t k) is w) in
    record { steps = Next ∷ on.steps; walk = on.walk; takes = no_time net on.steps (walk_time net steps) on.takes }

-- to each later firing of the same transition, in no time
waits : (net : NetLists) (m a s : ℕ) → LeadsIn net a s a (s + m) 0
waits net zero a s = record { steps = []; walk = (refl, omega arith); takes = refl }
waits net (suc m) a s =
    let on : LeadsIn net a (s + 1) a ((s + 1) + m) 0 = waits net m a (s + 1) in
    let is : (s + 1) + m ≡ s + suc m = omega arith in
    record { steps = Next ∷ on.steps; walk = subst (λ (n : ℕ). Walks net a (s + 1) on.steps a n) is on.walk; takes = no_time net on.steps 0 on.takes }

-- ---- the first place of a walk

-- the place by which the steps leave u first, the firings of u before that, and the steps from its end
pub record Departs (net : NetLists) (u s t k : ℕ) (steps : List Step) : Type 0 where
  pub place : PlaceId
  pub leaves : Leaves net u place
  pub more : ℕ
  pub rest : List Step
  pub walk : Walks net (place_at net place).to.index ((s + (place_at net place).tokens) + more) rest t k
  pub time : walk_time net steps ≡ (place_at net place).hold + walk_time net rest

-- a walk from u that ends elsewhere leaves u
pub departs : (net : NetLists) (u t k : ℕ) → u ≢ t → (steps : List Step) (s : ℕ) → Walks net u s steps t k → Departs net u s t k steps
departs net u t k not [] s w = absurd (not w.0)
departs net u t k not (By p ∷ steps) s w =
    let is : s + (place_at net p).tokens ≡ (s + (place_at net p).tokens) + 0 = omega arith in
    record {
      place = p;
      leaves = (w.0, w.1);
      more = 0;
      rest = steps;
      walk = subst (λ (n : ℕ). Walks net (place_at net p).to.index n steps t k) is w.2;
      time = sum_by-cons (step_time net) (By p) steps;
    }
departs net u t k not (Next ∷ steps) s w =
    let on : Departs net u (s + 1) t k steps = departs net u t k not steps (s + 1) w in
    let is : ((s + 1) + (place_at net on.place).tokens) + on.more ≡ (s + (place_at net on.place).tokens) + suc on.more = omega arith in
    record {
      place = on.place;
      leaves = on.leaves;
      more = suc on.more;
      rest = on.rest;
      walk = subst (λ (n : ℕ). Walks net (place_at net on.place).to.index n on.rest t k) is on.walk;
      time = no_time net steps ((place_at net on.place).hold + walk_time net on.rest) on.time;
    }

-- so from the first firing of the place's end a walk leads on, as many numbers back as the place has tokens
pub from_end : (net : NetLists) (u t k : ℕ) (steps : List Step) → (d : Departs net u 1 t k steps)
    → LeadsIn net (place_at net d.place).to.index 1 t (k - (place_at net d.place).tokens) (walk_time net d.rest)
from_end net u t k steps d =
    let all : LeadsIn net (place_at net d.place).to.index (1 + (place_at net d.place).tokens) t k (walk_time net d.rest) =
    sooner net d.more (place_at net d.place).to.index (1 + (place_at net d.place).tokens) t k d.rest d.walk in
    record { steps = all.steps; walk = shifted_back net all.steps (place_at net d.place).to.index 1 t k (place_at net d.place).tokens all.walk; takes = all.takes }

-- a walk to an input begins there, and takes no time
pub to_input : (net : NetLists) → IsNet net → (steps : List Step) (a s t k : ℕ) → IsInput net t → Walks net a s steps t k → (a ≡ t) × (walk_time net steps ≡ 0)
to_input net ok [] a s t k is w = (w.0, refl)
to_input net ok (By p ∷ steps) a s t k is w =
    let on = to_input net ok steps (place_at net p).to.index (s + (place_at net p).tokens) t k is w.2 in
    absurd ((ok.each_place p.index no_place w.0).enters_no_input (subst (IsInput net) (sym on.0) is))
to_input net ok (Next ∷ steps) a s t k is w = let on = to_input net ok steps a (s + 1) t k is w in (on.0, no_time net steps 0 on.1)

-- ---- the latest by ends

late_by : (n h m : ℕ) → n ≡ h + m → At (pos n) ≡ delayed h (At (pos m))
late_by n h m e = ap At (omega (arith, ints, e))

module _ (net : NetLists) (ok : IsNet net) (u : ℕ) (is : IsInput net u) (z : ℕ → ℕ → ℕ → Date) (ends : AreTimesFromEnds net u z) where
  module _ (t k : ℕ) (inner : IsInner net t) (one : 1 ≤ k) where
    apart : u ≢ t
    apart e = inner.1 (subst (IsInput net) e is)

    -- past its tokens the date by a place is a time of walks from its end, so much later
    by_end : (p : PlaceId) → (place_at net p).tokens < k → date_by z (place_at net p) t k ≡ delayed (place_at net p).hold (z (place_at net p).to.index t (k - (place_at net p).tokens))
    by_end p l = let b : nat_le k (place_at net p).tokens ≡ false = grind (arith, nat_tests) in rw b refl

    by_none : (p : PlaceId) → k ≤ (place_at net p).tokens → date_by z (place_at net p) t k ≡ Early
    by_none p l = let b : nat_le k (place_at net p).tokens ≡ true = grind (arith, nat_tests) in rw b refl

    module _ (d : Date) (latest : IsLatestBy net u z t k d) where
      -- each walk takes at most this time
      most : (steps : List Step) → Walks net u 1 steps t k → IsAtMostDate (At (pos (walk_time net steps))) d
      most steps w =
          let out : Departs net u 1 t k steps = departs net u t k apart steps 1 w in
          let low = no_earlier net out.rest (place_at net out.place).to.index ((1 + (place_at net out.place).tokens) + out.more) t k out.walk in
          let past : (place_at net out.place).tokens < k = omega (arith, low) in
          let on = from_end net u t k steps out in
          let there = ends out.place out.leaves t (k - (place_at net out.place).tokens) inner (omega (arith, past)) in
          let up : IsAtMostDate (delayed (place_at net out.place).hold (At (pos (walk_time net on.steps)))) (delayed (place_at net out.place).hold (z (place_at net out.place).to.index t (k - (place_at net out.place).tokens))) =
          delayed_rises (place_at net out.place).hold (At (pos (walk_time net on.steps))) (z (place_at net out.place).to.index t (k - (place_at net out.place).tokens)) (there.greatest on.steps on.walk) in
          let here : At (pos (walk_time net steps)) ≡ delayed (place_at net out.place).hold (At (pos (walk_time net on.steps))) =
          late_by (walk_time net steps) (place_at net out.place).hold (walk_time net on.steps) (omega (arith, out.time, on.takes)) in
          at_most_trans (At (pos (walk_time net steps))) (date_by z (place_at net out.place) t k) d
          (rw (here, by_end out.place past) up)
          (latest.latest out.place out.leaves)

      none : d ≡ Early → (steps : List Step) → Walks net u 1 steps t k → ⊥
      none e steps w = rw e at (most steps w)

      Reached : Type 0
      Reached = ((d ≡ Early) × ((steps : List Step) → Walks net u 1 steps t k → ⊥)) ⊎ ((steps : List Step) × Walks net u 1 steps t k × (d ≡ At (pos (walk_time net steps))))

      -- a walk from the end of a place, begun with that place
      begun : (p : PlaceId) → Leaves net u p → (place_at net p).tokens < k → d ≡ delayed (place_at net p).hold (z (place_at net p).to.index t (k - (place_at net p).tokens)) → Reached
      unfolding Reached
      begun p leaves past e =
          let there = ends p leaves t (k - (place_at net p).tokens) inner (omega (arith, past)) in
          ⊎_elim
          (λ (n : (z (place_at net p).to.index t (k - (place_at net p).tokens) ≡ Early) × ((steps : List Step) → Walks net (place_at net p).to.index 1 steps t (k - (place_at net p).tokens) → ⊥)).
          let early : d ≡ Early = e ∙ ap (delayed (place_at net p).hold) n.0 in
          inl (early, none early))
          (λ (w : (steps : List Step) × Walks net (place_at net p).to.index 1 steps t (k - (place_at net p).tokens) × (z (place_at net p).to.index t (k - (place_at net p).tokens) ≡ At (pos (walk_time net steps)))).
          let back : (k - (place_at net p).tokens) + (place_at net p).tokens ≡ k = omega (arith, past) in
          let on : Walks net (place_at net p).to.index (1 + (place_at net p).tokens) w.0 t k =
          subst (λ (n : ℕ). Walks net (place_at net p).to.index (1 + (place_at net p).tokens) w.0 t n) back
          (shifted net w.0 (place_at net p).to.index 1 t (k - (place_at net p).tokens) (place_at net p).tokens w.1) in
          let time : walk_time net (By p ∷ w.0) ≡ (place_at net p).hold + walk_time net w.0 = sum_by-cons (step_time net) (By p) w.0 in
          inr (By p ∷ w.0, (leaves.0, leaves.1, on), e ∙ (ap (delayed (place_at net p).hold) w.2 ∙ sym (late_by (walk_time net (By p ∷ w.0)) (place_at net p).hold (walk_time net w.0) time))))
          there.reached

      attained : Reached
      unfolding Reached
      attained =
          ⊎_elim
          (λ (e : d ≡ Early). inl (e, none e))
          (λ (h : (p : PlaceId) × Leaves net u p × (d ≡ date_by z (place_at net p) t k)).
          ⊎_elim
          (λ (past : (place_at net h.0).tokens < k). begun h.0 h.1 past (h.2 ∙ by_end h.0 past))
          (λ (l : k ≤ (place_at net h.0).tokens). let e : d ≡ Early = h.2 ∙ by_none h.0 l in inl (e, none e))
          (cases_lt (place_at net h.0).tokens k))
          latest.reached

      pub latest_time : IsGreatestWalkTime net u t k d
      unfolding Reached
      latest_time = record { reached = attained; greatest = most }

  pub latest_times : (x : ℕ → ℕ → Date) → AreLatestBy net u z x → AreWalkTimes net u x
  latest_times x h t k l one = ⊎_elim
      (λ (e : t ≡ u).
      let on : LeadsIn net u 1 u (1 + (k - 1)) 0 = waits net (k - 1) u 1 in
      let is' : 1 + (k - 1) ≡ k = omega (arith, one) in
      let walk : Walks net u 1 on.steps t k = subst (λ (n : ℕ). Walks net u 1 on.steps n k) (sym e) (subst (λ (n : ℕ). Walks net u 1 on.steps u n) is' on.walk) in
      let zero' : x t k ≡ At (pos 0) = subst (λ (n : ℕ). x n k ≡ At (pos 0)) (sym e) (h.own k one) in
      let input : IsInput net t = subst (IsInput net) (sym e) is in
      record {
        reached = inr (on.steps, walk, zero' ∙ ap (λ (n : ℕ). At (pos n)) (sym on.takes));
        greatest = λ steps w. let no = to_input net ok steps u 1 t k input w in rw (zero', no.1) (at_most_refl (At (pos 0)));
      })
      (λ (not : t ≢ u). other t k l one not (inputs t))
      (cases_eq t u)
    where
      inputs : (t : ℕ) → IsInput net t ⊎ (IsInput net t → ⊥)
      inputs t = ⊎_elim
          (λ (i : IsInput net t × (at_input net t (At (pos 0)) Early ≡ At (pos 0))). inl i.0)
          (λ (o : (at_input net t (At (pos 0)) Early ≡ Early) × (at_input net t (At (pos 0)) Early ≡ Early)).
          inr (λ (h : IsInput net t). let no : At (pos 0) ≡ Early = sym (at_input_is net t (At (pos 0)) Early h) ∙ o.0 in absurd (cc)))
          (input_or_not net t (At (pos 0)) Early Early)

      other : (t k : ℕ) → t < length net.transitions → 1 ≤ k → t ≢ u → IsInput net t ⊎ (IsInput net t → ⊥) → IsGreatestWalkTime net u t k (x t k)
      other t k l one not (inl input) =
          let none : (steps : List Step) → Walks net u 1 steps t k → ⊥ = λ steps w. not (sym (to_input net ok steps u 1 t k input w).0) in
          record { reached = inl (h.others t k input not one, none); greatest = λ steps w. absurd (none steps w) }
      other t k l one not (inr outside) = latest_time t k (l, outside) one (x t k) (h.inner t k (l, outside) one)

pub walks_go_by_ends : WalksGoByEnds
walks_go_by_ends net ok u is z ends x h = latest_times net ok u is z ends x h
