-- The walk that marks what it has passed: each circuit of a policy is met once.
use Rattle.std.proofs.Common.{ℕ, zero, suc, ◌+◌, ◌-◌, ◌*◌, ◌<◌, ◌≤◌, ◌≡◌, ◌≢◌, List, Bool, true, false, Option, Some, None, cond, is_none, count_by}
use Rattle.std.proofs.Common.{length, get_or, set, refl, sym, ap, subst, ◌∙◌, arith, inl, inr, ⊎_elim}
use Rattle.std.specs.Prelude.{◌⊎◌}
use Rattle.std.proofs.lemmas.Bool.{cases_eq, cases_lt}
use Rattle.std.proofs.lemmas.List.{get_or-set_same, get_or-set_other, length-set}
use Rattle.std.proofs.lemmas.List.Sums.{sum_by-set, count_by-le-length}
use Rattle.teg_net.specs.Nets.{NetLists}
use Rattle.teg_net.specs.Circuits.{from_of}
use Rattle.teg_net.specs.Parts.{IsMember}
use Rattle.teg_parts.specs.Components.{IsMarked}
use Rattle.policy_rounds.specs.Policies.{Policy, IsPolicy, step_back, LeadsBack}
use Rattle.teg_howard.specs.CircuitStarts.{IsLowestOnCircuit, IsLowestBack, walk_at, HasWalkPassed}
use Rattle.policy_rounds.proofs.Back.{back_add, back_member}
use Rattle.teg_parts.proofs.Ordering.{cases_number}

some_not_none : (o : Option ℕ) (z : ℕ) → o ≡ Some z → o ≢ None
some_not_none o z e n = cc

-- how many transitions no walk has passed
abbrev pub left_over : List (Option ℕ) → ℕ
left_over passed = count_by is_none passed

-- a walk from a member ends at one
pub end_member : (net : NetLists) (π : Policy) (parts : List ℕ) (part start : ℕ) (old new : List (Option ℕ)) (end : ℕ)
    → IsPolicy net parts part π → IsMember parts part start → HasWalkPassed net π start old new end → IsMember parts part end
end_member net π parts part start old new end ok member e = subst (IsMember parts part) e.leads.1 (back_member net parts part π ok e.leads.0 start member)

module _ (net : NetLists) (π : Policy) where
  -- ---- one walk
  pub record Passing (start : ℕ) (old now : List (Option ℕ)) (at : ℕ) : Type 0 where
    pub steps : ℕ
    pub count : length now ≡ length old
    pub at_is : at ≡ step_back net π steps start
    pub few : steps + left_over now ≤ left_over old
    pub kept : (t : ℕ) → walk_at old t ≢ None → walk_at now t ≡ walk_at old t
    pub way : (j : ℕ) → j < steps → walk_at now (step_back net π j start) ≢ None
    pub fresh : (t : ℕ) → walk_at old t ≡ None → walk_at now t ≢ None → (walk_at now t ≡ Some start) × ((j : ℕ) × (j < steps) × (t ≡ step_back net π j start))

  abbrev counted : Option ℕ → ℕ
  counted o = cond (is_none o) 1 0

  none_counts : (now : List (Option ℕ)) (at : ℕ) → walk_at now at ≡ None → counted (walk_at now at) ≡ 1
  none_counts now at none = ap counted none

  pub passing_less : (now : List (Option ℕ)) (at start : ℕ) → at < length now → walk_at now at ≡ None → left_over (set now at (Some start)) < left_over now
  passing_less now at start l none =
      let s = sum_by-set counted now at (Some start) None l in
      let one : counted (walk_at now at) ≡ 1 = none_counts now at none in
      omega (arith, s, one)

  pub passing_more : (start : ℕ) (old now : List (Option ℕ)) (at : ℕ) → Passing start old now at → at < length now
      → walk_at now at ≡ None → Passing start old (set now at (Some start)) (from_of net (π at))
  passing_more start old now at h l none =
      let new : List (Option ℕ) = set now at (Some start) in
      let here : walk_at new at ≡ Some start = get_or-set_same now at (Some start) None l in
      let there = λ (t : ℕ) (ne : t ≢ at). get_or-set_other now at t (Some start) None ne in
      let s = sum_by-set counted now at (Some start) None l in
      let one : counted (walk_at now at) ≡ 1 = none_counts now at none in
      let m : ℕ = h.steps in
      record {
        steps = suc m;
        count = length-set now at (Some start) ∙ h.count;
        at_is = ap (λ x. from_of net (π x)) h.at_is;
        few = let f = h.few in omega (arith, s, one);
        kept = λ t n.
            ⊎_elim
            (λ (q : t ≡ at). absurd (n (sym (h.kept t n) ∙ (ap (walk_at now) q ∙ none))))
            (λ (q : t ≢ at). there t q ∙ h.kept t n)
            (cases_eq t at);
        way = λ j k n.
            let x : ℕ = step_back net π j start in
            ⊎_elim
            (λ (q : x ≡ at). some_not_none (walk_at new x) start (ap (walk_at new) q ∙ here) n)
            (λ (q : x ≢ at).
            ⊎_elim
            (λ (p : j < m). h.way j p (sym (there x q) ∙ n))
            (λ (p : m ≤ j). let is : j ≡ m = omega arith in q (ap (λ i. step_back net π i start) is ∙ sym h.at_is))
            (cases_lt j m))
            (cases_eq x at);
        fresh = λ t e n.
            ⊎_elim
            (λ (q : t ≡ at). (ap (walk_at new) q ∙ here, (m, omega arith, q ∙ h.at_is)))
            (λ (q : t ≢ at).
            let w = h.fresh t e (λ z. n (there t q ∙ z)) in
            let j = w.1.1 in
            (there t q ∙ w.0, (w.1.0, omega arith, w.1.2)))
            (cases_eq t at);
      }

  pub passing_done : (start : ℕ) (old now : List (Option ℕ)) (at : ℕ) → Passing start old now at → walk_at now at ≢ None → HasWalkPassed net π start old now at
  passing_done start old now at h some =
      let m : ℕ = h.steps in
      record {
        count = h.count;
        leads = (m, sym h.at_is);
        here =
            ⊎_elim
            (λ (z : m ≡ 0). subst (λ x. walk_at now x ≢ None) (h.at_is ∙ ap (λ i. step_back net π i start) z) some)
            (λ (z : m ≢ 0). h.way 0 (omega arith))
            (cases_eq m 0);
        at_end = some;
        kept = h.kept;
        fresh = λ t e n.
            let w = h.fresh t e n in
            let j : ℕ = w.1.0 in
            let less : j < m = w.1.1 in
            let is : t ≡ step_back net π j start = w.1.2 in
            let whole : (m - j) + j ≡ m = omega arith in
            let next : step_back net π 1 t ≡ step_back net π (suc j) start = ap (λ x. from_of net (π x)) is in (
              w.0,
              (m - j, ap (step_back net π (m - j)) is ∙ (back_add net π (m - j) j start ∙ (ap (λ i. step_back net π i start) whole ∙ sym h.at_is))),
              subst (λ x. walk_at now x ≢ None) (sym next)
                  (⊎_elim
                  (λ (z : suc j ≡ m). subst (λ x. walk_at now x ≢ None) (h.at_is ∙ ap (λ i. step_back net π i start) (sym z)) some)
                  (λ (z : suc j ≢ m). h.way (suc j) (omega arith))
                  (cases_eq (suc j) m)),
            );
        round = λ e.
            let w = h.fresh at e some in
            let j : ℕ = w.1.0 in
            let less : j < m = w.1.1 in
            let is : at ≡ step_back net π j start = w.1.2 in
            let whole : (m - j) + j ≡ m = omega arith in
            let f = h.few in
            record {
              steps = m - j;
              some = omega arith;
              few = omega (arith, count_by-le-length is_none old);
              again = ap (step_back net π (m - j)) is ∙ (back_add net π (m - j) j start ∙ (ap (λ i. step_back net π i start) whole ∙ sym h.at_is));
            };
      }

  -- ---- turning round a circuit
  pub turns : (k t : ℕ) → step_back net π k t ≡ t → (q : ℕ) → step_back net π (q * k) t ≡ t
  turns k t e zero = let z : 0 * k ≡ 0 = omega arith in ap (λ i. step_back net π i t) z
  turns k t e (suc q) =
      let z : suc q * k ≡ k + q * k = grind arith in
      ap (λ i. step_back net π i t) z ∙ (sym (back_add net π k (q * k) t) ∙ (ap (step_back net π k) (turns k t e q) ∙ e))

  -- what a transition that comes again leads to leads to it
  pub leads_again : (k t m : ℕ) → 0 < k → step_back net π k t ≡ t → LeadsBack net π (step_back net π m t) t
  leads_again k t m some e =
      let more : m ≤ m * k = grind (arith, some) in
      let whole : (m * k - m) + m ≡ m * k = omega arith in
      (m * k - m, back_add net π (m * k - m) m t ∙ (ap (λ i. step_back net π i t) whole ∙ turns k t e m))

  -- it comes to no others than in its first turn
  pub in_turn : (k t : ℕ) → 0 < k → step_back net π k t ≡ t → (m : ℕ) → (j : ℕ) × (j < k) × (step_back net π m t ≡ step_back net π j t)
  in_turn k t some e zero = (0, some, refl)
  in_turn k t some e (suc m) =
      let w = in_turn k t some e m in
      let j : ℕ = w.0 in
      let less : j < k = w.1 in
      let next : step_back net π (suc m) t ≡ step_back net π (suc j) t = ap (λ x. from_of net (π x)) w.2 in
      ⊎_elim
      (λ (z : suc j ≡ k). (0, some, next ∙ (ap (λ i. step_back net π i t) z ∙ e)))
      (λ (z : suc j ≢ k). (suc j, omega arith, next))
      (cases_eq (suc j) k)

  pub lowest_of_all : (t : ℕ) (h : IsLowestOnCircuit net π t) (m : ℕ) → t ≤ step_back net π m t
  lowest_of_all t h m = let w = in_turn h.steps t h.some h.again m in subst (λ x. t ≤ x) (sym w.2) (h.lowest w.0 w.1)

  -- ---- the lowest of a circuit
  pub record Lowering (start i at lowest : ℕ) : Type 0 where
    pub at_is : at ≡ step_back net π i start
    pub leads : LeadsBack net π start lowest
    pub low : (j : ℕ) → j ≤ i → lowest ≤ step_back net π j start
    pub not_yet : (j : ℕ) → 0 < j → j ≤ i → step_back net π j start ≢ start

  module _ (start i at lowest : ℕ) (h : Lowering start i at lowest) where
    next_is : from_of net (π at) ≡ step_back net π (suc i) start
    next_is = ap (λ x. from_of net (π x)) h.at_is

    pub lowering_more : (low : ℕ) → from_of net (π at) ≢ start → LeadsBack net π start low → low ≤ lowest → low ≤ from_of net (π at) → Lowering start (i + 1) (from_of net (π at)) low
    lowering_more low ne leads old new =
        let e : i + 1 ≡ suc i = omega arith in
        subst (λ n. Lowering start n (from_of net (π at)) low) (sym e)
        (record {
          at_is = next_is;
          leads = leads;
          low = λ j l.
              ⊎_elim
              (λ (q : j ≤ i). let b = h.low j q in omega arith)
              (λ (q : i < j). let z : j ≡ suc i = omega arith in let n = next_is in rw z (omega arith))
              (⊎_elim (λ (q : j < suc i). inl (omega arith)) (λ (q : suc i ≤ j). inr (omega arith)) (cases_lt j (suc i)));
          not_yet = λ j l m.
              ⊎_elim
              (λ (q : j < suc i). h.not_yet j l (omega arith))
              (λ (q : suc i ≤ j). let z : j ≡ suc i = omega arith in rw z (λ y. ne (next_is ∙ y)))
              (cases_lt j (suc i));
        })

    pub leads_next : LeadsBack net π start (from_of net (π at))
    leads_next = (suc i, sym next_is)

    -- the start has come again: all have been met
    pub lowering_done : from_of net (π at) ≡ start → IsLowestBack net π start lowest
    lowering_done e = record {
      leads = h.leads;
      lowest = λ m.
          let w = in_turn (suc i) start (omega arith) (sym next_is ∙ e) m in
          let l = w.1 in
          subst (λ x. lowest ≤ x) (sym w.2) (h.low w.0 (omega arith));
    }

  -- ---- all walks
  module _ (parts : List ℕ) (part : ℕ) where
    pub record Started (starts : List Bool) (passed : List (Option ℕ)) (i : ℕ) : Type 0 where
      pub count : length starts ≡ length parts
      pub count_passed : length passed ≡ length parts
      pub below : (t k : ℕ) → walk_at passed t ≡ Some k → k < i
      pub closed : (t : ℕ) → walk_at passed t ≢ None → walk_at passed (step_back net π 1 t) ≢ None
      pub only : (t : ℕ) → IsMarked starts t → IsMember parts part t
      pub all : (t : ℕ) → walk_at passed t ≢ None → IsLowestOnCircuit net π t → IsMarked starts t
      pub done : (t : ℕ) → t < i → IsMember parts part t → walk_at passed t ≢ None

    pub started_outside : (starts : List Bool) (passed : List (Option ℕ)) (i : ℕ) → Started starts passed i → (IsMember parts part i → ⊥) → Started starts passed (i + 1)
    started_outside starts passed i h out = record {
      count = h.count;
      count_passed = h.count_passed;
      below = λ t k e. let l = h.below t k e in omega arith;
      closed = h.closed;
      only = h.only;
      all = h.all;
      done = λ t l m.
          ⊎_elim
          (λ (q : t < i). h.done t q m)
          (λ (q : i ≤ t). let z : t ≡ i = omega arith in absurd (out (subst (IsMember parts part) z m)))
          (cases_lt t i);
    }

    closed_far : (passed : List (Option ℕ)) → ((t : ℕ) → walk_at passed t ≢ None → walk_at passed (step_back net π 1 t) ≢ None)
        → (m t : ℕ) → walk_at passed t ≢ None → walk_at passed (step_back net π m t) ≢ None
    closed_far passed closed zero t n = n
    closed_far passed closed (suc m) t n = closed (step_back net π m t) (closed_far passed closed m t n)

    module _ (starts : List Bool) (passed new : List (Option ℕ)) (i end : ℕ) (h : Started starts passed i) (w : HasWalkPassed net π i passed new end) where
      was : (t : ℕ) → (walk_at passed t ≡ None) ⊎ (walk_at passed t ≢ None)
      was t = ⊎_elim (λ (e : walk_at passed t ≡ None). inl e) (λ (e : (z : ℕ) × (walk_at passed t ≡ Some z)). inr (some_not_none (walk_at passed t) e.0 e.1)) (cases_number (walk_at passed t))

      now_below : (t k : ℕ) → walk_at new t ≡ Some k → k < i + 1
      now_below t k e =
          ⊎_elim
          (λ (n : walk_at passed t ≡ None).
          let f = w.fresh t n (some_not_none (walk_at new t) k e) in
          let is : i ≡ k = let s = f.0 in cc in
          omega arith)
          (λ (n : walk_at passed t ≢ None). let l = h.below t k (sym (w.kept t n) ∙ e) in omega arith)
          (was t)

      now_closed : (t : ℕ) → walk_at new t ≢ None → walk_at new (step_back net π 1 t) ≢ None
      now_closed t n =
          ⊎_elim
          (λ (e : walk_at passed t ≡ None). (w.fresh t e n).2)
          (λ (e : walk_at passed t ≢ None). let c = h.closed t e in λ z. c (sym (w.kept (step_back net π 1 t) c) ∙ z))
          (was t)

      now_done : (t : ℕ) → t < i + 1 → IsMember parts part t → walk_at new t ≢ None
      now_done t l m =
          ⊎_elim
          (λ (q : t < i). let d = h.done t q m in λ z. d (sym (w.kept t d) ∙ z))
          (λ (q : i ≤ t). let e : i ≡ t = omega arith in subst (λ x. walk_at new x ≢ None) e w.here)
          (cases_lt t i)

      -- where this walk was the first at its end, no earlier one was there
      pub end_fresh : walk_at new end ≡ Some i → walk_at passed end ≡ None
      end_fresh e =
          ⊎_elim
          (λ (n : walk_at passed end ≡ None). n)
          (λ (n : (k : ℕ) × (walk_at passed end ≡ Some k)).
          let l = h.below end n.0 n.1 in
          let same = w.kept end (some_not_none (walk_at passed end) n.0 n.1) in
          let is : i ≡ n.0 = let s = n.1 in cc in
          absurd (omega arith))
          (cases_number (walk_at passed end))

      pub end_old : (walk_at new end ≡ Some i → ⊥) → walk_at passed end ≢ None
      end_old out e = out (w.fresh end e w.at_end).0

      -- the walk has come to what was passed before
      pub started_old : walk_at passed end ≢ None → Started starts new (i + 1)
      started_old old = record {
        count = h.count;
        count_passed = w.count ∙ h.count_passed;
        below = now_below;
        closed = now_closed;
        only = h.only;
        all = λ t n low.
            ⊎_elim
            (λ (e : walk_at passed t ≡ None).
            let f = (w.fresh t e n).1 in
            let back = leads_again low.steps t f.0 low.some low.again in
            let there : walk_at passed (step_back net π back.0 (step_back net π f.0 t)) ≢ None =
            closed_far passed h.closed back.0 (step_back net π f.0 t) (subst (λ x. walk_at passed x ≢ None) (sym f.1) old) in
            absurd (there (ap (walk_at passed) back.1 ∙ e)))
            (λ (e : walk_at passed t ≢ None). h.all t e low)
            (was t);
        done = now_done;
      }

      -- it has come to itself: a circuit that no walk has met
      pub started_new : (ok : IsPolicy net parts part π) (low : ℕ) → IsMember parts part end → walk_at passed end ≡ None → IsLowestBack net π end low → Started (set starts low true) new (i + 1)
      started_new ok low member none is =
          let low_in : IsMember parts part low = subst (IsMember parts part) is.leads.1 (back_member net parts part π ok is.leads.0 end member) in
          let in' : low < length starts = let r = low_in.in_range in let c = h.count in omega arith in
          let here : get_or (set starts low true) low false ≡ true = get_or-set_same starts low true false in' in
          let stays = λ (t : ℕ) (y : IsMarked starts t).
          let r : IsMarked (set starts low true) t =
          ⊎_elim
          (λ (q : t ≡ low). ap (λ x. get_or (set starts low true) x false) q ∙ here)
          (λ (q : t ≢ low). get_or-set_other starts low t true false q ∙ y)
          (cases_eq t low) in r in
          record {
            count = length-set starts low true ∙ h.count;
            count_passed = w.count ∙ h.count_passed;
            below = now_below;
            closed = now_closed;
            only = λ t y.
                ⊎_elim
                (λ (q : t ≡ low). subst (IsMember parts part) (sym q) low_in)
                (λ (q : t ≢ low). h.only t (sym (get_or-set_other starts low t true false q) ∙ y))
                (cases_eq t low);
            all = λ t n l.
                ⊎_elim
                (λ (e : walk_at passed t ≡ None).
                let f = (w.fresh t e n).1 in
                let back = leads_again l.steps t f.0 l.some l.again in
                let under : low ≤ t = subst (λ x. low ≤ x) (ap (step_back net π back.0) (sym f.1) ∙ back.1) (is.lowest back.0) in
                let way : step_back net π (is.leads.0 + f.0) t ≡ low = sym (back_add net π is.leads.0 f.0 t) ∙ (ap (step_back net π is.leads.0) f.1 ∙ is.leads.1) in
                let over : t ≤ low = subst (λ x. t ≤ x) way (lowest_of_all t l (is.leads.0 + f.0)) in
                let same : t ≡ low = omega arith in
                ap (λ x. get_or (set starts low true) x false) same ∙ here)
                (λ (e : walk_at passed t ≢ None). stays t (h.all t e l))
                (was t);
            done = now_done;
          }
