-- What the period of the dates of a net divides, and the growth of a strongly connected net.
use Rattle.std.proofs.Common.{ℕ, ℤ, zero, suc, pos, ◌+◌, ◌-◌, ◌*◌, ◌<◌, ◌≤◌, ◌≡◌, ◌≢◌, ◌⊎◌, inl, inr, get_or, length, refl, sym, ap, subst, ◌∙◌, arith, ⊎_elim}
use Rattle.std.proofs.lemmas.Bool.{cases_lt}
use Rattle.bound_laws.specs.dioid.declared.dates.Date.{Date}
use Rattle.bound_laws.specs.dioid.declared.dates.Date.TheVariants.{Early, At, Never}
use Rattle.bound_laws.specs.dioid.Dates.{move}
use Rattle.periodic_laws.proofs.dioid_proofs.DateOrder.{at_most_is}
use Rattle.periodic_laws.proofs.dioid_proofs.Moves.{delayed_is_move}
use Rattle.bound_laws.specs.teg_net.Nets.{NetLists, HasEndsInRange, HasListsOfInputs, HasRisingLists, HasListsByRule}
use Rattle.bound_laws.specs.teg_net.Circuits.{IsPathBetween, IsLive, time_of}
use Rattle.bound_laws.specs.teg_model.Datings.{IsLeastDating}
use Rattle.bound_laws.specs.settled_laws.SettledForms.{RepeatsAfter}
use Rattle.periodic_laws.specs.RepeatNumbers.{repeats_past, repeats_in, repeats_by}
use Rattle.periodic_laws.specs.LinearSystem.{LeastDatingsRepeat}
use Rattle.slope_laws.specs.Slopes.{IsSlope}
use Rattle.slope_laws.proofs.EndedLists.{input_of}
use Rattle.slope_laws.proofs.FormSlopes.{forms_have_slopes}
use Rattle.slope_laws.proofs.Nevers.{nevers_come_from_ended_lists}
use Rattle.bound_laws.proofs.teg_loops_proofs.Ends.{ends_below}
use Rattle.bound_laws.proofs.Onward.{start_in}
use Rattle.bound_laws.proofs.Shortest.{least_divides}
use Rattle.growth_laws.specs.Growth.{IsEndless}
use Rattle.growth_laws.proofs.Growth.{dates_grow}
use Rattle.cyclicity_laws.specs.CriticalParts.{IsStronglyConnected, PeriodsDivideByParts, DatesGrowByCycleTime}
use Rattle.cyclicity_laws.specs.PartsTowards.{RepeatBy, IsCommonOfNet, PeriodsDivideOfNets}
use Rattle.cyclicity_laws.proofs.RepeatsTowards.{repeat_by_parts}

-- ---- choices below n

-- what holds from some number on for each holds from one number on for all
pub one_after : (R : ℕ → ℕ → Type 0) → ((t k m : ℕ) → k ≤ m → R t k → R t m) → (n : ℕ) → ((t : ℕ) → t < n → (k : ℕ) × R t k) → (k : ℕ) × ((t : ℕ) → t < n → R t k)
one_after R on zero h = (0, λ t l. absurd (omega (arith, l)))
one_after R on (suc n) h =
    let w = one_after R on n (λ t l. h t (omega (arith, l))) in
    let own = h n (omega arith) in (
      w.0 + own.0,
      λ t l. ⊎_elim
          (λ (q : t < n). on t w.0 (w.0 + own.0) (omega arith) (w.1 t q))
          (λ (q : n ≤ t). let e : n ≡ t = omega (arith, l, q) in subst (λ z. R z (w.0 + own.0)) e (on n own.0 (w.0 + own.0) (omega arith) own.1))
          (cases_lt t n),
    )

-- one function for all that is there for each
pub chosen : (S : ℕ → ℤ → Type 0) (n : ℕ) → ((t : ℕ) → t < n → (z : ℤ) × S t z) → (f : ℕ → ℤ) × ((t : ℕ) → t < n → S t (f t))
chosen S n h = (λ t. pick t (cases_lt t n), λ t l. picked t l (cases_lt t n)) where
  pick : (t : ℕ) → (t < n) ⊎ (n ≤ t) → ℤ
  pick t (inl l) = (h t l).0
  pick t (inr l) = pos 0

  picked : (t : ℕ) → t < n → (c : (t < n) ⊎ (n ≤ t)) → S t (pick t c)
  picked t l (inl m) = (h t m).1
  picked t l (inr m) = absurd (omega (arith, l, m))

never_or : (d : Date) → (d ≡ Never) ⊎ (d ≢ Never)
never_or Early = inr (λ e. at_most_is Never Early (sym e))
never_or (At z) = inr (λ e. at_most_is Never (At z) (sym e))
never_or Never = inl refl

-- ---- the period of a net

module _ (repeat : LeastDatingsRepeat) (net : NetLists) (ends : HasEndsInRange net) (inputs : HasListsOfInputs net) (rising : HasRisingLists net) (rules : HasListsByRule net)
    (live : IsLive net) (x : ℕ → ℕ → Date) (least : IsLeastDating net x) (L : ℕ) (one : 1 ≤ L) (common : IsCommonOfNet net L) where
  abbrev Goes : ℕ → ℕ → ℤ → Type 0
  Goes t after z = (k : ℕ) → after < k → x t (k + L) ≡ move z (x t k)

  -- where dates are Never, they are on from there
  ended : (t : ℕ) → t < length net.transitions → x t (repeats_past net + 1) ≡ Never → Goes t (repeats_past net) (pos 0)
  ended t l e k past =
      let begin : ℕ = repeats_past net + 1 in
      let by = nevers_come_from_ended_lists net ends inputs rules live x least t l in
      let is : (j : ℕ) → repeats_past net < j → x t j ≡ Never = λ j m. (let f : begin + (j - begin) ≡ j = omega (arith, m) in sym (ap (x t) f) ∙ by.on begin (j - begin) (omega arith) e) in
      is (k + L) (omega (arith, past)) ∙ ap (move (pos 0)) (sym (is k past))

  endless : (t : ℕ) → t < length net.transitions → x t (repeats_past net + 1) ≢ Never → IsEndless net t
  endless t l not list w =
      let r = repeat net ends rising rules live x least in
      let some = r.at_least_one in
      let h = forms_have_slopes net ends inputs rules live x least t (repeats_past net) (repeats_in net) (repeats_by net t) l some (λ k past. r.again t k l past) in
      not (h.never.1 (list, w) (repeats_past net + 1) (omega arith) (omega (arith, some)))

  each : (t : ℕ) → t < length net.transitions → (after : ℕ) × ((z : ℤ) × Goes t after z)
  each t l = ⊎_elim
      (λ (e : x t (repeats_past net + 1) ≡ Never). (repeats_past net, (pos 0, ended t l e)))
      (λ (e : x t (repeats_past net + 1) ≢ Never).
      let none = endless t l e in
      let c = common t l none in
      let r : RepeatBy (x t) c.0 c.1 L = repeat_by_parts repeat net ends inputs rising rules live x least t l none c.0 c.1 c.2 c.3 L one c.4 in
      (r.after, (pos r.step, λ k past. r.again k past ∙ delayed_is_move r.step (x t k))))
      (never_or (x t (repeats_past net + 1)))

  all : (after : ℕ) × (steps : ℕ → ℤ) × RepeatsAfter (length net.transitions) x after L steps
  all =
      let w = one_after (λ t after. (z : ℤ) × Goes t after z) (λ t k m l r. (r.0, λ j past. r.1 j (omega (arith, past, l)))) (length net.transitions) each in
      let s = chosen (λ t z. Goes t w.0 z) (length net.transitions) w.1 in
      (w.0, s.0, record { at_least_one = one; again = λ t k l past. s.1 t l k past })

pub periods_divide_of_nets : LeastDatingsRepeat → PeriodsDivideOfNets
periods_divide_of_nets repeat net ends inputs rising rules live x least f h L one common =
    let w = all repeat net ends inputs rising rules live x least L one common in
    least_divides (length net.transitions) x f w.0 L w.1 h w.2

-- ---- a strongly connected net

module _ (net : NetLists) (a b : ℕ) (s : IsStronglyConnected net a b) where
  none_ends : (t : ℕ) → IsEndless net t
  none_ends t l w = s.no_input l.transition.index (input_of net l s.lists w.of_net)

  -- it has no input list, so that each keeps every rule
  no_lists_rise : HasRisingLists net
  no_lists_rise i d l = absurd (s.no_input (get_or net.inputs i d).transition.index (s.lists.is_input i d l))

  no_lists_by_rule : HasListsByRule net
  no_lists_by_rule i d l = absurd (s.no_input (get_or net.inputs i d).transition.index (s.lists.is_input i d l))

  slope : (t : ℕ) → t < length net.transitions → IsSlope net t b a
  slope t l =
      let core = s.ratio.attained in
      let at : ℕ = core.1.closed.0 in
      let round : IsPathBetween net at core.0 at = core.1.closed.1 in
      let at_in = start_in net (length net.transitions) at at core.0 (ends_below net s.ends) round core.1.not_empty in
      let e : b * time_of net core.0 ≡ time_of net core.0 * b = grind arith in
      let f = core.3 in
      record {
        circuits = λ ps w. (let up = s.ratio.greatest ps w.circuit (λ i d m. tt) in let g : b * time_of net ps ≡ time_of net ps * b = grind arith in omega (arith, up, g));
        lists = λ list again w. absurd (s.no_input list.transition.index (input_of net list s.lists w.of_net));
        attained = inr (inl (core.0, record { circuit = core.1; at = at; round = round; towards = s.reaches at t at_in l }, omega (arith, e, f)));
      }

pub periods_divide : LeastDatingsRepeat → PeriodsDivideByParts
periods_divide repeat net a b s x least f h L one common =
    periods_divide_of_nets repeat net s.ends s.lists (no_lists_rise net a b s) (no_lists_by_rule net a b s) s.live x least f h L one
    (λ t l none. (
      a,
      b,
      s.ratio.some,
      slope net a b s t l,
      λ some. record {
        parts = λ c ps critical leads. common c ps critical;
        lists = λ list again w rate. absurd (s.no_input list.transition.index (input_of net list s.lists w.of_net));
      },
    ))

-- the slope of each transition is the greatest ratio
pub grow_by_cycle_time : LeastDatingsRepeat → DatesGrowByCycleTime
grow_by_cycle_time repeat net a b s x least t l =
    dates_grow repeat net s.ends s.lists (no_lists_rise net a b s) (no_lists_by_rule net a b s) s.live x least t l (none_ends net a b s t) a b s.ratio.some (slope net a b s t l)
