-- The least dating keeps the bound.
use Rattle.std.proofs.Common.{ℕ, true, false, ◌==◌, ◌+◌, ◌*◌, ◌/◌, ◌≤◌, ◌≡◌, ◌≢◌, List, length, sym, ap, subst, ◌∙◌, arith, ⊎_elim}
use Rattle.std.specs.Prelude.{pos, All}
use Rattle.std.specs.Int.{◌∣◌}
use Rattle.std.proofs.lemmas.Bool.{cases_eq, cases_Bool, eqb-true, eq-eqb}
use Rattle.std.proofs.Math.Nat.{div-mul_cancel, one-dvd, mul-le-mul_right}
use Rattle.bound_laws.specs.dioid.declared.dates.Date.{Date}
use Rattle.bound_laws.specs.dioid.declared.dates.Date.TheVariants.{At}
use Rattle.bound_laws.specs.dioid.Dates.{move}
use Rattle.teg_net.specs.declared.entries.PlaceId.{PlaceId}
use Rattle.teg_net.specs.Nets.{NetLists, IsNet}
use Rattle.teg_net.specs.Ratios.{Fraction}
use Rattle.teg_net.specs.Circuits.{IsCircuit, IsLive, time_of, tokens_of}
use Rattle.teg_net.specs.GreatestRatios.{IsGreatestRatio, IsAnyPlace}
use Rattle.teg_net.proofs.NetRules.{net_ends}
use Rattle.bound_laws.specs.teg_model.Datings.{IsLeastDating}
use Rattle.bound_laws.specs.settled_laws.SettledForms.{RepeatsAfter}
use Rattle.bound_laws.specs.Critical.{IsStrong, IsCommon, AllReadyAtZero, bound_of}
use Rattle.bound_laws.proofs.Bounded.{still_nets_stay_at_zero_by}
use Rattle.bound_laws.proofs.Shortest.{forms_keep_the_bound}
use Rattle.teg_bound.specs.PeriodicBounds.{NoInput, EachReachesEach, IsNumberOf, IsChoice, IsMultipleOf, FormsKeepBound}

-- the least common multiple of a choice, and each other, is a common multiple
common_of : (net : NetLists) (r : Fraction) (chosen : ℕ → List PlaceId) (multiple : ℕ) → IsChoice net r chosen → IsMultipleOf net r chosen multiple → IsCommon net r.time r.tokens multiple
common_of net r chosen multiple choice divides t ps critical =
    let by = divides t ps critical in
    (chosen t, choice t ps critical, multiple / tokens_of net (chosen t), sym (div-mul_cancel (tokens_of net (chosen t)) by))

-- a net without inputs, whose transitions reach each other, and its greatest ratio
pub record IsAlone (net : NetLists) (r : Fraction) : Type 0 where
  pub rules : IsNet net
  pub live : IsLive net
  pub no_input : NoInput net
  pub each : EachReachesEach net
  pub ready : AllReadyAtZero net
  pub ratio : IsGreatestRatio net IsAnyPlace r

module _ (net : NetLists) (r : Fraction) (h : IsAlone net r) where
  strong : (hold tokens : ℕ) → All (λ p. p.hold ≤ hold) net.places → All (λ p. p.tokens ≤ tokens) net.places → 1 ≤ tokens → 1 ≤ r.time → IsStrong net hold tokens r.time r.tokens
  strong hold tokens holds marks one some = record {
    net_rules = h.rules;
    live = h.live;
    no_input = h.no_input;
    reaches = h.each;
    center = h.ratio.attained.1.closed.0;
    core = h.ratio.attained.0;
    attained = record {
      circuit = h.ratio.attained.1;
      at = h.ratio.attained.1.closed.1;
      critical = let e = h.ratio.attained.3 in grind (arith, e);
    };
    greatest = λ ps c. let l = h.ratio.greatest ps c (λ i d m. tt) in grind (arith, l);
    time_some = some;
    tokens_some = h.ratio.some;
    holds = holds;
    marks = marks;
    one = one;
    ready_at_zero = h.ready;
  }

  -- where the greatest ratio is 0, no circuit takes time
  no_time : r.time ≡ 0 → (ps : List PlaceId) → IsCircuit net ps → time_of net ps ≡ 0
  no_time zero_time ps c =
      let l : time_of net ps * r.tokens ≤ r.time * tokens_of net ps = h.ratio.greatest ps c (λ i d m. tt) in
      let none : r.time * tokens_of net ps ≡ 0 = ap (λ z. z * tokens_of net ps) zero_time ∙ (let z : 0 * tokens_of net ps ≡ 0 = omega arith in z) in
      ⊎_elim
      (λ (e : time_of net ps ≡ 0). e)
      (λ (ne : time_of net ps ≢ 0).
      let some = h.ratio.some in
      let more : 1 * r.tokens ≤ time_of net ps * r.tokens = mul-le-mul_right r.tokens (let l : 1 ≤ time_of net ps = omega arith in l) in
      absurd (omega arith))
      (cases_eq (time_of net ps) 0)

  -- then all dates are 0, and go on by 0 from the first on
  still : r.time ≡ 0 → (x : ℕ → ℕ → Date) → IsLeastDating net x → RepeatsAfter (length net.transitions) x 0 1 (λ t. pos 0)
  still zero_time x least = record {
    at_least_one = omega arith;
    again = λ t k lt more.
        let all = still_nets_stay_at_zero_by net (net_ends net h.rules) h.live h.no_input h.each (no_time zero_time) h.ready x least in
        let next : x t (k + 1) ≡ At (pos 0) = all t (k + 1) lt (omega arith) in
        let here : x t k ≡ At (pos 0) = all t k lt (omega arith) in
        next ∙ sym (ap (move (pos 0)) here);
  }

  keeps_still : r.time ≡ 0 → FormsKeepBound net r 0
  keeps_still zero_time x least f shortest =
      let goes_on = still zero_time x least in
      let short = shortest.least_period 0 1 (λ t. pos 0) goes_on in
      let some = shortest.stands.sizes.at_least_one in
      let one : 1 ≡ f.period = omega arith in
      record {
        after = shortest.least_after 0 1 (λ t. pos 0) goes_on;
        period = λ chosen multiple choice more divides. subst (λ p. p ∣ multiple) one (one-dvd multiple);
      }

  some_time : (r.time == 0) ≡ false → 1 ≤ r.time
  some_time e = ⊎_elim (λ (z : r.time ≡ 0). let no : true ≡ false = sym (eq-eqb r.time 0 z) ∙ e in cc) (λ (ne : r.time ≢ 0). omega arith) (cases_eq r.time 0)

  keeps_moving : (hold tokens : ℕ) → All (λ p. p.hold ≤ hold) net.places → All (λ p. p.tokens ≤ tokens) net.places → 1 ≤ tokens
      → 1 ≤ r.time → FormsKeepBound net r (bound_of (length net.transitions) hold tokens r.time r.tokens)
  keeps_moving hold tokens holds marks one some x least f shortest =
      let law = forms_keep_the_bound net hold tokens r.time r.tokens (strong hold tokens holds marks one some) x least f shortest in
      record {
        after = law.0;
        period = λ chosen multiple choice more divides. law.1 multiple more (common_of net r chosen multiple choice divides);
      }

  pub keeps : (number : ℕ) → IsNumberOf net r number → FormsKeepBound net r number
  keeps number n =
      let hold : ℕ = n.hold in
      let tokens : ℕ = n.tokens in
      ⊎_elim
      (λ (e : (r.time == 0) ≡ true).
      let is : number ≡ 0 = rw e at n.is in
      subst (FormsKeepBound net r) (sym is) (keeps_still (eqb-true r.time 0 e)))
      (λ (e : (r.time == 0) ≡ false).
      let is : number ≡ bound_of (length net.transitions) hold tokens r.time r.tokens = rw e at n.is in
      subst (FormsKeepBound net r) (sym is)
      (keeps_moving hold tokens n.hold_is.greatest n.tokens_is.greatest n.tokens_is.some (some_time e)))
      (cases_Bool (r.time == 0))
