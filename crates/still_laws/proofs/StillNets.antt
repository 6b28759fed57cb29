-- Dates that are all 0 repeat at once.
use Rattle.std.proofs.Common.{ℕ, zero, suc, ◌+◌, ◌*◌, ◌<◌, ◌≤◌, ◌≡◌, ◌≢◌, List, length, refl, ◌∙◌, arith, ⊎_elim}
use Rattle.std.specs.Prelude.{pos}
use Rattle.std.proofs.lemmas.Bool.{cases_eq}
use Rattle.bound_laws.specs.dioid.declared.dates.Date.{Date}
use Rattle.bound_laws.specs.dioid.declared.dates.Date.TheVariants.{At}
use Rattle.bound_laws.specs.teg_net.declared.entries.PlaceId.{PlaceId}
use Rattle.bound_laws.specs.teg_net.Circuits.{time_of, tokens_of}
use Rattle.bound_laws.specs.settled_laws.SettledForms.{RepeatsAfter}
use Rattle.still_laws.specs.StillNets.{StillByRatio, StillNetsSettleAtOnce, OthersAreStrong}
use Rattle.still_laws.proofs.AtZero.{stay_at_zero}

no_factor : (a b : ℕ) → 1 ≤ b → a * b ≤ 0 → a ≡ 0
no_factor zero b o l = refl
no_factor (suc a) b o l = let product : suc a * b ≡ b + a * b = grind arith in absurd (omega (arith, product, o, l))

pub still_by_ratio : StillByRatio
still_by_ratio net r live g = (
  λ none ps c.
      let low : time_of net ps * r.tokens ≤ r.time * tokens_of net ps = g.greatest ps c (λ i d l. tt) in
      let zero' : time_of net ps * r.tokens ≤ 0 * tokens_of net ps = rw none at low in
      no_factor (time_of net ps) r.tokens g.some (omega (arith, zero')),
  λ still.
      let ps : List PlaceId = g.attained.0 in
      let c = g.attained.1 in
      let is : time_of net ps * r.tokens ≡ r.time * tokens_of net ps = g.attained.3 in
      let zero' : 0 * r.tokens ≡ r.time * tokens_of net ps = rw (still ps c) at is in
      let some : 1 ≤ tokens_of net ps = ⊎_elim (λ (e : tokens_of net ps ≡ 0). absurd (live ps c e)) (λ (e : tokens_of net ps ≢ 0). omega (arith, e)) (cases_eq (tokens_of net ps) 0) in
      no_factor r.time (tokens_of net ps) some (omega (arith, zero')),
)

zeros_repeat : (count : ℕ) (x : ℕ → ℕ → Date) → ((t k : ℕ) → t < count → 1 ≤ k → x t k ≡ At (pos 0)) → RepeatsAfter count x 0 1 (λ t. pos 0)
zeros_repeat count x h = record {
  at_least_one = omega arith;
  again = λ t k l m. rw (h t k l (omega (arith, m)), h t (k + 1) l (omega arith)) refl;
}

pub settle_at_once : StillNetsSettleAtOnce
settle_at_once net ends no_input reaches still ready f h =
    let x : ℕ → ℕ → Date = h.0 in
    let zeros = zeros_repeat (length net.transitions) x (stay_at_zero net ends reaches still no_input ready x h.1) in
    let period = h.2.least_period 0 1 (λ t. pos 0) zeros in
    let after = h.2.least_after 0 1 (λ t. pos 0) zeros in
    let one = h.2.stands.sizes.at_least_one in
    (omega (arith, after), omega (arith, period, one))

pub others_strong : OthersAreStrong
others_strong net ok live no_input reaches ready r g some =
    let ps : List PlaceId = g.attained.0 in
    let c = g.attained.1 in
    let turned : (qs : List PlaceId) → r.tokens * time_of net qs ≡ time_of net qs * r.tokens = λ qs. grind arith in
    record {
      net_rules = ok;
      live = live;
      no_input = no_input;
      reaches = reaches;
      center = c.closed.0;
      core = ps;
      attained = record { circuit = c; at = c.closed.1; critical = turned ps ∙ g.attained.3 };
      greatest = λ qs d. rw (turned qs) (g.greatest qs d (λ i e l. tt));
      time_some = some;
      tokens_some = g.some;
      holds = λ i d l. (ok.each_place i d l).hold_in;
      marks = λ i d l. (ok.each_place i d l).tokens_in;
      one = omega arith;
      ready_at_zero = ready;
    }
