use Rattle.std.proofs.Common.{◌≡◌, sym, subst, arith, Option, Some, None}
use Rattle.std.specs.Prelude.{IfNone, IfOk, IfSome, Result, Ok, Err}
use Rattle.teg_net.specs.declared.circuits.Circuit.{Circuit}
use Rattle.teg_net.specs.Nets.{NetLists}
use Rattle.teg_check.specs.Ranks.{IsRanking}
use Rattle.token_shares.specs.BareNets.{bare, with_closed}
use Rattle.token_shares.specs.TokenShares.{IsAbove, IsHopeless, KeepsTarget, OthersKeep}
use Rattle.token_shares.proofs.Apart.{apart_count, apart_hopeless, apart_others, apart_ranking}
use Rattle.token_shares.proofs.BareLaws.{above_of, bare_ranking, keeps_of}
use Rattle.token_shares.proofs.Reaching.{enough_at_once, enough_with_many, hopeless_still}
use Rattle.token_shares.proofs.fewest.hopeless.Goals as goal

pub above-requires-clause-live : goal.above-requires-clause-live
above-requires-clause-live c =
    let is : c.in_ok-apart.apart ≡ with_closed (bare c.args.held.now) c.args.places.now = rw c.net-2.ensures.net at c.in_ok-apart.ensures in
    subst (λ (n : NetLists). IsRanking n c.live.result.now) (sym is) (apart_ranking c.args.held.now c.args.places.now c.requires.places c.live.result.now c.live.ensures)

pub above-requires-clause-place : goal.above-requires-clause-place
above-requires-clause-place c =
    let is : c.in_ok-apart.apart ≡ with_closed (bare c.args.held.now) c.args.places.now = rw c.net-2.ensures.net at c.in_ok-apart.ensures in
    let low = c.requires.places 0 (record { index = 0 }) (omega arith) in
    rw (is, apart_count c.args.held.now c.args.places.now c.requires.places) low

pub returns-in-Some-clause-some : goal.returns-in-Some-clause-some
returns-in-Some-clause-some c =
    let is : c.in_ok-apart.apart ≡ with_closed (bare c.args.held.now) c.args.places.now = rw c.net-2.ensures.net at c.in_ok-apart.ensures in
    let above : IsAbove c.in_ok-apart.apart c.args.target.now c.in-Some.circuit.places.items = rw c.in-Some.is at c.in_ok-circuit.ensures.some in
    apart_hopeless c.args.held.now c.args.places.now c.requires.places c.args.target.now c.in-Some.circuit.places.items (rw is at above)

pub returns-then-time-ne0-clause-none : goal.returns-then-time-ne0-clause-none
returns-then-time-ne0-clause-none c =
    let held = c.args.held.now in
    let is : c.in_ok-apart.apart ≡ with_closed (bare held) c.args.places.now = rw c.net-2.ensures.net at c.in_ok-apart.ensures in
    let keeps : KeepsTarget c.in_ok-apart.apart c.args.target.now = rw c.in_default.is at c.in_ok-circuit.ensures.none in
    let others : OthersKeep held c.args.target.now c.args.places.now = apart_others held c.args.places.now c.requires.places c.args.target.now (rw is at keeps) in
    enough_with_many held c.args.target.now c.args.places.now c.requires.places (rw c.net.ensures.net at c.rules.ensures) (omega (arith, c.time.ensures.value, c.if-time-ne0.true)) others

pub above-requires-2-clause-live : goal.above-requires-2-clause-live
above-requires-2-clause-live c =
    subst (λ (n : NetLists). IsRanking n c.live-2.result.now) (sym c.requires.plain) (bare_ranking c.args.held.now c.live-2.result.now c.live-2.ensures)

told_none : {X E P Q : Type 0} (r : Result (Option X) E) → (P → Q) → IfOk r (λ found. IfNone found P) → IfOk r (λ found. IfNone found Q)
told_none (Ok None) h k = h k
told_none (Ok (Some x)) h k = tt
told_none (Err e) h k = tt

told_some : {X E : Type 0} (P Q : X → Type 0) (r : Result (Option X) E) → ((x : X) → P x → Q x) → IfOk r (λ found. IfSome found P) → IfOk r (λ found. IfSome found Q)
told_some P Q (Ok None) h k = tt
told_some P Q (Ok (Some x)) h k = h x k
told_some P Q (Err e) h k = tt

pub returns-clause-none : goal.returns-clause-none
returns-clause-none c =
    let held = c.args.held.now in
    told_none c.above-2.result
    (λ (k : KeepsTarget c.args.plain.now c.args.target.now).
    enough_at_once held c.args.target.now c.args.places.now c.requires.places (keeps_of held c.args.target.now (subst (λ (n : NetLists). KeepsTarget n c.args.target.now) c.requires.plain k)))
    c.above-2.ensures.none

pub returns-clause-some : goal.returns-clause-some
returns-clause-some c =
    let held = c.args.held.now in
    let r = c.args.target.now in
    let is : c.in_ok-apart.apart ≡ with_closed (bare held) c.args.places.now = rw c.net-2.ensures.net at c.in_ok-apart.ensures in
    let keeps : KeepsTarget c.in_ok-apart.apart r = rw c.in_default.is at c.in_ok-circuit.ensures.none in
    let others : OthersKeep held r c.args.places.now = apart_others held c.args.places.now c.requires.places r (rw is at keeps) in
    told_some (λ (x : Circuit). IsAbove c.args.plain.now r x.places.items) (λ (x : Circuit). IsHopeless held r c.args.places.now x.places.items) c.above-2.result
    (λ (x : Circuit) (a : IsAbove c.args.plain.now r x.places.items).
    hopeless_still held r c.args.places.now c.requires.places x.places.items (above_of held r x.places.items (subst (λ (n : NetLists). IsAbove n r x.places.items) c.requires.plain a))
    (omega (arith, c.time.ensures.value, c.if-time-ne0.false)) others)
    c.above-2.ensures.some
