use Rattle.std.proofs.Common.{ℕ, List, Option, Some, None, ◌≡◌, ◌<◌, ◌≤◌, Bool, false, length, get_or, sym, ◌∙◌, arith}
use Rattle.std.proofs.lemmas.List.{get_or_read}
use Rattle.std.specs.Prelude.{IfSome, IfNone}
use Rattle.teg_net.specs.declared.entries.PlaceId.{PlaceId}
use Rattle.teg_howard.specs.declared.policy_circuits.FoundCircuit.{FoundCircuit}
use Rattle.teg_net.specs.Parts.{IsMember}
use Rattle.policy_rounds.specs.Policies.{IsPolicy, IsPolicyCircuit, Policy}
use Rattle.teg_howard.specs.FoundCircuits.{IsFoundAt, IsBestFound}
use Rattle.policy_rounds.specs.PolicyLists.{policy_of}
use Rattle.teg_net.specs.Nets.{NetLists, IsNet}
use Rattle.teg_net.specs.Circuits.{IsLive}
use Rattle.teg_howard.proofs.Best.{Passes, BestTo, best_skip, skip_unmarked, skip_none, best_of, best_all, none_all, found_circuit}
use Rattle.teg_howard.proofs.policy_circuits.best_circuit.Goals.{then-index+in_ok-circuit+in-Some, then-index+in_ok-circuit+in_default, else-index}
use Rattle.teg_howard.proofs.policy_circuits.best_circuit.Goals as goal

pub loop-start-preserved : goal.loop-start-preserved
loop-start-preserved c =
    let net = c.args.part.now.net.now in
    let parts = c.args.part.now.parts.now in
    let part = c.args.part.now.number in
    let π = policy_of c.args.policy.now in
    let marked = c.args.marked.now in
    let i = c.loop-start.start in
    let r = c.requires in
    let h : BestTo net parts part π marked i c.loop-start.best = c.loop-start.invariant in
    let starts = c.in_ok-starts.starts.items in
    let i_in : i < length starts = omega (arith, c.loop-start-test.true, c.in_ok-starts.ensures.count) in
    let read : c.index.result.now ≡ get_or starts i false = get_or_read starts i c.index.result.now i_in c.index.ensures false in
    elim c.if-index.branch [
      | then-index+in_ok-circuit+in-Some w ↦
          let f = w.in-Some.circuit in
          let member : IsMember parts part i = c.in_ok-starts.ensures.only i (sym read ∙ w.if-index.true) in
          let found : IsFoundAt net π i f = rw w.in-Some.is at w.in_ok-circuit.ensures.some in
          rw w.best-is
          (best_of net parts part π marked r.policy.is_policy c.rules.ensures r.live c.args.part.now.count i f
          c.loop-start.best w.better_of-best.result member found h w.better_of-best.ensures)
      | then-index+in_ok-circuit+in_default w ↦
          let none = rw w.in_default.is at w.in_ok-circuit.ensures.none in
          rw w.best-is
          (best_skip net parts part π marked r.policy.is_policy c.rules.ensures r.live c.args.part.now.count i c.loop-start.best h
          (skip_none net parts part π marked r.policy.is_policy c.rules.ensures r.live c.args.part.now.count i (λ k l m. none k l (omega (arith, c.args.part.now.count, r.policy.count)))))
      | else-index w ↦
          rw w.best-is
          (best_skip net parts part π marked r.policy.is_policy c.rules.ensures r.live c.args.part.now.count i c.loop-start.best h
          (skip_unmarked net parts part π marked r.policy.is_policy c.rules.ensures r.live c.args.part.now.count starts i c.in_ok-starts.ensures
          (λ y.
          let z = w.if-index.false in
          let f : ⊥ = cc in
          f)))
    ]

pub better_of-best-requires-clause-in_range : goal.better_of-best-requires-clause-in_range
better_of-best-requires-clause-in_range c =
    let net = c.args.part.now.net.now in
    let starts = c.in_ok-starts.starts.items in
    let i = c.loop-start.start in
    let read : c.index.result.now ≡ get_or starts i false = get_or_read starts i c.index.result.now (omega (arith, c.loop-start-test.true, c.in_ok-starts.ensures.count)) c.index.ensures false in
    let member : IsMember c.args.part.now.parts.now c.args.part.now.number i = c.in_ok-starts.ensures.only i (sym read ∙ c.if-index.true) in
    let r = c.requires in
    let found : IsFoundAt net (policy_of c.args.policy.now) c.loop-start.start c.in-Some.circuit = rw c.in-Some.is at c.in_ok-circuit.ensures.some in
    λ k d l. ((found_circuit net c.args.part.now.parts.now c.args.part.now.number
    (policy_of c.args.policy.now) c.args.marked.now r.policy.is_policy c.rules.ensures r.live c.args.part.now.count c.loop-start.start c.in-Some.circuit member found).inside k d l).in_range

best_some : (net : NetLists) (parts : List ℕ) (part : ℕ) (π : Policy) (marked : List Bool) (ok : IsPolicy net parts part π)
    (kept : IsNet net) (live : IsLive net) (count : length parts ≡ length net.transitions) (n : ℕ) (best : Option FoundCircuit)
    → length parts ≤ n → BestTo net parts part π marked n best → IfSome best (λ f. IsBestFound net parts part π marked f)
best_some net parts part π marked ok kept live count n None l b = tt
best_some net parts part π marked ok kept live count n (Some f) l b = best_all net parts part π marked ok kept live count n f l b

pub returns-clause-some : goal.returns-clause-some
returns-clause-some c =
    let r = c.requires in
    best_some c.args.part.now.net.now c.args.part.now.parts.now c.args.part.now.number
    (policy_of c.args.policy.now) c.args.marked.now r.policy.is_policy c.rules.ensures r.live c.args.part.now.count c.loop-start.start c.loop-start.best (omega arith) c.loop-start.invariant

best_none : (net : NetLists) (parts : List ℕ) (part : ℕ) (π : Policy) (marked : List Bool) (ok : IsPolicy net parts part π)
    (kept : IsNet net) (live : IsLive net) (count : length parts ≡ length net.transitions) (n : ℕ) (best : Option FoundCircuit)
    → length parts ≤ n → BestTo net parts part π marked n best → IfNone best ((d : List PlaceId) → IsPolicyCircuit net parts part π d → Passes net marked d → ⊥)
best_none net parts part π marked ok kept live count n None l b = none_all net parts part π marked ok kept live count n l b
best_none net parts part π marked ok kept live count n (Some f) l b = tt

pub returns-clause-none : goal.returns-clause-none
returns-clause-none c =
    let r = c.requires in
    best_none c.args.part.now.net.now c.args.part.now.parts.now c.args.part.now.number
    (policy_of c.args.policy.now) c.args.marked.now r.policy.is_policy c.rules.ensures r.live c.args.part.now.count c.loop-start.start c.loop-start.best (omega arith) c.loop-start.invariant
