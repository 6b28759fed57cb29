use Rattle.std.proofs.Common.{ℕ, ◌≡◌, ◌≤◌, ◌+◌, ◌-◌, ◌*◌, [], ◌∷◌, ◌++◌, List, true, Option, Some, None, length, refl, ap, ◌∙◌, arith, rules}
use Rattle.std.specs.Prelude.{IfNone, is_none}
use Rattle.std.proofs.lemmas.Bool.{false≢true}
use Rattle.std.proofs.lemmas.List.{length-append}
use Rattle.teg_sizing.specs.declared.rounds.ValueCell.{ValueCell}
use Rattle.teg_sizing.specs.TracedPaths.{last_round}
use Rattle.teg_sizing.specs.ValueRounds.{greatest_reduced_time}
use Rattle.teg_sizing.specs.Surpluses.{NoneIsBetter}
use Rattle.teg_sizing.proofs.Going.{rounds_begun, rounds_more, within_more}
use Rattle.teg_sizing.proofs.Stopping.{stopped, whole}
use Rattle.teg_sizing.proofs.rounds.rounds.Goals as goal

pub loop-number-init : goal.loop-number-init
loop-number-init c =
    let begun : c.push.new.self.items ≡ c.args.first ∷ [] = c.in_ok-push.ensures.items ∙ ap (λ (z : List (List ValueCell)). z ++ (c.args.first ∷ [])) c.new-rounds.ensures.items in
    rw begun (rounds_begun c.args.asked.now.net.now c.args.asked.now.target c.args.asked.now.place c.args.first c.requires.long c.requires.small, refl)

pub round_after-requires-clause-count : goal.round_after-requires-clause-count
round_after-requires-clause-count c =
    let h = c.loop-number.invariant in
    let long = h.1 in
    rw (c.last_cells.ensures, c.deref.ensures.value) (h.0.counts (length c.loop-number.rounds.items - 1) (omega arith))

pub round_after-requires-clause-small : goal.round_after-requires-clause-small
round_after-requires-clause-small c =
    let h = c.loop-number.invariant in
    let long = h.1 in
    let rounds = c.loop-number.rounds.items in
    let few : (length rounds - 1) * greatest_reduced_time ≤ 1000 * greatest_reduced_time = omega (arith, c.loop-number-test.true, c.requires.count) in
    rw (c.last_cells.ensures, c.deref.ensures.value)
    (within_more ((length rounds - 1) * greatest_reduced_time) (1000 * greatest_reduced_time) (last_round rounds) few
    (h.0.within (length rounds - 1) (omega arith)))

pub loop-number-preserved : goal.loop-number-preserved
loop-number-preserved c =
    let h = c.loop-number.invariant in
    let rounds = c.loop-number.rounds.items in
    let here = rw (c.last_cells.ensures, c.deref.ensures.value) at c.in_ok-after.ensures.after in
    rw c.in_ok-push-2.ensures.items (
      rounds_more c.args.asked.now.net.now c.args.asked.now.target c.args.asked.now.place c.args.first rounds c.in_ok-after.after c.in_ok-after.ensures.rules c.requires.target h.0 here,
      length-append rounds (c.in_ok-after.after ∷ []) ∙ ap (λ (z : ℕ). z + 1) h.1,
    )

none_by : {X P : Type 0} (o : Option X) → IfNone o P → is_none o ≡ true → P
none_by None h e = h
none_by (Some x) h e = absurd (false≢true e)

pub returns-then-is_last-clause-rounds : goal.returns-then-is_last-clause-rounds
returns-then-is_last-clause-rounds c =
    let here = rw (c.last_cells.ensures, c.deref.ensures.value) at c.in_ok-after.ensures.after in
    rw c.in_ok-push-2.ensures.items
    (rounds_more c.args.asked.now.net.now c.args.asked.now.target c.args.asked.now.place c.args.first c.loop-number.rounds.items
    c.in_ok-after.after c.in_ok-after.ensures.rules c.requires.target c.loop-number.invariant.0 here)

pub returns-then-is_last-clause-all : goal.returns-then-is_last-clause-all
returns-then-is_last-clause-all c =
    let h = c.loop-number.invariant in
    let long = h.1 in
    let after = c.in_ok-after.after in
    let here = rw (c.last_cells.ensures, c.deref.ensures.value) at c.in_ok-after.ensures.after in
    let better : NoneIsBetter after = none_by c.better_at.result (rw c.cells.ensures at c.better_at.ensures.none) (search rules) in
    rw c.in_ok-push-2.ensures.items
    (stopped c.args.asked.now.net.now c.args.asked.now.target c.args.asked.now.place c.args.first c.loop-number.rounds.items after c.args.count
    c.in_ok-after.ensures.rules c.requires.target h.0 (omega (arith, c.loop-number-test.true, long)) here better)

pub returns-clause-all : goal.returns-clause-all
returns-clause-all c =
    let h = c.loop-number.invariant in
    let long = h.1 in
    whole c.args.asked.now.net.now c.args.asked.now.target c.args.asked.now.place c.args.first c.loop-number.rounds.items
    c.args.count h.0 (omega (arith, long, c.loop-number-test.false, c.loop-number.auto._number-end))
