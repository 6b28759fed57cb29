use Rattle.std.proofs.Common.{rules, subst}
use Rattle.policy_rounds.specs.LastRounds.{rounds_of_runs}
use Rattle.teg_lines.specs.CycleMeanings.{cycle_lists}
use Rattle.teg_lines.specs.RoundLines.{AreRunsTold}
use Rattle.round_check.specs.OtherRounds.{IsOtherAt}
use Rattle.round_check.specs.ToldRounds.{IsTold}
use Rattle.round_check.proofs.Refuting.{other_is_not_shown}
use Rattle.round_check.proofs.Telling.{lists_of}
use Rattle.round_check.proofs.refuted.refutes_rounds.Goals as goal

pub first_other-requires-clause-told : goal.first_other-requires-clause-told
first_other-requires-clause-told c =
    let told = c.in-Some.told in
    let is : IsTold c.args.net.now c.args.text.now told = search rules in
    rw c.deref.ensures.value (subst (AreRunsTold c.args.net.now (cycle_lists told.answer).parts) (lists_of told.runs.items) is.whole.rounds)

pub returns-clause-other : goal.returns-clause-other
returns-clause-other c =
    let net = c.args.net.now in
    let told = c.in-Some.told in
    let is : IsTold net c.args.text.now told = search rules in
    let some = rw c.deref.ensures.value at (c.in_ok-part.ensures.some is.live) in
    let found : IsOtherAt net told.answer.part_of.items told.answer.parts.items (rounds_of_runs told.runs.items) c.in-Some-2.part c.in-Some-2.round =
    rw (c.in-Some-2.is, c.in-Some-2.part-is, c.in-Some-2.round-is) at some in
    ((told.answer, rounds_of_runs told.runs.items, record { live = is.live; whole = is.whole; at = found }), search rules)

pub returns-clause-not_shown : goal.returns-clause-not_shown
returns-clause-not_shown c = λ yes ratio shown.
    let net = c.args.net.now in
    let told = c.in-Some.told in
    let is : IsTold net c.args.text.now told = search rules in
    let some = rw c.deref.ensures.value at (c.in_ok-part.ensures.some is.live) in
    let found : IsOtherAt net told.answer.part_of.items told.answer.parts.items (rounds_of_runs told.runs.items) c.in-Some-2.part c.in-Some-2.round =
    rw (c.in-Some-2.is, c.in-Some-2.part-is, c.in-Some-2.round-is) at some in
    other_is_not_shown c.lines_tell_back.ensures.times c.certificates_can_be_told.ensures net c.args.text.now told.answer (rounds_of_runs told.runs.items) c.in-Some-2.part c.in-Some-2.round
    c.rules.ensures (record { live = is.live; whole = is.whole; at = found }) ratio shown
