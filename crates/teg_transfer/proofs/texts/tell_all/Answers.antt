use Rattle.std.proofs.Common.{◌+◌, ◌-◌, ◌<◌, List, All, drop, length, subst, arith}
use Rattle.std.proofs.lemmas.List.{take_all}
use Rattle.std.proofs.lemmas.List.Elements.{All-drop, All-take}
use Rattle.teg_net.specs.declared.entries.Role.TheVariants.{Input}
use Rattle.teg_net.specs.declared.entries.TransitionId.{TransitionId}
use Rattle.teg_transfer.proofs.Transferred.{those_are_inputs, those_within}
use Rattle.teg_transfer.proofs.TransferTexts.{no_times, none_told, one_told}
use Rattle.teg_transfer.proofs.texts.tell_all.Goals as goal

pub loop-index-init : goal.loop-index-init
loop-index-init c =
    let net = c.args.net.now in
    let limit = c.args.asked.now.limit in
    (none_told net limit c.args.first.text.items, rw c.requires.none (no_times net limit), c.requires.ends)

pub tell_next-requires-clause-input : goal.tell_next-requires-clause-input
tell_next-requires-clause-input c =
    let net = c.args.net.now in
    let k = c.loop-index.index in
    let lt : k < length c.args.inputs.now = omega (arith, c.loop-index-test.true, c.loop-index.auto.index-end) in
    rw c.requires.inputs (those_are_inputs net k _ (subst (λ (ts : List TransitionId). k < length ts) c.requires.inputs lt))

pub tell_next-requires-clause-later : goal.tell_next-requires-clause-later
tell_next-requires-clause-later c =
    let net = c.args.net.now in
    let within : All (λ t. t.index < length net.transitions) c.args.inputs.now = rw c.requires.inputs (those_within net Input) in
    let after = c.loop-index.index + 1 in
    All-take (λ (t : TransitionId). t.index < length net.transitions) (length c.args.inputs.now - after) (drop after c.args.inputs.now)
    (All-drop (λ (t : TransitionId). t.index < length net.transitions) after c.args.inputs.now within)

pub tell_next-requires-clause-kept : goal.tell_next-requires-clause-kept
tell_next-requires-clause-kept c = c.loop-index.invariant.1

pub tell_next-requires-clause-ends : goal.tell_next-requires-clause-ends
tell_next-requires-clause-ends c = c.loop-index.invariant.2

pub loop-index-preserved : goal.loop-index-preserved
loop-index-preserved c =
    let k = c.loop-index.index in
    let lt : k < length c.args.inputs.now = omega (arith, c.loop-index-test.true, c.loop-index.auto.index-end) in (
      one_told c.args.net.now c.args.asked.now.limit k c.args.inputs.now _ c.args.first.text.items c.loop-index.told.text.items _ lt c.loop-index.invariant.0 c.in_ok-told.ensures.text,
      c.in_ok-told.ensures.kept,
      c.in_ok-told.ensures.ends,
    )

pub returns-clause-text : goal.returns-clause-text
returns-clause-text c =
    let all = take_all c.loop-index.index c.args.inputs.now (omega (arith, c.loop-index-test.false, c.loop-index.auto.index-end)) in
    rw all at c.loop-index.invariant.0
