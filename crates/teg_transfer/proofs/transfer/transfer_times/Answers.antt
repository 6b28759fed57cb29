use Rattle.std.proofs.Common.{rules, ◌≡◌, ◌<◌, ◌++◌, ◌∷◌, [], List, length, map, ap, ◌∙◌, subst}
use Rattle.std.proofs.lemmas.List.{map-append}
use Rattle.teg_net.specs.declared.entries.Role.TheVariants.{Input}
use Rattle.teg_net.specs.declared.entries.TransitionId.{TransitionId}
use Rattle.teg_report.specs.AnswerMeanings.{times_from}
use Rattle.teg_transfer.specs.TimesFromInputs.{those_of_role}
use Rattle.teg_transfer.proofs.MovedTimes.{each_times, froms_inputs}
use Rattle.teg_transfer.proofs.Transferred.{one_input_more, those_are_inputs}
use Rattle.teg_transfer.proofs.transfer.transfer_times.Goals as goal

pub next_times-requires-clause-input : goal.next_times-requires-clause-input
next_times-requires-clause-input c =
    let all : c.deref-input-items.result.now ≡ those_of_role c.args.net.now Input = search (rules, c.deref-input-items.ensures.value, c.in_ok-inputs.ensures, c.net.ensures.net) in
    rw all (those_are_inputs c.args.net.now c.loop-input.input-index _ (subst (λ (ts : List TransitionId). c.loop-input.input-index < length ts) all c.loop-input-test.true))

pub next_times-requires-clause-inputs : goal.next_times-requires-clause-inputs
next_times-requires-clause-inputs c =
    let all : c.deref-input-items.result.now ≡ those_of_role c.args.net.now Input = search (rules, c.deref-input-items.ensures.value, c.in_ok-inputs.ensures, c.net.ensures.net) in
    rw c.as_slice.ensures.value (froms_inputs c.args.net.now c.loop-input.input-index c.loop-input.times.items (rw all at c.loop-input.invariant.0))

pub next_times-requires-clause-times : goal.next_times-requires-clause-times
next_times-requires-clause-times c = rw c.as_slice.ensures.value (each_times c.args.net.now c.args.limit c.loop-input.times.items c.loop-input.invariant.1)

pub loop-input-preserved : goal.loop-input-preserved
loop-input-preserved c =
    let longer : map times_from c.keep.new.list.items ≡ map times_from c.loop-input.times.items ++ times_from c.in_ok-next.next.0 ∷ [] =
    ap (map times_from) c.in_ok-keep.ensures ∙ map-append times_from c.loop-input.times.items (c.in_ok-next.next.0 ∷ []) in
    let two = one_input_more c.args.net.now c.args.limit c.loop-input.input-index c.deref-input-items.result.now _
    (map times_from c.loop-input.times.items) _ (times_from c.in_ok-next.next.0) c.loop-input-test.true
    c.loop-input.invariant.0 c.loop-input.invariant.1 c.in_ok-next.ensures.from c.in_ok-next.ensures.times longer in
    (two.0, two.1, c.in_ok-next.ensures.ends)
