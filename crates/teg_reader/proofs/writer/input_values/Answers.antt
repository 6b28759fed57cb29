use Rattle.std.proofs.Common.{subst, sym}
use Rattle.teg_net.specs.Nets.{IsInputOf}
use Rattle.teg_reader.specs.Migrated.{input_entry}
use Rattle.teg_reader.proofs.TreeLemmas.{pushed_value}
use Rattle.teg_reader.proofs.writer.input_values.Goals as goal

pub input_value-requires : goal.input_value-requires
input_value-requires c =
    let l = rw c.inputs-input-items.ensures.value at c.loop-input-test.true in
    let is = rw c.inputs-input-items.ensures.value at c.input-item.is in
    subst (IsInputOf c.args.net.now) (sym is) (c.inputs-input-items.ensures.rules.each_input c.loop-input.input-index c.input-item.result l)

pub loop-input-preserved : goal.loop-input-preserved
loop-input-preserved c =
    let l = rw c.inputs-input-items.ensures.value at c.loop-input-test.true in
    let is = rw c.inputs-input-items.ensures.value at c.input-item.is in
    pushed_value (input_entry c.args.net.now.transitions) c.args.net.now.inputs c.loop-input.input-index c.input-item.result _ _ _ l is
    c.loop-input.invariant c.in_ok-input_value.ensures c.in_ok-push.ensures.items
