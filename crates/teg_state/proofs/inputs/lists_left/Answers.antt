use Rattle.std.proofs.Common.{ap, ◌∙◌}
use Rattle.teg_net.specs.Nets.{IsInput}
use Rattle.teg_state.proofs.FoundLists.{lists_more, lists_same, near_more}
use Rattle.teg_state.proofs.inputs.lists_left.Goals.{then-is_input+in_ok-list_left+in_ok-push, else-is_input}
use Rattle.teg_state.proofs.inputs.lists_left.Goals as goal

pub loop-index-preserved : goal.loop-index-preserved
loop-index-preserved c =
    elim c.if-is_input.branch [
      | then-is_input+in_ok-list_left+in_ok-push w ↦
          rw (w.lists-is, w.in_ok-push.ensures.items)
          (record {
            lists =
                lists_more c.args.net.now c.args.history.now.run c.args.now c.loop-index.index c.loop-index.lists.items w.in_ok-list_left.field-0 c.loop-index.invariant.lists
                (ap (λ t. t.index) w.in_ok-list_left.ensures.transition ∙ c.new-transition.ensures)
                (rw c.new-transition.ensures at w.in_ok-list_left.ensures.dates);
            near =
                near_more c.args.net.now c.args.history.now.run c.args.now c.loop-index.index c.loop-index.invariant.near
                (rw c.new-transition.ensures at w.in_ok-list_left.ensures.near);
          })
      | else-is_input w ↦
          let no : IsInput c.args.net.now c.loop-index.index → ⊥ = λ i. let yes = c.is_input.ensures.1 (rw c.new-transition.ensures i) in let not = w.if-is_input.false in absurd (cc) in
          rw w.lists-is
          (record {
            lists = lists_same c.args.net.now c.args.history.now.run c.args.now c.loop-index.index c.loop-index.lists.items c.loop-index.invariant.lists no;
            near = near_more c.args.net.now c.args.history.now.run c.args.now c.loop-index.index c.loop-index.invariant.near (λ far. no far.is_input);
          })
    ]
