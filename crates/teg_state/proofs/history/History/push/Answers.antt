use Rattle.std.proofs.Common.{◌≡◌, ◌<◌, ◌≤◌, [], get_or, length, arith}
use Rattle.std.proofs.lemmas.List.{get_or_read}
use Rattle.teg_state.proofs.RunSteps.{columns_more, columns_same}
use Rattle.teg_state.proofs.history.History.push.Goals.{then-index-len+in_ok-push, else-index-len}
use Rattle.teg_state.proofs.history.History.push.Goals as goal

pub invariant_of-self-2 : goal.invariant_of-self-2
invariant_of-self-2 c =
    let run = c.self.inside.run.items in
    let columns = c.self.inside.columns.items in
    let t = c.args.fired.transition.index in
    elim c.if-index-len.branch [
      | then-index-len+in_ok-push w ↦
          let in' : t < length columns = omega (arith, w.if-index-len.true, c.len.ensures) in
          let was : w.index_mut.result.now ≡ get_or columns t [] = get_or_read columns t w.index_mut.result.now in' w.index_mut.ensures.value [] in
          rw (c.push_reserved.ensures.items, w.self-inside-is, c.in_ok-reserve.ensures.items, w.in_ok-push.ensures, was) (columns_more run columns c.args.fired c.self.invariant in')
      | else-index-len w ↦
          let out : length columns ≤ t = omega (arith, w.if-index-len.false, c.len.ensures) in
          rw (c.push_reserved.ensures.items, w.self-inside-is, c.in_ok-reserve.ensures.items) (columns_same run columns c.args.fired c.self.invariant out)
    ]
