use Rattle.std.proofs.Common.{ℕ, ◌≡◌, get_or, refl, sym, ◌∙◌}
use Rattle.std.proofs.lemmas.List.{get_or_default}
use Rattle.teg_due.specs.declared.rows.DueRow.{DueRow}
use Rattle.teg_jit.specs.declared.due_numbers.Numbered.{Numbered}
use Rattle.teg_jit.specs.DueNumbers.{IsNumbered}
use Rattle.teg_due.proofs.DueOnce.{no_row}
use Rattle.teg_jit.proofs.DueNumbers.{no_numbered, take_more, all_taken}
use Rattle.teg_jit.proofs.due_numbers.take_dates.Goals as goal

pub loop-at-preserved : goal.loop-at-preserved
loop-at-preserved c =
    let rows = c.args.asked.now.rows.now in
    let order = c.args.asked.now.order.now in
    let i = c.loop-at.at-index in
    let l = c.loop-at-test.true in
    let h = c.loop-at.invariant.taken in
    let o : Numbered = get_or order i no_numbered in
    let known : IsNumbered rows o = c.requires.asked.order.known i no_numbered l in
    let r : DueRow = get_or rows o.index no_row in
    let k : ℕ = c.go_on.new.first.window.number in
    let number : k ≡ r.number = c.go_on.ensures.number in
    record {
      stands = c.go_on.ensures.stands;
      taken =
          take_more c.args.asked.now.net.now rows order c.loop-at.first.window.number k c.loop-at.cells c.go_on.new.cells c.loop-at.dates i
          (get_or c.go_on.new.cells r.transition.index 0) o c.requires.asked.order c.requires.asked.due h l
          (λ q. get_or_default order i q no_numbered l) (sym (known.number no_row) ∙ sym number) (c.go_on.auto.cells ∙ h.full)
          (rw number c.go_on.ensures.row) refl (λ d. get_or_default rows o.index d no_row known.in_range);
    }

pub returns : goal.returns
returns c = λ x least.
    let h = c.loop-at.invariant.taken in
    all_taken c.args.asked.now.net.now c.args.asked.now.rows.now c.args.asked.now.order.now c.loop-at.first.window.number c.loop-at.cells c.loop-at.dates c.loop-at.at-index
    c.requires.asked.order h c.loop-at-test.false x least
