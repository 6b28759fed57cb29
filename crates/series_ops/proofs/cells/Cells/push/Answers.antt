use Rattle.std.proofs.Common.{◌≡◌, ◌∙◌, ℤ, List, subst, arith, length, to_z, of_z}
use Rattle.std.specs.Int.{w128}
use Rattle.std.proofs.lemmas.Int.{to_z-of_z}
use Rattle.std.proofs.lemmas.Bool.Decides.{nat_tests}
use Rattle.series_ops.specs.Cells.{cell_of_date, IsJumpListed, IsLastUpTo}
use Rattle.series_ops.proofs.JumpLaws.{stairs_pushed}
use Rattle.series_ops.proofs.ShortLaws.{both_pushed, numbers_pushed, pushed_dates, always_ok}
use Rattle.series_ops.proofs.cells.Cells.push.Goals as goal

pub invariant_of-self-then-whole : goal.invariant_of-self-then-whole
invariant_of-self-then-whole c =
    let i = c.self.inside in
    let z : ℤ = to_z w128 (of_z w128 c.cell-number.result) in
    let is : z ≡ cell_of_date c.args.date = to_z-of_z w128 c.cell-number.result (record { sfits = c.cell-number.type_inv }) ∙ c.cell-number.ensures in
    let whole : length i.short.items ≡ length i.numbers.items = grind (arith, nat_tests, c.if-whole.true, c.len.ensures, c.len-2.ensures) in
    let both = both_pushed i.short.items c.push_short.new.list.items i.numbers.items c.push.new.self.items z c.args.date c.self.invariant.0 c.self.invariant.1
    c.in_ok-push.ensures.items is whole c.requires c.push_short.ensures in (
      both.0,
      both.1,
      stairs_pushed i.jumps.items c.push_jump.new.jumps.items i.rising c.rises_with-self-inside.result i.numbers.items c.push.new.self.items z
          c.self.invariant.2 c.push_jump.ensures.kept
          (subst (λ (l : List ℤ). IsJumpListed c.push_jump.new.jumps.items l z) c.as_slice.ensures.value c.in_ok-push_jump.ensures.more)
          c.rises_with-self-inside.ensures.before
          (λ e. subst (λ (l : List ℤ). IsLastUpTo l z) c.as_slice-2.ensures.value (c.rises_with-self-inside.ensures.next e))
          c.in_ok-push.ensures.items,
    )

pub returns-then-whole : goal.returns-then-whole
returns-then-whole c =
    let i = c.self.inside in
    let z : ℤ = to_z w128 (of_z w128 c.cell-number.result) in
    let is : z ≡ cell_of_date c.args.date = to_z-of_z w128 c.cell-number.result (record { sfits = c.cell-number.type_inv }) ∙ c.cell-number.ensures in
    always_ok c.push_short.result _ (λ _. pushed_dates i.numbers.items c.push.new.self.items c.args.self.now z c.args.date c.in_ok-push.ensures.items is c.requires c.self.view_is)

pub invariant_of-self-else-whole : goal.invariant_of-self-else-whole
invariant_of-self-else-whole c =
    let i = c.self.inside in
    let z : ℤ = to_z w128 (of_z w128 c.cell-number.result) in
    let is : z ≡ cell_of_date c.args.date = to_z-of_z w128 c.cell-number.result (record { sfits = c.cell-number.type_inv }) ∙ c.cell-number.ensures in
    let both = numbers_pushed i.short.items i.numbers.items c.push.new.self.items z c.args.date c.self.invariant.0 c.self.invariant.1 c.in_ok-push.ensures.items is c.requires in (
      both.0,
      both.1,
      stairs_pushed i.jumps.items c.push_jump.new.jumps.items i.rising c.rises_with-self-inside.result i.numbers.items c.push.new.self.items z
          c.self.invariant.2 c.push_jump.ensures.kept
          (subst (λ (l : List ℤ). IsJumpListed c.push_jump.new.jumps.items l z) c.as_slice.ensures.value c.in_ok-push_jump.ensures.more)
          c.rises_with-self-inside.ensures.before
          (λ e. subst (λ (l : List ℤ). IsLastUpTo l z) c.as_slice-2.ensures.value (c.rises_with-self-inside.ensures.next e))
          c.in_ok-push.ensures.items,
    )

pub returns : goal.returns
returns c =
    let i = c.self.inside in
    let z : ℤ = to_z w128 (of_z w128 c.cell-number.result) in
    let is : z ≡ cell_of_date c.args.date = to_z-of_z w128 c.cell-number.result (record { sfits = c.cell-number.type_inv }) ∙ c.cell-number.ensures in
    pushed_dates i.numbers.items c.push.new.self.items c.args.self.now z c.args.date c.in_ok-push.ensures.items is c.requires c.self.view_is
