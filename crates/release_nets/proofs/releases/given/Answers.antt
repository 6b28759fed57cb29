use Rattle.std.proofs.Common.{◌+◌, ◌<◌, length, None, get_or, ◌∙◌, arith}
use Rattle.std.proofs.lemmas.List.{get_or_default}
use Rattle.delay_laws.specs.declared.table.Delay.{Delay}
use Rattle.release_nets.proofs.Releasing.{given_more}
use Rattle.release_nets.proofs.releases.given.Goals as goal

pub loop-delay-preserved : goal.loop-delay-preserved
loop-delay-preserved c =
    let old = c.loop-delay.invariant in
    let long = old.long in
    let longer = c.take_down.ensures.long in
    let ds = c.args.table.now.delays.items in
    let none : Delay = record { row = 0; transition = record { index = 0 }; number = 0; by = 0 } in
    let i = c.loop-delay.delay-index in
    let below : i < length ds = rw c.deref-delay-items.ensures.value at c.loop-delay-test.true in
    record {
      long = c.take_down.ensures.long ∙ old.long;
      each = λ s d lt.
          let within : s < length c.loop-delay.cells.items = omega arith in
          let inside : s < length c.take_down.new.cells.items = omega arith in
          get_or_default c.take_down.new.cells.items s d None inside
          ∙ (rw c.deref-delay-items.ensures.value at (c.take_down.ensures.each s within))
          ∙ given_more ds i c.args.transition (s + 1) none (get_or c.loop-delay.cells.items s None) below (old.each s None lt);
    }
