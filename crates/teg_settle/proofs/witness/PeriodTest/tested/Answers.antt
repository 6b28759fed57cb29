use Rattle.std.proofs.Common.{◌<◌, ap, arith}
use Rattle.teg_settle.proofs.witness.PeriodTest.tested.Goals as goal

pub returns-then-first-near : goal.returns-then-first-near
returns-then-first-near c = λ tests.
    let first = c.moved_past-first.result in
    let late : c.args.self.now.after < first = omega (arith, ap (λ t. t.after) c.self.view_is, c.max-near.ensures, c.if-first-near.true) in
    c.moved_past-first.ensures.first c.if-first-near.true (tests.moved first late c.moved_past-first.ensures.within)

pub returns-then-from-self : goal.returns-then-from-self
returns-then-from-self c = λ tests.
    let from = c.moved_past-from.result in
    let late : c.args.self.now.after < from = omega (arith, ap (λ t. t.after) c.self.view_is, c.if-from-self.true) in
    c.moved_past-from.ensures.first (omega arith) (tests.moved from late c.moved_past-from.ensures.within)

pub returns : goal.returns
returns c =
    let early = ap (λ t. t.after) c.self.view_is in
    record {
      tests = record {
        rising = rw c.in-None.is at c.first_fall.ensures;
        moved = λ k l m. c.moved_past-from.ensures.moved k (omega (arith, early, c.if-from-self.false)) m;
        alike = rw c.in-None-release_apart.is at c.release_apart.ensures;
      };
      early = omega (arith, early, c.if-from-self.false);
      moved = c.moved_past-from.ensures.moved;
      first = c.moved_past-from.ensures.first;
    }
