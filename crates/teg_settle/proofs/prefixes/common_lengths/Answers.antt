use Rattle.std.proofs.Common.{◌-◌, get_or, arith}
use Rattle.teg_settle.specs.Prefixes.{move_back}
use Rattle.teg_settle.proofs.Striking.{first_length, length_more, known_agree}
use Rattle.teg_settle.proofs.prefixes.common_lengths.Goals as goal

pub loop-at-init : goal.loop-at-init
loop-at-init c = record {
  lengths = rw (c.in_ok-push.ensures.items, c.new-lengths.ensures.items, c.count.ensures.value)
      (first_length (move_back c.args.rows.now c.args.transition.index) (c.args.rows.now.count - 1));
  before = omega arith;
  later = λ l. absurd (omega arith);
  within = omega (arith, c.requires.moves.some);
  window = λ j l. absurd (omega arith);
}

pub common_from-length-requires-clause-known : goal.common_from-length-requires-clause-known
common_from-length-requires-clause-known c =
    let at = c.loop-at.at in
    let h = c.loop-at.invariant in
    let low = h.before in
    known_agree (move_back c.args.rows.now c.args.transition.index) (c.args.rows.now.count - 1) c.loop-at.from c.loop-at.end at
    (get_or c.loop-at.lengths.items (at - c.loop-at.from) 0) c.known_length-known.result (omega arith) h.window
    (λ l. let one = h.later l in h.lengths.each (at - c.loop-at.from) (omega arith))
    c.known_length-known.ensures.within (rw c.deref.ensures.value at c.known_length-known.ensures.known)

pub loop-at-preserved-then-at-length : goal.loop-at-preserved-then-at-length
loop-at-preserved-then-at-length c =
    let h = c.loop-at.invariant in
    record {
      lengths = rw c.in_ok-push-2.ensures.items
          (length_more (move_back c.args.rows.now c.args.transition.index) (c.args.rows.now.count - 1) c.loop-at.at c.common_from-length.result c.loop-at.lengths.items
          h.lengths c.common_from-length.ensures);
      before = omega (arith, h.before);
      later = λ l. h.later (omega arith);
      within = h.within;
      window = h.window;
    }

pub loop-at-preserved : goal.loop-at-preserved
loop-at-preserved c =
    let h = c.loop-at.invariant in
    let new = c.common_from-length.ensures in
    let most = new.within in
    let some = c.requires.moves.some in
    record {
      lengths = rw c.in_ok-push-2.ensures.items
          (length_more (move_back c.args.rows.now c.args.transition.index) (c.args.rows.now.count - 1) c.loop-at.at c.common_from-length.result c.loop-at.lengths.items
          h.lengths new);
      before = omega arith;
      later = λ l. omega (arith, c.loop-at.auto.at);
      within = omega arith;
      window = λ j l. new.same j (omega arith);
    }
