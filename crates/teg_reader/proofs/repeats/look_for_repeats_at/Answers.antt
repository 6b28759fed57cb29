use Rattle.std.proofs.Common.{◌≡◌, ◌+◌, arith}
use Rattle.teg_reader.specs.Repeats.{repeated_at}
use Rattle.teg_reader.proofs.RepeatLemmas.{seen_more, rest_more, repeated_here}
use Rattle.teg_reader.proofs.repeats.look_for_repeats_at.Goals as goal

pub loop-index-preserved : goal.loop-index-preserved
loop-index-preserved c = record {
  seen = seen_more c.args.key c.args.entries.now c.loop-index.index c.index-entries-index.result c.loop-index.texts c.insert.new.self c.text_at.result
      c.loop-index-test.true c.index-entries-index.is c.text_at.ensures c.in_ok-insert.ensures.updates c.loop-index.invariant.seen;
  rest = rest_more c.args.section c.args.key c.args.entries.now c.loop-index.index c.index-entries-index.result c.loop-index.texts c.text_at.result c.in_ok-insert.field-0 _
      c.loop-index-test.true c.index-entries-index.is c.text_at.ensures c.in_ok-insert.ensures.added c.if-not-branch.false c.loop-index.invariant.seen c.loop-index.invariant.rest;
}

pub returns-then-not-branch : goal.returns-then-not-branch
unfolding repeated_at
returns-then-not-branch c = λ free.
    let position : c.in-Ok.position ≡ c.loop-index.index + 1 = grind (arith, c.in-Ok.ensures, c.saturating_add.ensures) in
    rw position
    (repeated_here c.args.section c.args.key c.args.entries.now c.loop-index.index c.index-entries-index.result c.loop-index.texts c.text_at.result c.in_ok-insert.field-0 _
    c.loop-index-test.true c.index-entries-index.is c.text_at.ensures c.in_ok-insert.ensures.added c.if-not-branch.true c.loop-index.invariant.seen c.loop-index.invariant.rest)
