use Rattle.std.proofs.Common.{arith}
use Rattle.teg_replay.proofs.Latest.{latest_by}
use Rattle.teg_replay.proofs.Waiting.{longest_there, all_latest, all_tokens, all_fails}
use Rattle.teg_replay.proofs.waits.tokens_there.Goals as goal

pub tokens_of-requires-clause-known : goal.tokens_of-requires-clause-known
tokens_of-requires-clause-known c = rw c.longest-longest.ensures (c.requires.ends.longest c.args.fired.transition.index c.requires.transition).known

pub tokens_of-requires-clause-right : goal.tokens_of-requires-clause-right
tokens_of-requires-clause-right c = rw c.longest-longest.ensures (c.requires.ends.longest c.args.fired.transition.index c.requires.transition).right

pub returns-in-Ok-clause-latest : goal.returns-in-Ok-clause-latest
returns-in-Ok-clause-latest c =
    rw c.next_number-number.ensures.number at
    (longest_there c.args.net.now c.args.history.now.run c.args.fired c.next_number-number.result c.longest-longest.result.now c.in-Ok.latest c.rules.ensures
    (rw c.longest-longest.ensures (c.requires.ends.longest c.args.fired.transition.index c.requires.transition)) (omega (arith, c.if-number-gt-MOST_TOKENS.true)) c.in-Ok.ensures.latest)

pub returns-in-Ok-clause-tokens : goal.returns-in-Ok-clause-tokens
returns-in-Ok-clause-tokens c =
    rw c.next_number-number.ensures.number at
    (latest_by c.args.net.now c.args.history.now.run c.args.fired.transition.index c.next_number-number.result c.in-Ok.latest c.args.fired.date c.in-Ok.ensures.latest.by
    (longest_there c.args.net.now c.args.history.now.run c.args.fired c.next_number-number.result c.longest-longest.result.now c.in-Ok.latest c.rules.ensures
    (rw c.longest-longest.ensures (c.requires.ends.longest c.args.fired.transition.index c.requires.transition)) (omega (arith, c.if-number-gt-MOST_TOKENS.true)) c.in-Ok.ensures.latest).enough)

pub tokens_of-requires-2-clause-known : goal.tokens_of-requires-2-clause-known
tokens_of-requires-2-clause-known c = rw c.entering.ensures (c.requires.ends.into.each c.args.fired.transition.index c.requires.transition).known

pub tokens_of-requires-2-clause-right : goal.tokens_of-requires-2-clause-right
tokens_of-requires-2-clause-right c = rw c.entering.ensures (c.requires.ends.into.each c.args.fired.transition.index c.requires.transition).right

pub returns-clause-latest : goal.returns-clause-latest
returns-clause-latest c =
    rw c.next_number-number.ensures.number at
    (all_latest c.args.net.now c.args.history.now.run c.args.fired c.next_number-number.result c.entering.result.now c.tokens_of-2.result
    (rw c.entering.ensures (c.requires.ends.into.each c.args.fired.transition.index c.requires.transition)) c.tokens_of-2.ensures.latest)

pub returns-clause-tokens : goal.returns-clause-tokens
returns-clause-tokens c =
    rw c.next_number-number.ensures.number at
    (all_tokens c.args.net.now c.args.history.now.run c.args.fired c.next_number-number.result c.entering.result.now c.tokens_of-2.result
    (rw c.entering.ensures (c.requires.ends.into.each c.args.fired.transition.index c.requires.transition)) c.tokens_of-2.ensures.latest)

pub returns-clause-fails : goal.returns-clause-fails
returns-clause-fails c =
    all_fails c.args.net.now c.args.history.now.run c.args.fired c.next_number-number.result c.entering.result.now c.tokens_of-2.result
    (rw c.entering.ensures (c.requires.ends.into.each c.args.fired.transition.index c.requires.transition)) c.next_number-number.ensures.number c.tokens_of-2.ensures.late
