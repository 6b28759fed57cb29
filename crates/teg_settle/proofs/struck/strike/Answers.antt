use Rattle.std.proofs.Common.{◌∙◌, length, length-set, ap, arith}
use Rattle.std.proofs.lemmas.List.{get_or_read}
use Rattle.teg_settle.proofs.Striking.{moves_of, short_is_refuted, struck_more}
use Rattle.teg_settle.proofs.struck.strike.Goals as goal

pub common_lengths-requires-clause-moves : goal.common_lengths-requires-clause-moves
common_lengths-requires-clause-moves c =
    let some = c.requires.ready.some in
    moves_of c.args.asked.now.net.now c.args.asked.now.releases.now c.args.asked.now.most c.requires.ready c.args.rows.now c.requires.rows c.args.transition.index
    (omega (arith, c.if-transition-transitions.false, ap length c.transitions.ensures.value)) (omega (arith, c.requires.fits, c.requires.some))

pub overflow_add-index : goal.overflow_add-index
overflow_add-index c =
    let lengths = c.in_ok-lengths.ensures in
    let full = lengths.full in
    let within = c.loop-period-test.true in
    let read = get_or_read c.in_ok-lengths.lengths.items c.loop-period.period c.index.result.now (omega arith) c.index.ensures 0 in
    let prefix = rw (← read) at (lengths.each c.loop-period.period within) in
    omega (arith, prefix.within, c.requires.rows.few)

pub loop-period-preserved : goal.loop-period-preserved
loop-period-preserved c =
    let net = c.args.asked.now.net.now in
    let r = c.args.asked.now.releases.now in
    let most = c.args.asked.now.most in
    let rows = c.args.rows.now in
    let period = c.loop-period.period in
    let lengths = c.in_ok-lengths.ensures in
    let full = lengths.full in
    let within = c.loop-period-test.true in
    let read = get_or_read c.in_ok-lengths.lengths.items period c.index.result.now (omega arith) c.index.ensures 0 in
    let refuted = short_is_refuted net r most c.requires.ready rows c.requires.rows c.args.transition.index
    (omega (arith, c.if-transition-transitions.false, ap length c.transitions.ensures.value))
    period c.index.result.now c.loop-period.auto.period (omega (arith, c.requires.fits)) (rw (← read) at (lengths.each period within)) c.if-index-asked.false in
    record {
      count = length-set c.loop-period.struck period _ ∙ c.loop-period.invariant.count;
      struck = struck_more net r most rows.count period c.loop-period.struck c.loop-period.invariant.struck refuted;
    }
