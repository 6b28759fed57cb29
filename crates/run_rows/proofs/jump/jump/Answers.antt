use Rattle.std.proofs.Common.{◌+◌, ◌≤◌, arith}
use Rattle.teg_check.proofs.Liveness.{ranking_is_live}
use Rattle.run_rows.proofs.GoneOn.{dated, earliest, is}
use Rattle.run_rows.proofs.Jumping.{ends, jump_is_roomy, jump_run}
use Rattle.run_rows.proofs.jump.jump.Goals as goal

pub lasting-requires : goal.lasting-requires
lasting-requires c =
    let of = c.args.ranked.now in
    let net = of.net.now in
    let ok = c.rules.ensures in
    let ranks = of.live.now in
    let made = c.in_ok-run.ensures in
    let goes = c.in-Some-turns_more.ensures in
    jump_is_roomy net ok (ranking_is_live net ranks of.stands) c.args.after c.args.rows.now c.requires.rows c.in_ok-run.run' made.last of.most c.in-Some-turns_more.turns
    of.one (rw made.turn c.in-Some.ensures.some) (rw made.turn c.in-Some.ensures.fits) of.tokens goes.more
    (earliest net ranks) (is net ok ranks of.stands) (dated net ok ranks of.stands) (omega (arith, goes.up_to, c.requires.number))

pub returns-in-Some-turns_more : goal.returns-in-Some-turns_more
returns-in-Some-turns_more c =
    let of = c.args.ranked.now in
    let net = of.net.now in
    let live = ranking_is_live net of.live.now of.stands in
    let made = c.in_ok-run.ensures in
    let some : 1 ≤ c.in_ok-run.run'.turn = rw made.turn c.in-Some.ensures.some in
    let fits : of.most + c.in_ok-run.run'.turn + c.in_ok-run.run'.turn ≤ c.args.rows.now.count = rw made.turn c.in-Some.ensures.fits in
    let goes = c.in-Some-turns_more.ensures in
    let last = ends net c.rules.ensures live c.args.after c.args.rows.now c.requires.rows c.in_ok-run.run' made.last of.most c.in-Some-turns_more.turns of.one some fits of.tokens goes.more in
    record {
      jump = rw c.lasting.ensures (jump_run net c.rules.ensures live c.args.after c.args.rows.now c.requires.rows c.in_ok-run.run' made.last of.most c.in-Some-turns_more.turns of.one some fits of.tokens goes.more);
      up_to = rw (c.lasting.ensures, last) goes.up_to;
    }
