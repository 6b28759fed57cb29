use Rattle.std.proofs.Common.{arith}
use Rattle.teg_net.proofs.PathLaws.{IsPath-in_range}
use Rattle.teg_sizing.specs.TracedPaths.{no_id}
use Rattle.teg_sizing.proofs.loops.left_before.Goals as goal

pub start_of-from-requires : goal.start_of-from-requires
start_of-from-requires c = IsPath-in_range c.args.net.now c.args.places.now c.requires.path c.args.position no_id c.requires.position

pub start_of-requires : goal.start_of-requires
start_of-requires c = IsPath-in_range c.args.net.now c.args.places.now c.requires.path c.loop-before.before no_id (omega (arith, c.loop-before-test.true, c.requires.position))
