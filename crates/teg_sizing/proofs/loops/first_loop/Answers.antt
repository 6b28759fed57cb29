use Rattle.std.proofs.Common.{◌≡◌, length, arith}
use Rattle.std.proofs.lemmas.Result.{IfOk-weaker}
use Rattle.teg_sizing.specs.TracedPaths.{IsFirstLoop}
use Rattle.teg_sizing.proofs.Looping.{once_short, loop_found}
use Rattle.teg_sizing.proofs.loops.first_loop.Goals as goal

pub returns-in-Some : goal.returns-in-Some
returns-in-Some c =
    let net = c.args.net.now in
    let ps = c.args.places.now in
    let path = c.requires.path in
    let left = c.in-Some.ensures.some in
    let found = loop_found net ps path.0 path.1 c.in-Some.begin c.loop-end.end path.2 left.before_it c.loop-end-test.true left.same c.loop-end.invariant in
    IfOk-weaker c.from_slice.result _ (λ v. IsFirstLoop net ps v.items) (λ v is. rw is found) c.from_slice.ensures.items

pub unreachable-requires : goal.unreachable-requires
unreachable-requires c =
    let path = c.requires.path in
    let end : c.loop-end.end ≡ length c.args.places.now = omega (arith, c.loop-end-test.false, c.loop-end.auto.end-end) in
    let few = once_short c.args.net.now c.args.places.now path.0 path.1 c.requires.rules path.2 (λ k l. c.loop-end.invariant k (omega arith)) in
    absurd (omega (arith, few, c.requires.long))
