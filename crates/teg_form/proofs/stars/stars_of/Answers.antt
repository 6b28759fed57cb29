use Rattle.std.proofs.Common.{◌≡◌, ◌*◌, ◌<◌, length, rules, arith}
use Rattle.teg_form.proofs.StarEntries.{stars_same, stars_more, stars_are}
use Rattle.teg_form.proofs.stars.stars_of.Goals as goal
use Rattle.teg_form.proofs.stars.stars_of.Goals.{in-Some+in_ok-push, in_default}

pub loop-pair-preserved : goal.loop-pair-preserved
loop-pair-preserved c =
    let net = c.args.net.now in
    let some : 0 < length net.transitions = omega (arith, c.transitions-count.ensures.rules.some_transition) in
    let count = c.transitions-count.ensures.value in
    elim c.match-star_entry.branch [
      | in-Some+in_ok-push w ↦ rw (w.stars-is, w.in_ok-push.ensures.items)
          (stars_more net c.loop-pair.stars.items c.loop-pair.pair w.in-Some.entry some c.loop-pair.invariant w.in-Some.ensures.entry
          (rw count at w.in-Some.ensures.to) (rw count at w.in-Some.ensures.from))
      | in_default w ↦ rw w.stars-is (stars_same net c.loop-pair.stars.items c.loop-pair.pair some c.loop-pair.invariant (rw count at w.in_default.ensures.none))
    ]

pub returns : goal.returns
returns c =
    let net = c.args.net.now in
    let end : c.loop-pair.pair ≡ length net.transitions * length net.transitions =
    rw (← c.transitions-count.ensures.value) (let e : c.loop-pair.pair ≡ length c.transitions-count.result.now * length
    c.transitions-count.result.now = search rules in e) in
    stars_are net c.loop-pair.stars.items c.transitions-count.ensures.rules (rw end at c.loop-pair.invariant)
