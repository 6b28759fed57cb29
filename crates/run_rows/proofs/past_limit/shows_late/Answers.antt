use Rattle.std.proofs.Common.{◌-◌, ◌≡◌, ap, subst, arith}
use Rattle.std.specs.Prelude.{All}
use Rattle.jump_laws.specs.Runs.{Run}
use Rattle.run_rows.specs.TurnsLeft.{IsPlaceInTime}
use Rattle.run_rows.proofs.PastLimit.{past_limit}
use Rattle.run_rows.proofs.past_limit.shows_late.Goals as goal

pub returns-then-run-ranked : goal.returns-then-run-ranked
returns-then-run-ranked c = λ yes.
    let of = c.args.ranked.now in
    let run = c.args.run.now in
    let w = c.requires.jump.window in
    let turns_is : c.run.inside.turns ≡ run.turns = ap (λ (r : Run). r.turns) c.run.view_is in
    let turn_is : c.run.inside.turn ≡ run.turn = ap (λ (r : Run). r.turn) c.run.view_is in
    let far = rw (turns_is, turn_is) at c.if-run-ranked.true in
    let late = rw turns_is at (c.late_place.ensures yes) in
    past_limit of.net.now c.rules.ensures of.live.now of.stands of.most of.one of.tokens c.args.after c.args.rows.now c.requires.rows run (run.turns - 1) w c.args.limit
    (subst (λ z. All (IsPlaceInTime z c.args.after c.args.rows.now run) of.net.now.places → ⊥) w.more late) (omega (arith, far, w.fits))
