use Rattle.std.proofs.Common.{ℕ, ◌*◌, ◌≤◌, ◌≡◌, ap, arith}
use Rattle.std.specs.Prelude.{◌/◌}
use Rattle.std.proofs.Math.Nat.{le-div_iff_mul-le}
use Rattle.jump_laws.specs.Runs.{Run}
use Rattle.run_rows.proofs.jump.turns_more.Goals as goal

-- so many turns fit
turns_fit : (turns room turn : ℕ) → 1 ≤ turn → turns ≤ room / turn → turns * turn ≤ room
turns_fit turns room turn some l = (le-div_iff_mul-le some).0 l

pub returns-clause-more : goal.returns-clause-more
returns-clause-more c =
    let turn_is : c.run.inside.turn ≡ c.args.last.now.run.now.turn = ap (λ (r : Run). r.turn) c.run.view_is in
    let count_is = c.count-count.ensures.value in
    let far : c.args.last.now.of.most ≤ c.turns_left-turns.result * c.run.inside.turn = omega (arith, c.if-turns-lt2.false) in
    record {
      lists = rw (turn_is, count_is) at (c.lists_go_on.ensures c.if-not-lists_go_on.false);
      moves = λ t l. rw (turn_is, count_is) at (c.moves.ensures c.if-not-moves.false t l);
      left = c.turns_left-turns.ensures.in_time;
      some = omega (arith, c.if-turns-lt2.false);
      long = rw turn_is at far;
    }

pub returns-clause-up_to : goal.returns-clause-up_to
returns-clause-up_to c =
    let turn_is : c.run.inside.turn ≡ c.args.last.now.run.now.turn = ap (λ (r : Run). r.turn) c.run.view_is in
    let some : 1 ≤ c.run.inside.turn = rw turn_is c.args.last.now.some in
    let fits = turns_fit c.turns_left-turns.result _ c.run.inside.turn some c.turns_left-turns.ensures.within in
    omega (arith, rw turn_is at fits, c.count-count.ensures.value, c.requires)
