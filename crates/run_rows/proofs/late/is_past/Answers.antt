use Rattle.std.proofs.Common.{rules, arith}
use Rattle.std.specs.Prelude.{FitsSigned, ◌<ℤ◌}
use Rattle.std.specs.Int.{w128}
use Rattle.std.proofs.lemmas.Int.{ints, to_z-of_z}
use Rattle.run_rows.proofs.Ordered.{late_by_turns}
use Rattle.run_rows.proofs.late.is_past.Goals as goal

pub returns-in-Some-Some : goal.returns-in-Some-Some
returns-in-Some-Some c = λ yes.
    let both = c.in-Some-Some in
    let fits_token : FitsSigned w128 both.token = search rules in
    let fits_date : FitsSigned w128 both.date = search rules in
    let token_is = simp (to_z-of_z, c.ranges.token, c.ranges.token_step) at both.ensures in
    let date_is = simp (to_z-of_z, c.ranges.date, c.ranges.step) at both.ensures' in
    let late : both.date <ℤ both.token = omega (arith, ints, rw (to_z-of_z w128 both.date fits_date, to_z-of_z w128 both.token fits_token) at yes) in
    late_by_turns c.args.turns c.args.token_step c.args.step c.args.token c.args.date c.requires (omega (arith, ints, late, token_is, date_is))
