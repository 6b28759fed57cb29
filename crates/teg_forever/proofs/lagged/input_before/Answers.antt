use Rattle.std.proofs.Common.{◌≡◌, ◌≤◌, true, rules, sym, subst, to_z, of_z, ◌∙◌}
use Rattle.std.specs.Int.{w128}
use Rattle.std.specs.Int.RustNames.{unsigned_abs}
use Rattle.std.proofs.lemmas.Int.{to_z-of_z}
use mir.Val.{SFits}
use Rattle.teg_net.specs.Limits.{greatest_hold}
use Rattle.teg_lags.specs.Lags.{AreLagged}
use Rattle.teg_due.specs.RowNames.{is_input}
use Rattle.teg_forever.proofs.LaggedReleases.{stands_next}
use Rattle.teg_forever.proofs.lagged.input_before.Goals as goal

pub returns-in-Some : goal.returns-in-Some
returns-in-Some c =
    let told : is_input c.args.net.now c.loop-index.index ≡ true = sym c.is_input.ensures.is ∙ c.if-is_input.true in
    let lag = c.in-Some.lag in
    let fits : SFits w128 lag = search rules in
    let known : to_z w128 (of_z w128 lag) ≡ lag = to_z-of_z w128 lag fits in
    record {
      other = c.loop-index.index;
      before = c.loop-index-test.true;
      input = c.if-is_input.ensures.input;
      stands = stands_next c.args.net.now c.loop-index.index c.args.input.index c.loop-index.place c.loop-index-test.true told c.loop-index.invariant.place;
      lagged = subst (AreLagged c.args.net.now c.loop-index.index c.args.input.index) (sym known) c.in-Some.ensures.lagged;
      small = subst (λ z. unsigned_abs z ≤ greatest_hold) (sym known) c.in-Some.ensures.small;
    }
