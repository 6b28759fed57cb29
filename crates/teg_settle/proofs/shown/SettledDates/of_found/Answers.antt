use Rattle.std.proofs.Common.{arith}
use Rattle.teg_settle.proofs.Copying.{copy_kept}
use Rattle.teg_settle.proofs.Limiting.{found_told, found_form}
use Rattle.teg_settle.proofs.Showing.{shown_is_copy}
use Rattle.teg_settle.proofs.shown.SettledDates.of_found.Goals as goal

pub steps_of-requires : goal.steps_of-requires
steps_of-requires c = record { window = (found_told c.args.net.now c.args._releases.now c.args.found c.requires.found).1.window }

pub invariant_of-result : goal.invariant_of-result
invariant_of-result c =
    let net = c.args.net.now in
    let f = c.args.found in
    let made = c.in_ok-steps.ensures in
    let told = found_told net c.args._releases.now f c.requires.found in
    let copy = shown_is_copy net f.rows f.form c.in_ok-steps.steps.items told.1.window.width made.count made.each in
    record {
      kept = copy_kept net f.rows f.form _ told.0 c.steps_of.ensures.rules copy told.1;
      fits = omega (arith, told.1.fits);
    }

pub returns-clause-form : goal.returns-clause-form
returns-clause-form c =
    let net = c.args.net.now in
    let f = c.args.found in
    let made = c.in_ok-steps.ensures in
    let told = found_told net c.args._releases.now f c.requires.found in
    found_form net c.args._releases.now f c.requires.found _ (shown_is_copy net f.rows f.form c.in_ok-steps.steps.items told.1.window.width made.count made.each)
