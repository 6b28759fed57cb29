use Rattle.std.proofs.Common.{◌≡◌, ◌≤◌, [], arith, length}
use Rattle.forever_laws.specs.settled_laws.SettledForms.{row_of, settled_length}
use Rattle.teg_forever.specs.Alike.{told_form}
use Rattle.teg_forever.specs.LatestReleases.{longest_form}
use Rattle.teg_forever.proofs.Series.{walk_made, walk_fits}
use Rattle.teg_forever.proofs.gains.walk_gain.Goals as goal

pub told_series-requires-clause-transition : goal.told_series-requires-clause-transition
told_series-requires-clause-transition c =
    let rows = c.settled.ensures.asked.transfer.2.stands.sizes.rows_are in
    rw c.settled.ensures.value (omega (arith, c.requires))

pub told_series-requires-clause-some : goal.told_series-requires-clause-some
told_series-requires-clause-some c =
    let a = c.args.asked.now in
    let h = c.settled.ensures.asked in
    rw c.settled.ensures.value (c.forms_are_series.ensures.walks a.net a.input.index a.settled h.transfer c.args.transition.index c.requires).some

pub told_series-requires-clause-fits : goal.told_series-requires-clause-fits
told_series-requires-clause-fits c =
    let a = c.args.asked.now in
    let h = c.settled.ensures.asked in
    rw c.settled.ensures.value (c.forms_are_series.ensures.walks a.net a.input.index a.settled h.transfer c.args.transition.index c.requires).fits

pub told_series-requires-clause-rising : goal.told_series-requires-clause-rising
told_series-requires-clause-rising c =
    let a = c.args.asked.now in
    let h = c.settled.ensures.asked in
    rw c.settled.ensures.value (c.forms_are_series.ensures.walks a.net a.input.index a.settled h.transfer c.args.transition.index c.requires).rising

pub gain_of-requires : goal.gain_of-requires
gain_of-requires c =
    let a = c.args.asked.now in
    let h = c.settled.ensures.asked in
    let f = a.settled in
    let t = c.args.transition.index in
    let sizes = h.transfer.2.stands.sizes in
    let rows = sizes.rows_are in
    let long : length (row_of f t) ≡ settled_length f = sizes.full t [] (omega (arith, c.requires)) in
    let few : settled_length f ≤ longest_form = h.short in
    walk_fits a.net a.input.index t (told_form f t) (length (row_of f t)) c.told_series.result (omega arith)
    (c.series_fit.ensures.walks a.net h.rules h.is_live a.input.index h.input f h.transfer h.short t c.requires)
    (c.forms_are_series.ensures.walks a.net a.input.index f h.transfer t c.requires).each
    (rw c.settled.ensures.value at c.told_series.ensures)

pub returns : goal.returns
returns c =
    let a = c.args.asked.now in
    let h = c.settled.ensures.asked in
    let f = a.settled in
    let t = c.args.transition.index in
    walk_made a.net a.input.index t (told_form f t) (length (row_of f t)) c.told_series.result c.gain_of.result
    (c.forms_are_series.ensures.walks a.net a.input.index f h.transfer t c.requires).each
    (rw c.settled.ensures.value at c.told_series.ensures) c.gain_of.ensures
