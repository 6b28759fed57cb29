use Rattle.teg_model.specs.Datings.{listed_releases}
use Rattle.law_examples.proofs.endless.row_is_kept.Goals as goal

pub returns : goal.returns
returns c x periods rounds least stands turn =
    c.windows_tell_kept.ensures.windows c.args.net.now (listed_releases c.args.net.now) x least.feasible c.args.form.now stands
    c.args.row.now c.requires.row c.args.past c.args.turn periods rounds turn
