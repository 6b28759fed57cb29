use Rattle.law_examples.proofs.forms.grows_by_ratio.Goals as goal

pub returns : goal.returns
returns c x least =
    c.dates_grow_by_cycle_time.ensures c.args.net.now c.args.ratio.time c.args.ratio.tokens c.requires.strong x least c.args.transition.index c.requires.transition
