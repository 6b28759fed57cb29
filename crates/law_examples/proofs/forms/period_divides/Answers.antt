use Rattle.law_examples.proofs.forms.period_divides.Goals as goal

pub returns : goal.returns
returns c =
    let f = c.requires.form in
    c.periods_divide_by_parts.ensures.periods c.args.net.now c.args.ratio.time c.args.ratio.tokens c.requires.strong f.0 f.1 c.args.form.now f.2 c.args.multiple c.requires.some c.requires.common
