use Rattle.law_examples.proofs.turns.turns_in_time.Goals as goal

pub returns : goal.returns
returns c token step turns =
    c.turns_are_read_off.ensures token step c.args.slack c.args.gain turns c.requires.gain
