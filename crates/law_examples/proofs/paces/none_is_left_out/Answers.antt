use Rattle.law_examples.proofs.paces.none_is_left_out.Goals as goal

pub returns : goal.returns
returns c moved v begun greatest =
    c.critical_parts_are_a_basis.ensures.left_out c.args.net.now c.args.parts.now.part_of c.args.part c.args.ratio.time c.args.ratio.tokens
    c.args.transition c.args.starts.now moved v c.requires.critical begun greatest
