use Rattle.dating_check.proofs.made_rows.pass_number.Goals as goal

pub returns-clause-made : goal.returns-clause-made
returns-clause-made c = λ rows y latest h. c.pass_places.ensures.made rows y latest (c.pass_next.ensures.made rows y latest h)
