use Rattle.law_examples.proofs.semirings.matrices_divide_on_the_right.Goals as goal

pub returns : goal.returns
returns g c = c.residuals_divide_on_the_right.ensures.squares c.requires.commute c.args.rows
