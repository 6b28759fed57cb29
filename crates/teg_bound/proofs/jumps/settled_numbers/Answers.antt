use Rattle.teg_bound.proofs.jumps.settled_numbers.Goals as goal

pub numbers_by_jumps-requires-clause-part : goal.numbers_by_jumps-requires-clause-part
numbers_by_jumps-requires-clause-part c = record { alone = c.requires.alone; strong = c.requires.strong }
