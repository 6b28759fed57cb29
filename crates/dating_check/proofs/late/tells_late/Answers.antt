use Rattle.dating_check.proofs.late.tells_late.Goals as goal

pub is_text_of-requires : goal.is_text_of-requires
is_text_of-requires c = record {
  transition = c.requires.transition;
  path = record { inside = c.requires.walk.is_walk.start_in; walks = c.requires.walk.is_walk.steps; numbers = c.requires.walk.is_walk.numbers };
}

pub returns : goal.returns
returns c = λ sure. (c.args.walk.now, c.requires.walk, c.in_ok-is_told.ensures sure)
