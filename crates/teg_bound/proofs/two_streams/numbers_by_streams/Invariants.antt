use Rattle.teg_bound.proofs.TwoStreams.{enough_numbers}
use Rattle.teg_bound.proofs.two_streams.numbers_by_streams.Given as goal

abbrev pub ghost-first_return : goal.ghost-first_return
ghost-first_return a = enough_numbers a.net.now
