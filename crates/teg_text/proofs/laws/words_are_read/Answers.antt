use Rattle.teg_text.proofs.Back.{number_back, date_back, time_back, tokens_back, label_back}
use Rattle.teg_text.proofs.laws.words_are_read.Goals as goal

pub returns-clause-numbers : goal.returns-clause-numbers
returns-clause-numbers c = number_back

pub returns-clause-dates : goal.returns-clause-dates
returns-clause-dates c = date_back

pub returns-clause-ratios : goal.returns-clause-ratios
returns-clause-ratios c time tokens h k = (time_back time tokens h, tokens_back time tokens k)

pub returns-clause-labels : goal.returns-clause-labels
returns-clause-labels c = label_back
