use Rattle.std.proofs.Common.{ap, sym, ◌∙◌}
use Rattle.toml.specs.View.{view}
use Rattle.teg_reader.specs.DocumentTrees.{as_number}
use Rattle.teg_reader.proofs.DateLemmas.{number_at_index}
use Rattle.teg_reader.proofs.input_lists.date_at.Goals as goal

pub returns-then-index-dates-clause-value : goal.returns-then-index-dates-clause-value
returns-then-index-dates-clause-value c =
    c.as_number.ensures.value ∙ (ap (λ v. as_number (view v)) c.index-dates-index.is ∙ sym (number_at_index c.args.dates.now c.args.index _ c.if-index-dates.true))
