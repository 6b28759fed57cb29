use Rattle.teg_report.proofs.SeriesRead.{series_kept}
use Rattle.teg_report.proofs.series.calc.Goals as goal

pub returns-clause-kept : goal.returns-clause-kept
returns-clause-kept c = series_kept c.args.series.now c.values-values.ensures.series
