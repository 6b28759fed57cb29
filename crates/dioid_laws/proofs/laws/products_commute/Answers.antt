use Rattle.dioid_laws.proofs.Commuting.{date_products_commute, flag_products_commute}
use Rattle.dioid_laws.proofs.CommutingGains.{gain_products_commute}
use Rattle.dioid_laws.proofs.laws.products_commute.Goals as goal

pub returns-clause-dates : goal.returns-clause-dates
returns-clause-dates c = λ a b _ _. date_products_commute a b

pub returns-clause-flags : goal.returns-clause-flags
returns-clause-flags c = λ a b _ _. flag_products_commute a b

pub returns-clause-series : goal.returns-clause-series
returns-clause-series c = gain_products_commute
