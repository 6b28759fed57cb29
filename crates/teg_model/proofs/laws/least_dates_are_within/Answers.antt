use Rattle.std.proofs.Common.{suc, length, arith}
use Rattle.teg_model.specs.Datings.{listed_releases}
use Rattle.teg_model.proofs.LiveRanks.{live_ranks}
use Rattle.teg_model.proofs.OfNet.{net_ends}
use Rattle.teg_model.proofs.NetBound.{least_keeps_bound}
use Rattle.teg_model.proofs.Tokens.{not_before_zero}
use Rattle.teg_model.proofs.laws.least_dates_are_within.Goals as goal

pub returns-clause-first : goal.returns-clause-first
returns-clause-first c = λ net x h t k l o. not_before_zero net (listed_releases net) x h.feasible t k l o

pub returns-clause-last : goal.returns-clause-last
returns-clause-last c = λ net ok live x h t k l o m.
    let ranks = live_ranks net (net_ends net ok) live in
    least_keeps_bound net x (suc (suc (length net.transitions))) ranks.0 ok (omega (arith, ok.few_transitions)) ranks.1 h t k l o m
