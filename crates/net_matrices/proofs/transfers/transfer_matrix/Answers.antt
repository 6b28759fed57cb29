use Rattle.teg_settle.proofs.teg_model_proofs.OfNet.{net_ends}
use Rattle.net_matrices.proofs.TransferTables.{star_transfers}
use Rattle.net_matrices.proofs.transfers.transfer_matrix.Goals as goal

pub returns-clause-transfers : goal.returns-clause-transfers
returns-clause-transfers c =
    let ok = rw c.net-net.ensures.net at c.rules.ensures in
    let is = rw c.net-net.ensures.net at c.in_ok-matrix.ensures in
    star_transfers c.transfers_are_stars.ensures.walks c.args.held.now (net_ends c.args.held.now ok) c.net-net.ensures.live c.in_ok-matrix.matrix is c.star.result c.star.ensures.answer
