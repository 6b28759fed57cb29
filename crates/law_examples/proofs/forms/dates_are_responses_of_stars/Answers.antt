use Rattle.teg_model.proofs.OfNet.{net_ends}
use Rattle.dioid_matrix.specs.Tables.{entry_of}
use Rattle.teg_settle.specs.periodic_laws.Equations.{gains}
use Rattle.law_examples.proofs.forms.dates_are_responses_of_stars.Goals as goal

pub returns : goal.returns
returns c =
    c.transfers_are_stars.ensures.outputs c.args.net.now (net_ends c.args.net.now c.rules.ensures) (c.ranked_nets_are_live.ensures c.args.net.now c.args.live.now c.requires.live)
    (entry_of gains c.args._matrix.now) c.requires.matrix.entries
