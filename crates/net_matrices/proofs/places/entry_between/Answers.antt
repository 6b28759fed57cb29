use Rattle.net_matrices.proofs.PlaceValues.{entry_told, list_rises, refused_for_memory}
use Rattle.net_matrices.proofs.places.entry_between.Goals as goal

pub from_list-requires-clause-rising : goal.from_list-requires-clause-rising
from_list-requires-clause-rising c =
    rw c.deref.ensures.value (list_rises c.args.net.now c.requires c.args.to c.args.from c.in_ok-values.values.items c.in_ok-values.ensures)

pub returns-in-Ok : goal.returns-in-Ok
returns-in-Ok c =
    let told = rw c.deref.ensures.value at c.in-Ok.ensures in
    entry_told c.args.net.now c.requires c.args.to c.args.from c.in_ok-values.values.items c.in_ok-values.ensures c.in-Ok.series told.0.canonical told.1

pub no_memory-requires : goal.no_memory-requires
no_memory-requires c =
    refused_for_memory c.args.net.now c.requires c.args.to c.args.from c.in_ok-values.values.items c.in_ok-values.ensures c.deref.result.now c.deref.ensures.value
    c.from_list.result c.in-Err.why c.in-Err.is c.from_list.ensures
