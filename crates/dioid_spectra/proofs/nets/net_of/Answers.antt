use Rattle.std.proofs.Common.{◌∙◌}
use Rattle.std.specs.Int.{w128}
use Rattle.std.proofs.lemmas.Int.{to_z-of_z}
use Rattle.teg_net.specs.Nets.{lists_of}
use Rattle.dioid_spectra.proofs.nets.net_of.Goals as goal

pub returns-in-Err-clause-refused : goal.returns-in-Err-clause-refused
returns-in-Err-clause-refused c = record {
  low = c.args.low;
  net = lists_of c.in_ok-transitions.transitions.items c.in_ok-places.places.items c.new.result.items;
  is = record {
    width = c.in_ok-transitions.ensures ∙ c.rows.ensures.value;
    lowest = c.requires;
    places = rw (to_z-of_z w128 c.args.low c.ranges.low) at c.in_ok-places.ensures.places;
  };
  fault = c.in-Err.ensures.fault;
}
