use Rattle.std.proofs.Common.{length, ap, arith}
use Rattle.teg_model.proofs.OfNet.{net_ends}
use Rattle.release_nets.proofs.planned.Planned.checked.Goals as goal

pub invariant_of-result : goal.invariant_of-result
invariant_of-result c =
    let many = ap length c.transitions-transitions.ensures.value in
    let wide = ap length c.places-places.ensures.value in
    record {
      kept = record {
        some_transition = c.transitions-transitions.ensures.rules.some_transition;
        ends = net_ends c.args.net.now c.transitions-transitions.ensures.rules;
        live = c.requires.live;
        some = c.requires.some;
        period_in = c.requires.period;
        table = c.requires.table;
        few = omega arith;
        fits = omega arith;
        workable = c.in_default.ensures.none;
      };
    }
