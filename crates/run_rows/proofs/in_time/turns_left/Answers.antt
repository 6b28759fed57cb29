use Rattle.std.proofs.Common.{arith}
use Rattle.run_rows.proofs.Ordered.{fewer_way}
use Rattle.run_rows.proofs.in_time.turns_left.Goals as goal

pub returns-clause-in_time : goal.returns-clause-in_time
returns-clause-in_time c =
    let places = c.turns_of_places-turns.ensures in
    let transitions = c.turns_of_transitions-turns.ensures in
    let inputs = c.turns_of_inputs.ensures in
    record {
      places = λ i d l. fewer_way _ _ _ _ _ _ _ _ _ (omega (arith, transitions.within, inputs.within)) (places.in_time i d l);
      implicit = λ t l. fewer_way _ _ _ _ _ _ _ _ _ inputs.within (transitions.in_time t l);
      inputs = inputs.in_time;
    }
