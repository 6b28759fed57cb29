-- What is told of an accepted firing.
use Rattle.std.specs.Prelude.{◌≡◌, List, [], ◌∷◌, ◌++◌}
use Rattle.teg_net.specs.Nets.{NetLists}
use Rattle.teg_outside.specs.declared.monitor.Firing.{Firing}
use Rattle.run_laws.specs.declared.fired.Fired.{Fired}
use Rattle.run_laws.specs.Runs.{next_number}
use Rattle.run_laws.specs.Earliest.{IsEarliest, tokens_after}

-- this is told of the firing f after the run
pub record IsFiringOf (net : NetLists) (run : List Fired) (f : Fired) (firing : Firing) : Type 0 where
  pub transition : firing.transition ≡ f.transition.index
  pub number : firing.number ≡ next_number run f.transition.index
  pub date : firing.date ≡ f.date
  pub earliest : IsEarliest net run f.transition.index (next_number run f.transition.index) firing.earliest
  pub tokens : firing.tokens ≡ tokens_after net (run ++ f ∷ [])
