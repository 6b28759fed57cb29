-- The loop of `by_source`.
use Rattle.std.proofs.Common.{ℕ, ◌<◌, ◌≤◌, List, length, get_or}
use Rattle.std.specs.Prelude.{All, Contains}
use Rattle.teg_net.specs.Nets.{NetLists}
use Rattle.teg_net.specs.Circuits.{no_place}
use Rattle.teg_form.specs.declared.order.Marked.{Marked}
use Rattle.teg_form.specs.KeyOrder.{IsMarkedPlace, marked_at}

pub record OrderUpTo (net : NetLists) (order : List Marked) (i : ℕ) : Type 0 where
  pub few : length order ≤ i
  pub known : All (IsMarkedPlace net) order
  pub all : (k : ℕ) → k < i → 1 ≤ (get_or net.places k no_place).tokens → Contains order (marked_at net k)
