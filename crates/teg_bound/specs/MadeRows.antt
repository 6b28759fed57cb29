-- Working definition of rows of the least dating that are made one after another.
use Rattle.std.specs.Prelude.{◌≡◌, length}
use Rattle.teg_net.specs.Nets.{NetLists}
use Rattle.date_rows.specs.Streams.{IsStreamOf}
use Rattle.teg_bound.specs.declared.made_rows.MadeRows.{MadeRows}

-- the stream stands for the net, and there is room for its next row
pub record AreMadeOf (net : NetLists) (rows : MadeRows) : Type 0 where
  pub stream : IsStreamOf net rows.stream
  pub full : length rows.row.items ≡ length net.transitions
