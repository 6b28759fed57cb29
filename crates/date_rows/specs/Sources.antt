-- The system that a source makes of a net.
use Rattle.teg_net.specs.Nets.{NetLists}
use Rattle.teg_model.specs.Systems.{System}
use Rattle.teg_model.specs.Datings.{system_with}
use Rattle.date_rows.specs.declared.sources.Source.{Ghosts as SourceOf}

-- the net's places and the implicit ones, with the source's dates of initial tokens and its releases
abbrev pub system_by : {S : Type 0} → SourceOf S → S → NetLists → System
system_by d source net = system_with net (d.initial source) (d.release source net)
