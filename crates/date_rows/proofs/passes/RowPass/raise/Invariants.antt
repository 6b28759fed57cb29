use Rattle.std.proofs.Common.{map}
use Rattle.teg_model.specs.Systems.{IsLeastIn}
use Rattle.teg_model.specs.Datings.{system_with}
use Rattle.teg_model.proofs.DateFunctions.{Dating}
use Rattle.date_rows.proofs.Filling.{FilledTo}
use Rattle.date_rows.proofs.passes.RowPass.raise.Given as goal

-- of each least dating
abbrev pub invariant-loop-place : goal.invariant-loop-place
invariant-loop-place g l =
    let pass = l.self in
    let init = g.S.Source.initial pass.source in
    let rel = g.S.Source.release pass.source pass.net in
    (x : Dating) → IsLeastIn (system_with pass.net init rel) x → FilledTo pass.net init rel x pass.number pass.order (map g.C.DateCell.held l.row) l.place-index
