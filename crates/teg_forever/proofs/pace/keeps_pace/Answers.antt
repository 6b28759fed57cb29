use Rattle.std.proofs.Common.{All, sym, subst}
use Rattle.endless_due.specs.declared.row.EndlessRow.{EndlessRow}
use Rattle.forever_laws.specs.PacedRows.{KeepsPace}
use Rattle.teg_forever.specs.Paces.{IsKept}
use Rattle.teg_forever.proofs.KeepingPace.{paced}
use Rattle.teg_forever.proofs.pace.keeps_pace.Goals as goal

pub returns-in-Some : goal.returns-in-Some
returns-in-Some c kept =
    let net = c.args.plain.now.net in
    let times = c.as_slice-told.result.now in
    let all = subst (λ (r : EndlessRow). All (IsKept r times) net.places) (sym c.row.ensures.value) (c.are_kept.ensures kept) in
    subst (KeepsPace net) c.row.ensures.value (paced net c.row.result.now times all _ c.in-Some.is)
