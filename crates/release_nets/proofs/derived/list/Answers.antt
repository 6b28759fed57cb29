use Rattle.std.proofs.Common.{ℕ, ◌+◌, length, Some, refl, sym, ap, subst}
use Rattle.teg_net.specs.declared.entries.InputList.{InputList}
use Rattle.release_nets.specs.ReleaseNetsBuilt.{ArePlannedReleases}
use Rattle.release_nets.proofs.DerivedNet.{list_made}
use Rattle.release_nets.proofs.derived.list.Goals as goal

pub returns : goal.returns
returns c =
    let p = c.args.planned.now in
    let count = ap length c.transitions-count.ensures.value in
    let at : ℕ = length c.transitions-count.result.now + c.args.transition in
    let l : InputList = record { transition = record { index = at }; dates = c.new.result; again = Some (record { every = 1; gap = p.period }) } in
    let last = c.number_past-last in
    let dates = subst (ArePlannedReleases p.period p.table.now c.args.transition last.result) (sym c.new.ensures) c.in_ok-dates.ensures in
    list_made p.period p.table.now (length p.net.now.transitions) c.args.transition last.result l (ap (λ (n : ℕ). n + c.args.transition) count) refl
    last.ensures.some last.ensures.few last.ensures.past dates
