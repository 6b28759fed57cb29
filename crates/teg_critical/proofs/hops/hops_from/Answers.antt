use Rattle.std.proofs.Common.{◌≡◌, ◌<◌, Some, None, length, replicate, set, ap, subst, ◌∙◌, rules}
use Rattle.teg_critical.proofs.HopLaws.{hops_begin}
use Rattle.teg_critical.proofs.hops.hops_from.Goals as goal

pub further-init : goal.further-init
further-init c =
    let net = c.args.net.now in
    let filled : c.in_ok-hops.hops.items ≡ replicate (length c.transitions.result.now) None = c.in_ok-hops.ensures.items_if_clones_equal (search rules) in
    hops_begin net c.args.usable.now c.args.place c.in_ok-hops.hops.items _ (filled ∙ ap (λ z. replicate (length z) None) c.transitions.ensures.value)
    (subst (λ z. z < length net.transitions) c.end_of-first.ensures.end c.end_of-first.ensures.in_range)
    (ap (λ z. set c.in_ok-hops.hops.items z (Some (record { count = 0; last = c.args.place }))) c.end_of-first.ensures.end)
