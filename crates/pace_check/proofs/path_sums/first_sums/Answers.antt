use Rattle.std.proofs.Common.{rules, ◌≡◌, None, length, replicate, ◌∙◌, ap}
use Rattle.pace_check.proofs.PathSums.{empty_path, none_summed, sums_more}
use Rattle.pace_check.proofs.path_sums.first_sums.Goals as goal

pub returns : goal.returns
returns c =
    let part = c.args.part.now in
    let net = part.net.now in
    let filled : c.in_ok-sums.sums.items ≡ replicate (length c.transitions.result.now) None = c.in_ok-sums.ensures.items_if_clones_equal (search rules) in
    let none = none_summed net part.part_of.now part.number part.ratio part.start c.in_ok-sums.sums.items (filled ∙ ap (λ z. replicate (length z) None) c.transitions.ensures.value) in
    sums_more net part.part_of.now part.number part.ratio part.start c.in_ok-sums.sums.items part.start _ c.requires
    (empty_path net part.part_of.now part.number part.ratio part.start) none
