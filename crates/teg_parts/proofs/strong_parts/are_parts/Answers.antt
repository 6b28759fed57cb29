use Rattle.std.proofs.Common.{subst}
use Rattle.teg_parts.specs.Partitions.{AreParts}
use Rattle.teg_parts.proofs.OneParts.{one_parts}
use Rattle.teg_parts.proofs.strong_parts.are_parts.Goals as goal

pub returns : goal.returns
returns c =
    let net = c.args.net.now in
    let own = c.in_ok-own.own in
    let theirs = c.args.parts.now in
    let found : AreParts net own = c.in_ok-own.ensures in (
      λ t. subst (AreParts net) (c.is_same.ensures.0 t) found,
      λ h. c.is_same.ensures.1 (one_parts net own theirs found h),
    )
