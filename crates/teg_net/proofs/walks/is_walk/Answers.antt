use Rattle.std.proofs.Common.{◌≡◌, Bool, true, false}
use Rattle.teg_net.proofs.WalkLaws.{IsWalk-start}
use Rattle.teg_net.proofs.walks.is_walk.Goals as goal

not_both : (b : Bool) → b ≡ false → b ≡ true → ⊥
not_both b f t = cc

pub returns-else-is_firing : goal.returns-else-is_firing
returns-else-is_firing c = (
  λ t. absurd (not_both c.is_firing.result c.if-is_firing.false t),
  λ h. c.is_firing.ensures.1 (h.start_in, h.number_in, IsWalk-start c.args.net.now c.args.walk.now h),
)
