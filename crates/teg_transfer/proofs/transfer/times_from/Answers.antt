use Rattle.std.proofs.Common.{◌<◌, ◌∙◌, ℕ, List, All, length, sym, subst}
use Rattle.teg_net.specs.declared.entries.Role.TheVariants.{Output}
use Rattle.teg_net.specs.declared.entries.TransitionId.{TransitionId}
use Rattle.teg_transfer.proofs.Transferred.{those_within}
use Rattle.teg_transfer.proofs.transfer.times_from.Goals as goal

pub times_to_all-requires : goal.times_to_all-requires
times_to_all-requires c =
    let each = subst (λ (n : ℕ). All (λ t. t.index < n) c.as_slice.result.now) (sym (rw c.net.ensures.net at c.in_ok-settled.ensures.form).2.stands.sizes.rows_are)
    (subst (λ (ts : List TransitionId). All (λ t. t.index < length c.args.net.now.transitions) ts) (sym (c.as_slice.ensures.value ∙ c.requires.outputs)) (those_within c.args.net.now Output)) in
    each
