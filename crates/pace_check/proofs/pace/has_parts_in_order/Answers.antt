use Rattle.std.proofs.Common.{List, sym, ◌∙◌, subst, ℕ}
use Rattle.teg_parts.specs.Partitions.{AreParts}
use Rattle.pace_check.proofs.pace.has_parts_in_order.Goals as goal

pub returns : goal.returns
returns c = λ yes. (
  c.in_ok-parts.parts.inner,
  subst (λ (ns : List ℕ). AreParts c.args.net.now (record { part_of = ns; inner = c.in_ok-parts.parts.inner }))
      (sym (c.has_numbers-same.ensures.numbers yes ∙ c.deref.ensures.value ∙ c.in_ok-numbers.ensures)) c.in_ok-parts.ensures,
  c.has_numbers-same.ensures.count yes ∙ c.count.ensures.value,
)
