use Rattle.std.proofs.Common.{◌≡◌, ◌<◌, Some, length, sym, ap, ◌∙◌}
use Rattle.std.proofs.lemmas.Bool.{iff_false}
use Rattle.std.proofs.lemmas.List.{get_or_read}
use Rattle.teg_net.specs.declared.answers.PartAnswer.TheVariants.{NoCircuit}
use Rattle.teg_net.specs.GreatestRatios.{ratio_in, ratio_at}
use Rattle.teg_certificates.proofs.NamedRatios.{first_told, none_greater, all_smaller}
use Rattle.teg_certificates.proofs.first_best.is_first.Goals as goal

pub returns-then-none_above : goal.returns-then-none_above
returns-then-none_above c =
    let answers = c.args.answers.now in
    let part = c.args.part in
    let r = c.in-Some.ratio in
    let l : part < length answers = c.if-answers-part.false in
    let read = get_or_read answers part c.index-answers-part.result l c.index-answers-part.is NoCircuit in
    let here : ratio_at answers part ≡ Some r = ap ratio_in (sym read) ∙ (sym c.ratio_of.ensures ∙ c.in-Some.is) in (
      λ t. first_told answers part r l here (c.none_above.ensures.0 c.if-none_above.true) (c.all_below.ensures.0 t),
      λ h. c.all_below.ensures.1 (all_smaller answers part r l here h),
    )

pub returns-else-none_above : goal.returns-else-none_above
returns-else-none_above c =
    let answers = c.args.answers.now in
    let part = c.args.part in
    let r = c.in-Some.ratio in
    let l : part < length answers = c.if-answers-part.false in
    let read = get_or_read answers part c.index-answers-part.result l c.index-answers-part.is NoCircuit in
    let here : ratio_at answers part ≡ Some r = ap ratio_in (sym read) ∙ (sym c.ratio_of.ensures ∙ c.in-Some.is) in (
      λ t. let f : ⊥ = cc in absurd f,
      λ h. absurd (iff_false c.none_above.ensures c.if-none_above.false (none_greater answers part r l here h)),
    )
