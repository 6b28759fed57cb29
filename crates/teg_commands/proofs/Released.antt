-- Where endless due dates are refused, the refusal names a transition of the net.
use Rattle.std.proofs.Common.{◌<◌, ℕ, List, length, subst}
use Rattle.std.proofs.lemmas.List.Elements.{All-get_or}
use Rattle.std.proofs.lemmas.Option.{get_or_from_slice_get, slice_get_within}
use Rattle.endless_due.specs.declared.row.EndlessRow.{EndlessRow}
use Rattle.endless_due.specs.EndlessRows.{IsEndlessOf, IsEndlessRow}
use Rattle.teg_forever.specs.declared.releases.ForeverRefusal.{ForeverRefusal}
use Rattle.teg_forever.specs.declared.releases.ForeverRefusal.TheVariants.{Late, TooLong, TooWide, OutOfMemory}
use Rattle.teg_forever.specs.LatestReleases.{ForeverRefused}
use Rattle.teg_forever.specs.EndlessTexts.{IsRefusalIn}
use Rattle.teg_net.specs.Nets.{NetLists}
use Rattle.teg_outcome.specs.declared.outcome.Verdict.{Verdict}
use Rattle.teg_commands.specs.Forever.{EndsUnreleased}
use Rattle.teg_settle.proofs.walk_times_proofs.Walking.{input_within}

pub refusal_in : (net : NetLists) (rows : List EndlessRow) → IsEndlessOf net rows → (refusal : ForeverRefusal) (verdict : Verdict) → EndsUnreleased refusal verdict →
    ForeverRefused net rows refusal → IsRefusalIn net refusal
refusal_in net rows of (Late t number due least) verdict ends refused =
    let r = refused.row in
    let at = refused.first.index in
    let is = refused.first.is_row in
    let kept = subst (IsEndlessRow net) (get_or_from_slice_get rows at r r is) (All-get_or (IsEndlessRow net) rows at r (slice_get_within rows at r is) of.each) in
    subst (λ (i : ℕ). i < length net.transitions) refused.transition kept.in_range
refusal_in net rows of (TooLong input) verdict ends refused = input_within net input.index refused.input
refusal_in net rows of (TooWide input row) verdict ends refused = input_within net input.index refused.input
refusal_in net rows of OutOfMemory verdict ends refused = absurd ends
